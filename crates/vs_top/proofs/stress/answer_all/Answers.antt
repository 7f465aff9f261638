use Rattle.std.proofs.Common.{◌≡◌, ◌+◌, true, List, [], refl, sym, subst, arith}
use Rattle.vs_excmd.specs.Request.{Instruction}
use Rattle.vs_machine.specs.declared.command.Mark.{Mark}
use Rattle.vs_stress.specs.Commands.{generated, generated_to, preserves}
use Rattle.vs_top.specs.Stress.{IsSceneOf}
use Rattle.vs_top.specs.StressTurns.{IsStressTurn}
use Rattle.vs_top.proofs.StressCommands.{answered_all, first_stress, goes_on, last_goes_on, last_writes_nothing, next_commands, stopped_last, stops_as, stops_here, writes_nothing}
use Rattle.vs_top.proofs.stress.answer_all.Goals as goal

pub commands-init : goal.commands-init
commands-init g c = record {
  turn = λ old at. subst (λ (l : List Mark). IsStressTurn (IsSceneOf g.H.World.scene) g.H.World.tells old (g.H.World.scene c.args.host.now) c.args.session.now l true []) (sym c.requires.marks) at;
  room = c.requires.generation;
  undo = c.requires.undo;
  fits = c.requires.fits;
  clock = λ told. omega arith;
}

pub returns-in_err-request-clause-err : goal.returns-in_err-request-clause-err
returns-in_err-request-clause-err g c =
    stops_as _ c.from_residual.result _ c.from_residual.ensures.1 refl
    (λ old at.
    let first = first_stress c.commands.number c.args.count (omega arith) in
    record { commands = generated_to c.commands.number; rest = first.0; first = first.1; clean = c.commands.clean; turn = c.commands.invariant.turn old at })

pub answer-requires-clause-goes_on : goal.answer-requires-clause-goes_on
answer-requires-clause-goes_on g c = goes_on _ c.in_ok-request.request c.in_ok-request.ensures.request

pub answer-requires-clause-plain : goal.answer-requires-clause-plain
answer-requires-clause-plain g c = writes_nothing _ c.in_ok-request.request c.in_ok-request.ensures.request

pub returns-in_err-clean-clause-err : goal.returns-in_err-clean-clause-err
returns-in_err-clean-clause-err g c =
    stops_as _ c.from_residual-in_err-clean.result _ c.from_residual-in_err-clean.ensures.1 c.in_err-clean.ensures.err.0
    (λ old at.
    let first = first_stress c.commands.number c.args.count (omega arith) in
    stops_here (IsSceneOf g.H.World.scene) g.H.World.tells c.args.count old (g.H.World.scene c.commands.host) (g.H.World.scene c.answer.new.host) c.commands.session c.answer.new.session c.commands.marks.items c.answer.new.marks.items c.commands.clean (generated_to c.commands.number) first.0 first.1
    c.in_err-clean.ensures.err.1 c.in_err-clean.ensures.err.2 c.in_err-clean.ensures.err.3 (c.commands.invariant.turn old at))

pub returns-in_err-clean-clause-fits : goal.returns-in_err-clean-clause-fits
returns-in_err-clean-clause-fits g c = λ told. c.answer.ensures.fits told (generated (c.commands.number + 1)) c.in_ok-request.ensures.request

pub commands-preserved : goal.commands-preserved
commands-preserved g c = record {
  turn = λ old at. subst (λ (l : List Instruction). IsStressTurn (IsSceneOf g.H.World.scene) g.H.World.tells old (g.H.World.scene c.answer.new.host) c.answer.new.session c.answer.new.marks.items c.in_ok-clean.clean l) (next_commands c.commands.number)
      (c.in_ok-clean.ensures.ok old (generated_to c.commands.number) (generated (c.commands.number + 1)) c.in_ok-request.ensures.request (c.commands.invariant.turn old at));
  room = omega (arith, c.answer.ensures.room, c.commands.invariant.room);
  undo = c.answer.ensures.undo;
  fits = λ told. c.answer.ensures.fits told (generated (c.commands.number + 1)) c.in_ok-request.ensures.request;
  clock = λ told. omega (arith, c.answer.ensures.clock told, c.commands.invariant.clock told);
}

pub answer-requires-2-clause-goes_on : goal.answer-requires-2-clause-goes_on
answer-requires-2-clause-goes_on g c = last_goes_on c.preserve.result c.preserve.ensures.request

pub answer-requires-2-clause-plain : goal.answer-requires-2-clause-plain
answer-requires-2-clause-plain g c = last_writes_nothing c.preserve.result c.preserve.ensures.request

pub returns-clause-fits : goal.returns-clause-fits
returns-clause-fits g c = λ told. c.answer-2.ensures.fits told preserves c.preserve.ensures.request

pub returns-clause-ok : goal.returns-clause-ok
returns-clause-ok g c =
    let all : c.commands.number ≡ c.args.count = omega arith in
    answered_all (IsSceneOf g.H.World.scene) g.H.World.tells c.args.count (g.H.World.scene c.args.host.now) (g.H.World.scene c.commands.host) (g.H.World.scene c.answer-2.new.host) c.args.session.now c.commands.session c.answer-2.new.session c.commands.marks.items c.answer-2.new.marks.items c.commands.clean c.commands.number all c.preserve.result c.preserve.ensures.request c.commands.invariant.turn
    c.answer-2.result c.answer-2.ensures.ok

pub returns-clause-err : goal.returns-clause-err
returns-clause-err g c =
    let all : c.commands.number ≡ c.args.count = omega arith in
    stopped_last (IsSceneOf g.H.World.scene) g.H.World.tells c.args.count (g.H.World.scene c.args.host.now) (g.H.World.scene c.commands.host) (g.H.World.scene c.answer-2.new.host) c.args.session.now c.commands.session c.answer-2.new.session c.commands.marks.items c.answer-2.new.marks.items c.commands.clean c.commands.number all c.commands.invariant.turn c.answer-2.result
    c.answer-2.ensures.err
