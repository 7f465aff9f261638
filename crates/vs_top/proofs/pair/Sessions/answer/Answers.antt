use Rattle.std.proofs.Common.{◌≡◌, ◌∙◌, ◌+◌, Bool, ◌&&◌, List, [], ◌∷◌, ◌++◌, inr, refl, ap, sym, subst, arith}
use Rattle.std.specs.Prelude.{IsErr, MatchResult}
use Rattle.vs_host.specs.World.{Scene}
use Rattle.vs_machine.specs.declared.command.Mark.{Mark}
use Rattle.vs_multi.specs.Multi.{session_of}
use Rattle.vs_session.specs.declared.session.Step.TheVariants as step
use Rattle.vs_top.specs.Tags.{tagged_for}
use Rattle.vs_top.specs.PairPromise.{EndsPair, HasRunBoth}
use Rattle.vs_top.specs.PairTurns.{HasCommand, KeepsPair, sessions_ended}
use Rattle.vs_top.specs.declared.ending.Ending.TheVariants as ending
use Rattle.vs_top.specs.declared.pair.Sessions.{Sessions}
use Rattle.vs_top.proofs.PairAnswers.{stopped_both}
use Rattle.vs_top.proofs.PairCalls.{answer_keeps, answer_told, by_err, quit_asks, quit_here, quit_keeps, room_of, undo_of, usable_puts}
use Rattle.vs_top.proofs.PairKeeps.{StepsWhere, ended_few, ends_memory, usable_step}
use Rattle.vs_top.proofs.PairNext.{quit_answers, quit_closes}
use Rattle.vs_top.proofs.PairRoom.{step_open, step_script, usable_fewer}
use Rattle.vs_top.proofs.pair.Sessions.answer.Goals as goal

pub returns-in_err-reserve-clause-usable : goal.returns-in_err-reserve-clause-usable
returns-in_err-reserve-clause-usable g c = λ more usable. usable_fewer g.H.World.tells c.args.self.now (more + 1) more (g.H.World.scene c.args.host.now) (omega arith) usable

pub returns-in_err-reserve-clause-keeps : goal.returns-in_err-reserve-clause-keeps
returns-in_err-reserve-clause-keeps g c = λ one two old keeps.
    let now : Scene = g.H.World.scene c.args.host.now in
    let most = sessions_ended c.args.self.now.multi in
    by_err c.from_residual.result (KeepsPair g.H.World.tells one two old now most c.reserve.new.self.items) (λ e. EndsPair g.H.World.tells one two old now e c.reserve.new.self.items) _ ending.NoMemory c.from_residual.ensures.1 refl
    (subst (λ (l : List Mark). EndsPair g.H.World.tells one two old now ending.NoMemory l) (sym {A = List Mark} c.reserve.ensures.items)
    (ends_memory g.H.World.tells one two old now most c.args.marks.now.items keeps (ended_few c.args.self.now.multi)))

pub returns-in_err-reserve-clause-told : goal.returns-in_err-reserve-clause-told
returns-in_err-reserve-clause-told g c = λ told one two old transcript source command here meant asks.
    let now : Scene = g.H.World.scene c.args.host.now in
    by_err c.from_residual.result (HasCommand c.args.which one two old now c.args.self.now.multi c.reserve.new.self.items c.args.self.now.clean transcript source command)
    (λ e. HasRunBoth one two old now e c.reserve.new.self.items) _ ending.NoMemory c.from_residual.ensures.1 refl
    (subst (λ (l : List Mark). HasRunBoth one two old now ending.NoMemory l) (sym {A = List Mark} c.reserve.ensures.items)
    (stopped_both g.H.World.tells told one two old now now c.args.self.now.multi c.args.marks.now.items c.args.self.now.clean transcript here ending.NoMemory (inr refl) tt))

pub step-requires-clause-clock : goal.step-requires-clause-clock
step-requires-clause-clock g c = λ told. omega (arith, c.requires.usable.clock told)

pub step-requires-clause-room : goal.step-requires-clause-room
step-requires-clause-room g c = room_of g.H.World.tells c.args.self.now 1 (g.H.World.scene c.args.host.now) c.args.which c.requires.usable

pub step-requires-clause-undo : goal.step-requires-clause-undo
step-requires-clause-undo g c = undo_of g.H.World.tells c.args.self.now 1 (g.H.World.scene c.args.host.now) c.args.which c.requires.usable

pub step-requires-clause-fits : goal.step-requires-clause-fits
step-requires-clause-fits g c = c.requires.usable.fits

pub close-requires-clause-open : goal.close-requires-clause-open
close-requires-clause-open g c =
    let now : Scene = g.H.World.scene c.args.host.now in
    let stepped : Scene = g.H.World.scene c.step.new.host in
    let steps : StepsWhere g.H.World.tells c.args.request.now step.Quit (session_of c.args.which c.args.self.now.multi) (session_of c.args.which c.step.new.self) now stepped = rw c.in-Step-Quit.field-0-is at c.in-Step-Quit.ensures.step in
    step_open g.H.World.tells c.args.request.now step.Quit now stepped (session_of c.args.which c.args.self.now.multi) (session_of c.args.which c.step.new.self) steps

pub close-requires-clause-usable : goal.close-requires-clause-usable
close-requires-clause-usable g c =
    let now : Scene = g.H.World.scene c.args.host.now in
    let stepped : Scene = g.H.World.scene c.step.new.host in
    let steps : StepsWhere g.H.World.tells c.args.request.now step.Quit (session_of c.args.which c.args.self.now.multi) (session_of c.args.which c.step.new.self) now stepped = rw c.in-Step-Quit.field-0-is at c.in-Step-Quit.ensures.step in
    usable_step g.H.World.tells c.args.self.now (record c.args.self.now { multi = c.step.new.self }) now stepped refl refl c.step.ensures.fits c.args.request.now step.Quit c.args.which 0 steps c.step.ensures.other c.requires.usable

pub returns-in-Step-Quit-clause-usable : goal.returns-in-Step-Quit-clause-usable
returns-in-Step-Quit-clause-usable g c = λ more usable.
    let now : Scene = g.H.World.scene c.args.host.now in
    let stepped : Scene = g.H.World.scene c.step.new.host in
    let steps : StepsWhere g.H.World.tells c.args.request.now step.Quit (session_of c.args.which c.args.self.now.multi) (session_of c.args.which c.step.new.self) now stepped = rw c.in-Step-Quit.field-0-is at c.in-Step-Quit.ensures.step in
    c.close.ensures.usable more
    (usable_step g.H.World.tells c.args.self.now (record c.args.self.now { multi = c.step.new.self }) now stepped refl refl c.step.ensures.fits c.args.request.now step.Quit c.args.which more steps c.step.ensures.other usable)

pub returns-in-Step-Quit-clause-script : goal.returns-in-Step-Quit-clause-script
returns-in-Step-Quit-clause-script g c =
    let now : Scene = g.H.World.scene c.args.host.now in
    let stepped : Scene = g.H.World.scene c.step.new.host in
    let steps : StepsWhere g.H.World.tells c.args.request.now step.Quit (session_of c.args.which c.args.self.now.multi) (session_of c.args.which c.step.new.self) now stepped = rw c.in-Step-Quit.field-0-is at c.in-Step-Quit.ensures.step in
    c.close.ensures.script ∙ step_script g.H.World.tells c.args.request.now step.Quit now stepped (session_of c.args.which c.args.self.now.multi) (session_of c.args.which c.step.new.self) steps

pub returns-in-Step-Quit-clause-keeps : goal.returns-in-Step-Quit-clause-keeps
returns-in-Step-Quit-clause-keeps g c = λ one two old keeps.
    let now : Scene = g.H.World.scene c.args.host.now in
    let stepped : Scene = g.H.World.scene c.step.new.host in
    let new : Scene = g.H.World.scene c.close.new.host in
    let which = c.args.which in
    let steps : StepsWhere g.H.World.tells c.args.request.now step.Quit (session_of which c.args.self.now.multi) (session_of which c.step.new.self) now stepped = rw c.in-Step-Quit.field-0-is at c.in-Step-Quit.ensures.step in
    let most = sessions_ended c.args.self.now.multi + 1 in
    subst (λ (l : List Mark). MatchResult c.close.result (λ _. KeepsPair g.H.World.tells one two old new (sessions_ended c.close.new.self.multi) l) (λ e. EndsPair g.H.World.tells one two old new e l)) (sym {A = List Mark} c.reserve.ensures.items)
    (quit_closes g.H.World.tells one two old new which c.args.self.now.multi c.close.new.self.multi c.args.marks.now.items c.close.result c.requires.open c.close.ensures.gone (c.close.ensures.others ∙ c.step.ensures.other)
    (c.close.ensures.keeps one two old most c.args.marks.now.items
    (quit_keeps g.H.World.tells which c.args.self.now.multi c.step.new.self now stepped c.args.request.now c.step.ensures.other steps one two old c.args.marks.now.items keeps)))

pub returns-in-Step-Quit-clause-told : goal.returns-in-Step-Quit-clause-told
returns-in-Step-Quit-clause-told g c = λ told one two old transcript source command here meant asks.
    let now : Scene = g.H.World.scene c.args.host.now in
    let stepped : Scene = g.H.World.scene c.step.new.host in
    let new : Scene = g.H.World.scene c.close.new.host in
    let which = c.args.which in
    let multi = c.args.self.now.multi in
    let marks = c.args.marks.now.items in
    let clean = c.args.self.now.clean in
    let steps : StepsWhere g.H.World.tells c.args.request.now step.Quit (session_of which c.args.self.now.multi) (session_of which c.step.new.self) now stepped = rw c.in-Step-Quit.field-0-is at c.in-Step-Quit.ensures.step in
    subst (λ (l : List Mark). MatchResult c.close.result (λ _. HasCommand which one two old new c.close.new.self.multi l c.close.new.self.clean transcript source command) (λ e. HasRunBoth one two old new e l)) (sym {A = List Mark} c.reserve.ensures.items)
    (quit_answers which one two old new c.close.new.self.multi marks c.close.new.self.clean transcript source command c.close.result c.close.ensures.gone
    (c.close.ensures.told told one two old marks transcript source command
    (quit_here g.H.World.tells which multi c.step.new.self now stepped c.args.request.now c.step.ensures.other steps told one two old marks clean transcript source command here meant asks c.step.ensures.stays)
    (quit_asks g.H.World.tells which multi c.step.new.self now stepped c.args.request.now c.step.ensures.other steps told one two old marks clean transcript source command here meant asks c.step.ensures.stays)))

pub returns-in-Step-Answer-clause-usable : goal.returns-in-Step-Answer-clause-usable
returns-in-Step-Answer-clause-usable g c = λ more usable.
    let now : Scene = g.H.World.scene c.args.host.now in
    let stepped : Scene = g.H.World.scene c.step.new.host in
    let new : Scene = g.H.World.scene c.put_reply.new.host in
    let which = c.args.which in
    let answered = step.Answer c.in-Step-Answer.mark c.in-Step-Answer.reply in
    let after : Sessions = record c.args.self.now { multi = c.step.new.self; clean = c.args.self.now.clean && c.is_clean.result } in
    let steps : StepsWhere g.H.World.tells c.args.request.now answered (session_of which c.args.self.now.multi) (session_of which c.step.new.self) now stepped = rw c.in-Step-Answer.field-0-is at c.in-Step-Answer.ensures.step in
    usable_puts g.H.World.tells after more stepped new (tagged_for which c.in-Step-Answer.reply.bytes) (IsErr c.put_reply.result) c.put_reply.ensures.puts
    (usable_step g.H.World.tells c.args.self.now after now stepped refl refl c.step.ensures.fits c.args.request.now answered which more steps c.step.ensures.other usable)

pub returns-in-Step-Answer-clause-script : goal.returns-in-Step-Answer-clause-script
returns-in-Step-Answer-clause-script g c =
    let now : Scene = g.H.World.scene c.args.host.now in
    let stepped : Scene = g.H.World.scene c.step.new.host in
    let answered = step.Answer c.in-Step-Answer.mark c.in-Step-Answer.reply in
    let steps : StepsWhere g.H.World.tells c.args.request.now answered (session_of c.args.which c.args.self.now.multi) (session_of c.args.which c.step.new.self) now stepped = rw c.in-Step-Answer.field-0-is at c.in-Step-Answer.ensures.step in
    ap (λ (s : Scene). s.script) c.put_reply.ensures.puts.frame
    ∙ step_script g.H.World.tells c.args.request.now answered now stepped (session_of c.args.which c.args.self.now.multi) (session_of c.args.which c.step.new.self) steps

pub returns-in-Step-Answer-clause-keeps : goal.returns-in-Step-Answer-clause-keeps
returns-in-Step-Answer-clause-keeps g c = λ one two old keeps.
    let now : Scene = g.H.World.scene c.args.host.now in
    let stepped : Scene = g.H.World.scene c.step.new.host in
    let new : Scene = g.H.World.scene c.put_reply.new.host in
    let which = c.args.which in
    let mark = c.in-Step-Answer.mark in
    let reply = c.in-Step-Answer.reply in
    let marks = c.args.marks.now.items in
    let steps : StepsWhere g.H.World.tells c.args.request.now (step.Answer mark reply) (session_of which c.args.self.now.multi) (session_of which c.step.new.self) now stepped = rw c.in-Step-Answer.field-0-is at c.in-Step-Answer.ensures.step in
    let kept : c.keep.new.marks.items ≡ marks ++ mark ∷ [] = c.keep.ensures ∙ ap (λ (l : List Mark). l ++ mark ∷ []) c.reserve.ensures.items in
    answer_keeps g.H.World.tells which c.args.self.now.multi c.step.new.self now stepped c.args.request.now c.step.ensures.other mark reply steps marks c.keep.new.marks.items kept
    c.put_reply.result new c.put_reply.ensures.puts c.put_reply.ensures.out one two old keeps

pub returns-in-Step-Answer-clause-told : goal.returns-in-Step-Answer-clause-told
returns-in-Step-Answer-clause-told g c = λ told one two old transcript source command here meant asks.
    let now : Scene = g.H.World.scene c.args.host.now in
    let stepped : Scene = g.H.World.scene c.step.new.host in
    let new : Scene = g.H.World.scene c.put_reply.new.host in
    let which = c.args.which in
    let mark = c.in-Step-Answer.mark in
    let reply = c.in-Step-Answer.reply in
    let marks = c.args.marks.now.items in
    let clean = c.args.self.now.clean in
    let steps : StepsWhere g.H.World.tells c.args.request.now (step.Answer mark reply) (session_of which c.args.self.now.multi) (session_of which c.step.new.self) now stepped = rw c.in-Step-Answer.field-0-is at c.in-Step-Answer.ensures.step in
    let kept : c.keep.new.marks.items ≡ marks ++ mark ∷ [] = c.keep.ensures ∙ ap (λ (l : List Mark). l ++ mark ∷ []) c.reserve.ensures.items in
    answer_told g.H.World.tells which c.args.self.now.multi c.step.new.self now stepped c.args.request.now c.step.ensures.other mark reply steps marks c.keep.new.marks.items kept
    c.put_reply.result new c.put_reply.ensures.puts c.put_reply.ensures.out c.put_reply.ensures.some c.step.ensures.stays told one two old clean (clean && c.is_clean.result) (ap (λ (b : Bool). clean && b) c.is_clean.ensures)
    transcript source command here meant asks
