use Rattle.std.proofs.Common.{◌≡◌, ◌∙◌, ℕ, List, ◌++◌, ◌∷◌, [], refl, length, ap, sym, subst, arith, None, Ok, rules}
use Rattle.std.proofs.lemmas.Grind.{common_steps}
use Rattle.vs_host.specs.World.{Scene}
use Rattle.vs_machine.specs.declared.command.Mark.{Mark}
use Rattle.std.proofs.lemmas.List.{length-append}
use Rattle.vs_session.specs.Fits.{Fits, IsStep, IsTimed}
use Rattle.vs_top.specs.Ending.{ending_in}
use Rattle.vs_top.specs.Promise.{RunsEdit}
use Rattle.vs_session.proofs.Requests.{some_command}
use Rattle.vs_top.proofs.Closing.{at_ending}
use Rattle.vs_top.proofs.Turning.{reader_stopped, no_memory_left}
use Rattle.vs_top.proofs.Stepping.{cut_reply, next_turn, at_end, at_quit, quit_step, fits_after}
use Rattle.vs_top.proofs.Reading.{fresh_seen}
use Rattle.vs_top.proofs.Opening.{no_memory_yet, cut_opening, first_turn}
use Rattle.vs_top.proofs.edit.serve.Goals as goal

pub returns-in_err-reader : goal.returns-in_err-reader
returns-in_err-reader g c = λ name old at.
    at_ending g.H.World.tells name old (g.H.World.scene c.args.host.now) c.args.marks.now.items c.from_residual.result _ _ c.from_residual.ensures.1 refl (no_memory_yet g.H.World.tells name old (g.H.World.scene c.args.host.now) c.args.session at c.args.marks.now.items c.requires.marks)

pub returns-in_err-line : goal.returns-in_err-line
returns-in_err-line g c = λ name old at.
    at_ending g.H.World.tells name old (g.H.World.scene c.args.host.now) c.args.marks.now.items c.from_residual-in_err-line.result _ _ c.from_residual-in_err-line.ensures.1 refl (no_memory_yet g.H.World.tells name old (g.H.World.scene c.args.host.now) c.args.session at c.args.marks.now.items c.requires.marks)

pub returns-in_err-put : goal.returns-in_err-put
returns-in_err-put g c = λ name old at.
    at_ending g.H.World.tells name old (g.H.World.scene c.put.new.host) c.args.marks.now.items c.from_residual-in_err-put.result _ _ c.from_residual-in_err-put.ensures.1 c.in_err-put.ensures.out
    (cut_opening g.H.World.tells name old (g.H.World.scene c.args.host.now) c.args.session at c.args.marks.now.items c.requires.marks (g.H.World.scene c.put.new.host) c.opening.result c.opening.ensures c.put.ensures.frame c.put.ensures.added c.in_err-put.ensures.err (c.in_err-put.ensures.cause.risen refl))

pub requests-init : goal.requests-init
requests-init g c = record {
  turn = λ name old at. first_turn g.H.World.tells name old (g.H.World.scene c.args.host.now) c.args.session at c.args.marks.now.items c.requires.marks (g.H.World.scene c.put.new.host) c.opening.result c.opening.ensures c.put.ensures.frame c.put.ensures.added c.in_ok-reader.reader c.in_ok-reader.ensures c.in_ok-put.ensures.ok
      (c.in_ok-put.ensures.quiet (λ is. absurd (cc)));
  fresh = c.in_ok-reader.ensures;
  seen = λ told. fresh_seen (g.H.World.scene c.put.new.host) c.in_ok-reader.reader c.in_ok-reader.ensures;
  few = grind (arith, common_steps);
  room = grind (arith, common_steps);
  undo = c.requires.undo;
  fits = λ told. let was = c.requires.fits told in (was.0, was.1, subst (λ d. Rattle.vs_session.specs.Fits.Fits c.args.session d was.0 was.1) (sym (ap (λ (s : Scene). s.folder) c.put.ensures.frame)) was.2);
  clock = λ told. omega (arith, ap (λ (s : Scene). Rattle.std.proofs.Common.length s.answers) c.put.ensures.frame);
}

pub next_request-requires : goal.next_request-requires
next_request-requires g c = record { ended = c.requests.invariant.seen }

pub returns-in_err-request : goal.returns-in_err-request
returns-in_err-request g c = λ name old at.
    at_ending g.H.World.tells name old (g.H.World.scene c.next_request.new.host) c.requests.marks.items c.from_residual-in_err-request.result _ _ c.from_residual-in_err-request.ensures.1 refl
    (reader_stopped g.H.World.tells name old (g.H.World.scene c.requests.host) (g.H.World.scene c.next_request.new.host) c.requests.session c.in_ok-reader.reader c.requests.reader c.next_request.new.self c.requests.marks.items c.requests.clean c.requests.invariant.fresh
    c.in_err-request.ensures.reads c.in_err-request.ensures.track (c.requests.invariant.turn name old at) _ refl c.in_err-request.ensures.stops)

pub returns-in_err-reserve : goal.returns-in_err-reserve
returns-in_err-reserve g c = λ name old at.
    subst (λ (l : List Mark). RunsEdit g.H.World.tells name old (g.H.World.scene c.next_request.new.host) (ending_in c.from_residual-in_err-reserve.result) l) (sym c.reserve.ensures.items)
    (at_ending g.H.World.tells name old (g.H.World.scene c.next_request.new.host) c.requests.marks.items c.from_residual-in_err-reserve.result _ _ c.from_residual-in_err-reserve.ensures.1 refl
    (no_memory_left g.H.World.tells name old (g.H.World.scene c.requests.host) (g.H.World.scene c.next_request.new.host) c.requests.session c.in_ok-reader.reader c.requests.reader c.next_request.new.self c.requests.marks.items c.requests.clean c.requests.invariant.fresh
    c.in_ok-request.ensures.reads c.in_ok-request.ensures.track (c.requests.invariant.turn name old at) c.in-Some.request refl (rw c.in-Some.is at c.in_ok-request.ensures.request)))

pub step-requires-clause-form : goal.step-requires-clause-form
step-requires-clause-form g c = rw c.in-Some.is at c.in_ok-request.ensures.form

pub step-requires-clause-clock : goal.step-requires-clause-clock
step-requires-clause-clock g c = λ told.
    let answers = ap (λ (s : Scene). length s.answers) c.next_request.ensures.reads.frame in
    omega (arith, answers, c.requests.invariant.clock told, c.requires.clock told, c.requests.invariant.few)

pub step-requires-clause-room : goal.step-requires-clause-room
step-requires-clause-room g c = omega (arith, c.requests.invariant.room, c.requests.invariant.few)

pub step-requires-clause-undo : goal.step-requires-clause-undo
step-requires-clause-undo g c = c.requests.invariant.undo

pub step-requires-clause-fits : goal.step-requires-clause-fits
step-requires-clause-fits g c = λ told.
    let was = c.requests.invariant.fits told in
    (was.0, was.1, subst (λ d. Fits c.requests.session d was.0 was.1) (sym (ap (λ (s : Scene). s.folder) c.next_request.ensures.reads.frame)) was.2)

pub close-requires-clause-room : goal.close-requires-clause-room
close-requires-clause-room g c = omega (arith, c.step.ensures.room, c.requests.invariant.room, c.requests.invariant.few)

pub close-requires-clause-fits : goal.close-requires-clause-fits
close-requires-clause-fits g c = λ told.
    let was = c.requests.invariant.fits told in
    let some = some_command c.in-Some.request in
    let fits = subst (λ d. Fits c.requests.session d was.0 was.1) (sym (ap (λ (s : Scene). s.folder) c.next_request.ensures.reads.frame)) was.2 in
    let done = quit_step c.step.result (λ s. IsStep s was.0 was.1 some.0 c.requests.session c.step.new.self (g.H.World.scene c.next_request.new.host) (g.H.World.scene c.step.new.host)) (λ m r is. c.in_default-step.not-Answer m r is) (c.step.ensures.step told was.0 was.1 some.0 fits some.1) in
    (was.0, was.1, subst (λ x. Fits x (g.H.World.scene c.step.new.host).folder was.0 was.1) (sym done.1) (subst (λ d. Fits c.requests.session d was.0 was.1) (sym done.3) fits))

pub returns-in_default-step : goal.returns-in_default-step
returns-in_default-step g c = λ name old at.
    subst (λ (l : List Mark). RunsEdit g.H.World.tells name old (g.H.World.scene c.close.new.host) (ending_in c.close.result) l) (sym c.reserve.ensures.items)
    (c.close.ensures name old c.requests.marks.items
    (at_quit g.H.World.tells name old (g.H.World.scene c.requests.host) (g.H.World.scene c.next_request.new.host) (g.H.World.scene c.step.new.host) c.requests.session c.step.new.self c.in_ok-reader.reader c.requests.reader c.next_request.new.self c.requests.marks.items c.requests.clean c.in-Some.request c.requests.invariant.fresh c.in_ok-request.ensures.reads c.in_ok-request.ensures.track
    (rw c.in-Some.is at c.in_ok-request.ensures.request) (c.requests.invariant.turn name old at)
    (λ told state syncs instruction fits meant. quit_step c.step.result (λ s. IsStep s state syncs instruction c.requests.session c.step.new.self (g.H.World.scene c.next_request.new.host) (g.H.World.scene c.step.new.host)) (λ m r is. c.in_default-step.not-Answer m r is) (c.step.ensures.step told state syncs instruction fits meant))
    c.step.ensures.frame c.step.ensures.cause.later c.step.ensures.file.names (λ told. quit_step c.step.result (λ s. IsTimed s (g.H.World.scene c.next_request.new.host) (g.H.World.scene c.step.new.host)) (λ m r is. c.in_default-step.not-Answer m r is) (c.step.ensures.clock told))))

pub requests-smaller : goal.requests-smaller
requests-smaller g c = grind (arith, common_steps)

pub requests-preserved : goal.requests-preserved
requests-preserved g c = record {
  turn = λ name old at.
      next_turn g.H.World.tells name old (g.H.World.scene c.requests.host) (g.H.World.scene c.next_request.new.host) (g.H.World.scene c.step.new.host) c.requests.session c.step.new.self c.in_ok-reader.reader c.requests.reader c.next_request.new.self c.requests.marks.items c.requests.clean c.in-Some.request c.in-Answer.mark c.in-Answer.reply
      c.in_ok-request.ensures.reads c.in_ok-request.ensures.track (record { step = c.in-Answer.ensures.step; frame = c.step.ensures.frame; later = c.step.ensures.cause.later; risen = c.in-Answer.ensures.cause.risen; names = c.step.ensures.file.names; clock = c.in-Answer.ensures.clock }) c.put-in-Some.ensures.some (g.H.World.scene c.put-in-Some.new.host) c.keep.new.marks.items (c.keep.ensures ∙ ap (λ (l : List Mark). l ++ c.in-Answer.mark ∷ []) c.reserve.ensures.items) c.requests.invariant.fresh
      (rw c.in-Some.is at c.in_ok-request.ensures.request) c.put-in-Some.ensures.frame c.put-in-Some.ensures.added (c.requests.invariant.turn name old at) c.is_clean-clean.result c.in_ok-put-2.ensures.ok (c.in_ok-put-2.ensures.quiet (λ is. absurd (cc))) c.is_clean-clean.ensures;
  fresh = c.requests.invariant.fresh;
  seen = λ told. let same = ap (λ (s : Scene). s.script) c.put-in-Some.ensures.frame ∙ ap (λ (s : Scene). s.script) c.step.ensures.frame in λ is. same ∙ c.next_request.ensures.track.ended told is;
  few = grind (arith, common_steps);
  room = grind (arith, common_steps);
  undo = c.step.ensures.undo;
  fits = λ told.
      let was = c.requests.invariant.fits told in
      let some = some_command c.in-Some.request in
      let fits = subst (λ d. Fits c.requests.session d was.0 was.1) (sym (ap (λ (s : Scene). s.folder) c.next_request.ensures.reads.frame)) was.2 in
      fits_after was.0 was.1 some.0 c.requests.session c.step.new.self c.in-Answer.mark c.in-Answer.reply (g.H.World.scene c.next_request.new.host) (g.H.World.scene c.step.new.host) (g.H.World.scene c.put-in-Some.new.host)
      c.put-in-Some.ensures.frame (c.in-Answer.ensures.step told was.0 was.1 some.0 fits some.1);
  clock = λ told.
      let one : List ℕ = c.in-Answer.mark.at ∷ [] in
      let mark : List Mark = c.in-Answer.mark ∷ [] in
      omega (
        arith,
        c.requests.invariant.clock told,
        ap (λ (s : Scene). length s.answers) c.next_request.ensures.reads.frame,
        ap (λ (l : List ℕ). length l) (c.in-Answer.ensures.clock told),
        length-append (g.H.World.scene c.next_request.new.host).answers one,
        ap (λ (s : Scene). length s.answers) c.put-in-Some.ensures.frame,
        ap (λ (l : List Mark). length l) (c.keep.ensures ∙ ap (λ (l : List Mark). l ++ mark) c.reserve.ensures.items),
        length-append c.requests.marks.items mark,
      );
}

pub returns-in_err-put-2 : goal.returns-in_err-put-2
returns-in_err-put-2 g c = λ name old at.
    at_ending g.H.World.tells name old (g.H.World.scene c.put-in-Some.new.host) c.keep.new.marks.items c.from_residual-in_err-put-2.result _ _ c.from_residual-in_err-put-2.ensures.1 c.in_err-put-2.ensures.out
    (cut_reply g.H.World.tells name old (g.H.World.scene c.requests.host) (g.H.World.scene c.next_request.new.host) (g.H.World.scene c.step.new.host) c.requests.session c.step.new.self c.in_ok-reader.reader c.requests.reader c.next_request.new.self c.requests.marks.items c.requests.clean c.in-Some.request c.in-Answer.mark c.in-Answer.reply
    c.in_ok-request.ensures.reads c.in_ok-request.ensures.track (record { step = c.in-Answer.ensures.step; frame = c.step.ensures.frame; later = c.step.ensures.cause.later; risen = c.in-Answer.ensures.cause.risen; names = c.step.ensures.file.names; clock = c.in-Answer.ensures.clock }) c.put-in-Some.ensures.some (g.H.World.scene c.put-in-Some.new.host) c.keep.new.marks.items (c.keep.ensures ∙ ap (λ (l : List Mark). l ++ c.in-Answer.mark ∷ []) c.reserve.ensures.items) c.requests.invariant.fresh
    (rw c.in-Some.is at c.in_ok-request.ensures.request) c.put-in-Some.ensures.frame c.put-in-Some.ensures.added (c.requests.invariant.turn name old at) c.in_err-put-2.ensures.err (c.in_err-put-2.ensures.cause.risen refl))

pub close-requires-2-clause-room : goal.close-requires-2-clause-room
close-requires-2-clause-room g c = omega (arith, c.requests.invariant.room, c.requests.invariant.few)

pub close-requires-2-clause-fits : goal.close-requires-2-clause-fits
close-requires-2-clause-fits g c = λ told.
    let was = c.requests.invariant.fits told in
    (was.0, was.1, subst (λ d. Fits c.requests.session d was.0 was.1) (sym (ap (λ (s : Scene). s.folder) c.next_request.ensures.reads.frame)) was.2)

pub returns : goal.returns
returns g c = λ name old at.
    let none : c.in_ok-request.field-0 ≡ None = search rules in
    c.close-2.ensures name old c.requests.marks.items
    (at_end g.H.World.tells name old (g.H.World.scene c.requests.host) (g.H.World.scene c.next_request.new.host) c.requests.session c.in_ok-reader.reader c.requests.reader c.next_request.new.self c.requests.marks.items c.requests.clean c.requests.invariant.fresh c.in_ok-request.ensures.reads c.in_ok-request.ensures.track (c.in_ok-request.ensures.none (ap Ok none)) (c.requests.invariant.turn name old at))
