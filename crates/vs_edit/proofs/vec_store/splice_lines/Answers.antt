-- What is kept takes the splice back, and the bytes of the whole bound those of its parts.
use Rattle.std.proofs.Common.{◌≡◌, ◌++◌, List, ℕ, length, ap, ◌∙◌, reverse, arith, refl}
use Rattle.std.specs.Vec.{vec_capacity}
use Rattle.vs_text.specs.Text.{bytes_of}
use Rattle.vs_edit.specs.declared.vec_store.Undo.{Undo}
use Rattle.vs_edit.specs.Splices.{splice, cut_out}
use Rattle.vs_edit.proofs.SpliceLemmas.{bytes_of-splice, bytes_of-cut_out}
use Rattle.vs_edit.proofs.UndoingLemmas.{reverse_pushed, leads_back_held, leads_back_in_more, undone-splice, leads_back-splice, TakesBack}
use Rattle.vs_edit.proofs.vec_store.splice_lines.Goals as goal
use Rattle.vs_edit.proofs.vec_store.splice_lines.Goals.{After-exchange}

pub returns-in_err-reserve-2-clause-leads : goal.returns-in_err-reserve-2-clause-leads
returns-in_err-reserve-2-clause-leads c =
    let old = c.args.lines.now in
    rw (c.reserve.ensures.items, c.reserve-2.ensures.items) (leads_back_in_more (vec_capacity old) (vec_capacity c.reserve.new.self) c.args.bytes.now old.items (reverse c.args.undos.now.items) c.reserve.ensures.capacity c.requires.leads)

spliced : (c : After-exchange) → c.exchange.new.lines.items ≡ splice c.args.lines.now.items c.args.range.0 c.args.range.1 c.args.new.now
spliced c =
    let top = c.args.range.0 in
    let old = c.args.range.1 in
    c.exchange.ensures.lines ∙ (ap (λ (xs : List (List ℕ)). splice xs top old c.in_ok-fresh.fresh.items) c.reserve.ensures.items ∙ ap (splice c.args.lines.now.items top old) c.in_ok-fresh.ensures.copies)

taken_out : (c : After-exchange) → c.exchange.new.gone.items ≡ cut_out c.args.lines.now.items c.args.range.0 c.args.range.1
taken_out c =
    let top = c.args.range.0 in
    let old = c.args.range.1 in
    c.exchange.ensures.gone ∙ (ap (λ (xs : List (List ℕ)). xs ++ cut_out c.reserve.new.self.items top old) c.in_ok-gone.ensures.items ∙ ap (λ (xs : List (List ℕ)). cut_out xs top old) c.reserve.ensures.items)

pub bytes_after-requires-clause-had : goal.bytes_after-requires-clause-had
bytes_after-requires-clause-had c =
    let text = c.args.lines.now.items in
    let held = leads_back_held (vec_capacity c.args.lines.now) c.args.bytes.now text (reverse c.args.undos.now.items) c.requires.leads in
    let gone = ap bytes_of (c.deref.ensures.value ∙ taken_out (goal.at.bytes_after-requires-clause-had c).After-exchange) in
    omega (arith, held.counted, gone, bytes_of-cut_out text c.args.range.0 c.args.range.1 (omega arith))

pub bytes_after-requires-clause-fits : goal.bytes_after-requires-clause-fits
bytes_after-requires-clause-fits c =
    let text = c.args.lines.now.items in
    let held = leads_back_held (vec_capacity c.args.lines.now) c.args.bytes.now text (reverse c.args.undos.now.items) c.requires.leads in
    let gone = ap bytes_of (c.deref.ensures.value ∙ taken_out (goal.at.bytes_after-requires-clause-fits c).After-exchange) in
    omega (arith, held.counted, gone, c.requires.bytes, bytes_of-splice text c.args.new.now c.args.range.0 c.args.range.1 (omega arith))

pub returns-clause-undone : goal.returns-clause-undone
returns-clause-undone c =
    let text = c.args.lines.now.items in
    let undo : Undo = record { top = c.args.range.0; count = length c.args.new.now; lines = c.exchange.new.gone; bytes = c.args.bytes.now } in
    let taken = taken_out (goal.at.returns-clause-undone c).After-exchange in
    let back : TakesBack undo text c.args.range.0 c.args.range.1 c.args.new.now c.args.bytes.now =
    record { top_is = refl; count_is = refl; lines_are = taken; bytes_are = refl } in
    rw (reverse_pushed c.keep_undo.new.undos.items c.reserve-2.new.self.items undo c.keep_undo.ensures, c.reserve-2.ensures.items, spliced (goal.at.returns-clause-undone c).After-exchange) (undone-splice undo text c.args.range.0 c.args.range.1 c.args.new.now c.args.bytes.now (omega arith) back (reverse c.args.undos.now.items))

pub returns-clause-leads : goal.returns-clause-leads
returns-clause-leads c =
    let lines = c.args.lines.now in
    let text = lines.items in
    let undo : Undo = record { top = c.args.range.0; count = length c.args.new.now; lines = c.exchange.new.gone; bytes = c.args.bytes.now } in
    let taken = taken_out (goal.at.returns-clause-leads c).After-exchange in
    let whole = spliced (goal.at.returns-clause-leads c).After-exchange in
    let back : TakesBack undo text c.args.range.0 c.args.range.1 c.args.new.now c.args.bytes.now =
    record { top_is = refl; count_is = refl; lines_are = taken; bytes_are = refl } in
    let leads = leads_back_in_more (vec_capacity lines) (vec_capacity c.exchange.new.lines) c.args.bytes.now text (reverse c.args.undos.now.items) (omega arith) c.requires.leads in
    let held = leads_back_held (vec_capacity lines) c.args.bytes.now text (reverse c.args.undos.now.items) c.requires.leads in
    let gone = ap bytes_of (c.deref.ensures.value ∙ taken) in
    rw (reverse_pushed c.keep_undo.new.undos.items c.reserve-2.new.self.items undo c.keep_undo.ensures, c.reserve-2.ensures.items, whole) (leads_back-splice undo text c.args.range.0 c.args.range.1 c.args.new.now c.args.bytes.now (omega arith) back (vec_capacity c.exchange.new.lines) c.bytes_after.result (reverse c.args.undos.now.items) leads (record { room = omega (arith, ap length whole); counted = omega (arith, held.counted, gone, bytes_of-splice text c.args.new.now c.args.range.0 c.args.range.1 (omega arith)) }))
