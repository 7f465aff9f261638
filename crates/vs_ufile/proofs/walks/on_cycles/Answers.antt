use Rattle.std.proofs.Common.{◌≡◌, ◌∙◌, ℕ, List, ap, sym, length, subst}
use Rattle.std.specs.Prelude.{false}
use Rattle.std.proofs.lemmas.List.{length-replicate}
use Rattle.vs_ufile.specs.Walks.{LeadsFar}
use Rattle.vs_ufile.proofs.Cycles.{far_within, marks_are, no_mark}
use Rattle.vs_ufile.proofs.walks.on_cycles.Goals as goal

pub mark-requires : goal.mark-requires
mark-requires c =
    let far = c.in_ok-far.ensures in
    let size : length c.in_ok-marks.marks.items ≡ length c.args.links.now = ap length c.in_ok-marks.ensures ∙ length-replicate (length c.args.links.now) false in
    far_within c.args.links.now c.deref.result.now far.0 (length c.in_ok-marks.marks.items) c.requires
    (subst (λ (x : List ℕ). LeadsFar c.args.links.now far.0 x) (sym c.deref.ensures.value) far.2) size

pub returns : goal.returns
returns c =
    let links = c.args.links.now in
    let far = c.in_ok-far.ensures in
    let size : length c.in_ok-marks.marks.items ≡ length links = ap length c.in_ok-marks.ensures ∙ length-replicate (length links) false in
    marks_are links c.deref.result.now c.in_ok-marks.marks.items c.mark.new.marks.items far.0 c.requires far.1
    (subst (λ (x : List ℕ). LeadsFar links far.0 x) (sym c.deref.ensures.value) far.2)
    (c.mark.ensures.size ∙ size) (no_mark (length links) c.in_ok-marks.marks.items c.in_ok-marks.ensures) c.mark.ensures.marked
