use Rattle.std.proofs.Common.{◌≡◌, ℕ, ◌+◌, List, [], ◌∷◌, length, take, drop, ap, ◌∙◌, arith}
use Rattle.vs_pages.proofs.Steps.{Continues-trans}
use Rattle.vs_tree_shape.specs.declared.entries.Entry.{Entry}
use Rattle.vs_tree_shape.specs.Places.{lines_below}
use Rattle.vs_tree_shape.proofs.Writes.{part_sums}
use Rattle.vs_tree_blocks.specs.Cuts.{half_of}
use Rattle.vs_merge.proofs.Evening.{shared_stands, stored_bytes, there_still}
use Rattle.vs_merge.proofs.Working.{only_both, only_page}
use Rattle.vs_merge.proofs.even.share_two.Goals as goal

sums : (all first second : List Entry) (i : ℕ) → first ≡ take i all → second ≡ drop i all → lines_below first + lines_below second ≡ lines_below all
sums all first second i a b = omega (arith, ap lines_below a, ap lines_below b, part_sums i all)

two_entries : (a b x y : Entry) → a ≡ x → b ≡ y → a ∷ b ∷ [] ≡ x ∷ y ∷ []
two_entries a b x y p q = ap (λ (z : Entry). z ∷ b ∷ []) p ∙ ap (λ (z : Entry). x ∷ z ∷ []) q

pub entry_above-front-requires-clause-small : goal.entry_above-front-requires-clause-small
entry_above-front-requires-clause-small g c = omega (arith, sums c.args.all.now _ _ (half_of (length c.args.all.now)) c.halve.ensures.first c.halve.ensures.second, c.requires.small)

pub entry_above-back-requires-clause-small : goal.entry_above-back-requires-clause-small
entry_above-back-requires-clause-small g c = omega (arith, sums c.args.all.now _ _ (half_of (length c.args.all.now)) c.halve.ensures.first c.halve.ensures.second, c.requires.small)

pub touch-requires-2-clause-there : goal.touch-requires-2-clause-there
touch-requires-2-clause-there g c = λ told. there_still _ _ c.args.one c.args.two _ c.requires.apart (c.in_ok-touch.ensures.ok told) (c.requires.second told)

pub returns-clause-evens : goal.returns-clause-evens
returns-clause-evens g c = λ told e ka kb both es_are.
    shared_stands _ _ _ e c.args.one c.args.two ka kb c.args.all.now _ _ c.in_ok-vec.field-0.items c.in_ok-bytes.bytes.items c.in_ok-more.more.items both es_are c.halve.ensures.first c.halve.ensures.second
    (stored_bytes _ _ c.args.one c.in_ok-bytes.bytes.items _ (c.in_ok-touch.ensures.ok told) c.deref.ensures.value c.in_ok-bytes.ensures.size) c.in_ok-bytes.ensures.entries
    (stored_bytes _ _ c.args.two c.in_ok-more.more.items _ (c.in_ok-touch-2.ensures.ok told) c.deref-2.ensures.value c.in_ok-more.ensures.size) c.in_ok-more.ensures.entries c.requires.many
    (c.in_ok-vec.ensures.items ∙ two_entries _ _ _ _ c.entry_above-front.ensures.entry c.entry_above-back.ensures.entry)

pub returns-clause-lines : goal.returns-clause-lines
returns-clause-lines g c = omega (arith, ap lines_below c.in_ok-vec.ensures.items, ap (λ (x : Entry). x.lines) c.entry_above-front.ensures.entry, ap (λ (x : Entry). x.lines) c.entry_above-back.ensures.entry, sums c.args.all.now _ _ (half_of (length c.args.all.now)) c.halve.ensures.first c.halve.ensures.second)

pub returns-clause-works : goal.returns-clause-works
returns-clause-works g c = λ told. only_both _ _ _ (c.args.one ∷ []) (c.args.two ∷ []) (c.args.one ∷ c.args.two ∷ []) (only_page _ _ c.args.one (c.in_ok-touch.ensures.change.worked told)) (only_page _ _ c.args.two (c.in_ok-touch-2.ensures.change.worked told)) (λ k out. omega (arith, out))

pub returns-in_err-touch-2-clause-kept : goal.returns-in_err-touch-2-clause-kept
returns-in_err-touch-2-clause-kept g c = Continues-trans g.met.P.Pages.stays_on c.touch.ensures.kept c.touch-2.ensures.kept

pub returns-in_err-vec-clause-kept : goal.returns-in_err-vec-clause-kept
returns-in_err-vec-clause-kept g c = Continues-trans g.met.P.Pages.stays_on c.touch.ensures.kept c.touch-2.ensures.kept

pub returns-clause-kept : goal.returns-clause-kept
returns-clause-kept g c = Continues-trans g.met.P.Pages.stays_on c.touch.ensures.kept c.touch-2.ensures.kept
