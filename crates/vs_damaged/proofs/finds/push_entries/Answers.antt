use Rattle.std.proofs.Common.{◌≡◌, ◌+◌, ◌-◌, ◌++◌, ◌∷◌, [], ℕ, List, length, drop, reverse, refl, sym, ap, ◌∙◌, arith, length-append}
use Rattle.std.specs.Prelude.{pos}
use Rattle.std.proofs.lemmas.List.{drop_all}
use Rattle.std.proofs.lemmas.Option.{get_or_from_slice_get}
use Rattle.vs_ptr.specs.declared.PtrEntry.{PtrEntry}
use Rattle.vs_ptr.specs.Blocks.{entries_of}
use Rattle.vs_damaged.proofs.FindLaws.{entries_len, reversed_more}
use Rattle.vs_damaged.proofs.finds.push_entries.Goals as goal

pub loop-at-init : goal.loop-at-init
loop-at-init c =
    let all : List PtrEntry = entries_of c.args.block.now in
    let len : length all ≡ c.args.view.now.count = entries_len c.args.block.now c.args.view.now c.requires in
    record {
      within = omega arith;
      entries = sym (ap (λ (es : List PtrEntry). es ++ reverse c.args.left.now.items) (drop_all c.args.view.now.count all (omega (arith, len))));
      len = refl;
    }

pub loop-at-preserved : goal.loop-at-preserved
loop-at-preserved c =
    let all : List PtrEntry = entries_of c.args.block.now in
    let len : length all ≡ c.args.view.now.count = entries_len c.args.block.now c.args.view.now c.requires in
    let d : PtrEntry = record { block = pos 0; lines = pos 0; old = pos 0; pages = pos 0 } in
    let at : ℕ = c.loop-at.at - 1 in
    let next : c.loop-at.at ≡ at + 1 = omega (arith, c.loop-at-test.true) in
    let items : c.push.new.self.items ≡ c.loop-at.left.items ++ c.entry.result ∷ [] = c.in_ok-push.ensures.items in
    record {
      within = omega (arith, c.loop-at.invariant.within);
      entries = ap (λ (es : List PtrEntry). reverse es) items
          ∙ reversed_more c.loop-at.left.items (reverse c.args.left.now.items) all c.entry.result d at (omega (arith, next, c.loop-at.invariant.within, len)) (sym (get_or_from_slice_get all at c.entry.result d c.entry.ensures))
          (c.loop-at.invariant.entries ∙ ap (λ n. drop n all ++ reverse c.args.left.now.items) next);
      len = omega (arith, ap length items ∙ length-append c.loop-at.left.items (c.entry.result ∷ []), next, c.loop-at.invariant.len);
    }
