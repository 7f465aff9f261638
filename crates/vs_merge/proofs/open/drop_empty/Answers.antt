-- A block without lines is given back, and each other one stays with its entry.
use Rattle.std.proofs.Common.{◌≡◌, ℕ, ◌+◌, ◌≤◌, inl, inr, List, [], ◌∷◌, ◌++◌, take, get_or, refl, sym, ap, subst, ◌∙◌, arith}
use Rattle.std.specs.List.{AllByRecursion}
use Rattle.std.proofs.lemmas.Bool.{cases_lt}
use Rattle.vs_pages.proofs.Steps.{Continues-none, Continues-trans}
use Rattle.vs_pages.specs.Maps.{Map}
use Rattle.vs_tree_shape.specs.declared.entries.Entry.{Entry}
use Rattle.vs_tree_shape.specs.Places.{lines_below}
use Rattle.vs_tree_shape.proofs.Shapes.{each-append}
use Rattle.vs_tree_shape.proofs.Sums.{total-append, total_more}
use Rattle.vs_tree_blocks.specs.Blocks.{FitsFields}
use Rattle.vs_merge.specs.Evens.{no_entry}
use Rattle.vs_merge.specs.Forests.{Exchanges}
use Rattle.vs_merge.proofs.Forests.{drops_more, each_at, exchanged_all, exchanges_none, keeps_more, next_block}
use Rattle.vs_merge.proofs.open.drop_empty.Goals as goal

pub entries-init : goal.entries-init
entries-init g c =
    let items : c.new-left.result.items ≡ [] = c.new-left.ensures.items in
    let m : Map = (g.P.Pages.shows c.args.pages.now).present in
    record {
      opened = λ told f. let X : List Entry → Type 0 = λ xs. Exchanges m m 0 0 [] xs in subst X (sym items) (exchanges_none m m 0 0 refl);
      some = subst (λ (xs : List Entry). AllByRecursion (λ (e : Entry). 1 ≤ e.lines) xs) (sym items) tt;
      fields = subst (λ (xs : List Entry). AllByRecursion FitsFields xs) (sym items) tt;
      lines = ap lines_below items;
      kept = Continues-none g.met.P.Pages.stays_itself c.requires.valid;
      faults = refl;
    }

pub keep_or_free-requires-clause-there : goal.keep_or_free-requires-clause-there
keep_or_free-requires-clause-there g c = λ told.
    let es : List Entry = c.args.entries.now in
    let i : ℕ = c.entries.entry-index in
    let entry : Entry = get_or es i no_entry in
    let item : entry ≡ get_or es i no_entry = refl in
    let f = c.requires.there told in
    next_block _ _ es c.entries.left.items f i entry (omega arith) item (c.entries.invariant.opened told f)

pub returns-in_err-keep_or_free-clause-kept : goal.returns-in_err-keep_or_free-clause-kept
returns-in_err-keep_or_free-clause-kept g c = Continues-trans g.met.P.Pages.stays_on c.entries.invariant.kept c.keep_or_free.ensures.kept

pub entries-preserved : goal.entries-preserved
entries-preserved g c =
    let inv = c.entries.invariant in
    let es : List Entry = c.args.entries.now in
    let i : ℕ = c.entries.entry-index in
    let entry : Entry = get_or es i no_entry in
    let was : List Entry = c.entries.left.items in
    let now : List Entry = c.keep_or_free.new.left.items in
    let m : Map = (g.P.Pages.shows c.args.pages.now).present in
    let n : Map = (g.P.Pages.shows c.keep_or_free.new.pages).present in
    let step = c.in_ok-keep_or_free.ensures in
    let item : entry ≡ get_or es i no_entry = refl in
    let some : List Entry → Type 0 = λ xs. AllByRecursion (λ (e : Entry). 1 ≤ e.lines) xs in
    let fields : List Entry → Type 0 = λ xs. AllByRecursion FitsFields xs in
    let here : FitsFields entry = subst (λ (e : Entry). FitsFields e) (sym item) (each_at FitsFields es i no_entry (omega arith) c.requires.fields) in
    let count = total_more (λ (e : Entry). e.lines) es i no_entry (omega arith) in
    elim (cases_lt 0 entry.lines) [
      | inl full ↦
          let items : now ≡ was ++ entry ∷ [] = step.full (omega (arith, full)) in
          record {
            opened = λ told f.
                let X : List Entry → Type 0 = λ xs. Exchanges m n 0 0 (take (i + 1) f.trees) xs in
                let Y : Map → Type 0 = λ h. Exchanges m h 0 0 (take i f.trees) was in
                subst X (sym items) (keeps_more m n es was f i entry (omega arith) item (subst Y (sym (step.same told (omega (arith, full)))) (inv.opened told f)));
            some = subst some (sym items) (each-append (λ (e : Entry). 1 ≤ e.lines) was (entry ∷ []) inv.some (omega (arith, full), tt));
            fields = subst fields (sym items) (each-append FitsFields was (entry ∷ []) inv.fields (here, tt));
            lines = omega (arith, ap lines_below items, total-append (λ (e : Entry). e.lines) was (entry ∷ []), inv.lines, count, ap (λ (e : Entry). e.lines) item);
            kept = Continues-trans g.met.P.Pages.stays_on inv.kept step.kept;
            faults = step.cause.none (λ failed. absurd (cc)) ∙ inv.faults;
          }
      | inr none ↦
          let zero_lines : entry.lines ≡ 0 = omega (arith, none) in
          let items : now ≡ was = step.empty zero_lines in
          record {
            opened = λ told f.
                let X : List Entry → Type 0 = λ xs. Exchanges m n 0 0 (take (i + 1) f.trees) xs in
                subst X (sym items) (drops_more m _ n es was f i entry (omega arith) item (inv.opened told f) zero_lines (step.frees told zero_lines));
            some = subst some (sym items) inv.some;
            fields = subst fields (sym items) inv.fields;
            lines = omega (arith, ap lines_below items, inv.lines, count, ap (λ (e : Entry). e.lines) item, zero_lines);
            kept = Continues-trans g.met.P.Pages.stays_on inv.kept step.kept;
            faults = step.cause.none (λ failed. absurd (cc)) ∙ inv.faults;
          }
    ]

pub returns-clause-opens : goal.returns-clause-opens
returns-clause-opens g c = λ told f. exchanged_all _ _ 0 0 c.args.entries.now c.entries.left.items f c.entries.entry-index (omega arith) (c.entries.invariant.opened told f)
