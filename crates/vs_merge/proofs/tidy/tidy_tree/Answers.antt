use Rattle.std.proofs.Common.{◌≡◌, ℕ, ◌-◌, ◌*◌, ◌≤◌, length, sym, ap, subst, ◌∙◌, arith}
use Rattle.std.proofs.lemmas.Result.{IfOk-weaker}
use Rattle.vs_pages.specs.Maps.{Map}
use Rattle.vs_pages.specs.State.{PageState}
use Rattle.vs_pages.proofs.Steps.{Continues-trans}
use Rattle.vs_tree_shape.specs.declared.entries.Entry.{Entry}
use Rattle.vs_tree_shape.specs.Changes.{HasLineBelow, pointer_entry}
use Rattle.vs_tree_shape.specs.Keeps.{IsReady, IsThick, KeepsBelow}
use Rattle.vs_tree_shape.specs.Sames.{one_list}
use Rattle.vs_tree_blocks.specs.Blocks.{tree_format}
use Rattle.vs_tree_blocks.proofs.Outcomes.{if_ok_both}
use Rattle.vs_merge.specs.Roots.{LowersRoot, StandsDeep}
use Rattle.vs_merge.specs.Tidies.{TouchesBelow, WorksBeside}
use Rattle.vs_merge.proofs.Lowering.{kept_stands, lowered_stands, stands_above, tidied_all}
use Rattle.vs_merge.proofs.tidy.tidy_tree.Goals as goal

pub tidy_below-requires-clause-there : goal.tidy_below-requires-clause-there
tidy_below-requires-clause-there g c = λ told.
    let s = c.requires.there told in
    let n1 : Map = (g.P.Pages.shows c.lower_root.new.pages).present in
    let s1 : StandsDeep n1 c.in_ok-high.high c.args.lines = lowered_stands _ n1 c.args.height c.in_ok-high.high c.args.lines s (c.in_ok-high.ensures.lowers told s.list s.has) in
    subst (λ (x : Entry). HasLineBelow tree_format n1 x c.in_ok-high.high c.args.at) (sym c.root_entry.ensures) (stands_above n1 c.in_ok-high.high c.args.lines c.args.at s1 c.requires.within c.requires.small)

pub lower_root-requires-2-clause-there : goal.lower_root-requires-2-clause-there
lower_root-requires-2-clause-there g c = λ told.
    let s = c.requires.there told in
    let high : ℕ = c.in_ok-high.high in
    let at : ℕ = c.args.at in
    let n1 : Map = (g.P.Pages.shows c.lower_root.new.pages).present in
    let n2 : Map = (g.P.Pages.shows c.tidy_below.new.pages).present in
    let s1 : StandsDeep n1 high c.args.lines = lowered_stands _ n1 c.args.height high c.args.lines s (c.in_ok-high.ensures.lowers told s.list s.has) in
    let keeps = subst (λ (x : Entry). KeepsBelow tree_format n1 n2 x high at (λ t. IsReady 1 high t at) (λ t. IsThick 1 high t)) c.root_entry.ensures (c.in_ok-tidy_below.ensures.tidies told 1 (omega arith)) in
    kept_stands n1 n2 high c.args.lines at (λ t. IsReady 1 high t at) (λ t. IsThick 1 high t) s1 c.requires.within c.requires.small keeps

pub returns-clause-tidies : goal.returns-clause-tidies
returns-clause-tidies g c =
    let high : ℕ = c.in_ok-high.high in
    let at : ℕ = c.args.at in
    let a : PageState = g.P.Pages.shows c.args.pages.now in
    let b : PageState = g.P.Pages.shows c.lower_root.new.pages in
    let d : PageState = g.P.Pages.shows c.tidy_below.new.pages in
    let e : PageState = g.P.Pages.shows c.lower_root-2.new.pages in
    if_ok_both c.lower_root-2.result _ _ _ (λ (now : ℕ) both lower told list has.
    let s = c.requires.there told in
    let count : length list ≡ c.args.lines = ap length (one_list tree_format a.present c.args.height list s.list has s.has) ∙ s.count in
    let tidies : (need : ℕ) → 1 ≤ need → KeepsBelow tree_format b.present d.present (pointer_entry 1 c.args.lines) high at (λ t. IsReady need high t at) (λ t. IsThick need high t) = λ need some. subst (λ (x : Entry). KeepsBelow tree_format b.present d.present x high at (λ t. IsReady need high t at) (λ t. IsThick need high t)) c.root_entry.ensures (c.in_ok-tidy_below.ensures.tidies told need some) in
    tidied_all a b d e c.args.height high now at c.args.lines list has count c.requires.within c.requires.small c.in_ok-high.ensures.lower lower
    (c.in_ok-high.ensures.lowers told list has) tidies (λ mid. both.0 told list mid) (c.in_ok-high.ensures.works told)
    (subst (λ (x : Entry). WorksBeside b.worked d.worked x.block (2 * (high - 1))) c.root_entry.ensures (c.in_ok-tidy_below.ensures.works told)) (both.1 told))
    (if_ok_both c.lower_root-2.result _ _ (λ (now : ℕ). LowersRoot g.P.Pages c.tidy_below.new.pages c.lower_root-2.new.pages high now × TouchesBelow g.P.Pages c.tidy_below.new.pages c.lower_root-2.new.pages 1 (high - now))
    (λ (now : ℕ) lowers works. (lowers, works)) c.lower_root-2.ensures.lowers c.lower_root-2.ensures.works)
    c.lower_root-2.ensures.lower

pub returns-clause-lower : goal.returns-clause-lower
returns-clause-lower g c = IfOk-weaker c.lower_root-2.result _ _ (λ (now : ℕ) lower. omega (arith, lower, c.in_ok-high.ensures.lower)) c.lower_root-2.ensures.lower

pub returns-in_err-tidy_below-clause-kept : goal.returns-in_err-tidy_below-clause-kept
returns-in_err-tidy_below-clause-kept g c = Continues-trans g.met.P.Pages.stays_on c.lower_root.ensures.kept c.tidy_below.ensures.kept

pub returns-clause-kept : goal.returns-clause-kept
returns-clause-kept g c = Continues-trans g.met.P.Pages.stays_on (Continues-trans g.met.P.Pages.stays_on c.lower_root.ensures.kept c.tidy_below.ensures.kept) c.lower_root-2.ensures.kept
