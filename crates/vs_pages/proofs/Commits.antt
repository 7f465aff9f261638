-- Each number was last changed by a commit that there was: one more changes numbers itself, and is then one of them.
use Rattle.std.proofs.Common.{◌≡◌, ℕ, List, [], sym, subst, arith}
use Rattle.std.proofs.lemmas.Bool.Decides.{nat_tests}
use Rattle.vs_pages.specs.State.{AreMade, Commits, one_more}
use Rattle.vs_pages.specs.Table.{last_in}

pub made_none : AreMade (record { count = 1; last = last_in [] })
made_none small k = omega arith

pub made_as : (old new : Commits) → new ≡ old → AreMade old → AreMade new
made_as old new same made = subst AreMade (sym same) made

pub made_more : (worked : List ℕ) (commits : Commits) → AreMade commits → AreMade (one_more worked commits)
made_more worked commits made small k =
    let before = made (omega (arith, small)) k in
    grind (arith, nat_tests, before, small)
