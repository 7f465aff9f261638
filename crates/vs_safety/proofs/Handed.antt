-- A command hands no file from the names of its family to others, or back.
use Rattle.std.proofs.Common.{◌≡◌, Bool, true, false, not, Option, None, refl}
use Rattle.std.specs.Prelude.{Some, IfSome}
use Rattle.std.proofs.lemmas.Bool.{true≢false, not-false}
use Rattle.vs_host.specs.Disk.{Disk, Name}
use Rattle.vs_host.specs.declared.names.Names.{Names}
use Rattle.vs_disk.specs.Names.{IsApart, SameAt}
use Rattle.vs_pair.proofs.MadeFiles.{same_weaker}
use Rattle.vs_safety.specs.Writes.{AreIn, outside}
use Rattle.vs_safety.specs.FileWork.{FileWork, EditedFile, UndoFile, BothFiles, AvoidsFiles, KeepsAmong}

-- names on which a command does not work, and to whose files no other name leads, are left
pub keeps_avoided : (others : Name → Bool) (names : Names) (write : Option FileWork) (inside : Name → Bool) (old new : Disk) → AreIn others inside → IfSome write (λ work. AvoidsFiles names work inside) → IsApart inside old
    → KeepsAmong others names write old new → SameAt inside old new
keeps_avoided others names None inside old new are avoids apart keeps = same_weaker others inside old new are keeps
keeps_avoided others names (Some (EditedFile write)) inside old new are avoids apart keeps = keeps.apart inside are avoids apart
keeps_avoided others names (Some (UndoFile undo)) inside old new are avoids apart keeps = keeps inside are avoids
keeps_avoided others names (Some (BothFiles write undo)) inside old new are avoids apart keeps = keeps.apart inside are avoids apart

pub keeps_hands : (others : Name → Bool) (names : Names) (write : Option FileWork) (family part : Name → Bool) (old new : Disk) → AreIn others (outside family) → IfSome write (λ work. AvoidsFiles names work (outside family))
    → IsApart (outside family) old → ((a b : Name) → family a ≡ true → family b ≡ true → part a ≡ part b) → IsApart part old → KeepsAmong others names write old new → IsApart part new
keeps_hands others names write family part old new are avoids apart one_side is keeps =
    let left : SameAt (outside family) old new = keeps_avoided others names write (outside family) old new are avoids apart keeps in
    left.hands part (λ a b out_a out_b. one_side a b (not-false (family a) out_a) (not-false (family b) out_b)) is
