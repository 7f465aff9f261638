-- The law of a run over a file with a mode: the modes that are allowed are that one and that of the owner alone.
use Rattle.std.proofs.Common.{◌≡◌, ◌⊎◌, inl, inr, ℕ, Bool, true, false, ◌==◌, ◌||◌, List, [], ◌∷◌, Some, option_map, IsSome, eq-eqb, eqb-true, refl, sym, ◌∙◌, ap}
use Rattle.std.proofs.Math.Bool.{or-true}
use Rattle.vs_host.specs.Disk.{Disk, Mode, Name, mode_in, owner_mode}
use Rattle.vs_host.specs.Trace.{GoesOn}
use Rattle.vs_host.specs.World.{Scene}
use Rattle.vs_disk.specs.Modes.{HasModes, KeepsModes}
use Rattle.vs_disk.proofs.Runs.{goes_weaker}
use Rattle.vs_disk.proofs.Steps.{one_state}
use Rattle.vs_machine.specs.declared.command.Mark.{Mark}
use Rattle.vs_top.specs.History.{Past}
use Rattle.vs_top.specs.Promise.{HasRun}
use Rattle.vs_top.specs.Readers.{EachWrites, IsMadeLike}
use Rattle.vs_top.specs.declared.ending.Ending.{Ending}

module _ (bits : Mode) where
  abbrev either : Mode → Bool
  either mode = (mode == bits) || (mode == owner_mode)

  of_owner : either owner_mode ≡ true
  of_owner = or-true (owner_mode == bits)

  one_of : (a b : Bool) → (a || b) ≡ true → (a ≡ true) ⊎ (b ≡ true)
  one_of true b is = inl refl
  one_of false b is = inr is

  made_like : (old new : Disk) → KeepsModes either old new → IsMadeLike bits old new
  made_like old new keeps = record {
    each = λ lost number name leads. elim (keeps.each lost number name leads) [
      | inl may ↦ elim (one_of (new.modes number == bits) (new.modes number == owner_mode) may) [
        | inl is ↦ inl (eqb-true (new.modes number) bits is)
        | inr is ↦ inr (inl (eqb-true (new.modes number) owner_mode is))
      ]
      | inr stood ↦ inr (inr stood)
    ];
  }

  some_same : (a b : Mode) → Some a ≡ Some b → a ≡ b
  some_same a b e = cc

  -- a folder in which nothing is pending
  has_bits : (name : Name) (old : Disk) → old.pending ≡ [] → mode_in old name ≡ Some bits → HasModes either name old
  has_bits name old none is lost number leads =
      let same : old.modes number ≡ bits = some_same (old.modes number) bits (sym (ap (option_map old.modes) (sym (one_state old none lost name) ∙ leads)) ∙ is) in
      ap (λ (b : Bool). b || (old.modes number == owner_mode)) (eq-eqb (old.modes number) bits same)

  each_may : (name : Name) (start : Disk) → HasModes either name start → (past : Past) → EachWrites (λ found. IsSome (mode_in found name)) past
      → EachWrites (λ found. IsSome (mode_in found name) × HasModes either name start) past
  each_may name start has [] found = tt
  each_may name start has (last ∷ past) found = ((λ writes. (found.0 writes, has)), each_may name start has past found.1)

  pub edit_made : (name : List ℕ) (old new : Scene) (end : Ending) (marks : List Mark) (ran : HasRun name old new end marks) → old.folder.pending ≡ [] → mode_in old.folder name ≡ Some bits
      → EachWrites (λ found. IsSome (mode_in found name)) ran.did.past → GoesOn (λ m. IsMadeLike bits old.folder m.folder) old.trace new.trace × IsMadeLike bits old.folder new.folder
  edit_made name old new end marks ran none is found =
      let made = ran.calls.readers either of_owner (each_may name old.folder (has_bits name old.folder none is) ran.did.past found) in (
        goes_weaker (λ m. KeepsModes either old.folder m.folder) (λ m. IsMadeLike bits old.folder m.folder) (λ m keeps. made_like old.folder m.folder keeps) old.trace new.trace made.0,
        made_like old.folder new.folder made.1,
      )
