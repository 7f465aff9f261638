-- What a stop may leave under the name of the undo file, from command to command: each leaves what was left before, or its own undo file.
use Rattle.std.proofs.Common.{◌≡◌, ◌⊎◌, inl, inr, ℕ, Bool, true, false, not, ◌&&◌, ◌||◌, is_some, List, [], ◌∷◌, ◌++◌, Option, Some, None, IfSome, IsSomeAnd, refl, sym, ◌∙◌, ap, subst}
use Rattle.std.proofs.lemmas.Bool.{cases_Bool, true≢false}
use Rattle.vs_host.specs.Disk.{Disk, Name, names_at, IsImageOf}
use Rattle.vs_host.specs.Names.{AreNames}
use Rattle.vs_host.specs.declared.names.Names.{Names}
use Rattle.vs_host.proofs.Apart.{names_apart}
use Rattle.vs_disk.specs.Images.{HoldsBytes, MayLeave}
use Rattle.vs_disk.specs.Names.{SameAt}
use Rattle.vs_disk.proofs.Others.{image_same}
use Rattle.vs_disk.proofs.Steps.{differ}
use Rattle.vs_pair.specs.Pair.{is_foreign}
use Rattle.vs_undo.specs.History.{History}
use Rattle.vs_safety.specs.Texts.{Text}
use Rattle.vs_safety.specs.Writes.{State}
use Rattle.vs_safety.specs.Undo.{HasUndo, IsUndoIn, IsUndoOf, UndoWrite}
use Rattle.vs_safety.specs.FileWork.{FileWork, EditedFile, UndoFile, BothFiles, KeepsAmong, IsFoundIn, IsWholeAt, HasLeft, undo_stored}
use Rattle.vs_safety.specs.Turns.{Turn, IsLastUndo, IsUndoBy, KeepsUndo, NoneStored, has_stored}

-- ---- one name

pub leaves_same : (inside : Name → Bool) (name : Name) (old new : Disk) → inside name ≡ true → SameAt inside old new → (left : Option (List ℕ)) → MayLeave new name left → MayLeave old name left
leaves_same inside name old new is same left may =
    let at = same.back may.0 in
    (at.0, image_same old new (names_at old at.0 name) (names_at new may.0 name) left (at.1 name is) (λ number leads. same.files may.0 name number is leads) may.1)

held_only : (name : Name) (bytes : List ℕ) (disk : Disk) (left : Option (List ℕ)) → HoldsBytes name bytes disk → MayLeave disk name left → left ≡ Some bytes
held_only name bytes disk left holds may =
    let at = holds may.0 in
    let image : IsImageOf disk (Some at.number) left = subst (λ (o : Option ℕ). IsImageOf disk o left) at.leads may.1 in
    image.1 ∙ ap Some (at.leaves image.0 image.2)

-- it is none of the names of the pair
pub undo_foreign : (names : Names) → AreNames names → is_foreign names names.undo ≡ true
undo_foreign names are =
    let all = names_apart names are in
    (
    λ i. not
    ((differ names.swp names.undo all.1.0.1.0 i || differ names.swo names.undo all.1.1.0.0 i)
    || (differ names.swp_new names.undo (λ is. all.1.1.1.0.1.0 (sym is)) i || differ names.swo_new names.undo (λ is. all.1.1.1.0.1.1.0 (sym is)) i))
    )

-- ---- one command

module _ (names : Names) where
  found_in : (undo : UndoWrite) (old new : Disk) → undo.found ≡ old → IsUndoIn names undo new → (left : Option (List ℕ)) → MayLeave new names.undo left
      → MayLeave old names.undo left ⊎ IsSomeAnd left (IsUndoOf undo.text undo.history)
  found_in undo old new found whole left may =
      subst (λ (d : Disk). MayLeave d names.undo left ⊎ IsSomeAnd left (IsUndoOf undo.text undo.history)) found (whole left may)

  -- at a moment of it
  pub undo_moment : (others : Name → Bool) (work : Option FileWork) (old new : Disk) → others names.undo ≡ true → IfSome work (λ w. IsFoundIn w old) → KeepsAmong others names work old new → IfSome work (λ w. IsWholeAt names w new)
      → (left : Option (List ℕ)) → MayLeave new names.undo left → MayLeave old names.undo left ⊎ IsUndoBy work left
  undo_moment others None old new foreign found keeps whole left may = inl (leaves_same others names.undo old new foreign keeps left may)
  undo_moment others (Some (EditedFile write)) old new foreign found keeps whole left may = inl (subst (λ (d : Disk). MayLeave d names.undo left) found (whole.1 left may))
  undo_moment others (Some (UndoFile undo)) old new foreign found keeps whole left may = found_in undo old new found whole left may
  undo_moment others (Some (BothFiles write undo)) old new foreign found keeps whole left may = found_in undo old new found.1 whole.1.0 left may

  stored_only : (text : Text) (history : History) (new : Disk) → HasUndo names text history new → (left : Option (List ℕ)) → MayLeave new names.undo left
      → IsSomeAnd left (IsUndoOf text history)
  stored_only text history new stored left may =
      subst (λ (o : Option (List ℕ)). IsSomeAnd o (IsUndoOf text history)) (sym (held_only names.undo stored.0 new left stored.2 may)) stored.1

  first_true : (a b : Bool) → (a && b) ≡ true → a ≡ true
  first_true true b is = refl
  first_true false b is = is

  -- where it stored one
  undo_end_of : (work : Option FileWork) (done failed : Bool) (old new : State) → IfSome work (λ w. HasLeft names w done failed old new) → (is_some (undo_stored work) && (done && not failed)) ≡ true
      → (left : Option (List ℕ)) → MayLeave new.folder names.undo left → IsUndoBy work left
  undo_end_of None done failed old new wrote is left may = absurd (true≢false (sym is))
  undo_end_of (Some (EditedFile write)) done failed old new wrote is left may = absurd (true≢false (sym is))
  undo_end_of (Some (UndoFile undo)) done failed old new wrote is left may = stored_only undo.text undo.history new.folder (wrote.stored (first_true done (not failed) is)) left may
  undo_end_of (Some (BothFiles write undo)) done failed old new wrote is left may = stored_only undo.text undo.history new.folder (wrote.1.stored is) left may

  pub undo_end : (turn : Turn) (old new : State) → IfSome turn.write (λ w. HasLeft names w turn.done turn.failed old new) → has_stored turn ≡ true
      → (left : Option (List ℕ)) → MayLeave new.folder names.undo left → IsUndoBy turn.write left
  undo_end turn old new wrote is left may = undo_end_of turn.write turn.done turn.failed old new wrote is left may

-- ---- one command more

none_push : (turn : Turn) (turns : List Turn) → has_stored turn ≡ false → NoneStored turns → NoneStored (turns ++ turn ∷ [])
none_push turn [] is none = (is, tt)
none_push turn (first ∷ turns) is none = (none.0, none_push turn turns is none.1)

last_push : (turn : Turn) (turns : List Turn) (left : Option (List ℕ)) → has_stored turn ≡ false → IsLastUndo turns left → IsLastUndo (turns ++ turn ∷ []) left
last_push turn [] left is last = absurd last
last_push turn (first ∷ turns) left is (inl here) = inl (none_push turn turns is here.0, here.1)
last_push turn (first ∷ turns) left is (inr later) = inr (last_push turn turns left is later)

last_own : (turn : Turn) (turns : List Turn) (left : Option (List ℕ)) → IsUndoBy turn.write left → IsLastUndo (turns ++ turn ∷ []) left
last_own turn [] left own = inl (tt, own)
last_own turn (first ∷ turns) left own = inr (last_own turn turns left own)

module _ (names : Names) (start : Disk) (turn : Turn) (turns : List Turn) where
  abbrev Before : Option (List ℕ) → Type 0
  Before left = (NoneStored turns × MayLeave start names.undo left) ⊎ IsLastUndo turns left

  abbrev After : Option (List ℕ) → Type 0
  After left = (NoneStored (turns ++ turn ∷ []) × MayLeave start names.undo left) ⊎ IsLastUndo (turns ++ turn ∷ []) left

  before_only : (left : Option (List ℕ)) → Before left ⊎ ⊥ → Before left
  before_only left (inl was) = was
  before_only left (inr none) = absurd none

  -- a folder in which the command is under way
  pub undo_under_way : (old new : Disk) → KeepsUndo names start turns [] old → ((left : Option (List ℕ)) → MayLeave new names.undo left → MayLeave old names.undo left ⊎ IsUndoBy turn.write left)
      → KeepsUndo names start turns (turn ∷ []) new
  undo_under_way old new keeps moment left may = elim (moment left may) [
    | inl was ↦ inl (before_only left (keeps left was))
    | inr own ↦ inr own
  ]

  -- and where it has ended
  pub undo_ended : (new : Disk) → KeepsUndo names start turns (turn ∷ []) new → (has_stored turn ≡ true → (left : Option (List ℕ)) → MayLeave new names.undo left → IsUndoBy turn.write left)
      → KeepsUndo names start (turns ++ turn ∷ []) [] new
  undo_ended new keeps stored left may = elim (cases_Bool (has_stored turn)) [
    | inl is ↦ inl (inr (last_own turn turns left (stored is left may)))
    | inr is ↦ inl (after is (keeps left may))
  ]
    where
      after : has_stored turn ≡ false → Before left ⊎ IsUndoBy turn.write left → After left
      after is (inl (inl none)) = inl (none_push turn turns is none.0, none.1)
      after is (inl (inr last)) = inr (last_push turn turns left is last)
      after is (inr own) = inr (last_own turn turns left own)

  -- where no next one was known, the command may be it
  pub undo_next : (disk : Disk) → KeepsUndo names start turns [] disk → KeepsUndo names start turns (turn ∷ []) disk
  undo_next disk keeps left may = inl (before_only left (keeps left may))

-- work that spares the name
pub undo_spared : (others : Name → Bool) (names : Names) (start old new : Disk) (turns : List Turn) → others names.undo ≡ true → SameAt others old new → KeepsUndo names start turns [] old → KeepsUndo names start turns [] new
undo_spared others names start old new turns foreign same keeps left may = keeps left (leaves_same others names.undo old new foreign same left may)

pub undo_none : (others : Name → Bool) (names : Names) (start new : Disk) → others names.undo ≡ true → SameAt others start new → KeepsUndo names start [] [] new
undo_none others names start new foreign same left may = inl (inl (tt, leaves_same others names.undo start new foreign same left may))
