-- The first part of an output, the first moment with so many bytes, and what a write of files leaves of other names.
use Rattle.std.proofs.Common.{◌≡◌, inl, inr, ℕ, ◌≤◌, List, [], ◌∷◌, ◌++◌, length, length-append, refl, sym, ◌∙◌, ap, subst, arith, append_assoc}
use Rattle.std.proofs.lemmas.List.{append-nil}
use Rattle.std.specs.Prelude.{Bool, Option, Some, None, IfSome}
use Rattle.vs_host.specs.Disk.{Disk, Name}
use Rattle.vs_host.specs.Trace.{Snapshot, Each}
use Rattle.vs_host.specs.declared.names.Names.{Names}
use Rattle.vs_disk.specs.Names.{SameAt}
use Rattle.vs_disk.proofs.Others.{same_none, same_then}
use Rattle.vs_disk.proofs.Runs.{Each-append}
use Rattle.vs_pair.proofs.MadeFiles.{same_weaker}
use Rattle.vs_backup.specs.Backups.{copies}
use Rattle.vs_backup.proofs.Replacing.{replaces_takes}
use Rattle.vs_safety.specs.Writes.{AreIn, IsWholeIn, State, Write}
use Rattle.vs_safety.specs.Undo.{IsUndoIn, LeavesUndo, UndoWrite}
use Rattle.vs_safety.specs.FileWork.{FileWork, EditedFile, UndoFile, BothFiles, KeepsAmong, AvoidsFiles, IsFoundIn, IsWholeAt, HasLeft}
use Rattle.vs_safety.specs.Turns.{Turn, SparesOthers}
use Rattle.vs_safety.specs.Stretches.{IsFirst, IsShorter, BeginsAsAtStart}
use Rattle.vs_safety.specs.Safety.{IsFirstPart}
use Rattle.vs_safety.proofs.Splits.{avoid_front, avoid_back}

-- ---- first parts

pub part_same : (whole : List ℕ) → IsFirstPart whole whole
part_same whole = ([], sym (append-nil whole))

pub part_of : (first whole : List ℕ) → whole ≡ first → IsFirstPart first whole
part_of first whole is = ([], is ∙ sym (append-nil first))

pub part_then : (a b c : List ℕ) → IsFirstPart a b → IsFirstPart b c → IsFirstPart a c
part_then a b c p q = (p.0 ++ q.0, q.1 ∙ ap (λ (l : List ℕ). l ++ q.0) p.1 ∙ append_assoc a p.0 q.0)

pub part_long : (a b : List ℕ) → IsFirstPart a b → length a ≤ length b
part_long a b p = omega (arith, ap (λ (l : List ℕ). length l) p.1, length-append a p.0)

-- ---- stretches

-- among more moments
pub first_in : (n : ℕ) (all newer moments : List Snapshot) (m : Snapshot) → all ≡ newer ++ moments → IsFirst n moments m → IsFirst n all m
first_in n all newer moments m are first = record {
  newer = newer ++ first.newer;
  older = first.older;
  is = are ∙ ap (λ (ms : List Snapshot). newer ++ ms) first.is ∙ sym (append_assoc newer first.newer (m ∷ first.older));
  reached = first.reached;
  not_before = first.not_before;
}

-- before earlier moments
pub with_older : (n : ℕ) (moments older : List Snapshot) (m : Snapshot) → Each (IsShorter n) older → IsFirst n moments m → IsFirst n (moments ++ older) m
with_older n moments older m shorter first = record {
  newer = first.newer;
  older = first.older ++ older;
  is = ap (λ (ms : List Snapshot). ms ++ older) first.is ∙ append_assoc first.newer (m ∷ first.older) older;
  reached = first.reached;
  not_before = Each-append (IsShorter n) first.older older first.not_before shorter;
}

pub opens_stays : (others : Name → Bool) (start : Disk) (moments newer : List Snapshot) (n : ℕ) → BeginsAsAtStart others start moments n → BeginsAsAtStart others start (newer ++ moments) n
opens_stays others start moments newer n opens = record { first = opens.first; begins = first_in n (newer ++ moments) newer moments opens.first refl opens.begins; same = opens.same }

-- a folder that is the same
pub keeps_same : (others : Name → Bool) (names : Names) (write : Option FileWork) (old new : Disk) → new ≡ old → KeepsAmong others names write old new
keeps_same others names write old new same = subst (λ (d : Disk). KeepsAmong others names write old d) (sym same) (unchanged write)
  where
    unchanged : (write : Option FileWork) → KeepsAmong others names write old old
    unchanged None = same_none others old
    unchanged (Some (EditedFile write)) = record { apart = λ inside foreign avoids apart. same_none inside old; settled = λ inside start foreign avoids settled was. was }
    unchanged (Some (UndoFile undo)) = λ inside foreign avoids. same_none inside old
    unchanged (Some (BothFiles write undo)) = record { apart = λ inside foreign avoids apart. same_none inside old; settled = λ inside start foreign avoids settled was. was }

-- ---- a write

-- what was spared goes on to be spared, but for the names on which a command writes
keeps_on : (others : Name → Bool) (names : Names) (write : Option FileWork) (start old new : Disk) (inside : Name → Bool) → start.pending ≡ [] → AreIn others inside → IfSome write (λ w. AvoidsFiles names w inside)
    → KeepsAmong others names write old new → SameAt inside start old → SameAt inside start new
keeps_on others names None start old new inside settled foreign avoids keeps same = same_then inside start old new same (same_weaker others inside old new foreign keeps)
keeps_on others names (Some (EditedFile write)) start old new inside settled foreign avoids keeps same = keeps.settled inside start foreign avoids settled same
keeps_on others names (Some (UndoFile undo)) start old new inside settled foreign avoids keeps same = same_then inside start old new same (keeps inside foreign avoids)
keeps_on others names (Some (BothFiles write undo)) start old new inside settled foreign avoids keeps same = keeps.settled inside start foreign avoids settled same

pub spared_step : (others : Name → Bool) (names : Names) (turn : Turn) (turns : List Turn) (start old new : Disk) → start.pending ≡ [] → SparesOthers others names turns start old → KeepsAmong others names turn.write old new
    → SparesOthers others names (turns ++ turn ∷ []) start new
spared_step others names turn turns start old new settled spared keeps inside foreign all =
    keeps_on others names turn.write start old new inside settled foreign (avoid_back names inside turns (turn ∷ []) all).0 keeps (spared inside foreign (avoid_front names inside turns (turn ∷ []) all))

-- as it begins, nothing has changed
write_found : (names : Names) (write : Write) (folder : Disk) → write.found ≡ folder → IsWholeIn names write folder
write_found names write folder found = subst (λ (d : Disk). IsWholeIn names write d) found (record { backed = λ old backup is made. inl (record { read = λ name is. refl; left = λ image part. part }); replaced = λ old backup is made. replaces_takes (copies write.options.copy) names.file backup old write.found write.found (λ left may. inr may); in_place = λ old backup is made copied. refl; fresh = λ none left may. inr may })

undo_found : (names : Names) (undo : UndoWrite) (folder : Disk) → undo.found ≡ folder → IsUndoIn names undo folder
undo_found names undo folder found = subst (λ (d : Disk). IsUndoIn names undo d) found (λ left may. inl may)

pub whole_found : (names : Names) (write : Option FileWork) (folder : Disk) → IfSome write (λ w. IsFoundIn w folder) → IfSome write (λ w. IsWholeAt names w folder)
whole_found names None folder found = tt
whole_found names (Some (EditedFile write)) folder found = (write_found names write folder found, subst (λ (d : Disk). LeavesUndo names d folder) (sym found) (λ left may. may))
whole_found names (Some (UndoFile undo)) folder found = undo_found names undo folder found
whole_found names (Some (BothFiles write undo)) folder found =
    (write_found names write folder found.0, (undo_found names undo folder found.1, inl (subst (λ (d : Disk). LeavesUndo names d folder) (sym found.0) (λ left may. may))))

pub written_found : (names : Names) (write : Option FileWork) (done failed : Bool) (old new : State) → IfSome write (λ w. HasLeft names w done failed old new) → IfSome write (λ w. IsFoundIn w old.folder)
written_found names None done failed old new wrote = tt
written_found names (Some (EditedFile write)) done failed old new wrote = wrote.found
written_found names (Some (UndoFile undo)) done failed old new wrote = wrote.found
written_found names (Some (BothFiles write undo)) done failed old new wrote = (wrote.0.found, wrote.1.found)

pub each_both : (P Q : Snapshot → Type 0) (moments : List Snapshot) → Each P moments → Each Q moments → Each (λ m. P m × Q m) moments
each_both P Q [] p q = tt
each_both P Q (m ∷ moments) p q = ((p.0, q.0), each_both P Q moments p.1 q.1)
