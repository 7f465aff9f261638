-- A reply may take several writes: at each moment of them a part of it is there, and the folder is as it was.
use Rattle.std.proofs.Common.{◌≡◌, ◌⊎◌, inl, inr, ℕ, ◌+◌, ◌<◌, ◌≤◌, List, [], ◌∷◌, ◌++◌, length, length-append, take, drop, refl, sym, ◌∙◌, ap, subst, arith, append_assoc}
use Rattle.std.proofs.lemmas.Bool.{cases_lt}
use Rattle.std.proofs.lemmas.List.{append-nil, take_all, take-append-drop}
use Rattle.vs_host.specs.Trace.{WroteOutput, Snapshot, Each}
use Rattle.vs_host.specs.World.{Scene, IsRecorded, LeavesTrace, snapshot_of}
use Rattle.vs_disk.proofs.Runs.{Each-append, Each-weaker}
use Rattle.vs_safety.specs.Writes.{state_now}
use Rattle.vs_safety.specs.Stretches.{IsFirst, IsShorter}
use Rattle.vs_safety.specs.Safety.{IsFirstPart, IsWriting, Writes, Wrote}
use Rattle.vs_safety.specs.History.{Replied}
use Rattle.vs_safety.proofs.Moments.{part_same, part_then, part_long, first_in, with_older}

-- what holds of each of these holds of one of them
pub each_at : (P : Snapshot → Type 0) (moments newer : List Snapshot) (m : Snapshot) (older : List Snapshot) → moments ≡ newer ++ m ∷ older → Each P moments → P m
each_at P moments newer m older is each = among newer (subst (λ (ms : List Snapshot). Each P ms) is each)
  where
    among : (newer : List Snapshot) → Each P (newer ++ m ∷ older) → P m
    among [] each = each.0
    among (x ∷ newer) each = among newer each.1

-- the first n bytes of these
pub first_part : (n : ℕ) (bytes : List ℕ) → IsFirstPart (take n bytes) bytes
first_part n bytes = (drop n bytes, sym (take-append-drop n bytes))

-- a first part that is as long as the whole
pub part_whole : (first whole : List ℕ) → IsFirstPart first whole → length whole ≤ length first → first ≡ whole
part_whole first whole part le = sym (append-nil first) ∙ ap (λ (l : List ℕ). first ++ l) (sym (none part.0 (omega (arith, le, length-append first part.0, ap (λ (l : List ℕ). length l) part.1)))) ∙ sym part.1
  where
    none : (rest : List ℕ) → length rest ≤ 0 → rest ≡ []
    none [] le = refl
    none (x ∷ rest) le = absurd (omega (arith, le))

-- the moment at which it is whole is one of them
pub first_writing : (old new : Scene) (bytes : List ℕ) (wrote : Wrote bytes old new) (some : 0 < length bytes) → IsWriting old new (wrote.whole some).0
first_writing old new bytes wrote some = let first = wrote.whole some in each_at (IsWriting old new) wrote.moments.added first.1.newer first.0 first.1.older first.1.is wrote.moments.each

-- ---- no write, one write, and writes after writes

pub wrote_none : (now : Scene) → Wrote [] now now
wrote_none now = record { output = sym (append-nil now.output); folder = refl; faults = refl; moments = record { added = []; is = refl; each = tt }; whole = λ some. absurd (omega (arith, some)) }

-- one write
module _ (old new : Scene) (n : ℕ) (bytes : List ℕ) (writes : Writes n bytes old new) where
  told_whole : IsRecorded WroteOutput [] old new → Wrote (take n bytes) old new
  told_whole told =
      let m : Snapshot = snapshot_of new WroteOutput [] in
      record {
        output = writes.output;
        folder = writes.folder;
        faults = writes.faults;
        moments = record {
          added = m ∷ [];
          is = told;
          each = (
            record { begun = (take n bytes, writes.output); output = part_same new.output; state = λ i. record { folder = writes.folder i; faults = writes.faults i } },
            tt,
          );
        };
        whole = λ some. (m, record { newer = []; older = []; is = refl; reached = omega arith; not_before = tt });
      }

  left_none : LeavesTrace old new → Wrote (take n bytes) old new
  left_none left = record {
    output = writes.output;
    folder = writes.folder;
    faults = writes.faults;
    moments = record { added = []; is = left.trace; each = tt };
    whole = λ some. absurd (omega (arith, some, ap (λ (l : List ℕ). length l) (sym left.output ∙ writes.output), length-append old.output (take n bytes)));
  }

  pub wrote_one : Wrote (take n bytes) old new
  wrote_one = elim writes.added [ inl told ↦ told_whole told | inr left ↦ left_none left ]

-- writes after writes
module _ (first second : List ℕ) (old mid new : Scene) (one : Wrote first old mid) (two : Wrote second mid new) where
  outputs : new.output ≡ old.output ++ (first ++ second)
  outputs = two.output ∙ ap (λ (l : List ℕ). l ++ second) one.output ∙ append_assoc old.output first second

  states : state_now mid ≡ state_now old
  states = λ i. record { folder = one.folder i; faults = one.faults i }

  earlier : (m : Snapshot) → IsWriting old mid m → IsWriting old new m
  earlier m at = record { begun = at.begun; output = part_then m.output mid.output new.output at.output (second, two.output); state = at.state }

  later : (m : Snapshot) → IsWriting mid new m → IsWriting old new m
  later m at = record { begun = part_then old.output mid.output m.output (first, one.output) at.begun; output = at.output; state = at.state ∙ states }

  longer : length new.output ≡ length mid.output + length second
  longer = ap (λ (l : List ℕ). length l) two.output ∙ length-append mid.output second

  whole_at : 0 < length (first ++ second) → (0 < length second) ⊎ (length second ≤ 0) → (m : Snapshot) × IsFirst (length new.output) (two.moments.added ++ one.moments.added) m
  whole_at some (inl more) =
      let had = two.whole more in (
        had.0,
        with_older (length new.output) two.moments.added one.moments.added had.0
            (Each-weaker (IsWriting old mid) (IsShorter (length new.output)) (λ m at. omega (arith, more, longer, part_long m.output mid.output at.output)) one.moments.added one.moments.each) had.1,
      )
  whole_at some (inr none) =
      let had = one.whole (omega (arith, some, none, length-append first second)) in
      let same : length mid.output ≡ length new.output = omega (arith, none, longer) in
      (had.0, first_in (length new.output) (two.moments.added ++ one.moments.added) two.moments.added one.moments.added had.0 refl (subst (λ (k : ℕ). IsFirst k one.moments.added had.0) same had.1))

  pub wrote_then : Wrote (first ++ second) old new
  wrote_then = record {
    output = outputs;
    folder = two.folder ∙ one.folder;
    faults = two.faults ∙ one.faults;
    moments = record {
      added = two.moments.added ++ one.moments.added;
      is = two.moments.is ∙ ap (λ (ms : List Snapshot). two.moments.added ++ ms) one.moments.is ∙ sym (append_assoc two.moments.added one.moments.added old.trace);
      each = Each-append (IsWriting old new) two.moments.added one.moments.added (Each-weaker (IsWriting mid new) (IsWriting old new) later two.moments.added two.moments.each)
          (Each-weaker (IsWriting old mid) (IsWriting old new) earlier one.moments.added one.moments.each);
    };
    whole = λ some. whole_at some (cases_lt 0 (length second));
  }

-- all of a reply at once
pub replied_one : (reply : List ℕ) (old new : Scene) → 0 < length reply → Writes (length reply) reply old new → Replied reply old new
replied_one reply old new some writes = record { some = some; wrote = subst (λ (l : List ℕ). Wrote l old new) (take_all (length reply) reply (omega arith)) (wrote_one old new (length reply) reply writes) }

-- a reply that is not empty is recorded
pub recorded : (reply : List ℕ) (old new : Scene) → 0 < length reply → Writes (length reply) reply old new → IsRecorded WroteOutput [] old new
recorded reply old new some writes = elim writes.added [
  | inl told ↦ told
  | inr left ↦
      absurd (omega (arith, some, ap (λ (l : List ℕ). length l) (sym left.output ∙ writes.output ∙ ap (λ (l : List ℕ). old.output ++ l) (take_all (length reply) reply (omega arith))), length-append old.output reply))
]
