-- A line is put together from pieces: what was taken of it and what is left make up the script, and its first bytes are kept.
use Rattle.std.proofs.Common.{◌≡◌, ◌≢◌, ℕ, ◌<◌, ◌≤◌, ◌+◌, ◌-◌, List, [], ◌∷◌, ◌++◌, length, take, drop, min, refl, sym, ap, subst, ◌∙◌, append_assoc, append-nil, arith, inl, inr, true, false}
use Rattle.std.proofs.Math.Seq.{take-append-add}
use Rattle.std.proofs.lemmas.Bool.{true≢false}
use Rattle.std.proofs.lemmas.Bool.Decides.{leb_tells}
use Rattle.std.proofs.lemmas.List.{drop-take, drop-drop, length-take, length-append, take-append-le, take_all, take_min}
use Rattle.std.proofs.lemmas.List.Elements.{All-append, All-nil, All-take}
use Rattle.std.proofs.Math.Nat.{min_comm}
use Rattle.vs_host.specs.World.{Scene}
use Rattle.vs_text.specs.Text.{IsLine, lines_of}
use Rattle.vs_text.proofs.LineEnds.{lines_of-line, lines_of_last}
use Rattle.vs_script.specs.declared.reader.ScriptErr.{ScriptErr}
use Rattle.vs_script.specs.Ahead.{Ahead, GoesOn, Kept, IsKeptOf, Stops, IsLeft, ReadsLine, whole_lines}
use Rattle.vs_script.proofs.Lines.{whole_lines-line, whole_lines_none}
use Rattle.vs_script.proofs.Going.{goes_on_start}

pub drop_range : (n at end : ℕ) (xs : List ℕ) → n ≤ end - at → drop n (take (end - at) (drop at xs)) ≡ take (end - (at + n)) (drop (at + n) xs)
drop_range n at end xs within =
    let parts : end - at ≡ n + (end - (at + n)) = omega arith in
    rw (parts, drop-take, drop-drop)

pub within_range : (n at end : ℕ) (xs : List ℕ) → n ≤ length (take (end - at) (drop at xs)) → n ≤ end - at
within_range n at end xs h = omega (arith, length-take (end - at) (drop at xs))

-- what is taken of a list and a piece goes past the end of the list
take_past : (n : ℕ) (xs ys : List ℕ) → length xs ≤ n → take n (xs ++ ys) ≡ xs ++ take (n - length xs) ys
take_past n xs ys short =
    let sum : n ≡ length xs + (n - length xs) = omega (arith, short) in
    ap (λ k. take k (xs ++ ys)) sum ∙ take-append-add xs ys (n - length xs)

-- the part of a piece that there is room for
pub take_room : (n : ℕ) (xs ys : List ℕ) → length xs ≤ n → xs ++ take (min (length ys) (n - length xs)) ys ≡ take n (xs ++ ys)
take_room n xs ys short =
    let fewer : take (min (length ys) (n - length xs)) ys ≡ take (n - length xs) ys =
    ap (λ k. take k ys) (min_comm (length ys) (n - length xs)) ∙ take_min (n - length xs) ys in
    ap (λ (l : List ℕ). xs ++ l) fewer ∙ sym (take_past n xs ys short)

-- a line that goes on, of which the first bytes are kept
take_on : (n : ℕ) (line piece : List ℕ) → take n (take n line ++ piece) ≡ take n (line ++ piece)
take_on n line piece = elim (leb_tells n (length line)) [
  | inl long ↦
      let size : length (take n line) ≡ n = length-take n line ∙ omega (arith, long.1) in
      take-append-le n (take n line) piece (omega (arith, size)) ∙ take_all n (take n line) (omega (arith, size)) ∙ sym (take-append-le n line piece long.1)
  | inr short ↦ ap (λ (l : List ℕ). take n (l ++ piece)) (take_all n line (omega (arith, short.1)))
]

-- a piece was added to what is kept of a line
abbrev pub HasAdded : Kept → Kept → List ℕ → Type 0
HasAdded kept kept' piece = kept' ≡ record kept { bytes = take kept.room (kept.bytes ++ piece) }

-- What is kept of a line and a piece has no byte 10 where these have none, and is no longer than they are.
pub line_is_kept : (kept kept' : Kept) (piece : List ℕ) → IsLine kept.bytes → IsLine piece → HasAdded kept kept' piece → IsLine kept'.bytes
line_is_kept kept kept' piece one two added =
    subst (λ (k : Kept). IsLine k.bytes) (sym added) (All-take (λ byte. byte ≢ 10) kept.room (kept.bytes ++ piece) (All-append (λ byte. byte ≢ 10) kept.bytes piece one two))

pub kept_is_shorter : (kept kept' : Kept) (piece : List ℕ) → HasAdded kept kept' piece → length kept'.bytes ≤ length kept.bytes + length piece
kept_is_shorter kept kept' piece added =
    omega (arith, ap (λ (k : Kept). length k.bytes) added, length-take kept.room (kept.bytes ++ piece), length-append kept.bytes piece)

-- What is known in the middle of a line: its bytes so far, of which the first are kept.
pub record InLine (kept : Kept) (old now : Ahead) (before mid : Scene) : Type 0 where
  pub line : List ℕ
  pub is_kept : IsKeptOf kept line
  pub is_line : IsLine line
  pub whole : old.bytes ++ before.script ≡ (line ++ now.bytes) ++ mid.script
  pub going : now.ended ≡ false → GoesOn (λ bytes. bytes) (λ bytes. line ++ bytes) old now before mid

pub line_begins : (old : Ahead) (before : Scene) (kept : Kept) → kept.bytes ≡ [] → InLine kept old old before before
line_begins old before kept none =
    record {
      line = [];
      is_kept = none ∙ sym (take_all kept.room [] (omega arith));
      is_line = All-nil (λ byte. byte ≢ 10);
      whole = refl;
      going = λ open_before. goes_on_start (λ bytes. bytes) old before open_before;
    }

kept_more : (kept kept' : Kept) (line piece : List ℕ) → IsKeptOf kept line → HasAdded kept kept' piece → IsKeptOf kept' (line ++ piece)
kept_more kept kept' line piece is added =
    ap (λ (k : Kept). k.bytes) added ∙ ap (λ (l : List ℕ). take kept.room (l ++ piece)) is ∙ take_on kept.room line piece
    ∙ ap (λ (k : Kept). take k.room (line ++ piece)) (sym added)

-- byte 10 was found in what was read ahead
pub reads_line : (old now new : Ahead) (before mid : Scene) (kept kept' : Kept) (front tail : List ℕ) → InLine kept old now before mid
    → now.bytes ≡ front ++ 10 ∷ tail → IsLine front → new ≡ record now { bytes = tail } → HasAdded kept kept' front → ReadsLine true kept' old new before mid
reads_line old now new before mid kept kept' front tail so_far parts front_is skipped more =
    let found : List ℕ = so_far.line ++ front in
    let is : IsLine found = All-append (λ byte. byte ≢ 10) so_far.line front so_far.is_line front_is in
    let joined : (rest : List ℕ) → so_far.line ++ (now.bytes ++ rest) ≡ found ++ 10 ∷ (new.bytes ++ rest) = λ rest. rw (parts, skipped) (simp append_assoc) in
    let all : old.bytes ++ before.script ≡ found ++ 10 ∷ (new.bytes ++ mid.script) = so_far.whole ∙ append_assoc so_far.line now.bytes mid.script ∙ joined mid.script in
    record {
      line = found;
      is_kept = kept_more kept kept' so_far.line front so_far.is_kept more;
      ahead = ap lines_of all ∙ lines_of-line found (new.bytes ++ mid.script) is;
      whole = λ open_after.
          let going = so_far.going (sym (ap (λ (a : Ahead). a.ended) skipped) ∙ open_after) in (
            refl,
            record {
              open_before = going.open_before;
              fresh = going.fresh;
              script = going.script;
              count = ap (λ (a : Ahead). a.taken) skipped ∙ going.count;
              each = λ rest. ap whole_lines (going.each rest ∙ joined rest) ∙ whole_lines-line found (new.bytes ++ rest) is;
            },
          );
    }

-- The script's end was seen.
pub record IsAtEnd (new : Ahead) (mid after : Scene) : Type 0 where
  pub script : mid.script ≡ new.bytes ++ after.script
  pub none : new.bytes ≡ []
  pub end : after.script ≡ []
  pub ended : new.ended ≡ true

nothing_left : (new : Ahead) (mid after : Scene) → IsAtEnd new mid after → new.bytes ++ after.script ≡ []
nothing_left new mid after end = rw (end.none, end.end) refl

all_taken : (old now new : Ahead) (before mid after : Scene) (kept : Kept) → (so_far : InLine kept old now before mid) → IsAtEnd new mid after
    → old.bytes ++ before.script ≡ so_far.line ++ now.bytes
all_taken old now new before mid after kept so_far end =
    so_far.whole ∙ ap (λ (l : List ℕ). (so_far.line ++ now.bytes) ++ l) (end.script ∙ nothing_left new mid after end) ∙ append-nil (so_far.line ++ now.bytes)

-- what is left at the script's end is its last line
pub reads_last : (old now new : Ahead) (before mid after : Scene) (kept kept' : Kept) → InLine kept old now before mid → IsAtEnd new mid after
    → IsLine now.bytes → HasAdded kept kept' now.bytes → 0 < length kept'.bytes → ReadsLine true kept' old new before after
reads_last old now new before mid after kept kept' so_far end ahead_is more some =
    let found : List ℕ = so_far.line ++ now.bytes in
    let is : IsLine found = All-append (λ byte. byte ≢ 10) so_far.line now.bytes so_far.is_line ahead_is in
    let is_kept : IsKeptOf kept' found = kept_more kept kept' so_far.line now.bytes so_far.is_kept more in
    let long : 0 < length found = omega (arith, some, ap (λ (l : List ℕ). length l) is_kept, length-take kept'.room found) in
    record {
      line = found;
      is_kept = is_kept;
      ahead = ap lines_of (all_taken old now new before mid after kept so_far end) ∙ lines_of_last found long is
          ∙ ap (λ (l : List ℕ). found ∷ lines_of l) (sym (nothing_left new mid after end));
      whole = λ open_after. absurd (true≢false (sym end.ended ∙ open_after));
    }

empty_is_nil : (xs : List ℕ) → length xs ≡ 0 → xs ≡ []
empty_is_nil [] none = refl
empty_is_nil (x ∷ xs) none = absurd (omega (arith, none))

-- there is no line left
pub reads_none : (old now new : Ahead) (before mid after : Scene) (kept kept' : Kept) → InLine kept old now before mid → IsAtEnd new mid after
    → HasAdded kept kept' now.bytes → 0 < kept'.room → length kept'.bytes ≡ 0 → ReadsLine false kept' old new before after
reads_none old now new before mid after kept kept' so_far end more room none =
    let found : List ℕ = so_far.line ++ now.bytes in
    let is_kept : IsKeptOf kept' found = kept_more kept kept' so_far.line now.bytes so_far.is_kept more in
    let short : length found ≡ 0 = omega (arith, room, none, ap (λ (l : List ℕ). length l) is_kept, length-take kept'.room found) in
    record {
      line = found;
      is_kept = is_kept;
      ahead = (ap lines_of (nothing_left new mid after end), ap lines_of (all_taken old now new before mid after kept so_far end ∙ empty_is_nil found short));
      whole = λ open_after. absurd (true≢false (sym end.ended ∙ open_after));
    }

-- a line that was begun where the reader stops
pub line_stops : (error : ScriptErr) (old now new : Ahead) (before mid after : Scene) (kept : Kept) → InLine kept old now before mid → IsLine now.bytes
    → now.ended ≡ false → new.taken ≡ now.taken → IsLeft error mid.script new after → Stops error whole_lines [] old new before after
line_stops error old now new before mid after kept so_far ahead_is was taken left =
    let going = so_far.going was in
    let found : List ℕ = so_far.line ++ now.bytes in
    let is : IsLine found = All-append (λ byte. byte ≢ 10) so_far.line now.bytes so_far.is_line ahead_is in
    let begun : old.bytes ++ going.fresh ≡ found = sym (append-nil (old.bytes ++ going.fresh)) ∙ going.each [] ∙ ap (λ (l : List ℕ). so_far.line ++ l) (append-nil now.bytes) in
    record {
      open_before = going.open_before;
      fresh = going.fresh;
      left = mid.script;
      is_left = left;
      script = going.script;
      count = taken ∙ going.count;
      value_is = ap whole_lines begun ∙ whole_lines_none found is;
    }

piece_goes_on : (old now new : Ahead) (before mid after : Scene) (line : List ℕ) → GoesOn (λ bytes. bytes) (λ bytes. line ++ bytes) old now before mid
    → mid.script ≡ new.bytes ++ after.script → new.taken ≡ now.taken + length new.bytes
    → GoesOn (λ bytes. bytes) (λ bytes. (line ++ now.bytes) ++ bytes) old new before after
piece_goes_on old now new before mid after line so_far script taken =
    record {
      open_before = so_far.open_before;
      fresh = so_far.fresh ++ new.bytes;
      script = so_far.script ∙ ap (λ (l : List ℕ). so_far.fresh ++ l) script ∙ sym (append_assoc so_far.fresh new.bytes after.script);
      count = rw (length-append) (omega (arith, taken, so_far.count));
      each = λ rest.
          let step : (old.bytes ++ so_far.fresh) ++ (new.bytes ++ rest) ≡ line ++ (now.bytes ++ (new.bytes ++ rest)) = so_far.each (new.bytes ++ rest) in
          let left : (old.bytes ++ (so_far.fresh ++ new.bytes)) ++ rest ≡ (old.bytes ++ so_far.fresh) ++ (new.bytes ++ rest) = simp append_assoc in
          left ∙ step ∙ simp append_assoc;
    }

-- one more piece
pub line_goes_on : (old now new : Ahead) (before mid after : Scene) (kept kept' : Kept) → InLine kept old now before mid → IsLine now.bytes
    → mid.script ≡ new.bytes ++ after.script → new.taken ≡ now.taken + length new.bytes → (new.ended ≡ false → now.ended ≡ false)
    → HasAdded kept kept' now.bytes → InLine kept' old new before after
line_goes_on old now new before mid after kept kept' so_far ahead_is script taken was more =
    record {
      line = so_far.line ++ now.bytes;
      is_kept = kept_more kept kept' so_far.line now.bytes so_far.is_kept more;
      is_line = All-append (λ byte. byte ≢ 10) so_far.line now.bytes so_far.is_line ahead_is;
      whole = so_far.whole ∙ ap (λ (l : List ℕ). (so_far.line ++ now.bytes) ++ l) script ∙ sym (append_assoc (so_far.line ++ now.bytes) new.bytes after.script);
      going = λ open_after. piece_goes_on old now new before mid after so_far.line (so_far.going (was open_after)) script taken;
    }
