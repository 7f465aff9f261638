-- A file that is read forwards: what was taken of its last line, and what follows, are its lines from one on.
use Rattle.std.proofs.Common.{◌≡◌, ◌≢◌, ◌≤◌, ◌<◌, ◌==◌, ◌+◌, ◌-◌, ℕ, zero, suc, List, [], ◌∷◌, ◌++◌, length, take, drop, get_or, Bool, true, false, refl, sym, ap, ◌∙◌, subst, arith, append_assoc, length-take, length-drop, inl, inr, Some, None}
use Rattle.std.specs.Prelude.{min, is_ok, if◌then◌else◌, Result, Ok, Err, OnOk}
use Rattle.std.specs.Io.BufRead.{ends_with_byte}
use Rattle.std.proofs.lemmas.Bool.{cases_lt}
use Rattle.std.proofs.lemmas.Bool.Decides.{nat_tests}
use Rattle.std.proofs.lemmas.Grind.{common_steps}
use Rattle.std.proofs.lemmas.List.{append-nil, drop_all, get_or-take, get_or_default, nil_from_length, take-append-drop, take_all}
use Rattle.std.proofs.lemmas.List.Elements.{All-append, All-nil}
use Rattle.std.proofs.Math.Seq.{drop-length, drop-nil, split_at, take-append-add, take-append_seam, take-length, take-nil}
use Rattle.memchr.specs.Find.{IsFirstByte, Nowhere, Passes, is_byte}
use Rattle.vs_text.specs.declared.format.Format.{Format}
use Rattle.vs_text.specs.declared.format.Format.TheVariants.{Unix, Dos}
use Rattle.vs_text.specs.Text.{IsLine, lines_of}
use Rattle.vs_text.proofs.LineEnds.{length-lines_of, lines_of-line, lines_of_last}
use Rattle.vs_damaged.specs.declared.shown.Marker.TheVariants.{LineMissing}
use Rattle.vs_damaged.specs.Items.{TheMarker, line_item, original_item}
use Rattle.vs_recover.specs.declared.original.Original.{Original}
use Rattle.vs_recover.specs.Original.{Follows, IsNext, Keeps, TakesPiece, ahead}

-- ---- what is kept of a line

take_again : (n : ℕ) (a b : List ℕ) → take n (take n a ++ b) ≡ take n (a ++ b)
take_again zero a b = refl
take_again (suc n) [] b = refl
take_again (suc n) (x ∷ a) b = ap (λ ys. x ∷ ys) (take_again n a b)

-- what is kept of a line whose first part was kept
pub kept_on : (head taken old new : List ℕ) → old ≡ take 1048578 head → Keeps old taken new → new ≡ take 1048578 (head ++ taken)
kept_on head taken old new old_is keeps = keeps ∙ (ap (λ bs. take 1048578 (bs ++ taken)) old_is ∙ take_again 1048578 head taken)

missing : (ends : Bool) (bytes : List ℕ) → 1048577 < length bytes → line_item (if ends then take (length bytes - 1) bytes else bytes) ≡ TheMarker LineMissing
missing true bytes long = let n : length (take (length bytes - 1) bytes) ≡ length bytes - 1 = length-take (length bytes - 1) bytes ∙ omega arith in grind (arith, nat_tests, n, long)
missing false bytes long = grind (arith, nat_tests)

-- a line of which all that is kept is kept is too long
too_long : (format : Format) (bytes : List ℕ) → 1048577 < length bytes → original_item format bytes ≡ TheMarker LineMissing
too_long Unix bytes long = grind (arith, nat_tests)
too_long Dos bytes long = missing (ends_with_byte 13 bytes) bytes long

-- what is kept of a line gives the same item
pub kept_item : (format : Format) (line whole : List ℕ) → line ≡ take 1048578 whole → original_item format line ≡ original_item format whole
kept_item format line whole is = elim (cases_lt (length whole) 1048578) [
  | inl few ↦ ap (original_item format) (is ∙ take_all 1048578 whole (omega arith))
  | inr many ↦ (
      let long : length line ≡ 1048578 = ap length is ∙ (length-take 1048578 whole ∙ omega arith) in
      too_long format line (omega (arith, long)) ∙ sym (too_long format whole (omega (arith, many)))
      )
]

take_min : (n : ℕ) (bytes : List ℕ) → take (min n (length bytes)) bytes ≡ take n bytes
take_min n bytes = elim (cases_lt n (length bytes)) [
  | inl lt ↦ ap (λ k. take k bytes) (omega arith)
  | inr ge ↦ take_all (min n (length bytes)) bytes (omega arith) ∙ sym (take_all n bytes ge)
]

-- a part of a line is added as far as there is room
pub kept_room : (n size : ℕ) (old bytes : List ℕ) → length old ≤ n → size ≡ min (n - length old) (length bytes) → old ++ take size bytes ≡ take n (old ++ bytes)
kept_room n size old bytes room is =
    ap (λ k. old ++ take k bytes) is ∙ (ap (λ bs. old ++ bs) (take_min (n - length old) bytes)
    ∙ (sym (take-append-add old bytes (n - length old)) ∙ ap (λ k. take k (old ++ bytes)) (omega arith)))

pub keeps_ok : {T E : Type 0} (r : Result T E) (old new bytes : List ℕ) (size : ℕ) → new ≡ (if is_ok r then old ++ take size bytes else old) → length old ≤ 1048578 → size ≡ min (1048578 - length old) (length bytes) → OnOk r (Keeps old bytes new)
keeps_ok (Ok x) old new bytes size is room size_is = is ∙ kept_room 1048578 size old bytes room size_is
keeps_ok (Err e) old new bytes size is room size_is = tt

pub keeps_most : (old taken new : List ℕ) → Keeps old taken new → length new ≤ 1048578
keeps_most old taken new keeps = omega (arith, ap length keeps, length-take 1048578 (old ++ taken))

pub takes_most : (before rest old new : List ℕ) (ended : Bool) → TakesPiece before rest old new ended → length new ≤ 1048578
takes_most before rest old new true takes = keeps_most old takes.0 new takes.3
takes_most before rest old new false takes = keeps_most old before new takes.2

-- ---- a piece

drop_at : {X : Type 0} (a b n : ℕ) (xs : List X) → n ≡ a + b → drop b (drop a xs) ≡ drop n xs
drop_at zero b n xs is = ap (λ k. drop k xs) (omega arith)
drop_at (suc a) b n [] is = drop-nil b ∙ sym (drop-nil n)
drop_at (suc a) b zero (x ∷ xs) is = absurd (omega (arith, is))
drop_at (suc a) b (suc n) (x ∷ xs) is = drop_at a b n xs (omega (arith, is))

pub drop_on : {X : Type 0} (a b : ℕ) (xs : List X) → drop b (drop a xs) ≡ drop (a + b) xs
drop_on a b xs = drop_at a b (a + b) xs refl

-- the bytes from a place of a piece on
pub rest_of : (bytes piece : List ℕ) (used : ℕ) → bytes ≡ piece → take (length bytes - used) (drop used bytes) ≡ drop used piece
rest_of bytes piece used is = take_all (length bytes - used) (drop used bytes) (omega (arith, length-drop used bytes)) ∙ ap (λ bs. drop used bs) is

-- a piece was read
pub piece_read : (file piece : List ℕ) (at size : ℕ) → piece ≡ take size (drop at file) → drop at file ≡ piece ++ drop (at + size) file
piece_read file piece at size is = sym (take-append-drop size (drop at file)) ∙ (ap (λ bs. bs ++ drop size (drop at file)) (sym is) ∙ ap (λ bs. piece ++ bs) (drop_on at size file))

pub piece_filled : (file read before : List ℕ) (at len size room : ℕ) → room ≡ len → len ≡ size → read ≡ take room (drop at file) → size ≤ length file - at → drop at file ≡ take len (read ++ drop (length read) before) ++ drop (at + size) file
piece_filled file read before at len size room same_room same_len is within =
    let full : length read ≡ len = omega (arith, ap length is, length-take room (drop at file), length-drop at file, same_room, same_len, within) in
    let piece : take len (read ++ drop (length read) before) ≡ read = ap (λ n. take n (read ++ drop (length read) before)) (sym full) ∙ take-append_seam read (drop (length read) before) in
    piece_read file (take len (read ++ drop (length read) before)) at size (piece ∙ (is ∙ ap (λ n. take n (drop at file)) (omega (arith, same_room, same_len))))

no_ten : (bytes : List ℕ) (k : ℕ) → k ≤ length bytes → Nowhere (Passes (is_byte 10) bytes) 0 k → IsLine (take k bytes)
no_ten bytes k within none = λ j d below.
    let early : j < k = omega (arith, length-take k bytes) in
    let same : get_or (take k bytes) j d ≡ get_or bytes j 0 = get_or-take k bytes j d early ∙ get_or_default bytes j d 0 (omega arith) in
    λ ten. none j (omega arith) early (ap (λ byte. byte == 10) (sym same ∙ ten))

pub takes_end : (piece old new : List ℕ) (used now end : ℕ) → now ≡ used + (end + 1) → IsFirstByte (is_byte 10) (drop used piece) (Some end) → Keeps old (take end (drop used piece)) new
    → TakesPiece (drop used piece) (drop now piece) old new true
takes_end piece old new used now end is first keeps =
    let bytes : List ℕ = drop used piece in
    let within : end < length bytes = first.0.high in
    let ten : get_or bytes end 0 ≡ 10 = grind (arith, nat_tests, first.1) in
    let parts : take end bytes ++ 10 ∷ drop (end + 1) bytes ≡ bytes = grind (arith, common_steps, split_at bytes end 0 within) in
    let rest : drop (end + 1) bytes ≡ drop now piece = drop_on used (end + 1) piece ∙ ap (λ n. drop n piece) (sym is) in
    (take end bytes, no_ten bytes end (omega arith) first.0.before, sym parts ∙ ap (λ bs. take end bytes ++ 10 ∷ bs) rest, keeps)

pub takes_all : (piece old new : List ℕ) (used now : ℕ) → now ≡ length piece → IsFirstByte (is_byte 10) (drop used piece) None → Keeps old (drop used piece) new
    → TakesPiece (drop used piece) (drop now piece) old new false
takes_all piece old new used now is none keeps =
    let bytes : List ℕ = drop used piece in
    (subst (λ (l : List ℕ). IsLine l) (take-length bytes) (no_ten bytes (length bytes) (omega arith) none), ap (λ n. drop n piece) is ∙ drop-length piece, keeps)

-- ---- a line

-- A first part of a line was taken, and what is kept of it.
pub record IsBegun (o : Original) (file into : List ℕ) : Type 0 where
  pub len : o.len ≡ length file
  pub head : List ℕ
  pub line : IsLine head
  pub kept : into ≡ take 1048578 head
  pub follows : lines_of (head ++ (ahead o ++ drop o.at file)) ≡ drop o.line (lines_of file)

pub line_begins : (o : Original) (file into : List ℕ) → into ≡ [] → Follows o file → IsBegun o file into
line_begins o file into is follows = record { len = follows.len; head = []; line = All-nil (λ byte. byte ≢ 10); kept = is ∙ sym (take-nil 1048578); follows = follows.lines }

pub line_goes_on : (o now : Original) (file old new : List ℕ) → now.len ≡ o.len → now.at ≡ o.at → now.line ≡ o.line → TakesPiece (ahead o) (ahead now) old new false → IsBegun o file old → IsBegun now file new
line_goes_on o now file old new len at line takes begun = record {
  len = len ∙ begun.len;
  head = begun.head ++ ahead o;
  line = All-append (λ byte. byte ≢ 10) begun.head (ahead o) begun.line takes.0;
  kept = kept_on begun.head (ahead o) old new begun.kept takes.2;
  follows = ap (λ bs. lines_of ((begun.head ++ ahead o) ++ bs)) (ap (λ bs. bs ++ drop now.at file) takes.1 ∙ ap (λ n. drop n file) at)
      ∙ (ap (λ bs. lines_of bs) (append_assoc begun.head (ahead o) (drop o.at file)) ∙ (begun.follows ∙ ap (λ n. drop n (lines_of file)) (sym line)));
}

pub line_refilled : (o now : Original) (file into : List ℕ) → now.len ≡ o.len → now.line ≡ o.line → ahead o ≡ [] → drop o.at file ≡ ahead now ++ drop now.at file → IsBegun o file into → IsBegun now file into
line_refilled o now file into len line empty read begun = record {
  len = len ∙ begun.len;
  head = begun.head;
  line = begun.line;
  kept = begun.kept;
  follows = ap (λ bs. lines_of (begun.head ++ bs)) (sym read ∙ ap (λ bs. bs ++ drop o.at file) (sym empty)) ∙ (begun.follows ∙ ap (λ n. drop n (lines_of file)) (sym line));
}

drop_short : {X : Type 0} (n : ℕ) (xs ys : List X) (x : X) → drop n xs ≡ x ∷ ys → n + 1 ≤ length xs
drop_short n xs ys x is = omega (arith, ap length is, length-drop n xs)

drop_one : {X : Type 0} (n : ℕ) (xs ys : List X) (x : X) → drop n xs ≡ x ∷ ys → drop (n + 1) xs ≡ ys
drop_one n xs ys x is = sym (drop_on n 1 xs) ∙ ap (λ zs. drop 1 zs) is

-- the lines from the one on that was begun and has an end
ended : (o now : Original) (file old new : List ℕ) → now.at ≡ o.at → (takes : TakesPiece (ahead o) (ahead now) old new true) → (begun : IsBegun o file old)
    → drop o.line (lines_of file) ≡ (begun.head ++ takes.0) ∷ lines_of (ahead now ++ drop now.at file)
ended o now file old new at takes begun =
    let rest : List ℕ = ahead now ++ drop o.at file in
    sym begun.follows
    ∙ (ap (λ bs. lines_of (begun.head ++ (bs ++ drop o.at file))) takes.2
    ∙ (ap (λ bs. lines_of (begun.head ++ bs)) (append_assoc takes.0 (10 ∷ ahead now) (drop o.at file))
    ∙ (ap (λ bs. lines_of bs) (sym (append_assoc begun.head takes.0 (10 ∷ rest)))
    ∙ (lines_of-line (begun.head ++ takes.0) rest (All-append (λ byte. byte ≢ 10) begun.head takes.0 begun.line takes.1)
    ∙ ap (λ n. (begun.head ++ takes.0) ∷ lines_of (ahead now ++ drop n file)) (sym at)))))

-- the line's number fits
pub ended_short : (o now : Original) (file old new : List ℕ) → now.at ≡ o.at → TakesPiece (ahead o) (ahead now) old new true → IsBegun o file old → o.line + 1 ≤ o.len
ended_short o now file old new at takes begun =
    omega (arith, drop_short o.line (lines_of file) _ _ (ended o now file old new at takes begun), length-lines_of file, begun.len)

pub ended_next : (o now : Original) (file old new : List ℕ) → now.at ≡ o.at → TakesPiece (ahead o) (ahead now) old new true → IsBegun o file old
    → IsNext (drop o.line (lines_of file)) (drop (o.line + 1) (lines_of file)) new true
ended_next o now file old new at takes begun =
    let lines = ended o now file old new at takes begun in
    (begun.head ++ takes.0, lines ∙ ap (λ ls. (begun.head ++ takes.0) ∷ ls) (sym (drop_one o.line (lines_of file) _ _ lines)), kept_on begun.head takes.0 old new begun.kept takes.3)

pub ended_follows : (o now : Original) (file old new : List ℕ) → now.at ≡ o.at → TakesPiece (ahead o) (ahead now) old new true → IsBegun o file old
    → lines_of (ahead now ++ drop now.at file) ≡ drop (o.line + 1) (lines_of file)
ended_follows o now file old new at takes begun = sym (drop_one o.line (lines_of file) _ _ (ended o now file old new at takes begun))

-- ---- the file's end

-- what was begun is all that is left
all_taken : (o : Original) (file into : List ℕ) → ahead o ≡ [] → o.at ≡ o.len → (begun : IsBegun o file into) → lines_of begun.head ≡ drop o.line (lines_of file)
all_taken o file into empty at begun =
    let none : ahead o ++ drop o.at file ≡ [] = ap (λ bs. bs ++ drop o.at file) empty ∙ drop_all o.at file (omega (arith, at, begun.len)) in
    ap (λ bs. lines_of bs) (sym (append-nil begun.head)) ∙ (ap (λ bs. lines_of (begun.head ++ bs)) (sym none) ∙ begun.follows)

pub nothing_ahead : (o : Original) (file : List ℕ) → ahead o ≡ [] → o.at ≡ o.len → o.len ≡ length file → lines_of (ahead o ++ drop o.at file) ≡ []
nothing_ahead o file empty at len = ap (λ bs. lines_of (bs ++ drop o.at file)) empty ∙ ap (λ bs. lines_of bs) (drop_all o.at file (omega (arith, at, len)))

pub over_next : (o : Original) (file into : List ℕ) → ahead o ≡ [] → o.at ≡ o.len → length into ≡ 0 → IsBegun o file into → drop o.line (lines_of file) ≡ []
over_next o file into empty at none begun =
    let head : begun.head ≡ [] = nil_from_length begun.head (omega (arith, ap length begun.kept, length-take 1048578 begun.head, none)) in
    sym (all_taken o file into empty at begun) ∙ ap (λ bs. lines_of bs) head

last_is : (o : Original) (file into : List ℕ) → ahead o ≡ [] → o.at ≡ o.len → 0 < length into → (begun : IsBegun o file into) → drop o.line (lines_of file) ≡ begun.head ∷ []
last_is o file into empty at some begun =
    sym (all_taken o file into empty at begun) ∙ lines_of_last begun.head (omega (arith, ap length begun.kept, length-take 1048578 begun.head, some)) begun.line

pub last_short : (o : Original) (file into : List ℕ) → ahead o ≡ [] → o.at ≡ o.len → 0 < length into → IsBegun o file into → o.line + 1 ≤ o.len
last_short o file into empty at some begun = omega (arith, drop_short o.line (lines_of file) _ _ (last_is o file into empty at some begun), length-lines_of file, begun.len)

pub last_over : (o : Original) (file into : List ℕ) → ahead o ≡ [] → o.at ≡ o.len → 0 < length into → IsBegun o file into → drop (o.line + 1) (lines_of file) ≡ []
last_over o file into empty at some begun = drop_one o.line (lines_of file) _ _ (last_is o file into empty at some begun)

pub last_next : (o : Original) (file into : List ℕ) → ahead o ≡ [] → o.at ≡ o.len → 0 < length into → IsBegun o file into → IsNext (drop o.line (lines_of file)) (drop (o.line + 1) (lines_of file)) into true
last_next o file into empty at some begun =
    let lines = last_is o file into empty at some begun in
    (begun.head, lines ∙ ap (λ ls. begun.head ∷ ls) (sym (last_over o file into empty at some begun)), begun.kept)
