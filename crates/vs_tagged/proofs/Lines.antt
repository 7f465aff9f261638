-- Lines under a tag are written and read back line by line.
use Rattle.std.proofs.Common.{◌≡◌, ◌≢◌, ◌==◌, true, inl, inr, ℕ, ◌+◌, ◌-◌, ◌<◌, List, [], ◌∷◌, ◌++◌, length, map, take, drop, refl, sym, ◌∙◌, ap, arith, append_assoc}
use Rattle.std.specs.Prelude.{Some, None}
use Rattle.std.proofs.lemmas.Bool.Decides.{eqb_tells}
use Rattle.std.proofs.lemmas.List.Elements.{All-nil, All-cons, All-append, All-head, All-tail}
use Rattle.std.proofs.lemmas.List.{length-append, length-drop, take_all}
use Rattle.memchr.specs.Find.{IsFirstByte, is_byte}
use Rattle.vs_script.proofs.Lines.{first_end}
use Rattle.vs_text.specs.Text.{IsLine, IsText, lines_of, file_of, onto_first}
use Rattle.vs_text.proofs.LineEnds.{IsText-lines_of, lines_of-line, lines_of_last}
use Rattle.vs_text.proofs.Reading.{lines_of-file_then}
use Rattle.vs_tagged.specs.Tagged.{with_first, after_prefix, lines_under, tagged}

-- a line behind its own tag
behind_own : (tag line : List ℕ) → after_prefix tag (tag ++ line) ≡ Some line
behind_own [] line = refl
behind_own (byte ∷ tag) line = elim (eqb_tells byte byte) [
  | inl same ↦ rw same.0 (behind_own tag line)
  | inr other ↦ absurd (other.1 refl)
]

-- it is not behind another tag of the same length
behind_other : (tag other line : List ℕ) → length other ≡ length tag → other ≢ tag → after_prefix other (tag ++ line) ≡ None
behind_other [] [] line size differ = absurd (differ refl)
behind_other [] (o ∷ other) line size differ = absurd (omega (arith, size))
behind_other (t ∷ tag) [] line size differ = absurd (omega (arith, size))
behind_other (t ∷ tag) (o ∷ other) line size differ = elim (eqb_tells t o) [
  | inl same ↦ rw same.0 (behind_other tag other line (omega (arith, size)) (λ is. differ (λ i. sym same.1 i ∷ is i)))
  | inr apart ↦ rw apart.0 refl
]

-- the lines of a reply, each after the tag
tagged_text : (tag : List ℕ) (lines : List (List ℕ)) → IsLine tag → IsText lines → IsText (map (λ line. tag ++ line) lines)
tagged_text tag [] own text = All-nil IsLine
tagged_text tag (line ∷ lines) own text =
    All-cons IsLine (tag ++ line) (map (λ line. tag ++ line) lines) (All-append (λ b. b ≢ 10) tag line own (All-head IsLine line lines text))
    (tagged_text tag lines own (All-tail IsLine line lines text))

-- what is written under a tag has these lines, and then those that follow
lines_tagged : (tag reply rest : List ℕ) → IsLine tag → lines_of (tagged tag reply ++ rest) ≡ map (λ line. tag ++ line) (lines_of reply) ++ lines_of rest
lines_tagged tag reply rest own = lines_of-file_then (map (λ line. tag ++ line) (lines_of reply)) rest (tagged_text tag (lines_of reply) own (IsText-lines_of reply))

under_own : (tag : List ℕ) (lines rest : List (List ℕ)) → lines_under tag (map (λ line. tag ++ line) lines ++ rest) ≡ lines ++ lines_under tag rest
under_own tag [] rest = refl
under_own tag (line ∷ lines) rest =
    ap (λ found. with_first found (lines_under tag (map (λ line. tag ++ line) lines ++ rest))) (behind_own tag line) ∙ ap (λ ls. line ∷ ls) (under_own tag lines rest)

under_other : (tag other : List ℕ) (lines rest : List (List ℕ)) → length other ≡ length tag → other ≢ tag
    → lines_under other (map (λ line. tag ++ line) lines ++ rest) ≡ lines_under other rest
under_other tag other [] rest size differ = refl
under_other tag other (line ∷ lines) rest size differ =
    ap (λ found. with_first found (lines_under other (map (λ line. tag ++ line) lines ++ rest))) (behind_other tag other line size differ)
    ∙ under_other tag other lines rest size differ

-- a reply is read back under its tag
pub reads_own : (tag reply rest : List ℕ) → IsLine tag → lines_under tag (lines_of (tagged tag reply ++ rest)) ≡ lines_of reply ++ lines_under tag (lines_of rest)
reads_own tag reply rest own = ap (lines_under tag) (lines_tagged tag reply rest own) ∙ under_own tag (lines_of reply) (lines_of rest)

-- and not under another one
pub reads_other : (tag other reply rest : List ℕ) → IsLine tag → length other ≡ length tag → other ≢ tag
    → lines_under other (lines_of (tagged tag reply ++ rest)) ≡ lines_under other (lines_of rest)
reads_other tag other reply rest own size differ =
    ap (lines_under other) (lines_tagged tag reply rest own) ∙ under_other tag other (lines_of reply) (lines_of rest) size differ

-- ---- line by line

-- the first byte 10 ends the first line
pub ended_lines : (bytes : List ℕ) (k : ℕ) → IsFirstByte (is_byte 10) bytes (Some k)
    → lines_of bytes ≡ take k bytes ∷ lines_of (take (length bytes - (k + 1)) (drop (k + 1) bytes))
ended_lines bytes k is =
    let had = first_end bytes (Some k) is in
    let all : take (length bytes - (k + 1)) (drop (k + 1) bytes) ≡ drop (k + 1) bytes =
    take_all (length bytes - (k + 1)) (drop (k + 1) bytes) (omega (arith, length-drop (k + 1) bytes)) in
    ap lines_of had.2 ∙ lines_of-line (take k bytes) (drop (k + 1) bytes) had.1 ∙ ap (λ rest. take k bytes ∷ lines_of rest) (sym all)

-- without one all is one line
pub last_lines : (bytes : List ℕ) → IsFirstByte (is_byte 10) bytes None → 0 < length bytes → lines_of bytes ≡ bytes ∷ []
last_lines bytes is some = lines_of_last bytes some (first_end bytes None is)

-- the first line of a reply is written first
pub tagged_first : (tag reply line more : List ℕ) → lines_of reply ≡ line ∷ lines_of more → tagged tag reply ≡ (tag ++ (line ++ 10 ∷ [])) ++ tagged tag more
tagged_first tag reply line more is =
    ap (λ (ls : List (List ℕ)). file_of (map (λ line. tag ++ line) ls)) is ∙ ap (λ (l : List ℕ). l ++ tagged tag more) (append_assoc tag line (10 ∷ []))

-- where no bytes are left, there are none
pub none_left : (bytes : List ℕ) → true ≡ (length bytes == 0) → bytes ≡ []
none_left [] is = refl
none_left (byte ∷ bytes) is = elim (eqb_tells (length (byte ∷ bytes)) 0) [
  | inl same ↦ absurd (omega (arith, same.1))
  | inr other ↦ absurd (cc)
]

-- ---- bytes

onto_some : (byte : ℕ) (lines : List (List ℕ)) → (line : List ℕ) × (rest : List (List ℕ)) × (onto_first byte lines ≡ line ∷ rest)
onto_some byte [] = (byte ∷ [], [], refl)
onto_some byte (line ∷ lines) = (byte ∷ line, lines, refl)

-- bytes have a first line
first_of : (byte : ℕ) (bytes : List ℕ) → (line : List ℕ) × (rest : List (List ℕ)) × (lines_of (byte ∷ bytes) ≡ line ∷ rest)
first_of byte bytes = elim (eqb_tells byte 10) [
  | inl same ↦ ([], lines_of bytes, rw same.0 refl)
  | inr other ↦ let some = onto_some byte (lines_of bytes) in (some.0, some.1, rw other.0 some.2)
]

-- something is written of them
pub tagged_some : (tag bytes : List ℕ) → 0 < length bytes → 0 < length (tagged tag bytes)
tagged_some tag [] some = absurd (omega (arith, some))
tagged_some tag (byte ∷ bytes) some =
    let first = first_of byte bytes in
    let ended : List ℕ = 10 ∷ [] in
    let line : List ℕ = tag ++ first.0 in
    let rest : List ℕ = file_of (map (λ line. tag ++ line) first.1) in
    omega (
      arith,
      ap (λ (ls : List (List ℕ)). length (file_of (map (λ line. tag ++ line) ls))) first.2,
      length-append (line ++ ended) rest,
      length-append line ended,
    )
