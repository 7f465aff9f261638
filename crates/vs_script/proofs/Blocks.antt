-- The lines of a block are held one by one, unless they pass a limit.
use Rattle.std.proofs.Common.{◌≡◌, ◌<◌, ◌≤◌, ◌+◌, ◌++◌, ◌∷◌, ℕ, List, [], length, sym, ap, subst, ◌∙◌, arith, inl, inr, All}
use Rattle.std.proofs.Math.Seq.{get_or-append_seam}
use Rattle.std.proofs.lemmas.List.{length-append, length-take, take_all, get_or_append_left}
use Rattle.std.proofs.lemmas.List.Elements.{All-push}
use Rattle.vs_text.specs.Limits.{IsShort, IsWithinLimits}
use Rattle.vs_text.specs.Text.{bytes_of}
use Rattle.vs_text.specs.declared.TheConstants.{MAX_LINES, MAX_TEXT_BYTES}
use Rattle.vs_text.proofs.FileForm.{bytes_of-append}
use Rattle.vs_excmd.specs.Request.{PassLimits}
use Rattle.vs_script.specs.Ahead.{MeanSame, kept_of}

-- a line that has the first bytes of a short one alike is that line
pub kept_whole : (kept line : List ℕ) → MeanSame kept line → IsShort kept → kept ≡ line
kept_whole kept line same short =
    let all : kept_of kept ≡ kept = take_all 1048577 kept (omega (arith, short)) in
    let is : kept ≡ kept_of line = sym all ∙ same in
    let size : length line ≤ 1048577 = omega (arith, short, ap (λ (l : List ℕ). length l) is, length-take 1048577 line) in
    is ∙ take_all 1048577 line size

pub kept_long : (kept line : List ℕ) → MeanSame kept line → 1048576 < length kept → ¬ IsShort line
kept_long kept line same long = λ short.
    omega (arith, short, long, ap (λ (l : List ℕ). length l) same, length-take 1048577 kept, length-take 1048577 line)

pub length_more : (lines : List (List ℕ)) (line : List ℕ) → length (lines ++ line ∷ []) ≡ length lines + 1
length_more lines line = length-append lines (line ∷ [])

pub bytes_more : (lines : List (List ℕ)) (line : List ℕ) → bytes_of (lines ++ line ∷ []) ≡ bytes_of lines + length line + 1
bytes_more lines line = omega (arith, bytes_of-append lines (line ∷ []))

-- a line that is too long stays so
pub long_last : (lines : List (List ℕ)) (line : List ℕ) → ¬ IsShort line → ¬ All IsShort (lines ++ line ∷ [])
long_last lines line long = λ all.
    long (subst IsShort (get_or-append_seam lines line [] []) (all (length lines) [] (omega (arith, length_more lines line))))

pub long_before : (lines : List (List ℕ)) (line : List ℕ) → ¬ All IsShort lines → ¬ All IsShort (lines ++ line ∷ [])
long_before lines line long = λ all.
    long (λ k d within. subst IsShort (get_or_append_left lines (line ∷ []) d k within) (all k d (omega (arith, length_more lines line))))

-- lines that are too many stay so
pub many_before : (lines : List (List ℕ)) (line : List ℕ) → PassLimits lines → PassLimits (lines ++ line ∷ [])
many_before lines line (inl many) = inl (omega (arith, length_more lines line, many))
many_before lines line (inr large) = inr (omega (arith, bytes_more lines line, large))

pub short_more : (lines : List (List ℕ)) (line : List ℕ) → All IsShort lines → IsShort line → All IsShort (lines ++ line ∷ [])
short_more lines line all short = All-push IsShort lines line all short

pub within_more : (lines lines' : List (List ℕ)) (line : List ℕ) (bytes bytes' : ℕ) → bytes ≡ bytes_of lines → IsWithinLimits lines → IsShort line → lines' ≡ lines ++ line ∷ []
    → bytes' ≡ bytes + length line + 1 → bytes' ≤ MAX_TEXT_BYTES → length lines < MAX_LINES → (bytes' ≡ bytes_of lines') × IsWithinLimits lines'
within_more lines lines' line bytes bytes' counted within short is count few_bytes few =
    let size : bytes' ≡ bytes_of lines' = omega (arith, counted, count, ap bytes_of is, bytes_more lines line) in (
      size,
      record {
        short_lines = subst (λ (l : List (List ℕ)). All IsShort l) (sym is) (short_more lines line within.short_lines short);
        few_lines = omega (arith, few, ap (λ (l : List (List ℕ)). length l) is, length_more lines line);
        few_bytes = omega (arith, size, few_bytes);
      },
    )
