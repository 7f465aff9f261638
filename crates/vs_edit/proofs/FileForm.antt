-- The file form of lines grows by a line and byte 10.
use Rattle.std.proofs.Common.{◌≡◌, ℕ, ◌+◌, ◌<◌, rules, List, [], ◌∷◌, ◌++◌, length, get_or, take, drop, refl, sym, ap, ◌∙◌, arith, append_assoc, length-append, length-drop}
use Rattle.std.proofs.lemmas.List.{flat_map_more, take_more, get_or-drop}
use Rattle.std.proofs.lemmas.List.Elements.{All-push}
use Rattle.vs_text.specs.Text.{IsLine, file_of}
use Rattle.vs_text.specs.Limits.{IsShort}
use Rattle.vs_edit.specs.Splices.{cut_out, HoldsLines}

pub file_of-more : (lines : List (List ℕ)) (line : List ℕ) → (file_of lines ++ line) ++ 10 ∷ [] ≡ file_of (lines ++ line ∷ [])
file_of-more lines line = append_assoc (file_of lines) line (10 ∷ []) ∙ flat_map_more (λ (l : List ℕ). l ++ 10 ∷ []) [] lines line

pub cut_out-more : (text : List (List ℕ)) (at i : ℕ) → at + i < length text → cut_out text at i ++ get_or text (at + i) [] ∷ [] ≡ cut_out text at (i + 1)
cut_out-more text at i within =
    let rest : i < length (drop at text) = omega (arith, length-drop at text) in
    sym (take_more (drop at text) i [] rest ∙ ap (λ line. take i (drop at text) ++ line ∷ []) (get_or-drop at text i []))

pub holds_none : HoldsLines 0 []
holds_none = record { lines = []; counted = refl; is_text = search rules; short_lines = search rules; form = refl }

pub holds_more : {n : ℕ} {bytes : List ℕ} (line : List ℕ) → HoldsLines n bytes → IsLine line → IsShort line → HoldsLines (n + 1) ((bytes ++ line) ++ 10 ∷ [])
holds_more line holds is_line is_short = record {
  lines = holds.lines ++ line ∷ [];
  counted = omega (arith, holds.counted, length-append holds.lines (line ∷ []));
  is_text = All-push IsLine holds.lines line holds.is_text is_line;
  short_lines = All-push IsShort holds.lines line holds.short_lines is_short;
  form = ap (λ bytes. (bytes ++ line) ++ 10 ∷ []) holds.form ∙ file_of-more holds.lines line;
}
