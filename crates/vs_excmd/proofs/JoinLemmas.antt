-- Lines that are joined one by one, and never get shorter by it.
use Rattle.std.proofs.Common.{◌≡◌, ◌≢◌, rules, subst, ◌||◌, if◌then◌else◌, nat_eq, codes, ◌<◌, ◌≤◌, ◌+◌, ◌-◌, ℕ, zero, suc, List, [], ◌∷◌, ◌++◌, length, take, drop, get_or, fold, Bool, true, false, refl, ap, sym, ◌∙◌, arith, Ok, Err, length-append, length-take, length-drop}
use Rattle.std.specs.List.{ends_with, prefix_len}
use Rattle.std.proofs.lemmas.List.Elements.{All-append, All-cons, All-drop, All-nil}
use Rattle.std.proofs.lemmas.List.Sums.{fold-append}
use Rattle.std.proofs.lemmas.Bool.Decides.{nat_tests}
use Rattle.vs_text.specs.Text.{IsLine}
use Rattle.vs_text.specs.declared.TheConstants.{MAX_LINE_BYTES}
use Rattle.vs_edit.specs.Splices.{cut_out}
use Rattle.vs_edit.proofs.FileForm.{cut_out-more}
use Rattle.vs_exparse.specs.Bytes.{begins, is_blank, is_empty, skip}
use Rattle.vs_exparse.specs.declared.command.ExErr.TheVariants.{LineTooLong}
use Rattle.vs_excmd.specs.Change.{bounded, is_short}
use Rattle.vs_excmd.specs.Join.{joint, joined_two, joined_lines, joined_span}

pub joined-more : (bang : Bool) (lines : List (List ℕ)) (line : List ℕ) → 0 < length lines → joined_lines bang (lines ++ line ∷ []) ≡ joined_two bang (joined_lines bang lines) line
joined-more bang [] line some = absurd (omega arith)
joined-more bang (first ∷ lines) line some = fold-append (joined_two bang) first lines (line ∷ [])

pub joined-step : (bang : Bool) (text : List (List ℕ)) (first i : ℕ) (left line new : List ℕ) → 1 ≤ first → first + i < length text →
    left ≡ joined_lines bang (cut_out text (first - 1) (i + 1)) → line ≡ get_or text (first + i) [] → new ≡ joined_two bang left line →
    new ≡ joined_lines bang (cut_out text (first - 1) (i + 1 + 1))
joined-step bang text first i left line new positive below so_far is put =
    let place : (first - 1) + (i + 1) ≡ first + i = omega arith in
    let more = sym (cut_out-more text (first - 1) (i + 1) (omega arith)) in
    let some : 0 < length (cut_out text (first - 1) (i + 1)) = simp (length-take, length-drop) (omega arith) in
    let here : get_or text ((first - 1) + (i + 1)) [] ≡ line = rw place (sym is) in
    let lines : cut_out text (first - 1) (i + 1 + 1) ≡ cut_out text (first - 1) (i + 1) ++ line ∷ [] = rw here at more in
    put ∙ ap (λ l. joined_two bang l line) so_far ∙ sym (joined-more bang (cut_out text (first - 1) (i + 1)) line some) ∙ ap (joined_lines bang) (sym lines)

blank-or-none : (b : Bool) → IsLine (if b then [] else codes " ")
blank-or-none true = All-nil (λ byte. byte ≢ 10)
blank-or-none false = All-cons (λ byte. byte ≢ 10) 32 [] (search rules) (All-nil (λ byte. byte ≢ 10))

joint-line : (left rest : List ℕ) → IsLine (joint left rest)
joint-line left rest =
    blank-or-none ((is_empty left || is_empty rest) || ((ends_with nat_eq left (codes " ") || ends_with nat_eq left (codes "\t")) || begins (codes ")") rest))

-- lines are joined to a line
joined-line : (bang : Bool) (left right : List ℕ) → IsLine left → IsLine right → IsLine (joined_two bang left right)
joined-line true left right left_line right_line = All-append (λ byte. byte ≢ 10) left right left_line right_line
joined-line false left right left_line right_line =
    let rest = skip is_blank right in
    All-append (λ byte. byte ≢ 10) (left ++ joint left rest) rest (All-append (λ byte. byte ≢ 10) left (joint left rest) left_line (joint-line left rest))
    (All-drop (λ byte. byte ≢ 10) (prefix_len is_blank right) right right_line)

-- the same, as the code says what it joined
pub joined-stays : (bang : Bool) (left right read new : List ℕ) → right ≡ read → new ≡ joined_two bang left right → IsLine left → IsLine read → IsLine new
joined-stays bang left right read new is put left_line read_line =
    subst IsLine (sym put) (joined-line bang left right left_line (subst IsLine (sym is) read_line))

two-longer : (bang : Bool) (left right : List ℕ) → length left ≤ length (joined_two bang left right)
two-longer true left right = simp length-append (omega arith)
two-longer false left right = simp length-append (omega arith)

fold-longer : (bang : Bool) (left : List ℕ) (lines : List (List ℕ)) → length left ≤ length (fold (joined_two bang) left lines)
fold-longer bang left [] = omega arith
fold-longer bang left (line ∷ lines) = omega (arith, two-longer bang left line, fold-longer bang (joined_two bang left line) lines)

pub joined-longer : (bang : Bool) (lines more : List (List ℕ)) → length (joined_lines bang lines) ≤ length (joined_lines bang (lines ++ more))
joined-longer bang [] more = omega arith
joined-longer bang (line ∷ lines) more =
    rw (fold-append (joined_two bang) line lines more) (fold-longer bang (joined_lines bang (line ∷ lines)) more)

take-within : {X : Type 0} (xs : List X) (m n : ℕ) → m ≤ n → take n xs ≡ take m xs ++ drop m (take n xs)
take-within xs zero n within = refl
take-within xs (suc m) zero within = absurd (omega arith)
take-within [] (suc m) (suc n) within = refl
take-within (x ∷ xs) (suc m) (suc n) within = ap (λ ys. x ∷ ys) (take-within xs m n (omega arith))

-- where some of the lines are too long together, all are
pub long-error : (bang : Bool) (text : List (List ℕ)) (first last m : ℕ) (left : List ℕ) → left ≡ joined_lines bang (cut_out text (first - 1) m) → MAX_LINE_BYTES < length left → m ≤ last + 1 - first →
    bounded text (Ok (joined_span bang text first last)) ≡ Err LineTooLong
long-error bang text first last m left is long within =
    let whole : cut_out text (first - 1) (last + 1 - first) ≡ cut_out text (first - 1) m ++ drop m (cut_out text (first - 1) (last + 1 - first)) =
    take-within (drop (first - 1) text) m (last + 1 - first) within in
    let longer : length left ≤ length (joined_lines bang (cut_out text (first - 1) (last + 1 - first))) =
    rw (is, whole) (joined-longer bang (cut_out text (first - 1) m) (drop m (cut_out text (first - 1) (last + 1 - first)))) in
    let short : is_short (joined_lines bang (cut_out text (first - 1) (last + 1 - first))) ≡ false = grind (arith, nat_tests) in
    rw short refl
