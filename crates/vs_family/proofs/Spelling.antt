-- A name in pieces is the name that goes with the file.
use Rattle.std.proofs.Common.{◌≡◌, inl, inr, ℕ, zero, suc, ◌<◌, ◌≤◌, ◌-◌, Bool, true, false, cond, nat_eq, nat_le, ◌==◌, [], ◌∷◌, ◌++◌, length, take, get_or, codes, refl, sym, ◌∙◌, ap, append_assoc, arith}
use Rattle.std.specs.List.{starts_with}
use Rattle.std.specs.Str.{bytes_eq}
use Rattle.std.proofs.lemmas.Bool.{cases_Bool}
use Rattle.std.proofs.lemmas.Bool.Decides.{nat_tests}
use Rattle.std.proofs.lemmas.List.{append-nil, ext_get_or}
use Rattle.std.proofs.lemmas.Slice.Eq.{bytes_eq-Decides}
use Rattle.vs_host.specs.Disk.{Name}
use Rattle.vs_host.specs.Names.{hidden, swo_of, swp_of, temporary, undo_of}
use Rattle.vs_backup.specs.Backups.{lettered}
use Rattle.vs_family.specs.Family.{lasting_names}
use Rattle.vs_family.specs.Pieces.{dot_at, dot_of, ending_at, letter_at}
use Rattle.vs_family.proofs.Listed.{backup_at, lettered_at}

-- the last byte stands behind the others
last_back : (file rest : Name) (k : ℕ) → length file ≡ suc k → take k file ++ get_or file k 0 ∷ rest ≡ file ++ rest
last_back [] rest k is = absurd (omega (arith, is))
last_back (byte ∷ []) rest zero is = refl
last_back (byte ∷ next ∷ file) rest zero is = absurd (omega (arith, is))
last_back (byte ∷ file) rest (suc k) is = ap (λ (l : Name). byte ∷ l) (last_back file rest k (omega (arith, is)))

-- a name with the ending under which its file is made, or with none
ended : (made : Bool) (name ending : Name) → ending ≡ cond made (codes ".vsnew") [] → name ++ ending ≡ cond made (temporary name) name
ended true name ending is = ap (λ (e : Name). name ++ e) is
ended false name ending is = ap (λ (e : Name). name ++ e) is ∙ append-nil name

pub whole_name : (dot file ending made_ending : Name) (made : Bool) → 1 ≤ length file → made_ending ≡ cond made (codes ".vsnew") []
    → dot ++ (take (length file - 1) file ++ get_or file (length file - 1) 0 ∷ (ending ++ made_ending)) ≡ cond made (temporary (dot ++ (file ++ ending))) (dot ++ (file ++ ending))
whole_name dot file ending made_ending made some is =
    ap (λ (l : Name). dot ++ l) (last_back file (ending ++ made_ending) (length file - 1) (omega (arith, some)) ∙ sym (append_assoc file ending made_ending))
    ∙ sym (append_assoc dot (file ++ ending) made_ending) ∙ ended made (dot ++ (file ++ ending)) made_ending is

pub lettered_name : (file made_ending : Name) (letter : ℕ) (made : Bool) → made_ending ≡ cond made (codes ".vsnew") []
    → [] ++ (take (length file - 1) file ++ letter ∷ (codes "~" ++ made_ending)) ≡ cond made (temporary (lettered file letter)) (lettered file letter)
lettered_name file made_ending letter made is =
    sym (append_assoc (take (length file - 1) file) (letter ∷ codes "~") made_ending) ∙ ended made (lettered file letter) made_ending is

-- the same name, under which a file is made or not
pub named : (made : Bool) (spelling a b : Name) → spelling ≡ cond made (temporary a) a → a ≡ b → spelling ≡ cond made (temporary b) b
named made spelling a b is same = is ∙ ap (λ (n : Name). cond made (temporary n) n) same

pub hides : (file dot ending : Name) → dot ≡ cond (starts_with nat_eq file (codes ".")) [] (codes ".") → dot ++ (file ++ ending) ≡ hidden file ++ ending
hides file dot ending is = ap (λ (d : Name). d ++ (file ++ ending)) is ∙ by_dot (starts_with nat_eq file (codes "."))
  where
    by_dot : (has : Bool) → cond has [] (codes ".") ++ (file ++ ending) ≡ cond has file (codes "." ++ file) ++ ending
    by_dot true = refl
    by_dot false = refl

-- the pieces of the backups with a letter
late_dot : (file : Name) (number : ℕ) → 5 ≤ number → dot_at file number ≡ []
late_dot file number late =
    let low : nat_le 1 number ≡ true = grind (arith, nat_tests) in
    let high : nat_le number 3 ≡ false = grind (arith, nat_tests) in
    rw (low, high) refl

late_letter : (file : Name) (number : ℕ) → 5 ≤ number → letter_at file number ≡ 122 - (number - 5)
late_letter file number late =
    let is : nat_le 5 number ≡ true = grind (arith, nat_tests) in
    rw is refl

late_ending : (number : ℕ) → 5 ≤ number → ending_at number ≡ codes "~"
late_ending number late =
    let not_file : (number == 0) ≡ false = grind (arith, nat_tests) in
    let not_swp : (number == 1) ≡ false = grind (arith, nat_tests) in
    let not_swo : (number == 2) ≡ false = grind (arith, nat_tests) in
    let not_undo : (number == 3) ≡ false = grind (arith, nat_tests) in
    rw (not_file, not_swp, not_swo, not_undo) refl

spelled_late : (file : Name) (number : ℕ) (made_ending : Name) (made : Bool) → 5 ≤ number → number < 31 → made_ending ≡ cond made (codes ".vsnew") []
    → dot_at file number ++ (take (length file - 1) file ++ letter_at file number ∷ (ending_at number ++ made_ending))
    ≡ cond made (temporary (get_or (lasting_names file) number [])) (get_or (lasting_names file) number [])
spelled_late file number made_ending made late within is =
    ap (λ (dot : Name). dot ++ (take (length file - 1) file ++ letter_at file number ∷ (ending_at number ++ made_ending))) (late_dot file number late)
    ∙ ap (λ (letter : ℕ). take (length file - 1) file ++ letter ∷ (ending_at number ++ made_ending)) (late_letter file number late)
    ∙ ap (λ (ending : Name). take (length file - 1) file ++ (122 - (number - 5)) ∷ (ending ++ made_ending)) (late_ending number late)
    ∙ named made _ _ (get_or (lasting_names file) number []) (lettered_name file made_ending (122 - (number - 5)) made is) (sym (lettered_at file number late within))

-- each of the names
pub spelled_at : (file : Name) (number : ℕ) (made_ending : Name) (made : Bool) → 1 ≤ length file → number < 31 → made_ending ≡ cond made (codes ".vsnew") []
    → dot_at file number ++ (take (length file - 1) file ++ letter_at file number ∷ (ending_at number ++ made_ending))
    ≡ cond made (temporary (get_or (lasting_names file) number [])) (get_or (lasting_names file) number [])
spelled_at file zero made_ending made some within is = named made _ _ file (whole_name [] file [] made_ending made some is) (append-nil file)
spelled_at file (suc zero) made_ending made some within is =
    named made _ _ (swp_of file) (whole_name (dot_of file) file (codes ".swp") made_ending made some is) (hides file (dot_of file) (codes ".swp") refl)
spelled_at file (suc (suc zero)) made_ending made some within is =
    named made _ _ (swo_of file) (whole_name (dot_of file) file (codes ".swo") made_ending made some is) (hides file (dot_of file) (codes ".swo") refl)
spelled_at file (suc (suc (suc zero))) made_ending made some within is =
    named made _ _ (undo_of file) (whole_name (dot_of file) file (codes ".un~") made_ending made some is) (hides file (dot_of file) (codes ".un~") refl)
spelled_at file (suc (suc (suc (suc zero)))) made_ending made some within is =
    named made _ _ (get_or (lasting_names file) 4 []) (whole_name [] file (codes "~") made_ending made some is) (sym (backup_at file))
spelled_at file (suc (suc (suc (suc (suc k))))) made_ending made some within is =
    spelled_late file (suc (suc (suc (suc (suc k))))) made_ending made (omega arith) within is

-- ---- names that are compared byte by byte

not_same : (xs ys : Name) → (xs ≡ ys → ⊥) → false ≡ bytes_eq xs ys
not_same xs ys other = elim (cases_Bool (bytes_eq xs ys)) [
  | inl same ↦ absurd (other ((bytes_eq-Decides xs ys).0 same))
  | inr not ↦ sym not
]

pub differ_long : (xs ys : Name) → (length xs ≡ length ys → ⊥) → false ≡ bytes_eq xs ys
differ_long xs ys other = not_same xs ys (λ same. other (ap (λ (l : Name). length l) same))

pub differ_at : (xs ys : Name) (k : ℕ) → (get_or xs k 0 ≡ get_or ys k 0 → ⊥) → false ≡ bytes_eq xs ys
differ_at xs ys k other = not_same xs ys (λ same. other (ap (λ (l : Name). get_or l k 0) same))

pub same_all : (xs ys : Name) → length xs ≡ length ys → ((k : ℕ) → k < length xs → get_or xs k 0 ≡ get_or ys k 0) → true ≡ bytes_eq xs ys
same_all xs ys long each = sym ((bytes_eq-Decides xs ys).1 (ext_get_or 0 xs ys long each))
