-- Two names differ by their last byte, by their length, or by what stands before one ending.
use Rattle.std.proofs.Common.{◌≡◌, ◌≢◌, inl, inr, ℕ, ◌+◌, ◌-◌, ◌<◌, ◌≤◌, Bool, true, false, cond, ◌&&◌, ◌||◌, not, nat_le, nat_eq, ◌==◌, [], ◌∷◌, ◌++◌, length, codes, refl, sym, ◌∙◌, ap, subst, arith, length-append}
use Rattle.std.specs.List.{AllByRecursion, list_all, ends_with, starts_with}
use Rattle.std.specs.Str.{bytes_eq, IsUtf8}
use Rattle.std.proofs.Math.Seq.{drop-append_seam}
use Rattle.std.proofs.lemmas.Slice.Eq.{bytes_eq-Decides}
use Rattle.std.proofs.lemmas.Bool.{cases_Bool, cases_lt, true≢false, not-true, leb-true}
use Rattle.std.proofs.lemmas.List.{append_cancel_right}
use Rattle.std.proofs.lemmas.List.Folds.{list_all-append}
use Rattle.std.proofs.lemmas.List.Sums.{AllPass-from_list_all}
use Rattle.std.proofs.Math.ListN.{get_or-eq_default}
use Rattle.std.proofs.lemmas.Str.{IsUtf8-from_ascii}
use Rattle.vs_host.specs.Disk.{Name}
use Rattle.vs_host.specs.declared.names.Names.{Names}
use Rattle.vs_host.specs.Names.{AreNames, IsNameInFolder, is_name_byte, is_allowed, is_reserved, hidden, swp_of, swo_of, undo_of, names_of_file, names_in, temporary, AllDiffer}

-- the last byte, or `first` of no bytes
abbrev last_byte : ℕ → Name → ℕ
last_byte first [] = first
last_byte first (x ∷ xs) = last_byte x xs

last_byte-append : (first : ℕ) (xs ys : Name) → last_byte first (xs ++ ys) ≡ last_byte (last_byte first xs) ys
last_byte-append first [] ys = refl
last_byte-append first (x ∷ xs) ys = last_byte-append x xs ys

both : (a b : Bool) → (a && b) ≡ true → (a ≡ true) × (b ≡ true)
both true true is = (refl, refl)
both true false is = absurd (true≢false (sym is))
both false b is = absurd (true≢false (sym is))

record IsAllowed (name : Name) : Type 0 where
  least : 1 ≤ length name
  greatest : length name ≤ 200
  bytes : list_all is_name_byte name ≡ true
  free : is_reserved name ≡ false

allowed_parts : (name : Name) → is_allowed name ≡ true → IsAllowed name
allowed_parts name is =
    let halves = both _ _ is in
    let sizes = both _ _ halves.0 in
    let rest = both _ _ halves.1 in
    record {
      least = leb-true 1 (length name) sizes.0;
      greatest = leb-true (length name) 200 sizes.1;
      bytes = rest.0;
      free = not-true _ rest.1;
    }

-- a name that is not reserved is neither of these, and has another ending
neither : (a b c : Bool) → ((a || b) || c) ≡ false → (a ≡ false) × (b ≡ false) × (c ≡ false)
neither false false false is = (refl, refl, refl)
neither false false true is = absurd (true≢false is)
neither false true c is = absurd (true≢false is)
neither true b c is = absurd (true≢false is)

not_reserved : (name : Name) → is_reserved name ≡ false → (bytes_eq name (codes ".") ≡ false) × (bytes_eq name (codes "..") ≡ false) × (ends_with nat_eq name (codes ".vsnew") ≡ false)
not_reserved name free = neither (bytes_eq name (codes ".")) (bytes_eq name (codes "..")) (ends_with nat_eq name (codes ".vsnew")) free

text_refused : (name text : Name) → bytes_eq name text ≡ false → name ≢ text
text_refused name text not same = true≢false (sym ((bytes_eq-Decides name text).1 same) ∙ not)

-- A name under which files are made is not allowed.
temporary_ends : (name : Name) → ends_with nat_eq (temporary name) (codes ".vsnew") ≡ true
temporary_ends name =
    let s = codes ".vsnew" in
    let at : length (name ++ s) - length s ≡ length name = let size = length-append name s in omega arith in
    rw (at, drop-append_seam name s) refl

pub temporary_refused : (name : Name) → is_allowed (temporary name) ≡ false
temporary_refused name = elim (cases_Bool (is_allowed (temporary name))) [
  | inl is ↦ absurd (true≢false (sym (temporary_ends name) ∙ (not_reserved (temporary name) (allowed_parts (temporary name) is).free).2))
  | inr not ↦ not
]

-- The hidden name has at most one byte more.
hidden_least : (name : Name) → length name ≤ length (hidden name)
hidden_least name = elim (starts_with nat_eq name (codes ".")) as (λ b. length name ≤ length (cond b name (codes "." ++ name))) [
  | true ↦ omega arith
  | false ↦ omega arith
]

hidden_greatest : (name : Name) → length (hidden name) ≤ length name + 1
hidden_greatest name = elim (starts_with nat_eq name (codes ".")) as (λ b. length (cond b name (codes "." ++ name)) ≤ length name + 1) [
  | true ↦ omega arith
  | false ↦ omega arith
]

hidden_bytes : (name : Name) → list_all is_name_byte name ≡ true → list_all is_name_byte (hidden name) ≡ true
hidden_bytes name is = elim (starts_with nat_eq name (codes ".")) as (λ b. list_all is_name_byte (cond b name (codes "." ++ name)) ≡ true) [
  | true ↦ is
  | false ↦ is
]

append_bytes : (name ending : Name) → list_all is_name_byte name ≡ true → list_all is_name_byte ending ≡ true → list_all is_name_byte (name ++ ending) ≡ true
append_bytes name ending one other = rw (list_all-append is_name_byte name ending, one, other) refl

name_byte_small : (byte : ℕ) → is_name_byte byte ≡ true → byte < 128
name_byte_small byte is =
    let least = leb-true byte 126 (both (nat_le 33 byte) (nat_le byte 126) (both (nat_le 33 byte && nat_le byte 126) (not (byte == 47)) is).0).1 in
    omega arith

ascii : (name : Name) → list_all is_name_byte name ≡ true → IsUtf8 name
ascii name is =
    let all = AllPass-from_list_all is_name_byte name is in
    IsUtf8-from_ascii name (λ i. elim (cases_lt i (length name)) [
      | inl below ↦ name_byte_small _ (all i 0 below)
      | inr past ↦ let none = get_or-eq_default name 0 past in omega arith
    ])

long_name : (name : Name) → list_all is_name_byte name ≡ true → 3 ≤ length name → length name ≤ 255 → IsNameInFolder name
long_name name is least greatest = record {
  text = ascii name is;
  bytes = is;
  not_this = λ same. let size = ap length same in omega arith;
  not_above = λ same. let size = ap length same in omega arith;
  least = omega arith;
  greatest = greatest;
}

ends : (name ending : Name) → last_byte 0 (name ++ ending) ≡ last_byte (last_byte 0 name) ending
ends name ending = last_byte-append 0 name ending

by_last : (a b : Name) (x y : ℕ) → last_byte 0 a ≡ x → last_byte 0 b ≡ y → x ≢ y → a ≢ b
by_last a b x y one other apart same = apart (sym one ∙ ap (last_byte 0) same ∙ other)

by_length : (name ending : Name) → 1 ≤ length ending → name ≢ hidden name ++ ending
by_length name ending some same =
    let e = ap length same ∙ length-append (hidden name) ending in
    let least = hidden_least name in
    omega arith

of_allowed : (name other : Name) → is_allowed name ≡ true → name ≢ temporary other
of_allowed name other is same = true≢false (sym is ∙ ap is_allowed same ∙ temporary_refused other)

temporaries : (a b : Name) → a ≢ b → temporary a ≢ temporary b
temporaries a b apart same = apart (append_cancel_right a b (codes ".vsnew") same)

distinct : (name : Name) → is_allowed name ≡ true → AllDiffer (names_in (names_of_file name))
distinct name is =
    let h = hidden name in
    let swp = ends h (codes ".swp") in
    let swo = ends h (codes ".swo") in
    let undo = ends h (codes ".un~") in
    let new = λ (other : Name). ends other (codes ".vsnew") in
    let file_swp = by_length name (codes ".swp") (omega arith) in
    let file_swo = by_length name (codes ".swo") (omega arith) in
    let file_undo = by_length name (codes ".un~") (omega arith) in
    let swp_swo = by_last (swp_of name) (swo_of name) 112 111 swp swo (λ e. omega arith) in
    let swp_undo = by_last (swp_of name) (undo_of name) 112 126 swp undo (λ e. omega arith) in
    let swo_undo = by_last (swo_of name) (undo_of name) 111 126 swo undo (λ e. omega arith) in
    let file_new = λ (other : Name). of_allowed name other is in
    let swp_new = λ (other : Name). by_last (swp_of name) (temporary other) 112 119 swp (new other) (λ e. omega arith) in
    let swo_new = λ (other : Name). by_last (swo_of name) (temporary other) 111 119 swo (new other) (λ e. omega arith) in
    let undo_new = λ (other : Name). by_last (undo_of name) (temporary other) 126 119 undo (new other) (λ e. omega arith) in (
      (file_swp, (file_swo, (file_undo, (file_new name, (file_new (swp_of name), (file_new (swo_of name), (file_new (undo_of name), tt))))))),
      (
        (swp_swo, (swp_undo, (swp_new name, (swp_new (swp_of name), (swp_new (swo_of name), (swp_new (undo_of name), tt)))))),
        (
          (swo_undo, (swo_new name, (swo_new (swp_of name), (swo_new (swo_of name), (swo_new (undo_of name), tt))))),
          (
            (undo_new name, (undo_new (swp_of name), (undo_new (swo_of name), (undo_new (undo_of name), tt)))),
            (
              (temporaries _ _ file_swp, (temporaries _ _ file_swo, (temporaries _ _ file_undo, tt))),
              ((temporaries _ _ swp_swo, (temporaries _ _ swp_undo, tt)), ((temporaries _ _ swo_undo, tt), (tt, tt))),
            ),
          ),
        ),
      ),
    )

pub names_apart : (names : Names) → AreNames names → AllDiffer (names_in names)
names_apart names are = let P : Names → Type 0 = λ n. AllDiffer (names_in n) in subst P (sym are.others) (distinct names.file are.allowed)

-- a name with an ending
ended : (name ending : Name) (most : ℕ) → list_all is_name_byte name ≡ true → list_all is_name_byte ending ≡ true → length name ≤ most → 3 ≤ length ending → most + length ending ≤ 255
    → IsNameInFolder (name ++ ending)
ended name ending most one other short some room =
    let size = length-append name ending in
    long_name (name ++ ending) (append_bytes name ending one other) (omega arith) (omega arith)

inside : (name : Name) → is_allowed name ≡ true → AllByRecursion IsNameInFolder (names_in (names_of_file name))
inside name is =
    let parts = allowed_parts name is in
    let h = hidden name in
    let greatest = hidden_greatest name in
    let bytes = hidden_bytes name parts.bytes in
    let hidden_named = λ (ending : Name) (other : list_all is_name_byte ending ≡ true) (some : 3 ≤ length ending) (room : length ending ≤ 4).
    ended h ending 201 bytes other (omega arith) some (omega arith) in
    let new = λ (ending : Name) (other : list_all is_name_byte ending ≡ true) (room : length ending ≤ 4).
    ended (h ++ ending) (codes ".vsnew") 205 (append_bytes h ending bytes other) refl (let size = length-append h ending in omega arith) (omega arith) (omega arith) in
    let free = not_reserved name parts.free in (
      record {
        text = ascii name parts.bytes;
        bytes = parts.bytes;
        not_this = text_refused name (codes ".") free.0;
        not_above = text_refused name (codes "..") free.1;
        least = parts.least;
        greatest = omega (arith, parts.greatest);
      },
      (
        hidden_named (codes ".swp") refl (omega arith) (omega arith),
        (
          hidden_named (codes ".swo") refl (omega arith) (omega arith),
          (
            hidden_named (codes ".un~") refl (omega arith) (omega arith),
            (
              ended name (codes ".vsnew") 200 parts.bytes refl parts.greatest (omega arith) (omega arith),
              (new (codes ".swp") refl (omega arith), (new (codes ".swo") refl (omega arith), (new (codes ".un~") refl (omega arith), tt))),
            ),
          ),
        ),
      ),
    )

pub names_inside : (names : Names) → AreNames names → AllByRecursion IsNameInFolder (names_in names)
names_inside names are = let P : Names → Type 0 = λ n. AllByRecursion IsNameInFolder (names_in n) in subst P (sym are.others) (inside names.file are.allowed)
