-- What is refused at a place is refused there too where other bytes come after it: laws of parts, and of parts one after the other.
use Rattle.std.proofs.Common.{◌≡◌, ℕ, ◌+◌, ◌⊎◌, inl, inr, Bool, true, false, cond, ltb, eqb, List, [], ◌∷◌, ◌++◌, length, take, drop, Option, Some, None, refl, sym, ap, subst, ◌∙◌, append_assoc, arith}
use Rattle.std.specs.Option.{is_some}
use Rattle.std.proofs.lemmas.List.{take-append-drop, take_at}
use Rattle.vs_ufile.specs.declared.error.UfKind.{UfKind}
use Rattle.vs_ufile.specs.declared.error.UfKind.TheVariants.{BadMagic, DoubleNumber, Encrypted, NumberZero, Version}
use Rattle.vs_ufile.specs.declared.fault.Fault.{Fault}
use Rattle.vs_ufile.specs.Completing.{IsThereToo}
use Rattle.vs_ufile.specs.Format.{InOrder, IsNumber}
use Rattle.vs_ufile.specs.Reading.{change_number_kind, index_of, magic_kind, save_number_kind, start_bytes, version_kind}
use Rattle.vs_ufile.specs.Refusals.{IsCut, IsOfKind, Part, Past, Refusal, RefusedAtOne, all_of, allowed_number, field, holding, magic, some_of, start_part}
use Rattle.vs_ufile.proofs.Completed.{rows_of}
use Rattle.vs_ufile.proofs.Moved.{Moves, move_any, move_number, move_run}

-- the same fault, where so many bytes are left
abbrev pub left_at : Fault → ℕ → Fault
left_at fault left = record { kind = fault.kind; left = left; found = fault.found }

pub record Kept (refusal : Refusal) (bytes : List ℕ) (fault : Fault) : Type 0 where
  pub before : List ℕ
  pub rest : List ℕ
  pub whole : bytes ≡ before ++ rest
  pub place : length rest ≡ fault.left
  pub again : (after : List ℕ) → IsThereToo fault.kind rest after → refusal (before ++ after) (left_at fault (length after))

pub kept_as : (refusal other : Refusal) (bytes : List ℕ) (fault : Fault) → ((bytes : List ℕ) (fault : Fault) → refusal bytes fault → other bytes fault) → Kept refusal bytes fault
    → Kept other bytes fault
kept_as refusal other bytes fault to k = record {
  before = k.before;
  rest = k.rest;
  whole = k.whole;
  place = k.place;
  again = λ after there. to (k.before ++ after) (left_at fault (length after)) (k.again after there);
}

pub kept_past : (refusal other : Refusal) (bytes part rest : List ℕ) (fault : Fault) → bytes ≡ part ++ rest
    → ((rest : List ℕ) (fault : Fault) → refusal rest fault → other (part ++ rest) fault) → Kept refusal rest fault → Kept other bytes fault
kept_past refusal other bytes part rest fault whole to k = record {
  before = part ++ k.before;
  rest = k.rest;
  whole = whole ∙ ap (λ (x : List ℕ). part ++ x) k.whole ∙ sym (append_assoc part k.before k.rest);
  place = k.place;
  again = λ after there.
      let found = to (k.before ++ after) (left_at fault (length after)) (k.again after there) in
      subst (λ (x : List ℕ). other x (left_at fault (length after))) (sym (append_assoc part k.before after)) found;
}

-- Bytes of the part are so whatever follows them, and so are its refusals.
pub record Keeps (p : Part) : Type 0 where
  pub moved : Moves p.row
  pub kept : (bytes : List ℕ) (fault : Fault) → p.refusal bytes fault → Kept p.refusal bytes fault

abbrev pub AllKeep : List Part → Type 0
AllKeep [] = Unit {0}
AllKeep (p ∷ ps) = Keeps p × AllKeep ps

moved_all : (ps : List Part) → AllKeep ps → Moves (InOrder (rows_of ps))
moved_all [] h part m n is = is
moved_all (p ∷ ps) h part m n is = (is.0, is.1, is.2, h.0.moved is.0 (length is.1 + m) (length is.1 + n) is.3, moved_all ps h.1 is.1 m n is.4)

kept_all : (ps : List Part) → AllKeep ps → (bytes : List ℕ) (fault : Fault) → RefusedAtOne ps bytes fault → Kept (RefusedAtOne ps) bytes fault
kept_all [] h bytes fault r = absurd r
kept_all (p ∷ ps) h bytes fault (inl now) = kept_as p.refusal (RefusedAtOne (p ∷ ps)) bytes fault (λ bytes fault r. inl r) (h.0.kept bytes fault now)
kept_all (p ∷ ps) h bytes fault (inr w) =
    kept_past (RefusedAtOne ps) (RefusedAtOne (p ∷ ps)) bytes w.0 w.1 fault w.2 (λ rest fault r. inr (w.0, rest, refl, h.0.moved w.0 (length w.1) (length rest) w.3, r))
    (kept_all ps h.1 w.1 fault w.4)

pub keeps_all : (ps : List Part) → AllKeep ps → Keeps (all_of ps)
keeps_all ps h = record { moved = moved_all ps h; kept = kept_all ps h }

pub keeps_some : {A : Type 0} (p : A → Part) → ((x : A) → Keeps (p x)) → Keeps (some_of p)
keeps_some p h = record {
  moved = λ part m n is. (is.0, (h is.0).moved part m n is.1);
  kept = λ bytes fault r. kept_as (p r.0).refusal (some_of p).refusal bytes fault (λ bytes fault s. (r.0, s)) ((h r.0).kept bytes fault r.1);
}

-- ---- fields

pub kept_cut : (width : ℕ) (bytes : List ℕ) (fault : Fault) → IsCut width bytes fault → Kept (IsCut width) bytes fault
kept_cut width bytes fault cut = record {
  before = [];
  rest = bytes;
  whole = refl;
  place = sym (ap (λ (f : Fault). f.left) cut.is);
  again = λ after there.
      let fewer = subst (λ (f : Fault). IsThereToo f.kind bytes after) cut.is there in
      record { short = omega (arith, fewer, cut.short); is = ap (λ (f : Fault). left_at f (length after)) cut.is };
}

-- the number at the front of these bytes is at the front of others
pub number_again : (width n : ℕ) (bytes after : List ℕ) → Past (IsNumber width n) (λ _. Unit {0}) bytes → take width after ≡ take width bytes → Past (IsNumber width n) (λ _. Unit {0}) after
number_again width n bytes after p same =
    let taken : take width bytes ≡ p.0 = ap (take width) p.2 ∙ take_at p.0 p.1 width p.3.wide in
    let whole : after ≡ p.0 ++ drop width after = sym (take-append-drop width after) ∙ ap (λ (x : List ℕ). x ++ drop width after) (same ∙ taken) in
    (p.0, drop width after, whole, move_number width n p.0 (length p.1) (length (drop width after)) p.3, tt)

-- the kinds are those of numbers of so many bytes
abbrev pub OfWidth : ℕ → (ℕ → Option UfKind) → Type 0
OfWidth width kind_of = (n : ℕ) (kind : UfKind) (rest after : List ℕ) → kind_of n ≡ Some kind → IsThereToo kind rest after → take width after ≡ take width rest

kept_kind : (width : ℕ) (kind_of : ℕ → Option UfKind) → OfWidth width kind_of → (bytes : List ℕ) (fault : Fault) → IsOfKind width kind_of bytes fault → Kept (IsOfKind width kind_of) bytes fault
kept_kind width kind_of of_width bytes fault h = record {
  before = [];
  rest = bytes;
  whole = refl;
  place = sym h.here;
  again = λ after there. record {
    here = refl;
    found = number_again width fault.found bytes after h.found (of_width fault.found fault.kind bytes after h.kind there);
    kind = h.kind;
  };
}

abbrev CutOr : ℕ → (ℕ → Option UfKind) → Refusal
CutOr width kind_of = λ bytes fault. IsCut width bytes fault ⊎ IsOfKind width kind_of bytes fault

pub kept_number : (width : ℕ) (kind_of : ℕ → Option UfKind) → OfWidth width kind_of → (bytes : List ℕ) (fault : Fault) → IsCut width bytes fault ⊎ IsOfKind width kind_of bytes fault
    → Kept (λ bytes fault. IsCut width bytes fault ⊎ IsOfKind width kind_of bytes fault) bytes fault
kept_number width kind_of of_width bytes fault (inl cut) = kept_as (IsCut width) (CutOr width kind_of) bytes fault (λ bytes fault r. inl r) (kept_cut width bytes fault cut)
kept_number width kind_of of_width bytes fault (inr h) =
    kept_as (IsOfKind width kind_of) (CutOr width kind_of) bytes fault (λ bytes fault r. inr r) (kept_kind width kind_of of_width bytes fault h)

pub keeps_field : (width : ℕ) → Keeps (field width)
keeps_field width = record { moved = move_any width; kept = kept_cut width }

pub keeps_holding : (width n : ℕ) → Keeps (holding width n)
keeps_holding width n = record { moved = move_number width n; kept = kept_cut width }

pub keeps_allowed : (width : ℕ) (kind_of : ℕ → Option UfKind) → OfWidth width kind_of → Keeps (allowed_number width kind_of)
keeps_allowed width kind_of of_width = record {
  moved = λ part m n is. (is.0, is.1, move_number width is.0 part m n is.2);
  kept = kept_number width kind_of of_width;
}

-- ---- kinds

abbrev no_kind : Option UfKind
no_kind = None

version_by : (two encrypted : Bool) (kind : UfKind) (rest after : List ℕ) → cond two no_kind (cond encrypted (Some Encrypted) (Some Version)) ≡ Some kind → IsThereToo kind rest after
    → take 2 after ≡ take 2 rest
version_by true encrypted kind rest after e there = absurd cc
version_by false true kind rest after e there = let is : kind ≡ Encrypted = cc in subst (λ k. IsThereToo k rest after) is there
version_by false false kind rest after e there = let is : kind ≡ Version = cc in subst (λ k. IsThereToo k rest after) is there

pub version_width : OfWidth 2 version_kind
version_width n kind rest after e there = version_by (eqb n 2) (eqb n 0x8002) kind rest after e there

magic_by : (one other : Bool) (kind : UfKind) (rest after : List ℕ) → cond one no_kind (cond other no_kind (Some BadMagic)) ≡ Some kind → IsThereToo kind rest after → take 2 after ≡ take 2 rest
magic_by true other kind rest after e there = absurd cc
magic_by false true kind rest after e there = absurd cc
magic_by false false kind rest after e there = let is : kind ≡ BadMagic = cc in subst (λ k. IsThereToo k rest after) is there

pub magic_width : (item end : ℕ) → OfWidth 2 (magic_kind item end)
magic_width item end n kind rest after e there = magic_by (eqb n item) (eqb n end) kind rest after e there

change_by : (none big double : Bool) (kind : UfKind) (rest after : List ℕ) → cond none (Some NumberZero) (cond big (Some NumberZero) (cond double (Some DoubleNumber) no_kind)) ≡ Some kind
    → IsThereToo kind rest after → take 4 after ≡ take 4 rest
change_by true big double kind rest after e there = let is : kind ≡ NumberZero = cc in subst (λ k. IsThereToo k rest after) is there
change_by false true double kind rest after e there = let is : kind ≡ NumberZero = cc in subst (λ k. IsThereToo k rest after) is there
change_by false false true kind rest after e there = let is : kind ≡ DoubleNumber = cc in subst (λ k. IsThereToo k rest after) is there
change_by false false false kind rest after e there = absurd cc

pub change_width : (seen : List ℕ) → OfWidth 4 (change_number_kind seen)
change_width seen n kind rest after e there = change_by (eqb n 0) (ltb 2147483647 n) (is_some (index_of n seen)) kind rest after e there

save_by : (big : Bool) (kind : UfKind) (rest after : List ℕ) → cond big (Some NumberZero) no_kind ≡ Some kind → IsThereToo kind rest after → take 4 after ≡ take 4 rest
save_by true kind rest after e there = let is : kind ≡ NumberZero = cc in subst (λ k. IsThereToo k rest after) is there
save_by false kind rest after e there = absurd cc

pub save_width : OfWidth 4 save_number_kind
save_width n kind rest after e there = save_by (ltb 2000000000 n) kind rest after e there

pub keeps_magic : (item end : ℕ) → Keeps (magic item end)
keeps_magic item end = record { moved = move_number 2 item; kept = kept_number 2 (magic_kind item end) (magic_width item end) }

-- ---- the start

pub keeps_start : Keeps start_part
keeps_start = record {
  moved = move_run start_bytes;
  kept = λ bytes fault r. record {
    before = [];
    rest = bytes;
    whole = refl;
    place = sym (ap (λ (f : Fault). f.left) r.1);
    again = λ after there.
        let same : take 9 after ≡ take 9 bytes = subst (λ (f : Fault). IsThereToo f.kind bytes after) r.1 there in (
          λ more e.
              let front : take 9 bytes ≡ start_bytes = sym same ∙ ap (take 9) e ∙ take_at start_bytes more 9 refl in
              r.0 (drop 9 bytes) (sym (take-append-drop 9 bytes) ∙ ap (λ (x : List ℕ). x ++ drop 9 bytes) front),
          ap (λ (f : Fault). left_at f (length after)) r.1,
        );
  };
}
