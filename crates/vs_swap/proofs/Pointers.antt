-- Entries of a pointer block are read one after the other, and those that a session writes are read as it does.
use Rattle.std.proofs.Common.{◌≡◌, ℕ, zero, suc, ◌+◌, List, [], ◌∷◌, drop, slice_get, Option, Some, None, Ok, Err, Bool, true, false, sym, refl, ap, ◌∙◌, arith}
use Rattle.std.specs.Prelude.{ℤ, pos, if◌then◌else◌}
use Rattle.std.specs.Option.{option_and_then}
use Rattle.vs_ptr.specs.declared.PtrEntry.{PtrEntry}
use Rattle.vs_ptr.specs.declared.PtrErr.{PtrErr}
use Rattle.vs_ptr.specs.declared.PtrView.{PtrView}
use Rattle.vs_ptr.specs.Blocks.{view_in, entries_of, entries_in}
use Rattle.vs_ptr.proofs.Reading.{entries_there, entries_refused}
use Rattle.vs_tree_shape.specs.declared.entries.Entry.{Entry}
use Rattle.vs_tree_blocks.specs.Blocks.{before, entry_with, entry_read, entries_read, file_points, may_lead, points_in}
use Rattle.vs_tree_blocks.proofs.EntriesLemmas.{points_own}
use Rattle.vs_swap.specs.Entries.{pointer_with, pointer_in, pointers_in, swap_points}

-- ---- blocks that read, and others

pub points_read : (bytes : List ℕ) (view : PtrView) → view_in bytes ≡ Ok view → swap_points bytes ≡ pointers_in (entries_of bytes)
unfolding swap_points
points_read bytes view reads = ap (λ o. option_and_then pointers_in o) (entries_there bytes view reads)

pub points_refused : (bytes : List ℕ) (err : PtrErr) → view_in bytes ≡ Err err → swap_points bytes ≡ None
unfolding swap_points
points_refused bytes err reads = ap (λ o. option_and_then pointers_in o) (entries_refused bytes err reads)

-- ---- one entry after the other

before_none : (o : Option Entry) → before o None ≡ None
before_none None = refl
before_none (Some x) = refl

-- the entries from one on are this one before those after it
pub pointers_from : (es : List PtrEntry) (i : ℕ) (e : PtrEntry) → slice_get es i ≡ Some e → pointers_in (drop i es) ≡ before (pointer_in e) (pointers_in (drop (i + 1) es))
pointers_from [] i e at = absurd (cc)
pointers_from (f ∷ es) zero e at = let same : f ≡ e = cc in ap (λ (x : PtrEntry). before (pointer_in x) (pointers_in es)) same
pointers_from (f ∷ es) (suc i) e at =
    let next : suc i + 1 ≡ suc (i + 1) = omega arith in
    pointers_from es i e at ∙ ap (λ n. before (pointer_in e) (pointers_in (drop n (f ∷ es)))) (sym next)

-- an entry with a negative number leaves none of the entries
pub pointers_none : (es : List PtrEntry) (i : ℕ) (e : PtrEntry) → slice_get es i ≡ Some e → pointer_in e ≡ None → pointers_in es ≡ None
pointers_none [] i e at none = absurd (cc)
pointers_none (f ∷ es) zero e at none = let same : f ≡ e = cc in ap (λ o. before o (pointers_in es)) (ap pointer_in same ∙ none)
pointers_none (f ∷ es) (suc i) e at none = ap (λ o. before (pointer_in f) o) (pointers_none es i e at none) ∙ before_none (pointer_in f)

-- ---- what a session writes

leads_some : (leads : Bool) (e found : Entry) → (if leads then Some e else None) ≡ Some found → e ≡ found
leads_some true e found is = cc
leads_some false e found is = absurd (cc)

wider_with : (block pages lines : ℤ) (found : Entry) → entry_with block pages lines ≡ Some found → pointer_with block pages lines ≡ Some found
wider_with (pos block) (pos pages) (pos lines) found is =
    ap (λ (e : Entry). Some e) (leads_some (may_lead pages lines) (record { block = block; pages = pages; lines = lines }) found is)
wider_with block pages lines found is = absurd (cc)

wider_before : (o : Option Entry) (others wide : Option (List Entry)) (e : PtrEntry) (found : List Entry) → ((x : Entry) → o ≡ Some x → pointer_in e ≡ Some x) → ((xs : List Entry) → others ≡ Some xs → wide ≡ Some xs)
    → before o others ≡ Some found → before (pointer_in e) wide ≡ Some found
wider_before None others wide e found first rest is = absurd (cc)
wider_before (Some x) None wide e found first rest is = absurd (cc)
wider_before (Some x) (Some xs) wide e found first rest is = ap (λ o. before o wide) (first x refl) ∙ ap (λ o. before (Some x) o) (rest xs refl) ∙ is

wider_entries : (es : List PtrEntry) (found : List Entry) → entries_read es ≡ Some found → pointers_in es ≡ Some found
wider_entries [] found is = is
wider_entries (e ∷ es) found is = wider_before (entry_read e) (entries_read es) (pointers_in es) e found (λ x. wider_with e.block e.pages e.lines x) (wider_entries es) is

wider_option : (o : Option (List PtrEntry)) (found : List Entry) → option_and_then entries_read o ≡ Some found → option_and_then pointers_in o ≡ Some found
wider_option None found is = absurd (cc)
wider_option (Some es) found is = wider_entries es found is

wider_taken : (bytes : List ℕ) (found : List Entry) → file_points bytes ≡ Some found → swap_points bytes ≡ Some found
unfolding file_points swap_points
wider_taken bytes found is = wider_option (entries_in bytes) found is

-- a pointer block that the line tree takes has these entries in any swap file
pub wider_points : (bytes : List ℕ) (found : List Entry) → points_in bytes ≡ Some found → swap_points bytes ≡ Some found
wider_points bytes found is = wider_taken bytes found (points_own bytes found is).0
