-- What is refused by a part of an undo file is refused there by the whole file, whatever comes after it.
use Rattle.std.proofs.Common.{◌≡◌, ℕ, zero, suc, inl, inr, Bool, true, false, List, [], ◌∷◌, ◌++◌, length, replicate, Result, Ok, Err, refl, sym, ap, subst, ◌∙◌, arith}
use Rattle.vs_ufile.specs.declared.fault.Fault.{Fault}
use Rattle.vs_ufile.specs.Completing.{NoneIsEarly, IsThereToo}
use Rattle.vs_ufile.specs.Failing.{AreNumbers}
use Rattle.vs_ufile.specs.Format.{Row, Each, Follows, Allowed, IsNumber, change_rows, entry_rows, line_rows, option_rows}
use Rattle.vs_ufile.specs.Reading.{File, Placed, change_number_kind, file, magic_kind, numbers_of, save_number_kind, version_kind}
use Rattle.vs_ufile.specs.Refusals.{IsOneTooMany, Part, RefusedAtOne, all_of, allowed_number, body_part, change_magic, change_part, changes_part, data_part, entries_part, entry_part, field, file_part, flags_part, front_part, holding, length_part, lines_part, links_part, magic, marks_part, numbers_part, option_part, options_part, sized_part, some_of, start_part, up_to}
use Rattle.vs_ufile.proofs.File.{is_read}
use Rattle.vs_ufile.proofs.Header.{is_save}
use Rattle.vs_ufile.proofs.Late.{completes_changes, completes_entries, completes_options, entry_tail}
use Rattle.vs_ufile.proofs.Kept.{AllKeep, Keeps, Kept, change_width, keeps_all, keeps_allowed, keeps_field, keeps_holding, keeps_magic, keeps_some, keeps_start, kept_as, kept_cut, kept_number, kept_past, left_at, magic_width, number_again, save_width, version_width}
use Rattle.vs_ufile.proofs.Moved.{move_each, move_entry, move_line, move_number, move_option, replaced}
use Rattle.vs_ufile.proofs.Refused.{obeys_file, tail_parts}
use Rattle.vs_ufile.proofs.Rules.{few_heads, follows_numbers, numbers_from}

keeps_sized : Keeps sized_part
keeps_sized = keeps_some (λ size. all_of (holding 4 size ∷ field size ∷ [])) (λ size. keeps_all (holding 4 size ∷ field size ∷ []) (keeps_holding 4 size, (keeps_field size, tt)))

keeps_lines : (count : ℕ) → Keeps (lines_part count)
keeps_lines count = record {
  moved = λ part m n is. (is.0, is.1, move_each line_rows move_line is.0 part m n is.2);
  kept = λ bytes fault r.
      let p = r.2 in
      kept_past sized_part.refusal (lines_part count).refusal bytes p.0 p.1 fault p.2
      (λ rest fault s. (r.0, r.1, (p.0, rest, refl, move_each line_rows move_line r.0 p.0 (length p.1) (length rest) p.3, s))) (keeps_sized.kept p.1 fault p.4);
}

-- ---- items up to an end

-- the same bytes as items where other bytes follow, after which the part of the next item refuses the same
record Again {A : Type 0} (asked : List A → A → Type 0) (rows : A → List Row) (item : List A → Part) (xs : List A) (part : List ℕ) (following : ℕ) : Type 0 where
  again : List A
  follows : Follows asked [] again
  each : Each rows again part following
  refuses : (bytes : List ℕ) (fault : Fault) → (item xs).refusal bytes fault → (item again).refusal bytes fault

kept_items : {A : Type 0} (asked : List A → A → Type 0) (rows : A → List Row) (end : List Row) (item : List A → Part)
    → ((xs : List A) (part : List ℕ) (m n : ℕ) → Follows asked [] xs → Each rows xs part m → Again asked rows item xs part n)
    → ((xs : List A) → Keeps (item xs)) → (bytes : List ℕ) (fault : Fault) → (up_to asked rows end item).refusal bytes fault → Kept (up_to asked rows end item).refusal bytes fault
kept_items asked rows end item moves keeps bytes fault r =
    let p = r.2 in
    kept_past (item r.0).refusal (up_to asked rows end item).refusal bytes p.0 p.1 fault p.2
    (λ rest fault s.
    let q = moves r.0 p.0 (length p.1) (length rest) r.1 p.3 in
    (q.again, q.follows, (p.0, rest, refl, q.each, q.refuses rest fault s)))
    ((keeps r.0).kept p.1 fault p.4)

keeps_data : (by : Bool) (size : ℕ) → Keeps (data_part by size)
keeps_data true size = keeps_allowed 4 save_number_kind save_width
keeps_data false size = keeps_field size

keeps_length : (size : ℕ) → Keeps (length_part size)
keeps_length size = record { moved = λ part m n is. (is.0, move_number 1 size part m n is.1); kept = kept_cut 1 }

abbrev option_parts : ℕ → ℕ → List Part
option_parts size kind = length_part size ∷ holding 1 kind ∷ data_part (is_save kind size) size ∷ []

keeps_option : Keeps option_part
keeps_option =
    keeps_some (λ size. some_of (λ kind. all_of (option_parts size kind))) (λ size.
    keeps_some (λ kind. all_of (option_parts size kind)) (λ kind.
    keeps_all (option_parts size kind) (keeps_length size, (keeps_holding 1 kind, (keeps_data (is_save kind size) size, tt)))))

keeps_options : Keeps options_part
keeps_options = record {
  moved = completes_options.moved;
  kept = kept_items (λ _ _. Unit {0}) option_rows (IsNumber 1 0 ∷ []) (λ _. option_part)
      (λ xs part m n follows each. record { again = xs; follows = follows; each = move_each option_rows move_option xs part m n each; refuses = λ bytes fault r. r })
      (λ xs. keeps_option);
}

keeps_entry : Keeps entry_part
keeps_entry =
    let count : Keeps (some_of (λ count. all_of (holding 4 count ∷ lines_part count ∷ []))) =
    keeps_some (λ count. all_of (holding 4 count ∷ lines_part count ∷ [])) (λ count. keeps_all (holding 4 count ∷ lines_part count ∷ []) (keeps_holding 4 count, (keeps_lines count, tt))) in
    keeps_all (magic 0xf518 0x3581 ∷ entry_tail) (keeps_magic 0xf518 0x3581, (keeps_field 4, (keeps_field 4, (keeps_field 4, (count, tt)))))

keeps_entries : Keeps entries_part
keeps_entries = record {
  moved = completes_entries.moved;
  kept = kept_items (λ _ _. Unit {0}) entry_rows (IsNumber 2 0x3581 ∷ []) (λ _. entry_part)
      (λ xs part m n follows each. record { again = xs; follows = follows; each = move_each entry_rows move_entry xs part m n each; refuses = λ bytes fault r. r })
      (λ xs. keeps_entry);
}

-- ---- changes

kept_many : (heads : ℕ) (before : List Placed) (bytes : List ℕ) (fault : Fault) → IsOneTooMany heads before bytes fault → Kept (IsOneTooMany heads before) bytes fault
kept_many heads before bytes fault many = record {
  before = [];
  rest = bytes;
  whole = refl;
  place = sym (ap (λ (f : Fault). f.left) many.is);
  again = λ after there. record {
    none_left = many.none_left;
    begins = number_again 2 0x5fd0 bytes after many.begins (subst (λ (f : Fault). IsThereToo f.kind bytes after) many.is there);
    is = ap (λ (f : Fault). left_at f (length after)) many.is;
  };
}

kept_magic : (heads : ℕ) (before : List Placed) (bytes : List ℕ) (fault : Fault) → (change_magic heads before).refusal bytes fault → Kept (change_magic heads before).refusal bytes fault
kept_magic heads before bytes fault (inl now) =
    kept_as (magic 0x5fd0 0xe7aa).refusal (change_magic heads before).refusal bytes fault (λ bytes fault r. inl r)
    (kept_number 2 (magic_kind 0x5fd0 0xe7aa) (magic_width 0x5fd0 0xe7aa) bytes fault now)
kept_magic heads before bytes fault (inr many) =
    kept_as (IsOneTooMany heads before) (change_magic heads before).refusal bytes fault (λ bytes fault r. inr r) (kept_many heads before bytes fault many)

keeps_change_magic : (heads : ℕ) (before : List Placed) → Keeps (change_magic heads before)
keeps_change_magic heads before = record { moved = λ part m n is. (is.0, move_number 2 0x5fd0 part m n is.1); kept = kept_magic heads before }

keeps_links : Keeps links_part
keeps_links = keeps_all (field 4 ∷ field 4 ∷ field 4 ∷ field 4 ∷ []) (keeps_field 4, (keeps_field 4, (keeps_field 4, (keeps_field 4, tt))))

keeps_flags : Keeps flags_part
keeps_flags = keeps_all (field 12 ∷ field 4 ∷ field 2 ∷ []) (keeps_field 12, (keeps_field 4, (keeps_field 2, tt)))

each_mark : (n : ℕ) → AllKeep (replicate n (field 12))
each_mark zero = tt
each_mark (suc n) = (keeps_field 12, each_mark n)

keeps_marks : Keeps marks_part
keeps_marks = keeps_all (all_of (replicate 26 (field 12)) ∷ field 24 ∷ field 4 ∷ field 4 ∷ [])
    (keeps_all (replicate 26 (field 12)) (each_mark 26), (keeps_field 24, (keeps_field 4, (keeps_field 4, tt))))

keeps_body : Keeps body_part
keeps_body = keeps_all (flags_part ∷ marks_part ∷ field 8 ∷ options_part ∷ entries_part ∷ [])
    (keeps_flags, (keeps_marks, (keeps_field 8, (keeps_options, (keeps_entries, tt)))))

keeps_change : (heads : ℕ) (before : List Placed) → Keeps (change_part heads before)
keeps_change heads before = keeps_all (change_magic heads before ∷ tail_parts before)
    (keeps_change_magic heads before, (keeps_links, (keeps_allowed 4 (change_number_kind (numbers_of before)) (change_width (numbers_of before)), (keeps_body, tt))))

-- the parts of a change after its magic number, by the numbers of the changes before it
abbrev parts_after : List ℕ → List Part
parts_after seen = links_part ∷ allowed_number 4 (change_number_kind seen) ∷ body_part ∷ []

-- changes with other places refuse the same after them
refuses_same : (heads : ℕ) (xs ys : List Placed) → length ys ≡ length xs → numbers_of ys ≡ numbers_of xs → (bytes : List ℕ) (fault : Fault)
    → (change_part heads xs).refusal bytes fault → (change_part heads ys).refusal bytes fault
refuses_same heads xs ys count numbers bytes fault (inl (inl now)) = inl (inl now)
refuses_same heads xs ys count numbers bytes fault (inl (inr many)) = inl (inr (record { none_left = count ∙ many.none_left; begins = many.begins; is = many.is }))
refuses_same heads xs ys count numbers bytes fault (inr w) =
    inr (w.0, w.1, w.2, (λ e. w.3.0 (sym count ∙ e), w.3.1), subst (λ (ns : List ℕ). RefusedAtOne (parts_after ns) w.1 fault) (sym numbers) w.4)

changes_move : (heads : ℕ) (xs : List Placed) (part : List ℕ) (m n : ℕ) → Follows (Allowed heads) [] xs → Each change_rows xs part m
    → Again (Allowed heads) change_rows (change_part heads) xs part n
changes_move heads xs part m n follows each =
    let r = replaced xs part m n each in
    record {
      again = r.again;
      follows = follows_numbers heads r.again (subst AreNumbers (sym r.numbers) (numbers_from heads xs follows)) (omega (arith, r.count, few_heads heads xs follows));
      each = r.rows;
      refuses = refuses_same heads xs r.again r.count r.numbers;
    }

keeps_changes : (heads : ℕ) → Keeps (changes_part heads)
keeps_changes heads = record {
  moved = (completes_changes heads).moved;
  kept = kept_items (Allowed heads) change_rows (IsNumber 2 0xe7aa ∷ []) (change_part heads) (changes_move heads) (keeps_change heads);
}

-- ---- the file

keeps_front : Keeps front_part
keeps_front = keeps_all (start_part ∷ allowed_number 2 version_kind ∷ field 32 ∷ field 4 ∷ sized_part ∷ field 4 ∷ field 4 ∷ [])
    (keeps_start, (keeps_allowed 2 version_kind version_width, (keeps_field 32, (keeps_field 4, (keeps_sized, (keeps_field 4, (keeps_field 4, tt)))))))

keeps_numbers : (heads : ℕ) → Keeps (numbers_part heads)
keeps_numbers heads = keeps_all (field 4 ∷ field 4 ∷ field 4 ∷ holding 4 heads ∷ field 4 ∷ field 4 ∷ [])
    (keeps_field 4, (keeps_field 4, (keeps_field 4, (keeps_holding 4 heads, (keeps_field 4, (keeps_field 4, tt))))))

abbrev file_parts : ℕ → List Part
file_parts heads = front_part ∷ numbers_part heads ∷ field 8 ∷ options_part ∷ changes_part heads ∷ []

keeps_file : Keeps file_part
keeps_file = keeps_some (λ heads. all_of (file_parts heads)) (λ heads.
    keeps_all (file_parts heads) (keeps_front, (keeps_numbers heads, (keeps_field 8, (keeps_options, (keeps_changes heads, tt))))))

not_both : (q : Result (File × List ℕ) Fault) (x : File × List ℕ) (fault : Fault) → q ≡ Ok x → q ≡ Err fault → ⊥
not_both q x fault e d = absurd cc

pub none_is_early : NoneIsEarly
none_is_early bytes fault refused =
    let k = keeps_file.kept bytes fault refused in (
      k.before,
      k.rest,
      k.whole,
      k.place,
      λ f after form there.
          let all : List ℕ = k.before ++ after in
          not_both (file all) (f, form.rest) (left_at fault (length after)) (is_read all f form) (obeys_file.faults all (left_at fault (length after)) (k.again after there)),
    )
