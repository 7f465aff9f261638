-- An entry can be taken back.
use Rattle.std.proofs.Common.{◌≡◌, ℕ, ◌+◌, ◌-◌, ◌<◌, ◌≤◌, ◌==◌, if◌then◌else◌, max, nat_le, Bool, true, false, cond, List, [], ◌∷◌, length, take, sym, ap, subst, ◌∙◌, arith, refl, append-nil}
use Rattle.std.proofs.lemmas.Bool.Decides.{nat_tests}
use Rattle.std.proofs.lemmas.List.{take_all}
use Rattle.vs_text.specs.Text.{bytes_of}
use Rattle.vs_text.specs.declared.TheConstants.{MAX_TEXT_BYTES}
use Rattle.vs_edit.specs.Splices.{splice, cut_out}
use Rattle.vs_edit.proofs.SpliceLemmas.{splice_back, length-splice, bytes_of-splice, bytes_of-cut_out}
use Rattle.vs_entries.specs.declared.entry.Entry.{Entry}
use Rattle.vs_entries.specs.Entries.{filled, has_no_lines, settled, range_in, applied, way_back, splice_back as entry_back, led_back, LeadsCount, Leads}

-- a stored form has a line
pub filled_some : (text : List (List ℕ)) → 0 < length (filled text)
filled_some [] = omega arith
filled_some (line ∷ text) = omega arith

pub length-filled : (text : List (List ℕ)) → length (filled text) ≡ max 1 (length text)
length-filled [] = refl
length-filled (line ∷ text) = omega arith

-- lines of one byte at most have the stored form of no lines
filled_small : (lines : List (List ℕ)) → bytes_of lines ≤ 1 → filled lines ≡ [] ∷ []
filled_small [] small = refl
filled_small ([] ∷ []) small = refl
filled_small ([] ∷ (line ∷ lines)) small = absurd (omega arith)
filled_small ((byte ∷ bytes) ∷ lines) small = absurd (omega arith)

filled_filled : (lines : List (List ℕ)) → filled (filled lines) ≡ filled lines
filled_filled [] = refl
filled_filled (line ∷ lines) = refl

-- the flag leaves the stored form
pub filled-settled : (empty : Bool) (lines : List (List ℕ)) → filled (settled empty lines) ≡ filled lines
filled-settled false lines = filled_filled lines
filled-settled true lines =
    elim (nat_le (bytes_of lines) 1) as (λ b. b ≡ nat_le (bytes_of lines) 1 → filled (cond b [] (filled lines)) ≡ filled lines) [
      | true ↦ λ is. sym (filled_small lines (grind (arith, nat_tests)))
      | false ↦ λ _. filled_filled lines
    ] refl

-- the flag of a text tells its stored form's text
pub settled-filled : (text : List (List ℕ)) → settled (has_no_lines text) (filled text) ≡ text
settled-filled [] = refl
settled-filled (line ∷ text) = refl

-- the range of the entry that leads back, in a stored form of n lines
range_back : (top old count len n : ℕ) → top + old ≤ len → n + old ≡ len + count → (if (if top + old == len then 0 else top + count + 1) == 0 then n + 1 else (if top + old == len then 0 else top + count + 1)) - top - 1 ≡ count
range_back top old count len n within is =
    elim (top + old == len) as (λ b. b ≡ (top + old == len) → (if (if b then 0 else top + count + 1) == 0 then n + 1 else (if b then 0 else top + count + 1)) - top - 1 ≡ count) [
      | true ↦ λ t. grind (arith, nat_tests)
      | false ↦ λ t. grind (arith, nat_tests)
    ] refl

-- the same, where no line is left and one empty line stands for none
blank_range : (top old count len : ℕ) → top ≡ 0 → old ≡ len → (if (if top + old == len then 0 else top + count + 1) == 0 then 2 else (if top + old == len then 0 else top + count + 1)) - top - 1 ≡ 1
blank_range top old count len top_is old_is =
    elim (top + old == len) as (λ b. b ≡ (top + old == len) → (if (if b then 0 else top + count + 1) == 0 then 2 else (if b then 0 else top + count + 1)) - top - 1 ≡ 1) [
      | true ↦ λ t. grind (arith, nat_tests)
      | false ↦ λ t. grind (arith, nat_tests)
    ] refl

-- the lines that went out stand again in the place of those that came in
exchanged_back : (s new lines : List (List ℕ)) (top old : ℕ) → top + old ≤ length s → 0 < length s → lines ≡ splice s top old new
    → splice (filled lines) top ((if (if top + old == length s then 0 else top + length new + 1) == 0 then length (filled lines) + 1 else (if top + old == length s then 0 else top + length new + 1)) - top - 1) (cut_out s top old) ≡ s
exchanged_back s new [] top old within some is =
    let sum = length-splice s top old within new in
    let none : length (splice s top old new) ≡ 0 = ap length (sym is) in
    let top_is : top ≡ 0 = omega arith in
    let old_is : old ≡ length s = omega arith in
    let range : (if (if top + old == length s then 0 else top + length new + 1) == 0 then 2 else (if top + old == length s then 0 else top + length new + 1)) - top - 1 ≡ 1 = blank_range top old (length new) (length s) top_is old_is in
    ap (λ k. splice ([] ∷ []) top k (cut_out s top old)) range ∙ (ap (λ k. splice ([] ∷ []) k 1 (cut_out s k old)) top_is ∙ (ap (λ k. splice ([] ∷ []) 0 1 (cut_out s 0 k)) old_is ∙ (append-nil (take (length s) s) ∙ take_all (length s) s (omega arith))))
exchanged_back s new (line ∷ lines) top old within some is =
    let sum = length-splice s top old within new in
    let same : length (line ∷ lines) ≡ length (splice s top old new) = ap length is in
    let range = range_back top old (length new) (length s) (length (line ∷ lines)) within (omega arith) in
    ap (λ k. splice (line ∷ lines) top k (cut_out s top old)) range ∙ (ap (λ xs. splice xs top (length new) (cut_out s top old)) is ∙ splice_back s top old within new)

-- An entry that leads back is applied to any text with the stored form that results.
module _ (text new after : List (List ℕ)) (top old : ℕ) (within : top + old ≤ length (filled text)) (is : filled after ≡ filled (splice (filled text) top old new)) where
  pub back_applied : applied (way_back text top old (length new)) after ≡ text
  back_applied =
      let lines = splice (filled text) top old new in
      rw is (ap (settled (has_no_lines text)) (exchanged_back (filled text) new lines top old within (filled_some text) refl) ∙ settled-filled text)

bytes_of-filled : (lines : List (List ℕ)) → bytes_of lines ≤ bytes_of (filled lines)
bytes_of-filled [] = omega arith
bytes_of-filled (line ∷ lines) = omega arith

-- the flag takes one byte out at most
pub bytes_of-settled : (empty : Bool) (lines : List (List ℕ)) → bytes_of lines ≤ max 1 (bytes_of (settled empty lines))
bytes_of-settled false lines = omega (arith, bytes_of-filled lines)
bytes_of-settled true lines =
    elim (nat_le (bytes_of lines) 1) as (λ b. b ≡ nat_le (bytes_of lines) 1 → bytes_of lines ≤ max 1 (bytes_of (cond b [] (filled lines)))) [
      | true ↦ λ is. grind (arith, nat_tests)
      | false ↦ λ _. omega (arith, bytes_of-filled lines)
    ] refl

-- a text has no lines where their number is 0
pub bare_is : (text : List (List ℕ)) (count : ℕ) → length text ≡ count → (count == 0) ≡ has_no_lines text
bare_is [] count is = grind (arith, nat_tests)
bare_is (line ∷ text) count is = grind (arith, nat_tests)

-- an entry that leads back from where another led
pub leads_back : (entry back : Entry) (from to : List (List ℕ)) → LeadsCount back (length (filled to)) (length (filled from)) → back ≡ led_back entry from
    → Leads entry from to → Leads back to from
leads_back entry back from to count is leads =
    let old = range_in entry (length (filled from)) in
    let stored : filled to ≡ filled (splice (filled from) entry.top old entry.lines) =
    ap filled leads.is ∙ filled-settled entry.empty (splice (filled from) entry.top old entry.lines) in
    record {
      count = count;
      is = sym (ap (λ e. applied e to) is ∙ back_applied from entry.lines to entry.top old (omega (arith, leads.count.fits.above, leads.count.fits.within)) stored);
      from_bytes = leads.to_bytes;
      to_bytes = leads.from_bytes;
    }

long : (size : ℕ) (lines : List (List ℕ)) → 1 < size → (if nat_le size 1 then [] else lines) ≡ lines
long size lines more =
    elim (nat_le size 1) as (λ b. b ≡ nat_le size 1 → (if b then [] else lines) ≡ lines) [
      | true ↦ λ is. absurd (grind (arith, nat_tests))
      | false ↦ λ _. refl
    ] refl

-- other lines than one empty line stay
pub settled_stays : (empty : Bool) (lines : List (List ℕ)) → empty ≡ true → (length lines ≡ 1 → bytes_of lines ≡ 1 → ⊥) → settled empty lines ≡ lines
settled_stays empty [] is other = ap (λ e. settled e []) is
settled_stays empty ([] ∷ []) is other = absurd (other refl refl)
settled_stays empty ([] ∷ (line ∷ lines)) is other = rw is (long (bytes_of ([] ∷ (line ∷ lines))) ([] ∷ (line ∷ lines)) (omega arith))
settled_stays empty ((byte ∷ bytes) ∷ lines) is other = rw is (long (bytes_of ((byte ∷ bytes) ∷ lines)) ((byte ∷ bytes) ∷ lines) (omega arith))

spliced_filled : (text new : List (List ℕ)) (top old : ℕ) → top + old ≤ length text → filled (splice text top old new) ≡ filled (splice (filled text) top (if has_no_lines text then 1 else old) new)
spliced_filled [] new top old within =
    let top_is : top ≡ 0 = omega arith in
    let old_is : old ≡ 0 = omega arith in
    ap (λ k. filled (splice [] k old new)) top_is ∙ (ap (λ k. filled (splice [] 0 k new)) old_is ∙ ap (λ k. filled (splice ([] ∷ []) k 1 new)) (sym top_is))
spliced_filled (line ∷ text) new top old within = refl

within_filled : (text : List (List ℕ)) (top old : ℕ) → top + old ≤ length text → top + (if has_no_lines text then 1 else old) ≤ length (filled text)
within_filled [] top old within = omega arith
within_filled (line ∷ text) top old within = omega arith

-- the entry of a splice leads back from the spliced text
pub leads_splice_back : (entry : Entry) (text new : List (List ℕ)) (top old lines after_lines : ℕ) → entry ≡ entry_back text top old (length new) → top + old ≤ length text
    → length text ≡ lines → length (splice text top old new) ≡ after_lines → LeadsCount entry (max 1 after_lines) (max 1 lines)
    → bytes_of text ≤ MAX_TEXT_BYTES → bytes_of (splice text top old new) ≤ MAX_TEXT_BYTES → Leads entry (splice text top old new) text
leads_splice_back entry text new top old lines after_lines is within lines_are after_are count bytes after_bytes =
    let a : max 1 after_lines ≡ length (filled (splice text top old new)) = sym (length-filled (splice text top old new) ∙ ap (max 1) after_are) in
    let b : max 1 lines ≡ length (filled text) = sym (length-filled text ∙ ap (max 1) lines_are) in
    record {
      count = subst (λ n. LeadsCount entry (length (filled (splice text top old new))) n) b (subst (λ n. LeadsCount entry n (max 1 lines)) a count);
      is = sym (ap (λ e. applied e (splice text top old new)) is ∙ back_applied text new (splice text top old new) top (if has_no_lines text then 1 else old) (within_filled text top old within) (spliced_filled text new top old within));
      from_bytes = after_bytes;
      to_bytes = bytes;
    }

bytes_of-stored : (text : List (List ℕ)) → bytes_of (filled text) ≡ max 1 (bytes_of text)
bytes_of-stored [] = refl
bytes_of-stored (line ∷ text) = omega arith

-- the flag adds one byte at most
bytes_of-settled_le : (empty : Bool) (lines : List (List ℕ)) → bytes_of (settled empty lines) ≤ max 1 (bytes_of lines)
bytes_of-settled_le false lines = omega (arith, bytes_of-stored lines)
bytes_of-settled_le true lines =
    elim (nat_le (bytes_of lines) 1) as (λ b. bytes_of (cond b [] (filled lines)) ≤ max 1 (bytes_of lines)) [
      | true ↦ omega arith
      | false ↦ omega (arith, bytes_of-stored lines)
    ]

-- The bytes of a text after an entry, where its range has `old` lines.
module _ (entry : Entry) (text : List (List ℕ)) (old : ℕ) (within : entry.top + old ≤ length (filled text)) (is : old ≡ range_in entry (length (filled text))) where
  pub gone_le : bytes_of (cut_out (filled text) entry.top old) ≤ max 1 (bytes_of text)
  gone_le = omega (arith, bytes_of-cut_out (filled text) entry.top old within, bytes_of-stored text)

  spliced : bytes_of (splice (filled text) entry.top old entry.lines) + bytes_of (cut_out (filled text) entry.top old) ≡ max 1 (bytes_of text) + bytes_of entry.lines
  spliced = omega (arith, bytes_of-splice (filled text) entry.lines entry.top old within, bytes_of-stored text)

  same : applied entry text ≡ settled entry.empty (splice (filled text) entry.top old entry.lines)
  same = ap (λ k. settled entry.empty (splice (filled text) entry.top k entry.lines)) (sym is)

  pub applied_few : max 1 (bytes_of text) - bytes_of (cut_out (filled text) entry.top old) + bytes_of entry.lines ≤ MAX_TEXT_BYTES → bytes_of (applied entry text) ≤ MAX_TEXT_BYTES
  applied_few few =
      omega (arith, few, ap bytes_of same, gone_le, spliced, bytes_of-settled_le entry.empty (splice (filled text) entry.top old entry.lines))

  pub applied_room : bytes_of (applied entry text) ≤ MAX_TEXT_BYTES → max 1 (bytes_of text) - bytes_of (cut_out (filled text) entry.top old) + bytes_of entry.lines ≤ MAX_TEXT_BYTES
  applied_room few =
      omega (arith, few, ap bytes_of same, gone_le, spliced, bytes_of-settled entry.empty (splice (filled text) entry.top old entry.lines))

-- an entry leads from a text to the one after it, where the store counts the lines of both texts
pub leads_counted : (entry : Entry) (from to : List (List ℕ)) (from_lines to_lines : ℕ) → length from ≡ from_lines → length to ≡ to_lines
    → LeadsCount entry (max 1 from_lines) (max 1 to_lines) → to ≡ applied entry from → bytes_of from ≤ MAX_TEXT_BYTES → bytes_of to ≤ MAX_TEXT_BYTES → Leads entry from to
leads_counted entry from to from_lines to_lines from_is to_is count is from_bytes to_bytes =
    let a : max 1 from_lines ≡ length (filled from) = sym (length-filled from ∙ ap (max 1) from_is) in
    let b : max 1 to_lines ≡ length (filled to) = sym (length-filled to ∙ ap (max 1) to_is) in
    record {
      count = subst (λ n. LeadsCount entry (length (filled from)) n) b (subst (λ n. LeadsCount entry n (max 1 to_lines)) a count);
      is = is;
      from_bytes = from_bytes;
      to_bytes = to_bytes;
    }

-- the way back over a text, where the store counts the lines of both texts
pub leads_back_counted : (entry back : Entry) (from to : List (List ℕ)) (from_lines to_lines : ℕ) → length from ≡ from_lines → length to ≡ to_lines
    → LeadsCount back (max 1 to_lines) (max 1 from_lines) → back ≡ led_back entry from → Leads entry from to → Leads back to from
leads_back_counted entry back from to from_lines to_lines from_is to_is count is leads =
    let a : max 1 to_lines ≡ length (filled to) = sym (length-filled to ∙ ap (max 1) to_is) in
    let b : max 1 from_lines ≡ length (filled from) = sym (length-filled from ∙ ap (max 1) from_is) in
    leads_back entry back from to (subst (λ n. LeadsCount back (length (filled to)) n) b (subst (λ n. LeadsCount back n (max 1 from_lines)) a count)) is leads
