-- What is written is an undo file: each row that is written is one that is read.
use Rattle.std.proofs.Common.{◌≡◌, ℕ, ◌+◌, ◌≤◌, Bool, true, false, List, [], ◌∷◌, ◌++◌, length, map, Some, refl, sym, ap, subst, ◌∙◌, arith}
use Rattle.std.specs.List.{AllByRecursion}
use Rattle.std.specs.Prelude.{if◌then◌else◌}
use Rattle.std.proofs.lemmas.List.{append-nil, length-map, length-replicate}
use Rattle.vs_ufile.specs.Decode.{IsUndoFile, IsWellFormed}
use Rattle.vs_ufile.specs.Format.{Row, Any, AnySized, Each, Here, InOrder, Is, IsFlags, IsNumber, IsOptions, IsSave, change_rows, entry_rows, line_rows, option_rows, plain_rows}
use Rattle.vs_ufile.specs.Failing.{AreNumbers}
use Rattle.vs_ufile.specs.Reading.{File, Placed, is_empty, numbers_of, start_bytes}
use Rattle.vs_ufile.specs.Tree.{numbers}
use Rattle.vs_ufile.specs.Values.{Change, Entry, History}
use Rattle.vs_ufile.specs.Writing.{IsWritten, IsZeros, PutsAll, change_written, entry_written, file_written, front_written, line_written, numbers_written, save_written}
use Rattle.vs_ufile.proofs.Known.{numbers_are}
use Rattle.vs_ufile.proofs.Laws.{both_in_order, one_row, splits}
use Rattle.vs_ufile.proofs.Rules.{follows_numbers}

-- ---- rows for rows

abbrev Implies : Row → Row → Type 0
Implies P Q = (part : List ℕ) (following : ℕ) → P part following → Q part following

-- each row for the row at its place
abbrev AllImply : List Row → List Row → Type 0
AllImply [] [] = Unit {0}
AllImply [] (Q ∷ Qs) = ⊥
AllImply (P ∷ Ps) [] = ⊥
AllImply (P ∷ Ps) (Q ∷ Qs) = Implies P Q × AllImply Ps Qs

to_rows : (Ps Qs : List Row) → AllImply Ps Qs → (part : List ℕ) (following : ℕ) → InOrder Ps part following → InOrder Qs part following
to_rows [] [] h part following is = is
to_rows [] (Q ∷ Qs) h part following is = absurd h
to_rows (P ∷ Ps) [] h part following is = absurd h
to_rows (P ∷ Ps) (Q ∷ Qs) h part following is = (is.0, is.1, is.2, h.0 is.0 (length is.1 + following) is.3, to_rows Ps Qs h.1 is.1 following is.4)

to_each : {A : Type 0} (Ps Qs : A → List Row) → ((x : A) → AllImply (Ps x) (Qs x)) → (xs : List A) → Implies (Each Ps xs) (Each Qs xs)
to_each Ps Qs h [] part following is = is
to_each Ps Qs h (x ∷ xs) part following is = (is.0, is.1, is.2, to_rows (Ps x) (Qs x) (h x) is.0 (length is.1 + following) is.3, to_each Ps Qs h xs is.1 following is.4)

same : (P : Row) → Implies P P
same P part following is = is

zeros : (n : ℕ) → Implies (IsZeros n) (Any n)
zeros n part following is = record { wide = ap length is.same ∙ length-replicate n 0 }

-- ---- the parts

line_read : (line : List ℕ) → AllImply (line_written line) (line_rows line)
line_read line = (λ part following is. (_, is.way_back, is.stored), tt)

entry_read : (e : Entry) → AllImply (entry_written e) (entry_rows e)
entry_read e =
    (same (IsNumber 2 0xf518), (same (IsNumber 4 e.top), (same (IsNumber 4 e.bottom), (same (IsNumber 4 e.count), (same (IsNumber 4 (length e.lines)), (to_each line_written line_rows line_read e.lines, tt))))))

flag_is : (empty : Bool) → is_empty (if empty then 2 else 0) ≡ empty
flag_is true = refl
flag_is false = refl

flags_read : (empty : Bool) → Implies (IsNumber 2 (if empty then 2 else 0)) (IsFlags empty)
flags_read empty part following is = (_, flag_is empty, one_row (IsNumber 2 (if empty then 2 else 0)) part following is)

save_read : (save : ℕ) → save ≤ 2000000000 → Implies (InOrder (save_written save)) (IsOptions save)
save_read save small part following is =
    let field : List Row = IsNumber 1 4 ∷ IsNumber 1 1 ∷ IsNumber 4 save ∷ [] in
    let s = splits field (IsNumber 1 0 ∷ []) part following is in
    let own : Implies (IsNumber 4 save) (IsSave save) = λ p b row. record { number = row; small = small } in
    let option : InOrder (option_rows (Some save)) s.first (length s.second + following) =
    to_rows field (option_rows (Some save)) (same (IsNumber 1 4), (same (IsNumber 1 1), (own, tt))) s.first (length s.second + following) s.first_is in
    let none : List ℕ = [] in
    let place : length s.second + following ≡ length none + (length s.second + following) = omega arith in
    let each : Each option_rows (Some save ∷ []) s.first (length s.second + following) = (s.first, none, sym (append-nil s.first), subst (λ (n : ℕ). InOrder (option_rows (Some save)) s.first n) place option, refl) in
    (Some save ∷ [], refl, (s.first, s.second, s.whole, each, s.second_is))

change_read : (c : Change) → c.save ≤ 2000000000 → AllImply (change_written c) (plain_rows c)
change_read c small = (
  same (IsNumber 2 0x5fd0),
  (
    same (IsNumber 4 c.next),
    (
      same (IsNumber 4 c.prev),
      (
        same (IsNumber 4 c.alt_next),
        (
          same (IsNumber 4 c.alt_prev),
          (
            same (IsNumber 4 c.number),
            (
              zeros 12,
              (
                zeros 4,
                (
                  flags_read c.empty,
                  (
                    zeros 312,
                    (
                      zeros 24,
                      (
                        zeros 4,
                        (
                          zeros 4,
                          (same (IsNumber 8 c.time), (save_read c.save small, (to_each entry_written entry_rows entry_read c.entries, (same (IsNumber 2 0x3581), tt)))),
                        ),
                      ),
                    ),
                  ),
                ),
              ),
            ),
          ),
        ),
      ),
    ),
  ),
)

-- changes with their places
record Placing (cs : List Change) (part : List ℕ) (following : ℕ) : Type 0 where
  placed : List Placed
  changes : map (λ p. p.change) placed ≡ cs
  rows : Each change_rows placed part following

changes_read : (cs : List Change) → AllByRecursion (λ c. c.save ≤ 2000000000) cs → (part : List ℕ) (following : ℕ) → Each change_written cs part following → Placing cs part following
changes_read [] small part following is = record { placed = []; changes = refl; rows = is }
changes_read (c ∷ cs) small part following is =
    let more = changes_read cs small.1 is.1 following is.4 in
    let left : ℕ = length is.0 + (length is.1 + following) in
    let none : List ℕ = [] in
    let own : InOrder (plain_rows c) is.0 (length is.1 + following) = to_rows (change_written c) (plain_rows c) (change_read c small.0) is.0 (length is.1 + following) is.3 in
    record {
      placed = record { left = left; change = c } ∷ more.placed;
      changes = ap (λ (xs : List Change). c ∷ xs) more.changes;
      rows = (is.0, is.1, is.2, (none, is.0, refl, record { none = refl; place = refl }, own), more.rows);
    }

-- ---- the whole file

pub is_written : (h : History) (bytes : List ℕ) → PutsAll (file_written h) [] bytes → IsWritten h bytes
is_written h bytes p = λ following. subst (λ (x : List ℕ). InOrder (file_written h) x following) (sym p.whole) (p.is following)

front_read : (digest : List ℕ) (lines : ℕ) → AllImply (front_written digest lines) (Is start_bytes ∷ IsNumber 2 2 ∷ Is digest ∷ IsNumber 4 lines ∷ AnySized ∷ Any 4 ∷ Any 4 ∷ [])
front_read digest lines = (same (Is start_bytes), (same (IsNumber 2 2), (same (Is digest), (same (IsNumber 4 lines), (λ part following is. ([], is), (zeros 4, (zeros 4, tt)))))))

abbrev heads_rows : History → List Row
heads_rows h = numbers_written h ++ IsNumber 8 h.time ∷ IsOptions h.last_save ∷ []

abbrev heads_written : History → List Row
heads_written h = numbers_written h ++ IsNumber 8 h.time ∷ InOrder (save_written h.last_save) ∷ []

heads_read : (h : History) → h.last_save ≤ 2000000000 → AllImply (heads_written h) (heads_rows h)
heads_read h small = (
  same (IsNumber 4 h.oldest),
  (
    same (IsNumber 4 h.newest),
    (
      same (IsNumber 4 h.current_head),
      (
        same (IsNumber 4 h.heads),
        (
          same (IsNumber 4 h.last),
          (
            same (IsNumber 4 h.current),
            (same (IsNumber 8 h.time), (save_read h.last_save small, tt)),
          ),
        ),
      ),
    ),
  ),
)

-- the file with the places of its parts
abbrev file_at : History → ℕ → List Placed → File
file_at h left placed = record {
  heads_left = left;
  front = record { digest = h.digest; lines = h.lines };
  numbers = record { oldest = h.oldest; newest = h.newest; current_head = h.current_head; heads = h.heads; last = h.last; current = h.current };
  time = h.time;
  last_save = h.last_save;
  placed = placed;
}

pub is_undo_file : (h : History) (bytes : List ℕ) → IsWellFormed h → IsWritten h bytes → (more : List ℕ) → IsUndoFile h (bytes ++ more)
is_undo_file h bytes well is more =
    let following : ℕ = length more in
    let ends : List Row = Each change_written h.changes ∷ IsNumber 2 0xe7aa ∷ [] in
    let front : List Row = Is start_bytes ∷ IsNumber 2 2 ∷ Is h.digest ∷ IsNumber 4 h.lines ∷ AnySized ∷ Any 4 ∷ Any 4 ∷ [] in
    let a = splits (front_written h.digest h.lines) (heads_written h ++ ends) bytes following (is following) in
    let b = splits (heads_written h) ends a.second following a.second_is in
    let c = changes_read h.changes well.rules.saves b.second_is.0 (length b.second_is.1 + following) b.second_is.3 in
    let left : ℕ = length a.second + following in
    let f : File = file_at h left c.placed in
    let last : InOrder (Each change_rows c.placed ∷ IsNumber 2 0xe7aa ∷ []) b.second following = (b.second_is.0, b.second_is.1, b.second_is.2, c.rows, b.second_is.4) in
    let middle : InOrder (heads_rows h) b.first (length b.second + following) = to_rows (heads_written h) (heads_rows h) (heads_read h well.rules.last_save) b.first (length b.second + following) b.first_is in
    let tail : InOrder (heads_rows h ++ Each change_rows c.placed ∷ IsNumber 2 0xe7aa ∷ []) (b.first ++ b.second) following = both_in_order (heads_rows h) (Each change_rows c.placed ∷ IsNumber 2 0xe7aa ∷ []) b.first b.second following middle last in
    let own : InOrder (heads_rows h ++ Each change_rows c.placed ∷ IsNumber 2 0xe7aa ∷ []) a.second following =
    subst (λ (x : List ℕ). InOrder (heads_rows h ++ Each change_rows c.placed ∷ IsNumber 2 0xe7aa ∷ []) x following) (sym b.whole) tail in
    let none : List ℕ = [] in
    let placed : InOrder (Here left ∷ (heads_rows h ++ Each change_rows c.placed ∷ IsNumber 2 0xe7aa ∷ [])) a.second following = (none, a.second, refl, record { none = refl; place = refl }, own) in
    let first : InOrder front a.first (length a.second + following) = to_rows (front_written h.digest h.lines) front (front_read h.digest h.lines) a.first (length a.second + following) a.first_is in
    let all = both_in_order front (Here left ∷ (heads_rows h ++ Each change_rows c.placed ∷ IsNumber 2 0xe7aa ∷ [])) a.first a.second following first placed in
    let count : length c.placed ≡ length h.changes = sym (length-map c.placed (λ p. p.change)) ∙ ap length c.changes in
    let named : numbers_of c.placed ≡ numbers h.changes = sym (numbers_are c.placed) ∙ ap numbers c.changes in
    record {
      file = f;
      form = record {
        part = a.first ++ a.second;
        rest = more;
        whole = ap (λ (x : List ℕ). x ++ more) a.whole;
        in_order = all;
        digest = well.rules.digest;
        numbers = follows_numbers h.heads c.placed (subst AreNumbers (sym named) well.rules.numbers) (omega (arith, count, well.rules.heads));
      };
      is = ap (λ (cs : List Change). record h { changes = cs }) c.changes;
      rules = well.rules;
    }
