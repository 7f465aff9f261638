-- Bytes are those of a part whatever follows them: only the places of changes are others then.
use Rattle.std.proofs.Common.{◌≡◌, ℕ, suc, ◌+◌, List, [], ◌∷◌, ◌++◌, length, Bool, Option, Some, None, refl, sym, ap, subst, ◌∙◌}
use Rattle.vs_ufile.specs.Format.{Row, InOrder, Each, Any, Is, IsFlags, IsLine, IsNumber, IsOptions, IsSave, Skipped, change_rows, entry_rows, line_rows, option_rows, plain_rows, sized}
use Rattle.vs_ufile.specs.Reading.{Placed, numbers_of}
use Rattle.vs_ufile.specs.Values.{Change, Entry}

abbrev pub Moves : Row → Type 0
Moves row = (part : List ℕ) (m n : ℕ) → row part m → row part n

abbrev AllMove : List Row → Type 0
AllMove [] = Unit {0}
AllMove (row ∷ rows) = Moves row × AllMove rows

move_all : (rows : List Row) → AllMove rows → Moves (InOrder rows)
move_all [] h part m n is = is
move_all (row ∷ rows) h part m n is = (is.0, is.1, is.2, h.0 is.0 (length is.1 + m) (length is.1 + n) is.3, move_all rows h.1 is.1 m n is.4)

pub move_each : {A : Type 0} (rows : A → List Row) → ((x : A) → Moves (InOrder (rows x))) → (xs : List A) → Moves (Each rows xs)
move_each rows h [] part m n is = is
move_each rows h (x ∷ xs) part m n is = (is.0, is.1, is.2, h x is.0 (length is.1 + m) (length is.1 + n) is.3, move_each rows h xs is.1 m n is.4)

-- ---- fields

pub move_number : (width n : ℕ) → Moves (IsNumber width n)
move_number width n part a b is = record { wide = is.wide; value = is.value }

pub move_any : (size : ℕ) → Moves (Any size)
move_any size part m n is = record { wide = is.wide }

pub move_run : (run : List ℕ) → Moves (Is run)
move_run run part m n is = record { same = is.same }

move_sized : (run : List ℕ) → Moves (InOrder (sized run))
move_sized run = move_all (sized run) (move_number 4 (length run), (move_run run, tt))

-- ---- the parts

pub move_line : (line : List ℕ) → Moves (InOrder (line_rows line))
move_line line = let own : Moves (IsLine line) = λ part m n is. (is.0, is.1, move_sized is.0 part m n is.2) in move_all (line_rows line) (own, tt)

pub move_entry : (e : Entry) → Moves (InOrder (entry_rows e))
move_entry e = move_all (entry_rows e) (
  move_number 2 0xf518,
  (move_number 4 e.top, (move_number 4 e.bottom, (move_number 4 e.count, (move_number 4 (length e.lines), (move_each line_rows move_line e.lines, tt))))),
)

move_save : (save : ℕ) → Moves (IsSave save)
move_save save part m n is = record { number = move_number 4 save part m n is.number; small = is.small }

move_skipped : Moves Skipped
move_skipped part m n is = record {
  size = is.size;
  kind = is.kind;
  not_end = is.not_end;
  not_save = is.not_save;
  in_order = move_all (IsNumber 1 is.size ∷ IsNumber 1 is.kind ∷ Any is.size ∷ []) (move_number 1 is.size, (move_number 1 is.kind, (move_any is.size, tt))) part m n is.in_order;
}

pub move_option : (o : Option ℕ) → Moves (InOrder (option_rows o))
move_option (Some save) = move_all (option_rows (Some save)) (move_number 1 4, (move_number 1 1, (move_save save, tt)))
move_option None = move_all (option_rows None) (move_skipped, tt)

move_options : (save : ℕ) → Moves (IsOptions save)
move_options save part m n is =
    (is.0, is.1, move_all (Each option_rows is.0 ∷ IsNumber 1 0 ∷ []) (move_each option_rows move_option is.0, (move_number 1 0, tt)) part m n is.2)

move_flags : (empty : Bool) → Moves (IsFlags empty)
move_flags empty part m n is = (is.0, is.1, move_all (IsNumber 2 is.0 ∷ []) (move_number 2 is.0, tt) part m n is.2)

move_change : (c : Change) → Moves (InOrder (plain_rows c))
move_change c = move_all (plain_rows c) (
  move_number 2 0x5fd0,
  (
    move_number 4 c.next,
    (
      move_number 4 c.prev,
      (
        move_number 4 c.alt_next,
        (
          move_number 4 c.alt_prev,
          (
            move_number 4 c.number,
            (
              move_any 12,
              (
                move_any 4,
                (
                  move_flags c.empty,
                  (
                    move_any 312,
                    (
                      move_any 24,
                      (
                        move_any 4,
                        (
                          move_any 4,
                          (move_number 8 c.time, (move_options c.save, (move_each entry_rows move_entry c.entries, (move_number 2 0x3581, tt)))),
                        ),
                      ),
                    ),
                  ),
                ),
              ),
            ),
          ),
        ),
      ),
    ),
  ),
)

-- ---- changes with other places

pub record Replaced (placed : List Placed) (part : List ℕ) (following : ℕ) : Type 0 where
  pub again : List Placed
  pub count : length again ≡ length placed
  pub numbers : numbers_of again ≡ numbers_of placed
  pub rows : Each change_rows again part following

pub replaced : (placed : List Placed) (part : List ℕ) (m n : ℕ) → Each change_rows placed part m → Replaced placed part n
replaced [] part m n is = record { again = []; count = refl; numbers = refl; rows = is }
replaced (p ∷ ps) part m n is =
    let more = replaced ps is.1 m n is.4 in
    let own = is.3 in
    let left : ℕ = length is.0 + (length is.1 + n) in
    let none : List ℕ = [] in
    let same : is.0 ≡ own.1 = own.2 ∙ ap (λ (x : List ℕ). x ++ own.1) own.3.none in
    let moved : InOrder (plain_rows p.change) own.1 (length is.1 + n) = move_change p.change own.1 (length is.1 + m) (length is.1 + n) own.4 in
    let row : InOrder (plain_rows p.change) is.0 (length is.1 + n) = subst (λ (x : List ℕ). InOrder (plain_rows p.change) x (length is.1 + n)) (sym same) moved in
    record {
      again = record { left = left; change = p.change } ∷ more.again;
      count = ap suc more.count;
      numbers = ap (λ (ns : List ℕ). p.change.number ∷ ns) more.numbers;
      rows = (is.0, is.1, is.2, (none, is.0, refl, record { none = refl; place = refl }, row), more.rows);
    }
