-- Lines that go and come again by two splices are moved as one splice moves them.
use Rattle.std.proofs.Common.{◌≡◌, ◌≢◌, ◌∙◌, ℕ, ◌+◌, ◌-◌, ◌≤◌, ◌<◌, ◌==◌, ◌||◌, ◌&&◌, Bool, true, false, nat_lt, nat_le, if◌then◌else◌, List, [], ◌++◌, All, length, take, drop, Option, Some, None, Ok, refl, ap, sym, arith, append_assoc, add-zero, length-take}
use Rattle.std.proofs.Math.Seq.{take-append-add, drop-append-add}
use Rattle.std.proofs.lemmas.Bool.Decides.{nat_tests}
use Rattle.std.proofs.lemmas.List.{take-append-le, drop-append-le, take-take, drop-take, drop-drop}
use Rattle.std.proofs.lemmas.List.Elements.{All-append, All-take, All-drop}
use Rattle.vs_text.specs.Text.{bytes_of}
use Rattle.vs_text.specs.Limits.{IsShort, IsWithinLimits}
use Rattle.vs_text.specs.declared.TheConstants.{MAX_LINES, MAX_TEXT_BYTES}
use Rattle.vs_edit.specs.Splices.{splice, cut_out}
use Rattle.vs_edit.proofs.SpliceLemmas.{length-splice, length-cut_out, bytes_of-splice}
use Rattle.std.specs.Prelude.{ℤ, int_lt, not, IfErr, Result, Err}
use Rattle.std.proofs.lemmas.Bool.{false≢true}
use Rattle.vs_exparse.specs.Command.{Command}
use Rattle.vs_exparse.specs.Command.Command.{Move}
use Rattle.vs_exparse.specs.declared.command.Address.{Address}
use Rattle.vs_exparse.specs.declared.command.Range.{Range}
use Rattle.vs_exparse.specs.declared.command.ExErr.{ExErr}
use Rattle.vs_exparse.specs.declared.command.ExErr.TheVariants.{E134, E493}
use Rattle.vs_excmd.specs.declared.place.LineZero.TheVariants as zero
use Rattle.vs_excmd.specs.Change.{Change, Effect, before, bounded, lines_in, moved, size_of, spliced}
use Rattle.vs_excmd.specs.Errors.{check, on, or_E16}
use Rattle.vs_excmd.specs.Meaning.{effect, planned}
use Rattle.vs_excmd.specs.Place.{BeginsAtLine, IsOutside, IsPlaceIn, destination, first_at, is_into_itself, last_at, line_at, line_in, lines_to, located, meant, place_of, span_of}
use Rattle.vs_excmd.specs.declared.place.Place.{Place}
use Rattle.vs_excmd.proofs.LimitLemmas.{short-all}
use Rattle.vs_marks.specs.Marks.{marks_after}
use Rattle.vs_global.specs.Carry.{lines_moved, moved_between}
use Rattle.vs_global.specs.Global.{come_to, exchanged_marks, found, is_E486, is_move, marks_by, moved_marks, places}
use Rattle.vs_global.proofs.PlacesLemmas.{length-exchanged, places-exchanged}

swap-up : {X : Type 0} (text : List X) (to top size : ℕ) → to ≤ top → top + size ≤ length text
    → splice (splice text top size []) to 0 (cut_out text top size) ≡ splice text to (top + size - to) (cut_out text top size ++ cut_out text to (top - to))
swap-up {X} text to top size before within =
    let gone = splice text top size [] in
    let moved = cut_out text top size in
    let between = cut_out text to (top - to) in
    let back = drop (top + size) text in
    let short : to ≤ length (take top text) = omega (arith, length-take top text, within, before) in
    let plain : gone ≡ take top text ++ back = append_assoc (take top text) [] back in
    let front : take to gone ≡ take to text = ap (take to) plain ∙ take-append-le to (take top text) back short ∙ take-take to top text before in
    let up_to : top ≡ to + (top - to) = omega (arith, before) in
    let inner : drop to (take top text) ≡ between = ap (λ (n : ℕ). drop to (take n text)) up_to ∙ drop-take to (top - to) text in
    let rest : drop to gone ≡ between ++ back = ap (drop to) plain ∙ drop-append-le to (take top text) back short ∙ ap (λ (l : List X). l ++ back) inner in
    let at : top + size ≡ to + (top + size - to) = omega (arith, before) in
    ap (λ (l : List X). l ++ moved ++ drop (to + 0) gone) front ∙ ap (λ (k : ℕ). take to text ++ moved ++ drop k gone) (add-zero to)
    ∙ ap (λ (l : List X). take to text ++ moved ++ l) rest ∙ sym (append_assoc (take to text ++ moved) between back)
    ∙ ap (λ (l : List X). l ++ back) (append_assoc (take to text) moved between) ∙ ap (λ (k : ℕ). take to text ++ (moved ++ between) ++ drop k text) at

swap-down : {X : Type 0} (text : List X) (to top size : ℕ) → top + size ≤ to → to ≤ length text
    → splice (splice text top size []) (to - size) 0 (cut_out text top size) ≡ splice text top (to - top) (cut_out text (top + size) (to - (top + size)) ++ cut_out text top size)
swap-down {X} text to top size after within =
    let gone = splice text top size [] in
    let moved = cut_out text top size in
    let back = drop (top + size) text in
    let n = to - (top + size) in
    let between = take n back in
    let size_front : length (take top text) ≡ top = omega (arith, length-take top text, after, within) in
    let plain : gone ≡ take top text ++ back = append_assoc (take top text) [] back in
    let at : to - size ≡ length (take top text) + n = omega (arith, size_front, after) in
    let front : take (to - size) gone ≡ take top text ++ between =
    ap (take (to - size)) plain ∙ ap (λ (k : ℕ). take k (take top text ++ back)) at ∙ take-append-add (take top text) back n in
    let past : top + size + n ≡ to = omega (arith, after) in
    let rest : drop (to - size) gone ≡ drop to text =
    ap (drop (to - size)) plain ∙ ap (λ (k : ℕ). drop k (take top text ++ back)) at ∙ drop-append-add (take top text) back n
    ∙ drop-drop n (top + size) text ∙ ap (λ (k : ℕ). drop k text) past in
    let whole : to ≡ top + (to - top) = omega (arith, after) in
    ap (λ (l : List X). l ++ moved ++ drop (to - size + 0) gone) front ∙ ap (λ (k : ℕ). take top text ++ between ++ moved ++ drop k gone) (add-zero (to - size))
    ∙ ap (λ (l : List X). take top text ++ between ++ moved ++ l) rest ∙ ap (λ (l : List X). l ++ drop to text) (append_assoc (take top text) between moved)
    ∙ ap (λ (k : ℕ). take top text ++ (between ++ moved) ++ drop k text) whole

and-false : (a b : Bool) → (a && b) ≡ false → a ≡ true → b ≡ false
and-false true b both is = both
and-false false b both is = absurd (false≢true is)

or-false : (a b : Bool) → (a || b) ≡ false → (a ≡ false) × (b ≡ false)
or-false true b either = absurd (false≢true (sym either))
or-false false b either = (refl, either)

-- lines that are moved out of themselves lie before their destination or after it
pub below-place : (place : Place) → 1 ≤ place.lines.first → is_into_itself place ≡ false → place.to ≢ place.lines.last → before place.lines ≤ place.to
    → place.to ≢ before place.lines → place.lines.last < place.to
below-place place positive outside not_last from not_before =
    let in_range : nat_le place.lines.first place.to ≡ true = grind (arith, nat_tests) in
    let past : nat_lt place.to place.lines.last ≡ false = and-false (nat_le place.lines.first place.to) (nat_lt place.to place.lines.last) outside in_range in
    grind (arith, nat_tests)

-- where a move changes nothing
abbrev pub stands : Place → Bool
stands place = (place.to == place.lines.last) || (place.to == before place.lines)

-- The splices of a move: lines go, and come.
abbrev pub two_splices : List (List ℕ) → Place → List (List ℕ)
two_splices text place = splice (splice text (before place.lines) (size_of place.lines) []) (come_to place) 0 (lines_in text place.lines)

-- what a change makes of a text, if it is one
abbrev spliced_or : List (List ℕ) → Option Change → List (List ℕ)
spliced_or text None = text
spliced_or text (Some change) = spliced text change

moved-by : (text : List (List ℕ)) (place : Place) (change : Change) (still up : Bool) → IsPlaceIn (length text) place → 1 ≤ place.lines.first → is_into_itself place ≡ false
    → stands place ≡ still → nat_lt place.to (before place.lines) ≡ up → moved text place ≡ Some change → two_splices text place ≡ spliced text change
moved-by text place change true up lies positive outside is_still is_up is =
    let none : moved text place ≡ None = rw is_still refl in absurd (let both : None ≡ Some change = sym none ∙ is in cc)
moved-by text place change false true lies positive outside is_still is_up is =
    let span = place.lines in
    let some : moved text place ≡ Some (record {
      top = place.to;
      old = span.last - place.to;
      new = lines_in text span ++ cut_out text place.to (before span - place.to);
      cursor = place.to + size_of span;
    }) = rw (is_still, is_up) refl in
    let both : Some (record {
      top = place.to;
      old = span.last - place.to;
      new = lines_in text span ++ cut_out text place.to (before span - place.to);
      cursor = place.to + size_of span;
    }) ≡ Some change = sym some ∙ is in
    let here : come_to place ≡ place.to = grind (arith, nat_tests) in
    let to_top : place.to ≤ before span = grind (arith, nat_tests) in
    let in_text : before span + size_of span ≤ length text = omega (arith, lies.lies.order, lies.lies.within, positive) in
    let last_is : before span + size_of span - place.to ≡ span.last - place.to = omega (arith, lies.lies.order, positive) in
    ap (λ (k : ℕ). splice (splice text (before span) (size_of span) []) k 0 (lines_in text span)) here ∙ swap-up text place.to (before span) (size_of span) to_top in_text
    ∙ ap (λ (k : ℕ). splice text place.to k (lines_in text span ++ cut_out text place.to (before span - place.to))) last_is
    ∙ ap (λ (c : Option Change). spliced_or text c) both
moved-by text place change false false lies positive outside is_still is_up is =
    let span = place.lines in
    let some : moved text place ≡ Some (record {
      top = before span;
      old = place.to - before span;
      new = cut_out text span.last (place.to - span.last) ++ lines_in text span;
      cursor = place.to;
    }) = rw (is_still, is_up) refl in
    let both : Some (record {
      top = before span;
      old = place.to - before span;
      new = cut_out text span.last (place.to - span.last) ++ lines_in text span;
      cursor = place.to;
    }) ≡ Some change = sym some ∙ is in
    let apart = or-false (place.to == span.last) (place.to == before span) is_still in
    let off_last : (place.to == span.last) ≡ false = apart.0 in
    let off_before : (place.to == before span) ≡ false = apart.1 in
    let not_last : place.to ≢ span.last = grind (arith, nat_tests) in
    let not_before : place.to ≢ before span = grind (arith, nat_tests) in
    let from : before span ≤ place.to = grind (arith, nat_tests) in
    let below = below-place place positive outside not_last from not_before in
    let here : come_to place ≡ place.to - size_of span = grind (arith, nat_tests) in
    let last_is : before span + size_of span ≡ span.last = omega (arith, lies.lies.order, positive) in
    let after : before span + size_of span ≤ place.to = omega (arith, last_is, below) in
    ap (λ (k : ℕ). splice (splice text (before span) (size_of span) []) k 0 (lines_in text span)) here ∙ swap-down text place.to (before span) (size_of span) after lies.to_within
    ∙ ap (λ (k : ℕ). splice text (before span) (place.to - before span) (cut_out text k (place.to - k) ++ lines_in text span)) last_is
    ∙ ap (λ (c : Option Change). spliced_or text c) both

-- The splices of a move make its change.
pub moved-twice : (text : List (List ℕ)) (place : Place) (change : Change) → IsPlaceIn (length text) place → 1 ≤ place.lines.first → is_into_itself place ≡ false
    → moved text place ≡ Some change → two_splices text place ≡ spliced text change
moved-twice text place change lies positive outside is =
    moved-by text place change (stands place) (nat_lt place.to (before place.lines)) lies positive outside refl refl is

-- the lines that are left have room for the line before which the others come
comes-by : (place : Place) (count : ℕ) (test : Bool) → nat_lt place.to place.lines.first ≡ test → IsPlaceIn count place → 1 ≤ place.lines.first
    → (if test then place.to else place.to - size_of place.lines) + size_of place.lines ≤ count
comes-by place count true is lies positive =
    let early : place.to < place.lines.first = grind (arith, nat_tests) in omega (arith, early, lies.lies.order, lies.lies.within, lies.to_within, positive)
comes-by place count false is lies positive =
    let late : place.lines.first ≤ place.to = grind (arith, nat_tests) in omega (arith, late, lies.lies.order, lies.lies.within, lies.to_within, positive)

pub comes-within : (place : Place) (count : ℕ) → IsPlaceIn count place → 1 ≤ place.lines.first → is_into_itself place ≡ false → come_to place + size_of place.lines ≤ count
comes-within place count lies positive outside = comes-by place count (nat_lt place.to place.lines.first) refl lies positive

-- the two splices, by what they come to
pub two-as : (text : List (List ℕ)) (place : Place) (gone put : List (List ℕ)) (top size at : ℕ) → top ≡ before place.lines → size ≡ size_of place.lines → at ≡ come_to place
    → gone ≡ splice text top size [] → put ≡ cut_out text top size → splice gone at 0 put ≡ two_splices text place
two-as text place gone put top size at top_is size_is at_is gone_is put_is =
    ap (λ (l : List (List ℕ)). splice l at 0 put) gone_is ∙ ap (λ (l : List (List ℕ)). splice (splice text top size []) at 0 l) put_is
    ∙ ap (λ (k : ℕ). splice (splice text k size []) at 0 (cut_out text k size)) top_is
    ∙ ap (λ (k : ℕ). splice (splice text (before place.lines) k []) at 0 (cut_out text (before place.lines) k)) size_is
    ∙ ap (λ (k : ℕ). splice (splice text (before place.lines) (size_of place.lines) []) k 0 (lines_in text place.lines)) at_is

-- a text keeps its numbers of lines and bytes
pub moved-length : (text : List (List ℕ)) (place : Place) → IsPlaceIn (length text) place → 1 ≤ place.lines.first → is_into_itself place ≡ false
    → length (two_splices text place) ≡ length text
moved-length text place lies positive outside =
    let top = before place.lines in
    let size = size_of place.lines in
    let within : top + size ≤ length text = omega (arith, lies.lies.order, lies.lies.within, positive) in
    let gone = splice text top size [] in
    let lines = lines_in text place.lines in
    let empty : length gone + size ≡ length text + 0 = length-splice text top size within [] in
    let room = comes-within place (length text) lies positive outside in
    let at : come_to place + 0 ≤ length gone = omega (arith, empty, room) in
    let count : length lines ≡ size = length-cut_out text top size within in
    let came : length (two_splices text place) + 0 ≡ length gone + length lines = length-splice gone (come_to place) 0 at lines in
    omega (arith, empty, count, came)

pub moved-bytes : (text : List (List ℕ)) (place : Place) → IsPlaceIn (length text) place → 1 ≤ place.lines.first → is_into_itself place ≡ false
    → bytes_of (two_splices text place) ≡ bytes_of text
moved-bytes text place lies positive outside =
    let top = before place.lines in
    let size = size_of place.lines in
    let within : top + size ≤ length text = omega (arith, lies.lies.order, lies.lies.within, positive) in
    let gone = splice text top size [] in
    let room = comes-within place (length text) lies positive outside in
    let at : come_to place + 0 ≤ length gone = omega (arith, length-splice text top size within [], room) in
    let lines = lines_in text place.lines in
    let none : bytes_of (cut_out gone (come_to place) 0) ≡ 0 = refl in
    let empty : bytes_of [] ≡ 0 = refl in
    let went : bytes_of gone + bytes_of lines ≡ bytes_of text + bytes_of [] = bytes_of-splice text [] top size within in
    let came : bytes_of (two_splices text place) + bytes_of (cut_out gone (come_to place) 0) ≡ bytes_of gone + bytes_of lines =
    bytes_of-splice gone lines (come_to place) 0 at in
    omega (arith, none, empty, went, came)

all-cut : (text : List (List ℕ)) (top count : ℕ) → All IsShort text → All IsShort (cut_out text top count)
all-cut text top count all = All-take IsShort count (drop top text) (All-drop IsShort top text all)

-- a text within its limits stays within them
pub moved-bounded : (text : List (List ℕ)) (place : Place) (change : Change) → IsPlaceIn (length text) place → 1 ≤ place.lines.first → is_into_itself place ≡ false
    → IsWithinLimits text → moved text place ≡ Some change → All IsShort change.new → bounded text (Ok (Some change)) ≡ Ok (Some change)
moved-bounded text place change lies positive outside limits is short =
    let same = moved-twice text place change lies positive outside is in
    let count : length (spliced text change) ≡ length text = sym (ap (λ (l : List (List ℕ)). length l) same) ∙ moved-length text place lies positive outside in
    let bytes : bytes_of (spliced text change) ≡ bytes_of text = sym (ap bytes_of same) ∙ moved-bytes text place lies positive outside in
    let few = limits.few_lines in
    let few_bytes = limits.few_bytes in
    let lines_fit : nat_le (length (spliced text change)) MAX_LINES ≡ true = grind (arith, nat_tests) in
    let bytes_fit : nat_le (bytes_of (spliced text change)) MAX_TEXT_BYTES ≡ true = grind (arith, nat_tests) in
    rw (short-all change.new short, lines_fit, bytes_fit) refl

-- the lines that change places are lines of the text
pub between-short : (text : List (List ℕ)) (place : Place) (up : Bool) → nat_lt place.to (before place.lines) ≡ up → All IsShort text → All IsShort (moved_between text place)
between-short text place true is all = rw is (All-append IsShort (lines_in text place.lines) (cut_out text place.to (before place.lines - place.to)) (all-cut text (before place.lines) (size_of place.lines) all) (all-cut text place.to (before place.lines - place.to) all))
between-short text place false is all = rw is (All-append IsShort (cut_out text place.lines.last (place.to - place.lines.last)) (lines_in text place.lines) (all-cut text place.lines.last (place.to - place.lines.last) all) (all-cut text (before place.lines) (size_of place.lines) all))

-- ---- what a move comes to

pub effect-move : (command : Command) (block text : List (List ℕ)) (place : Place) → is_move command ≡ true → effect command block text place ≡ Ok (moved text place)
effect-move (Move range to) block text place is = refl
effect-move command block text place is = absurd (false≢true is)

-- a move, by its place
pub found-move : (command : Command) (text : List (List ℕ)) (cursor : ℕ) (place : Place) (effect_is : Effect) → is_move command ≡ true → place_of command (length text) cursor ≡ Ok place
    → bounded text (Ok (moved text place)) ≡ Ok effect_is → found command text cursor ≡ Ok (place, effect_is)
found-move command text cursor place effect_is moves at bounded_is =
    let plan : planned command [] text cursor ≡ Ok effect_is =
    ap (λ (r : Result Place ExErr). on r (λ p. bounded text (effect command [] text p))) at ∙ ap (bounded text) (effect-move command [] text place moves) ∙ bounded_is in
    ap (λ (r : Result Place ExErr). on r (λ p. on (planned command [] text cursor) (λ e. Ok (p, e)))) at ∙ ap (λ (r : Result Effect ExErr). on r (λ e. Ok (place, e))) plan

pub found-none : (command : Command) (text : List (List ℕ)) (cursor : ℕ) (error : ExErr) → place_of command (length text) cursor ≡ Err error → found command text cursor ≡ Err error
found-none command text cursor error at = ap (λ (r : Result Place ExErr). on r (λ p. on (planned command [] text cursor) (λ e. Ok (p, e)))) at

-- ---- the errors of a place are not E486

abbrev pub NoE486 : {X : Type 0} → Result X ExErr → Type 0
NoE486 r = IfErr r (λ e. is_E486 e ≡ false)

check-none : {X : Type 0} (test : Bool) (error : ExErr) (r : Result X ExErr) → is_E486 error ≡ false → NoE486 r → NoE486 (check test error r)
check-none true error r is none = none
check-none false error r is none = is

on-none : {X Y : Type 0} (r : Result X ExErr) (f : X → Result Y ExErr) → NoE486 r → ((x : X) → NoE486 (f x)) → NoE486 (on r f)
on-none (Ok x) f none all = all x
on-none (Err error) f none all = none

or-none : {X : Type 0} (o : Option X) → NoE486 (or_E16 o)
or-none None = refl
or-none (Some x) = tt

span-none : (lines : ℕ) (first last : ℤ) → NoE486 (span_of lines first last)
span-none lines first last = check-none (not (int_lt last first)) E493 _ refl
    (on-none (or_E16 (line_in lines first)) _ (or-none (line_in lines first)) (λ a. on-none (or_E16 (line_in lines last)) _ (or-none (line_in lines last)) (λ b. tt)))

lines_to-none : (written : Range) (to : Address) (lines cursor : ℕ) → NoE486 (lines_to written to lines cursor)
lines_to-none written to lines cursor = on-none (located zero.IsFirst written lines cursor) _
    (span-none lines (meant zero.IsFirst lines (first_at written lines cursor)) (meant zero.IsFirst lines (last_at written lines cursor)))
    (λ span. on-none (destination to lines cursor) _ (or-none (line_in lines (line_at to lines cursor))) (λ line. tt))

pub place-none : (command : Command) (lines cursor : ℕ) → is_move command ≡ true → NoE486 (place_of command lines cursor)
place-none (Move written to) lines cursor is = on-none (lines_to written to lines cursor) _ (lines_to-none written to lines cursor)
    (λ place. check-none (not (is_into_itself place)) E134 (Ok place) refl tt)
place-none command lines cursor is = absurd (false≢true is)

-- ---- the marks of a move

pub marks-moved : (command : Command) (marks : List Bool) (place : Place) (change : Change) → is_move command ≡ true → marks_by command marks place change ≡ moved_marks marks place
marks-moved command marks place change is = rw is refl

pub length-moved : (marks : List Bool) (place : Place) → IsPlaceIn (length marks) place → 1 ≤ place.lines.first → is_into_itself place ≡ false → length (moved_marks marks place) ≡ length marks
length-moved marks place lies positive outside =
    let top = before place.lines in
    let size = size_of place.lines in
    let within : top + size ≤ length marks = omega (arith, lies.lies.order, lies.lies.within, positive) in
    let gone = exchanged_marks marks top size 0 in
    let length_gone = length-exchanged marks top size 0 within in
    let room = comes-within place (length marks) lies positive outside in
    let at : come_to place + 0 ≤ length gone = omega (arith, length_gone, room) in
    omega (arith, length_gone, length-exchanged gone (come_to place) 0 size at)

pub places-moved : (marks : List Bool) (place : Place) → IsPlaceIn (length marks) place → 1 ≤ place.lines.first → is_into_itself place ≡ false
    → lines_moved place (places 0 marks) ≡ places 0 (moved_marks marks place)
places-moved marks place lies positive outside =
    let top = before place.lines in
    let size = size_of place.lines in
    let within : top + size ≤ length marks = omega (arith, lies.lies.order, lies.lies.within, positive) in
    let gone = exchanged_marks marks top size 0 in
    let length_gone = length-exchanged marks top size 0 within in
    let room = comes-within place (length marks) lies positive outside in
    let at : come_to place + 0 ≤ length gone = omega (arith, length_gone, room) in
    ap (marks_after (come_to place) 0 size) (sym (places-exchanged marks top size 0 within)) ∙ sym (places-exchanged gone (come_to place) 0 size at)

pub moved-short : (text : List (List ℕ)) (place : Place) → All IsShort text → All IsShort (moved_between text place)
moved-short text place all = between-short text place (nat_lt place.to (before place.lines)) refl all

-- where the lines of a move lie
pub begins-move : (command : Command) (place : Place) → is_move command ≡ true → BeginsAtLine command place → 1 ≤ place.lines.first
begins-move (Move written to) place is begins = begins
begins-move command place is begins = absurd (false≢true is)

pub outside-move : (command : Command) (place : Place) → is_move command ≡ true → IsOutside command place → is_into_itself place ≡ false
outside-move (Move written to) place is outside = outside
outside-move command place is outside = absurd (false≢true is)
