-- The bytes that were read are ended lines and a last line: each step adds to one of these, and the end reads both.
use Rattle.std.proofs.Common.{◌≡◌, ◌≢◌, ℕ, ◌+◌, ◌<◌, ◌≤◌, List, [], ◌∷◌, ◌++◌, length, refl, sym, ap, subst, ◌∙◌, arith, inl, inr, Option, Some, None, MatchOption, OnOk, Result, Ok, Err, append_assoc, append-nil, length-append, All}
use Rattle.std.specs.List.{AllByRecursion}
use Rattle.std.proofs.lemmas.Bool.{cases_lt}
use Rattle.std.proofs.lemmas.List.Elements.{recursion_from_All, All-from_recursion, All-nil, All-push, All-append}
use Rattle.std.proofs.lemmas.List.{nil_from_length}
use Rattle.vs_text.specs.Text.{lines_of, file_of, bytes_of, IsLine}
use Rattle.vs_text.specs.Limits.{first_long, IsShort, IsWithinLimits, IsRefusal}
use Rattle.vs_pieces.specs.Reader.{Reading, HasRead, IsReading, IsRefusing, IsCertain, IsAnswer, Reads, ReadsOn, Refuses, size_read}
use Rattle.vs_text.specs.declared.TheConstants.{MAX_LINES, MAX_LINE_BYTES, MAX_TEXT_BYTES}
use Rattle.vs_text.specs.declared.error.TextErr.{TextErr}
use Rattle.vs_text.specs.declared.error.TextErr.TheVariants.{TextFull, LineTooLong, NoMemory}
use Rattle.vs_text.proofs.LineEnds.{lines_of-line, lines_of_last}
use Rattle.vs_text.proofs.FileForm.{bytes_of-append, lines_of-file_of}
use Rattle.vs_text.proofs.Reading.{lines_of-file_then, file_of-one_more}
use Rattle.vs_text.proofs.TextLimits.{first_long_after}

-- bytes that go on have what is certain of their first part
pub IsCertain-more : (fed more : List ℕ) (error : TextErr) → IsCertain fed error → IsCertain (fed ++ more) error
IsCertain-more fed more error certain = λ rest. rw append_assoc (certain (more ++ rest))

pub IsCertain-memory : (fed : List ℕ) → IsCertain fed NoMemory
IsCertain-memory fed = λ more. tt

pub Refuses-memory : (old : Reading) (bytes : List ℕ) → Refuses old bytes NoMemory
Refuses-memory old bytes = λ taken fed h. IsCertain-memory (fed ++ bytes)

-- a line that is too long is certain to be refused once it has ended
pub Refuses-long_line : (old : Reading) → MAX_LINE_BYTES < old.last_size → Refuses old (10 ∷ []) (LineTooLong old.last_size)
Refuses-long_line old long = λ taken fed h more.
    let size : MAX_LINE_BYTES < length h.last = omega (arith, h.counted_last) in
    let parts : (fed ++ 10 ∷ []) ++ more ≡ file_of h.ended ++ (h.last ++ 10 ∷ more) = rw h.parts (simp append_assoc) in
    let lines : lines_of ((fed ++ 10 ∷ []) ++ more) ≡ h.ended ++ h.last ∷ lines_of more =
    ap lines_of parts ∙ (lines_of-file_then h.ended (h.last ++ 10 ∷ more) h.text ∙ ap (λ ls. h.ended ++ ls) (lines_of-line h.last more h.line)) in
    ap first_long lines ∙ (first_long_after h.ended h.last (lines_of more) h.short size ∙ ap Some (sym h.counted_last))

-- bytes of the last line are read
pub ReadsOn-bytes : (old new : Reading) (bytes : List ℕ) → IsLine bytes → new.lines ≡ old.lines → new.ended ≡ old.ended → new.bytes ≡ old.bytes
    → new.last_size ≡ old.last_size + length bytes → (new.last_size ≤ MAX_LINE_BYTES → new.last ≡ old.last ++ bytes) → ReadsOn old new bytes
ReadsOn-bytes old new bytes line lines ended count size grown = λ taken fed h. record {
  ended = h.ended;
  last = h.last ++ bytes;
  parts = ap (λ xs. xs ++ bytes) h.parts ∙ append_assoc (file_of h.ended) h.last bytes;
  text = h.text;
  line = All-append (λ byte. byte ≢ 10) h.last bytes h.line line;
  short = h.short;
  counted_lines = ended ∙ h.counted_lines;
  counted_bytes = count ∙ h.counted_bytes;
  counted_last = omega (arith, length-append h.last bytes, h.counted_last);
  held = λ few small. h.held few small ∙ ap (λ ls. taken ++ ls) (sym lines);
  held_last = λ short.
      let before : length h.last ≤ MAX_LINE_BYTES = omega (arith, length-append h.last bytes) in
      let now : new.last_size ≤ MAX_LINE_BYTES = omega (arith, length-append h.last bytes, h.counted_last) in
      grown now ∙ ap (λ xs. xs ++ bytes) (h.held_last before);
  within = rw lines h.within;
}

front : {X : Type 0} (P : X → Type 0) (xs ys : List X) → AllByRecursion P (xs ++ ys) → AllByRecursion P xs
front P [] ys h = tt
front P (x ∷ xs) ys h = (h.0, front P xs ys h.1)

-- what is within the limits has its first lines within them
pub IsWithinLimits-first : (a b : List (List ℕ)) → IsWithinLimits (a ++ b) → IsWithinLimits a
IsWithinLimits-first a b h = record {
  short_lines = All-from_recursion IsShort a (front IsShort a b (recursion_from_All IsShort (a ++ b) h.short_lines));
  few_lines = omega (arith, length-append a b, h.few_lines);
  few_bytes = omega (arith, bytes_of-append a b, h.few_bytes);
}

-- after a line has ended, what was handed over and what is held is within the limits
within_after : (held taken ended new : List (List ℕ)) → All IsShort ended → IsWithinLimits (taken ++ held)
    → (length ended ≤ MAX_LINES → bytes_of ended ≤ MAX_TEXT_BYTES → ended ≡ taken ++ new)
    → (MAX_LINES < length ended → new ≡ []) → (MAX_TEXT_BYTES < bytes_of ended → new ≡ [])
    → IsWithinLimits (taken ++ new)
within_after held taken ended new short before kept many large =
    let first = IsWithinLimits-first taken held before in
    let none = λ (empty : new ≡ []). let same : taken ≡ taken ++ new = sym (ap (λ ls. taken ++ ls) empty ∙ append-nil taken) in subst IsWithinLimits same first in
    elim (cases_lt MAX_LINES (length ended)) [
      | inl over ↦ none (many over)
      | inr few ↦ elim (cases_lt MAX_TEXT_BYTES (bytes_of ended)) [
        | inl over ↦ none (large over)
        | inr small ↦ let whole : IsWithinLimits ended = record { short_lines = short; few_lines = few; few_bytes = small } in
            subst IsWithinLimits (kept few small) whole
      ]
    ]

-- the last line ends
pub ReadsOn-end : (old new : Reading) (line : List ℕ) → old.last_size ≤ MAX_LINE_BYTES → line ≡ old.last → new.last ≡ [] → new.last_size ≡ 0
    → new.ended ≡ old.ended + 1 → new.bytes ≡ old.bytes + (old.last_size + 1)
    → (new.ended ≤ MAX_LINES → new.bytes ≤ MAX_TEXT_BYTES → new.lines ≡ old.lines ++ line ∷ [])
    → (MAX_LINES < new.ended → new.lines ≡ []) → (MAX_TEXT_BYTES < new.bytes → new.lines ≡ [])
    → ReadsOn old new (10 ∷ [])
ReadsOn-end old new line fits is none no_size ended count kept many large = λ taken fed h.
    let short : length h.last ≤ MAX_LINE_BYTES = omega (arith, h.counted_last) in
    let this : line ≡ h.last = is ∙ h.held_last short in
    let all = h.ended ++ h.last ∷ [] in
    let lines : new.ended ≡ length all = omega (arith, length-append h.ended (h.last ∷ []), h.counted_lines) in
    let size : new.bytes ≡ bytes_of all = omega (arith, bytes_of-append h.ended (h.last ∷ []), h.counted_bytes, h.counted_last) in
    let shorts : All IsShort all = All-push IsShort h.ended h.last h.short short in
    let holds = λ (few : length all ≤ MAX_LINES) (small : bytes_of all ≤ MAX_TEXT_BYTES).
    let before = h.held (omega (arith, length-append h.ended (h.last ∷ []))) (omega (arith, bytes_of-append h.ended (h.last ∷ []))) in
    let now = kept (omega arith) (omega arith) in
    ap (λ ls. ls ++ h.last ∷ []) before ∙ (append_assoc taken old.lines (h.last ∷ []) ∙ ap (λ ls. taken ++ ls) (ap (λ l. old.lines ++ l ∷ []) (sym this) ∙ sym now)) in
    record {
      ended = all;
      last = [];
      parts = ap (λ xs. xs ++ 10 ∷ []) h.parts ∙ (append_assoc (file_of h.ended) h.last (10 ∷ []) ∙ (sym (file_of-one_more h.ended h.last) ∙ sym (append-nil (file_of all))));
      text = All-push IsLine h.ended h.last h.text h.line;
      line = All-nil (λ byte. byte ≢ 10);
      short = shorts;
      counted_lines = lines;
      counted_bytes = size;
      counted_last = no_size;
      held = holds;
      held_last = λ _. none;
      within = within_after old.lines taken all new.lines shorts h.within holds (λ over. many (omega arith)) (λ over. large (omega arith));
    }

-- the same by what the call says that keeps the line
pub ReadsOn-kept : (result : Result (Unit {0}) TextErr) (old mid new : Reading) (line : List ℕ) → old.last_size ≤ MAX_LINE_BYTES → line ≡ old.last
    → mid.lines ≡ old.lines → mid.last ≡ [] → mid.last_size ≡ 0 → mid.ended ≡ old.ended + 1 → mid.bytes ≡ old.bytes + (old.last_size + 1)
    → new ≡ record mid { lines = new.lines }
    → OnOk result (mid.ended ≤ MAX_LINES → mid.bytes ≤ MAX_TEXT_BYTES → new.lines ≡ mid.lines ++ line ∷ [])
    → OnOk result (MAX_LINES < mid.ended → new.lines ≡ []) → OnOk result (MAX_TEXT_BYTES < mid.bytes → new.lines ≡ [])
    → OnOk result (ReadsOn old new (10 ∷ []))
ReadsOn-kept (Ok x) old mid new line fits is lines none no_size ended count same kept many large =
    let ended_is = ap (λ (r : Reading). r.ended) same in
    let bytes_is = ap (λ (r : Reading). r.bytes) same in
    ReadsOn-end old new line fits is (ap (λ (r : Reading). r.last) same ∙ none) (ap (λ (r : Reading). r.last_size) same ∙ no_size) (ended_is ∙ ended) (bytes_is ∙ count)
    (λ few small. kept (omega arith) (omega arith) ∙ ap (λ ls. ls ++ line ∷ []) lines) (λ over. many (omega arith)) (λ over. large (omega arith))
ReadsOn-kept (Err e) old mid new line fits is lines none no_size ended count same kept many large = tt

-- the lines of bytes whose last line has ended
pub lines_of-ended : (reading : Reading) (taken : List (List ℕ)) (fed : List ℕ) (h : IsReading reading taken fed) → reading.last_size ≡ 0
    → lines_of fed ≡ h.ended
lines_of-ended reading taken fed h none =
    let empty : h.last ≡ [] = nil_from_length h.last (omega (arith, h.counted_last)) in
    ap lines_of (h.parts ∙ (ap (λ xs. file_of h.ended ++ xs) empty ∙ append-nil (file_of h.ended))) ∙ lines_of-file_of h.ended h.text

-- the lines of bytes whose last line has not ended
pub lines_of-not_ended : (reading : Reading) (taken : List (List ℕ)) (fed : List ℕ) (h : IsReading reading taken fed) → 0 < reading.last_size
    → lines_of fed ≡ h.ended ++ h.last ∷ []
lines_of-not_ended reading taken fed h some =
    ap lines_of h.parts ∙ (lines_of-file_then h.ended h.last h.text ∙ ap (λ ls. h.ended ++ ls) (lines_of_last h.last (omega (arith, h.counted_last)) h.line))

-- a last line without an end is read as if it had one
pub lines_of-with_end : (reading : Reading) (taken : List (List ℕ)) (fed : List ℕ) (h : IsReading reading taken fed) → 0 < reading.last_size
    → lines_of (fed ++ 10 ∷ []) ≡ lines_of fed
lines_of-with_end reading taken fed h some =
    let parts : fed ++ 10 ∷ [] ≡ file_of (h.ended ++ h.last ∷ []) =
    ap (λ xs. xs ++ 10 ∷ []) h.parts ∙ (append_assoc (file_of h.ended) h.last (10 ∷ []) ∙ sym (file_of-one_more h.ended h.last)) in
    ap lines_of parts ∙ (lines_of-file_of (h.ended ++ h.last ∷ []) (All-push IsLine h.ended h.last h.text h.line) ∙ sym (lines_of-not_ended reading taken fed h some))

-- the text of a reader whose last line has ended
pub IsAnswer-text : (reading : Reading) (taken : List (List ℕ)) (fed : List ℕ) → IsReading reading taken fed → reading.last_size ≡ 0
    → reading.ended ≤ MAX_LINES → reading.bytes ≤ MAX_TEXT_BYTES → IsAnswer taken fed (Ok reading.lines)
IsAnswer-text reading taken fed h none few small =
    let lines = lines_of-ended reading taken fed h none in
    let held = h.held (omega (arith, h.counted_lines)) (omega (arith, h.counted_bytes)) in
    record {
      text = sym (lines ∙ held);
      fits = subst IsWithinLimits (sym (lines ∙ held)) h.within;
      refused = tt;
    }

-- a text of too many lines
pub IsAnswer-lines : (reading : Reading) (taken : List (List ℕ)) (fed : List ℕ) → IsReading reading taken fed → reading.last_size ≡ 0
    → MAX_LINES < reading.ended → IsAnswer taken fed (Err (TextFull reading.ended))
IsAnswer-lines reading taken fed h none many =
    let refusal : IsRefusal h.ended (TextFull reading.ended) = (h.short, inl (h.counted_lines, many)) in
    record { text = tt; fits = tt; refused = subst (λ ls. IsRefusal ls (TextFull reading.ended)) (sym (lines_of-ended reading taken fed h none)) refusal }

-- a text of too many bytes
pub IsAnswer-bytes : (reading : Reading) (taken : List (List ℕ)) (fed : List ℕ) → IsReading reading taken fed → reading.last_size ≡ 0
    → reading.ended ≤ MAX_LINES → MAX_TEXT_BYTES < reading.bytes → IsAnswer taken fed (Err (TextFull reading.bytes))
IsAnswer-bytes reading taken fed h none few large =
    let refusal : IsRefusal h.ended (TextFull reading.bytes) = (h.short, inr (h.counted_bytes, omega (arith, h.counted_lines), large)) in
    record { text = tt; fits = tt; refused = subst (λ ls. IsRefusal ls (TextFull reading.bytes)) (sym (lines_of-ended reading taken fed h none)) refusal }

-- a last line without an end that is too long
pub IsAnswer-long_line : (reading : Reading) (taken : List (List ℕ)) (fed : List ℕ) → IsReading reading taken fed
    → MAX_LINE_BYTES < reading.last_size → IsAnswer taken fed (Err (LineTooLong reading.last_size))
IsAnswer-long_line reading taken fed h long =
    let size : MAX_LINE_BYTES < length h.last = omega (arith, h.counted_last) in
    let first = first_long_after h.ended h.last [] h.short size in
    record { text = tt; fits = tt; refused = ap first_long (lines_of-not_ended reading taken fed h (omega arith)) ∙ (first ∙ ap Some (sym h.counted_last)) }

-- a last line without an end that is one too many
pub IsAnswer-one_more : (reading : Reading) (taken : List (List ℕ)) (fed : List ℕ) → IsReading reading taken fed → 0 < reading.last_size
    → reading.last_size ≤ MAX_LINE_BYTES → MAX_LINES ≤ reading.ended → IsAnswer taken fed (Err (TextFull (reading.ended + 1)))
IsAnswer-one_more reading taken fed h some fits many =
    let all = h.ended ++ h.last ∷ [] in
    let short : length h.last ≤ MAX_LINE_BYTES = omega (arith, h.counted_last) in
    let count : reading.ended + 1 ≡ length all = omega (arith, length-append h.ended (h.last ∷ []), h.counted_lines) in
    let refusal : IsRefusal all (TextFull (reading.ended + 1)) = (All-push IsShort h.ended h.last h.short short, inl (count, omega arith)) in
    record { text = tt; fits = tt; refused = subst (λ ls. IsRefusal ls (TextFull (reading.ended + 1))) (sym (lines_of-not_ended reading taken fed h some)) refusal }

-- what is certain is the answer
pub IsAnswer-certain : (taken : List (List ℕ)) (fed : List ℕ) (error : TextErr) → IsCertain fed error → IsAnswer taken fed (Err error)
IsAnswer-certain taken fed error certain =
    record { text = tt; fits = tt; refused = subst (λ xs. IsRefusal (lines_of xs) error) (append-nil fed) (certain []) }

-- an answer rests on the lines alone
pub IsAnswer-same_lines : (taken : List (List ℕ)) (a b : List ℕ) (answer : Result (List (List ℕ)) TextErr) → lines_of a ≡ lines_of b → IsAnswer taken a answer → IsAnswer taken b answer
IsAnswer-same_lines taken a b (Ok text) same h = record { text = h.text ∙ same; fits = subst IsWithinLimits same h.fits; refused = tt }
IsAnswer-same_lines taken a b (Err error) same h = record { text = tt; fits = tt; refused = subst (λ ls. IsRefusal ls error) same h.refused }

pub none_from_not_some : (o : Option TextErr) → ((error : TextErr) → o ≡ Some error → ⊥) → o ≡ None
none_from_not_some None h = refl
none_from_not_some (Some error) h = absurd (h error refl)

-- steps after each other
pub ReadsOn-then : (a b c : Reading) (first second : List ℕ) → ReadsOn a b first → ReadsOn b c second → ReadsOn a c (first ++ second)
ReadsOn-then a b c first second f g = λ taken fed h.
    subst (λ bytes. IsReading c taken bytes) (append_assoc fed first second) (g taken (fed ++ first) (f taken fed h))

pub Refuses-then : (a b : Reading) (first second : List ℕ) (error : TextErr) → ReadsOn a b first → Refuses b second error → Refuses a (first ++ second) error
Refuses-then a b first second error f g = λ taken fed h.
    subst (λ bytes. IsCertain bytes error) (append_assoc fed first second) (g taken (fed ++ first) (f taken fed h))

pub Refuses-more : (a : Reading) (first second : List ℕ) (error : TextErr) → Refuses a first error → Refuses a (first ++ second) error
Refuses-more a first second error f = λ taken fed h.
    subst (λ bytes. IsCertain bytes error) (append_assoc fed first second) (IsCertain-more (fed ++ first) second error (f taken fed h))

-- a piece is read without an error
pub Reads-on : (old new : Reading) (bytes : List ℕ) → old.refused ≡ None → new.refused ≡ None → size_read new ≤ size_read old + length bytes
    → ReadsOn old new bytes → Reads old new bytes
Reads-on old new bytes before after size reads = λ taken fed h.
    let reading : IsReading old taken fed = subst (λ o. MatchOption o (IsReading old taken fed) (λ error. IsRefusing old taken fed error)) before h.state in
    record {
      size = omega (arith, length-append fed bytes, h.size);
      state = subst (λ o. MatchOption o (IsReading new taken (fed ++ bytes)) (λ error. IsRefusing new taken (fed ++ bytes) error)) (sym after) (reads taken fed reading);
    }

-- a piece is refused
pub Reads-refused : (old new : Reading) (bytes : List ℕ) (error : TextErr) → old.refused ≡ None → new.refused ≡ Some error
    → size_read new ≤ size_read old + length bytes → new.lines ≡ [] → Refuses old bytes error → Reads old new bytes
Reads-refused old new bytes error before after size none refuses = λ taken fed h.
    let reading : IsReading old taken fed = subst (λ o. MatchOption o (IsReading old taken fed) (λ e. IsRefusing old taken fed e)) before h.state in
    let same : taken ≡ taken ++ new.lines = sym (ap (λ ls. taken ++ ls) none ∙ append-nil taken) in
    let refusing : IsRefusing new taken (fed ++ bytes) error = record {
      certain = refuses taken fed reading;
      within = subst IsWithinLimits same (IsWithinLimits-first taken old.lines reading.within);
    } in
    record {
      size = omega (arith, length-append fed bytes, h.size);
      state = subst (λ o. MatchOption o (IsReading new taken (fed ++ bytes)) (λ e. IsRefusing new taken (fed ++ bytes) e)) (sym after) refusing;
    }

-- a reader that answered an error stays as it is
pub Reads-again : (old : Reading) (bytes : List ℕ) (error : TextErr) → old.refused ≡ Some error → Reads old old bytes
Reads-again old bytes error before = λ taken fed h.
    let was : IsRefusing old taken fed error = subst (λ o. MatchOption o (IsReading old taken fed) (λ e. IsRefusing old taken fed e)) before h.state in
    let refusing : IsRefusing old taken (fed ++ bytes) error = record { certain = IsCertain-more fed bytes error was.certain; within = was.within } in
    record {
      size = omega (arith, length-append fed bytes, h.size);
      state = subst (λ o. MatchOption o (IsReading old taken (fed ++ bytes)) (λ e. IsRefusing old taken (fed ++ bytes) e)) (sym before) refusing;
    }

within_state : (reading : Reading) (taken : List (List ℕ)) (fed : List ℕ) (refused : Option TextErr)
    → MatchOption refused (IsReading reading taken fed) (λ error. IsRefusing reading taken fed error) → IsWithinLimits (taken ++ reading.lines)
within_state reading taken fed None h = h.within
within_state reading taken fed (Some error) h = h.within

-- what was handed over and what is held is within the limits
pub HasRead-within : (reading : Reading) (taken : List (List ℕ)) (fed : List ℕ) → HasRead reading taken fed → IsWithinLimits (taken ++ reading.lines)
HasRead-within reading taken fed h = within_state reading taken fed reading.refused h.state

-- a reader without an error
pub HasRead-reading : (reading : Reading) (taken : List (List ℕ)) (fed : List ℕ) → reading.refused ≡ None → HasRead reading taken fed → IsReading reading taken fed
HasRead-reading reading taken fed none h = subst (λ o. MatchOption o (IsReading reading taken fed) (λ e. IsRefusing reading taken fed e)) none h.state

-- a reader with an error
pub HasRead-refusing : (reading : Reading) (taken : List (List ℕ)) (fed : List ℕ) (error : TextErr) → reading.refused ≡ Some error → HasRead reading taken fed
    → IsRefusing reading taken fed error
HasRead-refusing reading taken fed error some h = subst (λ o. MatchOption o (IsReading reading taken fed) (λ e. IsRefusing reading taken fed e)) some h.state

state_taken : (old new : Reading) (taken : List (List ℕ)) (fed : List ℕ) (refused : Option TextErr) → new ≡ record old { lines = [] }
    → MatchOption refused (IsReading old taken fed) (λ error. IsRefusing old taken fed error)
    → MatchOption refused (IsReading new (taken ++ old.lines) fed) (λ error. IsRefusing new (taken ++ old.lines) fed error)
state_taken old new taken fed None is h =
    let all : taken ++ old.lines ≡ (taken ++ old.lines) ++ new.lines = sym (ap (λ (r : Reading). (taken ++ old.lines) ++ r.lines) is ∙ append-nil (taken ++ old.lines)) in
    record {
      ended = h.ended;
      last = h.last;
      parts = h.parts;
      text = h.text;
      line = h.line;
      short = h.short;
      counted_lines = ap (λ (r : Reading). r.ended) is ∙ h.counted_lines;
      counted_bytes = ap (λ (r : Reading). r.bytes) is ∙ h.counted_bytes;
      counted_last = ap (λ (r : Reading). r.last_size) is ∙ h.counted_last;
      held = λ few small. h.held few small ∙ all;
      held_last = λ short. ap (λ (r : Reading). r.last) is ∙ h.held_last short;
      within = subst IsWithinLimits all h.within;
    }
state_taken old new taken fed (Some error) is h =
    let all : taken ++ old.lines ≡ (taken ++ old.lines) ++ new.lines = sym (ap (λ (r : Reading). (taken ++ old.lines) ++ r.lines) is ∙ append-nil (taken ++ old.lines)) in
    record { certain = h.certain; within = subst IsWithinLimits all h.within }

-- the lines that were held are handed over
pub HasRead-taken : (old new : Reading) (taken : List (List ℕ)) (fed : List ℕ) → new ≡ record old { lines = [] }
    → HasRead old taken fed → HasRead new (taken ++ old.lines) fed
HasRead-taken old new taken fed is h = record {
  size = subst (λ (r : Reading). size_read r ≤ length fed) (sym is) h.size;
  state = subst (λ o. MatchOption o (IsReading new (taken ++ old.lines) fed) (λ e. IsRefusing new (taken ++ old.lines) fed e)) (sym (ap (λ (r : Reading). r.refused) is))
      (state_taken old new taken fed old.refused is h.state);
}
