-- What a loop keeps that takes steps from a state to the next: the steps left from here give what all steps give from the start.
use Rattle.std.proofs.lemmas.List.Sums.{fold_push}
use Rattle.std.proofs.Common.{◌≡◌, ℕ, suc, ◌-◌, ◌+◌, ◌≤◌, ◌<◌, List, [], ◌∷◌, ◌++◌, length, unwrap_or, Option, Some, None, Result, Ok, Err, refl, sym, ap, ◌∙◌, arith}
use Rattle.vs_ufile.specs.declared.error.UfKind.TheVariants.{Truncated}
use Rattle.vs_ufile.specs.declared.fault.Fault.{Fault}
use Rattle.vs_ufile.specs.declared.fault.Stop.{Stop}
use Rattle.vs_ufile.specs.declared.fault.Stop.TheVariants as stops
use Rattle.vs_ufile.specs.Reading.{Fails, Read, adding, carry, give, line, next_line, next_mark, next_option, items, last_of, options, repeat, run, until}

pub goes_on : {S : Type 0} (step : S → Read (Option S)) (count i : ℕ) (s next : S) (bytes after : List ℕ) (total : Result (S × List ℕ) Fault) → i < count
    → step s bytes ≡ Ok (Some next, after)
    → repeat (count - i) step s bytes ≡ total → repeat (count - (i + 1)) step next after ≡ total
unfolding repeat
goes_on step count i s next bytes after total lt h so_far =
    let k : count - i ≡ suc (count - (i + 1)) = omega arith in
    let one : repeat (count - i) step s bytes ≡ repeat (count - (i + 1)) step next after = rw (k, h) refl in
    sym one ∙ so_far

pub fails : {S : Type 0} (step : S → Read (Option S)) (stop : Stop) (count i : ℕ) (s : S) (bytes : List ℕ) (total : Result (S × List ℕ) Fault) → i < count
    → Fails stop (step s bytes)
    → repeat (count - i) step s bytes ≡ total → Fails stop total
unfolding repeat
fails step stops.Memory count i s bytes total lt h so_far = tt
fails step (stops.At fault) count i s bytes total lt h so_far =
    let k : count - i ≡ suc (count - (i + 1)) = omega arith in
    let one : repeat (count - i) step s bytes ≡ Err fault = rw (k, h) refl in
    sym so_far ∙ one

pub is_done : {S : Type 0} (step : S → Read (Option S)) (count i : ℕ) (s : S) (bytes : List ℕ) (total : Result (S × List ℕ) Fault) → count ≤ i
    → repeat (count - i) step s bytes ≡ total → total ≡ Ok (s, bytes)
unfolding repeat
is_done step count i s bytes total le so_far =
    let k : count - i ≡ 0 = omega arith in
    let one : repeat (count - i) step s bytes ≡ Ok (s, bytes) = rw k refl in
    sym so_far ∙ one

-- ---- the same until a step ends it

pub until_on : {S : Type 0} (step : S → Read (Option S)) (count i : ℕ) (s next : S) (bytes after : List ℕ) (total : Result (S × List ℕ) Fault) → i < count
    → step s bytes ≡ Ok (Some next, after)
    → until (count - i) step s bytes ≡ total → until (count - (i + 1)) step next after ≡ total
unfolding until
until_on step count i s next bytes after total lt h so_far =
    let k : count - i ≡ suc (count - (i + 1)) = omega arith in
    let one : until (count - i) step s bytes ≡ until (count - (i + 1)) step next after = rw (k, h) refl in
    sym one ∙ so_far

pub until_ends : {S : Type 0} (step : S → Read (Option S)) (count i : ℕ) (s : S) (bytes after : List ℕ) (total : Result (S × List ℕ) Fault) → i < count
    → step s bytes ≡ Ok (None, after)
    → until (count - i) step s bytes ≡ total → total ≡ Ok (s, after)
unfolding until
until_ends step count i s bytes after total lt h so_far =
    let k : count - i ≡ suc (count - (i + 1)) = omega arith in
    let one : until (count - i) step s bytes ≡ Ok (s, after) = rw (k, h) refl in
    sym so_far ∙ one

pub until_fails : {S : Type 0} (step : S → Read (Option S)) (stop : Stop) (count i : ℕ) (s : S) (bytes : List ℕ) (total : Result (S × List ℕ) Fault) → i < count
    → Fails stop (step s bytes)
    → until (count - i) step s bytes ≡ total → Fails stop total
unfolding until
until_fails step stops.Memory count i s bytes total lt h so_far = tt
until_fails step (stops.At fault) count i s bytes total lt h so_far =
    let k : count - i ≡ suc (count - (i + 1)) = omega arith in
    let one : until (count - i) step s bytes ≡ Err fault = rw (k, h) refl in
    sym so_far ∙ one

pub until_done : {S : Type 0} (step : S → Read (Option S)) (count i : ℕ) (s : S) (bytes : List ℕ) (total : Result (S × List ℕ) Fault) → count ≤ i
    → until (count - i) step s bytes ≡ total → total ≡ Err (record { kind = Truncated; left = length bytes; found = 0 })
unfolding until
until_done step count i s bytes total le so_far =
    let k : count - i ≡ 0 = omega arith in
    let one : until (count - i) step s bytes ≡ Err (record { kind = Truncated; left = length bytes; found = 0 }) = rw k refl in
    sym so_far ∙ one

-- ---- steps that add an item

pub adds : {A : Type 0} (item : List A → Read (Option A)) (before : List A) (x : A) (bytes after : List ℕ) → item before bytes ≡ Ok (Some x, after) → adding item before bytes ≡ Ok (Some (before ++ x ∷ []), after)
unfolding adding
adds item before x bytes after h = rw h refl

pub adds_none : {A : Type 0} (item : List A → Read (Option A)) (before : List A) (bytes after : List ℕ) → item before bytes ≡ Ok (None, after) → adding item before bytes ≡ Ok (None, after)
unfolding adding
adds_none item before bytes after h = rw h refl

pub adds_fails : {A : Type 0} (item : List A → Read (Option A)) (stop : Stop) (before : List A) (bytes : List ℕ) → Fails stop (item before bytes) → Fails stop (adding item before bytes)
unfolding adding
adds_fails item stops.Memory before bytes h = tt
adds_fails item (stops.At fault) before bytes h = rw h refl

-- ---- lines

pub line_next : (before : List (List ℕ)) (x : List ℕ) (bytes after : List ℕ) → line bytes ≡ Ok (x, after) → next_line before bytes ≡ Ok (Some x, after)
line_next before x bytes after h = rw h refl

pub line_fails : (stop : Stop) (before : List (List ℕ)) (bytes : List ℕ) → Fails stop (line bytes) → Fails stop (next_line before bytes)
line_fails stops.Memory before bytes h = tt
line_fails (stops.At fault) before bytes h = rw h refl

-- ---- marks

pub marked : (before : ℕ) (mark bytes after : List ℕ) → run 12 bytes ≡ Ok (mark, after) → next_mark before bytes ≡ Ok (Some (before + 1), after)
unfolding next_mark
marked before mark bytes after h = ap (λ r. carry r (λ _. give (Some (before + 1)))) h

pub marked_fails : (stop : Stop) (before : ℕ) (bytes : List ℕ) → Fails stop (run 12 bytes) → Fails stop (next_mark before bytes)
unfolding next_mark
marked_fails stops.Memory before bytes h = tt
marked_fails (stops.At fault) before bytes h = ap (λ r. carry r (λ _. give (Some (before + 1)))) h

pub marks_done : (before : ℕ) (bytes : List ℕ) (total : Result (ℕ × List ℕ) Fault) → 26 ≤ before → before ≤ 26
    → repeat (26 - before) next_mark before bytes ≡ total → total ≡ Ok (26, bytes)
marks_done before bytes total low high so_far =
    let e : before ≡ 26 = omega arith in
    is_done next_mark 26 before before bytes total low so_far ∙ ap (λ n. Ok (n, bytes)) e

-- ---- optional fields

pub last_fails : (stop : Stop) (bytes : List ℕ) → Fails stop (items next_option bytes) → Fails stop (options bytes)
unfolding options
last_fails stops.Memory bytes h = tt
last_fails (stops.At fault) bytes h = ap (λ r. carry r (λ found. give (last_of found))) h

pub last_refuses : (bytes : List ℕ) (fault : Fault) → items next_option bytes ≡ Err fault → options bytes ≡ Err fault
unfolding options
last_refuses bytes fault h = ap (λ r. carry r (λ found. give (last_of found))) h

pub last_gives : (bytes : List ℕ) (found : List (Option ℕ)) (after : List ℕ) → items next_option bytes ≡ Ok (found, after) → options bytes ≡ Ok (last_of found, after)
unfolding options
last_gives bytes found after h = ap (λ r. carry r (λ found. give (last_of found))) h

pub last_more : (before : List (Option ℕ)) (one : Option ℕ) → last_of (before ++ one ∷ []) ≡ unwrap_or one (last_of before)
last_more before one = fold_push (λ so_far found. unwrap_or found so_far) 0 before one
