-- One change from the first text to the last.
use Rattle.std.proofs.Common.{◌≡◌, ◌∙◌, ℕ, ◌+◌, ◌-◌, ◌≤◌, Option, Some, None, List, ◌++◌, length, take, drop, min, ap, sym, subst, arith, append_assoc, length-append, length-take, refl}
use Rattle.std.proofs.lemmas.List.{take-append-drop, take-take, take_at, drop-drop, drop_at}
use Rattle.vs_edit.proofs.SpliceLemmas.{length-splice}
use Rattle.vs_edit.specs.Splices.{splice, cut_out}
use Rattle.vs_excmd.specs.Change.{Change, spliced}
use Rattle.vs_global.specs.Carry.{Covers, SameEnds, StaysWithin}
use Rattle.vs_global.specs.Global.{untouched_by}
use Rattle.vs_global.specs.declared.run.Untouched.{Untouched}

pub whole : (lo tail : ℕ) (start now : List (List ℕ)) → SameEnds lo tail start now → splice start lo (length start - tail - lo) (cut_out now lo (length now - tail - lo)) ≡ now
whole lo tail start now same =
    let cut = cut_out now lo (length now - tail - lo) in
    let at_start : lo + (length start - tail - lo) ≡ length start - tail = omega (arith, same.in_start) in
    let at_now : lo + (length now - tail - lo) ≡ length now - tail = omega (arith, same.in_now) in
    let after : drop (length now - tail - lo) (drop lo now) ≡ drop (length now - tail) now = drop-drop (length now - tail - lo) lo now ∙ ap (λ (k : ℕ). drop k now) at_now in
    ap (λ (k : ℕ). take lo start ++ cut ++ drop k start) at_start
    ∙ ap (λ (l : List (List ℕ)). take lo start ++ cut ++ l) (sym same.back ∙ sym after)
    ∙ ap (λ (l : List (List ℕ)). l ++ cut ++ drop (length now - tail - lo) (drop lo now)) (sym same.front)
    ∙ append_assoc (take lo now) cut (drop (length now - tail - lo) (drop lo now))
    ∙ ap (λ (l : List (List ℕ)). take lo now ++ l) (take-append-drop (length now - tail - lo) (drop lo now))
    ∙ take-append-drop lo now

-- no splice yet
pub first-splice : (text : List (List ℕ)) (lo tail : ℕ) → lo + tail ≤ length text → SameEnds lo tail text text
first-splice text lo tail within = record { in_start = within; in_now = within; front = refl; back = refl }

-- one splice more
pub next-splice : (lo tail less fewer : ℕ) (start now : List (List ℕ)) (top old : ℕ) (new : List (List ℕ)) → top + old ≤ length now → SameEnds lo tail start now
    → less ≤ lo → less ≤ top → fewer ≤ tail → fewer + (top + old) ≤ length now → SameEnds less fewer start (splice now top old new)
next-splice lo tail less fewer start now top old new within same less_lo less_top fewer_tail fewer_after =
    let spliced = splice now top old new in
    let size = length-splice now top old within new in
    let d = length now - (top + old) - fewer in
    let e = tail - fewer in
    let kept : take top spliced ≡ take top now =
    ap (take top) (append_assoc (take top now) new (drop (top + old) now))
    ∙ take_at (take top now) (new ++ drop (top + old) now) top (omega (arith, length-take top now, within)) in
    let gone : drop (top + length new) spliced ≡ drop (top + old) now =
    drop_at (take top now ++ new) (drop (top + old) now) (top + length new) (omega (arith, length-append (take top now) new, length-take top now, within)) in
    let at_spliced : length spliced - fewer ≡ top + length new + d = omega (arith, size, fewer_after) in
    let at_now : top + old + d ≡ length now - tail + e = omega (arith, fewer_after, fewer_tail, same.in_now) in
    let at_start : length start - tail + e ≡ length start - fewer = omega (arith, fewer_tail, same.in_start) in
    record {
      in_start = omega (arith, same.in_start, less_lo, fewer_tail);
      in_now = omega (arith, size, less_top, fewer_after);
      front = sym (take-take less top spliced less_top) ∙ ap (take less) kept ∙ take-take less top now less_top
          ∙ sym (take-take less lo now less_lo) ∙ ap (take less) same.front ∙ take-take less lo start less_lo;
      back = ap (λ (k : ℕ). drop k spliced) at_spliced ∙ sym (drop-drop d (top + length new) spliced) ∙ ap (drop d) gone ∙ drop-drop d (top + old) now
          ∙ ap (λ (k : ℕ). drop k now) at_now ∙ sym (drop-drop e (length now - tail) now) ∙ ap (drop e) same.back ∙ drop-drop e (length start - tail) start
          ∙ ap (λ (k : ℕ). drop k start) at_start;
    }

-- what no splice has touched is that still after one more
pub covers-more : (made : Option Untouched) (start now : List (List ℕ)) (change : Change) → change.top + change.old ≤ length now → Covers made start now
    → Covers (untouched_by change (length now) made) start (spliced now change)
covers-more None start now change within same =
    let tail = length now - (change.top + change.old) in
    let first : SameEnds change.top tail start now =
    subst (λ (other : List (List ℕ)). SameEnds change.top tail start other) same (first-splice start change.top tail (omega (arith, within, ap (λ (l : List (List ℕ)). length l) same))) in
    next-splice change.top tail change.top tail start now change.top change.old change.new within first (omega arith) (omega arith) (omega arith) (omega (arith, within))
covers-more (Some made) start now change within same =
    let tail = length now - (change.top + change.old) in
    next-splice made.lo made.tail (min made.lo change.top) (min made.tail tail) start now change.top change.old change.new within same (omega arith) (omega arith) (omega arith) (omega (arith, within))

-- and it stands within the texts
pub stays-more : (made : Option Untouched) (change : Change) (start lines later size : ℕ) → change.top + change.old ≤ lines → later + change.old ≡ lines + size
    → StaysWithin made start lines → StaysWithin (untouched_by change lines made) start later
stays-more None change start lines later size within counted stays = (omega (arith, within, counted, stays), omega (arith, within, counted, stays))
stays-more (Some made) change start lines later size within counted stays = (omega (arith, within, counted, stays.0), omega (arith, within, counted, stays.1))

pub stays-as : (made was : Option Untouched) (change : Change) (start lines later size : ℕ) → made ≡ untouched_by change lines was → change.top + change.old ≤ lines
    → later + change.old ≡ lines + size → StaysWithin was start lines → StaysWithin made start later
stays-as made was change start lines later size is within counted stays =
    subst (λ (m : Option Untouched). StaysWithin m start later) (sym is) (stays-more was change start lines later size within counted stays)
