-- Each place leads to the head of its chain: a way back that stops at heads has stopped after as many steps as there are places.
use Rattle.std.proofs.Common.{◌≡◌, ◌≢◌, ℕ, zero, suc, ◌+◌, ◌-◌, ◌<◌, ◌≤◌, ◌⊎◌, inl, inr, cond, eqb, List, length, get_or, refl, sym, ap, subst, ◌∙◌, arith}
use Rattle.std.specs.Prelude.{All}
use Rattle.std.proofs.lemmas.Bool.{cases_eq, cases_lt, eq-eqb, ne_eqb}
use Rattle.std.proofs.lemmas.List.{get_or_default, get_or_past}
use Rattle.vs_ufile.specs.Walks.{AreChains, AreHeads, AreLinks, FailsAt, LeadsFar, LeadsToHead, at, walk}
use Rattle.vs_ufile.proofs.Cycles.{far_within}
use Rattle.vs_ufile.proofs.Ends.{NoneFails, back_ends}
use Rattle.vs_ufile.proofs.Pigeons.{walk-add, walk-below, walk-none}

-- each place leads to the one before it, and a head to itself
pub record Stops (before stops : List ℕ) : Type 0 where
  pub size : length stops ≡ length before
  pub each : (i : ℕ) → i < length before → at stops i ≡ cond (eqb (at before i) 0) i (at before i)

stop_head : (before stops : List ℕ) → Stops before stops → (p : ℕ) → p < length before → at before p ≡ 0 → at stops p ≡ p
stop_head before stops h p lt e = h.each p lt ∙ ap (λ b. cond b p (at before p)) (eq-eqb (at before p) 0 e)

stop_next : (before stops : List ℕ) → Stops before stops → (p : ℕ) → p < length before → at before p ≢ 0 → at stops p ≡ at before p
stop_next before stops h p lt ne = h.each p lt ∙ ap (λ b. cond b p (at before p)) (ne_eqb (at before p) 0 ne)

stays : (before stops : List ℕ) → Stops before stops → (k p : ℕ) → p < length before → at before p ≡ 0 → walk (at stops) k p ≡ p
stays before stops h zero p lt e = refl
stays before stops h (suc k) p lt e = ap (walk (at stops) k) (stop_head before stops h p lt e) ∙ stays before stops h k p lt e

record Reached (before stops : List ℕ) (k p : ℕ) : Type 0 where
  steps : ℕ
  way : walk (at before) steps p ≡ walk (at stops) k p
  some : walk (at stops) k p ≢ 0
  end : (at before (walk (at stops) k p) ≡ 0) ⊎ (steps ≡ k)

reached : (before stops : List ℕ) → Stops before stops → AreLinks (length before) before → (k p : ℕ) → 0 < p → p < length before → Reached before stops k p
reached before stops h links zero p pos lt = record { steps = 0; way = refl; some = λ e. omega (arith, pos, e); end = inr refl }
reached before stops h links (suc k) p pos lt = elim (cases_eq (at before p) 0) [
  | inl e ↦
      let same = stays before stops h (suc k) p lt e in
      record { steps = 0; way = sym same; some = λ z. omega (arith, pos, sym same ∙ z); end = inl (ap (at before) same ∙ e) }
  | inr ne ↦
      let q : ℕ = at before p in
      let inside : q < length before = links.within p 0 lt in
      let r = reached before stops h links k q (omega (arith, ne)) inside in
      let same : walk (at stops) (suc k) p ≡ walk (at stops) k q = ap (walk (at stops) k) (stop_next before stops h p lt ne) in
      record {
        steps = suc r.steps;
        way = r.way ∙ sym same;
        some = λ z. r.some (sym same ∙ z);
        end = elim r.end [ inl e ↦ inl (ap (at before) same ∙ e) | inr e ↦ inr (ap suc e) ];
      }
]

back_by : (after before : List ℕ) (p : ℕ) → ¬ FailsAt after before p → at before p ≢ 0 → at after (at before p) ≡ p
back_by after before p good ne = elim (cases_eq (at after (at before p)) p) [
  | inl e ↦ e
  | inr other ↦ absurd (good (inr (inl (ne, other))))
]

pub none_fails : (after before : List ℕ) → AreLinks (length after) before → AreChains after before → NoneFails (at after) (at before) (length after)
none_fails after before links chains = record {
  back = λ p pos lt ne. back_by after before p (chains p pos lt) ne;
  no_cycle = λ p m pos lt e. chains p pos lt (inr (inr (m, e)));
  stays = λ p lt. links.within p 0 (omega (arith, lt, links.all));
  none = links.none;
}

head_at : (after before stops heads : List ℕ) (steps : ℕ) → AreLinks (length after) before → AreChains after before → Stops before stops → length after ≤ steps → LeadsFar stops steps heads
    → (p : ℕ) → 0 < p → p < length before → LeadsToHead before p (at heads p)
head_at after before stops heads steps links chains h long far p pos lt =
    let size : length before ≡ length after = links.all in
    let own : AreLinks (length before) before = subst (λ (n : ℕ). AreLinks n before) (sym size) links in
    let r = reached before stops h own steps p pos lt in
    let here : at heads p ≡ walk (at stops) steps p = far.1 p (omega (arith, lt, h.size)) in
    let way : walk (at before) r.steps p ≡ at heads p = r.way ∙ sym here in
    let within : at heads p < length before = subst (λ (x : ℕ). x < length before) way (walk-below (at before) (length before) r.steps p (λ i l. own.within i 0 l) lt) in
    let stop : at before (walk (at stops) steps p) ≡ 0 = elim r.end [
      | inl e ↦ e
      | inr e ↦
          let gone : walk (at before) (length after) p ≡ 0 = back_ends (at after) (at before) (length after) (none_fails after before links chains) p (omega (arith, lt, size)) in
          let split : length after + (steps - length after) ≡ steps = omega (arith, long) in
          let all : walk (at before) steps p ≡ 0 =
          sym (ap (λ (k : ℕ). walk (at before) k p) split) ∙ walk-add (at before) (length after) (steps - length after) p
          ∙ ap (walk (at before) (steps - length after)) gone ∙ walk-none (at before) (steps - length after) links.none in
          absurd (r.some (sym r.way ∙ ap (λ (k : ℕ). walk (at before) k p) e ∙ all))
    ] in
    record {
      steps = r.steps;
      way = way;
      is_head = record { some = omega (arith, λ (z : at heads p ≡ 0). r.some (sym here ∙ z)); within = within; first = ap (at before) here ∙ stop };
    }

pub stops_within : (before stops : List ℕ) → AreLinks (length before) before → Stops before stops → All (λ x. x < length stops) stops
stops_within before stops links h = λ k d lt.
    let here : k < length before = omega (arith, lt, h.size) in
    let same : get_or stops k d ≡ get_or stops k 0 = get_or_default stops k d 0 lt in
    elim (cases_eq (at before k) 0) [
      | inl e ↦ omega (arith, same, stop_head before stops h k here e, lt)
      | inr ne ↦ omega (arith, same, stop_next before stops h k here ne, links.within k 0 here, h.size)
    ]

-- place 0 leads to place 0, where there is one
none_at : (heads before stops : List ℕ) (steps : ℕ) → AreLinks (length before) before → Stops before stops → LeadsFar stops steps heads → at heads 0 ≡ 0
none_at heads before stops steps links h far = elim (cases_lt 0 (length before)) [
  | inl lt ↦ far.1 0 (omega (arith, lt, h.size)) ∙ stays before stops h steps 0 lt links.none
  | inr le ↦ get_or_past heads 0 0 (omega (arith, le, far.0, h.size))
]

pub heads_are : (after before stops heads : List ℕ) (steps : ℕ) → AreLinks (length after) before → AreChains after before → Stops before stops → length stops ≤ steps → LeadsFar stops steps heads
    → AreHeads before heads
heads_are after before stops heads steps links chains h long far =
    let size : length before ≡ length after = links.all in
    let own : AreLinks (length before) before = subst (λ (n : ℕ). AreLinks n before) (sym size) links in
    record {
      links = record {
        all = far.0 ∙ h.size;
        within = far_within stops heads steps (length before) (stops_within before stops own h) far (sym h.size);
        none = none_at heads before stops steps own h far;
      };
      each = λ p pos lt. head_at after before stops heads steps links chains h (omega (arith, long, h.size, size)) far p pos lt;
    }
