-- Each turn makes one more step of the walk, whatever states the store is seen in.
use Rattle.std.proofs.Common.{◌≡◌, ℕ, ◌+◌, ◌<◌, ◌==◌, ◌++◌, ◌∷◌, [], List, below_more, length, get_or, max, sym, ap, subst, ◌∙◌, arith, rules, Some, None}
use Rattle.std.proofs.lemmas.List.{get_or_default, get_or_push, get_or_append_left, drop_all}
use Rattle.vs_edit.proofs.Steps.{Continues-trans}
use Rattle.vs_entries.specs.declared.entry.Entry.{Entry}
use Rattle.vs_entries.specs.Entries.{Leads, LeadsCount}
use Rattle.vs_undo.specs.declared.parts.Node.{Node}
use Rattle.vs_undo.specs.Ways.{node_at, parent_at}
use Rattle.vs_undo.specs.Edges.{IsLed}
use Rattle.vs_undo.specs.Turns.{all_led_back, AreLedBack}
use Rattle.vs_undo.specs.Walks.{IsWalk, AreTurned}
use Rattle.vs_undo.proofs.NodeLemmas.{no_place, found_at}
use Rattle.vs_undo.proofs.WalkLemmas.{each_more, led_back_at, walk_step, walk_known, turned_more}
use Rattle.vs_undo.proofs.cross.cross.Goals as goal

-- each list has an entry, where one more is added that has one
some_more : (turned : List (List Entry)) (more : List Entry) (after : List (List Entry)) (i : ℕ) → length turned ≡ i → after ≡ turned ++ more ∷ [] → ((j : ℕ) → j < i → 0 < length (get_or turned j [])) → 0 < length more
    → (j : ℕ) → j < i + 1 → 0 < length (get_or after j [])
some_more turned more after i count is before here =
    below_more (λ j. 0 < length (get_or after j [])) i
    (λ j below. omega (arith, before j below, ap (λ ts. length (get_or ts j [])) is, ap length (get_or_append_left turned (more ∷ []) [] j (omega arith))))
    (omega (arith, here, ap (λ ts. length (get_or ts i [])) is, ap length (get_or_push turned more [] i count)))

pub unreachable-requires : goal.unreachable-requires
unreachable-requires g c =
    let nodes = c.args.nodes.now in
    let path = c.args.path.now in
    let i = c.loop-number.number-index in
    let number = get_or path i 0 in
    let cr = c.requires.counts in
    let inv = c.loop-number.invariant.counts cr in
    let none : node_at nodes number ≡ None = no_place (λ (n : Node). n.number == number) nodes (sym c.find.ensures ∙ c.in_default.is) in
    walk_known LeadsCount nodes cr.back cr.states path cr.to i number inv.0 c.loop-number-test.true (get_or_default path i 0 number c.loop-number-test.true) inv.1.0 none

pub apply_all-requires-clause-counts : goal.apply_all-requires-clause-counts
apply_all-requires-clause-counts g c =
    let nodes = c.args.nodes.now in
    let path = c.args.path.now in
    let i = c.loop-number.number-index in
    let number = get_or path i 0 in
    let node = get_or nodes c.in-Some.i c.index-nodes-i.result in
    let here : node_at nodes number ≡ Some node = found_at (λ (n : Node). n.number == number) nodes c.in-Some.i c.index-nodes-i.result (sym c.find.ensures ∙ c.in-Some.is) in
    let cr = c.requires.counts in
    let inv = c.loop-number.invariant.counts cr in
    let step = walk_step LeadsCount nodes cr.back cr.states path cr.to i number inv.0 node c.loop-number-test.true (get_or_default path i 0 number c.loop-number-test.true) inv.1.0 here cr.edges in
    (cr.states step.next, subst (λ es. IsLed LeadsCount es (max 1 (g.S.LineStore.shows c.loop-number.store).present.lines) (cr.states step.next)) (sym c.entries.ensures) (subst (λ n. IsLed LeadsCount node.entries n (cr.states step.next)) (sym inv.1.1) step.led))

pub apply_all-requires-clause-texts : goal.apply_all-requires-clause-texts
apply_all-requires-clause-texts g c = λ after has_after.
    let nodes = c.args.nodes.now in
    let path = c.args.path.now in
    let i = c.loop-number.number-index in
    let number = get_or path i 0 in
    let node = get_or nodes c.in-Some.i c.index-nodes-i.result in
    let here : node_at nodes number ≡ Some node = found_at (λ (n : Node). n.number == number) nodes c.in-Some.i c.index-nodes-i.result (sym c.find.ensures ∙ c.in-Some.is) in
    let told = g.met.S.LineStore.has_told c.loop-number.store after has_after in
    let was = g.met.S.LineStore.tells_one c.args.store.now c.requires.valid told in
    let cr = c.requires.texts was.0 was.1 in
    let inv = c.loop-number.invariant.texts was.0 was.1 cr in
    let same : cr.states inv.0 ≡ after = g.met.S.LineStore.has_one c.loop-number.store (cr.states inv.0) after inv.1.1 has_after in
    let step = walk_step Leads nodes cr.back cr.states path cr.to i number inv.0 node c.loop-number-test.true (get_or_default path i 0 number c.loop-number-test.true) inv.1.0 here cr.edges in
    (cr.states step.next, subst (λ es. IsLed Leads es after (cr.states step.next)) (sym c.entries.ensures) (subst (λ t. IsLed Leads node.entries t (cr.states step.next)) same step.led))

pub loop-number-preserved : goal.loop-number-preserved
loop-number-preserved g c =
    let nodes = c.args.nodes.now in
    let path = c.args.path.now in
    let i = c.loop-number.number-index in
    let number = get_or path i 0 in
    let node = get_or nodes c.in-Some.i c.index-nodes-i.result in
    let here : node_at nodes number ≡ Some node = found_at (λ (n : Node). n.number == number) nodes c.in-Some.i c.index-nodes-i.result (sym c.find.ensures ∙ c.in-Some.is) in
    let is = get_or_default path i 0 number c.loop-number-test.true in
    let turned = c.loop-number.turned.items in
    let entries : c.entries.result.now ≡ node.entries = c.entries.ensures in
    let pushed = subst (λ (es : List Entry). c.push.new.self.items ≡ turned ++ es ∷ []) c.of.ensures c.in_ok-push.ensures.items in
    record {
      counts = λ cr.
          let inv = c.loop-number.invariant.counts cr in
          let step = walk_step LeadsCount nodes cr.back cr.states path cr.to i number inv.0 node c.loop-number-test.true is inv.1.0 here cr.edges in
          let led = subst (λ es. IsLed LeadsCount es (max 1 (g.S.LineStore.shows c.loop-number.store).present.lines) (cr.states step.next)) (sym entries) (subst (λ n. IsLed LeadsCount node.entries n (cr.states step.next)) (sym inv.1.1) step.led) in
          let done = c.in_ok-back.ensures.counts (cr.states step.next) led in
          let turns = step.turns c.in_ok-back.back.items (subst (λ n. IsLed LeadsCount c.in_ok-back.back.items (cr.states step.next) n) inv.1.1 done.1) in (
            step.next,
            (
              step.walk,
              done.0,
              subst (λ ts. AreTurned LeadsCount nodes cr.back cr.states path ts (i + 1)) (sym pushed)
                  (turned_more LeadsCount nodes cr.back cr.states path turned i number c.in_ok-back.back.items c.loop-number-test.true is c.loop-number.invariant.count inv.1.2 turns),
            ),
          );
      texts = λ text has cr.
          let inv = c.loop-number.invariant.texts text has cr in
          let step = walk_step Leads nodes cr.back cr.states path cr.to i number inv.0 node c.loop-number-test.true is inv.1.0 here cr.edges in
          let led = subst (λ es. IsLed Leads es (cr.states inv.0) (cr.states step.next)) (sym entries) step.led in
          let done = c.in_ok-back.ensures.texts (cr.states inv.0) (cr.states step.next) inv.1.1 led in
          let turns = step.turns c.in_ok-back.back.items done.1 in (
            step.next,
            (
              step.walk,
              done.0,
              subst (λ ts. AreTurned Leads nodes cr.back cr.states path ts (i + 1)) (sym pushed)
                  (turned_more Leads nodes cr.back cr.states path turned i number c.in_ok-back.back.items c.loop-number-test.true is c.loop-number.invariant.count inv.1.2 turns),
              subst (λ ts. (j : ℕ) → j < i + 1 → AreLedBack nodes cr.back cr.states (get_or path j 0) (get_or ts j [])) (sym pushed)
                  (each_more (AreLedBack nodes cr.back cr.states) path turned i number c.in_ok-back.back.items c.loop-number-test.true is c.loop-number.invariant.count inv.1.3
                  (led_back_at nodes cr.back cr.states number inv.0 node c.in_ok-back.back.items here step.begins (c.in_ok-back.ensures.back (cr.states inv.0) inv.1.1 ∙ ap (λ es. all_led_back es (cr.states inv.0)) entries))),
            ),
          );
      count = search rules;
      still = λ none. absurd (omega (arith, none));
      some = some_more turned c.in_ok-back.back.items c.push.new.self.items i c.loop-number.invariant.count pushed c.loop-number.invariant.some (omega (arith, c.in_ok-back.ensures.count, ap length entries, c.requires.entries number node here));
      valid = c.in_ok-back.ensures.kept.valid;
      kept = Continues-trans g.met.S.LineStore.stays_on c.loop-number.invariant.kept c.in_ok-back.ensures.kept;
      faults = c.in_ok-back.ensures.cause.none (λ failed. absurd (cc)) ∙ c.loop-number.invariant.faults;
    }

pub returns-in_err-back-clause-kept : goal.returns-in_err-back-clause-kept
returns-in_err-back-clause-kept g c = Continues-trans g.met.S.LineStore.stays_on c.loop-number.invariant.kept c.in_err-back.ensures.kept

pub returns-clause-counts : goal.returns-clause-counts
returns-clause-counts g c = λ cr.
    let path = c.args.path.now in
    let inv = c.loop-number.invariant.counts cr in
    let none = drop_all c.loop-number.number-index path (omega arith) in
    let all : c.loop-number.number-index ≡ length path = omega arith in
    let at : inv.0 ≡ cr.to = subst (λ p. IsWalk (λ k. parent_at c.args.nodes.now k) cr.back inv.0 p cr.to) none inv.1.0 in
    (inv.1.1 ∙ ap cr.states at, subst (λ n. AreTurned LeadsCount c.args.nodes.now cr.back cr.states path c.loop-number.turned.items n) all inv.1.2)

pub returns-clause-texts : goal.returns-clause-texts
returns-clause-texts g c = λ text has cr.
    let path = c.args.path.now in
    let inv = c.loop-number.invariant.texts text has cr in
    let none = drop_all c.loop-number.number-index path (omega arith) in
    let all : c.loop-number.number-index ≡ length path = omega arith in
    let at : inv.0 ≡ cr.to = subst (λ p. IsWalk (λ k. parent_at c.args.nodes.now k) cr.back inv.0 p cr.to) none inv.1.0 in
    (subst (λ k. (g.S.LineStore.shows c.loop-number.store).present.Is (cr.states k)) at inv.1.1, subst (λ n. AreTurned Leads c.args.nodes.now cr.back cr.states path c.loop-number.turned.items n) all inv.1.2)

pub returns-clause-back : goal.returns-clause-back
returns-clause-back g c = λ text has cr i within. (c.loop-number.invariant.texts text has cr).1.3 i (omega arith)

pub returns-clause-some : goal.returns-clause-some
returns-clause-some g c = λ i within. c.loop-number.invariant.some i (omega arith)

pub returns-clause-still : goal.returns-clause-still
returns-clause-still g c = λ none. c.loop-number.invariant.still (omega (arith, none))
