-- Each entry leads one step on, and what it gives leads back over that step.
use Rattle.std.proofs.Common.{◌≡◌, ◌+◌, ◌≤◌, max, [], ◌∷◌, length, drop, sym, ap, subst, ◌∙◌, arith, length-append}
use Rattle.vs_text.specs.Text.{bytes_of}
use Rattle.vs_text.specs.declared.TheConstants.{MAX_LINES, MAX_TEXT_BYTES}
use Rattle.vs_edit.proofs.Steps.{Continues-trans}
use Rattle.vs_edit.proofs.UndoingLemmas.{reverse_pushed}
use Rattle.vs_entries.specs.Entries.{Leads, LeadsCount, applied}
use Rattle.vs_undo.specs.Edges.{IsLed}
use Rattle.vs_entries.proofs.EntryLemmas.{leads_back_counted}
use Rattle.vs_undo.proofs.EdgeLemmas.{back_step, led_step}
use Rattle.vs_undo.proofs.cross.apply_all.Goals as goal

pub apply-requires-clause-allowed : goal.apply-requires-clause-allowed
apply-requires-clause-allowed g c =
    let entry = c.entry-item.result in
    let entries = c.args.entries.now in
    let i = c.loop-entry.entry-index in
    let led = c.requires.counts in
    let inv = c.loop-entry.invariant.counts led.0 led.1 in
    let counted = led_step LeadsCount entries i entry c.loop-entry-test.true c.entry-item.is _ led.0 inv.0 in
    record {
      few_lines = λ fits. subst (λ n. n ≤ MAX_LINES) counted.1.0.is counted.1.0.few;
      short_lines = counted.1.0.short;
      few_bytes = λ after has_after fits.
          let told = g.met.S.LineStore.has_told c.loop-entry.store after has_after in
          let was = g.met.S.LineStore.tells_one c.args.store.now c.requires.valid told in
          let leads = c.requires.texts was.0 was.1 in
          let now = c.loop-entry.invariant.texts was.0 leads.0 was.1 leads.1 in
          let step = led_step Leads entries i entry c.loop-entry-test.true c.entry-item.is now.0 leads.0 now.1.1 in
          let same : now.0 ≡ after = g.met.S.LineStore.has_one c.loop-entry.store now.0 after now.1.0 has_after in
          let is : step.0 ≡ applied entry after = step.1.0.is ∙ ap (applied entry) same in
          subst (λ text. bytes_of text ≤ MAX_TEXT_BYTES) is step.1.0.to_bytes;
    }

pub loop-entry-preserved : goal.loop-entry-preserved
loop-entry-preserved g c =
    let entry = c.entry-item.result in
    let i = c.loop-entry.entry-index in
    let entries = c.args.entries.now in
    let back = reverse_pushed c.push.new.self.items c.loop-entry.back.items c.in-Ok.other c.in_ok-push-in-Ok.ensures.items in
    record {
      counts = λ to led.
          let inv = c.loop-entry.invariant.counts to led in
          let step = led_step LeadsCount entries i entry c.loop-entry-test.true c.entry-item.is _ to inv.0 in
          let same : step.0 ≡ max 1 (g.S.LineStore.shows c.apply.new.store).present.lines = step.1.0.is ∙ sym c.in-Ok.ensures.counts.is in
          (subst (λ n. IsLed LeadsCount (drop (i + 1) entries) n to) same step.1.1, rw back (_, (c.in-Ok.ensures.back_counts, inv.1)));
      texts = λ text to has led.
          let now = c.loop-entry.invariant.texts text to has led in
          let step = led_step Leads entries i entry c.loop-entry-test.true c.entry-item.is now.0 to now.1.1 in
          let has_next = subst (λ t. (g.S.LineStore.shows c.apply.new.store).present.Is t) (sym step.1.0.is) (c.in-Ok.ensures.text now.0 now.1.0) in
          let turned = leads_back_counted entry c.in-Ok.other now.0 step.0 _ _
          (g.met.S.LineStore.has_lines c.loop-entry.store now.0 now.1.0) (g.met.S.LineStore.has_lines c.apply.new.store step.0 has_next)
          c.in-Ok.ensures.back_counts (c.in-Ok.ensures.back now.0 now.1.0) step.1.0 in
          (step.0, (has_next, step.1.1, rw back (now.0, (turned, now.1.2)), back_step entries i entry c.in-Ok.other text now.0 step.0 _ _ c.loop-entry-test.true c.entry-item.is step.1.0.is (c.in-Ok.ensures.back now.0 now.1.0) back now.1.3));
      count = omega (arith, ap length c.in_ok-push-in-Ok.ensures.items, length-append c.loop-entry.back.items (c.in-Ok.other ∷ []), c.loop-entry.invariant.count);
      valid = c.in-Ok.ensures.kept.valid;
      kept = Continues-trans g.met.S.LineStore.stays_on c.loop-entry.invariant.kept c.in-Ok.ensures.kept;
      faults = c.in-Ok.ensures.cause.none (λ failed. absurd (cc)) ∙ c.loop-entry.invariant.faults;
    }

pub returns-in-Err-clause-kept : goal.returns-in-Err-clause-kept
returns-in-Err-clause-kept g c = Continues-trans g.met.S.LineStore.stays_on c.loop-entry.invariant.kept c.in-Err.ensures.kept
