-- Each entry leads one step on, and what it gives leads back over that step.
use Rattle.std.proofs.Common.{◌≡◌, ◌∷◌, ◌∙◌, Err, ap, reverse}
use Rattle.std.proofs.lemmas.Result.{err_from_is_err_and}
use Rattle.vs_edit.proofs.UndoingLemmas.{reverse_pushed}
use Rattle.vs_edit.proofs.Steps.{Continues-trans}
use Rattle.vs_entries.specs.Entries.{applied, Leads, LeadsCount}
use Rattle.vs_outward.proofs.GoingLemmas.{ended, out_of_memory}
use Rattle.vs_outward.proofs.LedLemmas.{ahead_more, if_some, left_more, one_text}
use Rattle.vs_outward.proofs.crossing.try_all.Goals as goal

pub loop-entry-preserved : goal.loop-entry-preserved
loop-entry-preserved g c =
    let entry = c.entry-item.result in
    let entries = c.args.entries.now in
    let i = c.loop-entry.entry-index in
    let inv = c.loop-entry.invariant in
    let other = c.in-Some.other in
    let out = c.in_ok-other.ensures in
    let back : reverse c.push.new.self.items ≡ other ∷ reverse c.loop-entry.back.items = reverse_pushed c.push.new.self.items c.loop-entry.back.items other c.in_ok-push.ensures.items in
    let counts = if_some _ other _ c.in-Some.is out.counts in
    let back_counts = if_some _ other _ c.in-Some.is out.back_counts in
    record {
      ahead_counts = ahead_more LeadsCount entries i entry _ _ _ c.loop-entry-test.true c.entry-item.is counts inv.ahead_counts;
      back_counts = rw back (_, (back_counts, inv.back_counts));
      texts = λ text has.
          let now = inv.texts text has in
          let leads = if_some _ other _ c.in-Some.is out.leads now.0 now.1.0 in
          let next = if_some _ other _ c.in-Some.is out.text now.0 now.1.0 in
          let turned = if_some _ other _ c.in-Some.is out.back_leads now.0 now.1.0 in (
            applied entry now.0,
            (
              next,
              ahead_more Leads entries i entry text now.0 (applied entry now.0) c.loop-entry-test.true c.entry-item.is leads now.1.1,
              left_more Leads one_text entries i entry text now.0 (applied entry now.0) c.loop-entry-test.true c.entry-item.is leads now.1.2,
              rw back (now.0, (turned, now.1.3)),
            ),
          );
      valid = out.kept.valid;
      kept = Continues-trans g.met.S.LineStore.stays_on inv.kept out.kept;
      faults = out.cause.none (λ failed. absurd (cc)) ∙ inv.faults;
    }

pub returns-in_err-push-clause-goes_on : goal.returns-in_err-push-clause-goes_on
returns-in_err-push-clause-goes_on g c =
    let inv = c.loop-entry.invariant in
    let out = c.in_ok-other.ensures in
    let p = err_from_is_err_and c.from_residual-in_err-push.result c.from_residual-in_err-push.ensures.1 in
    out_of_memory c.from_residual-in_err-push.result (p.1 ∙ ap Err p.2) (Continues-trans g.met.S.LineStore.stays_on inv.kept out.kept) (out.cause.none (λ failed. absurd (cc)) ∙ inv.faults)

pub returns-in_default-clause-goes_on : goal.returns-in_default-clause-goes_on
returns-in_default-clause-goes_on g c =
    let on = g.met.S.LineStore.stays_on in
    let inv = c.loop-entry.invariant in
    let out = c.in_ok-other.ensures in
    ended on (Continues-trans on inv.kept out.kept) (out.cause.none (λ failed. absurd (cc)) ∙ inv.faults) c.in_ok-take_back.ensures.goes_on
