-- Both texts are within the limits of the store, and the counts are those of their lines.
use Rattle.std.proofs.Common.{refl}
use Rattle.vs_entries.specs.Entries.{applied}
use Rattle.vs_entries.proofs.EntryLemmas.{leads_back_counted, leads_counted}
use Rattle.vs_entries.proofs.fit.try_apply.Goals as goal

pub returns-in-Ok-clause-leads : goal.returns-in-Ok-clause-leads
returns-in-Ok-clause-leads g c = λ text has.
    let law = g.met.S.LineStore in
    let entry = c.args.entry.now in
    let here = c.in_ok-fits.ensures.kept.present.text text has in
    let there = c.in-Ok.ensures.text text here in
    leads_counted entry text (applied entry text) _ _ (law.has_lines c.fits.new.store text here) (law.has_lines c.apply.new.store (applied entry text) there)
    c.in-Ok.ensures.counts refl (law.has_within c.fits.new.store text c.in_ok-fits.ensures.kept.valid here).few_bytes
    (law.has_within c.apply.new.store (applied entry text) c.in-Ok.ensures.kept.valid there).few_bytes

pub returns-in-Ok-clause-back_leads : goal.returns-in-Ok-clause-back_leads
returns-in-Ok-clause-back_leads g c = λ text has.
    let law = g.met.S.LineStore in
    let entry = c.args.entry.now in
    let here = c.in_ok-fits.ensures.kept.present.text text has in
    let there = c.in-Ok.ensures.text text here in
    leads_back_counted entry c.in-Ok.back text (applied entry text) _ _ (law.has_lines c.fits.new.store text here) (law.has_lines c.apply.new.store (applied entry text) there)
    c.in-Ok.ensures.back_counts (c.in-Ok.ensures.back text here) (returns-in-Ok-clause-leads g c text has)
