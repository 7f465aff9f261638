-- The bytes of what results are those of the text and of the entry's lines, less those of the range.
use Rattle.std.proofs.Common.{◌≡◌, ◌≤◌, ◌+◌, length, max, ap, subst, ◌∙◌, arith}
use Rattle.std.proofs.lemmas.Bool.{le-leb, leb-true}
use Rattle.vs_text.specs.Text.{bytes_of}
use Rattle.vs_text.specs.declared.TheConstants.{MAX_TEXT_BYTES}
use Rattle.vs_text.proofs.FileForm.{length-file_of}
use Rattle.vs_entries.specs.Entries.{applied, filled, range_in}
use Rattle.vs_entries.proofs.EntryLemmas.{length-filled, applied_few, applied_room, gone_le}
use Rattle.vs_entries.proofs.fit.fits.Goals as goal

pub returns-then-saturating_add-le-MAX_TEXT_BYTES-clause-allowed : goal.returns-then-saturating_add-le-MAX_TEXT_BYTES-clause-allowed
returns-then-saturating_add-le-MAX_TEXT_BYTES-clause-allowed g c = λ _.
    let entry = c.args.entry.now in
    let more : length c.bytes-2.result.now ≡ bytes_of entry.lines = ap length c.bytes-2.ensures.bytes ∙ length-file_of entry.lines in
    record {
      few_lines = λ fits.
          let now : c.max-count.result ≡ max 1 (g.S.LineStore.shows c.args.store.now).present.lines = omega (arith, c.len.ensures) in
          let range : c.in-Some.old ≡ range_in entry (max 1 (g.S.LineStore.shows c.args.store.now).present.lines) = c.in-Some.ensures.range ∙ ap (range_in entry) now in
          omega (arith, now, range, c.in-Some.ensures.fits.above, c.in-Some.ensures.fits.within, c.in-Some-count_short.ensures.count);
      short_lines = c.in-Some-count_short.ensures.short;
      few_bytes = λ text has fits.
          let lines = g.met.S.LineStore.has_lines c.args.store.now text has in
          let bytes = g.met.S.LineStore.has_bytes c.args.store.now text has in
          let count : c.max-count.result ≡ length (filled text) = omega (arith, c.len.ensures, length-filled text, lines) in
          let old : c.in-Some.old ≡ range_in entry (length (filled text)) = c.in-Some.ensures.range ∙ ap (range_in entry) count in
          let within : entry.top + c.in-Some.old ≤ length (filled text) = omega (arith, count, c.in-Some.ensures.range, c.in-Some.ensures.fits.above, c.in-Some.ensures.fits.within) in
          applied_few entry text c.in-Some.old within old (omega (arith, bytes, c.bytes.ensures, c.saturating_add.ensures, c.if-saturating_add-le-MAX_TEXT_BYTES.true, more));
    }

pub returns-clause-allowed : goal.returns-clause-allowed
returns-clause-allowed g c = λ yes.
    let entry = c.args.entry.now in
    let more : length c.bytes-2.result.now ≡ bytes_of entry.lines = ap length c.bytes-2.ensures.bytes ∙ length-file_of entry.lines in
    record {
      few_lines = λ fits.
          let now : c.max-count.result ≡ max 1 (g.S.LineStore.shows c.args.store.now).present.lines = omega (arith, c.len.ensures) in
          let range : c.in-Some.old ≡ range_in entry (max 1 (g.S.LineStore.shows c.args.store.now).present.lines) = c.in-Some.ensures.range ∙ ap (range_in entry) now in
          omega (arith, now, range, c.in-Some.ensures.fits.above, c.in-Some.ensures.fits.within, c.in-Some-count_short.ensures.count);
      short_lines = c.in-Some-count_short.ensures.short;
      few_bytes = λ text has fits.
          let lines = g.met.S.LineStore.has_lines c.args.store.now text has in
          let bytes = g.met.S.LineStore.has_bytes c.args.store.now text has in
          let count : c.max-count.result ≡ length (filled text) = omega (arith, c.len.ensures, length-filled text, lines) in
          let old : c.in-Some.old ≡ range_in entry (length (filled text)) = c.in-Some.ensures.range ∙ ap (range_in entry) count in
          let within : entry.top + c.in-Some.old ≤ length (filled text) = omega (arith, count, c.in-Some.ensures.range, c.in-Some.ensures.fits.above, c.in-Some.ensures.fits.within) in
          applied_few entry text c.in-Some.old within old (omega (arith, bytes, c.bytes.ensures, c.in_ok-gone.ensures.bytes text has, gone_le entry text c.in-Some.old within old, c.saturating_sub.ensures, c.saturating_add-2.ensures, leb-true c.saturating_add-2.result 268435456 yes, more));
    }

pub returns-clause-refused : goal.returns-clause-refused
returns-clause-refused g c = λ no text to has leads.
    let entry = c.args.entry.now in
    let more : length c.bytes-2.result.now ≡ bytes_of entry.lines = ap length c.bytes-2.ensures.bytes ∙ length-file_of entry.lines in
    let lines = g.met.S.LineStore.has_lines c.args.store.now text has in
    let bytes = g.met.S.LineStore.has_bytes c.args.store.now text has in
    let count : c.max-count.result ≡ length (filled text) = omega (arith, c.len.ensures, length-filled text, lines) in
    let old : c.in-Some.old ≡ range_in entry (length (filled text)) = c.in-Some.ensures.range ∙ ap (range_in entry) count in
    let within : entry.top + c.in-Some.old ≤ length (filled text) = omega (arith, count, c.in-Some.ensures.range, c.in-Some.ensures.fits.above, c.in-Some.ensures.fits.within) in
    let few : bytes_of (applied entry text) ≤ MAX_TEXT_BYTES = subst (λ t. bytes_of t ≤ MAX_TEXT_BYTES) leads.is leads.to_bytes in
    let room = applied_room entry text c.in-Some.old within old few in
    no (le-leb c.saturating_add-2.result 268435456 (omega (arith, bytes, c.bytes.ensures, c.in_ok-gone.ensures.bytes text has, gone_le entry text c.in-Some.old within old, room, c.saturating_sub.ensures, c.saturating_add-2.ensures, more)))
