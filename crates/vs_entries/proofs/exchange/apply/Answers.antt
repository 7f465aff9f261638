-- What the calls before left of the text, put together.
use Rattle.std.proofs.Common.{◌≡◌, ◌≤◌, ℕ, length, max, sym, ap, subst, ◌∙◌, arith, nat_eq, All}
use Rattle.vs_text.specs.Text.{bytes_of}
use Rattle.vs_text.specs.Limits.{IsShort}
use Rattle.vs_text.specs.declared.TheConstants.{MAX_LINES}
use Rattle.vs_edit.specs.Splices.{splice, cut_out}
use Rattle.vs_edit.proofs.Steps.{Continues-trans, OnlyReads-continues}
use Rattle.vs_entries.specs.Entries.{filled, settled, range_in, count_after, has_no_lines, Fits}
use Rattle.vs_entries.proofs.EntryLemmas.{length-filled, bare_is, bytes_of-settled}
use Rattle.vs_entries.proofs.exchange.apply.Goals as goal

pub splice-requires-clause-allowed : goal.splice-requires-clause-allowed
splice-requires-clause-allowed g c =
    let entry = c.args.entry.now in
    let n_is : c.max-count.result ≡ max 1 (g.S.LineStore.shows c.args.store.now).present.lines = omega (arith, c.len-lines.ensures) in
    let now : (g.S.LineStore.shows c.lines_at.new.store).present.lines ≡ c.max-count.result = omega (arith, n_is, c.in_ok-gone.ensures.kept.present.lines, c.in_ok-fill.ensures.lines) in
    let is : c.in-Some.old ≡ range_in entry c.max-count.result = c.in-Some.ensures.range in
    let fits = c.in-Some.ensures.fits in
    let few = subst (λ n. count_after entry n ≤ MAX_LINES) (sym n_is) (c.requires.allowed.few_lines (subst (Fits entry) n_is fits)) in
    let lines_are : c.deref.result.now ≡ entry.lines = c.deref.ensures.value ∙ c.in_ok-new.ensures in
    record {
      within = omega (arith, now, is, fits.above, fits.within);
      few_lines = omega (arith, now, is, fits.above, fits.within, few, ap length lines_are);
      short_lines = subst (λ lines. All IsShort lines) (sym lines_are) c.requires.allowed.short_lines;
      few_bytes = λ after has_after.
          let told = g.met.S.LineStore.has_told c.lines_at.new.store after has_after in
          let was = g.met.S.LineStore.tells_one c.args.store.now c.requires.valid told in
          let text = was.0 in
          let count : c.max-count.result ≡ length (filled text) =
          omega (arith, n_is, length-filled text, g.met.S.LineStore.has_lines c.args.store.now text was.1) in
          let old : c.in-Some.old ≡ range_in entry (length (filled text)) = is ∙ ap (range_in entry) count in
          let same : filled text ≡ after =
          g.met.S.LineStore.has_one c.lines_at.new.store (filled text) after (c.in_ok-gone.ensures.kept.present.text (filled text) (c.in_ok-fill.ensures.text text was.1)) has_after in
          let lines = splice (filled text) entry.top (range_in entry (length (filled text))) entry.lines in
          let lines_is : lines ≡ splice after entry.top c.in-Some.old c.deref.result.now = cc in
          let few_bytes = c.requires.allowed.few_bytes text was.1 (subst (Fits entry) count fits) in
          omega (arith, ap bytes_of lines_is, bytes_of-settled entry.empty lines, few_bytes);
    }

pub returns-clause-text : goal.returns-clause-text
returns-clause-text g c = λ text has.
    let entry = c.args.entry.now in
    let count : c.max-count.result ≡ length (filled text) =
    omega (arith, c.len-lines.ensures, length-filled text, g.met.S.LineStore.has_lines c.args.store.now text has) in
    let old : c.in-Some.old ≡ range_in entry (length (filled text)) = c.in-Some.ensures.range ∙ ap (range_in entry) count in
    let spliced = c.in_ok-splice.ensures.ok.text (filled text) (c.in_ok-gone.ensures.kept.present.text (filled text) (c.in_ok-fill.ensures.text text has)) in
    let lines_are : c.deref.result.now ≡ entry.lines = c.deref.ensures.value ∙ c.in_ok-new.ensures in
    let is : splice (filled text) entry.top c.in-Some.old c.deref.result.now ≡ splice (filled text) entry.top (range_in entry (length (filled text))) entry.lines = cc in
    subst (λ lines. (g.S.LineStore.shows c.settle.new.store).present.Is (settled entry.empty lines)) is (c.in_ok-settle.ensures.text _ spliced)

pub returns-clause-back : goal.returns-clause-back
returns-clause-back g c = λ text has.
    let entry = c.args.entry.now in
    let lines = g.met.S.LineStore.has_lines c.args.store.now text has in
    let count : c.max-count.result ≡ length (filled text) =
    omega (arith, c.len-lines.ensures, length-filled text, lines) in
    let old : c.in-Some.old ≡ range_in entry (length (filled text)) = c.in-Some.ensures.range ∙ ap (range_in entry) count in
    let gone : c.in_ok-gone.gone ≡ cut_out (filled text) entry.top (range_in entry (length (filled text))) =
    c.in_ok-gone.ensures.lines (filled text) (c.in_ok-fill.ensures.text text has) ∙ ap (cut_out (filled text) entry.top) old in
    let bare : nat_eq c.len-lines.result 0 ≡ has_no_lines text = bare_is text c.len-lines.result (lines ∙ sym c.len-lines.ensures) in
    let lines_are : c.deref.result.now ≡ entry.lines = c.deref.ensures.value ∙ c.in_ok-new.ensures in
    let more : c.len.result ≡ length entry.lines = omega (arith, c.len.ensures, c.deref.ensures.len, ap length lines_are) in
    let bottom = c.bottom_back.ensures in
    cc

pub returns-in_err-fill-clause-kept : goal.returns-in_err-fill-clause-kept
returns-in_err-fill-clause-kept g c = c.fill.ensures.kept

pub returns-in_err-gone-clause-kept : goal.returns-in_err-gone-clause-kept
returns-in_err-gone-clause-kept g c = let law = g.met.S.LineStore in Continues-trans law.stays_on c.in_ok-fill.ensures.kept (OnlyReads-continues c.lines_at.ensures.kept)

pub returns-in_err-splice-clause-kept : goal.returns-in_err-splice-clause-kept
returns-in_err-splice-clause-kept g c =
    let law = g.met.S.LineStore in
    Continues-trans law.stays_on (Continues-trans law.stays_on c.in_ok-fill.ensures.kept (OnlyReads-continues c.in_ok-gone.ensures.kept)) c.splice.ensures.kept

pub returns-in_err-settle-clause-kept : goal.returns-in_err-settle-clause-kept
returns-in_err-settle-clause-kept g c =
    let law = g.met.S.LineStore in
    let read = Continues-trans law.stays_on c.in_ok-fill.ensures.kept (OnlyReads-continues c.in_ok-gone.ensures.kept) in
    Continues-trans law.stays_on (Continues-trans law.stays_on read c.in_ok-splice.ensures.kept) c.settle.ensures.kept

pub returns-clause-kept : goal.returns-clause-kept
returns-clause-kept g c =
    let law = g.met.S.LineStore in
    let read = Continues-trans law.stays_on c.in_ok-fill.ensures.kept (OnlyReads-continues c.in_ok-gone.ensures.kept) in
    Continues-trans law.stays_on (Continues-trans law.stays_on read c.in_ok-splice.ensures.kept) c.in_ok-settle.ensures.kept

pub returns-clause-counts : goal.returns-clause-counts
returns-clause-counts g c =
    let entry = c.args.entry.now in
    let n : ℕ = max 1 (g.S.LineStore.shows c.args.store.now).present.lines in
    let n_is : c.max-count.result ≡ n = omega (arith, c.len-lines.ensures) in
    let fits : Fits entry n = subst (Fits entry) n_is c.in-Some.ensures.fits in
    let range : c.in-Some.old ≡ range_in entry n = c.in-Some.ensures.range ∙ ap (range_in entry) n_is in
    let lines_are : c.deref.result.now ≡ entry.lines = c.deref.ensures.value ∙ c.in_ok-new.ensures in
    let is : max 1 (g.S.LineStore.shows c.settle.new.store).present.lines ≡ count_after entry n =
    omega (arith, range, fits.above, fits.within, c.in_ok-fill.ensures.lines, c.in_ok-gone.ensures.kept.present.lines, c.in_ok-splice.ensures.ok.lines, c.in_ok-settle.ensures.lines, ap length lines_are) in
    record { fits = fits; is = is; few = subst (λ k. k ≤ MAX_LINES) (sym is) (c.requires.allowed.few_lines fits); short = c.requires.allowed.short_lines }
