-- The lines that were taken are those of the range that are marked.
use Rattle.std.proofs.Common.{◌≡◌, ◌∙◌, ℕ, ◌<◌, false, length, Ok, ap, sym, subst, arith, rules}
use Rattle.std.proofs.lemmas.Bool.Decides.{nat_tests}
use Rattle.vs_exparse.specs.Bytes.{is_empty}
use Rattle.vs_exparse.specs.Pieces.{literal_of}
use Rattle.vs_excmd.specs.Place.{IsSpanIn}
use Rattle.vs_excmd.specs.Searched.{searched}
use Rattle.vs_global.specs.Global.{taken_marks}
use Rattle.vs_global.proofs.GlobalLemmas.{searched-by}
use Rattle.vs_global.proofs.MarkingLemmas.{marks-size}
use Rattle.vs_global.proofs.search.marked_lines.Goals as goal

pub returns-clause-marked : goal.returns-clause-marked
returns-clause-marked g c = λ text has.
    let sought = c.args.search.now in
    let span = c.in_ok-span.span in
    let marks = taken_marks sought.invert (literal_of sought.pattern.now) text span in
    let lines : c.len.result ≡ length text = c.len.ensures ∙ sym (g.met.S.LineStore.has_lines c.args.view.now text has) in
    let at : searched sought.range (length text) c.args.cursor ≡ Ok span =
    ap (λ (n : ℕ). searched sought.range n c.args.cursor) (sym lines) ∙ (sym c.searched.ensures.value ∙ c.in_ok-span.was) in
    let are = c.in_ok-taken.ensures.taken text has in
    let some : 0 < length c.in_ok-taken.taken.items = search rules in
    let found : is_empty c.in_ok-taken.taken.items ≡ false = grind (arith, nat_tests) in
    record {
      has = record {
        marks = marks;
        size = marks-size sought.invert (literal_of sought.pattern.now) text span c.in_ok-span.ensures.positive (subst (λ (n : ℕ). IsSpanIn n span) lines c.in_ok-span.ensures.lies);
        are = are;
      };
      is = searched-by sought.range sought.invert sought.pattern.now text c.args.cursor span false at (sym (ap is_empty are) ∙ found);
    }
