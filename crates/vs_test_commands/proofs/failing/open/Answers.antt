-- A commit makes the text the committed one.
use Rattle.std.proofs.Common.{sym, subst, ◌∙◌}
use Rattle.vs_test_commands.proofs.failing.open.Goals as goal

pub returns : goal.returns
returns g c =
    let text = c.commit.new.self in
    record {
      valid = c.commit.ensures.valid;
      committed = record {
        text = λ lines has.
            let tells = g.met.S.LineStore.has_told text lines has in
            let was = g.met.S.LineStore.tells_one c.args.text c.requires tells in
            let same = g.met.S.LineStore.has_one text was.0 lines (c.commit.ensures.present.text was.0 was.1) has in
            subst (λ t. (g.S.LineStore.shows text).committed.Is t) same (c.commit.ensures.committed.text was.0 was.1);
        lines = c.commit.ensures.committed.lines ∙ sym c.commit.ensures.present.lines;
        bytes = c.commit.ensures.committed.bytes ∙ sym c.commit.ensures.present.bytes;
        worked_by = c.commit.ensures.committed.worked_by ∙ sym c.commit.ensures.present.worked_by;
        most = c.commit.ensures.committed.most ∙ sym c.commit.ensures.present.most;
      };
      counts = c.in_ok-tree.ensures.counts _;
      texts = λ lines has. c.in_ok-tree.ensures.texts lines;
    }
