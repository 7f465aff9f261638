use Rattle.std.proofs.Common.{◌∙◌, ◌++◌, true, sym, refl, ap}
use Rattle.vs_pages.specs.Maps.{no_pages}
use Rattle.vs_pages.specs.Memory.{committed_of, present_of, state_of}
use Rattle.vs_pages.specs.State.{Commits}
use Rattle.vs_tree.proofs.Kept.{fits_kept, work_kept}
use Rattle.vs_tree.proofs.Working.{history_worked}
use Rattle.vs_tree.specs.declared.texts.Extent.{Extent}
use Rattle.vs_tree.specs.declared.tree.LineTree.{LineTree}
use Rattle.vs_tree.specs.TextIn.{text_in, text_in-HasText}
use Rattle.vs_pages.proofs.Steps.{history_present}
use Rattle.vs_paged.proofs.PageLemmas.{text_had, room_end, text_back, text_stays, filled_stays}
use Rattle.vs_paged.proofs.opening.push_in.Goals as goal

pub push_lines-requires-clause-few_lines : goal.push_lines-requires-clause-few_lines
push_lines-requires-clause-few_lines c = (room_end (present_of c.args.pages.now) c.args.tree.now.present c.args.lines.now c.requires.committed.present_fits c.requires.within).0

pub push_lines-requires-clause-short_lines : goal.push_lines-requires-clause-short_lines
push_lines-requires-clause-short_lines c = (room_end (present_of c.args.pages.now) c.args.tree.now.present c.args.lines.now c.requires.committed.present_fits c.requires.within).1

pub push_lines-requires-clause-few_bytes : goal.push_lines-requires-clause-few_bytes
push_lines-requires-clause-few_bytes c = (room_end (present_of c.args.pages.now) c.args.tree.now.present c.args.lines.now c.requires.committed.present_fits c.requires.within).2

pub commit_in-requires-clause-filled : goal.commit_in-requires-clause-filled
commit_in-requires-clause-filled c = c.in-Ok.ensures.filled refl c.requires.committed.filled.present

pub returns-in-Ok-clause-ok : goal.returns-in-Ok-clause-ok
returns-in-Ok-clause-ok c =
    let text = text_in (present_of c.args.pages.now) c.args.tree.now.present in
    c.commit_in.ensures.text ∙ text_in-HasText (present_of c.push_lines.new.pages) c.push_lines.new.self.present (text ++ c.args.lines.now)
    (c.in-Ok.ensures.text refl text (text_had _ _ c.requires.committed.present_fits))

pub returns-in-Err-clause-err : goal.returns-in-Err-clause-err
returns-in-Err-clause-err c =
    text_back c.args.pages.now c.push_lines.new.pages c.args.tree.now.present c.push_lines.new.self.present (c.in-Err.ensures.back refl) (ap (λ (t : LineTree). t.present) c.in-Err.ensures.same)

pub returns-in-Err-clause-committed : goal.returns-in-Err-clause-committed
returns-in-Err-clause-committed c =
    let old = c.args.pages.now in
    let new = c.push_lines.new.pages in
    let now = text_back old new c.args.tree.now.present c.push_lines.new.self.present (c.in-Err.ensures.back refl) (ap (λ (t : LineTree). t.present) c.in-Err.ensures.same) in
    let then = text_stays (committed_of old) (committed_of new) c.args.tree.now.committed c.push_lines.new.self.committed (c.push_lines.ensures.kept.committed refl) c.push_lines.ensures.before in
    record {
      present_fits = c.push_lines.ensures.fits;
      committed_fits = fits_kept true (committed_of old) (committed_of new) _ _ (λ told. c.push_lines.ensures.kept.committed refl) c.push_lines.ensures.before c.requires.committed.committed_fits;
      filled = record {
        present = filled_stays _ _ _ _ (history_present (state_of old) (state_of new) (c.in-Err.ensures.back refl)) (ap (λ (t : LineTree). t.present) c.in-Err.ensures.same) c.requires.committed.filled.present;
        committed = filled_stays _ _ _ _ (c.push_lines.ensures.kept.committed refl) c.push_lines.ensures.before c.requires.committed.filled.committed;
      };
      same = then ∙ c.requires.committed.same ∙ sym now;
      same_height = ap (λ (e : Extent). e.height) c.push_lines.ensures.before ∙ c.requires.committed.same_height ∙ sym (ap (λ (t : LineTree). t.present.height) c.in-Err.ensures.same);
      idle = work_kept (state_of old) (state_of new) (history_worked (state_of old) (state_of new) (c.in-Err.ensures.back refl)) (c.push_lines.ensures.kept.commits refl)
          ∙ c.requires.committed.idle ∙ sym (ap (λ (made : Commits). made.last) (c.push_lines.ensures.kept.commits refl));
    }

pub returns-in-Ok-clause-here : goal.returns-in-Ok-clause-here
returns-in-Ok-clause-here c here = c.commit_in.ensures.here (c.push_lines.ensures.kept.stays.backed no_pages here)

pub returns-in-Err-clause-here : goal.returns-in-Err-clause-here
returns-in-Err-clause-here c = c.push_lines.ensures.kept.stays.backed no_pages
