-- The block that the lines were put into is a run of one page, and its free space has no room for the next line.
use Rattle.std.proofs.Common.{◌≡◌, ◌≢◌, All, ℕ, List, [], ◌++◌, true, Some, Ok, length, drop, sym, ap, subst, ◌∙◌, arith}
use Rattle.std.specs.Option.{option_map}
use Rattle.vs_data.specs.declared.DataView.{DataView}
use Rattle.vs_data.specs.Blocks.{PutsLast, HasNoRoom, ended_of, is_as_written, lines_in, view_in}
use Rattle.vs_data.proofs.Written.{cleared_written, fresh_written, put_written}
use Rattle.vs_tree_blocks.specs.Runs.{IsFirstRun, IsRun, lines_within}
use Rattle.vs_tree_blocks.proofs.RunsLemmas.{longer, told, within_is}
use Rattle.vs_tree_blocks.proofs.run.fill_page.Goals as goal

module _ (old mid new lines : List ℕ) (before after : DataView) (taken : ℕ) (put : PutsLast old mid before after lines taken) (none : lines_in old ≡ Some [])
    (view : view_in new ≡ Ok after) (same : lines_in new ≡ lines_in mid) (own : is_as_written new ≡ true) (size : length new ≡ 4096) (end : before.text_end ≡ 4096) where
  lines_are : lines_in new ≡ Some put.put
  lines_are = same ∙ put.lines ∙ ap (λ o. option_map (λ ls. ls ++ put.put) o) none

  is_run : IsRun new after 1
  is_run = longer new put.put after 1 (omega arith) view lines_are own size (put.end ∙ end)

  first_run : HasNoRoom after (drop taken lines) → IsFirstRun lines (lines_within new) taken
  first_run full =
      let same : lines_within new ≡ put.put = within_is new put.put lines_are in
      let t = told new after view in
      record {
        lines_end = put.lines_end ∙ ap (λ ls. ended_of ls) (sym same);
        within = put.within;
        no_zero = subst (λ ls. All (All (λ byte. byte ≢ 0)) ls) (sym same) put.no_zero;
        full = λ line rest cut some. omega (arith, full line rest cut some, t.space, put.end, end);
      }

pub returns : goal.returns
returns c =
    let old : List ℕ = c.fresh_over-view.new.block in
    let mid : List ℕ = c.append_ended-taken.new.block in
    let new : List ℕ = c.clear_free.new.block in
    let after : DataView = c.append_ended-taken.new.self in
    let put = c.append_ended-taken.ensures.put in
    let none = c.fresh_over-view.ensures.lines in
    let size : length new ≡ 4096 = omega arith in
    let end : c.fresh_over-view.result.text_end ≡ 4096 = ap (λ (v : DataView). v.text_end) c.fresh_over-view.ensures.header ∙ omega arith in
    let fresh = c.fresh_over-view.ensures in
    let begun : is_as_written old ≡ true =
    fresh_written old _ c.fresh_over-view.result fresh.bytes fresh.view (ap (λ (v : DataView). v.count) fresh.header) (end ∙ omega arith) (omega arith) in
    let filled : is_as_written mid ≡ true = put_written old mid c.fresh_over-view.result after c.args.lines.now c.append_ended-taken.result put fresh.view begun (omega arith) in
    let own : is_as_written new ≡ true = cleared_written mid new after c.clear_free.ensures.bytes put.view filled in
    let view = c.clear_free.ensures.view in
    let same = c.clear_free.ensures.lines in
    record {
      run = is_run old mid new c.args.lines.now c.fresh_over-view.result after c.append_ended-taken.result put none view same own size end;
      first = first_run old mid new c.args.lines.now c.fresh_over-view.result after c.append_ended-taken.result put none view same own size end c.append_ended-taken.ensures.full;
    }
