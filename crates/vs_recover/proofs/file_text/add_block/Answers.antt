use Rattle.std.proofs.Common.{◌≡◌, ◌++◌, [], List, ℕ, length, get_or, ap, ◌∙◌, arith, append_assoc}
use Rattle.vs_data.specs.Blocks.{lines_in}
use Rattle.vs_tree_blocks.proofs.DataLemmas.{count_is, line_at}
use Rattle.vs_recover.proofs.FileTextLaws.{appended_more, appended_all, appended_becomes, kept_longer, kept_more, on_err, stored_end}
use Rattle.vs_recover.proofs.file_text.add_block.Goals as goal

pub loop-at-preserved : goal.loop-at-preserved
loop-at-preserved c =
    let longer : c.extend_from_slice.new.self.items ≡ c.loop-at.bytes.items ++ c.line.result.now = c.in_ok-extend_from_slice.ensures.items in
    let end : List ℕ = stored_end c.args.format in
    let ended : c.end_stored.new.bytes.items ≡ c.extend_from_slice.new.self.items ++ end = c.in_ok-end_stored.ensures.added in
    let grown = ended ∙ ap (λ (bs : List ℕ). bs ++ end) longer ∙ append_assoc c.loop-at.bytes.items c.line.result.now end in
    record {
      added = λ found reads.
          let n : length found ≡ c.args.view.now.count = count_is c.args.block.now c.args.view.now found c.requires reads in
          let line : c.line.result.now ≡ get_or found c.loop-at.at [] = line_at (lines_in c.args.block.now) found c.loop-at.at c.line.result.now reads c.line.ensures.line in
          appended_more c.args.format found c.loop-at.at c.line.result.now c.args.bytes.now.items c.loop-at.bytes.items c.end_stored.new.bytes.items (omega arith) line c.line.ensures.no_zero grown (c.loop-at.invariant.added found reads);
      kept = kept_more c.args.bytes.now.items c.loop-at.bytes.items c.end_stored.new.bytes.items (c.line.result.now ++ end) grown c.loop-at.invariant.kept;
    }

pub returns-in_err-end_stored-clause-kept : goal.returns-in_err-end_stored-clause-kept
returns-in_err-end_stored-clause-kept c =
    let line = kept_more c.args.bytes.now.items c.loop-at.bytes.items c.extend_from_slice.new.self.items c.line.result.now c.in_ok-extend_from_slice.ensures.items c.loop-at.invariant.kept in
    on_err c.from_residual-in_err-end_stored.result (kept_longer c.args.bytes.now.items c.extend_from_slice.new.self.items c.end_stored.new.bytes.items c.in_err-end_stored.ensures.kept line)

pub returns-clause-added : goal.returns-clause-added
returns-clause-added c = λ found reads.
    let n : length found ≡ c.args.view.now.count = count_is c.args.block.now c.args.view.now found c.requires reads in
    let all = appended_all c.args.format found c.loop-at.at c.args.bytes.now.items c.loop-at.bytes.items (omega arith) (c.loop-at.invariant.added found reads) in
    appended_becomes c.args.format c.args.bytes.now.items c.loop-at.bytes.items c.exchange_from.new.bytes.items found c.len-end.result (omega arith) c.exchange_from.ensures all
