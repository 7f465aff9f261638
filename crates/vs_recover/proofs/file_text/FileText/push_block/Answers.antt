use Rattle.std.proofs.Common.{◌++◌, length, map, ap, ◌∙◌, arith}
use Rattle.vs_text.specs.Text.{plain_line}
use Rattle.vs_text.specs.Documents.{Document}
use Rattle.vs_recover.specs.Stored.{document_by}
use Rattle.vs_recover.proofs.FileTextLaws.{IsText-plain, block_added, few_lines, more_count, more_lines, more_whole}
use Rattle.vs_recover.proofs.file_text.FileText.push_block.Goals as goal

pub overflow_add-self : goal.overflow_add-self
overflow_add-self c =
    let new = block_added c.self.inside.format c.args.block.now c.self.inside.bytes.items c.add_block.new.bytes.items c.args.view.now c.requires c.in-Ok.ensures.added in
    let more = more_count c.self.inside.format c.self.inside.bytes.items c.add_block.new.bytes.items new.0 c.self.inside.whole new.1 new.2 in
    let whole = more_whole c.self.inside.format c.self.inside.bytes.items c.add_block.new.bytes.items new.0 c.self.inside.whole new.1 new.2 in
    omega (arith, more, new.3, c.self.inside.counted, few_lines c.self.inside.format (document_by c.self.inside.format c.add_block.new.bytes.items).text, ap length whole)

pub invariant_of-self-inside : goal.invariant_of-self-inside
invariant_of-self-inside c =
    let new = block_added c.self.inside.format c.args.block.now c.self.inside.bytes.items c.add_block.new.bytes.items c.args.view.now c.requires c.in-Ok.ensures.added in
    let more = more_count c.self.inside.format c.self.inside.bytes.items c.add_block.new.bytes.items new.0 c.self.inside.whole new.1 new.2 in
    (more_whole c.self.inside.format c.self.inside.bytes.items c.add_block.new.bytes.items new.0 c.self.inside.whole new.1 new.2, (omega (arith, more, new.3, c.self.inside.counted), tt))

pub returns-in-Ok-clause-ok : goal.returns-in-Ok-clause-ok
returns-in-Ok-clause-ok c = λ found reads.
    more_lines c.self.inside.format c.self.inside.bytes.items c.add_block.new.bytes.items (map plain_line found) c.self.inside.whole (IsText-plain found) (c.in-Ok.ensures.added found reads)
    ∙ ap (λ (d : Document). d.text ++ map plain_line found) c.self.view_is
