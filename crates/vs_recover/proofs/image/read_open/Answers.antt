use Rattle.std.proofs.Common.{◌≡◌, ◌/◌, length, arith, ap, sym, subst, refl, ◌∙◌}
use Rattle.vs_swap.specs.Files.{pages_in}
use Rattle.vs_recover.specs.Files.{Walked}
use Rattle.vs_recover.proofs.TextLaws.{not_sized, not_paired, not_walked, not_text, walked_stands}
use Rattle.vs_recover.proofs.PageLaws.{if_some}
use Rattle.vs_recover.proofs.ReadingLaws.{reads_none, there_as}
use Rattle.vs_recover.proofs.image.read_open.Goals as goal

pub read_tree-requires : goal.read_tree-requires
read_tree-requires g c = record {
  bound = omega arith;
  count = there_as g.F.World.tells (g.F.World.scene c.args.host.now) c.args.name.now (λ file. c.args.len ≡ length file) (λ file. c.args.len / 4096 ≡ length file / 4096) (λ file n. ap (λ k. k / 4096) n) c.requires.len;
}

pub returns-then-page_size-ne4096-clause-image : goal.returns-then-page_size-ne4096-clause-image
returns-then-page_size-ne4096-clause-image g c = λ file is. (c.args.zero.now, c.requires.zero file is, refl, not_sized file c.args.zero.now (c.requires.zero file is) c.if-page_size-ne4096.true)

pub returns-in_default-clause-image : goal.returns-in_default-clause-image
returns-in_default-clause-image g c = λ file is. (c.args.zero.now, c.requires.zero file is, refl, not_paired file c.args.zero.now (c.requires.zero file is) c.in_default.is)

pub returns-in_default-2-clause-image : goal.returns-in_default-2-clause-image
returns-in_default-2-clause-image g c = λ file is. (c.args.zero.now, c.requires.zero file is, refl, not_walked file (subst (λ found. Walked (pages_in file) found) c.in_default-2.is (c.in_ok-lines.ensures.value file is)))

pub returns-in_default-text_of-clause-image : goal.returns-in_default-text_of-clause-image
returns-in_default-text_of-clause-image g c = λ file is.
    (c.args.zero.now, c.requires.zero file is, refl, not_text file c.args.zero.now c.in-Some.pair c.in-Some-2.lines (c.requires.zero file is) c.in-Some.is (subst (λ found. Walked (pages_in file) found) c.in-Some-2.is (c.in_ok-lines.ensures.value file is)) (sym c.text_of.ensures ∙ c.in_default-text_of.is))

pub returns-clause-image : goal.returns-clause-image
returns-clause-image g c = λ file is.
    let format = if_some _ c.in-Some-2.lines _ c.in-Some-2.is c.in_ok-lines.ensures.format ∙ c.format_by.ensures in
    walked_stands file c.args.zero.now c.in-Some.pair c.in-Some-2.lines c.in-Some-text_of.text (c.requires.zero file is) c.if-page_size-ne4096.false c.in-Some.is format (subst (λ found. Walked (pages_in file) found) c.in-Some-2.is (c.in_ok-lines.ensures.value file is)) (sym c.text_of.ensures ∙ c.in-Some-text_of.is)

pub returns-then-page_size-ne4096-clause-reading : goal.returns-then-page_size-ne4096-clause-reading
returns-then-page_size-ne4096-clause-reading g c = reads_none g.F.World.tells (λ is. cc)

pub returns-in_default-clause-reading : goal.returns-in_default-clause-reading
returns-in_default-clause-reading g c = reads_none g.F.World.tells (λ is. cc)
