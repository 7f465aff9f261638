use Rattle.std.proofs.Common.{refl, sym, ap, subst, ◌∙◌, arith}
use Rattle.vs_text.specs.Text.{IsLine, lines_of}
use Rattle.vs_text.proofs.LineEnds.{lines_of-line}
use Rattle.vs_tree.proofs.AppendLemmas.{short_both, whole_front, whole_line}
use Rattle.vs_tree.proofs.Packing.{whole_first, whole_none}
use Rattle.vs_tree.proofs.append.first_line.Goals as goal

pub returns-in-Some-clause-lines : goal.returns-in-Some-clause-lines
returns-in-Some-clause-lines c = ap lines_of c.in-Some.ensures.1 ∙ lines_of-line c.in-Some.parts.0.now c.in-Some.parts.1.now c.in-Some.ensures.0

pub returns-in-Some-clause-short : goal.returns-in-Some-clause-short
returns-in-Some-clause-short c = short_both c.args.bytes.now c.in-Some.parts.0.now c.in-Some.parts.1.now
    (ap lines_of c.in-Some.ensures.1 ∙ lines_of-line c.in-Some.parts.0.now c.in-Some.parts.1.now c.in-Some.ensures.0)

pub returns-in-None-clause-lines : goal.returns-in-None-clause-lines
returns-in-None-clause-lines c =
    whole_line c.args.bytes.now c.split_at.result.0.now c.split_at.result.1.now _ c.requires c.in-None.ensures refl c.split_at.ensures.front c.split_at.ensures.back_len

pub returns-in-None-clause-line : goal.returns-in-None-clause-line
returns-in-None-clause-line c = subst IsLine (sym (whole_front c.args.bytes.now c.split_at.result.0.now _ refl c.split_at.ensures.front)) c.in-None.ensures

pub returns-in-None-clause-less : goal.returns-in-None-clause-less
returns-in-None-clause-less c = omega (arith, c.split_at.ensures.back_len, c.requires)

pub returns-in-None-clause-short : goal.returns-in-None-clause-short
returns-in-None-clause-short c = short_both c.args.bytes.now c.split_at.result.0.now c.split_at.result.1.now
    (whole_line c.args.bytes.now c.split_at.result.0.now c.split_at.result.1.now _ c.requires c.in-None.ensures refl c.split_at.ensures.front c.split_at.ensures.back_len)

pub returns-in-Some-clause-whole : goal.returns-in-Some-clause-whole
returns-in-Some-clause-whole c = whole_first c.args.bytes.now c.in-Some.parts.0.now c.in-Some.parts.1.now c.in-Some.ensures.1
    (ap lines_of c.in-Some.ensures.1 ∙ lines_of-line c.in-Some.parts.0.now c.in-Some.parts.1.now c.in-Some.ensures.0)

pub returns-in-None-clause-whole : goal.returns-in-None-clause-whole
returns-in-None-clause-whole c = λ whole. whole_none c.split_at.result.1.now (omega (arith, c.split_at.ensures.back_len, c.requires))
