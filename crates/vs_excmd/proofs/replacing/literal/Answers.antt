use Rattle.std.proofs.Common.{ap, sym, subst, arith, length}
use Rattle.vs_text.specs.Text.{IsLine}
use Rattle.vs_excmd.proofs.WrittenLemmas.{literal-line, literal-some}
use Rattle.vs_excmd.proofs.replacing.literal.Goals as goal

pub returns-clause-line : goal.returns-clause-line
returns-clause-line c = subst IsLine (sym c.in_ok-literal.ensures) (literal-line c.args.pattern.now c.requires)

pub returns-clause-some : goal.returns-clause-some
returns-clause-some c = omega (arith, ap length c.in_ok-literal.ensures, literal-some c.args.pattern.now c.requires)
