use Rattle.std.proofs.Common.{ℕ, subst, Option}
use Rattle.memchr.specs.Find.{IsFirstByte, is_byte}
use Rattle.vs_damaged.proofs.FindLaws.{before_none, before_some}
use Rattle.vs_damaged.proofs.finds.before_zero.Goals as goal

pub returns-in-Some : goal.returns-in-Some
returns-in-Some c = before_some c.args.bytes.now c.in-Some.end (subst (λ (o : Option ℕ). IsFirstByte (is_byte 0) c.args.bytes.now o) c.in-Some.is c.memchr.ensures)

pub returns-in-None : goal.returns-in-None
returns-in-None c = before_none c.args.bytes.now (subst (λ (o : Option ℕ). IsFirstByte (is_byte 0) c.args.bytes.now o) c.in-None.is c.memchr.ensures)
