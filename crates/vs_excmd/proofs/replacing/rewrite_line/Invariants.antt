use Rattle.std.proofs.Common.{◌≡◌, ◌≤◌, ◌-◌, ◌++◌, length, if◌then◌else◌, []}
use Rattle.memchr.specs.Find.{matches}
use Rattle.vs_text.specs.Limits.{IsShort}
use Rattle.vs_excmd.specs.Substitute.{rebuilt, replaced}
use Rattle.vs_excmd.proofs.replacing.rewrite_line.Given as goal

abbrev pub invariant-places : goal.invariant-places
invariant-places l = record {
  whole : l.out.items ++ rebuilt l.line (length l.finder) l.new l.from (if l.all then matches l.line l.finder l.from else []) ≡ replaced l.all l.finder l.new l.line;
  short : IsShort l.out.items;
  within : l.from ≤ length l.line;
}

abbrev pub decreases-places : goal.decreases-places
decreases-places l = length l.line - l.from
