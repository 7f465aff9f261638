use Rattle.std.proofs.Common.{arith}
use Rattle.vs_pages.specs.MemoryLaws.{away_first}
use Rattle.vs_pages.proofs.TableLemmas.{all-counted, counted-most}
use Rattle.vs_pages.proofs.memory.MemPages.count_places.Goals as goal

pub overflow_add-result : goal.overflow_add-result
overflow_add-result c = let table = c.args.self.now.table in omega (arith, table.bound, table.here_counted, table.away_counted, counted-most table.places.items)

pub returns : goal.returns
returns c = λ away backed. let table = c.args.self.now.table in
    all-counted away table.places.items _ (omega (arith, table.here_counted, table.away_counted)) (λ k gone. (backed k (away_first c.args.self.now k gone)).1)
