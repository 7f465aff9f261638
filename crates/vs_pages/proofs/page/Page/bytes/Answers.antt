use Rattle.std.proofs.Common.{None, Some, sym, ap}
use Rattle.vs_pages.specs.Cells.{shown}
use Rattle.vs_pages.specs.Maps.{zeros}
use Rattle.vs_pages.specs.Table.{cell_of}
use Rattle.vs_pages.specs.declared.page.Page.{Page}
use Rattle.vs_pages.proofs.page.Page.bytes.Goals as goal

pub returns-in-Zeros-clause-page : goal.returns-in-Zeros-clause-page
unfolding zeros
returns-in-Zeros-clause-page c = sym (ap (λ (page : Page). shown None (cell_of (Some page))) c.in-Zeros.is)
