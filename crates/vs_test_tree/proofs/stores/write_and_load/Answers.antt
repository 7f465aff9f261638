-- What was written is there, and is what is read.
use Rattle.std.proofs.Common.{◌≡◌, ◌∙◌, Some, sym, ap, is_some}
use Rattle.std.proofs.lemmas.Result.{on_ok_weaker}
use Rattle.vs_pages.proofs.MapsLemmas.{pages_at-written}
use Rattle.vs_test_tree.proofs.stores.write_and_load.Goals as goal

pub load-requires-clause-there : goal.load-requires-clause-there
load-requires-clause-there g c = λ tells.
    ap (λ o. is_some o) (pages_at-written (g.P.Pages.shows c.args.store.now).present (g.P.Pages.shows c.touch.new.self).present c.args.at c.args.pages c.args.bytes.now (c.in_ok-touch.ensures.ok tells) c.requires.size)

pub returns-clause-same : goal.returns-clause-same
returns-clause-same g c = on_ok_weaker c.load.result (λ loaded tells.
    let read : Some c.load.new.into.items ≡ Some c.args.bytes.now = sym (loaded tells) ∙ pages_at-written (g.P.Pages.shows c.args.store.now).present (g.P.Pages.shows c.touch.new.self).present c.args.at c.args.pages c.args.bytes.now (c.in_ok-touch.ensures.ok tells) c.requires.size in
    cc) c.load.ensures.loaded
