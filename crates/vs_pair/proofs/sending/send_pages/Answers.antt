use Rattle.std.proofs.Common.{refl, ◌∙◌}
use Rattle.vs_pair.proofs.AwayLemmas.{same_seen}
use Rattle.vs_pair.proofs.sending.send_pages.Goals as goal

pub pages-init : goal.pages-init
pages-init c = record { same = λ away backed all. same_seen away c.args.pages.now backed; cached = λ away backed all cached. cached; commits = refl }

pub pages-preserved : goal.pages-preserved
pages-preserved c = record {
  same = λ away backed all. c.send_page-room.ensures.same away c.args.pages.now all (c.pages.invariant.same away backed all);
  cached = λ away backed all cached. c.send_page-room.ensures.cached away c.args.pages.now all (c.pages.invariant.same away backed all) (c.pages.invariant.cached away backed all cached);
  commits = c.send_page-room.ensures.commits ∙ c.pages.invariant.commits;
}
