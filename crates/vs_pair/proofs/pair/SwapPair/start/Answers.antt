use Rattle.std.proofs.Common.{refl}
use Rattle.std.specs.Prelude.{[], ◌∷◌}
use Rattle.vs_pages.specs.Maps.{no_pages}
use Rattle.vs_pair.specs.Pair.{sync_fresh}
use Rattle.vs_pair.proofs.Turns.{after_turn, none_cached}
use Rattle.vs_pair.proofs.pair.SwapPair.start.Goals as goal

pub returns-clause-ok : goal.returns-clause-ok
returns-clause-ok g c told =
    (after_turn no_pages c.args.self.now.pages c.start_files.new.self c.send_pages.new.pages c.start_files.new.self.cache c.send_pages.new.cache _ (sync_fresh c.args.self.now 2 c.args.head.now) (sync_fresh c.args.self.now 1 c.args.head.now ∷ []) c.start_files.ensures.pages (c.requires.here told) refl
    (c.in_ok-start_files.ensures.ok told) c.send_pages.ensures.same (none_cached no_pages c.args.self.now.pages c.start_files.new.self.cache (c.requires.here told)) c.send_pages.ensures.cached).fits

pub returns-clause-stored : goal.returns-clause-stored
returns-clause-stored g c told =
    (after_turn no_pages c.args.self.now.pages c.start_files.new.self c.send_pages.new.pages c.start_files.new.self.cache c.send_pages.new.cache _ (sync_fresh c.args.self.now 2 c.args.head.now) (sync_fresh c.args.self.now 1 c.args.head.now ∷ []) c.start_files.ensures.pages (c.requires.here told) refl
    (c.in_ok-start_files.ensures.ok told) c.send_pages.ensures.same (none_cached no_pages c.args.self.now.pages c.start_files.new.self.cache (c.requires.here told)) c.send_pages.ensures.cached).stored

pub returns-clause-shown : goal.returns-clause-shown
returns-clause-shown g c told =
    (after_turn no_pages c.args.self.now.pages c.start_files.new.self c.send_pages.new.pages c.start_files.new.self.cache c.send_pages.new.cache _ (sync_fresh c.args.self.now 2 c.args.head.now) (sync_fresh c.args.self.now 1 c.args.head.now ∷ []) c.start_files.ensures.pages (c.requires.here told) refl
    (c.in_ok-start_files.ensures.ok told) c.send_pages.ensures.same (none_cached no_pages c.args.self.now.pages c.start_files.new.self.cache (c.requires.here told)) c.send_pages.ensures.cached).shown
