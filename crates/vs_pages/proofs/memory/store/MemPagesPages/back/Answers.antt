use Rattle.std.proofs.Common.{◌≡◌, ◌-◌, ℕ, length, drop, ap, ◌∙◌, arith}
use Rattle.vs_pages.specs.Maps.{no_pages}
use Rattle.vs_pages.specs.State.{history_of}
use Rattle.vs_pages.specs.Memory.{changes_of, state_of}
use Rattle.vs_pages.proofs.Pasts.{before_length}
use Rattle.vs_pages.proofs.memory.store.MemPagesPages.back.Goals as goal

pub undo_to-requires : goal.undo_to-requires
undo_to-requires c = omega (arith, c.requires.within, before_length no_pages c.args.self.now)

pub returns-clause-back : goal.returns-clause-back
returns-clause-back c = λ told.
    let same : length (changes_of c.args.self.now) - c.args.mark ≡ length (state_of c.args.self.now).before - c.args.mark = omega (arith, before_length no_pages c.args.self.now) in
    c.undo_to.ensures.back no_pages ∙ ap (λ (k : ℕ). drop k (history_of (state_of c.args.self.now))) same

pub returns-clause-count : goal.returns-clause-count
returns-clause-count c = omega (arith, c.undo_to.ensures.count, before_length no_pages c.undo_to.new.self)
