-- No line is held, so the text is that of the store.
use Rattle.std.proofs.Common.{refl}
use Rattle.vs_gap.specs.declared.held.Held.{Held}
use Rattle.vs_gap.specs.Held.{IsHeld}
use Rattle.vs_gap.proofs.HeldLemmas.{held-none, only-none, shown-none}
use Rattle.vs_gap.proofs.held.Held.over.Goals as goal

pub returns-clause-held : goal.returns-clause-held
returns-clause-held g c =
    let law = g.met.S.LineStore in
    let store = c.args.store.now in
    held-none (g.S.LineStore.shows store).present (record { top = 0; replaced = 0; lines = c.new.result; bytes = c.bytes.result }) refl refl c.new.ensures c.bytes.ensures
    (law.few_lines store c.requires) (law.few_bytes store c.requires) (law.has_lines store) (law.has_bytes store)
    (λ text has. record { is_text = law.has_text store text c.requires has; within = law.has_within store text c.requires has })

pub returns-clause-shows : goal.returns-clause-shows
returns-clause-shows g c =
    let law = g.met.S.LineStore in
    let store = c.args.store.now in
    let none : Held = record { top = 0; replaced = 0; lines = c.new.result; bytes = c.bytes.result } in
    let held : IsHeld (g.S.LineStore.shows store).present none =
    held-none (g.S.LineStore.shows store).present none refl refl c.new.ensures c.bytes.ensures
    (law.few_lines store c.requires) (law.few_bytes store c.requires) (law.has_lines store) (law.has_bytes store)
    (λ text has. record { is_text = law.has_text store text c.requires has; within = law.has_within store text c.requires has }) in
    shown-none (g.S.LineStore.shows store).present none refl refl c.new.ensures c.bytes.ensures held

pub returns-clause-only : goal.returns-clause-only
returns-clause-only g c =
    only-none (g.S.LineStore.shows c.args.store.now).present (record { top = 0; replaced = 0; lines = c.new.result; bytes = c.bytes.result }) refl refl c.new.ensures c.bytes.ensures
