-- How a store goes on over the calls of a function that is generic over it, with `S.LineStore` for the store's ghost members.
use Rattle.vs_faults.specs.OneCause.{HasOneCause}
use Rattle.vs_edit.specs.State.{KeepsCommitted, KeepsTexts}
use Rattle.vs_edit.specs.declared.store.LineStore.{Ghosts}

-- The store is valid, over the same borrows, with the same committed text.
abbrev pub Continues : {S : Type 0} → Ghosts S → S → S → Type 0
Continues g = KeepsCommitted g.shows g.valid g.stays

-- The store is valid, over the same borrows, with the same texts.
abbrev pub OnlyReads : {S : Type 0} → Ghosts S → S → S → Type 0
OnlyReads g = KeepsTexts g.shows g.valid g.stays

-- Nothing failed below the store, unless that is answered; then it was the last call there alone.
abbrev pub StopsAtFault : {S : Type 0} → Ghosts S → Type 0 → S → S → Type 0
StopsAtFault g Failed old new = HasOneCause (g.shows old).faults (g.shows new).faults (g.earlier new) Failed
