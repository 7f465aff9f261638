-- The flag of a change, entry by entry.
use Rattle.std.proofs.Common.{◌≡◌, ◌+◌, ◌<◌, ℕ, List, [], ◌∷◌, ◌++◌, length, get_or, take, refl, ap, ◌∙◌}
use Rattle.std.proofs.lemmas.List.{take_more}
use Rattle.vs_entries.specs.declared.entry.Entry.{Entry}
use Rattle.vs_ubind.specs.Unbound.{flag_of}

flag_last : (entries : List Entry) (entry : Entry) → flag_of (entries ++ entry ∷ []) ≡ entry.empty
flag_last [] entry = refl
flag_last (first ∷ []) entry = refl
flag_last (first ∷ second ∷ entries) entry = flag_last (second ∷ entries) entry

pub flag_more : (entries : List Entry) (at : ℕ) (none : Entry) → at < length entries → flag_of (take (at + 1) entries) ≡ (get_or entries at none).empty
flag_more entries at none within = ap flag_of (take_more entries at none within) ∙ flag_last (take at entries) (get_or entries at none)
