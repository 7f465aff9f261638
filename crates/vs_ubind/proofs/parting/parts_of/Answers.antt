use Rattle.std.proofs.Common.{◌≡◌, ℕ, ◌∙◌, List, map, ap, sym, subst, arith}
use Rattle.std.proofs.lemmas.List.{get_or_default}
use Rattle.vs_undo.specs.declared.parts.Node.{Node}
use Rattle.vs_undo.specs.declared.parts.Parts.{Parts}
use Rattle.vs_ufile.specs.Values.{change_of, history_of}
use Rattle.vs_ufile.specs.declared.history.FileChange.{FileChange}
use Rattle.vs_ufile.specs.Walks.{at}
use Rattle.vs_ubind.specs.Meaning.{Means}
use Rattle.vs_ubind.specs.Taken.{current_of, AreTaken}
use Rattle.vs_ubind.proofs.Joined.{joined}
use Rattle.vs_ubind.proofs.Sounds.{is_sound}
use Rattle.vs_ubind.proofs.parting.parts_of.Goals as goal

abbrev the_parts : List Node → ℕ → ℕ → ℕ → ℕ → Parts
the_parts nodes root current last save = record { nodes = nodes; root_child = root; current = current; last = last; last_save = save }

pub returns-clause-means : goal.returns-clause-means
returns-clause-means c =
    let h = history_of c.args.history.now in
    let lineage = c.in_ok-lineage.lineage in
    let sorted = c.sort.new.nodes.items in
    let taken : AreTaken h.changes c.in_ok-nodes.nodes.items = subst (λ (xs : List FileChange). AreTaken (map change_of xs) c.in_ok-nodes.nodes.items) c.deref.ensures.value c.in_ok-nodes.ensures in
    let root : c.index.result.now ≡ at lineage.children.items 0 = c.index.ensures ∙ get_or_default lineage.children.items 0 _ 0 (omega (arith, c.in_ok-lineage.ensures.child_count)) in
    let current : c.current_of-current.result ≡ current_of sorted h = c.current_of-current.ensures ∙ ap (λ ns. current_of ns h) c.deref-2.ensures.value in
    let whole = joined h c.requires c.in_ok-nodes.nodes.items sorted taken c.in_ok-sort.ensures.same c.in_ok-sort.ensures.rising lineage.parents.items lineage.children.items c.last_of.result c.last_save_of.result c.in_ok-lineage.ensures c.last_of.ensures c.last_save_of.ensures in
    let same : the_parts sorted (at lineage.children.items 0) (current_of sorted h) c.last_of.result c.last_save_of.result
    ≡ the_parts c.of.result c.index.result.now c.current_of-current.result c.last_of.result c.last_save_of.result =
    λ i. the_parts (sym c.of.ensures i) (sym root i) (sym current i) c.last_of.result c.last_save_of.result in
    subst (Means h) same whole

pub returns-clause-sound : goal.returns-clause-sound
returns-clause-sound c =
    let h = history_of c.args.history.now in
    is_sound h c.requires (the_parts c.of.result c.index.result.now c.current_of-current.result c.last_of.result c.last_save_of.result) (returns-clause-means c) c.in_ok-lineage.ensures.ways (omega (arith, c.last_of.type_inv))
