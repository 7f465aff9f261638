use Rattle.std.proofs.Common.{rules, ◌≡◌, ◌∙◌, List, sym, ap}
use Rattle.vs_text.specs.Text.{file_of}
use Rattle.vs_undo.specs.declared.leaves.Leaf.{Leaf}
use Rattle.vs_undo.specs.declared.parts.Parts.{Parts}
use Rattle.vs_undo.specs.Leaves.{leaves_of}
use Rattle.vs_undo.proofs.LeafLemmas.{leaves_of-links_of}
use Rattle.vs_machine.specs.Listing.{listed, listing}
use Rattle.vs_machine.specs.Replies.{prints}
use Rattle.vs_machine.proofs.listing.undo_list.Goals as goal

pub returns-clause-history : goal.returns-clause-history
returns-clause-history c = λ text history is.
    let nodes = c.args.tree.now.nodes in
    let tree : c.printed.result ≡ prints (listing nodes) = search rules in
    tree ∙ ap (λ (leaves : List Leaf). prints (file_of (listed leaves))) (sym (leaves_of-links_of nodes) ∙ ap (λ (p : Parts). leaves_of p.nodes) is.links)
