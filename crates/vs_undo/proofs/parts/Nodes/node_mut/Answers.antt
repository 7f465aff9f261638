use Rattle.std.proofs.Common.{ap, sym, ◌∙◌, refl, set}
use Rattle.std.specs.Prelude.{slice_index_or}
use Rattle.std.proofs.lemmas.List.{drop-set-add, get_or-drop}
use Rattle.vs_undo.proofs.parts.Nodes.node_mut.Goals as goal

pub returns : goal.returns
returns c =
    let gone = c.self.inside.gone in
    let items = c.self.inside.list.items in (
      (refl, λ left. drop-set-add gone items c.args.place left ∙ ap (λ ns. set ns c.args.place left) c.self.view_is),
      record {
        writes_back = tt;
        value =
            c.index_mut.ensures.value ∙ (sym (get_or-drop gone items c.args.place c.index_mut.result.now)
            ∙ ap (λ ns. slice_index_or ns c.args.place c.index_mut.result.now) c.self.view_is);
      },
    )
