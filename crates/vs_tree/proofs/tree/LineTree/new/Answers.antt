use Rattle.std.proofs.Common.{[], ◌∷◌, refl, sym, subst, arith}
use Rattle.vs_pages.specs.Maps.{Map}
use Rattle.vs_tree_shape.specs.Trees.{HasLines}
use Rattle.vs_tree_blocks.specs.Blocks.{tree_format}
use Rattle.vs_tree.specs.Texts.{HasText}
use Rattle.vs_tree.specs.declared.texts.Extent.{Extent}
use Rattle.vs_tree.proofs.tree.LineTree.new.Goals as goal

-- the text without lines
abbrev none : Extent
none = record { height = 1; lines = 0; bytes = 0 }

nothing_text : (m : Map) → HasLines tree_format m 1 ([] ∷ []) → HasText m none []
nothing_text m has = record {
  tree = has;
  lines = refl;
  bytes = refl;
  is_text = λ k d lt. absurd (omega arith);
  within = record { short_lines = λ k d lt. absurd (omega arith); few_lines = omega arith; few_bytes = omega arith };
}

pub returns-clause-fits : goal.returns-clause-fits
returns-clause-fits g c =
    let H : Map → Type 0 = λ m. HasText m none [] in (
      record {
        few = omega arith;
        few_bytes = omega arith;
        one = λ told. ([], subst H (sym (c.commit.ensures.present told)) (nothing_text _ (c.in_ok-write_first.ensures.wrote told)));
      },
      record {
        few = omega arith;
        few_bytes = omega arith;
        one = λ told. ([], subst H (sym (c.commit.ensures.committed told)) (nothing_text _ (c.in_ok-write_first.ensures.wrote told)));
      },
    )
