-- A text that is kept by a call is still the committed one.
use Rattle.std.proofs.Common.{ℕ, List, sym, ◌∙◌}
use Rattle.vs_edit.specs.State.{SameText, TextState}

pub still_committed : (present committed present_now committed_now : TextState) → SameText present committed → SameText present present_now → SameText committed committed_now
    → ((text : List (List ℕ)) → present_now.Is text → present.Is text) → SameText present_now committed_now
still_committed present committed present_now committed_now was kept same back = record {
  text = λ text is. same.text text (was.text text (back text is));
  lines = same.lines ∙ (was.lines ∙ sym kept.lines);
  bytes = same.bytes ∙ (was.bytes ∙ sym kept.bytes);
  worked_by = same.worked_by ∙ (was.worked_by ∙ sym kept.worked_by);
  most = same.most ∙ (was.most ∙ sym kept.most);
}
