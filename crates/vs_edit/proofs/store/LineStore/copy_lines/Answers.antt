-- Each turn adds the file form of one line more.
use Rattle.std.proofs.Common.{◌≡◌, ◌∙◌, ◌+◌, ◌++◌, ◌<◌, [], ◌∷◌, List, ℕ, ap, subst, sym, get_or, length, arith}
use Rattle.vs_text.specs.Text.{file_of}
use Rattle.vs_edit.specs.Splices.{cut_out, HoldsLines}
use Rattle.vs_edit.proofs.FileForm.{file_of-more, cut_out-more, holds_more}
use Rattle.vs_edit.proofs.Steps.{OnlyReads-trans}
use Rattle.vs_edit.proofs.store.LineStore.copy_lines.Goals as goal

-- the file form of the lines so far, with one more
copied_more : (text : List (List ℕ)) (at i : ℕ) (into line new : List ℕ) → at + i < length text → new ≡ (into ++ line) ++ 10 ∷ [] → into ≡ file_of (cut_out text at i) → line ≡ get_or text (at + i) []
    → new ≡ file_of (cut_out text at (i + 1))
copied_more text at i into line new within grown before is =
    grown
    ∙ (ap (λ (first : List ℕ). (first ++ line) ++ 10 ∷ []) before
    ∙ (ap (λ (last : List ℕ). (file_of (cut_out text at i) ++ last) ++ 10 ∷ []) is
    ∙ (file_of-more (cut_out text at i) (get_or text (at + i) []) ∙ ap file_of (cut_out-more text at i within))))

-- what was copied, with a line and its end
grown : (into line first second new : List ℕ) → first ≡ into ++ second → second ≡ line → new ≡ first ++ 10 ∷ [] → new ≡ (into ++ line) ++ 10 ∷ []
grown into line first second new one two three = three ∙ ap (λ (bytes : List ℕ). bytes ++ 10 ∷ []) (one ∙ ap (λ (last : List ℕ). into ++ last) two)

pub loop-i-preserved : goal.loop-i-preserved
loop-i-preserved g c =
    let law = g.met.Self.LineStore in
    let i = c.loop-i.i in
    let before = c.loop-i.invariant in
    let read = c.in_ok-line.ensures in
    let bytes = grown c.loop-i.into.items c.line.new.into.items _ _ c.push.new.self.items c.in_ok-extend_from_slice.ensures.items c.deref.ensures.value c.in_ok-push.ensures.items in
    record {
      lines = λ text has.
          let kept = before.kept.present.text text has in
          let within : c.args.at + i < length text = omega (arith, law.has_lines c.args.self.now text has) in
          copied_more text c.args.at i c.loop-i.into.items c.line.new.into.items c.push.new.self.items within bytes (before.lines text has) (read.line text kept);
      are_lines = subst (HoldsLines (i + 1)) (sym bytes) (holds_more c.line.new.into.items before.are_lines read.is_line read.is_short);
      kept = OnlyReads-trans law.stays_on before.kept read.kept;
      faults = read.cause.none (λ failed. absurd (cc)) ∙ before.faults;
    }
