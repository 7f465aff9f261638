use Rattle.std.proofs.Common.{◌≡◌, ◌∙◌, ◌++◌, ◌∷◌, [], IsErr, List, ℕ, ap, sym, refl, append_assoc}
use Rattle.std.proofs.lemmas.List.{append-nil}
use Rattle.vs_host.specs.World.{Scene}
use Rattle.vs_tagged.specs.Tagged.{tagged}
use Rattle.vs_tagged.proofs.Lines.{none_left, tagged_first}
use Rattle.vs_tagged.proofs.Writes.{calm_by, failed_by, is_err_on, puts_as, puts_cut, puts_done, puts_none, puts_then}
use Rattle.vs_tagged.proofs.put.put_tagged.Goals as goal

pub lines-init : goal.lines-init
lines-init g c = record { done = []; is = refl; puts = puts_none g.O.World.tells ⊥ (g.O.World.scene c.args.host.now) (λ f. f) }

pub lines-preserved : goal.lines-preserved
lines-preserved g c =
    let tag : List ℕ = c.args.tag.now in
    let line : List ℕ = c.first_line.result.0.now in
    let more : List ℕ = c.first_line.result.1.now in
    let piece : List ℕ = tag ++ (line ++ 10 ∷ []) in
    let s0 : Scene = g.O.World.scene c.args.host.now in
    let s1 : Scene = g.O.World.scene c.lines.host in
    let s2 : Scene = g.O.World.scene c.put_line.new.host in
    let had = c.lines.invariant in
    let calm = calm_by c.put_line.result c.in_ok-put_line.field-0 c.in_ok-put_line.was in
    record {
      done = had.done ++ piece;
      is = had.is ∙ ap (λ (l : List ℕ). had.done ++ l) (tagged_first tag c.lines.rest.now line more c.first_line.ensures.lines) ∙ sym (append_assoc had.done piece (tagged tag more));
      puts = puts_then g.O.World.tells had.done piece ⊥ ⊥ s0 s1 s2 (λ f. f) had.puts
          (puts_as g.O.World.tells piece piece (IsErr c.put_line.result) ⊥ s1 s2 refl calm (λ f. absurd f) c.put_line.ensures);
    }

pub returns-in_err-put_line : goal.returns-in_err-put_line
returns-in_err-put_line g c =
    let tag : List ℕ = c.args.tag.now in
    let line : List ℕ = c.first_line.result.0.now in
    let more : List ℕ = c.first_line.result.1.now in
    let piece : List ℕ = tag ++ (line ++ 10 ∷ []) in
    let s0 : Scene = g.O.World.scene c.args.host.now in
    let s1 : Scene = g.O.World.scene c.lines.host in
    let s2 : Scene = g.O.World.scene c.put_line.new.host in
    let had = c.lines.invariant in
    let failed = failed_by c.put_line.result c.in_err-put_line.field-0.0 c.in_err-put_line.was in
    let fails = is_err_on c.from_residual.result _ c.from_residual.ensures.1 in
    let cut = puts_cut g.O.World.tells piece (tagged tag more) (IsErr c.put_line.result) (IsErr c.from_residual.result) s1 s2 failed fails c.put_line.ensures in
    let is = had.is ∙ ap (λ (l : List ℕ). had.done ++ l) (tagged_first tag c.lines.rest.now line more c.first_line.ensures.lines) in
    puts_as g.O.World.tells (had.done ++ (piece ++ tagged tag more)) (tagged tag c.args.reply.now) (IsErr c.from_residual.result) (IsErr c.from_residual.result) s0 s2 (sym is)
    (λ f. f) (λ f. f) (puts_then g.O.World.tells had.done (piece ++ tagged tag more) ⊥ (IsErr c.from_residual.result) s0 s1 s2 (λ f. f) had.puts cut)

pub returns : goal.returns
returns g c =
    let tag : List ℕ = c.args.tag.now in
    let s0 : Scene = g.O.World.scene c.args.host.now in
    let s1 : Scene = g.O.World.scene c.lines.host in
    let had = c.lines.invariant in
    let none : c.lines.rest.now ≡ [] = none_left c.lines.rest.now c.lines-test.ensures in
    puts_done g.O.World.tells had.done (tagged tag c.args.reply.now) s0 s1
    (sym (had.is ∙ ap (λ (l : List ℕ). had.done ++ tagged tag l) none ∙ append-nil had.done)) had.puts
