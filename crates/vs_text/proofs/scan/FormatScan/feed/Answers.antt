use Rattle.std.proofs.Common.{◌≡◌, ◌++◌, List, ℕ, Option, false, true, refl, ap, sym, subst, ◌∙◌}
use Rattle.std.specs.Option.{option_or}
use Rattle.vs_text.specs.Documents.{last_byte}
use Rattle.vs_text.specs.Scan.{HasScanned, Scanning}
use Rattle.vs_text.specs.contracts.scan.FormatScan.{the_view}
use Rattle.vs_text.specs.declared.format.Format.{Format}
use Rattle.vs_text.specs.declared.scan.FormatScan.TheInside.{Inside}
use Rattle.vs_text.proofs.Scans.{HasScanned-certain, HasScanned-on}
use Rattle.vs_text.proofs.scan.FormatScan.feed.Goals as goal
use Rattle.vs_text.proofs.scan.FormatScan.feed.Goals.{then-not-is_certain, else-not-is_certain}

pub returns : goal.returns
returns c =
    let old = the_view c.self.inside in
    let piece = c.args.piece.now in
    let mid = c.if-not-is_certain.self-inside in
    let new = the_view (record mid { before = c.last_byte-self-inside.result }) in
    let same : old.found ≡ c.args.self.now.found = ap (λ (s : Scanning). s.found) c.self.view_is in
    let reads : (fed : List ℕ) → HasScanned old fed → HasScanned new (fed ++ piece) =
    elim c.if-not-is_certain.branch [
      | then-not-is_certain w ↦
          HasScanned-on old new piece (λ e. let certain : false ≡ true = w.if-not-is_certain.ensures.found.1 (sym same ∙ e) in cc)
          (ap (λ (i : Inside). i.found) w.self-inside-is ∙ (w.or-self-inside.ensures ∙ ap (λ (o : Option Format). option_or o old.found) w.ends_after.ensures))
          (c.last_byte-self-inside.ensures ∙ ap (λ (i : Inside). last_byte i.before piece) w.self-inside-is)
      | else-not-is_certain w ↦
          HasScanned-certain old new piece (same ∙ w.if-not-is_certain.ensures.found.0 refl) (ap (λ (i : Inside). i.found) w.self-inside-is)
          (c.last_byte-self-inside.ensures ∙ ap (λ (i : Inside). last_byte i.before piece) w.self-inside-is)
    ] in
    subst (λ (s : Scanning). (fed : List ℕ) → HasScanned s fed → HasScanned new (fed ++ piece)) c.self.view_is reads
