-- The steps that are left are those with which the path begins, and the others follow as far as they fit.
use Rattle.std.proofs.Common.{◌≡◌, ℕ, ◌+◌, ◌++◌, ◌∷◌, List, [], Option, Some, None, Result, Ok, Err, IfOk, IfNone, IfSome, OnOk, length, map, reverse, take, sym, ap, ◌∙◌, arith, length-append}
use Rattle.std.proofs.lemmas.List.{length-map, take_all, take_at}
use Rattle.std.proofs.Math.Seq.{take-append-add}
use Rattle.vs_edit.specs.declared.store.LineStore.{Ghosts}
use Rattle.vs_edit.specs.declared.store.StoreErr.{StoreErr}
use Rattle.vs_entries.specs.Entries.{Leads}
use Rattle.vs_undo.specs.declared.parts.Node.{Node}
use Rattle.vs_undo.specs.Edges.{IsLed}
use Rattle.vs_outward.specs.declared.trail.Step.{Step}
use Rattle.vs_outward.specs.Outward.{entries_at}
use Rattle.vs_outward.specs.Trails.{HasBegun, IsBarredBy, IsOnTrail, IsTried}
use Rattle.vs_outward.proofs.GoingLemmas.{after}
use Rattle.vs_outward.proofs.TriedLemmas.{barred_at, tried_barred, tried_whole}
use Rattle.vs_outward.proofs.trail.walk.Goals as goal

module _ (trail : List Step) (path : List ℕ) where
  abbrev crossed : List ℕ
  crossed = map (λ (step : Step). step.number) trail

  count : length crossed ≡ length trail
  count = length-map trail (λ (step : Step). step.number)

  begun_whole : crossed ≡ path → HasBegun trail path
  begun_whole is =
      let same : length trail ≡ length path = sym count ∙ ap length is in
      record { within = omega (arith, same); same = is ∙ sym (take_all (length trail) path (omega (arith, same))) }

  begun_cut : (number : ℕ) (rest : List ℕ) → path ≡ crossed ++ number ∷ rest → HasBegun trail path
  begun_cut number rest is = record {
    within = omega (arith, ap length is, length-append crossed (number ∷ rest), count);
    same = sym (ap (take (length trail)) is ∙ take_at crossed (number ∷ rest) (length trail) count);
  }

  one_more : (number : ℕ) (rest : List ℕ) → path ≡ crossed ++ number ∷ rest → take (length trail + 1) path ≡ crossed ++ number ∷ []
  one_more number rest is =
      ap (λ k. take (k + 1) path) (sym count) ∙ (ap (take (length crossed + 1)) is ∙ take-append-add crossed (number ∷ rest) 1)

module _ {S : Type 0} (g : Ghosts S) (nodes : List Node) (start before now : S) (old began trail : List Step) (path : List ℕ)
    (left : (first : S) → IsOnTrail g nodes first old start → IsOnTrail g nodes first began before) where
  bars : (r : Result (Option ℕ) StoreErr) → OnOk r ((first : S) → IsOnTrail g nodes first began before → IsOnTrail g nodes first trail now)
      → IfOk r (λ o. IfSome o (λ number. (after : List ℕ) × (path ≡ map (λ (step : Step). step.number) trail ++ number ∷ after)))
      → IfOk r (λ o. IfSome o (λ number. (text to : List (List ℕ)) → (g.shows now).present.Is text → IsLed Leads (entries_at nodes number) text to → ⊥))
      → IfOk r (λ o. IfSome o (λ number. (first : S) → IsOnTrail g nodes first old start → (text : List (List ℕ)) → (g.shows first).present.Is text
      → IsBarredBy nodes (reverse (take (length trail + 1) path)) text number))
  bars (Err e) on at refused = tt
  bars (Ok None) on at refused = tt
  bars (Ok (Some number)) on at refused = λ first was.
      barred_at g nodes first trail (take (length trail + 1) path) [] number now (on first (left first was)) (one_more trail path number at.0 at.1) refused

  tries : (r : Result (Option ℕ) StoreErr) → OnOk r ((first : S) → IsOnTrail g nodes first began before → IsOnTrail g nodes first trail now)
      → IfOk r (λ o. IfNone o (map (λ (step : Step). step.number) trail ≡ path))
      → IfOk r (λ o. IfSome o (λ number. (after : List ℕ) × (path ≡ map (λ (step : Step). step.number) trail ++ number ∷ after)))
      → IfOk r (λ o. IfSome o (λ number. (text to : List (List ℕ)) → (g.shows now).present.Is text → IsLed Leads (entries_at nodes number) text to → ⊥))
      → IfOk r (λ o. (first : S) → IsOnTrail g nodes first old start → IsTried g nodes first o (reverse path))
  tries (Err e) on whole at refused = tt
  tries (Ok None) on whole at refused = λ first was. tried_whole g nodes first trail path now (on first (left first was)) whole
  tries (Ok (Some number)) on whole at refused = λ first was.
      tried_barred g nodes first (reverse path) number (barred_at g nodes first trail path at.0 number now (on first (left first was)) at.1 refused)

begins : (trail : List Step) (path : List ℕ) (r : Result (Option ℕ) StoreErr) → IfOk r (λ o. IfNone o (map (λ (step : Step). step.number) trail ≡ path))
    → IfOk r (λ o. IfSome o (λ number. (after : List ℕ) × (path ≡ map (λ (step : Step). step.number) trail ++ number ∷ after))) → OnOk r (HasBegun trail path)
begins trail path (Err e) whole at = tt
begins trail path (Ok None) whole at = begun_whole trail path whole
begins trail path (Ok (Some number)) whole at = begun_cut trail path number at.0 at.1

wholes : (trail : List Step) (path : List ℕ) (r : Result (Option ℕ) StoreErr) → IfOk r (λ o. IfNone o (map (λ (step : Step). step.number) trail ≡ path))
    → IfOk r (λ o. IfNone o (length trail ≡ length path))
wholes trail path (Err e) whole = tt
wholes trail path (Ok None) whole = sym (count trail path) ∙ ap length whole
wholes trail path (Ok (Some number)) whole = tt

pub returns-clause-begun : goal.returns-clause-begun
returns-clause-begun g c = begins c.go_out.new.trail.items c.args.path.now c.go_out.result c.go_out.ensures.whole c.go_out.ensures.barred

pub returns-clause-whole : goal.returns-clause-whole
returns-clause-whole g c = wholes c.go_out.new.trail.items c.args.path.now c.go_out.result c.go_out.ensures.whole

pub returns-clause-tried : goal.returns-clause-tried
returns-clause-tried g c =
    tries g.S.LineStore c.args.nodes.now c.args.store.now c.go_in.new.store c.go_out.new.store c.args.trail.now.items c.go_in.new.trail.items c.go_out.new.trail.items c.args.path.now
    c.in_ok-go_in.ensures.on c.go_out.result c.go_out.ensures.on c.go_out.ensures.whole c.go_out.ensures.barred c.go_out.ensures.refused

pub returns-clause-barred : goal.returns-clause-barred
returns-clause-barred g c =
    bars g.S.LineStore c.args.nodes.now c.args.store.now c.go_in.new.store c.go_out.new.store c.args.trail.now.items c.go_in.new.trail.items c.go_out.new.trail.items c.args.path.now
    c.in_ok-go_in.ensures.on c.go_out.result c.go_out.ensures.on c.go_out.ensures.barred c.go_out.ensures.refused

pub returns-clause-goes_on : goal.returns-clause-goes_on
returns-clause-goes_on g c = after g.met.S.LineStore.stays_on c.in_ok-go_in.ensures.goes_on.kept (c.in_ok-go_in.ensures.goes_on.cause.none (λ failed. absurd (cc))) c.go_out.ensures.goes_on
