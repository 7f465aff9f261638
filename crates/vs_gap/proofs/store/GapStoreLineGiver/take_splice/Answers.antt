-- The lines are held, and exchanged. What was committed is kept before, and stands in the same lines of the store below.
use Rattle.std.proofs.Common.{◌≡◌, ℕ, List, Option, Some, refl, subst, sym}
use Rattle.vs_edit.specs.State.{SameText, TextState}
use Rattle.vs_edit.proofs.Steps.{IsSpliced-after, SameText-refl, SameText-trans}
use Rattle.vs_gap.specs.declared.held.Held.{Held}
use Rattle.vs_gap.specs.Held.{HoldsMore, IsHeld, committed_of, shown}
use Rattle.vs_gap.proofs.GapLemmas.{on_err}
use Rattle.vs_gap.proofs.HeldLemmas.{allows-more, held-exchanged, held-more, held-same, shown-exchanged, shown-more, shown-same, spliced-same, told-before}
use Rattle.vs_gap.proofs.store.GapStoreLineGiver.take_splice.Goals as goal

-- the lines that were committed are kept, while the store below is read
module _ (below later : TextState) (same : SameText below later) (now kept : Held) (committed : Option Held) (is : committed ≡ Some kept) where
  held-kept : ((text : List (List ℕ)) → later.Is text → below.Is text) → IsHeld below kept → IsHeld later (committed_of now committed)
  held-kept back held = subst (λ (o : Option Held). IsHeld later (committed_of now o)) (sym is) (held-same below later kept same back held)

  shown-kept : SameText (shown below kept) (shown later (committed_of now committed))
  shown-kept = subst (λ (o : Option Held). SameText (shown below kept) (shown later (committed_of now o))) (sym is) (shown-same below later kept same)

pub returns-in_err-keep_committed-clause-same : goal.returns-in_err-keep_committed-clause-same
returns-in_err-keep_committed-clause-same g c =
    let was = c.args.self.now in
    let below = (g.S.LineStore.shows was.below.now).present in
    on_err c.from_residual.result (subst (λ (h : Held). SameText (shown below was.overlay.now.present) (shown below h)) (sym c.in_err-keep_committed.ensures.present) SameText-refl)

pub returns-in_err-keep_committed-clause-kept : goal.returns-in_err-keep_committed-clause-kept
returns-in_err-keep_committed-clause-kept g c =
    let law = g.met.S.LineStore in
    let was = c.args.self.now in
    let below = (g.S.LineStore.shows was.below.now).present in
    let present = sym c.in_err-keep_committed.ensures.present in
    let committed = sym c.in_err-keep_committed.ensures.err in
    let kept = committed_of was.overlay.now.present was.overlay.now.committed in
    record {
      valid = (
        c.requires.valid.0,
        subst (λ (h : Held). IsHeld below h) present c.requires.valid.1,
        subst (λ (o : Option Held). IsHeld below (committed_of c.keep_committed.new.self.present o)) committed
            (subst (λ (h : Held). IsHeld below (committed_of h was.overlay.now.committed)) present c.requires.valid.2),
      );
      stays = (refl, law.stays_itself was.below.now, SameText-refl, SameText-refl);
      committed = subst (λ (o : Option Held). SameText (shown below kept) (shown below (committed_of c.keep_committed.new.self.present o))) committed
          (subst (λ (h : Held). SameText (shown below kept) (shown below (committed_of h was.overlay.now.committed))) present SameText-refl);
    }

pub returns-in_err-hold-clause-same : goal.returns-in_err-hold-clause-same
returns-in_err-hold-clause-same g c =
    let was = c.args.self.now in
    let below = (g.S.LineStore.shows was.below.now).present in
    let later = (g.S.LineStore.shows c.hold.new.below).present in
    let held = c.hold.new.held in
    let more = subst (λ (h : Held). HoldsMore below h held) c.in_ok-keep_committed.ensures.present c.hold.ensures.more in
    on_err c.from_residual-in_err-hold.result
    (SameText-trans (shown-more below was.overlay.now.present held c.requires.valid.1 more) (shown-same below later held c.hold.ensures.kept.present))

pub returns-in_err-hold-clause-kept : goal.returns-in_err-hold-clause-kept
returns-in_err-hold-clause-kept g c =
    let law = g.met.S.LineStore in
    let was = c.args.self.now in
    let below = (g.S.LineStore.shows was.below.now).present in
    let later = (g.S.LineStore.shows c.hold.new.below).present in
    let held = c.hold.new.held in
    let reads = c.hold.ensures.kept in
    let more = subst (λ (h : Held). HoldsMore below h held) c.in_ok-keep_committed.ensures.present c.hold.ensures.more in
    let back = told-before below.Is later.Is (law.tells_one was.below.now c.requires.valid.0) (law.has_told c.hold.new.below) (law.has_one c.hold.new.below) reads.present.text in
    let kept = committed_of was.overlay.now.present was.overlay.now.committed in
    record {
      valid = (
        reads.valid,
        held-same below later held reads.present back (held-more below was.overlay.now.present held c.requires.valid.1 more),
        held-kept below later reads.present held kept _ c.in_ok-keep_committed.ensures.ok back c.requires.valid.2,
      );
      stays = (refl, reads.stays, reads.present, reads.committed);
      committed = shown-kept below later reads.present held kept _ c.in_ok-keep_committed.ensures.ok;
    }

pub returns-in_err-exchange-clause-same : goal.returns-in_err-exchange-clause-same
returns-in_err-exchange-clause-same g c =
    let was = c.args.self.now in
    let below = (g.S.LineStore.shows was.below.now).present in
    let later = (g.S.LineStore.shows c.hold.new.below).present in
    let held = c.hold.new.held in
    let more = subst (λ (h : Held). HoldsMore below h held) c.in_ok-keep_committed.ensures.present c.in_ok-hold.ensures.more in
    on_err c.from_residual-in_err-exchange.result
    (subst (λ (h : Held). SameText (shown below was.overlay.now.present) (shown later h)) (sym c.in_err-exchange.ensures.err)
    (SameText-trans (shown-more below was.overlay.now.present held c.requires.valid.1 more) (shown-same below later held c.in_ok-hold.ensures.kept.present)))

pub returns-in_err-exchange-clause-kept : goal.returns-in_err-exchange-clause-kept
returns-in_err-exchange-clause-kept g c =
    let law = g.met.S.LineStore in
    let was = c.args.self.now in
    let below = (g.S.LineStore.shows was.below.now).present in
    let later = (g.S.LineStore.shows c.hold.new.below).present in
    let held = c.hold.new.held in
    let reads = c.in_ok-hold.ensures.kept in
    let more = subst (λ (h : Held). HoldsMore below h held) c.in_ok-keep_committed.ensures.present c.in_ok-hold.ensures.more in
    let back = told-before below.Is later.Is (law.tells_one was.below.now c.requires.valid.0) (law.has_told c.hold.new.below) (law.has_one c.hold.new.below) reads.present.text in
    let kept = committed_of was.overlay.now.present was.overlay.now.committed in
    record {
      valid = (
        reads.valid,
        subst (λ (h : Held). IsHeld later h) (sym c.in_err-exchange.ensures.err)
            (held-same below later held reads.present back (held-more below was.overlay.now.present held c.requires.valid.1 more)),
        held-kept below later reads.present c.exchange.new.self kept _ c.in_ok-keep_committed.ensures.ok back c.requires.valid.2,
      );
      stays = (refl, reads.stays, reads.present, reads.committed);
      committed = shown-kept below later reads.present c.exchange.new.self kept _ c.in_ok-keep_committed.ensures.ok;
    }

pub returns-clause-ok : goal.returns-clause-ok
returns-clause-ok g c =
    let was = c.args.self.now in
    let below = (g.S.LineStore.shows was.below.now).present in
    let later = (g.S.LineStore.shows c.hold.new.below).present in
    let held = c.hold.new.held in
    let more = subst (λ (h : Held). HoldsMore below h held) c.in_ok-keep_committed.ensures.present c.in_ok-hold.ensures.more in
    let allowed = allows-more below was.overlay.now.present held c.args.top c.args.old c.args.new.items c.requires.valid.1 more c.requires.allowed in
    spliced-same
    (IsSpliced-after (shown-more below was.overlay.now.present held c.requires.valid.1 more)
    (shown-exchanged below held c.exchange.new.self c.args.top c.args.old c.args.new.items c.in_ok-hold.ensures.from c.in_ok-hold.ensures.to c.in_ok-exchange.ensures.ok
    (held-more below was.overlay.now.present held c.requires.valid.1 more) allowed))
    (shown-same below later c.exchange.new.self c.in_ok-hold.ensures.kept.present)

pub returns-clause-kept : goal.returns-clause-kept
returns-clause-kept g c =
    let law = g.met.S.LineStore in
    let was = c.args.self.now in
    let below = (g.S.LineStore.shows was.below.now).present in
    let later = (g.S.LineStore.shows c.hold.new.below).present in
    let held = c.hold.new.held in
    let reads = c.in_ok-hold.ensures.kept in
    let more = subst (λ (h : Held). HoldsMore below h held) c.in_ok-keep_committed.ensures.present c.in_ok-hold.ensures.more in
    let back = told-before below.Is later.Is (law.tells_one was.below.now c.requires.valid.0) (law.has_told c.hold.new.below) (law.has_one c.hold.new.below) reads.present.text in
    let allowed = allows-more below was.overlay.now.present held c.args.top c.args.old c.args.new.items c.requires.valid.1 more c.requires.allowed in
    let present =
    held-exchanged below held c.exchange.new.self c.args.top c.args.old c.args.new.items c.in_ok-hold.ensures.from c.in_ok-hold.ensures.to c.in_ok-exchange.ensures.ok
    (held-more below was.overlay.now.present held c.requires.valid.1 more) allowed in
    let kept = committed_of was.overlay.now.present was.overlay.now.committed in
    record {
      valid = (
        reads.valid,
        held-same below later c.exchange.new.self reads.present back present,
        held-kept below later reads.present c.exchange.new.self kept _ c.in_ok-keep_committed.ensures.ok back c.requires.valid.2,
      );
      stays = (refl, reads.stays, reads.present, reads.committed);
      committed = shown-kept below later reads.present c.exchange.new.self kept _ c.in_ok-keep_committed.ensures.ok;
    }
