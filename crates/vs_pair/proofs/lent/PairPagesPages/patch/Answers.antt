use Rattle.std.proofs.Common.{IsTrue, IsSome, subst, [], ◌≡◌, List, ℕ, Option, Some, length, refl, sym, ap, ◌∙◌, arith}
use Rattle.vs_host.specs.World.{Scene}
use Rattle.vs_pages.specs.Maps.{patched, put}
use Rattle.vs_pages.specs.Memory.{kept_of, present_under, state_under}
use Rattle.vs_bytes.proofs.FieldLaws.{length-with_field}
use Rattle.vs_pages.specs.State.{PageState, history_of}
use Rattle.vs_pages.specs.declared.memory.MemPages.{MemPages}
use Rattle.vs_pages.proofs.CellLemmas.{shown_there}
use Rattle.vs_pages.proofs.MapsLemmas.{pages_at-one}
use Rattle.vs_pages.proofs.Pasts.{same_kept, same_present, same_still}
use Rattle.vs_pair.specs.Lent.{IsReady}
use Rattle.vs_pair.specs.LentLaws.{keeps_none, keeps_then}
use Rattle.vs_pair.specs.Pair.{away_of, shown_in}
use Rattle.vs_pair.proofs.AwayLemmas.{not_both, one_there, there_one}
use Rattle.vs_pair.proofs.Calls.{on_err_from}
use Rattle.vs_pair.proofs.Lending.{damaged_cause, damaged_shown, damaged_still, keeps_damaged, from_change, from_grown, from_still, keeps_moved, keeps_with, moved_change, moved_still, calm_cause, no_fault, one_cause, same_shown_still, ready_moved, ready_with, shown_moved}
use Rattle.vs_pair.proofs.ReadLemmas.{failed_same, not_failed, not_ok_failed, same_failed}
use Rattle.vs_pair.proofs.lent.PairPagesPages.patch.Goals as goal

pub patch_place-requires-clause-there : goal.patch_place-requires-clause-there
patch_place-requires-clause-there g c = one_there (kept_of c.args.self.now.pair.now.pages) c.args.at (c.has_places.ensures.0 c.if-not-has_places.false)

pub patch_place-requires-clause-here : goal.patch_place-requires-clause-here
patch_place-requires-clause-here g c = sym c.is_away.ensures ∙ c.if-not-is_away.true

pub returns-in_err-patch_place-clause-err : goal.returns-in_err-patch_place-clause-err
returns-in_err-patch_place-clause-err g c = on_err_from c.from_residual.result _ (λ told. same_present (away_of c.args.self.now.pair.now.files (g.F.World.scene c.args.self.now.host.now).folder) c.args.self.now.pair.now.pages c.patch_place.new.self c.in_err-patch_place.ensures.err)

pub returns-in_err-patch_place-clause-still : goal.returns-in_err-patch_place-clause-still
returns-in_err-patch_place-clause-still g c = on_err_from c.from_residual.result _ (moved_still g.F.World.tells (away_of c.args.self.now.pair.now.files (g.F.World.scene c.args.self.now.host.now).folder) c.args.self.now.pair.now.pages c.patch_place.new.self _ _ (same_still (away_of c.args.self.now.pair.now.files (g.F.World.scene c.args.self.now.host.now).folder) c.args.self.now.pair.now.pages c.patch_place.new.self c.in_err-patch_place.ensures.err))

pub returns-in_err-patch_place-clause-kept : goal.returns-in_err-patch_place-clause-kept
returns-in_err-patch_place-clause-kept g c =
    let kept = same_kept (away_of c.args.self.now.pair.now.files (g.F.World.scene c.args.self.now.host.now).folder) c.args.self.now.pair.now.pages c.patch_place.new.self c.in_err-patch_place.ensures.err in
    record {
      valid = λ told. ready_with c.args.self.now.pair.now c.patch_place.new.self _ kept.stays (c.requires.valid told);
      stays = (refl, refl, keeps_with g.F.World.tells c.args.self.now.pair.now c.patch_place.new.self (g.F.World.scene c.args.self.now.host.now) c.requires.valid kept.stays);
      committed = λ told. kept.committed refl;
      commits = λ told. kept.commits refl;
      longer = kept.longer;
      grown = λ told. kept.grown refl;
    }

pub returns-in_err-patch_place-clause-cause : goal.returns-in_err-patch_place-clause-cause
returns-in_err-patch_place-clause-cause g c = no_fault _ _ _ (λ failed. not_failed c.from_residual.result c.from_residual.ensures.1 failed)

pub returns-then-not-is_away-clause-ok : goal.returns-then-not-is_away-clause-ok
returns-then-not-is_away-clause-ok g c = λ told. c.in_ok-patch_place.ensures.ok.present (away_of c.args.self.now.pair.now.files (g.F.World.scene c.args.self.now.host.now).folder)

pub returns-then-not-is_away-clause-change : goal.returns-then-not-is_away-clause-change
returns-then-not-is_away-clause-change g c = moved_change g.F.World.tells (away_of c.args.self.now.pair.now.files (g.F.World.scene c.args.self.now.host.now).folder) c.args.self.now.pair.now.pages c.patch_place.new.self _ _ _ (c.in_ok-patch_place.ensures.ok.moved (away_of c.args.self.now.pair.now.files (g.F.World.scene c.args.self.now.host.now).folder))

pub returns-then-not-is_away-clause-kept : goal.returns-then-not-is_away-clause-kept
returns-then-not-is_away-clause-kept g c =
    let kept = c.in_ok-patch_place.ensures.ok.kept (away_of c.args.self.now.pair.now.files (g.F.World.scene c.args.self.now.host.now).folder) in
    record {
      valid = λ told. ready_with c.args.self.now.pair.now c.patch_place.new.self _ kept.stays (c.requires.valid told);
      stays = (refl, refl, keeps_with g.F.World.tells c.args.self.now.pair.now c.patch_place.new.self (g.F.World.scene c.args.self.now.host.now) c.requires.valid kept.stays);
      committed = λ told. kept.committed refl;
      commits = λ told. kept.commits refl;
      longer = kept.longer;
      grown = λ told. kept.grown refl;
    }

pub returns-then-not-is_away-clause-cause : goal.returns-then-not-is_away-clause-cause
returns-then-not-is_away-clause-cause g c = no_fault _ _ _ (λ failed. cc failed)

pub read_pages-requires-clause-there : goal.read_pages-requires-clause-there
read_pages-requires-clause-there g c = c.has_places.ensures.0 c.if-not-has_places.false

pub read_pages-requires-clause-stored : goal.read_pages-requires-clause-stored
read_pages-requires-clause-stored g c told = (c.requires.valid told).stored

pub returns-in_err-read_pages-clause-cause : goal.returns-in_err-read_pages-clause-cause
returns-in_err-read_pages-clause-cause g c =
    let made = c.read_pages.ensures in
    let up = failed_same c.from_residual-in_err-read_pages.result c.read_pages.result _ c.in_err-read_pages.was c.from_residual-in_err-read_pages.ensures.1 in
    let down = same_failed c.from_residual-in_err-read_pages.result c.read_pages.result _ c.in_err-read_pages.was c.from_residual-in_err-read_pages.ensures.1 in
    one_cause _ _ _ _ (record { later = made.reads.cause.later; risen = λ failed. made.reads.cause.risen (down failed) })
    (λ calm. (made.calm (λ failed. calm (up failed))).faults) (λ failed. made.last (down failed))

pub returns-in_err-put_place-clause-err : goal.returns-in_err-put_place-clause-err
returns-in_err-put_place-clause-err g c =
    let made = c.read_pages.ensures in
    let folder = ap (λ (s : Scene). s.folder) made.reads.frame in
    let shown = shown_moved c.args.self.now.pair.now c.read_pages.new.self made.pages made.files _ (g.F.World.scene c.read_pages.new.host).folder folder in
    on_err_from c.from_residual-in_err-put_place.result _ (λ told. same_present (away_of c.read_pages.new.self.files (g.F.World.scene c.read_pages.new.host).folder) c.read_pages.new.self.pages c.put_place.new.self c.in_err-put_place.ensures.err ∙ ap (λ (s : PageState). s.present) shown)

pub returns-in_err-put_place-clause-still : goal.returns-in_err-put_place-clause-still
returns-in_err-put_place-clause-still g c =
    let made = c.read_pages.ensures in
    let folder = ap (λ (s : Scene). s.folder) made.reads.frame in
    let shown = shown_moved c.args.self.now.pair.now c.read_pages.new.self made.pages made.files _ (g.F.World.scene c.read_pages.new.host).folder folder in
    on_err_from c.from_residual-in_err-put_place.result _ (from_still g.F.World.tells _ _ _ _ _ shown (same_still (away_of c.read_pages.new.self.files (g.F.World.scene c.read_pages.new.host).folder) c.read_pages.new.self.pages c.put_place.new.self c.in_err-put_place.ensures.err))

pub returns-in_err-put_place-clause-kept : goal.returns-in_err-put_place-clause-kept
returns-in_err-put_place-clause-kept g c =
    let made = c.read_pages.ensures in
    let folder = ap (λ (s : Scene). s.folder) made.reads.frame in
    let shown = shown_moved c.args.self.now.pair.now c.read_pages.new.self made.pages made.files _ (g.F.World.scene c.read_pages.new.host).folder folder in
    let ready : IsTrue g.F.World.tells.folder → IsReady c.read_pages.new.self (g.F.World.scene c.read_pages.new.host).folder = λ told. ready_moved c.args.self.now.pair.now c.read_pages.new.self made.pages made.files _ (g.F.World.scene c.read_pages.new.host).folder folder (made.cached told) (c.requires.valid told) in
    let kept = same_kept (away_of c.read_pages.new.self.files (g.F.World.scene c.read_pages.new.host).folder) c.read_pages.new.self.pages c.put_place.new.self c.in_err-put_place.ensures.err in
    record {
      valid = λ told. ready_with c.read_pages.new.self c.put_place.new.self _ kept.stays (ready told);
      stays = (refl, refl, keeps_then g.F.World.tells c.args.self.now.pair.now c.read_pages.new.self _ (g.F.World.scene c.args.self.now.host.now) (g.F.World.scene c.read_pages.new.host) (g.F.World.scene c.read_pages.new.host) (keeps_moved c.args.self.now.pair.now c.read_pages.new.self made.pages made.files g.F.World.tells _ _ _ _ made.reads) (keeps_with g.F.World.tells c.read_pages.new.self c.put_place.new.self (g.F.World.scene c.read_pages.new.host) ready kept.stays));
      committed = λ told. kept.committed refl ∙ ap (λ (s : PageState). s.committed) shown;
      commits = λ told. kept.commits refl ∙ ap (λ (s : PageState). s.commits) shown;
      longer = omega (arith, kept.longer, ap (λ (s : PageState). length s.before) shown);
      grown = λ told. from_grown (shown_in c.args.self.now.pair.now (g.F.World.scene c.args.self.now.host.now).folder) (shown_in c.read_pages.new.self (g.F.World.scene c.read_pages.new.host).folder) (state_under (away_of c.read_pages.new.self.files (g.F.World.scene c.read_pages.new.host).folder) c.put_place.new.self) shown (kept.grown refl);
    }

pub returns-clause-change : goal.returns-clause-change
returns-clause-change g c =
    let made = c.read_pages.ensures in
    let folder = ap (λ (s : Scene). s.folder) made.reads.frame in
    let shown = shown_moved c.args.self.now.pair.now c.read_pages.new.self made.pages made.files _ (g.F.World.scene c.read_pages.new.host).folder folder in
    from_change g.F.World.tells _ _ _ _ _ _ shown (c.in_ok-put_place.ensures.ok.moved (away_of c.read_pages.new.self.files (g.F.World.scene c.read_pages.new.host).folder))

pub returns-clause-kept : goal.returns-clause-kept
returns-clause-kept g c =
    let made = c.read_pages.ensures in
    let folder = ap (λ (s : Scene). s.folder) made.reads.frame in
    let shown = shown_moved c.args.self.now.pair.now c.read_pages.new.self made.pages made.files _ (g.F.World.scene c.read_pages.new.host).folder folder in
    let ready : IsTrue g.F.World.tells.folder → IsReady c.read_pages.new.self (g.F.World.scene c.read_pages.new.host).folder = λ told. ready_moved c.args.self.now.pair.now c.read_pages.new.self made.pages made.files _ (g.F.World.scene c.read_pages.new.host).folder folder (made.cached told) (c.requires.valid told) in
    let kept = c.in_ok-put_place.ensures.ok.kept (away_of c.read_pages.new.self.files (g.F.World.scene c.read_pages.new.host).folder) in
    record {
      valid = λ told. ready_with c.read_pages.new.self c.put_place.new.self _ kept.stays (ready told);
      stays = (refl, refl, keeps_then g.F.World.tells c.args.self.now.pair.now c.read_pages.new.self _ (g.F.World.scene c.args.self.now.host.now) (g.F.World.scene c.read_pages.new.host) (g.F.World.scene c.read_pages.new.host) (keeps_moved c.args.self.now.pair.now c.read_pages.new.self made.pages made.files g.F.World.tells _ _ _ _ made.reads) (keeps_with g.F.World.tells c.read_pages.new.self c.put_place.new.self (g.F.World.scene c.read_pages.new.host) ready kept.stays));
      committed = λ told. kept.committed refl ∙ ap (λ (s : PageState). s.committed) shown;
      commits = λ told. kept.commits refl ∙ ap (λ (s : PageState). s.commits) shown;
      longer = omega (arith, kept.longer, ap (λ (s : PageState). length s.before) shown);
      grown = λ told. from_grown (shown_in c.args.self.now.pair.now (g.F.World.scene c.args.self.now.host.now).folder) (shown_in c.read_pages.new.self (g.F.World.scene c.read_pages.new.host).folder) (state_under (away_of c.read_pages.new.self.files (g.F.World.scene c.read_pages.new.host).folder) c.put_place.new.self) shown (kept.grown refl);
    }

pub damaged-requires : goal.damaged-requires
damaged-requires g c told = not_both c.has_places.result (c.has_places.ensures.1 (there_one (kept_of c.args.self.now.pair.now.pages) c.args.at (shown_there ((away_of c.args.self.now.pair.now.files (g.F.World.scene c.args.self.now.host.now).folder) c.args.at) (kept_of c.args.self.now.pair.now.pages c.args.at) (c.requires.there told)))) c.if-not-has_places.true

pub returns-then-not-has_places-clause-still : goal.returns-then-not-has_places-clause-still
returns-then-not-has_places-clause-still g c = damaged_still g.F.World.tells (g.F.World.scene c.args.self.now.host.now) (g.F.World.scene c.damaged.new.self) (λ told. not_both c.has_places.result (c.has_places.ensures.1 (there_one (kept_of c.args.self.now.pair.now.pages) c.args.at (shown_there ((away_of c.args.self.now.pair.now.files (g.F.World.scene c.args.self.now.host.now).folder) c.args.at) (kept_of c.args.self.now.pair.now.pages c.args.at) (c.requires.there told)))) c.if-not-has_places.true) c.damaged.ensures.frame c.args.self.now.pair.now

pub returns-then-not-has_places-clause-kept : goal.returns-then-not-has_places-clause-kept
returns-then-not-has_places-clause-kept g c =
    let silent : IsTrue g.F.World.tells.folder → ⊥ = λ told. not_both c.has_places.result (c.has_places.ensures.1 (there_one (kept_of c.args.self.now.pair.now.pages) c.args.at (shown_there ((away_of c.args.self.now.pair.now.files (g.F.World.scene c.args.self.now.host.now).folder) c.args.at) (kept_of c.args.self.now.pair.now.pages c.args.at) (c.requires.there told)))) c.if-not-has_places.true in
    record {
      valid = λ told. absurd (silent told);
      stays = (refl, refl, keeps_damaged g.F.World.tells c.args.self.now.pair.now (g.F.World.scene c.args.self.now.host.now) (g.F.World.scene c.damaged.new.self) silent c.damaged.ensures.frame);
      committed = λ told. absurd (silent told);
      commits = λ told. absurd (silent told);
      longer = let same = damaged_shown g.F.World.tells (g.F.World.scene c.args.self.now.host.now) (g.F.World.scene c.damaged.new.self) silent c.damaged.ensures.frame c.args.self.now.pair.now in omega (arith, ap (λ (s : PageState). length s.before) same);
      grown = λ told. absurd (silent told);
    }

pub returns-then-not-has_places-clause-cause : goal.returns-then-not-has_places-clause-cause
returns-then-not-has_places-clause-cause g c = damaged_cause g.F.World.tells (g.F.World.scene c.args.self.now.host.now) (g.F.World.scene c.damaged.new.self) (λ told. not_both c.has_places.result (c.has_places.ensures.1 (there_one (kept_of c.args.self.now.pair.now.pages) c.args.at (shown_there ((away_of c.args.self.now.pair.now.files (g.F.World.scene c.args.self.now.host.now).folder) c.args.at) (kept_of c.args.self.now.pair.now.pages c.args.at) (c.requires.there told)))) c.if-not-has_places.true) c.damaged.ensures.frame _ c.damaged.ensures.later c.damaged.ensures.rose refl

pub put_place-requires-clause-there : goal.put_place-requires-clause-there
put_place-requires-clause-there g c = subst (λ (m : MemPages). IsSome (kept_of m c.args.at)) (sym c.read_pages.ensures.pages) (one_there (kept_of c.args.self.now.pair.now.pages) c.args.at (c.has_places.ensures.0 c.if-not-has_places.false))

pub write_over-requires : goal.write_over-requires
write_over-requires g c = omega (arith, c.requires.within, c.in_ok-read_pages.ensures.size)

pub put_place-requires-clause-size : goal.put_place-requires-clause-size
put_place-requires-clause-size g c = ap (λ (b : List ℕ). length b) c.write_over.ensures ∙ length-with_field c.read_pages.new.into.items c.args.from c.args.bytes.now (omega (arith, c.requires.within, c.in_ok-read_pages.ensures.size)) ∙ omega (arith, c.in_ok-read_pages.ensures.size)

pub returns-in_err-page-clause-kept : goal.returns-in_err-page-clause-kept
returns-in_err-page-clause-kept g c = record { valid = c.requires.valid; stays = (refl, refl, keeps_none g.F.World.tells c.args.self.now.pair.now (g.F.World.scene c.args.self.now.host.now)); committed = λ told. refl; commits = λ told. refl; longer = omega arith; grown = λ told. ([], refl) }

pub returns-in_err-page-clause-still : goal.returns-in_err-page-clause-still
returns-in_err-page-clause-still g c = on_err_from c.from_residual-in_err-page.result _ (record { count = refl; worked = λ told. refl; before = λ told. refl })

pub returns-in_err-page-clause-cause : goal.returns-in_err-page-clause-cause
returns-in_err-page-clause-cause g c = no_fault _ _ _ (λ failed. not_failed c.from_residual-in_err-page.result c.from_residual-in_err-page.ensures.1 failed)

pub returns-in_err-read_pages-clause-err : goal.returns-in_err-read_pages-clause-err
returns-in_err-read_pages-clause-err g c =
    let made = c.read_pages.ensures in
    let folder = ap (λ (s : Scene). s.folder) made.reads.frame in
    let shown = shown_moved c.args.self.now.pair.now c.read_pages.new.self made.pages made.files _ (g.F.World.scene c.read_pages.new.host).folder folder in
    on_err_from c.from_residual-in_err-read_pages.result _ (λ told. ap (λ (s : PageState). s.present) shown)

pub returns-in_err-read_pages-clause-still : goal.returns-in_err-read_pages-clause-still
returns-in_err-read_pages-clause-still g c =
    let made = c.read_pages.ensures in
    let folder = ap (λ (s : Scene). s.folder) made.reads.frame in
    let shown = shown_moved c.args.self.now.pair.now c.read_pages.new.self made.pages made.files _ (g.F.World.scene c.read_pages.new.host).folder folder in
    on_err_from c.from_residual-in_err-read_pages.result _ (same_shown_still g.F.World.tells _ _ _ _ shown)

pub returns-in_err-read_pages-clause-kept : goal.returns-in_err-read_pages-clause-kept
returns-in_err-read_pages-clause-kept g c =
    let made = c.read_pages.ensures in
    let folder = ap (λ (s : Scene). s.folder) made.reads.frame in
    let shown = shown_moved c.args.self.now.pair.now c.read_pages.new.self made.pages made.files _ (g.F.World.scene c.read_pages.new.host).folder folder in
    record {
      valid = λ told. ready_moved c.args.self.now.pair.now c.read_pages.new.self made.pages made.files _ (g.F.World.scene c.read_pages.new.host).folder folder (made.cached told) (c.requires.valid told);
      stays = (refl, refl, keeps_moved c.args.self.now.pair.now c.read_pages.new.self made.pages made.files g.F.World.tells _ _ _ _ made.reads);
      committed = λ told. ap (λ (s : PageState). s.committed) shown;
      commits = λ told. ap (λ (s : PageState). s.commits) shown;
      longer = omega (arith, ap (λ (s : PageState). length s.before) shown);
      grown = λ told. ([], ap (λ (s : PageState). history_of s) shown);
    }

pub returns-in_err-put_place-clause-cause : goal.returns-in_err-put_place-clause-cause
returns-in_err-put_place-clause-cause g c = calm_cause _ _ _ _ (c.read_pages.ensures.calm (not_ok_failed c.read_pages.result _ c.in_ok-read_pages.was)).faults (λ failed. not_failed c.from_residual-in_err-put_place.result c.from_residual-in_err-put_place.ensures.1 failed)

pub returns-clause-cause : goal.returns-clause-cause
returns-clause-cause g c = calm_cause _ _ _ _ (c.read_pages.ensures.calm (not_ok_failed c.read_pages.result _ c.in_ok-read_pages.was)).faults (λ failed. cc failed)

pub returns-clause-ok : goal.returns-clause-ok
returns-clause-ok g c = λ told.
    let made = c.read_pages.ensures in
    let folder = ap (λ (s : Scene). s.folder) made.reads.frame in
    let shown = shown_moved c.args.self.now.pair.now c.read_pages.new.self made.pages made.files _ (g.F.World.scene c.read_pages.new.host).folder folder in
    let page = c.read_pages.new.into.items in
    let here : Some page ≡ present_under (away_of c.args.self.now.pair.now.files (g.F.World.scene c.args.self.now.host.now).folder) c.args.self.now.pair.now.pages c.args.at = sym (c.in_ok-read_pages.ensures.loaded told) ∙ pages_at-one (present_under (away_of c.args.self.now.pair.now.files (g.F.World.scene c.args.self.now.host.now).folder) c.args.self.now.pair.now.pages) c.args.at in
    c.in_ok-put_place.ensures.ok.present (away_of c.read_pages.new.self.files (g.F.World.scene c.read_pages.new.host).folder)
    ∙ ap (λ (s : PageState). put s.present c.args.at (Some c.write_over.new.page.items)) shown
    ∙ ap (λ (b : List ℕ). put (present_under (away_of c.args.self.now.pair.now.files (g.F.World.scene c.args.self.now.host.now).folder) c.args.self.now.pair.now.pages) c.args.at (Some b)) c.write_over.ensures
    ∙ ap (λ (v : Option (List ℕ)). put (present_under (away_of c.args.self.now.pair.now.files (g.F.World.scene c.args.self.now.host.now).folder) c.args.self.now.pair.now.pages) c.args.at (patched v c.args.from c.args.bytes.now)) here
