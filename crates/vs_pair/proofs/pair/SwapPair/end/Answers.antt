use Rattle.std.proofs.Common.{sym, subst, ap, ◌∙◌, IsSome}
use Rattle.std.proofs.lemmas.Result.{on_ok_weaker}
use Rattle.vs_host.specs.Disk.{Name, ChangesNames, SyncsNames, Removes, content_in}
use Rattle.vs_host.specs.Trace.{Removed, SyncedNames}
use Rattle.vs_pair.specs.declared.side.Side.{Side}
use Rattle.vs_pair.specs.Pair.{known_of, name_of, other_side}
use Rattle.vs_disk.proofs.Quiet.{none_call, none_then}
use Rattle.vs_pair.proofs.Calls.{either_acts, removes_private, names_private}
use Rattle.vs_pair.proofs.MadeFiles.{gone_now}
use Rattle.vs_pair.proofs.Ends.{first_acts, second_acts, names_acts, ending_acts, all_gone, older_there, newer_there}
use Rattle.vs_pair.proofs.pair.SwapPair.end.Goals as goal

pub remove-requires : goal.remove-requires
remove-requires g c told =
    let fits = c.requires.fits told in
    subst (λ (n : Name). IsSome (content_in (g.F.World.scene c.args.host.now).folder n)) (sym (c.swap_name.ensures ∙ ap (λ (s : Side). name_of c.args.self.files.names s) c.other.ensures)) (older_there (known_of c.args.self (g.F.World.scene c.args.host.now).folder) fits.0 fits.1 fits.2 _ fits.3)

pub returns-in_err-remove-clause-acts : goal.returns-in_err-remove-clause-acts
returns-in_err-remove-clause-acts g c =
    ending_acts g.F.World.tells (known_of c.args.self (g.F.World.scene c.args.host.now).folder) _ _
    (first_acts g.F.World.tells (known_of c.args.self (g.F.World.scene c.args.host.now).folder) _ c.swap_name.result.now (c.swap_name.ensures ∙ ap (λ (s : Side). name_of c.args.self.files.names s) c.other.ensures) _
    (either_acts g.F.World.tells (ChangesNames (Removes c.swap_name.result.now)) Removed _ c.remove.result _ _ c.remove.ensures.ok c.remove.ensures.err c.remove.ensures.cause c.remove.ensures.told c.remove.ensures.frame (λ told. removes_private _ _ _)))

pub remove-requires-2 : goal.remove-requires-2
remove-requires-2 g c told =
    let fits = c.requires.fits told in
    subst (λ (n : Name). IsSome (content_in (g.F.World.scene c.remove.new.self).folder n)) (sym c.swap_name-2.ensures)
    (newer_there (known_of c.args.self (g.F.World.scene c.args.host.now).folder) fits.0 fits.1 fits.2 (g.F.World.scene c.args.host.now).folder fits.3 (g.F.World.scene c.remove.new.self).folder
    (subst (λ (n : Name). ChangesNames (Removes n) (g.F.World.scene c.args.host.now).folder (g.F.World.scene c.remove.new.self).folder) (c.swap_name.ensures ∙ ap (λ (s : Side). name_of c.args.self.files.names s) c.other.ensures) (c.in_ok-remove.ensures.ok told)))

pub returns-in_err-remove-2-clause-acts : goal.returns-in_err-remove-2-clause-acts
returns-in_err-remove-2-clause-acts g c =
    ending_acts g.F.World.tells (known_of c.args.self (g.F.World.scene c.args.host.now).folder) _ _
    (second_acts g.F.World.tells (known_of c.args.self (g.F.World.scene c.args.host.now).folder) _ c.swap_name-2.result.now c.swap_name-2.ensures _ _ (none_call g.F.World.tells Removed _ c.remove.result _ _ c.remove.ensures.frame c.remove.ensures.told c.in_ok-remove.ensures.quiet)
    (first_acts g.F.World.tells (known_of c.args.self (g.F.World.scene c.args.host.now).folder) _ c.swap_name.result.now (c.swap_name.ensures ∙ ap (λ (s : Side). name_of c.args.self.files.names s) c.other.ensures) _
    (either_acts g.F.World.tells (ChangesNames (Removes c.swap_name.result.now)) Removed _ c.remove.result _ _ c.remove.ensures.ok c.remove.ensures.err c.remove.ensures.cause c.remove.ensures.told c.remove.ensures.frame (λ told. removes_private _ _ _)))
    (λ told. gone_now (name_of c.args.self.files.names (other_side c.args.self.files.newer)) (g.F.World.scene c.args.host.now).folder (g.F.World.scene c.remove.new.self).folder
    (subst (λ (n : Name). ChangesNames (Removes n) (g.F.World.scene c.args.host.now).folder (g.F.World.scene c.remove.new.self).folder) (c.swap_name.ensures ∙ ap (λ (s : Side). name_of c.args.self.files.names s) c.other.ensures) (c.in_ok-remove.ensures.ok told)))
    (either_acts g.F.World.tells (ChangesNames (Removes c.swap_name-2.result.now)) Removed _ c.remove-2.result _ _ c.remove-2.ensures.ok c.remove-2.ensures.err c.remove-2.ensures.cause c.remove-2.ensures.told c.remove-2.ensures.frame (λ told. removes_private _ _ _)))

pub returns-clause-acts : goal.returns-clause-acts
returns-clause-acts g c =
    ending_acts g.F.World.tells (known_of c.args.self (g.F.World.scene c.args.host.now).folder) _ _
    (names_acts g.F.World.tells (known_of c.args.self (g.F.World.scene c.args.host.now).folder) _ _ _ (none_then g.F.World.tells _ _ _ (none_call g.F.World.tells Removed _ c.remove.result _ _ c.remove.ensures.frame c.remove.ensures.told c.in_ok-remove.ensures.quiet)
    (none_call g.F.World.tells Removed _ c.remove-2.result _ _ c.remove-2.ensures.frame c.remove-2.ensures.told c.in_ok-remove-2.ensures.quiet))
    (second_acts g.F.World.tells (known_of c.args.self (g.F.World.scene c.args.host.now).folder) _ c.swap_name-2.result.now c.swap_name-2.ensures _ _ (none_call g.F.World.tells Removed _ c.remove.result _ _ c.remove.ensures.frame c.remove.ensures.told c.in_ok-remove.ensures.quiet)
    (first_acts g.F.World.tells (known_of c.args.self (g.F.World.scene c.args.host.now).folder) _ c.swap_name.result.now (c.swap_name.ensures ∙ ap (λ (s : Side). name_of c.args.self.files.names s) c.other.ensures) _
    (either_acts g.F.World.tells (ChangesNames (Removes c.swap_name.result.now)) Removed _ c.remove.result _ _ c.remove.ensures.ok c.remove.ensures.err c.remove.ensures.cause c.remove.ensures.told c.remove.ensures.frame (λ told. removes_private _ _ _)))
    (λ told. gone_now (name_of c.args.self.files.names (other_side c.args.self.files.newer)) (g.F.World.scene c.args.host.now).folder (g.F.World.scene c.remove.new.self).folder
    (subst (λ (n : Name). ChangesNames (Removes n) (g.F.World.scene c.args.host.now).folder (g.F.World.scene c.remove.new.self).folder) (c.swap_name.ensures ∙ ap (λ (s : Side). name_of c.args.self.files.names s) c.other.ensures) (c.in_ok-remove.ensures.ok told)))
    (either_acts g.F.World.tells (ChangesNames (Removes c.swap_name-2.result.now)) Removed _ c.remove-2.result _ _ c.remove-2.ensures.ok c.remove-2.ensures.err c.remove-2.ensures.cause c.remove-2.ensures.told c.remove-2.ensures.frame (λ told. removes_private _ _ _)))
    (either_acts g.F.World.tells SyncsNames SyncedNames _ c.sync_names.result _ _ c.sync_names.ensures.ok c.sync_names.ensures.err c.sync_names.ensures.cause c.sync_names.ensures.told c.sync_names.ensures.frame (λ told. names_private _ _)))

pub returns-clause-gone : goal.returns-clause-gone
returns-clause-gone g c =
    on_ok_weaker c.sync_names.result
    (λ syncs told. let fits = c.requires.fits told in
    all_gone (known_of c.args.self (g.F.World.scene c.args.host.now).folder) fits.0 fits.1 fits.2 (g.F.World.scene c.args.host.now).folder (g.F.World.scene c.remove.new.self).folder (g.F.World.scene c.remove-2.new.self).folder (g.F.World.scene c.sync_names.new.self).folder fits.3 c.swap_name.result.now c.swap_name-2.result.now (c.swap_name.ensures ∙ ap (λ (s : Side). name_of c.args.self.files.names s) c.other.ensures) c.swap_name-2.ensures
    (c.in_ok-remove.ensures.ok told) (c.in_ok-remove-2.ensures.ok told) (syncs told))
    c.sync_names.ensures.ok

pub returns-clause-none : goal.returns-clause-none
returns-clause-none g c =
    on_ok_weaker c.sync_names.result
    (λ quiet. none_then g.F.World.tells _ _ _ (none_then g.F.World.tells _ _ _ (none_call g.F.World.tells Removed _ c.remove.result _ _ c.remove.ensures.frame c.remove.ensures.told c.in_ok-remove.ensures.quiet)
    (none_call g.F.World.tells Removed _ c.remove-2.result _ _ c.remove-2.ensures.frame c.remove-2.ensures.told c.in_ok-remove-2.ensures.quiet))
    (none_call g.F.World.tells SyncedNames _ c.sync_names.result _ _ c.sync_names.ensures.frame c.sync_names.ensures.told quiet))
    c.sync_names.ensures.quiet
