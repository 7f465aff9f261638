use Rattle.std.proofs.Common.{ℕ, [], ◌∷◌, refl, sym, subst}
use Rattle.vs_host.specs.Disk.{SyncsNames}
use Rattle.vs_host.specs.Trace.{SyncedNames}
use Rattle.vs_pair.specs.declared.gate.Gate.TheVariants.{Open}
use Rattle.vs_pair.specs.declared.side.Side.TheVariants.{Swo}
use Rattle.vs_pages.specs.Maps.{no_pages}
use Rattle.vs_pair.specs.Held.{held_with}
use Rattle.vs_pair.specs.Pair.{Known, known_with, sync_fresh, IsFit}
use Rattle.vs_pair.specs.Swap.{body_of}
use Rattle.vs_pair.proofs.MadeFiles.{made_holds}
use Rattle.vs_disk.proofs.Quiet.{none_call, none_then}
use Rattle.vs_pair.proofs.Calls.{either_acts, names_private}
use Rattle.vs_pair.proofs.Starts.{making_first, making_second, second_absent, syncing_names, both_fit, both_end, both_moved}
use Rattle.vs_pair.proofs.HeldLemmas.{end_none, end_past, end_some}
use Rattle.vs_pair.proofs.pair.SwapPair.start_files.Goals as goal

pub returns-in_err-make-clause-acts : goal.returns-in_err-make-clause-acts
returns-in_err-make-clause-acts g c = making_first g.F.World.tells c.args.self.now.files.names c.args.self.now.files.named (sync_fresh c.args.self.now 1 c.args.head.now) (sync_fresh c.args.self.now 2 c.args.head.now) refl refl (g.F.World.scene c.args.host.now) c.requires.fresh _ c.make.ensures.acts

pub make-requires-2-clause-absent : goal.make-requires-2-clause-absent
make-requires-2-clause-absent g c told =
    second_absent g.F.World.tells c.args.self.now.files.names c.args.self.now.files.named (sync_fresh c.args.self.now 1 c.args.head.now) (sync_fresh c.args.self.now 2 c.args.head.now) refl refl (g.F.World.scene c.args.host.now) c.requires.fresh (g.F.World.scene c.make.new.host) told (c.make.ensures.acts.runs told).now

pub returns-in_err-make-2-clause-acts : goal.returns-in_err-make-2-clause-acts
returns-in_err-make-2-clause-acts g c = making_second g.F.World.tells c.args.self.now.files.names c.args.self.now.files.named (sync_fresh c.args.self.now 1 c.args.head.now) (sync_fresh c.args.self.now 2 c.args.head.now) refl refl (g.F.World.scene c.args.host.now) c.requires.fresh _ _ c.in_ok-make.ensures.none c.make.ensures.acts c.make-2.ensures.acts

pub returns-in_err-sync_names-clause-acts : goal.returns-in_err-sync_names-clause-acts
returns-in_err-sync_names-clause-acts g c =
    syncing_names g.F.World.tells c.args.self.now.files.names c.args.self.now.files.named (sync_fresh c.args.self.now 1 c.args.head.now) (sync_fresh c.args.self.now 2 c.args.head.now) refl refl (g.F.World.scene c.args.host.now) c.requires.fresh (g.F.World.scene c.make.new.host) (g.F.World.scene c.make-2.new.host) _ (none_then g.F.World.tells _ _ _ c.in_ok-make.ensures.none c.in_ok-make-2.ensures.none)
    (making_second g.F.World.tells c.args.self.now.files.names c.args.self.now.files.named (sync_fresh c.args.self.now 1 c.args.head.now) (sync_fresh c.args.self.now 2 c.args.head.now) refl refl (g.F.World.scene c.args.host.now) c.requires.fresh _ _ c.in_ok-make.ensures.none c.make.ensures.acts c.make-2.ensures.acts)
    (λ told. (c.make.ensures.acts.runs told).now) (λ told. (c.make-2.ensures.acts.runs told).now)
    (either_acts g.F.World.tells SyncsNames SyncedNames _ c.sync_names.result _ _ c.sync_names.ensures.ok c.sync_names.ensures.err c.sync_names.ensures.cause c.sync_names.ensures.told c.sync_names.ensures.frame (λ told. names_private _ _))

pub returns-clause-acts : goal.returns-clause-acts
returns-clause-acts g c =
    syncing_names g.F.World.tells c.args.self.now.files.names c.args.self.now.files.named (sync_fresh c.args.self.now 1 c.args.head.now) (sync_fresh c.args.self.now 2 c.args.head.now) refl refl (g.F.World.scene c.args.host.now) c.requires.fresh (g.F.World.scene c.make.new.host) (g.F.World.scene c.make-2.new.host) _ (none_then g.F.World.tells _ _ _ c.in_ok-make.ensures.none c.in_ok-make-2.ensures.none)
    (making_second g.F.World.tells c.args.self.now.files.names c.args.self.now.files.named (sync_fresh c.args.self.now 1 c.args.head.now) (sync_fresh c.args.self.now 2 c.args.head.now) refl refl (g.F.World.scene c.args.host.now) c.requires.fresh _ _ c.in_ok-make.ensures.none c.make.ensures.acts c.make-2.ensures.acts)
    (λ told. (c.make.ensures.acts.runs told).now) (λ told. (c.make-2.ensures.acts.runs told).now)
    (either_acts g.F.World.tells SyncsNames SyncedNames _ c.sync_names.result _ _ c.sync_names.ensures.ok c.sync_names.ensures.err c.sync_names.ensures.cause c.sync_names.ensures.told c.sync_names.ensures.frame (λ told. names_private _ _))

pub returns-clause-ok : goal.returns-clause-ok
returns-clause-ok g c told =
    let known : ℕ → Known = λ commits. record (known_with c.args.self.now.files (held_with no_pages c.args.self.now.pages)) {
      newer = Swo;
      gate = Open;
      generation = 2;
      newer_has = record { commits = commits; end = c.committed_end.result };
      older_has = record { commits = commits; end = c.committed_end.result };
    } in
    subst (λ (n : ℕ). IsFit (known n) (g.F.World.scene c.sync_names.new.self).folder (sync_fresh c.args.self.now 2 c.args.head.now) [] (sync_fresh c.args.self.now 1 c.args.head.now ∷ [])) (sym c.commits.ensures)
    (both_fit g.F.World.tells c.args.self.now.files.names c.args.self.now.files.named (sync_fresh c.args.self.now 1 c.args.head.now) (sync_fresh c.args.self.now 2 c.args.head.now) refl refl (g.F.World.scene c.args.host.now) c.requires.fresh (held_with no_pages c.args.self.now.pages) c.committed_end.result refl refl (end_none c.args.self.now.pages c.committed_end.result c.committed_end.ensures.end no_pages) (end_some c.args.self.now.pages c.committed_end.result c.committed_end.ensures.end no_pages (c.requires.here told)) (g.F.World.scene c.make.new.host).folder (g.F.World.scene c.make-2.new.host).folder (g.F.World.scene c.sync_names.new.self).folder (g.F.World.is_folder c.sync_names.new.self told)
    (made_holds _ _ _ (c.in_ok-make.ensures.made told)) (c.make-2.ensures.acts.runs told).now (made_holds _ _ _ (c.in_ok-make-2.ensures.made told)) (c.in_ok-sync_names.ensures.ok told))

pub returns-clause-ends : goal.returns-clause-ends
returns-clause-ends g c told =
    both_end c.args.self.now.files.names c.args.self.now.files.named (g.F.World.scene c.make.new.host).folder (g.F.World.scene c.make-2.new.host).folder (g.F.World.scene c.sync_names.new.self).folder (c.make-2.ensures.acts.runs told).now.spared (c.in_ok-sync_names.ensures.ok told)
    (body_of c.args.self.now.files.names.file (sync_fresh c.args.self.now 1 c.args.head.now)) (body_of c.args.self.now.files.names.file (sync_fresh c.args.self.now 2 c.args.head.now)) (c.in_ok-make.ensures.made told) (c.in_ok-make-2.ensures.made told)

pub returns-clause-moved : goal.returns-clause-moved
returns-clause-moved g c told =
    both_moved c.args.self.now.files.names c.args.self.now.files.named (g.F.World.scene c.make.new.host).folder (g.F.World.scene c.make-2.new.host).folder (g.F.World.scene c.sync_names.new.self).folder (c.make-2.ensures.acts.runs told).now.spared (c.in_ok-sync_names.ensures.ok told)
    (c.in_ok-make.ensures.moved told) (c.in_ok-make-2.ensures.moved told)

pub returns-clause-none : goal.returns-clause-none
returns-clause-none g c =
    none_then g.F.World.tells _ _ _ (none_then g.F.World.tells _ _ _ c.in_ok-make.ensures.none c.in_ok-make-2.ensures.none) (none_call g.F.World.tells SyncedNames _ c.sync_names.result _ _ c.sync_names.ensures.frame c.sync_names.ensures.told c.in_ok-sync_names.ensures.quiet)

pub returns-clause-known_all : goal.returns-clause-known_all
returns-clause-known_all g c = (
  record { commits = c.commits.ensures; past = end_past c.args.self.now.pages c.committed_end.result c.committed_end.ensures.end },
  record { commits = c.commits.ensures; past = end_past c.args.self.now.pages c.committed_end.result c.committed_end.ensures.end },
)
