use Rattle.std.proofs.Common.{◌≡◌, ℕ, ◌+◌, ◌∙◌, refl, sym, subst, ap}
use Rattle.std.specs.Prelude.{[], ◌∷◌}
use Rattle.vs_host.specs.File.{Leaves}
use Rattle.vs_host.specs.Disk.{ChangesFile, Name}
use Rattle.vs_pages.specs.Memory.{commits_of, AreBacked}
use Rattle.vs_pair.specs.Held.{AreApart, held_from, pages_under}
use Rattle.vs_pair.specs.declared.gate.Gate.{Gate}
use Rattle.vs_pair.specs.declared.gate.Gate.TheVariants.{Open}
use Rattle.vs_pair.specs.declared.side.Side.{Side}
use Rattle.vs_pair.specs.Swap.{Body, body_of, Fits, Holds, Lengthens, SyncStep, FailedSync}
use Rattle.vs_pair.specs.Pair.{Known, committed_in, known_of, sync_of, name_of, other_side, IsFit, Syncing}
use Rattle.vs_pair.specs.Acts.{Acts}
use Rattle.vs_pair.specs.Stale.{Keeps, SparesFresh}
use Rattle.vs_pair.proofs.Acts.{acts_as}
use Rattle.vs_pair.proofs.Calls.{on_err_from}
use Rattle.vs_pair.proofs.AwayLemmas.{body_away, fit_two, other_pages}
use Rattle.vs_pair.proofs.HeldLemmas.{end_none, end_past, end_some}
use Rattle.vs_pair.proofs.FitLemmas.{moved, moved_has, syncing, there, failed, done, rises, none_rises, above_newest}
use Rattle.vs_pair.proofs.pair.SwapPair.write_older.Goals as goal

pub sync_file-requires-clause-fits : goal.sync_file-requires-clause-fits
sync_file-requires-clause-fits g c told =
    let fits = c.requires.fits told in
    let name = c.swap_name-name.ensures ∙ ap (λ (s : Side). name_of c.args.self.now.files.names s) c.other-older.ensures in (
      body_of c.args.self.now.files.names.file fits.3.older_sync,
      moved_has (name_of c.args.self.now.files.names (other_side c.args.self.now.files.newer)) c.swap_name-name.result.now (sym name) _ _ refl (Fits c.args.self.now.files.gate) _
          (there (known_of c.args.self.now (g.F.World.scene c.args.host.now).folder) fits.0 fits.1 fits.2 _ fits.3 (sync_of c.args.self.now (g.F.World.scene c.args.host.now).folder c.args.head.now) refl c.requires.room),
      subst (λ (n : Name). Keeps c.args.self.now.files.gate (held_from c.args.self.now.pages (g.F.World.scene c.args.host.now).folder n) c.args.self.now.files.older_has fits.3.older_sync.pages) (sym c.swap_name-from.ensures) fits.3.older_keeps,
    )

pub sync_file-requires-clause-apart : goal.sync_file-requires-clause-apart
sync_file-requires-clause-apart g c told =
    let fits = c.requires.fits told in
    let name = c.swap_name-name.ensures ∙ ap (λ (s : Side). name_of c.args.self.now.files.names s) c.other-older.ensures in
    subst (λ (n : Name). AreApart (g.F.World.scene c.args.host.now).folder n c.swap_name-from.result.now) (sym name)
    (subst (λ (n : Name). AreApart (g.F.World.scene c.args.host.now).folder (name_of c.args.self.now.files.names (other_side c.args.self.now.files.newer)) n) (sym c.swap_name-from.ensures)
    (fit_two (known_of c.args.self.now (g.F.World.scene c.args.host.now).folder) (g.F.World.scene c.args.host.now).folder fits.0 fits.1 fits.2 fits.3))

pub sync_file-requires-clause-backed : goal.sync_file-requires-clause-backed
sync_file-requires-clause-backed g c told = subst (λ (n : Name). AreBacked (pages_under (g.F.World.scene c.args.host.now).folder n) c.args.self.now.pages) (sym c.swap_name-from.ensures) (c.requires.backed told)

pub returns-in_err-sync_file-clause-away : goal.returns-in_err-sync_file-clause-away
returns-in_err-sync_file-clause-away g c =
    on_err_from c.from_residual.result _
    (λ told.
    let fits = c.requires.fits told in
    let names = c.args.self.now.files.names in
    let name = c.swap_name-name.ensures ∙ ap (λ (s : Side). name_of names s) c.other-older.ensures in
    other_pages c.swap_name-name.result.now (name_of names c.args.self.now.files.newer) _ (g.F.World.scene c.args.host.now).folder _
    (subst (λ (n : Name). AreApart (g.F.World.scene c.args.host.now).folder n (name_of names c.args.self.now.files.newer)) (sym name) (fit_two (known_of c.args.self.now (g.F.World.scene c.args.host.now).folder) (g.F.World.scene c.args.host.now).folder fits.0 fits.1 fits.2 fits.3))
    (c.sync_file.ensures.acts.runs told).now)

pub returns-in_err-sync_file-clause-acts : goal.returns-in_err-sync_file-clause-acts
returns-in_err-sync_file-clause-acts g c =
    let files : Known = known_of c.args.self.now (g.F.World.scene c.args.host.now).folder in
    let name = c.swap_name-name.ensures ∙ ap (λ (s : Side). name_of files.names s) c.other-older.ensures in
    let body : Body = record { first = c.page_zero-first.result; pages = (held_from c.args.self.now.pages (g.F.World.scene c.args.host.now).folder c.swap_name-from.result.now).committed } in
    let same : body ≡ body_of files.names.file (sync_of c.args.self.now (g.F.World.scene c.args.host.now).folder c.args.head.now) =
    body_away files.names.file (sync_of c.args.self.now (g.F.World.scene c.args.host.now).folder c.args.head.now) c.as_str.result.now c.page_zero-first.result c.args.self.now.pages (g.F.World.scene c.args.host.now).folder c.swap_name-from.result.now (name_of files.names files.newer) c.swap_name-from.ensures refl c.as_str.ensures c.page_zero-first.ensures.page in
    acts_as g.F.World.tells (ChangesFile c.swap_name-name.result.now (SyncStep files.gate body)) (Syncing files (sync_of c.args.self.now (g.F.World.scene c.args.host.now).folder c.args.head.now)) _ _
    (λ told d changes. syncing files (sync_of c.args.self.now (g.F.World.scene c.args.host.now).folder c.args.head.now) _ d refl c.requires.room (g.F.World.is_folder c.args.host.now told)
    (moved c.swap_name-name.result.now (name_of files.names (other_side files.newer)) name body _ same (SyncStep files.gate) _ d changes))
    c.sync_file.ensures.acts

pub returns-in_err-sync_file-clause-err : goal.returns-in_err-sync_file-clause-err
returns-in_err-sync_file-clause-err g c =
    let files : Known = known_of c.args.self.now (g.F.World.scene c.args.host.now).folder in
    let name = c.swap_name-name.ensures ∙ ap (λ (s : Side). name_of files.names s) c.other-older.ensures in
    let body : Body = record { first = c.page_zero-first.result; pages = (held_from c.args.self.now.pages (g.F.World.scene c.args.host.now).folder c.swap_name-from.result.now).committed } in
    let same : body ≡ body_of files.names.file (sync_of c.args.self.now (g.F.World.scene c.args.host.now).folder c.args.head.now) =
    body_away files.names.file (sync_of c.args.self.now (g.F.World.scene c.args.host.now).folder c.args.head.now) c.as_str.result.now c.page_zero-first.result c.args.self.now.pages (g.F.World.scene c.args.host.now).folder c.swap_name-from.result.now (name_of files.names files.newer) c.swap_name-from.ensures refl c.as_str.ensures c.page_zero-first.ensures.page in
    on_err_from c.from_residual.result _
    (λ told newest begun past fit.
    failed files newest begun past _ fit (sync_of c.args.self.now (g.F.World.scene c.args.host.now).folder c.args.head.now) refl c.requires.room c.sync_file.new.gate _
    (moved c.swap_name-name.result.now (name_of files.names (other_side files.newer)) name body _ same (FailedSync files.gate c.sync_file.new.gate) _ _ (c.in_err-sync_file.ensures.failed told)))

pub returns-in_err-sync_file-clause-stays : goal.returns-in_err-sync_file-clause-stays
returns-in_err-sync_file-clause-stays g c =
    let files : Known = known_of c.args.self.now (g.F.World.scene c.args.host.now).folder in
    let name = c.swap_name-name.ensures ∙ ap (λ (s : Side). name_of files.names s) c.other-older.ensures in
    let body : Body = record { first = c.page_zero-first.result; pages = (held_from c.args.self.now.pages (g.F.World.scene c.args.host.now).folder c.swap_name-from.result.now).committed } in
    let same : body ≡ body_of files.names.file (sync_of c.args.self.now (g.F.World.scene c.args.host.now).folder c.args.head.now) =
    body_away files.names.file (sync_of c.args.self.now (g.F.World.scene c.args.host.now).folder c.args.head.now) c.as_str.result.now c.page_zero-first.result c.args.self.now.pages (g.F.World.scene c.args.host.now).folder c.swap_name-from.result.now (name_of files.names files.newer) c.swap_name-from.ensures refl c.as_str.ensures c.page_zero-first.ensures.page in
    on_err_from c.from_residual.result _
    (λ told newest begun past fit document is.
    none_rises _ newest (sync_of c.args.self.now (g.F.World.scene c.args.host.now).folder c.args.head.now ∷ begun) past _
    (failed files newest begun past _ fit (sync_of c.args.self.now (g.F.World.scene c.args.host.now).folder c.args.head.now) refl c.requires.room c.sync_file.new.gate _
    (moved c.swap_name-name.result.now (name_of files.names (other_side files.newer)) name body _ same (FailedSync files.gate c.sync_file.new.gate) _ _ (c.in_err-sync_file.ensures.failed told)))
    (g.F.World.scene c.args.host.now).folder (above_newest files newest begun past _ fit document is))

pub returns-clause-acts : goal.returns-clause-acts
returns-clause-acts g c =
    let files : Known = known_of c.args.self.now (g.F.World.scene c.args.host.now).folder in
    let name = c.swap_name-name.ensures ∙ ap (λ (s : Side). name_of files.names s) c.other-older.ensures in
    let body : Body = record { first = c.page_zero-first.result; pages = (held_from c.args.self.now.pages (g.F.World.scene c.args.host.now).folder c.swap_name-from.result.now).committed } in
    let same : body ≡ body_of files.names.file (sync_of c.args.self.now (g.F.World.scene c.args.host.now).folder c.args.head.now) =
    body_away files.names.file (sync_of c.args.self.now (g.F.World.scene c.args.host.now).folder c.args.head.now) c.as_str.result.now c.page_zero-first.result c.args.self.now.pages (g.F.World.scene c.args.host.now).folder c.swap_name-from.result.now (name_of files.names files.newer) c.swap_name-from.ensures refl c.as_str.ensures c.page_zero-first.ensures.page in
    acts_as g.F.World.tells (ChangesFile c.swap_name-name.result.now (SyncStep files.gate body)) (Syncing files (sync_of c.args.self.now (g.F.World.scene c.args.host.now).folder c.args.head.now)) _ _
    (λ told d changes. syncing files (sync_of c.args.self.now (g.F.World.scene c.args.host.now).folder c.args.head.now) _ d refl c.requires.room (g.F.World.is_folder c.args.host.now told)
    (moved c.swap_name-name.result.now (name_of files.names (other_side files.newer)) name body _ same (SyncStep files.gate) _ d changes))
    c.sync_file.ensures.acts

pub returns-clause-ok : goal.returns-clause-ok
returns-clause-ok g c told newest begun past fit =
    let files : Known = known_of c.args.self.now (g.F.World.scene c.args.host.now).folder in
    let name = c.swap_name-name.ensures ∙ ap (λ (s : Side). name_of files.names s) c.other-older.ensures in
    let body : Body = record { first = c.page_zero-first.result; pages = (held_from c.args.self.now.pages (g.F.World.scene c.args.host.now).folder c.swap_name-from.result.now).committed } in
    let same : body ≡ body_of files.names.file (sync_of c.args.self.now (g.F.World.scene c.args.host.now).folder c.args.head.now) =
    body_away files.names.file (sync_of c.args.self.now (g.F.World.scene c.args.host.now).folder c.args.head.now) c.as_str.result.now c.page_zero-first.result c.args.self.now.pages (g.F.World.scene c.args.host.now).folder c.swap_name-from.result.now (name_of files.names files.newer) c.swap_name-from.ensures refl c.as_str.ensures c.page_zero-first.ensures.page in
    let now : Side → Gate → ℕ → Known = λ side gate commits. record files {
      newer = side;
      gate = gate;
      generation = files.generation + 1;
      newer_has = record { commits = commits; end = c.committed_end.result };
      older_has = files.newer_has;
    } in
    let after : IsFit (now (other_side files.newer) Open files.pages.commits.count) (g.F.World.scene c.sync_file.new.host).folder (sync_of c.args.self.now (g.F.World.scene c.args.host.now).folder c.args.head.now) [] (newest ∷ past) =
    done files newest begun past _ fit (sync_of c.args.self.now (g.F.World.scene c.args.host.now).folder c.args.head.now) refl c.requires.room (SyncStep files.gate (body_of files.names.file (sync_of c.args.self.now (g.F.World.scene c.args.host.now).folder c.args.head.now))) _
    (moved c.swap_name-name.result.now (name_of files.names (other_side files.newer)) name body _ same (SyncStep files.gate) _ _ (c.sync_file.ensures.acts.runs told).now)
    (moved_has c.swap_name-name.result.now (name_of files.names (other_side files.newer)) name body _ same (λ b file. Leaves file (Holds b)) _ (c.in_ok-sync_file.ensures.stands told))
    c.committed_end.result refl (end_none c.args.self.now.pages c.committed_end.result c.committed_end.ensures.end _) (end_some c.args.self.now.pages c.committed_end.result c.committed_end.ensures.end _ (c.requires.backed told)) in
    subst (λ (s : Side). IsFit (now s c.sync_file.new.gate c.commits.result) (g.F.World.scene c.sync_file.new.host).folder (sync_of c.args.self.now (g.F.World.scene c.args.host.now).folder c.args.head.now) [] (newest ∷ past))
    (sym c.other-older.ensures)
    (subst (λ (h : Gate). IsFit (now (other_side files.newer) h c.commits.result) (g.F.World.scene c.sync_file.new.host).folder (sync_of c.args.self.now (g.F.World.scene c.args.host.now).folder c.args.head.now) [] (newest ∷ past))
    (sym c.in_ok-sync_file.ensures.opened)
    (subst (λ (n : ℕ). IsFit (now (other_side files.newer) Open n) (g.F.World.scene c.sync_file.new.host).folder (sync_of c.args.self.now (g.F.World.scene c.args.host.now).folder c.args.head.now) [] (newest ∷ past)) (sym c.commits.ensures) after))

pub returns-in_err-sync_file-clause-spared : goal.returns-in_err-sync_file-clause-spared
returns-in_err-sync_file-clause-spared g c =
    subst (λ (n : Name). Acts g.F.World.tells (ChangesFile n (SparesFresh (commits_of c.args.self.now.pages) c.args.self.now.files.older_has)) (g.F.World.scene c.args.host.now) (g.F.World.scene c.sync_file.new.host))
    (c.swap_name-name.ensures ∙ ap (λ (s : Side). name_of c.args.self.now.files.names s) c.other-older.ensures) c.sync_file.ensures.spared

pub returns-clause-spared : goal.returns-clause-spared
returns-clause-spared g c =
    subst (λ (n : Name). Acts g.F.World.tells (ChangesFile n (SparesFresh (commits_of c.args.self.now.pages) c.args.self.now.files.older_has)) (g.F.World.scene c.args.host.now) (g.F.World.scene c.sync_file.new.host))
    (c.swap_name-name.ensures ∙ ap (λ (s : Side). name_of c.args.self.now.files.names s) c.other-older.ensures) c.sync_file.ensures.spared

pub returns-clause-grown : goal.returns-clause-grown
returns-clause-grown g c told =
    subst (λ (n : Name). ChangesFile n (Lengthens (committed_in c.args.self.now (g.F.World.scene c.args.host.now).folder)) (g.F.World.scene c.args.host.now).folder (g.F.World.scene c.sync_file.new.host).folder)
    (c.swap_name-name.ensures ∙ ap (λ (s : Side). name_of c.args.self.now.files.names s) c.other-older.ensures)
    (subst (λ (n : Name). ChangesFile c.swap_name-name.result.now (Lengthens (held_from c.args.self.now.pages (g.F.World.scene c.args.host.now).folder n).committed) (g.F.World.scene c.args.host.now).folder (g.F.World.scene c.sync_file.new.host).folder) c.swap_name-from.ensures (c.in_ok-sync_file.ensures.grown told))

pub returns-clause-rises : goal.returns-clause-rises
returns-clause-rises g c told document is =
    let files : Known = known_of c.args.self.now (g.F.World.scene c.args.host.now).folder in
    let fits = c.requires.fits told in
    let name = c.swap_name-name.ensures ∙ ap (λ (s : Side). name_of files.names s) c.other-older.ensures in
    let body : Body = record { first = c.page_zero-first.result; pages = (held_from c.args.self.now.pages (g.F.World.scene c.args.host.now).folder c.swap_name-from.result.now).committed } in
    let same : body ≡ body_of files.names.file (sync_of c.args.self.now (g.F.World.scene c.args.host.now).folder c.args.head.now) =
    body_away files.names.file (sync_of c.args.self.now (g.F.World.scene c.args.host.now).folder c.args.head.now) c.as_str.result.now c.page_zero-first.result c.args.self.now.pages (g.F.World.scene c.args.host.now).folder c.swap_name-from.result.now (name_of files.names files.newer) c.swap_name-from.ensures refl c.as_str.ensures c.page_zero-first.ensures.page in
    rises files fits.0 fits.1 fits.2 _ fits.3 (sync_of c.args.self.now (g.F.World.scene c.args.host.now).folder c.args.head.now) refl c.requires.room (SyncStep files.gate (body_of files.names.file (sync_of c.args.self.now (g.F.World.scene c.args.host.now).folder c.args.head.now))) _
    (moved c.swap_name-name.result.now (name_of files.names (other_side files.newer)) name body _ same (SyncStep files.gate) _ _ (c.sync_file.ensures.acts.runs told).now)
    (moved_has c.swap_name-name.result.now (name_of files.names (other_side files.newer)) name body _ same (λ b file. Leaves file (Holds b)) _ (c.in_ok-sync_file.ensures.stands told)) document is

pub returns-in_err-sync_file-clause-works : goal.returns-in_err-sync_file-clause-works
returns-in_err-sync_file-clause-works g c = c.sync_file.ensures.works

pub returns-clause-works : goal.returns-clause-works
returns-clause-works g c = c.sync_file.ensures.works

pub returns-clause-turned : goal.returns-clause-turned
returns-clause-turned g c = refl

pub returns-clause-commits : goal.returns-clause-commits
returns-clause-commits g c = c.commits.ensures

pub returns-clause-ended : goal.returns-clause-ended
returns-clause-ended g c = end_past c.args.self.now.pages c.committed_end.result c.committed_end.ensures.end
