use Rattle.std.proofs.Common.{◌≡◌, ◌∙◌, ◌+◌, ◌-◌, [], ◌∷◌, suc, List, true, false, Some, map, sym, ap, subst, arith, refl}
use Rattle.std.specs.Prelude.{is_some}
use Rattle.vs_host.specs.Disk.{Disk, Name, content_in}
use Rattle.vs_host.specs.Trace.{Looked}
use Rattle.vs_host.specs.World.{Scene}
use Rattle.vs_disk.proofs.Runs.{one_look, looks_on, reads_change}
use Rattle.vs_backup.specs.Backups.{IsBackupName, backup_name, first_free, lettered, letters}
use Rattle.vs_backup.proofs.Choosing.{free_here, free_later, candidates_are, letters_next, none_left, IsBackupName-plain, IsBackupName-lettered, some_name}
use Rattle.vs_backup.proofs.Going.{OnlyReads-once, OnlyReads-then}
use Rattle.vs_backup.proofs.Going as going
use Rattle.vs_backup.proofs.choose.first_free.Goals as goal

pub has-requires-clause-apart : goal.has-requires-clause-apart
has-requires-clause-apart g c =
    let name = c.args.name.now in
    c.requires.apart c.deref.result.now (subst (λ (b : Name). IsBackupName name b) (sym (c.deref.ensures ∙ c.in_ok-plain.ensures)) (IsBackupName-plain name))

pub returns-in_err-has-clause-looks : goal.returns-in_err-has-clause-looks
returns-in_err-has-clause-looks g c told =
    one_look Looked (c.deref.result.now ∷ []) c.has.result (g.D.World.scene c.args.desk.now) (g.D.World.scene c.has.new.self) c.has.ensures.kept.frame (c.has.ensures.told told)

pub returns-then-not-branch-clause-looks : goal.returns-then-not-branch-clause-looks
returns-then-not-branch-clause-looks g c told =
    one_look Looked (c.deref.result.now ∷ []) c.has.result (g.D.World.scene c.args.desk.now) (g.D.World.scene c.has.new.self) c.has.ensures.kept.frame (c.has.ensures.told told)

pub returns-then-not-branch-clause-found : goal.returns-then-not-branch-clause-found
returns-then-not-branch-clause-found g c told =
    let name = c.args.name.now in
    let disk = (g.D.World.scene c.args.desk.now).folder in
    let bytes : c.deref.result.now ≡ backup_name name = c.deref.ensures ∙ c.in_ok-plain.ensures in
    let free : is_some (content_in disk (backup_name name)) ≡ false =
    ap (λ (b : Name). is_some (content_in disk b)) (sym bytes) ∙ sym (c.in_ok-has.ensures.value told) ∙ c.if-not-branch.true in
    ap (λ (ns : List Name). first_free disk ns) (candidates_are name) ∙ free_here disk (backup_name name) (map (lettered name) (letters 26)) free ∙ ap (λ (b : Name). Some b) (sym c.in_ok-plain.ensures)

pub returns-then-not-branch-clause-named : goal.returns-then-not-branch-clause-named
returns-then-not-branch-clause-named g c =
    let name = c.args.name.now in
    subst (λ (b : Name). IsBackupName name b) (sym c.in_ok-plain.ensures) (IsBackupName-plain name)

pub letters-init : goal.letters-init
letters-init g c =
    let name = c.args.name.now in
    let s0 : Scene = g.D.World.scene c.args.desk.now in
    let s1 : Scene = g.D.World.scene c.has.new.self in
    let bytes : c.deref.result.now ≡ backup_name name = c.deref.ensures ∙ c.in_ok-plain.ensures in
    record {
      kept = OnlyReads-once (λ is. absurd (cc)) c.in_ok-has.ensures.kept;
      within = omega arith;
      looks = λ told. one_look Looked (c.deref.result.now ∷ []) c.has.result s0 s1 c.has.ensures.kept.frame (c.has.ensures.told told);
      rest = λ told.
          let taken : is_some (content_in s0.folder (backup_name name)) ≡ true =
          ap (λ (b : Name). is_some (content_in s0.folder b)) (sym bytes) ∙ sym (c.in_ok-has.ensures.value told) ∙ c.if-not-branch.false in
          ap (λ (ns : List Name). first_free s0.folder ns) (candidates_are name) ∙ free_later s0.folder (backup_name name) (map (lettered name) (letters 26)) taken;
    }

pub has-requires-in-letters-clause-apart : goal.has-requires-in-letters-clause-apart
has-requires-in-letters-clause-apart g c reads =
    let name = c.args.name.now in
    let bytes = c.deref-in-letters.ensures ∙ c.in_ok-backup.ensures in
    let named = subst (λ (b : Name). IsBackupName name b) (sym bytes) (IsBackupName-lettered name (97 + (c.letters.left - 1)) (some_name name c.requires.allowed)) in
    c.requires.apart c.deref-in-letters.result.now named (g.met.D.Desk.stays_reads c.args.desk.now c.letters.desk c.deref-in-letters.result.now c.letters.invariant.kept.stays reads)

pub returns-in_err-has-2-clause-looks : goal.returns-in_err-has-2-clause-looks
returns-in_err-has-2-clause-looks g c told =
    let s0 : Scene = g.D.World.scene c.args.desk.now in
    let s1 : Scene = g.D.World.scene c.letters.desk in
    let s2 : Scene = g.D.World.scene c.has-in-letters.new.self in
    looks_on s0 s1 s2 (reads_change s0 s1 c.letters.invariant.kept.frame) (c.letters.invariant.looks told) (one_look Looked (c.deref-in-letters.result.now ∷ []) c.has-in-letters.result s1 s2 c.has-in-letters.ensures.kept.frame (c.has-in-letters.ensures.told told))

pub returns-then-not-branch-2-clause-looks : goal.returns-then-not-branch-2-clause-looks
returns-then-not-branch-2-clause-looks g c told =
    let s0 : Scene = g.D.World.scene c.args.desk.now in
    let s1 : Scene = g.D.World.scene c.letters.desk in
    let s2 : Scene = g.D.World.scene c.has-in-letters.new.self in
    looks_on s0 s1 s2 (reads_change s0 s1 c.letters.invariant.kept.frame) (c.letters.invariant.looks told) (one_look Looked (c.deref-in-letters.result.now ∷ []) c.has-in-letters.result s1 s2 c.has-in-letters.ensures.kept.frame (c.has-in-letters.ensures.told told))

pub returns-then-not-branch-2-clause-found : goal.returns-then-not-branch-2-clause-found
returns-then-not-branch-2-clause-found g c told =
    let name = c.args.name.now in
    let s0 : Scene = g.D.World.scene c.args.desk.now in
    let left = c.letters.left - 1 in
    let this = lettered name (97 + left) in
    let same = (c.letters.invariant.looks told).now in
    let bytes : c.deref-in-letters.result.now ≡ this = c.deref-in-letters.ensures ∙ c.in_ok-backup.ensures in
    let free : is_some (content_in s0.folder this) ≡ false =
    ap (λ (b : Name). is_some (content_in s0.folder b)) (sym bytes) ∙ ap (λ (d : Disk). is_some (content_in d c.deref-in-letters.result.now)) (sym same) ∙ sym (c.in_ok-has-2.ensures.value told) ∙ c.if-not-branch-2.true in
    let next : c.letters.left ≡ suc left = omega (arith, c.letters-test.true) in
    c.letters.invariant.rest told ∙ ap (λ (ns : List Name). first_free s0.folder ns) (letters_next name c.letters.left left next) ∙ free_here s0.folder this (map (lettered name) (letters left)) free
    ∙ ap (λ (b : Name). Some b) (sym c.in_ok-backup.ensures)

pub returns-then-not-branch-2-clause-named : goal.returns-then-not-branch-2-clause-named
returns-then-not-branch-2-clause-named g c =
    let name = c.args.name.now in
    subst (λ (b : Name). IsBackupName name b) (sym c.in_ok-backup.ensures) (IsBackupName-lettered name (97 + (c.letters.left - 1)) (some_name name c.requires.allowed))

pub letters-preserved : goal.letters-preserved
letters-preserved g c =
    let name = c.args.name.now in
    let s0 : Scene = g.D.World.scene c.args.desk.now in
    let s1 : Scene = g.D.World.scene c.letters.desk in
    let s2 : Scene = g.D.World.scene c.has-in-letters.new.self in
    let left = c.letters.left - 1 in
    let this = lettered name (97 + left) in
    let bytes : c.deref-in-letters.result.now ≡ this = c.deref-in-letters.ensures ∙ c.in_ok-backup.ensures in
    record {
      kept = OnlyReads-once (λ is. absurd (cc)) (OnlyReads-then g.met.D.Desk.stays_on (λ is. is) c.letters.invariant.kept c.in_ok-has-2.ensures.kept);
      within = omega (arith, c.letters.invariant.within);
      looks = λ told. looks_on s0 s1 s2 (reads_change s0 s1 c.letters.invariant.kept.frame) (c.letters.invariant.looks told)
          (one_look Looked (c.deref-in-letters.result.now ∷ []) c.has-in-letters.result s1 s2 c.has-in-letters.ensures.kept.frame (c.has-in-letters.ensures.told told));
      rest = λ told.
          let same = (c.letters.invariant.looks told).now in
          let taken : is_some (content_in s0.folder this) ≡ true =
          ap (λ (b : Name). is_some (content_in s0.folder b)) (sym bytes) ∙ ap (λ (d : Disk). is_some (content_in d c.deref-in-letters.result.now)) (sym same) ∙ sym (c.in_ok-has-2.ensures.value told) ∙ c.if-not-branch-2.false in
          let next : c.letters.left ≡ suc left = omega (arith, c.letters-test.true) in
          c.letters.invariant.rest told ∙ ap (λ (ns : List Name). first_free s0.folder ns) (letters_next name c.letters.left left next) ∙ free_later s0.folder this (map (lettered name) (letters left)) taken;
    }

pub returns-clause-found : goal.returns-clause-found
returns-clause-found g c told =
    let s0 : Scene = g.D.World.scene c.args.desk.now in
    c.letters.invariant.rest told ∙ none_left s0.folder c.args.name.now c.letters.left (omega (arith, c.letters-test.false))

pub returns-in_err-plain-clause-kept : goal.returns-in_err-plain-clause-kept
returns-in_err-plain-clause-kept g c = going.OnlyReads-nothing c.requires.valid (g.met.D.Desk.stays_itself c.args.desk.now) (going.err_other c.from_residual.result _ _ c.from_residual.ensures.1 (λ is. absurd (cc)))

pub returns-in_err-has-2-clause-kept : goal.returns-in_err-has-2-clause-kept
returns-in_err-has-2-clause-kept g c = going.OnlyReads-as (λ _. refl) (λ calm _. calm (going.err_handed c.from_residual-in_err-has-2.result _ c.from_residual-in_err-has-2.ensures.1)) (going.OnlyReads-then g.met.D.Desk.stays_on (λ is. is) c.letters.invariant.kept c.in_err-has-2.ensures.kept)

pub returns-then-not-branch-2-clause-kept : goal.returns-then-not-branch-2-clause-kept
returns-then-not-branch-2-clause-kept g c = going.OnlyReads-as (λ is. absurd (cc)) (λ _ is. absurd (cc)) (going.OnlyReads-then g.met.D.Desk.stays_on (λ is. is) c.letters.invariant.kept c.in_ok-has-2.ensures.kept)
