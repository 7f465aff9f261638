use Rattle.std.proofs.Common.{◌≡◌, ◌∙◌, [], ◌∷◌, inl, inr, ℕ, List, true, false, Option, None, option_map, refl, ap, sym, subst, Result}
use Rattle.std.specs.Prelude.{is_some}
use Rattle.std.proofs.lemmas.Bool.{true≢false}
use Rattle.vs_text.specs.Documents.{file_in}
use Rattle.vs_host.specs.Disk.{Disk, Name, content_in, mode_in}
use Rattle.vs_host.specs.Names.{names_of_file, temporary}
use Rattle.vs_host.specs.Trace.{Looked}
use Rattle.vs_host.specs.World.{Scene, content_of}
use Rattle.vs_disk.proofs.Contents.{leads_nowhere}
use Rattle.vs_disk.proofs.Runs.{one_look, reads_change}
use Rattle.vs_backup.specs.Backups.{WorksOn, backup_of, copies}
use Rattle.vs_backup.specs.Writing.{backed_names}
use Rattle.vs_backup.proofs.Backed.{backed_after}
use Rattle.vs_backup.proofs.Following.{looks_narrowed}
use Rattle.vs_backup.proofs.NamesApart.{are_names, file_apart, backup_apart, temporary_apart}
use Rattle.vs_backup.proofs.Others.{others_looks}
use Rattle.vs_backup.specs.declared.errors.Place.TheVariants as place
use Rattle.vs_backup.specs.declared.errors.WriteErr.TheVariants as error
use Rattle.vs_backup.proofs.Whole.{unseen, told_alone, none_after, plain_after, fresh_after, fresh_others, others_after, not_there_now}
use Rattle.vs_backup.proofs.Modes.{makes_like, makes_looked, makes_looks, usual_after, usual_any}
use Rattle.vs_backup.proofs.Doing as doing
use Rattle.vs_backup.specs.Writing.{FailsNoEarlier}
use Rattle.vs_backup.specs.declared.errors.WriteErr.{WriteErr}
use Rattle.vs_backup.proofs.write.write_out.Goals as goal

pub write_there-requires-clause-apart : goal.write_there-requires-clause-apart
write_there-requires-clause-apart g c reads =
    let read = g.met.D.Desk.stays_reads c.args.desk.now c.has.new.self c.args.name.now c.has.ensures.kept.stays reads in
    file_apart (names_of_file c.args.name.now) (are_names c.args.name.now c.requires.allowed) (c.requires.reads c.args.name.now read)

pub write_there-requires-clause-apart_backup : goal.write_there-requires-clause-apart_backup
write_there-requires-clause-apart_backup g c backup named reads =
    let read = g.met.D.Desk.stays_reads c.args.desk.now c.has.new.self backup c.has.ensures.kept.stays reads in
    backup_apart (names_of_file c.args.name.now) (are_names c.args.name.now c.requires.allowed) backup named (c.requires.reads backup read)

pub write_there-requires-clause-apart_temporary : goal.write_there-requires-clause-apart_temporary
write_there-requires-clause-apart_temporary g c other reads =
    let read = g.met.D.Desk.stays_reads c.args.desk.now c.has.new.self (temporary other) c.has.ensures.kept.stays reads in
    temporary_apart (names_of_file c.args.name.now) (are_names c.args.name.now c.requires.allowed) other (c.requires.reads (temporary other) read)

pub write_new-requires-clause-apart : goal.write_new-requires-clause-apart
write_new-requires-clause-apart g c reads =
    let read = g.met.D.Desk.stays_reads c.args.desk.now c.has.new.self c.args.name.now c.has.ensures.kept.stays reads in
    file_apart (names_of_file c.args.name.now) (are_names c.args.name.now c.requires.allowed) (c.requires.reads c.args.name.now read)

pub write_new-requires-clause-apart_temporary : goal.write_new-requires-clause-apart_temporary
write_new-requires-clause-apart_temporary g c reads =
    let read = g.met.D.Desk.stays_reads c.args.desk.now c.has.new.self c.args.file_new.now c.has.ensures.kept.stays reads in
    temporary_apart (names_of_file c.args.name.now) (are_names c.args.name.now c.requires.allowed) c.args.name.now
    (c.requires.reads (temporary c.args.name.now) (subst (λ (n : Name). g.D.Desk.reads c.args.desk.now n) c.requires.file_new read))

pub returns-in-Ok-true-clause-backed : goal.returns-in-Ok-true-clause-backed
returns-in-Ok-true-clause-backed g c told old content backup chosen text has =
    let name = c.args.name.now in
    let options = c.args.options.now in
    let s0 : Scene = g.D.World.scene c.args.desk.now in
    let s1 : Scene = g.D.World.scene c.has.new.self in
    let s2 : Scene = g.D.World.scene c.write_there.new.desk in
    let looks = one_look Looked (c.args.name.now ∷ []) c.has.result s0 s1 c.has.ensures.kept.frame (c.has.ensures.told told) in
    let same = looks.now in
    let kept = g.met.D.Desk.stays_text c.args.desk.now c.has.new.self text c.has.ensures.kept.stays has in
    let writes = c.write_there.ensures.backed told in
    inr (backed_after (copies options.copy) options.backup name (temporary backup) backup old (file_in c.args.options.now.format text) s0 s1 content (looks_narrowed s0 s1 looks)
    (others_looks (backed_names (copies options.copy) name (temporary backup) backup) s0 s1 looks) c.write_there.result s2
    (reads_change s0 s1 c.has.ensures.kept.frame) c.has.ensures.kept.cause.later
    (writes old (ap (λ (d : Disk). content_in d name) same ∙ content) backup (ap (λ (d : Disk). backup_of options name d) same ∙ chosen) text kept))

pub returns-in-Ok-true-clause-all_taken : goal.returns-in-Ok-true-clause-all_taken
returns-in-Ok-true-clause-all_taken g c told there on taken =
    let name = c.args.name.now in
    let options = c.args.options.now in
    let s0 : Scene = g.D.World.scene c.args.desk.now in
    let s1 : Scene = g.D.World.scene c.has.new.self in
    let s2 : Scene = g.D.World.scene c.write_there.new.desk in
    let looks = one_look Looked (c.args.name.now ∷ []) c.has.result s0 s1 c.has.ensures.kept.frame (c.has.ensures.told told) in
    let none = c.write_there.ensures.all_taken told in
    inr (none_after s0 s1 s2 c.has.ensures.kept.frame looks c.write_there.result (c.in-Ok-true.ensures.kept.stops.none told (λ is. absurd (cc))) (none on (ap (λ (d : Disk). backup_of options name d) looks.now ∙ taken)))

pub returns-in-Ok-true-clause-plain : goal.returns-in-Ok-true-clause-plain
returns-in-Ok-true-clause-plain g c told old content off text has =
    let name = c.args.name.now in
    let options = c.args.options.now in
    let s0 : Scene = g.D.World.scene c.args.desk.now in
    let s1 : Scene = g.D.World.scene c.has.new.self in
    let s2 : Scene = g.D.World.scene c.write_there.new.desk in
    let looks = one_look Looked (c.args.name.now ∷ []) c.has.result s0 s1 c.has.ensures.kept.frame (c.has.ensures.told told) in
    let kept = g.met.D.Desk.stays_text c.args.desk.now c.has.new.self text c.has.ensures.kept.stays has in
    let writes = c.write_there.ensures.plain told in
    inr (plain_after s0 s1 s2 c.has.ensures.kept.frame looks c.write_there.result name old (file_in c.args.options.now.format text) (writes old (ap (λ (d : Disk). content_in d name) looks.now ∙ content) off text kept))

pub returns-in-Ok-false-clause-fresh : goal.returns-in-Ok-false-clause-fresh
returns-in-Ok-false-clause-fresh g c told free text has =
    let name = c.args.name.now in
    let s0 : Scene = g.D.World.scene c.args.desk.now in
    let s1 : Scene = g.D.World.scene c.has.new.self in
    let s2 : Scene = g.D.World.scene c.write_new.new.desk in
    let looks = one_look Looked (c.args.name.now ∷ []) c.has.result s0 s1 c.has.ensures.kept.frame (c.has.ensures.told told) in
    let kept = g.met.D.Desk.stays_text c.args.desk.now c.has.new.self text c.has.ensures.kept.stays has in
    let named = c.write_new.ensures.fresh told in
    let fresh = named (ap (λ (d : Disk). content_in d name) looks.now ∙ free) text kept in
    inr (record {
      answer = c.write_new.result;
      is = c.without_backup.ensures;
      fresh = fresh_after s0 s1 s2 c.has.ensures.kept.frame looks c.without_backup.result c.args.file_new.now name (file_in c.args.options.now.format text) c.write_new.result fresh;
    })

pub returns-in-Err-clause-backed : goal.returns-in-Err-clause-backed
returns-in-Err-clause-backed g c told old content backup chosen text has =
    let s0 : Scene = g.D.World.scene c.args.desk.now in
    let s1 : Scene = g.D.World.scene c.has.new.self in
    inl (unseen s0 s1 (one_look Looked (c.args.name.now ∷ []) c.has.result s0 s1 c.has.ensures.kept.frame (c.has.ensures.told told)) (c.in-Err.ensures.kept.stops.last told))

pub returns-in-Err-clause-all_taken : goal.returns-in-Err-clause-all_taken
returns-in-Err-clause-all_taken g c told there on taken =
    let s0 : Scene = g.D.World.scene c.args.desk.now in
    let s1 : Scene = g.D.World.scene c.has.new.self in
    inl (unseen s0 s1 (one_look Looked (c.args.name.now ∷ []) c.has.result s0 s1 c.has.ensures.kept.frame (c.has.ensures.told told)) (c.in-Err.ensures.kept.stops.last told))

pub returns-in-Err-clause-plain : goal.returns-in-Err-clause-plain
returns-in-Err-clause-plain g c told old content off text has =
    let s0 : Scene = g.D.World.scene c.args.desk.now in
    let s1 : Scene = g.D.World.scene c.has.new.self in
    inl (unseen s0 s1 (one_look Looked (c.args.name.now ∷ []) c.has.result s0 s1 c.has.ensures.kept.frame (c.has.ensures.told told)) (c.in-Err.ensures.kept.stops.last told))

pub returns-in-Err-clause-fresh : goal.returns-in-Err-clause-fresh
returns-in-Err-clause-fresh g c told free text has =
    let s0 : Scene = g.D.World.scene c.args.desk.now in
    let s1 : Scene = g.D.World.scene c.has.new.self in
    inl (unseen s0 s1 (one_look Looked (c.args.name.now ∷ []) c.has.result s0 s1 c.has.ensures.kept.frame (c.has.ensures.told told)) (c.in-Err.ensures.kept.stops.last told))

pub returns-in-Ok-true-clause-others : goal.returns-in-Ok-true-clause-others
returns-in-Ok-true-clause-others g c told =
    let options = c.args.options.now in
    let s0 : Scene = g.D.World.scene c.args.desk.now in
    let s1 : Scene = g.D.World.scene c.has.new.self in
    let s2 : Scene = g.D.World.scene c.write_there.new.desk in
    let looks = one_look Looked (c.args.name.now ∷ []) c.has.result s0 s1 c.has.ensures.kept.frame (c.has.ensures.told told) in
    others_after options c.args.name.now s0 s1 s2 c.has.ensures.kept.frame looks
    (c.write_there.ensures.others told)

pub returns-in-Ok-false-clause-others : goal.returns-in-Ok-false-clause-others
returns-in-Ok-false-clause-others g c told =
    let name = c.args.name.now in
    let made = c.args.file_new.now in
    let options = c.args.options.now in
    let s0 : Scene = g.D.World.scene c.args.desk.now in
    let s1 : Scene = g.D.World.scene c.has.new.self in
    let s2 : Scene = g.D.World.scene c.write_new.new.desk in
    let looks = one_look Looked (c.args.name.now ∷ []) c.has.result s0 s1 c.has.ensures.kept.frame (c.has.ensures.told told) in
    let text = g.met.D.Desk.tells_one c.args.desk.now c.requires.valid told in
    let kept = g.met.D.Desk.stays_text c.args.desk.now c.has.new.self text.0 c.has.ensures.kept.stays text.1 in
    let none = not_there_now c.args.name.now s0.folder (sym c.in-Ok-false.field-0-test ∙ c.in-Ok-false.ensures.value told) in
    let named = c.write_new.ensures.fresh told in
    let free : content_of s1 name ≡ None = ap (λ (d : Disk). content_in d name) looks.now ∙ none in
    let fresh = named free text.0 kept in
    others_after options name s0 s1 s2 c.has.ensures.kept.frame looks (fresh_others options name s1 s2 made (file_in c.args.options.now.format text.0) c.write_new.result free c.requires.file_new fresh)

pub returns-in-Err-clause-others : goal.returns-in-Err-clause-others
returns-in-Err-clause-others g c told =
    let s0 : Scene = g.D.World.scene c.args.desk.now in
    let s1 : Scene = g.D.World.scene c.has.new.self in
    others_looks (WorksOn c.args.options.now c.args.name.now s0.folder) s0 s1
    (one_look Looked (c.args.name.now ∷ []) c.has.result s0 s1 c.has.ensures.kept.frame (c.has.ensures.told told))

pub returns-in-Ok-true-clause-unseen : goal.returns-in-Ok-true-clause-unseen
returns-in-Ok-true-clause-unseen g c told there on refused = absurd (c.write_there.ensures.somewhere told on refused)

pub returns-in-Ok-false-clause-unseen : goal.returns-in-Ok-false-clause-unseen
returns-in-Ok-false-clause-unseen g c told there on refused =
    let s0 : Scene = g.D.World.scene c.args.desk.now in
    let none = not_there_now c.args.name.now s0.folder (sym c.in-Ok-false.field-0-test ∙ c.in-Ok-false.ensures.value told) in
    absurd (true≢false (sym there ∙ ap (λ (o : Option (List ℕ)). is_some o) none))

pub returns-in-Err-clause-unseen : goal.returns-in-Err-clause-unseen
returns-in-Err-clause-unseen g c told there on refused =
    let s0 : Scene = g.D.World.scene c.args.desk.now in
    let s1 : Scene = g.D.World.scene c.has.new.self in
    told_alone c.args.name.now c.has.result s0 s1 (error.Failed place.Nowhere) (c.has.ensures.told told)

pub returns-in-Ok-true-clause-calls : goal.returns-in-Ok-true-clause-calls
returns-in-Ok-true-clause-calls g c = λ told text has.
    let s0 : Scene = g.D.World.scene c.args.desk.now in
    let s1 : Scene = g.D.World.scene c.has.new.self in
    let s2 : Scene = g.D.World.scene c.write_there.new.desk in
    let kept = g.met.D.Desk.stays_text c.args.desk.now c.has.new.self text c.has.ensures.kept.stays has in
    doing.fails_then c.args.name.now (file_in c.args.options.now.format text) c.write_there.result s0 s1 s2 (c.in-Ok-true.ensures.kept.stops.none told (λ is. absurd (cc)))
    (c.write_there.ensures.calls told text kept)

pub returns-in-Ok-false-clause-calls : goal.returns-in-Ok-false-clause-calls
returns-in-Ok-false-clause-calls g c = λ told text has.
    let name = c.args.name.now in
    let s0 : Scene = g.D.World.scene c.args.desk.now in
    let s1 : Scene = g.D.World.scene c.has.new.self in
    let s2 : Scene = g.D.World.scene c.write_new.new.desk in
    let looks = one_look Looked (c.args.name.now ∷ []) c.has.result s0 s1 c.has.ensures.kept.frame (c.has.ensures.told told) in
    let kept = g.met.D.Desk.stays_text c.args.desk.now c.has.new.self text c.has.ensures.kept.stays has in
    let none = not_there_now c.args.name.now s0.folder (sym c.in-Ok-false.field-0-test ∙ c.in-Ok-false.ensures.value told) in
    let named = c.write_new.ensures.fresh told in
    let fresh = named (ap (λ (d : Disk). content_in d name) looks.now ∙ none) text kept in
    doing.fails_then name (file_in c.args.options.now.format text) c.without_backup.result s0 s1 s2 (c.in-Ok-false.ensures.kept.stops.none told (λ is. absurd (cc)))
    (subst (λ (r : Result ℕ WriteErr). FailsNoEarlier name (file_in c.args.options.now.format text) s1 s2 r) (sym c.without_backup.ensures)
    (doing.fails_plain name (file_in c.args.options.now.format text) g.D.World.tells c.write_new.result s1 s2 told (g.D.World.newest c.write_new.new.desk told) c.write_new.ensures.kept.stops c.write_new.ensures.kept.cause fresh.written))

pub returns-in-Err-clause-calls : goal.returns-in-Err-clause-calls
returns-in-Err-clause-calls g c told text has =
    let s0 : Scene = g.D.World.scene c.args.desk.now in
    let s1 : Scene = g.D.World.scene c.has.new.self in
    record { done = tt; refused = doing.refused_at g.D.World.tells place.Nowhere (λ e. cc) s0 s1 told refl c.in-Err.ensures.kept.stops c.in-Err.ensures.kept.cause }

pub returns-in-Ok-true-clause-looked : goal.returns-in-Ok-true-clause-looked
returns-in-Ok-true-clause-looked g c told =
    let s0 : Scene = g.D.World.scene c.args.desk.now in
    let s1 : Scene = g.D.World.scene c.has.new.self in
    let s2 : Scene = g.D.World.scene c.write_there.new.desk in
    let text = g.met.D.Desk.tells_one c.args.desk.now c.requires.valid told in
    let kept = g.met.D.Desk.stays_text c.args.desk.now c.has.new.self text.0 c.has.ensures.kept.stays text.1 in
    inr (doing.looks_write c.args.name.now true s0 s1 s2 (file_in c.args.options.now.format text.0) c.write_there.result (c.in-Ok-true.ensures.told told) (c.write_there.ensures.calls told text.0 kept))

pub returns-in-Ok-false-clause-looked : goal.returns-in-Ok-false-clause-looked
returns-in-Ok-false-clause-looked g c told =
    let s0 : Scene = g.D.World.scene c.args.desk.now in
    let s1 : Scene = g.D.World.scene c.has.new.self in
    let s2 : Scene = g.D.World.scene c.write_new.new.desk in
    inr (doing.looks_last c.args.name.now false s0 s1 s2 (c.in-Ok-false.ensures.told told) (c.write_new.ensures.kept.stops.last told))

pub returns-in-Err-clause-looked : goal.returns-in-Err-clause-looked
returns-in-Err-clause-looked g c told =
    let s0 : Scene = g.D.World.scene c.args.desk.now in
    let s1 : Scene = g.D.World.scene c.has.new.self in
    inl (unseen s0 s1 (one_look Looked (c.args.name.now ∷ []) c.has.result s0 s1 c.has.ensures.kept.frame (c.has.ensures.told told)) (c.in-Err.ensures.kept.stops.last told))

pub returns-in-Ok-true-clause-modes : goal.returns-in-Ok-true-clause-modes
returns-in-Ok-true-clause-modes g c there =
    let s0 : Scene = g.D.World.scene c.args.desk.now in
    let s1 : Scene = g.D.World.scene c.has.new.self in
    let s2 : Scene = g.D.World.scene c.write_there.new.desk in
    makes_like g.D.World.tells c.args.name.now s0 s2
    (makes_looked g.D.World.tells.folder c.args.name.now s0 s1 s2 (reads_change s0 s1 c.has.ensures.kept.frame)
    (λ is. one_look Looked (c.args.name.now ∷ []) c.has.result s0 s1 c.has.ensures.kept.frame (c.has.ensures.told is)) c.write_there.ensures.modes)

pub returns-in-Ok-false-clause-modes : goal.returns-in-Ok-false-clause-modes
returns-in-Ok-false-clause-modes g c there told =
    let s0 : Scene = g.D.World.scene c.args.desk.now in
    let none = not_there_now c.args.name.now s0.folder (sym c.in-Ok-false.field-0-test ∙ c.in-Ok-false.ensures.value told) in
    absurd (true≢false (sym there ∙ ap (λ (at : Option ℕ). is_some (option_map s0.folder.modes at)) (leads_nowhere s0.folder c.args.name.now none)))

pub returns-in-Err-clause-modes : goal.returns-in-Err-clause-modes
returns-in-Err-clause-modes g c there =
    let s0 : Scene = g.D.World.scene c.args.desk.now in
    let s1 : Scene = g.D.World.scene c.has.new.self in
    makes_like g.D.World.tells c.args.name.now s0 s1
    (makes_looks g.D.World.tells.folder (mode_in s0.folder c.args.name.now) s0 s1
    (λ is. one_look Looked (c.args.name.now ∷ []) c.has.result s0 s1 c.has.ensures.kept.frame (c.has.ensures.told is)))

pub returns-in-Ok-true-clause-usual : goal.returns-in-Ok-true-clause-usual
returns-in-Ok-true-clause-usual g c told free =
    let s0 : Scene = g.D.World.scene c.args.desk.now in
    let there = sym c.in-Ok-true.field-0-test ∙ c.in-Ok-true.ensures.value told in
    absurd (true≢false (there ∙ ap (λ (o : Option (List ℕ)). is_some o) free))

pub returns-in-Ok-false-clause-usual : goal.returns-in-Ok-false-clause-usual
returns-in-Ok-false-clause-usual g c told free =
    let s0 : Scene = g.D.World.scene c.args.desk.now in
    let s1 : Scene = g.D.World.scene c.has.new.self in
    usual_after (reads_change s0 s1 c.has.ensures.kept.frame)
    (makes_looks g.D.World.tells.folder None s0 s1 (λ is. one_look Looked (c.args.name.now ∷ []) c.has.result s0 s1 c.has.ensures.kept.frame (c.has.ensures.told is))) c.write_new.ensures.modes

pub returns-in-Err-clause-usual : goal.returns-in-Err-clause-usual
returns-in-Err-clause-usual g c told free =
    let s0 : Scene = g.D.World.scene c.args.desk.now in
    let s1 : Scene = g.D.World.scene c.has.new.self in
    usual_any (makes_looks g.D.World.tells.folder None s0 s1 (λ is. one_look Looked (c.args.name.now ∷ []) c.has.result s0 s1 c.has.ensures.kept.frame (c.has.ensures.told is)))
