-- A step of one of two sessions, or its end: the session works on its own names, or does nothing, so the other one stays.
use Rattle.std.proofs.Common.{◌≡◌, Bool, false, List, [], Option, Some, None, IfSome, IsTrue, refl, sym, ◌∙◌, ap, subst}
use Rattle.std.specs.Prelude.{is_none}
use Rattle.std.proofs.lemmas.Bool.{true≢false}
use Rattle.vs_host.specs.Disk.{Disk}
use Rattle.vs_host.specs.World.{Tells, Scene}
use Rattle.vs_host.specs.declared.names.Names.{Names}
use Rattle.vs_excmd.specs.Request.{Instruction}
use Rattle.vs_excmd.specs.declared.request.Request.{Request}
use Rattle.vs_family.specs.Family.{clash, is_of_family}
use Rattle.vs_safety.specs.Safety.{Looks}
use Rattle.vs_safety.specs.Texts.{Sync}
use Rattle.vs_both.specs.Beside.{GoesBeside}
use Rattle.vs_both.proofs.Quits.{beside_looks, beside_none}
use Rattle.vs_session.specs.Calls.{Finishes, FitsFolder}
use Rattle.vs_session.specs.Fits.{Fits, IsStep, SameFile, StepsIn}
use Rattle.vs_session.specs.Session.{SessionState}
use Rattle.vs_session.specs.declared.ending.End.{End}
use Rattle.vs_session.specs.declared.ending.End.TheVariants as end
use Rattle.vs_session.specs.declared.session.Session.{Session}
use Rattle.vs_session.specs.declared.session.Step.{Step}
use Rattle.vs_session.specs.declared.session.Step.TheVariants as step
use Rattle.vs_session.proofs.Requests.{some_command}
use Rattle.vs_multi.specs.Sessions.{AreOwn, AreOwnWhere, FitsWhere, Stays, file_name_of}
use Rattle.vs_multi.specs.Steps.{AnswersWhere, TakesStep}
use Rattle.vs_multi.specs.declared.multi.MultiStep.{MultiStep}
use Rattle.vs_multi.specs.declared.multi.MultiStep.TheVariants as answer
use Rattle.vs_multi.proofs.Beside.{AreClear, leaves, named, party_on, works_beside, works_own}

-- ---- the session that is asked

module _ (before after : Session) (old new : Scene) (instruction : Instruction) (state : SessionState) (syncs : List Sync) where
  fits_after : (answered : Step) → Fits before old.folder state syncs → IsStep answered state syncs instruction before after old new → (later : SessionState) × (synced : List Sync) × Fits after new.folder later synced
  fits_after (step.Answer mark reply) fits is = (_, _, is.fits)
  fits_after step.Quit fits is =
      (state, syncs, subst (λ (s : Session). Fits s new.folder state syncs) (sym is.1) (subst (λ (d : Disk). Fits before d state syncs) (sym is.3) fits))

pub takes_fits : (tells : Tells) (request : Request) (answered : Step) (before after : Session) (old new : Scene) → FitsFolder tells before old.folder → TakesStep tells request answered before after old new → FitsFolder tells after new.folder
takes_fits tells request answered before after old new fits takes told =
    let was = fits told in
    let meant = some_command request in
    fits_after before after old new meant.0 was.0 was.1 answered was.2 (takes.step told was.0 was.1 meant.0 was.2 meant.1)

-- ---- the other one

module _ (before after theirs : Session) (clear : clash (file_name_of before) (file_name_of theirs) ≡ false) (old new : Scene) (instruction : Instruction) (state their_state : SessionState) (syncs their_syncs : List Sync)
    (fits : Fits before old.folder state syncs) (their_fits : Fits theirs old.folder their_state their_syncs) (own : AreOwn (file_name_of before) (file_name_of theirs) old.folder) (frame : StepsIn old new) where
  step_leaves : (answered : Step) → IsStep answered state syncs instruction before after old new → GoesBeside (is_of_family (file_name_of theirs)) old new × AreOwn (file_name_of before) (file_name_of theirs) new.folder
  step_leaves (step.Answer mark reply) is =
      let mine = named before old.folder state syncs fits in
      let other = named theirs old.folder their_state their_syncs their_fits in (
        works_beside before theirs clear mine other _ _ old new is.stepped.works own,
        works_own before theirs clear mine other _ _ old new is.stepped.works own,
      )
  step_leaves step.Quit is =
      let looks : Looks old new = record { moments = record { added = []; is = is.2; each = tt }; output = ap (λ (s : Scene). s.output) frame; folder = is.3; faults = is.4 } in
      (beside_looks (party_on (file_name_of theirs)) old new looks, subst (λ (d : Disk). AreOwn (file_name_of before) (file_name_of theirs) d) (sym is.3) own)

module _ (tells : Tells) (request : Request) (answered : Step) (before after theirs : Session) (old new : Scene) (clear : clash (file_name_of before) (file_name_of theirs) ≡ false) (fits : FitsFolder tells before old.folder) (their_fits : FitsFolder tells theirs old.folder)
    (own : IsTrue tells.folder → AreOwn (file_name_of before) (file_name_of theirs) old.folder) (takes : TakesStep tells request answered before after old new) where
  takes_leaves : IsTrue tells.folder → GoesBeside (is_of_family (file_name_of theirs)) old new × AreOwn (file_name_of before) (file_name_of theirs) new.folder
  takes_leaves told =
      let was = fits told in
      let other = their_fits told in
      let meant = some_command request in
      step_leaves before after theirs clear old new meant.0 was.0 other.0 was.1 other.1 was.2 other.2 (own told) takes.frame answered (takes.step told was.0 was.1 meant.0 was.2 meant.1)

same_file : (before after : Session) → SameFile before after → file_name_of after ≡ file_name_of before
same_file before after same = ap (λ (n : Names). n.file) same.names

-- ---- sessions that may have been finished

pub where_fits : (tells : Tells) (request : Request) (answered : MultiStep) (before after : Option Session) (old new : Scene) → FitsWhere tells before old.folder → AnswersWhere tells request answered before after old new → FitsWhere tells after new.folder
where_fits tells request answer.Ended before after old new fits answers =
    subst (λ (o : Option Session). FitsWhere tells o new.folder) (sym answers.0) (subst (λ (s : Scene). FitsWhere tells before s.folder) (sym answers.1) fits)
where_fits tells request (answer.Step answered) None after old new fits answers = absurd answers
where_fits tells request (answer.Step answered) (Some before) None old new fits answers = absurd answers
where_fits tells request (answer.Step answered) (Some before) (Some after) old new fits answers = takes_fits tells request answered before after old new fits answers

pub where_clear : (tells : Tells) (request : Request) (answered : MultiStep) (before after theirs : Option Session) (old new : Scene) → AreClear before theirs → AnswersWhere tells request answered before after old new → AreClear after theirs
where_clear tells request answer.Ended before after theirs old new clear answers = subst (λ (o : Option Session). AreClear o theirs) (sym answers.0) clear
where_clear tells request (answer.Step answered) None after theirs old new clear answers = absurd answers
where_clear tells request (answer.Step answered) (Some before) None theirs old new clear answers = absurd answers
where_clear tells request (answer.Step answered) (Some before) (Some after) None old new clear answers = tt
where_clear tells request (answer.Step answered) (Some before) (Some after) (Some theirs) old new clear answers =
    ap (λ file. clash file (file_name_of theirs)) (same_file before after answers.file) ∙ clear

pub where_stays : (tells : Tells) (request : Request) (answered : MultiStep) (before after theirs : Option Session) (old new : Scene) → AreClear before theirs → FitsWhere tells before old.folder → FitsWhere tells theirs old.folder
    → AreOwnWhere tells before theirs old.folder → AnswersWhere tells request answered before after old new → Stays tells theirs old new
where_stays tells request answered before after None old new clear fits their_fits own answers = tt
where_stays tells request answer.Ended before after (Some theirs) old new clear fits their_fits own answers =
    leaves tells theirs old new (λ told. subst (λ (s : Scene). GoesBeside (is_of_family (file_name_of theirs)) old s) (sym answers.1) (beside_none (party_on (file_name_of theirs)) old))
where_stays tells request (answer.Step answered) None after (Some theirs) old new clear fits their_fits own answers = absurd answers
where_stays tells request (answer.Step answered) (Some before) None (Some theirs) old new clear fits their_fits own answers = absurd answers
where_stays tells request (answer.Step answered) (Some before) (Some after) (Some theirs) old new clear fits their_fits own answers =
    leaves tells theirs old new (λ told. (takes_leaves tells request answered before after theirs old new clear fits their_fits own answers told).0)

pub where_own : (tells : Tells) (request : Request) (answered : MultiStep) (before after theirs : Option Session) (old new : Scene) → AreClear before theirs → FitsWhere tells before old.folder → FitsWhere tells theirs old.folder
    → AreOwnWhere tells before theirs old.folder → AnswersWhere tells request answered before after old new → AreOwnWhere tells after theirs new.folder
where_own tells request answer.Ended before after theirs old new clear fits their_fits own answers =
    subst (λ (o : Option Session). AreOwnWhere tells o theirs new.folder) (sym answers.0) (subst (λ (s : Scene). AreOwnWhere tells before theirs s.folder) (sym answers.1) own)
where_own tells request (answer.Step answered) None after theirs old new clear fits their_fits own answers = absurd answers
where_own tells request (answer.Step answered) (Some before) None theirs old new clear fits their_fits own answers = absurd answers
where_own tells request (answer.Step answered) (Some before) (Some after) None old new clear fits their_fits own answers = tt
where_own tells request (answer.Step answered) (Some before) (Some after) (Some theirs) old new clear fits their_fits own answers = λ told.
    subst (λ file. AreOwn file (file_name_of theirs) new.folder) (sym (same_file before after answers.file))
    (takes_leaves tells request answered before after theirs old new clear fits their_fits own answers told).1

-- ---- the end of a session

module _ (tells : Tells) (mine theirs : Session) (old new : Scene) (done : Bool) (clear : clash (file_name_of mine) (file_name_of theirs) ≡ false) (fits : FitsFolder tells mine old.folder) (their_fits : FitsFolder tells theirs old.folder)
    (own : IsTrue tells.folder → AreOwn (file_name_of mine) (file_name_of theirs) old.folder) where
  end_leaves : (how : End) → Finishes tells mine old new how done → IsTrue tells.folder → GoesBeside (is_of_family (file_name_of theirs)) old new
  end_leaves end.Sync finishes told =
      let was = fits told in
      let other = their_fits told in
      works_beside mine theirs clear (named mine old.folder was.0 was.1 was.2) (named theirs old.folder other.0 other.1 other.2) _ _ old new (finishes.sync refl told was.0 was.1 was.2).works (own told)
  end_leaves end.Quit finishes told =
      let was = fits told in
      let other = their_fits told in
      works_beside mine theirs clear (named mine old.folder was.0 was.1 was.2) (named theirs old.folder other.0 other.1 other.2) _ _ old new (finishes.quit refl told was.0 was.1 was.2).works (own told)

end_stays : (tells : Tells) (mine : Session) (theirs : Option Session) (old new : Scene) (how : End) (done : Bool) → AreClear (Some mine) theirs → FitsFolder tells mine old.folder → FitsWhere tells theirs old.folder
    → AreOwnWhere tells (Some mine) theirs old.folder → Finishes tells mine old new how done → Stays tells theirs old new
end_stays tells mine None old new how done clear fits their_fits own finishes = tt
end_stays tells mine (Some theirs) old new how done clear fits their_fits own finishes =
    leaves tells theirs old new (end_leaves tells mine theirs old new done clear fits their_fits own how finishes)

pub where_ended : (tells : Tells) (mine theirs : Option Session) (old new : Scene) (how : End) (done : Bool) → is_none mine ≡ false → AreClear mine theirs → FitsWhere tells mine old.folder → FitsWhere tells theirs old.folder
    → AreOwnWhere tells mine theirs old.folder → IfSome mine (λ session. Finishes tells session old new how done) → Stays tells theirs old new
where_ended tells None theirs old new how done there clear fits their_fits own finishes = absurd (true≢false there)
where_ended tells (Some mine) theirs old new how done there clear fits their_fits own finishes = end_stays tells mine theirs old new how done clear fits their_fits own finishes
