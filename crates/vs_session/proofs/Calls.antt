-- How a session goes on over one call is told of over the next.
use Rattle.std.specs.Prelude.{string_bytes}
use Rattle.std.proofs.Common.{◌≡◌, Result, Ok, Err, IsErrAnd, IsErrOf, sym, ◌∙◌, ap}
use Rattle.vs_faults.specs.OneCause.{HasOneCause}
use Rattle.vs_faults.proofs.OneCause.{one_as}
use Rattle.vs_faults.proofs.Causes.{HasCause-then, HasCause-weaker}
use Rattle.vs_host.specs.World.{Tells, Scene}
use Rattle.vs_disk.proofs.Runs.{looks_on, reads_change}
use Rattle.vs_pair.specs.Lent.{KeepsFiles}
use Rattle.vs_pair.specs.declared.files.SwapFiles.{SwapFiles}
use Rattle.vs_pair.specs.declared.pair.SwapPair.{SwapPair}
use Rattle.vs_disk.specs.Faults.{earlier_faults}
use Rattle.vs_paged.specs.declared.paged.PagedText.{PagedText}
use Rattle.vs_backup.proofs.Counted.{stops_counted}
use Rattle.vs_backup.proofs.Stops.{stops_as, stops_then}
use Rattle.vs_backup.specs.Desks.{StopsAtFault}
use Rattle.vs_session.specs.declared.session.Session.{Session}
use Rattle.vs_session.specs.declared.taking.TakeErr.{TakeErr}
use Rattle.vs_session.specs.Calls.{GoesOn, GoesOnReading, OnlyReads}
use Rattle.vs_session.specs.Fits.{FitsUndo}
use Rattle.vs_paged.proofs.TurnLemmas.{keeps_known}
use Rattle.vs_session.specs.Lent.{KeepsText}
use Rattle.vs_session.proofs.OpenLemmas.{ReadsFolder-trans}

-- a failure that is told of in other words
pub GoesOn-weaker : {F G : Type 0} {before after : Session} {old new : Scene} → GoesOn F before after old new → (G → F) → GoesOn G before after old new
GoesOn-weaker is so = record { frame = is.frame; file = is.file; generation = is.generation; known = is.known; undo = is.undo; cause = HasCause-weaker is.cause so }

pub reads_as : (tells : Tells) (F G : Type 0) (old new : Scene) → OnlyReads tells F old new → (F → G) → (G → F) → OnlyReads tells G old new
reads_as tells F G old new is on back = record { frame = is.frame; looks = is.looks; stops = stops_as tells F G old new (λ calm failed. calm (on failed)) is.stops; cause = HasCause-weaker is.cause back }

-- a text in the pages of a pair was worked on, and the answer says of failures as much as the store did
pub reads_stop : (tells : Tells) (F G : Type 0) (before after : SwapPair) (old new : Scene) → KeepsFiles tells before after old new
    → HasOneCause old.folder_faults new.folder_faults (earlier_faults tells new) F → (F → G) → StopsAtFault tells G old new
reads_stop tells F G before after old new keeps cause says =
    stops_as tells F G old new (λ calm failed. calm (says failed)) (stops_counted tells F old new keeps.frame keeps.counts cause)

-- a text that is kept, in other words
pub KeepsText-as : {tells : Tells} {F G : Type 0} {before after : PagedText} {old new : Scene} → KeepsText tells F before after old new → (G → F) → (F → G) → KeepsText tells G before after old new
KeepsText-as is on back = record { fits = is.fits; lines = is.lines; keeps = is.keeps; cause = one_as is.cause on back }

-- a session goes on whose text was worked on
pub goes_reading : (tells : Tells) (F G : Type 0) (before after : Session) (old new : Scene) → string_bytes after.name ≡ string_bytes before.name → after.found ≡ before.found
    → KeepsFiles tells before.text.pair after.text.pair old new → FitsUndo after → HasOneCause old.folder_faults new.folder_faults (earlier_faults tells new) F → (F → G) → (G → F)
    → GoesOnReading tells G before after old new
goes_reading tells F G before after old new name found keeps undo cause on back = record {
  frame = keeps.frame;
  looks = keeps.looks;
  stops = reads_stop tells F G before.text.pair after.text.pair old new keeps cause on;
  file = record { name = name; found = found; names = ap (λ (f : SwapFiles). f.names) keeps.files };
  generation = ap (λ (f : SwapFiles). f.generation) keeps.files;
  known = keeps_known before.text.pair after.text.pair keeps.files;
  undo = undo;
  cause = record { later = cause.later; risen = λ failed. cause.risen (back failed) };
}

-- a text in the pages of a pair is read after that
pub reads_then : (tells : Tells) (F G : Type 0) (before after : SwapPair) (old mid new : Scene) → OnlyReads tells F old mid → ¬ F → KeepsFiles tells before after mid new
    → HasOneCause mid.folder_faults new.folder_faults (earlier_faults tells new) G → OnlyReads tells G old new
reads_then tells F G before after old mid new first calm keeps cause = record {
  frame = ReadsFolder-trans old mid new first.frame keeps.frame;
  looks = λ told. looks_on old mid new (reads_change old mid first.frame) (first.looks told) (keeps.looks told);
  stops = stops_then tells F G old mid new calm first.stops (stops_counted tells G mid new keeps.frame keeps.counts cause);
  cause = HasCause-then first.cause (record { later = cause.later; risen = cause.risen });
}

-- an error that was handed on was the same before
pub handed_from : {T U : Type 0} (r : Result T TakeErr) (e f : TakeErr) → IsErrAnd r (λ x. x ≡ e) → IsErrOf r f → IsErrOf {T = U} (Err e) f
handed_from (Ok x) e f is of = absurd is
handed_from (Err x) e f is of = let one : x ≡ f = cc in ap (λ (y : TakeErr). Err y) (sym is ∙ one)
