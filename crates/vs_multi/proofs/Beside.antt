-- What a call on one of two sessions leaves of the other: it works on names of its own family alone.
use Rattle.std.proofs.Common.{◌≡◌, inl, inr, Bool, false, not, ◌||◌, List, [], Option, Some, None, IfSome, IsTrue, sym, ◌∙◌, ap, subst}
use Rattle.std.specs.Str.{bytes_eq}
use Rattle.std.proofs.lemmas.Bool.{cases_Bool, true≢false}
use Rattle.vs_host.specs.Disk.{Disk, Name}
use Rattle.vs_host.specs.Names.{AreNames, names_of_file}
use Rattle.vs_host.specs.World.{Tells, Scene}
use Rattle.vs_host.specs.declared.names.Names.{Names}
use Rattle.vs_disk.specs.Names.{SameAt}
use Rattle.vs_pair.specs.Pair.{is_swap}
use Rattle.vs_pair.proofs.MadeFiles.{same_weaker}
use Rattle.vs_family.specs.Family.{clash, is_of_family}
use Rattle.vs_family.proofs.Families.{clash_either}
use Rattle.vs_safety.specs.FileWork.{FileWork}
use Rattle.vs_safety.specs.Safety.{Works}
use Rattle.vs_safety.specs.Texts.{Sync}
use Rattle.vs_safety.specs.Writes.{AreIn}
use Rattle.vs_both.specs.Beside.{AreBeside, GoesBeside, HasFamily, Party}
use Rattle.vs_both.specs.Parties.{party_of}
use Rattle.vs_both.proofs.Names.{first_stays_apart, share_none}
use Rattle.vs_both.proofs.Parties.{are_beside, has_family}
use Rattle.vs_both.proofs.Quits.{beside_works}
use Rattle.vs_paged.proofs.SyncLemmas.{fits_kept}
use Rattle.vs_session.specs.Fits.{Fits, names_of}
use Rattle.vs_session.specs.Session.{SessionState}
use Rattle.vs_session.specs.declared.session.Session.{Session}
use Rattle.vs_multi.specs.Sessions.{AreOwn, AreOwnWhere, FitsWhere, LeavesSession, Stays, file_name_of}

-- the session on a file, as one of two
abbrev pub party_on : Name → Party
party_on file = party_of file []

-- ---- one session

-- a session that fits the folder has the names of its file
pub named : (session : Session) (disk : Disk) (state : SessionState) (syncs : List Sync) → Fits session disk state syncs → AreNames (names_of session)
named session disk state syncs fits = fits.stands.text.fit.named

-- the names of its swap files are of its family
swap_in : (party : Party) → HasFamily party → AreIn party.family (is_swap party.names)
swap_in party has name is = elim (cases_Bool (party.family name)) [
  | inl within ↦ within
  | inr out ↦ absurd (true≢false (sym (has.pair name (ap not out)) ∙ ap (λ (b : Bool). not (b || (bytes_eq party.names.swp_new name || bytes_eq party.names.swo_new name))) is))
]

-- where these stay, it fits the folder as before
pub fits_beside : (session : Session) (old new : Disk) → SameAt (is_of_family (file_name_of session)) old new → (state : SessionState) (syncs : List Sync) → Fits session old state syncs → Fits session new state syncs
fits_beside session old new same state syncs fits =
    let are = named session old state syncs fits in
    let swap : SameAt (is_swap (names_of session)) old new =
    subst (λ (n : Names). SameAt (is_swap n) old new) (sym are.others)
    (same_weaker (is_of_family (file_name_of session)) (is_swap (names_of_file (file_name_of session))) old new (swap_in (party_on (file_name_of session)) (has_family (file_name_of session) [] are.allowed)) same) in
    record {
      stands = record { text = fits_kept session.text old new state.machine.text syncs swap fits.stands.text; history = fits.stands.history };
      name = fits.name;
      cursor = fits.cursor;
      saved = fits.saved;
      saved_format = fits.saved_format;
      steps = fits.steps;
      options = fits.options;
      acknowledged = fits.acknowledged;
    }

-- what is left of it
pub leaves : (tells : Tells) (session : Session) (old new : Scene) → (IsTrue tells.folder → GoesBeside (is_of_family (file_name_of session)) old new) → LeavesSession tells session old new
leaves tells session old new beside = record {
  beside = beside;
  fits = λ told. fits_beside session old.folder new.folder (beside told).folder;
}

pub stays_fits : (tells : Tells) (session : Option Session) (old new : Scene) → Stays tells session old new → FitsWhere tells session old.folder → FitsWhere tells session new.folder
stays_fits tells None old new stays fits = tt
stays_fits tells (Some session) old new stays fits = λ told. let was = fits told in (was.0, was.1, stays.fits told was.0 was.1 was.2)

-- ---- two sessions

-- the families of two sessions that were not finished share no name
abbrev pub AreClear : Option Session → Option Session → Type 0
AreClear one two = IfSome one (λ first. IfSome two (λ second. clash (file_name_of first) (file_name_of second) ≡ false))

pub clear_swapped : (one two : Option Session) → AreClear one two → AreClear two one
clear_swapped None None clear = tt
clear_swapped None (Some second) clear = tt
clear_swapped (Some first) None clear = tt
clear_swapped (Some first) (Some second) clear = clash_either (file_name_of second) (file_name_of first) ∙ clear

pub own_swapped : (tells : Tells) (one two : Option Session) (disk : Disk) → AreOwnWhere tells one two disk → AreOwnWhere tells two one disk
own_swapped tells None None disk own = tt
own_swapped tells None (Some second) disk own = tt
own_swapped tells (Some first) None disk own = tt
own_swapped tells (Some first) (Some second) disk own = λ told. let both = own told in (both.1, both.0)

-- work of one session
module _ (mine theirs : Session) (clear : clash (file_name_of mine) (file_name_of theirs) ≡ false) (my_names : AreNames (names_of mine)) (their_names : AreNames (names_of theirs)) (write : Option FileWork) (Q : Disk → Type 0) (old new : Scene)
    (works : Works (names_of mine) write Q old new) (own : AreOwn (file_name_of mine) (file_name_of theirs) old.folder) where
  are : AreBeside (party_on (file_name_of mine)) (party_on (file_name_of theirs))
  are = are_beside (file_name_of mine) (file_name_of theirs) [] [] my_names.allowed their_names.allowed clear

  own_works : Works (names_of_file (file_name_of mine)) write Q old new
  own_works = subst (λ (n : Names). Works n write Q old new) my_names.others works

  pub works_beside : GoesBeside (is_of_family (file_name_of theirs)) old new
  works_beside =
      beside_works (party_on (file_name_of theirs)) (party_on (file_name_of mine)) write Q old new are.second are.first (share_none (party_on (file_name_of mine)) (party_on (file_name_of theirs)) are.apart) own.1.own own_works

  pub works_own : AreOwn (file_name_of mine) (file_name_of theirs) new.folder
  works_own =
      let apart = first_stays_apart (party_on (file_name_of mine)) (party_on (file_name_of theirs)) write old.folder new.folder are (record { first = own.0; second = own.1 }) own_works.spared in
      (apart.first, apart.second)
