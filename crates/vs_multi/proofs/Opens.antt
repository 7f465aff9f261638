-- Two files are opened, one after the other: each opening leaves the family of the other file, so that what is said of each goes on to hold.
use Rattle.std.proofs.Common.{◌≡◌, ◌⊎◌, inl, inr, ℕ, Bool, true, false, not, ◌&&◌, ◌||◌, List, [], ◌∷◌, Option, Some, None, Result, Ok, Err, IsErr, IsErrAnd, IsErrOf, IfSome, IsSome, IsSomeAnd, IsTrue, refl, sym, ◌∙◌, ap, subst}
use Rattle.std.specs.Str.{bytes_eq}
use Rattle.std.proofs.lemmas.Bool.{cases_Bool, true≢false, or_left}
use Rattle.vs_faults.specs.Faults.{HasCause, IsQuiet}
use Rattle.vs_faults.proofs.Causes.{HasCause-weaker}
use Rattle.vs_host.specs.Disk.{Disk, Name, content_in, names_at}
use Rattle.vs_host.specs.Names.{is_allowed, names_of_file}
use Rattle.vs_host.specs.World.{Tells, Scene, ReadsFolder, content_of}
use Rattle.vs_host.specs.declared.names.Names.{Names}
use Rattle.vs_disk.specs.Names.{SameAt}
use Rattle.vs_disk.specs.Runs.{NoneFails}
use Rattle.vs_disk.proofs.Others.{same_then}
use Rattle.vs_disk.proofs.Steps.{itself}
use Rattle.vs_disk.proofs.Quiet.{none_then}
use Rattle.vs_pair.specs.Acts.{Acts}
use Rattle.vs_pair.specs.Pair.{is_foreign}
use Rattle.vs_pair.proofs.Acts.{acts_as, acts_then}
use Rattle.vs_pair.proofs.MadeFiles.{same_weaker}
use Rattle.vs_text.specs.Documents.{document_of}
use Rattle.vs_text.specs.Limits.{IsWithinLimits}
use Rattle.vs_backup.proofs.Frames.{content_spared}
use Rattle.vs_family.specs.Family.{clash, is_of_family}
use Rattle.vs_family.proofs.Families.{eight_in}
use Rattle.vs_safety.specs.Texts.{RecoversOrNone}
use Rattle.vs_safety.specs.Turns as turns
use Rattle.vs_safety.specs.Writes.{AreIn}
use Rattle.vs_both.specs.Beside.{AreBeside, HasFamily, Party, ShareNone}
use Rattle.vs_both.proofs.Images.{or_none_kept}
use Rattle.vs_both.proofs.Names.{first_stays_apart, second_stays_apart, share_none, swo_in, swp_in}
use Rattle.vs_both.proofs.Parties.{are_beside}
use Rattle.vs_session.specs.Fits.{Fits, HasOpened, HasSwap, IsSettled, Opens, names_of}
use Rattle.vs_session.specs.Made.{LeavesNoneMade}
use Rattle.vs_session.specs.Open.{IsReading, IsTooLarge, OnlyLooks, PassesLimit}
use Rattle.vs_session.specs.Opened.{document_of_file, opened}
use Rattle.vs_session.specs.declared.open.OpenErr.{OpenErr}
use Rattle.vs_session.specs.declared.open.OpenErr.TheVariants as opening
use Rattle.vs_session.specs.declared.session.Session.{Session}
use Rattle.vs_session.proofs.Cleared.{cleared_same, cleared_then}
use Rattle.vs_session.proofs.LookLemmas.{IsLook-then, looks_none, looks_then, opens_looks}
use Rattle.vs_session.proofs.OpenLemmas.{err_is, handed_back, handed_on, same_content}
use Rattle.vs_multi.specs.Sessions.{AreOwn, file_name_of}
use Rattle.vs_multi.specs.Opening.{AreNotOpened, AreSettled, HasAnySwap, IsEitherTooLarge, IsNotOver, OpensBoth, StandsOpen, is_of_neither}
use Rattle.vs_multi.proofs.Beside.{fits_beside, party_on}

-- ---- names that stay

-- the same is read under them
content_stays : (inside : Name → Bool) (name : Name) (old new : Disk) → SameAt inside old new → inside name ≡ true → content_in new name ≡ content_in old name
content_stays inside name old new same is =
    content_spared (λ other. inside other ≡ false) name old new (λ out. true≢false (sym is ∙ out)) (λ fewer left. same_weaker inside fewer old new (λ other there. within other (left other there)) same)
  where
    within : (other : Name) → (inside other ≡ false → ⊥) → inside other ≡ true
    within other not = elim (cases_Bool (inside other)) [
      | inl is ↦ is
      | inr out ↦ absurd (not out)
    ]

-- the file of the family
file_stays : (file : Name) (old new : Disk) → SameAt (is_of_family file) old new → content_in new file ≡ content_in old file
file_stays file old new same = content_stays (is_of_family file) file old new same (eight_in file file (or_left (bytes_eq file file) _ (itself file)))

and_first : (a b : Bool) → (a && b) ≡ true → a ≡ true
and_first true b is = refl
and_first false b is = absurd (true≢false (sym is))

and_second : (a b : Bool) → (a && b) ≡ true → b ≡ true
and_second true b is = is
and_second false b is = absurd (true≢false (sym is))

-- the opening of one file leaves the family of another
module _ (mine theirs : Party) (has : HasFamily mine) (apart : ShareNone mine theirs) where
  other_foreign : AreIn (is_foreign mine.names) theirs.family
  other_foreign name is = has.pair name (ap not (share_none mine theirs apart name is))

  family_stays : (old new : Disk) → SameAt (is_foreign mine.names) old new → SameAt theirs.family old new
  family_stays old new same = same_weaker (is_foreign mine.names) theirs.family old new other_foreign same

-- whether a swap file is there
module _ (party : Party) (has : HasFamily party) (old new : Disk) (same : SameAt party.family old new) where
  swp_stays : content_in new party.names.swp ≡ content_in old party.names.swp
  swp_stays = content_stays party.family party.names.swp old new same (swp_in party has)

  swo_stays : content_in new party.names.swo ≡ content_in old party.names.swo
  swo_stays = content_stays party.family party.names.swo old new same (swo_in party has)

  pub swap_before : HasSwap party.names new → HasSwap party.names old
  swap_before (inl swp) = inl (subst (λ (o : Option (List ℕ)). IsSome o) swp_stays swp)
  swap_before (inr swo) = inr (subst (λ (o : Option (List ℕ)). IsSome o) swo_stays swo)

  absent_stays : (name : Name) → party.family name ≡ true → ((lost : ℕ) → names_at old lost name ≡ None) → (lost : ℕ) → names_at new lost name ≡ None
  absent_stays name is absent lost = let at = same.back lost in at.1 name is ∙ absent at.0

  pub settled_stays : IsSettled party.names old → IsSettled party.names new
  settled_stays settled = record {
    swp = λ gone. absent_stays party.names.swp (swp_in party has) (settled.swp (sym swp_stays ∙ gone));
    swo = λ gone. absent_stays party.names.swo (swo_in party has) (settled.swo (sym swo_stays ∙ gone));
  }

-- ---- why a file is not opened

-- an error that is handed on
err_same : {T : Type 0} (r : Result T OpenErr) (e why : OpenErr) → IsErrAnd r (λ x. x ≡ e) → IsErrOf r why → e ≡ why
err_same r e why is of = err_is (handed_back {U = Unit {0}} r e why is of)

-- a file that is over the limits is not opened
all_over : (file : Option (List ℕ)) (X : Type 0) → X → IfSome file (λ bytes. ¬ IsWithinLimits ((document_of bytes).text) → X)
all_over None X x = tt
all_over (Some bytes) X x = λ over. x

pub not_over : (file : Option (List ℕ)) → IfSome file (λ bytes. ¬ IsWithinLimits ((document_of bytes).text) → false ≡ true) → IfSome file (λ bytes. ¬ (¬ IsWithinLimits ((document_of bytes).text)))
not_over None never = tt
not_over (Some bytes) never = λ over. true≢false (sym (never over))

pub over_same : (file same : Option (List ℕ)) → file ≡ same → IfSome file (λ bytes. ¬ IsWithinLimits ((document_of bytes).text) → false ≡ true) → IfSome same (λ bytes. ¬ IsWithinLimits ((document_of bytes).text) → false ≡ true)
over_same file same is over = subst (λ (o : Option (List ℕ)). IfSome o (λ bytes. ¬ IsWithinLimits ((document_of bytes).text) → false ≡ true)) is over

-- a number that passes a limit of the same file
too_large_same : (tells : Tells) (size : ℕ) (file same : Option (List ℕ)) → (IsTrue tells.folder → file ≡ same) → IsTooLarge tells size file → IsTooLarge tells size same
too_large_same tells size file same is large = record {
  above = large.above;
  passes = λ told. subst (λ (o : Option (List ℕ)). IsSomeAnd o (λ bytes. PassesLimit ((document_of bytes).text) size)) (is told) (large.passes told);
}

-- a look is refused neither for a limit nor for a swap file
no_limit : (e : OpenErr) (size : ℕ) → ((e ≡ opening.Failed) ⊎ (e ≡ opening.NoMemory)) → e ≡ opening.TextLimit size → ⊥
no_limit e size (inl failed) is = cc
no_limit e size (inr none) is = cc

no_swap : (e : OpenErr) → ((e ≡ opening.Failed) ⊎ (e ≡ opening.NoMemory)) → e ≡ opening.SwapFound → ⊥
no_swap e (inl failed) is = cc
no_swap e (inr none) is = cc

look_error : {T : Type 0} (r : Result T OpenErr) (e : OpenErr) → ((e ≡ opening.Failed) ⊎ (e ≡ opening.NoMemory)) → IsErrAnd r (λ x. x ≡ e) → IsErrOf r opening.Failed ⊎ IsErrOf r opening.NoMemory
look_error r e (inl failed) is = inl (handed_on r e opening.Failed is failed)
look_error r e (inr none) is = inr (handed_on r e opening.NoMemory is none)

is_error : {T : Type 0} (r : Result T OpenErr) (e : OpenErr) → IsErrAnd r (λ x. x ≡ e) → IsErr r
is_error (Ok x) e is = absurd is
is_error (Err x) e is = refl

-- what is said of an answer that is an error
pub record IsRefusal {T : Type 0} (tells : Tells) (one two : Name) (r : Result T OpenErr) (old new : Scene) : Type 0 where
  pub not_opened : (why : OpenErr) → IsErrOf r why → AreNotOpened tells one why old new
  pub swap : IsErrOf r opening.SwapFound → IsTrue tells.folder → HasAnySwap one two old.folder
  pub barred : IsTrue tells.folder → HasAnySwap one two old.folder → IsErrOf r opening.SwapFound ⊎ IsErrOf r opening.Failed ⊎ IsErrOf r opening.NoMemory
  pub barred_looks : IsTrue tells.folder → HasAnySwap one two old.folder → OnlyLooks tells old new
  pub limit : (size : ℕ) → IsErrOf r (opening.TextLimit size) → IsEitherTooLarge tells size (content_of old one) (content_of old two)
  pub one_over : IsTrue tells.folder → IfSome (content_of old one) (λ bytes. ¬ IsWithinLimits ((document_of bytes).text) → IsErr r)
  pub two_over : IsTrue tells.folder → IfSome (content_of old two) (λ bytes. ¬ IsWithinLimits ((document_of bytes).text) → IsErr r)
  pub acts : Acts tells (OpensBoth one two) old new
  pub cause : HasCause old.folder_faults new.folder_faults (IsErrOf r opening.Failed)
  pub quiet : IsQuiet old.folder_faults new.folder_faults (IsErrOf r opening.Failed)

-- ---- both openings

module _ (tells : Tells) (one two : Name) (allowed_one : IsTrue (is_allowed one)) (allowed_two : IsTrue (is_allowed two)) (clear : clash one two ≡ false) where
  are : AreBeside (party_on one) (party_on two)
  are = are_beside one two [] [] allowed_one allowed_two clear

  two_stays : (old new : Disk) → SameAt (is_foreign (names_of_file one)) old new → SameAt (is_of_family two) old new
  two_stays old new same = family_stays (party_on one) (party_on two) are.first are.apart old new same

  one_stays : (old new : Disk) → SameAt (is_foreign (names_of_file two)) old new → SameAt (is_of_family one) old new
  one_stays old new same = family_stays (party_on two) (party_on one) are.second (share_none (party_on one) (party_on two) are.apart) old new same

  module _ (old : Scene) (settled : IsTrue tells.folder → AreSettled one two old.folder) where
    still : (name : Name) → (IsTrue tells.folder → IsSettled (names_of_file name) old.folder) → IsTrue tells.folder → Opens name old.folder old.folder
    still name all told = ((opens_looks tells name old old all (looks_none tells old)).runs told).now

    -- while the first file is opened
    at_first : IsTrue tells.folder → (d : Disk) → Opens one old.folder d → OpensBoth one two old.folder d
    at_first told d opens = record {
      spared = same_weaker (is_foreign (names_of_file one)) (is_of_neither one two) old.folder d (λ name. and_first (is_foreign (names_of_file one) name) (is_foreign (names_of_file two) name)) opens.spared;
      first = opens.safe;
      second = λ free.
          or_none_kept (party_on two) are.second old.folder d (two_stays old.folder d opens.spared) (document_of_file (content_in old.folder two) ∷ []) ((still two (λ told. (settled told).second) told).safe free);
    }

    -- while the second one is
    at_second : IsTrue tells.folder → (mid d : Disk) → Opens one old.folder mid → Opens two mid d → OpensBoth one two old.folder d
    at_second told mid d first second = record {
      spared = same_then (is_of_neither one two) old.folder mid d
          (same_weaker (is_foreign (names_of_file one)) (is_of_neither one two) old.folder mid (λ name. and_first (is_foreign (names_of_file one) name) (is_foreign (names_of_file two) name)) first.spared)
          (same_weaker (is_foreign (names_of_file two)) (is_of_neither one two) mid d (λ name. and_second (is_foreign (names_of_file one) name) (is_foreign (names_of_file two) name)) second.spared);
      first = λ free. or_none_kept (party_on one) are.first mid d (one_stays mid d second.spared) (document_of_file (content_in old.folder one) ∷ []) (first.safe free);
      second = λ free.
          let same = two_stays old.folder mid first.spared in
          subst (λ (o : Option (List ℕ)). RecoversOrNone (names_of_file two) (document_of_file o ∷ []) d) (file_stays two old.folder mid same) (second.safe (λ there. free (swap_before (party_on two) are.second old.folder mid same there)));
    }

    -- ---- calls

    -- the four names were looked for
    module _ (looked : Scene) (looks : OnlyLooks tells old looked) where
      pub looked_one : Acts tells (Opens one) old looked
      looked_one = opens_looks tells one old looked (λ told. (settled told).first) looks

      pub looked_both : Acts tells (OpensBoth one two) old looked
      looked_both = acts_as tells (Opens one) (OpensBoth one two) old looked at_first looked_one

      -- a look was refused
      pub look_refusal : {T U : Type 0} {e : OpenErr} (r : Result T OpenErr) → IsReading {T = U} tells (Err e) old looked → ((e ≡ opening.Failed) ⊎ (e ≡ opening.NoMemory)) → IsErrAnd r (λ x. x ≡ e) → IsRefusal tells one two r old looked
      look_refusal {e} r reads errors is = record {
        not_opened = λ why of. inl (record { acts = looked_one; looks = λ other. looks });
        swap = λ of. absurd (no_swap e errors (err_same r e opening.SwapFound is of));
        barred = λ told has. inr (look_error r e errors is);
        barred_looks = λ told has. looks;
        limit = λ size of. absurd (no_limit e size errors (err_same r e (opening.TextLimit size) is of));
        one_over = λ told. all_over (content_of old one) (IsErr r) (is_error r e is);
        two_over = λ told. all_over (content_of old two) (IsErr r) (is_error r e is);
        acts = looked_both;
        cause = HasCause-weaker reads.look.cause (λ of. handed_back r e opening.Failed is of);
        quiet = λ other. reads.quiet (λ of. other (handed_on r e opening.Failed is (err_is of)));
      }

      -- a swap file was found
      pub found_refusal : {T U : Type 0} {x : U} → IsReading tells (Ok x) old looked → (IsTrue tells.folder → HasAnySwap one two old.folder) → IsRefusal {T = T} tells one two (Err opening.SwapFound) old looked
      found_refusal reads there = record {
        not_opened = λ why of. inl (record { acts = looked_one; looks = λ other. looks });
        swap = λ of. there;
        barred = λ told has. inl refl;
        barred_looks = λ told has. looks;
        limit = λ size of. absurd (cc);
        one_over = λ told. all_over (content_of old one) _ refl;
        two_over = λ told. all_over (content_of old two) _ refl;
        acts = looked_both;
        cause = record { later = reads.look.cause.later; risen = λ of. absurd (cc) };
        quiet = λ other. reads.look.none.faults;
      }

      -- and then the first file was opened, or not
      module _ (reads : ReadsFolder old looked) (none : NoneFails tells old looked) (mid : Scene) (first : Acts tells (Opens one) looked mid) where
        pub mid_one : Acts tells (Opens one) old mid
        mid_one = acts_then tells (λ a b. b ≡ a) (Opens one) (Opens one) old looked mid
            (λ told d same. subst (λ (e : Disk). Opens one old.folder e) (sym same) (still one (λ told. (settled told).first) told))
            (λ told same d opens. subst (λ (e : Disk). Opens one e d) same opens) none looks first

        pub mid_both : Acts tells (OpensBoth one two) old mid
        mid_both = acts_as tells (Opens one) (OpensBoth one two) old mid at_first mid_one

        first_spared : IsTrue tells.folder → SameAt (is_foreign (names_of_file one)) old.folder mid.folder
        first_spared told = (mid_one.runs told).now.spared

        mid_two_stays : IsTrue tells.folder → SameAt (is_of_family two) old.folder mid.folder
        mid_two_stays told = two_stays old.folder mid.folder (first_spared told)

        pub mid_settled : IsTrue tells.folder → IsSettled (names_of_file two) mid.folder
        mid_settled told = settled_stays (party_on two) are.second old.folder mid.folder (mid_two_stays told) (settled told).second

        pub mid_content : IsTrue tells.folder → content_of mid two ≡ content_of old two
        mid_content told = file_stays two old.folder mid.folder (mid_two_stays told)

        pub mid_swap : IsTrue tells.folder → HasSwap (names_of_file two) mid.folder → HasAnySwap one two old.folder
        mid_swap told there = inr (swap_before (party_on two) are.second old.folder mid.folder (mid_two_stays told) there)

        -- it was not opened
        pub first_refusal : {T U : Type 0} {e : OpenErr} (r : Result T OpenErr) → (IsTrue tells.folder → HasAnySwap one two old.folder → ⊥)
            → (IsErrOf {T = U} (Err e) opening.SwapFound → IsTrue tells.folder → HasSwap (names_of_file one) looked.folder)
            → ((size : ℕ) → IsErrOf {T = U} (Err e) (opening.TextLimit size) → IsTooLarge tells size (content_of looked one))
            → (¬ (IsErrOf {T = U} (Err e) opening.Failed) → OnlyLooks tells looked mid) → HasCause looked.folder_faults mid.folder_faults (IsErrOf {T = U} (Err e) opening.Failed)
            → IsQuiet looked.folder_faults mid.folder_faults (IsErrOf {T = U} (Err e) opening.Failed) → IsErrAnd r (λ x. x ≡ e) → IsRefusal tells one two r old mid
        first_refusal {e} r free swap limit looked_at cause quiet is = record {
          not_opened = λ why of. inl (record {
            acts = mid_one;
            looks = λ other. looks_then tells old looked mid none looks (looked_at (λ failed. other (sym (err_same r e why is of) ∙ err_is failed)));
          });
          swap = λ of told. inl (subst (λ (d : Disk). HasSwap (names_of_file one) d) (ap (λ (s : Scene). s.folder) reads) (swap (handed_back r e opening.SwapFound is of) told));
          barred = λ told has. absurd (free told has);
          barred_looks = λ told has. absurd (free told has);
          limit = λ size of. inl (subst (λ (o : Option (List ℕ)). IsTooLarge tells size o) (same_content old looked one reads) (limit size (handed_back r e (opening.TextLimit size) is of)));
          one_over = λ told. all_over (content_of old one) (IsErr r) (is_error r e is);
          two_over = λ told. all_over (content_of old two) (IsErr r) (is_error r e is);
          acts = mid_both;
          cause = subst (λ n. HasCause n mid.folder_faults (IsErrOf r opening.Failed)) none.faults (HasCause-weaker cause (λ of. handed_back r e opening.Failed is of));
          quiet = λ other. quiet (λ of. other (handed_on r e opening.Failed is (err_is of))) ∙ none.faults;
        }

        -- and then the second one
        module _ (first_none : NoneFails tells looked mid) (new : Scene) (second : Acts tells (Opens two) mid new) where
          pub mid_none : NoneFails tells old mid
          mid_none = none_then tells old looked mid none first_none

          pub new_both : Acts tells (OpensBoth one two) old new
          new_both = acts_then tells (Opens one) (Opens two) (OpensBoth one two) old mid new at_first (λ told opens d. at_second told mid.folder d opens) mid_none mid_one second

          second_spared : IsTrue tells.folder → SameAt (is_foreign (names_of_file two)) mid.folder new.folder
          second_spared told = (second.runs told).now.spared

          pub new_own : IsTrue tells.folder → AreOwn one two new.folder
          new_own told =
              let own = (settled told).own in
              let at_mid = first_stays_apart (party_on one) (party_on two) None old.folder mid.folder are (record { first = own.0; second = own.1 }) (first_spared told) in
              let at_new = second_stays_apart (party_on one) (party_on two) None mid.folder new.folder are at_mid (second_spared told) in
              (at_new.first, at_new.second)

          pub first_stands : (session : Session) → StandsOpen tells one old mid session → StandsOpen tells one old new session
          first_stands session stands = record {
            fits = λ told.
                let same = subst (λ (n : Name). SameAt (is_of_family n) mid.folder new.folder) (sym (ap (λ (n : Names). n.file) stands.names)) (one_stays mid.folder new.folder (second_spared told)) in
                fits_beside session mid.folder new.folder same _ _ (stands.fits told);
            file = stands.file;
            named = stands.named;
            names = stands.names;
            generation = stands.generation;
            undo = stands.undo;
          }

          -- no file is handed over, by the names of the sessions
          pub opened_own : (first second : Session) → names_of first ≡ names_of_file one → names_of second ≡ names_of_file two → IsTrue tells.folder → AreOwn (file_name_of first) (file_name_of second) new.folder
          opened_own first second first_is second_is told =
              subst (λ (n : Name). AreOwn n (file_name_of second) new.folder) (sym (ap (λ (n : Names). n.file) first_is)) (subst (λ (n : Name). AreOwn one n new.folder) (sym (ap (λ (n : Names). n.file) second_is)) (new_own told))

          -- it was not opened, and the first one stays
          pub second_refusal : {T U : Type 0} {e : OpenErr} (r : Result T OpenErr) (session : Session) → (IsTrue tells.folder → HasAnySwap one two old.folder → ⊥) → StandsOpen tells one old mid session → IsNotOver tells (content_of old one)
              → (IsErrOf {T = U} (Err e) opening.SwapFound → IsTrue tells.folder → HasSwap (names_of_file two) mid.folder)
              → ((size : ℕ) → IsErrOf {T = U} (Err e) (opening.TextLimit size) → IsTooLarge tells size (content_of mid two))
              → HasCause mid.folder_faults new.folder_faults (IsErrOf {T = U} (Err e) opening.Failed) → IsQuiet mid.folder_faults new.folder_faults (IsErrOf {T = U} (Err e) opening.Failed) → IsErrAnd r (λ x. x ≡ e)
              → IsRefusal tells one two r old new
          second_refusal {e} r session free stands within swap limit cause quiet is = record {
            not_opened = λ why of. inr (session, first_stands session stands);
            swap = λ of told. mid_swap told (swap (handed_back r e opening.SwapFound is of) told);
            barred = λ told has. absurd (free told has);
            barred_looks = λ told has. absurd (free told has);
            limit = λ size of. inr (within, too_large_same tells size (content_of mid two) (content_of old two) mid_content (limit size (handed_back r e (opening.TextLimit size) is of)));
            one_over = λ told. all_over (content_of old one) (IsErr r) (is_error r e is);
            two_over = λ told. all_over (content_of old two) (IsErr r) (is_error r e is);
            acts = new_both;
            cause = subst (λ n. HasCause n new.folder_faults (IsErrOf r opening.Failed)) mid_none.faults (HasCause-weaker cause (λ of. handed_back r e opening.Failed is of));
            quiet = λ other. quiet (λ of. other (handed_on r e opening.Failed is (err_is of))) ∙ mid_none.faults;
          }

-- what a session says that opened its file in a folder with the same file
pub stands_same : (tells : Tells) (name : Name) (old mid new : Scene) (session : Session) → (IsTrue tells.folder → content_of mid name ≡ content_of old name) → StandsOpen tells name mid new session → StandsOpen tells name old new session
stands_same tells name old mid new session same stands = record {
  fits = λ told. subst (λ (file : Option (List ℕ)). Fits session new.folder (opened name file).state (turns.opened (document_of_file file))) (same told) (stands.fits told);
  file = λ told. subst (λ (file : Option (List ℕ)). HasOpened (opened name file) session) (same told) (stands.file told);
  named = stands.named;
  names = stands.names;
  generation = stands.generation;
  undo = stands.undo;
}

-- the families of the sessions that opened them
pub opened_clear : (first second : Session) (one two : Name) → names_of first ≡ names_of_file one → names_of second ≡ names_of_file two → clash one two ≡ false → clash (file_name_of first) (file_name_of second) ≡ false
opened_clear first second one two first_is second_is clear =
    ap (λ (n : Names). clash n.file (file_name_of second)) first_is ∙ ap (λ (n : Names). clash one n.file) second_is ∙ clear

-- no file stays under a name under which one was made
pub opened_cleared : (old looked mid new : Scene) → ReadsFolder old looked → LeavesNoneMade looked.folder mid.folder → LeavesNoneMade mid.folder new.folder → LeavesNoneMade old.folder new.folder
opened_cleared old looked mid new reads first second =
    let at_first : LeavesNoneMade old.folder mid.folder = cleared_then old.folder looked.folder mid.folder (cleared_same old.folder looked.folder (ap (λ (s : Scene). s.folder) reads)) first in
    cleared_then old.folder mid.folder new.folder at_first second

-- the names of one file were looked for, and then those of another
pub looked_then : {T U : Type 0} {x : T} {old mid new : Scene} (tells : Tells) (second : Result U OpenErr) → IsReading {T = T} tells (Ok x) old mid → IsReading tells second mid new → IsReading tells second old new
looked_then tells second first next = record {
  look = IsLook-then tells second first.look next.look (λ none. none) (λ failed. failed);
  quiet = λ other. next.quiet other ∙ first.look.none.faults;
}
