-- When the refusal of `info` to a mode holds, what it writes else, and which refusals of recovery say that a call failed.
use Rattle.std.specs.Prelude.{IsErrAnd, Vec}
use Rattle.std.specs.declared.alloc.Global.{Global}
use Rattle.std.proofs.Common.{◌≡◌, ◌≢◌, ◌≤◌, length, ℕ, List, Option, Result, Ok, Err, ap, refl, sym, subst, ◌∙◌}
use Rattle.vs_host.specs.World.{Tells, Scene}
use Rattle.vs_recover.specs.declared.error.RecErr.{RecErr}
use Rattle.vs_recover.specs.declared.error.RecErr.TheVariants as error
use Rattle.vs_recover.specs.Infos.{IsInfos}
use Rattle.vs_recover.specs.Reading.{ReadsAtMost}
use Rattle.vs_recover.proofs.ReadingLaws.{err_is, reads_as}
use Rattle.vs_modes.specs.declared.error.ModeErr.{ModeErr}
use Rattle.vs_modes.specs.declared.error.ModeErr.TheVariants as refusal
use Rattle.vs_modes.specs.Info.{AreInfos, RefusesInfo}
use Rattle.vs_modes.specs.Refusals.{refusal_of}

pub infos_refused : (swp swo : Option (List ℕ)) (first second : List ℕ) (why : RecErr) → IsInfos swp swo first second (Err why) → RefusesInfo swp swo (refusal_of why)
infos_refused swp swo first second error.NoSwap refused = refused
infos_refused swp swo first second error.Encrypted refused = refused
infos_refused swp swo first second error.NotSwap refused = refused
infos_refused swp swo first second error.NotTree refused = refused
infos_refused swp swo first second error.Failed refused = tt
infos_refused swp swo first second error.NoMemory refused = tt

pub infos_are : (swp swo : Option (List ℕ)) (first second : List ℕ) (bytes : Vec ℕ Global) → IsInfos swp swo first second (Ok bytes) → AreInfos swp swo first second bytes.items
infos_are swp swo first second bytes infos = (infos.0, infos.1, infos.2, infos.3, infos.4, subst (λ (bs : List ℕ). 1 ≤ length bs) (sym infos.4) infos.5)

-- ---- which refusals a refusal to recover can be

pub not_output : (why : RecErr) → refusal_of why ≢ refusal.OutputFailed
not_output error.NoSwap is = cc
not_output error.Encrypted is = cc
not_output error.NotSwap is = cc
not_output error.NotTree is = cc
not_output error.Failed is = cc
not_output error.NoMemory is = cc

pub is_failed : (why : RecErr) → refusal_of why ≡ refusal.FolderFailed → why ≡ error.Failed
is_failed error.NoSwap is = absurd (cc)
is_failed error.Encrypted is = absurd (cc)
is_failed error.NotSwap is = absurd (cc)
is_failed error.NotTree is = absurd (cc)
is_failed error.Failed is = refl
is_failed error.NoMemory is = absurd (cc)

-- a reading that recovery refused, with the refusal of a mode that its refusal became
pub reads_refused : {T U : Type 0} {found : Result T RecErr} {result : Result U ModeErr} {why : RecErr} {tells : Tells} {old new : Scene} {most : ℕ} → found ≡ Err why → IsErrAnd result (λ e. e ≡ refusal_of why)
    → ReadsAtMost tells found error.Failed old new most → ReadsAtMost tells result refusal.FolderFailed old new most
reads_refused {result} {why} was is reads =
    let became = err_is result is in
    reads_as (λ failed. let same : why ≡ error.Failed = cc in became ∙ ap (λ w. Err (refusal_of w)) same) (λ failed. was ∙ ap (λ w. Err w) (is_failed why (cc))) reads
