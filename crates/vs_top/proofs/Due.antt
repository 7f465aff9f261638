-- How a mode other than `edit` ends where no call fails, and that it is to end in no other way.
use Rattle.std.proofs.Common.{◌≡◌, ◌≢◌, ◌⊎◌, ◌≤◌, ◌++◌, inl, inr, ℕ, zero, suc, List, length, Option, Some, None, IsSome, Result, Ok, Err, IsTrue, refl, sym, ◌∙◌, ap, subst, arith}
use Rattle.vs_host.specs.World.{Tells, Scene, content_of}
use Rattle.vs_host.specs.Names.{names_of_file}
use Rattle.vs_host.specs.declared.names.Names.{Names}
use Rattle.vs_machine.specs.declared.command.Mark.{Mark}
use Rattle.vs_text.specs.Documents.{Document}
use Rattle.vs_swap.specs.Recovery.{StandsIn, Recovered}
use Rattle.vs_recover.specs.declared.choices.Swap.{Swap}
use Rattle.vs_recover.specs.declared.error.RecErr.{RecErr}
use Rattle.vs_recover.specs.declared.error.RecErr.TheVariants as error
use Rattle.vs_recover.specs.Choices.{NoneStands, StandsNowhere, root_chosen, root_of}
use Rattle.vs_recover.specs.Salvage.{SalvagesOf}
use Rattle.vs_modes.specs.declared.error.ModeErr.TheVariants as refusal
use Rattle.vs_modes.specs.declared.recovering.Recovery.{Recovery}
use Rattle.vs_modes.specs.declared.recovering.Recovery.TheVariants as recovery
use Rattle.vs_modes.specs.Discard.{RunsDiscard}
use Rattle.vs_modes.specs.Info.{AreInfos, RunsInfo}
use Rattle.vs_modes.specs.Modes.{Ended}
use Rattle.vs_modes.specs.Recover.{IsNoSwap, IsSalvaged, Remains, RunsRecover, recovery_by, remains_in, salvaged_in, swap_in}
use Rattle.vs_modes.specs.Refusals.{refusal_of}
use Rattle.vs_modes.proofs.OnceLaws.{markers_once}
use Rattle.vs_top.specs.Due.{DiscardIsDue, InfoIsDue, IsDue, IsOnlyDue, IsSpared, RecoverIsDue}
use Rattle.vs_top.specs.Ending.{ended_by, mode_ending, recovered_by, recovery_ending}
use Rattle.vs_top.specs.Forms.{Performs}
use Rattle.vs_top.specs.declared.ending.Ending.{Ending}
use Rattle.vs_top.specs.declared.ending.Ending.TheVariants as ending
use Rattle.vs_top.specs.declared.form.Mode.{Mode}
use Rattle.vs_top.specs.declared.form.Mode.TheVariants as mode

-- ---- `recover` is to end in one way

-- what is salvaged is written
record EndsSalvaged (remains : Remains) (end : Ending) : Type 0 where
  pub which : Swap
  pub chosen : salvaged_in remains ≡ Ok which
  pub bytes : List ℕ
  pub markers : ℕ
  pub salvages : SalvagesOf (swap_in remains which) remains.original bytes markers
  pub is : end ≡ recovery_ending (recovery_by markers)

-- nothing is written
record EndsRefused (remains : Remains) (end : Ending) : Type 0 where
  pub why : RecErr
  pub chosen : salvaged_in remains ≡ Err why
  pub is : end ≡ mode_ending (refusal_of why)

-- A text is written; or neither swap file stands, and what is salvaged is written, or nothing.
abbrev EndsRecover : Remains → Ending → Type 0
EndsRecover remains end =
    ((document : Document) × Recovered remains.swp remains.swo document × (end ≡ ending.Done))
    ⊎ (NoneStands remains.swp remains.swo × (EndsSalvaged remains end ⊎ EndsRefused remains end))

absent_stands : (file : Option (List ℕ)) → file ≡ None → StandsNowhere file
absent_stands file is = λ generation document stands. subst (λ (o : Option (List ℕ)). StandsIn o generation document) is stands

no_roots : (remains : Remains) → remains.swp ≡ None → remains.swo ≡ None → salvaged_in remains ≡ Err error.NoSwap
no_roots remains swp swo = ap (λ (o : Option (List ℕ)). root_chosen (root_of o) (root_of remains.swo)) swp ∙ ap (λ (o : Option (List ℕ)). root_chosen (root_of None) (root_of o)) swo

why_none : (chosen : Result Swap RecErr) → IsNoSwap chosen → (why : RecErr) × (chosen ≡ Err why) × (ending.NotSwap ≡ mode_ending (refusal_of why))
why_none (Ok which) is = absurd is
why_none (Err error.NoSwap) is = absurd is
why_none (Err error.Encrypted) is = absurd is
why_none (Err error.NotSwap) is = (error.NotSwap, refl, refl)
why_none (Err error.NotTree) is = (error.NotTree, refl, refl)
why_none (Err error.Failed) is = absurd is
why_none (Err error.NoMemory) is = absurd is

ends_salvaged : (remains : Remains) (end : Ending) (bytes : List ℕ) (markers : ℕ) → end ≡ recovery_ending (recovery_by markers) → IsSalvaged remains bytes markers → EndsRecover remains end
ends_salvaged remains end bytes markers is salvaged =
    inr (salvaged.none, inl (record { which = salvaged.which; chosen = salvaged.chosen; bytes = bytes; markers = markers; salvages = salvaged.salvages; is = is }))

marked : (markers : ℕ) → 1 ≤ markers → ending.Salvaged ≡ recovery_ending (recovery_by markers)
marked zero some = absurd (omega (arith, some))
marked (suc more) some = refl

recover_ends : (remains : Remains) (end : Ending) → RecoverIsDue remains end → EndsRecover remains end
recover_ends remains ending.Done due = elim due.1 [ inl text ↦ inl (text.0, text.1, refl) | inr salvaged ↦ ends_salvaged remains ending.Done due.0 0 refl salvaged ]
recover_ends remains ending.Salvaged due = ends_salvaged remains ending.Salvaged due.0 due.1.0 (marked due.1.0 due.1.1) due.1.2
recover_ends remains ending.NoSwap due =
    inr ((absent_stands remains.swp due.0, absent_stands remains.swo due.1), inr (record { why = error.NoSwap; chosen = no_roots remains due.0 due.1; is = refl }))
recover_ends remains ending.Encrypted due = inr (due.0, inr (record { why = error.Encrypted; chosen = due.1; is = refl }))
recover_ends remains ending.NotSwap due = let none = why_none (salvaged_in remains) due.1 in inr (due.0, inr (record { why = none.0; chosen = none.1; is = none.2 }))
recover_ends remains ending.WithErrors due = absurd due
recover_ends remains ending.Usage due = absurd due
recover_ends remains ending.SwapFound due = absurd due
recover_ends remains ending.ScriptFault due = absurd due
recover_ends remains ending.OutputFault due = absurd due
recover_ends remains ending.FolderFault due = absurd due
recover_ends remains ending.NoMemory due = absurd due
recover_ends remains (ending.TextLimit size) due = absurd due
recover_ends remains ending.ScriptTooLong due = absurd due

none_recovered : (swp swo : Option (List ℕ)) (document : Document) → NoneStands swp swo → Recovered swp swo document → ⊥
none_recovered swp swo document none (inl first) = none.0 first.generation document first.stands
none_recovered swp swo document none (inr second) = none.1 second.generation document second.stands

salvaged_once : (remains : Remains) (a b : Ending) → EndsSalvaged remains a → EndsSalvaged remains b → a ≡ b
salvaged_once remains a b first second =
    let chosen : Ok first.which ≡ Ok second.which = sym first.chosen ∙ second.chosen in
    let which : first.which ≡ second.which = cc in
    let same : first.markers ≡ second.markers = markers_once (swap_in remains second.which) remains.original first.bytes second.bytes first.markers second.markers
    (subst (λ (w : Swap). SalvagesOf (swap_in remains w) remains.original first.bytes first.markers) which first.salvages) second.salvages in
    first.is ∙ (ap (λ (n : ℕ). recovery_ending (recovery_by n)) same ∙ sym second.is)

refused_once : (remains : Remains) (a b : Ending) → EndsRefused remains a → EndsRefused remains b → a ≡ b
refused_once remains a b first second =
    let chosen : Err first.why ≡ Err second.why = sym first.chosen ∙ second.chosen in
    let same : first.why ≡ second.why = cc in
    first.is ∙ (ap (λ (w : RecErr). mode_ending (refusal_of w)) same ∙ sym second.is)

never_both : (remains : Remains) (a b : Ending) → EndsSalvaged remains a → EndsRefused remains b → ⊥
never_both remains a b first second =
    let chosen : Ok first.which ≡ Err second.why = sym first.chosen ∙ second.chosen in
    cc

recover_once : (remains : Remains) (a b : Ending) → EndsRecover remains a → EndsRecover remains b → a ≡ b
recover_once remains a b (inl first) (inl second) = first.2 ∙ sym second.2
recover_once remains a b (inl first) (inr second) = absurd (none_recovered remains.swp remains.swo first.0 second.0 first.1)
recover_once remains a b (inr first) (inl second) = absurd (none_recovered remains.swp remains.swo second.0 first.0 second.1)
recover_once remains a b (inr first) (inr second) = elim first.1 [
  | inl salvaged ↦ elim second.1 [ inl other ↦ salvaged_once remains a b salvaged other | inr other ↦ absurd (never_both remains a b salvaged other) ]
  | inr refused ↦ elim second.1 [ inl other ↦ absurd (never_both remains b a other refused) | inr other ↦ refused_once remains a b refused other ]
]

-- ---- so are the others

info_ends : (remains : Remains) (end : Ending) → InfoIsDue remains end → ((IsSome remains.swp ⊎ IsSome remains.swo) × (end ≡ ending.Done)) ⊎ ((remains.swp ≡ None) × (remains.swo ≡ None) × (end ≡ ending.NoSwap))
info_ends remains ending.Done due = inl (due, refl)
info_ends remains ending.NoSwap due = inr (due.0, due.1, refl)
info_ends remains ending.Salvaged due = absurd due
info_ends remains ending.Encrypted due = absurd due
info_ends remains ending.NotSwap due = absurd due
info_ends remains ending.WithErrors due = absurd due
info_ends remains ending.Usage due = absurd due
info_ends remains ending.SwapFound due = absurd due
info_ends remains ending.ScriptFault due = absurd due
info_ends remains ending.OutputFault due = absurd due
info_ends remains ending.FolderFault due = absurd due
info_ends remains ending.NoMemory due = absurd due
info_ends remains (ending.TextLimit size) due = absurd due
info_ends remains ending.ScriptTooLong due = absurd due

some_absent : (a b : Option (List ℕ)) → a ≡ None → b ≡ None → IsSome a ⊎ IsSome b → ⊥
some_absent a b no_first no_second (inl some) = cc
some_absent a b no_first no_second (inr some) = cc

info_once : (remains : Remains) (a b : Ending) → InfoIsDue remains a → InfoIsDue remains b → a ≡ b
info_once remains a b first second = elim (info_ends remains a first) [
  | inl some ↦ elim (info_ends remains b second) [ inl other ↦ some.1 ∙ sym other.1 | inr none ↦ absurd (some_absent remains.swp remains.swo none.0 none.1 some.0) ]
  | inr none ↦ elim (info_ends remains b second) [ inl other ↦ absurd (some_absent remains.swp remains.swo none.0 none.1 other.0) | inr also ↦ none.2 ∙ sym also.2 ]
]

discard_ends : (end : Ending) → DiscardIsDue end → end ≡ ending.Done
discard_ends ending.Done due = refl
discard_ends ending.NoSwap due = absurd due
discard_ends ending.Salvaged due = absurd due
discard_ends ending.Encrypted due = absurd due
discard_ends ending.NotSwap due = absurd due
discard_ends ending.WithErrors due = absurd due
discard_ends ending.Usage due = absurd due
discard_ends ending.SwapFound due = absurd due
discard_ends ending.ScriptFault due = absurd due
discard_ends ending.OutputFault due = absurd due
discard_ends ending.FolderFault due = absurd due
discard_ends ending.NoMemory due = absurd due
discard_ends (ending.TextLimit size) due = absurd due
discard_ends ending.ScriptTooLong due = absurd due

due_once : (m : Mode) (remains : Remains) (a b : Ending) → IsDue m remains a → IsDue m remains b → a ≡ b
due_once mode.Edit remains a b first second = absurd first
due_once mode.Recover remains a b first second = recover_once remains a b (recover_ends remains a first) (recover_ends remains b second)
due_once mode.Info remains a b first second = info_once remains a b first second
due_once mode.Discard remains a b first second = discard_ends a first ∙ sym (discard_ends b second)

-- ---- each mode ends as it is to

module _ (tells : Tells) (names : Names) (old new : Scene) (told : IsTrue tells.folder) (spared : IsSpared old new) where
  recover_due : (ended : Ended Recovery) → RunsRecover tells names old new ended → (recovered_by ended ≡ ending.NoMemory) ⊎ RecoverIsDue (remains_in old names) (recovered_by ended)
  recover_due (Ok recovery.Whole) runs = let wrote = runs.answer told in inr (wrote.0, wrote.1)
  recover_due (Ok recovery.Marked) runs = let wrote = runs.answer told in inr (wrote.0, wrote.1)
  recover_due (Err refusal.NoSwap) runs = inr (runs.answer told)
  recover_due (Err refusal.Encrypted) runs = inr (runs.answer told)
  recover_due (Err refusal.NotSwap) runs = inr (runs.answer told)
  recover_due (Err refusal.OutputFailed) runs = absurd (spared.no_out_fault runs.leaves.0)
  recover_due (Err refusal.FolderFailed) runs = absurd (spared.no_folder_fault runs.leaves.0)
  recover_due (Err refusal.NoMemory) runs = inl refl

  some_info : (swp swo : Option (List ℕ)) (first second bytes : List ℕ) → AreInfos swp swo first second bytes → IsSome swp ⊎ IsSome swo
  some_info (Some file) swo first second bytes infos = inl refl
  some_info None (Some file) first second bytes infos = inr refl
  some_info None None first second bytes infos =
      let none : length bytes ≡ 0 = ap (λ (bs : List ℕ). length bs) (infos.4 ∙ (ap (λ (bs : List ℕ). bs ++ infos.1) infos.2 ∙ infos.3)) in
      absurd (omega (arith, infos.5, none))

  info_due : (ended : Ended (Unit {0})) → RunsInfo tells names old new ended → (ended_by ended ≡ ending.NoMemory) ⊎ InfoIsDue (remains_in old names) (ended_by ended)
  info_due (Ok done) runs = let wrote = runs.answer told in inr (some_info (content_of old names.swp) (content_of old names.swo) names.swp names.swo wrote.0 wrote.1)
  info_due (Err refusal.NoSwap) runs = inr (runs.answer told)
  info_due (Err refusal.Encrypted) runs = absurd (runs.answer told)
  info_due (Err refusal.NotSwap) runs = absurd (runs.answer told)
  info_due (Err refusal.OutputFailed) runs = absurd (spared.no_out_fault runs.leaves.0)
  info_due (Err refusal.FolderFailed) runs = absurd (spared.no_folder_fault runs.leaves.0)
  info_due (Err refusal.NoMemory) runs = inl refl

  discard_due : (ended : Ended (Unit {0})) → RunsDiscard tells names old new ended → (ended_by ended ≡ ending.NoMemory) ⊎ DiscardIsDue (ended_by ended)
  discard_due (Ok done) runs = inr tt
  discard_due (Err refusal.NoSwap) runs = absurd (runs.runs.answer told)
  discard_due (Err refusal.Encrypted) runs = absurd (runs.runs.answer told)
  discard_due (Err refusal.NotSwap) runs = absurd (runs.runs.answer told)
  discard_due (Err refusal.OutputFailed) runs = absurd (spared.no_out_fault runs.runs.leaves.0)
  discard_due (Err refusal.FolderFailed) runs = absurd (spared.no_folder_fault runs.runs.leaves.0)
  discard_due (Err refusal.NoMemory) runs = inl refl

  only_due : (m : Mode) (end : Ending) → (end ≡ ending.NoMemory) ⊎ IsDue m (remains_in old names) end → (end ≡ ending.NoMemory) ⊎ IsOnlyDue m (remains_in old names) end
  only_due m end (inl none) = inl none
  only_due m end (inr due) = inr (due, λ other also. due_once m (remains_in old names) other end also due)

  ends_as : {T : Type 0} (m : Mode) (end : Ending) (ending_of : Ended T → Ending) (ended : Ended T) → end ≡ ending_of ended
      → (ending_of ended ≡ ending.NoMemory) ⊎ IsDue m (remains_in old names) (ending_of ended) → (end ≡ ending.NoMemory) ⊎ IsOnlyDue m (remains_in old names) end
  ends_as m end ending_of ended is due = subst (λ (e : Ending). (e ≡ ending.NoMemory) ⊎ IsOnlyDue m (remains_in old names) e) (sym is) (only_due m (ending_of ended) due)

pub ends_due : (m : Mode) (tells : Tells) (name : List ℕ) (old new : Scene) (end : Ending) (marks : List Mark) → Performs m tells name old new end marks → m ≢ mode.Edit → IsTrue tells.folder → IsSpared old new
    → (end ≡ ending.NoMemory) ⊎ IsOnlyDue m (remains_in old (names_of_file name)) end
ends_due mode.Edit tells name old new end marks performs other told spared = absurd (other refl)
ends_due mode.Recover tells name old new end marks performs other told spared =
    ends_as tells (names_of_file name) old new told spared mode.Recover end recovered_by performs.0 performs.1 (recover_due tells (names_of_file name) old new told spared performs.0 performs.2)
ends_due mode.Info tells name old new end marks performs other told spared =
    ends_as tells (names_of_file name) old new told spared mode.Info end ended_by performs.0 performs.1 (info_due tells (names_of_file name) old new told spared performs.0 performs.2)
ends_due mode.Discard tells name old new end marks performs other told spared =
    ends_as tells (names_of_file name) old new told spared mode.Discard end ended_by performs.0 performs.1 (discard_due tells (names_of_file name) old new told spared performs.0 performs.2)
