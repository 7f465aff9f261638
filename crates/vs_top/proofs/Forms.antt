-- Arguments have one form, and no form ends as other arguments do.
use Rattle.std.proofs.Common.{◌≡◌, ℕ, List, [], ◌∷◌, get_or, Ok, Err, refl, sym, ◌∙◌, ap, subst, arith}
use Rattle.vs_host.specs.Disk.{Name}
use Rattle.vs_host.specs.World.{Tells, Scene}
use Rattle.vs_machine.specs.declared.command.Mark.{Mark}
use Rattle.vs_modes.specs.Modes.{Ended}
use Rattle.vs_modes.specs.declared.error.ModeErr.{ModeErr}
use Rattle.vs_modes.specs.declared.error.ModeErr.TheVariants as refusal
use Rattle.vs_modes.specs.declared.recovering.Recovery.{Recovery}
use Rattle.vs_modes.specs.declared.recovering.Recovery.TheVariants as recovery
use Rattle.vs_top.specs.Ending.{ended_by, mode_ending, recovered_by}
use Rattle.vs_top.specs.Forms.{word_of, IsForm, Performs}
use Rattle.vs_top.specs.declared.ending.Ending.{Ending}
use Rattle.vs_top.specs.declared.ending.Ending.TheVariants as ending
use Rattle.vs_top.specs.declared.form.Mode.{Mode}
use Rattle.vs_top.specs.declared.form.Mode.TheVariants as mode
use Rattle.vs_top.proofs.Words.{same_second}
use Rattle.vs_top.proofs.Edits.{not_usage}

same_first : (a b c d : List ℕ) → a ∷ b ∷ [] ≡ c ∷ d ∷ [] → a ≡ c
same_first a b c d same = ap (λ (xs : List (List ℕ)). get_or xs 0 a) same

-- no two modes have one word: the first letters differ
abbrev first_letter : Mode → ℕ
first_letter m = get_or (word_of m) 0 0

letters : (a b : Mode) → word_of a ≡ word_of b → first_letter a ≡ first_letter b
letters a b is = ap (λ (xs : List ℕ). get_or xs 0 0) is

one_mode : (a b : Mode) → first_letter a ≡ first_letter b → a ≡ b
one_mode mode.Edit mode.Edit is = refl
one_mode mode.Edit mode.Recover is = absurd (omega (arith, is))
one_mode mode.Edit mode.Info is = absurd (omega (arith, is))
one_mode mode.Edit mode.Discard is = absurd (omega (arith, is))
one_mode mode.Recover mode.Edit is = absurd (omega (arith, is))
one_mode mode.Recover mode.Recover is = refl
one_mode mode.Recover mode.Info is = absurd (omega (arith, is))
one_mode mode.Recover mode.Discard is = absurd (omega (arith, is))
one_mode mode.Info mode.Edit is = absurd (omega (arith, is))
one_mode mode.Info mode.Recover is = absurd (omega (arith, is))
one_mode mode.Info mode.Info is = refl
one_mode mode.Info mode.Discard is = absurd (omega (arith, is))
one_mode mode.Discard mode.Edit is = absurd (omega (arith, is))
one_mode mode.Discard mode.Recover is = absurd (omega (arith, is))
one_mode mode.Discard mode.Info is = absurd (omega (arith, is))
one_mode mode.Discard mode.Discard is = refl

-- what was done in the mode of the arguments, said of the mode and the name that they have
pub performed : (tells : Tells) (words : List (List ℕ)) (a b : Mode) (x y : List ℕ) (old new : Scene) (end : Ending) (marks : List Mark) → IsForm words a x → IsForm words b y
    → Performs a tells x old new end marks → Performs b tells y old new end marks
performed tells words a b x y old new end marks form given performs =
    let words_are : word_of a ∷ x ∷ [] ≡ word_of b ∷ y ∷ [] = sym form.0 ∙ given.0 in
    let same_mode : a ≡ b = one_mode a b (letters a b (same_first (word_of a) x (word_of b) y words_are)) in
    let same_name : x ≡ y = same_second (word_of a) x (word_of b) y words_are in
    subst (λ (m : Mode). Performs m tells y old new end marks) same_mode (subst (λ (n : List ℕ). Performs a tells n old new end marks) same_name performs)

-- ---- no form ends as other arguments do

refused_unlike : (why : ModeErr) → mode_ending why ≡ ending.Usage → ⊥
refused_unlike refusal.NoSwap is = absurd (cc)
refused_unlike refusal.Encrypted is = absurd (cc)
refused_unlike refusal.NotSwap is = absurd (cc)
refused_unlike refusal.OutputFailed is = absurd (cc)
refused_unlike refusal.FolderFailed is = absurd (cc)
refused_unlike refusal.NoMemory is = absurd (cc)

ended_unlike : (ended : Ended (Unit {0})) → ended_by ended ≡ ending.Usage → ⊥
ended_unlike (Ok done) is = absurd (cc)
ended_unlike (Err why) is = refused_unlike why is

recovered_unlike : (ended : Ended Recovery) → recovered_by ended ≡ ending.Usage → ⊥
recovered_unlike (Ok recovery.Whole) is = absurd (cc)
recovered_unlike (Ok recovery.Marked) is = absurd (cc)
recovered_unlike (Err why) is = refused_unlike why is

pub never_usage : (m : Mode) (tells : Tells) (name : Name) (old new : Scene) (end : Ending) (marks : List Mark) → Performs m tells name old new end marks → end ≡ ending.Usage → ⊥
never_usage mode.Edit tells name old new end marks performs is = not_usage tells name old new end marks performs is
never_usage mode.Recover tells name old new end marks performs is = recovered_unlike performs.0 (sym performs.1 ∙ is)
never_usage mode.Info tells name old new end marks performs is = ended_unlike performs.0 (sym performs.1 ∙ is)
never_usage mode.Discard tells name old new end marks performs is = ended_unlike performs.0 (sym performs.1 ∙ is)
