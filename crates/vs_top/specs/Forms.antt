-- The forms of the arguments, and what each of them does.
use Rattle.std.specs.Prelude.{◌≡◌, ◌⊎◌, ℕ, List, [], ◌∷◌, codes, IsTrue}
use Rattle.vs_host.specs.Disk.{Name}
use Rattle.vs_host.specs.Names.{is_allowed, names_of_file}
use Rattle.vs_host.specs.World.{Tells, Scene}
use Rattle.vs_machine.specs.declared.command.Mark.{Mark}
use Rattle.vs_modes.specs.Modes.{Ended}
use Rattle.vs_modes.specs.Recover.{RunsRecover}
use Rattle.vs_modes.specs.Info.{RunsInfo}
use Rattle.vs_modes.specs.Discard.{RunsDiscard}
use Rattle.vs_top.specs.declared.ending.Ending.{Ending}
use Rattle.vs_top.specs.declared.ending.Ending.TheVariants as ending
use Rattle.vs_top.specs.declared.form.Mode.{Mode}
use Rattle.vs_top.specs.declared.form.Mode.TheVariants as mode
use Rattle.vs_top.specs.Ending.{ended_by, recovered_by}
use Rattle.vs_top.specs.Promise.{RunsEdit}
use Rattle.vs_top.specs.Promise.{RunsStress}
use Rattle.vs_top.specs.PairPromise.{IsPair, RunsPair}
use Rattle.vs_top.specs.Stress.{IsStress}

-- the first argument of a form
abbrev pub word_of : Mode → List ℕ
word_of mode.Edit = codes "edit"
word_of mode.Recover = codes "recover"
word_of mode.Info = codes "info"
word_of mode.Discard = codes "discard"

-- the arguments are the word of this mode and this name
abbrev pub IsForm : List (List ℕ) → Mode → List ℕ → Type 0
IsForm words mode name = (words ≡ word_of mode ∷ name ∷ []) × IsTrue (is_allowed name)

-- The arguments are one of the forms with the name of a file.
abbrev pub NamesFile : List (List ℕ) → Type 0
NamesFile words = (mode : Mode) × (name : List ℕ) × IsForm words mode name

-- The arguments are one of the forms that are built.
abbrev pub IsBuilt : List (List ℕ) → Type 0
IsBuilt words = NamesFile words ⊎ ((count : ℕ) × IsStress words count) ⊎ ((one : Name) × (two : Name) × IsPair words one two)

-- A mode other than `edit` ended so. It has no marks.
abbrev pub EndsBy : {T : Type 0} → (Ended T → Ending) → (Ended T → Type 0) → Ending → List Mark → Type 0
EndsBy {T} ending_of Runs end marks = (ended : Ended T) × (end ≡ ending_of ended) × Runs ended × (marks ≡ [])

-- what is done in a mode with the file of a name, by how it ended
abbrev pub Performs : Mode → Tells → Name → Scene → Scene → Ending → List Mark → Type 0
Performs mode.Edit tells name old new end marks = RunsEdit tells name old new end marks
Performs mode.Recover tells name old new end marks = EndsBy recovered_by (RunsRecover tells (names_of_file name) old new) end marks
Performs mode.Info tells name old new end marks = EndsBy ended_by (RunsInfo tells (names_of_file name) old new) end marks
Performs mode.Discard tells name old new end marks = EndsBy ended_by (RunsDiscard tells (names_of_file name) old new) end marks

-- Nothing was done, since the arguments have no form.
pub record DoesNothing (words : List (List ℕ)) (old new : Scene) (end : Ending) (marks : List Mark) : Type 0 where
  pub unbuilt : ¬ IsBuilt words
  pub ended : end ≡ ending.Usage
  pub idle : new ≡ old
  pub none : marks ≡ []

-- What the arguments ask for was done: in their mode with the file of their name, in the stress mode with their number, or with the files
-- of their two names.
abbrev pub Does : (Scene → Type 0) → Tells → List (List ℕ) → Scene → Scene → Ending → List Mark → Type 0
Does OfHost tells words old new end marks =
    ((mode : Mode) × (name : List ℕ) × IsForm words mode name × Performs mode tells name old new end marks)
    ⊎ ((count : ℕ) × IsStress words count × RunsStress OfHost tells count old new end marks)
    ⊎ ((one : Name) × (two : Name) × IsPair words one two × RunsPair tells one two old new end marks)
    ⊎ DoesNothing words old new end marks
