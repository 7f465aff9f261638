-- The names of the commands.
use Rattle.std.specs.Prelude.{ℕ, Bool, true, false, List, [], ◌∷◌, codes, Option, option_map, find, map}
use Rattle.vs_exparse.specs.Table.{Row, matches}
use Rattle.vs_exparse.specs.declared.words.Word.{Word}
use Rattle.vs_exparse.specs.declared.words.Word.TheVariants as word
use Rattle.vs_exparse.specs.declared.words.Rule.{Rule}

-- a name with its shortest form, and what its command allows
pub record Name : Type 0 where
  pub row : Row
  pub rule : Rule

abbrev pub name : List ℕ → ℕ → Word → Bool → Bool → Name
name bytes shortest word range bang = record { row = (bytes, shortest); rule = record { word = word; range = range; bang = bang } }

-- name, length of the shortest form, command, whether a range and whether `!` is allowed
abbrev pub names : List Name
names =
    name (codes "append") 1 word.Append true false
    ∷ name (codes "insert") 1 word.Insert true false
    ∷ name (codes "change") 1 word.Change true false
    ∷ name (codes "delete") 1 word.Delete true false
    ∷ name (codes "move") 1 word.Move true false
    ∷ name (codes "copy") 2 word.Copy true false
    ∷ name (codes "t") 1 word.T true false
    ∷ name (codes "join") 1 word.Join true true
    ∷ name (codes "substitute") 1 word.Substitute true false
    ∷ name (codes "print") 1 word.Print true false
    ∷ name (codes "number") 2 word.Number true false
    ∷ name (codes "=") 1 word.Equals true false
    ∷ name (codes "undo") 1 word.Undo false false
    ∷ name (codes "redo") 3 word.Redo false false
    ∷ name (codes "earlier") 2 word.Earlier false false
    ∷ name (codes "later") 3 word.Later false false
    ∷ name (codes "undolist") 5 word.UndoList false false
    ∷ name (codes "write") 1 word.Write false true
    ∷ name (codes "preserve") 3 word.Preserve false false
    ∷ name (codes "quit") 1 word.Quit false true
    ∷ name (codes "set") 2 word.Set false false
    ∷ name (codes "wundo") 5 word.WriteUndo false false
    ∷ name (codes "rundo") 5 word.ReadUndo false false
    ∷ name (codes "global") 1 word.Global true true
    ∷ name (codes "vglobal") 1 word.VGlobal true false
    ∷ []

abbrev pub rows : List Row
rows = map (λ name. name.row) names

abbrev pub rules : List Rule
rules = map (λ name. name.rule) names

-- what the command that a word names allows
abbrev pub rule_of : List ℕ → Option Rule
rule_of word = option_map (λ name. name.rule) (find (λ name. matches word name.row) names)
