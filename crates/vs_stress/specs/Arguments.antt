-- The number of commands, and the line that the stress mode writes.
use Rattle.std.specs.Prelude.{ℕ, ◌≡◌, ◌≢◌, ◌≤◌, List, [], ◌∷◌, ◌++◌, codes, decimal, length, slice_index}
use Rattle.std.specs.Str.Parse.{IsNumeral, digits_value}
use Rattle.hex.specs.Hex.{encode_lower}

-- One to six decimal digits say this number, and it is from 1 to 100,000.
pub record IsCount (word : List ℕ) (count : ℕ) : Type 0 where
  pub short : length word ≤ 6
  pub no_sign : slice_index word 0 ≢ 43
  pub numeral : IsNumeral 10 word
  pub says : digits_value 10 word ≡ count
  pub some : 1 ≤ count
  pub few : count ≤ 100000

-- the number of commands, of lines, of changes and of syncs, and the digest
abbrev pub summary_line : ℕ → ℕ → ℕ → ℕ → List ℕ → List ℕ
summary_line count lines changes syncs digest =
    codes "stress " ++ (decimal count ++ codes ": ") ++ (decimal lines ++ codes " lines, ") ++
    (decimal changes ++ codes " changes, ") ++ (decimal syncs ++ codes " syncs, ")
    ++ encode_lower digest ++ 10 ∷ []
