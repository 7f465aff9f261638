-- What a reader of a text in pieces was fed.
use Rattle.std.specs.Prelude.{ℕ, Bool, List}

-- What a reader shows: the bytes of its pieces, one after another, and whether there was no memory for one.
pub record Fed : Type 0 where
  pub bytes : List ℕ
  pub failed : Bool
