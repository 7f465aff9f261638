-- A piece of a file.
use Rattle.std.specs.Prelude.{◌≡◌, ℕ, List, drop, length, take}

-- A file of so many bytes, of which the bytes from this place on are at hand.
pub record FilePiece : Type 0 where
  pub size : ℕ
  pub at : ℕ
  pub bytes : List ℕ

-- The bytes at hand are those of this file.
abbrev pub IsPieceOf : List ℕ → FilePiece → Type 0
IsPieceOf file piece = piece.bytes ≡ take (length piece.bytes) (drop piece.at file)

-- These bytes are the first ones of a file.
abbrev pub AreFirstOf : List ℕ → List ℕ → Type 0
AreFirstOf file bytes = bytes ≡ take (length bytes) file
