-- How a file is read forwards, line by line.
use Rattle.std.specs.Prelude.{◌≡◌, ℕ, ◌+◌, ◌-◌, ◌/◌, ◌≤◌, ◌<◌, ◌^◌, ⊤, Bool, true, false, List, [], ◌∷◌, ◌++◌, length, take, drop, Option, Some, None}
use Rattle.vs_text.specs.declared.format.Format.{Format}
use Rattle.vs_text.specs.Text.{IsLine, lines_of}
use Rattle.vs_damaged.specs.declared.shown.Shown.{Shown}
use Rattle.vs_damaged.specs.declared.shown.Marker.TheVariants as marker
use Rattle.vs_damaged.specs.Items.{Item, Shows, TheMarker}
use Rattle.vs_recover.specs.declared.original.Original.{Original}
use Rattle.vs_recover.specs.declared.original.TheConstants.{KEPT}

-- the bytes of the piece that stand past the place
abbrev pub ahead : Original → List ℕ
ahead o = drop o.used o.piece.items

-- The place lies in the piece, and the piece in the file, whose length is a number that fits.
pub record IsPlace (o : Original) : Type 0 where
  pub used : o.used ≤ length o.piece.items
  pub at : o.at ≤ o.len
  pub fits : o.len < 2 ^ 64

-- What follows the place in the file are its lines from one on.
pub record Follows (o : Original) (file : List ℕ) : Type 0 where
  pub len : o.len ≡ length file
  pub lines : lines_of (ahead o ++ drop o.at file) ≡ drop o.line (lines_of file)

-- The file that is there was opened, and the place follows in it.
abbrev pub IsOpened : Option (List ℕ) → Option Original → Type 0
IsOpened None None = ⊤
IsOpened None (Some o) = ⊥
IsOpened (Some file) None = ⊥
IsOpened (Some file) (Some o) = Follows o file

-- a first part of a line was kept
abbrev pub Keeps : List ℕ → List ℕ → List ℕ → Type 0
Keeps old taken new = new ≡ take KEPT (old ++ taken)

-- The bytes up to the next line end were taken, or all where there is no line end.
abbrev pub TakesPiece : List ℕ → List ℕ → List ℕ → List ℕ → Bool → Type 0
TakesPiece ahead rest old new true = (taken : List ℕ) × IsLine taken × (ahead ≡ taken ++ 10 ∷ rest) × Keeps old taken new
TakesPiece ahead rest old new false = IsLine ahead × (rest ≡ []) × Keeps old ahead new

-- The first of these lines was read, or there is none.
abbrev pub IsNext : List (List ℕ) → List (List ℕ) → List ℕ → Bool → Type 0
IsNext lines rest line true = (whole : List ℕ) × (lines ≡ whole ∷ rest) × (line ≡ take KEPT whole)
IsNext lines rest line false = (lines ≡ []) × (rest ≡ [])

-- the number of pieces of so many bytes
abbrev pub pieces_of : ℕ → ℕ
pieces_of len = (len + 65535) / 65536

-- the number of pieces that were not read
abbrev pub pieces_left : Original → ℕ
pieces_left o = pieces_of (o.len - o.at)

-- the number of pieces of an original file, none where it is not there
abbrev pub pieces_in : Option Original → ℕ
pieces_in None = 0
pieces_in (Some o) = pieces_of o.len

-- These lines and markers are shown, or all but the marker that stands last.
abbrev pub ShowsPart : Format → Shown → List Item → List Item → Bool → Type 0
ShowsPart format shown items more true = Shows format shown (items ++ more)
ShowsPart format shown items more false = (part : List Item) × (more ≡ part ++ TheMarker marker.LinesMissing ∷ []) × Shows format shown (items ++ part)
