-- Where and how bytes are refused that do not have the form of an undo file: by the parts of the format, in the order of the file.
use Rattle.std.specs.Prelude.{◌≡◌, ◌≢◌, ◌⊎◌, ◌<◌, ◌↔◌, ◌==◌, ◌&&◌, Bool, true, false, ℕ, List, [], ◌∷◌, ◌++◌, length, map, replicate, Option, Some, None}
use Rattle.vs_ufile.specs.declared.error.UfErr.{UfErr}
use Rattle.vs_ufile.specs.declared.error.UfKind.{UfKind}
use Rattle.vs_ufile.specs.declared.error.UfKind.TheVariants.{NotUndo, TooManyHeads, Truncated}
use Rattle.vs_ufile.specs.declared.fault.Fault.{Fault}
use Rattle.vs_ufile.specs.declared.fault.Stop.TheVariants.{At}
use Rattle.vs_ufile.specs.Decode.{error_of, first_unknown, no_memory}
use Rattle.vs_ufile.specs.Failing.{IsTreeFault}
use Rattle.vs_ufile.specs.Format.{Row, InOrder, Each, Follows, Allowed, Any, HasForm, Is, IsNumber, change_rows, entry_rows, line_rows, option_rows}
use Rattle.vs_ufile.specs.Reading.{File, Placed, change_number_kind, magic_kind, numbers_of, save_number_kind, start_bytes, version_kind}

-- How bytes are refused that do not begin as is asked.
abbrev pub Refusal : Type 1
Refusal = List ℕ → Fault → Type 0

-- A part of the format: which bytes it may be, and how bytes are refused that do not begin with such.
pub record Part : Type 1 where
  pub row : Row
  pub refusal : Refusal

-- the bytes begin with those of a row, and this holds of what follows them
abbrev pub Past : Row → (List ℕ → Type 0) → List ℕ → Type 0
Past row holds bytes = (part rest : List ℕ) × (bytes ≡ part ++ rest) × row part (length rest) × holds rest

-- the bytes begin with the parts before some part, which refuses what follows them
abbrev pub RefusedAtOne : List Part → Refusal
RefusedAtOne [] bytes fault = ⊥
RefusedAtOne (p ∷ ps) bytes fault = p.refusal bytes fault ⊎ Past p.row (λ rest. RefusedAtOne ps rest fault) bytes

-- these parts, one after the other
abbrev pub all_of : List Part → Part
all_of ps = record { row = InOrder (map (λ p. p.row) ps); refusal = RefusedAtOne ps }

-- the part for some value
abbrev pub some_of : {A : Type 0} → (A → Part) → Part
some_of {A = A} part = record {
  row = λ bytes following. (x : A) × (part x).row bytes following;
  refusal = λ bytes fault. (x : A) × (part x).refusal bytes fault;
}

-- ---- fields

-- fewer bytes are left than the field has
pub record IsCut (width : ℕ) (bytes : List ℕ) (fault : Fault) : Type 0 where
  pub short : length bytes < width
  pub is : fault ≡ record { kind = Truncated; left = length bytes; found = 0 }

-- the number of this many bytes that is found here is of a kind that is refused
pub record IsOfKind (width : ℕ) (kind_of : ℕ → Option UfKind) (bytes : List ℕ) (fault : Fault) : Type 0 where
  pub here : fault.left ≡ length bytes
  pub found : Past (IsNumber width fault.found) (λ rest. Unit {0}) bytes
  pub kind : kind_of fault.found ≡ Some fault.kind

-- a number or a run of this many bytes, whatever they are
abbrev pub field : ℕ → Part
field width = record { row = Any width; refusal = IsCut width }

-- this number
abbrev pub holding : ℕ → ℕ → Part
holding width n = record { row = IsNumber width n; refusal = IsCut width }

-- a number that is of no kind that is refused
abbrev pub allowed_number : ℕ → (ℕ → Option UfKind) → Part
allowed_number width kind_of = record {
  row = λ bytes following. (n : ℕ) × (kind_of n ≡ None) × IsNumber width n bytes following;
  refusal = λ bytes fault. IsCut width bytes fault ⊎ IsOfKind width kind_of bytes fault;
}

-- the magic number of an item, where that of the end may stand too
abbrev pub magic : ℕ → ℕ → Part
magic item end = record { row = IsNumber 2 item; refusal = λ bytes fault. IsCut 2 bytes fault ⊎ IsOfKind 2 (magic_kind item end) bytes fault }

-- a length, and that many bytes
abbrev pub sized_part : Part
sized_part = some_of (λ size. all_of (holding 4 size ∷ field size ∷ []))

-- ---- parts of which there are several

-- so many lines
abbrev pub lines_part : ℕ → Part
lines_part count = record {
  row = λ bytes following. (lines : List (List ℕ)) × (length lines ≡ count) × Each line_rows lines bytes following;
  refusal = λ bytes fault. (lines : List (List ℕ)) × (length lines < count) × Past (Each line_rows lines) (λ rest. sized_part.refusal rest fault) bytes;
}

-- Items up to an end, each of which is as is asked after those before it. Bytes are refused at an item after all those that stand whole.
abbrev pub up_to : {A : Type 0} → (List A → A → Type 0) → (A → List Row) → List Row → (List A → Part) → Part
up_to {A = A} asked rows end item = record {
  row = λ bytes following. (xs : List A) × Follows asked [] xs × InOrder (Each rows xs ∷ end) bytes following;
  refusal = λ bytes fault. (xs : List A) × Follows asked [] xs × Past (Each rows xs) (λ rest. (item xs).refusal rest fault) bytes;
}

-- the data of an optional field: a save number, or so many bytes
abbrev pub data_part : Bool → ℕ → Part
data_part true size = allowed_number 4 save_number_kind
data_part false size = field size

-- the length of an optional field, which is not the end of these fields
abbrev pub length_part : ℕ → Part
length_part size = record { row = λ bytes following. (size ≢ 0) × IsNumber 1 size bytes following; refusal = IsCut 1 }

-- an optional field
abbrev pub option_part : Part
option_part = some_of (λ size. some_of (λ kind. all_of (length_part size ∷ holding 1 kind ∷ data_part ((kind == 1) && (size == 4)) size ∷ [])))

-- optional fields
abbrev pub options_part : Part
options_part = up_to (λ _ _. Unit {0}) option_rows (IsNumber 1 0 ∷ []) (λ _. option_part)

-- an entry
abbrev pub entry_part : Part
entry_part = all_of (magic 0xf518 0x3581 ∷ field 4 ∷ field 4 ∷ field 4 ∷ some_of (λ count. all_of (holding 4 count ∷ lines_part count ∷ [])) ∷ [])

-- the entries of a change
abbrev pub entries_part : Part
entries_part = up_to (λ _ _. Unit {0}) entry_rows (IsNumber 2 0x3581 ∷ []) (λ _. entry_part)

-- ---- changes

-- a change begins here, and there is no head left for it
pub record IsOneTooMany (heads : ℕ) (before : List Placed) (bytes : List ℕ) (fault : Fault) : Type 0 where
  pub none_left : length before ≡ heads
  pub begins : Past (IsNumber 2 0x5fd0) (λ rest. Unit {0}) bytes
  pub is : fault ≡ record { kind = TooManyHeads; left = length bytes; found = heads }

-- the magic number of a change after these changes
abbrev pub change_magic : ℕ → List Placed → Part
change_magic heads before = record {
  row = λ bytes following. (length before ≢ heads) × IsNumber 2 0x5fd0 bytes following;
  refusal = λ bytes fault. (magic 0x5fd0 0xe7aa).refusal bytes fault ⊎ IsOneTooMany heads before bytes fault;
}

-- cursor, virtual column and flags
abbrev pub flags_part : Part
flags_part = all_of (field 12 ∷ field 4 ∷ field 2 ∷ [])

-- 26 marks, and the visual area
abbrev pub marks_part : Part
marks_part = all_of (all_of (replicate 26 (field 12)) ∷ field 24 ∷ field 4 ∷ field 4 ∷ [])

-- what a change has after its number
abbrev pub body_part : Part
body_part = all_of (flags_part ∷ marks_part ∷ field 8 ∷ options_part ∷ entries_part ∷ [])

-- the four links of a change
abbrev pub links_part : Part
links_part = all_of (field 4 ∷ field 4 ∷ field 4 ∷ field 4 ∷ [])

-- a change after these changes
abbrev pub change_part : ℕ → List Placed → Part
change_part heads before =
    all_of (change_magic heads before ∷ links_part ∷ allowed_number 4 (change_number_kind (numbers_of before)) ∷ body_part ∷ [])

-- the changes of a file with so many heads
abbrev pub changes_part : ℕ → Part
changes_part heads = up_to (Allowed heads) change_rows (IsNumber 2 0xe7aa ∷ []) (change_part heads)

-- ---- the file

-- the bytes that an undo file begins with
abbrev pub start_part : Part
start_part = record {
  row = Is start_bytes;
  refusal = λ bytes fault. ((rest : List ℕ) → bytes ≢ start_bytes ++ rest) × (fault ≡ record { kind = NotUndo; left = length bytes; found = 0 });
}

-- what stands in front of the numbers of a file
abbrev pub front_part : Part
front_part = all_of (start_part ∷ allowed_number 2 version_kind ∷ field 32 ∷ field 4 ∷ sized_part ∷ field 4 ∷ field 4 ∷ [])

-- the numbers of a file with so many heads
abbrev pub numbers_part : ℕ → Part
numbers_part heads = all_of (field 4 ∷ field 4 ∷ field 4 ∷ holding 4 heads ∷ field 4 ∷ field 4 ∷ [])

-- a whole file
abbrev pub file_part : Part
file_part = some_of (λ heads. all_of (front_part ∷ numbers_part heads ∷ field 8 ∷ options_part ∷ changes_part heads ∷ []))

-- bytes that begin with the parts are those that have the form by their rows
abbrev pub SameFormat : Type 0
SameFormat = (bytes : List ℕ) → Past file_part.row (λ rest. Unit {0}) bytes ↔ ((f : File) × HasForm f bytes)

-- The bytes have this fault: a part of the format is not there, a link or head leads to no change, or the changes make no tree.
abbrev pub IsFault : List ℕ → Fault → Type 0
IsFault bytes fault =
    file_part.refusal bytes fault
    ⊎ ((f : File) × HasForm f bytes × (first_unknown f ≡ Some fault))
    ⊎ ((f : File) × HasForm f bytes × (first_unknown f ≡ None) × IsTreeFault f.placed (Some fault))

-- the error tells this fault of the bytes, or there was no memory
abbrev pub Tells : List ℕ → Fault → UfErr → Type 0
Tells bytes fault error = (error ≡ error_of (length bytes) (At fault)) ⊎ (error ≡ no_memory)

-- the error tells a fault that the bytes have, or there was no memory
abbrev pub TellsOne : List ℕ → UfErr → Type 0
TellsOne bytes error = ((fault : Fault) × IsFault bytes fault × (error ≡ error_of (length bytes) (At fault))) ⊎ (error ≡ no_memory)
