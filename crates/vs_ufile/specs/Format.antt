-- The undo file, version 2: which bytes stand for which history. Each part is a list of rows in the order of the file.
use Rattle.std.specs.Prelude.{◌≡◌, ◌≢◌, ℕ, ◌+◌, ◌≤◌, ◌==◌, Bool, false, ◌&&◌, List, [], ◌∷◌, ◌++◌, length, Option, Some, None}
use Rattle.vs_bytes.specs.Fields.{Big, number_of}
use Rattle.vs_text.specs.Text.{plain_line}
use Rattle.vs_ufile.specs.Reading.{Body, File, Placed, change_number_kind, is_empty, last_of, numbers_of, start_bytes}
use Rattle.vs_ufile.specs.Values.{Entry, Change}
use Rattle.vs_ufile.specs.declared.reading.Links.{Links}
use Rattle.vs_ufile.specs.declared.reading.Front.{Front}
use Rattle.vs_ufile.specs.declared.reading.Numbers.{Numbers}

-- What bytes may be, where this many bytes follow.
abbrev pub Row : Type 1
Row = List ℕ → ℕ → Type 0

-- the bytes are those of the rows, one after the other
abbrev pub InOrder : List Row → Row
InOrder [] bytes following = bytes ≡ []
InOrder (row ∷ rows) bytes following =
    (part rest : List ℕ) × (bytes ≡ part ++ rest) × row part (length rest + following) × InOrder rows rest following

-- the bytes are those of each item, one after the other
abbrev pub Each : {A : Type 0} → (A → List Row) → List A → Row
Each item [] bytes following = bytes ≡ []
Each item (x ∷ xs) bytes following =
    (part rest : List ℕ) × (bytes ≡ part ++ rest) × InOrder (item x) part (length rest + following) × Each item xs rest following

-- no bytes: the place where this many are left
pub record Here (left : ℕ) (bytes : List ℕ) (following : ℕ) : Type 0 where
  pub none : bytes ≡ []
  pub place : left ≡ following

-- a number of this many bytes
pub record IsNumber (width n : ℕ) (bytes : List ℕ) (following : ℕ) : Type 0 where
  pub wide : length bytes ≡ width
  pub value : number_of Big width bytes ≡ n

-- this many bytes, whatever they are
pub record Any (size : ℕ) (bytes : List ℕ) (following : ℕ) : Type 0 where
  pub wide : length bytes ≡ size

-- these bytes
pub record Is (run bytes : List ℕ) (following : ℕ) : Type 0 where
  pub same : bytes ≡ run

-- a length, and that many bytes
abbrev pub sized : List ℕ → List Row
sized run = IsNumber 4 (length run) ∷ Is run ∷ []

-- a length, and that many bytes, whatever they are
abbrev pub AnySized : Row
AnySized bytes following = (run : List ℕ) × InOrder (sized run) bytes following

-- a line, whose bytes 0 and 10 both stand for byte 0
abbrev pub IsLine : List ℕ → Row
IsLine line bytes following = (stored : List ℕ) × (plain_line stored ≡ line) × InOrder (sized stored) bytes following

-- the rows of a line
abbrev pub line_rows : List ℕ → List Row
line_rows line = IsLine line ∷ []

-- the rows of an entry
abbrev pub entry_rows : Entry → List Row
entry_rows e =
    IsNumber 2 0xf518 ∷ IsNumber 4 e.top ∷ IsNumber 4 e.bottom ∷ IsNumber 4 e.count ∷ IsNumber 4 (length e.lines)
    ∷ Each line_rows e.lines ∷ []

-- the rows of the entries of a change
abbrev pub entries_rows : List Entry → List Row
entries_rows es = Each entry_rows es ∷ IsNumber 2 0x3581 ∷ []

-- a save number
pub record IsSave (n : ℕ) (bytes : List ℕ) (following : ℕ) : Type 0 where
  pub number : IsNumber 4 n bytes following
  pub small : n ≤ 2000000000

-- a length above zero, a kind, and data that are no save number
pub record Skipped (bytes : List ℕ) (following : ℕ) : Type 0 where
  pub size : ℕ
  pub kind : ℕ
  pub not_end : size ≢ 0
  pub not_save : ((kind == 1) && (size == 4)) ≡ false
  pub in_order : InOrder (IsNumber 1 size ∷ IsNumber 1 kind ∷ Any size ∷ []) bytes following

-- an optional field: a save number, or one that is skipped
abbrev pub option_rows : Option ℕ → List Row
option_rows (Some save) = IsNumber 1 4 ∷ IsNumber 1 1 ∷ IsSave save ∷ []
option_rows None = Skipped ∷ []

-- the rows of the four links of a change
abbrev pub links_rows : Links → List Row
links_rows links = IsNumber 4 links.next ∷ IsNumber 4 links.prev ∷ IsNumber 4 links.alt_next ∷ IsNumber 4 links.alt_prev ∷ []

-- optional fields, of whose save numbers the last counts
abbrev pub IsOptions : ℕ → Row
IsOptions save bytes following = (found : List (Option ℕ)) × (last_of found ≡ save) × InOrder (Each option_rows found ∷ IsNumber 1 0 ∷ []) bytes following

-- the flags, of which one bit counts
abbrev pub IsFlags : Bool → Row
IsFlags empty bytes following = (flags : ℕ) × (is_empty flags ≡ empty) × InOrder (IsNumber 2 flags ∷ []) bytes following

-- a change after its number: cursor, virtual column, flags, marks, visual area, time, optional fields, entries
abbrev pub body_rows : Body → List Row
body_rows b =
    Any 12 ∷ Any 4 ∷ IsFlags b.empty ∷ Any 312 ∷ Any 24 ∷ Any 4 ∷ Any 4 ∷ IsNumber 8 b.time ∷ IsOptions b.save
    ∷ Each entry_rows b.entries ∷ IsNumber 2 0x3581 ∷ []

-- a change, wherever it stands
abbrev pub plain_rows : Change → List Row
plain_rows c =
    IsNumber 2 0x5fd0
    ∷ IsNumber 4 c.next ∷ IsNumber 4 c.prev ∷ IsNumber 4 c.alt_next ∷ IsNumber 4 c.alt_prev ∷ IsNumber 4 c.number
    ∷ Any 12 ∷ Any 4 ∷ IsFlags c.empty ∷ Any 312 ∷ Any 24 ∷ Any 4 ∷ Any 4
    ∷ IsNumber 8 c.time ∷ IsOptions c.save
    ∷ Each entry_rows c.entries ∷ IsNumber 2 0x3581 ∷ []

-- a change at its place
abbrev pub change_rows : Placed → List Row
change_rows p = Here p.left ∷ plain_rows p.change

-- the rows in front of the changes
abbrev pub front_rows : Front → List Row
front_rows f =
    Is start_bytes ∷ IsNumber 2 2 ∷ Is f.digest ∷ IsNumber 4 f.lines ∷ AnySized ∷ Any 4 ∷ Any 4 ∷ []

-- the rows of the numbers of a file
abbrev pub numbers_rows : Numbers → List Row
numbers_rows n =
    IsNumber 4 n.oldest ∷ IsNumber 4 n.newest ∷ IsNumber 4 n.current_head ∷ IsNumber 4 n.heads ∷ IsNumber 4 n.last ∷ IsNumber 4 n.current ∷ []

-- the whole file
abbrev pub file_rows : File → List Row
file_rows f =
    Is start_bytes ∷ IsNumber 2 2 ∷ Is f.front.digest ∷ IsNumber 4 f.front.lines ∷ AnySized ∷ Any 4 ∷ Any 4
    ∷ Here f.heads_left ∷ IsNumber 4 f.numbers.oldest ∷ IsNumber 4 f.numbers.newest ∷ IsNumber 4 f.numbers.current_head
    ∷ IsNumber 4 f.numbers.heads ∷ IsNumber 4 f.numbers.last ∷ IsNumber 4 f.numbers.current
    ∷ IsNumber 8 f.time ∷ IsOptions f.last_save
    ∷ Each change_rows f.placed ∷ IsNumber 2 0xe7aa ∷ []

-- a change is allowed after those before it: there is a head left for it, and its number is a new one
pub record Allowed (heads : ℕ) (before : List Placed) (next : Placed) : Type 0 where
  pub head : (length before == heads) ≡ false
  pub number : change_number_kind (numbers_of before) next.change.number ≡ None

-- each item is as is asked of it after those before it
abbrev pub Follows : {A : Type 0} → (List A → A → Type 0) → List A → List A → Type 0
Follows asked before [] = Unit {0}
Follows asked before (x ∷ xs) = asked before x × Follows asked (before ++ x ∷ []) xs

-- The bytes have the form of an undo file, and more may follow.
pub record HasForm (f : File) (bytes : List ℕ) : Type 0 where
  pub part : List ℕ
  pub rest : List ℕ
  pub whole : bytes ≡ part ++ rest
  pub in_order : InOrder (file_rows f) part (length rest)
  pub digest : length f.front.digest ≡ 32
  pub numbers : Follows (Allowed f.numbers.heads) [] f.placed
