-- The undo file in reading order: the value of each part, or the first place where the bytes differ from the format.
use Rattle.std.specs.Prelude.{◌≡◌, ℕ, zero, suc, ◌+◌, ◌/◌, ◌%◌, Bool, ◌&&◌, List, [], ◌∷◌, ◌++◌, length, take, drop, map, Option, Some, None, Result, Ok}
use Rattle.std.specs.Prelude.{Err, nat_lt, nat_eq, fold, unwrap_or, ◌==◌, if◌then◌else◌}
use Rattle.std.specs.List.{starts_with}
use Rattle.std.specs.Option.{option_map, is_some}
use Rattle.vs_bytes.specs.Fields.{Big, number_of}
use Rattle.vs_text.specs.Text.{plain_line}
use Rattle.vs_ufile.specs.declared.error.UfKind.{UfKind}
use Rattle.vs_ufile.specs.declared.error.UfKind.TheVariants.{NotUndo, Version, Encrypted, Truncated, BadMagic, TooManyHeads, DoubleNumber, NumberZero}
use Rattle.vs_ufile.specs.declared.fault.Fault.{Fault}
use Rattle.vs_ufile.specs.declared.fault.Stop.{Stop}
use Rattle.vs_ufile.specs.declared.fault.Stop.TheVariants as stops
use Rattle.vs_ufile.specs.declared.reading.Links.{Links}
use Rattle.vs_ufile.specs.declared.reading.Front.{Front}
use Rattle.vs_ufile.specs.declared.reading.Numbers.{Numbers}
use Rattle.vs_ufile.specs.declared.reading.Body as declared_body
use Rattle.vs_ufile.specs.Values.{Entry, Change, entry_of}

-- ---- readers

-- A reader takes a value from the front of the bytes and leaves the rest, or tells the first fault.
abbrev pub Read : Type 0 → Type 0
Read A = List ℕ → Result (A × List ℕ) Fault

-- what is read after a value
abbrev pub carry : {A B : Type 0} → Result (A × List ℕ) Fault → (A → Read B) → Result (B × List ℕ) Fault
carry (Ok x) f = f x.0 x.1
carry (Err e) f = Err e

-- one part, and then what follows it
infixl 10 ◌>>=◌
abbrev pub ◌>>=◌ : {A B : Type 0} → Read A → (A → Read B) → Read B
(r >>= f) bytes = carry (r bytes) f

-- the value, and nothing is read
abbrev pub give : {A : Type 0} → A → Read A
give x bytes = Ok (x, bytes)

-- the place: how many bytes are left from it on
abbrev pub here : Read ℕ
here bytes = Ok (length bytes, bytes)

-- a refusal of the part that begins where this many bytes are left
abbrev pub refuse : {A : Type 0} → ℕ → UfKind → ℕ → Read A
refuse left kind found bytes = Err (record { kind = kind; left = left; found = found })

-- this many bytes
abbrev pub run : ℕ → Read (List ℕ)
run size bytes =
    if nat_lt (length bytes) size then refuse (length bytes) Truncated 0 bytes else Ok (take size bytes, drop size bytes)

-- a number of this many bytes
abbrev pub number : ℕ → Read ℕ
number width bytes =
    if nat_lt (length bytes) width then refuse (length bytes) Truncated 0 bytes
    else Ok (number_of Big width (take width bytes), drop width bytes)

-- the number, unless it is of a kind that is refused
abbrev pub allowed : ℕ → ℕ → Option UfKind → Read ℕ
allowed left n None = give n
allowed left n (Some kind) = refuse left kind n

-- a number of this many bytes, which are refused by the kind that its value is of
abbrev pub checked : ℕ → (ℕ → Option UfKind) → Read ℕ
checked width kind_of bytes = carry (number width bytes) (λ n. allowed (length bytes) n (kind_of n))

-- Steps from a state to the next until one ends it, at most this many.
unfoldable pub repeat : {S : Type 0} → ℕ → (S → Read (Option S)) → S → Read S
repeat zero step s = give s
repeat {S = S} (suc n) step s = step s >>= λ found. elim found as (λ _. Read S) [ None ↦ give s | Some next ↦ repeat n step next ]

-- Steps until one ends it. Each takes at least one byte, so that there are never as many as bytes and one.
unfoldable pub until : {S : Type 0} → ℕ → (S → Read (Option S)) → S → Read S
until zero step s bytes = refuse (length bytes) Truncated 0 bytes
until {S = S} (suc n) step s bytes = carry (step s bytes) (λ found. elim found as (λ _. Read S) [ None ↦ give s | Some next ↦ until n step next ])

-- the list with one more item, where there is one
abbrev pub added : {A : Type 0} → List A → Option A → Option (List A)
added before None = None
added before (Some item) = Some (before ++ item ∷ [])

-- a step that adds one item, which may depend on those before it
unfoldable pub adding : {A : Type 0} → (List A → Read (Option A)) → List A → Read (Option (List A))
adding item before = item before >>= λ found. give (added before found)

-- items up to their end
abbrev pub items : {A : Type 0} → (List A → Read (Option A)) → Read (List A)
items item bytes = until (length bytes + 1) (adding item) [] bytes

-- ---- numbers that are refused

-- what is wrong with a version
abbrev pub version_kind : ℕ → Option UfKind
version_kind n = if n == 2 then None else if n == 0x8002 then Some Encrypted else Some Version

-- what is wrong with a magic number, of which there are two
abbrev pub magic_kind : ℕ → ℕ → ℕ → Option UfKind
magic_kind one other n = if n == one then None else if n == other then None else Some BadMagic

-- the place of a number in the list
abbrev pub index_of : ℕ → List ℕ → Option ℕ
index_of n [] = None
index_of n (x ∷ xs) = if x == n then Some 0 else option_map suc (index_of n xs)

-- what is wrong with the number of a change
abbrev pub change_number_kind : List ℕ → ℕ → Option UfKind
change_number_kind seen n =
    if n == 0 then Some NumberZero
    else if nat_lt 2147483647 n then Some NumberZero
    else if is_some (index_of n seen) then Some DoubleNumber
    else None

-- what is wrong with the number of a write
abbrev pub save_number_kind : ℕ → Option UfKind
save_number_kind n = if nat_lt 2000000000 n then Some NumberZero else None

-- ---- the parts, in the order of the file

-- the bytes that an undo file begins with
abbrev pub start_bytes : List ℕ
start_bytes = 0x56 ∷ 0x69 ∷ 0x6d ∷ 0x9f ∷ 0x55 ∷ 0x6e ∷ 0x44 ∷ 0x6f ∷ 0xe5 ∷ []

-- the nine first bytes
unfoldable pub start : Read (List ℕ)
start bytes =
    if starts_with nat_eq bytes start_bytes then Ok (start_bytes, drop 9 bytes) else Err (record { kind = NotUndo; left = length bytes; found = 0 })

-- the version
abbrev pub version : Read ℕ
version = checked 2 version_kind

-- a length, and that many bytes
unfoldable pub sized_run : Read (List ℕ)
sized_run = do
  size ← number 4
  run size

-- the data of an optional field: a save number, where kind and length say so
unfoldable pub option_data : ℕ → ℕ → Read (Option ℕ)
option_data kind size =
    if (kind == 1) && (size == 4) then (checked 4 save_number_kind >>= λ save. give (Some save))
    else (run size >>= λ _. give None)

-- an optional field, or the zero length that ends them
unfoldable pub option_or_end : Read (Option (Option ℕ))
option_or_end = do
  size ← number 1
  if size == 0 then give None
      else do
        kind ← number 1
        found ← option_data kind size
        give (Some found)

-- the next option, or the end
abbrev pub next_option : List (Option ℕ) → Read (Option (Option ℕ))
next_option before = option_or_end

-- of several save numbers the last counts, and without one it is 0
abbrev pub last_of : List (Option ℕ) → ℕ
last_of found = fold (λ before one. unwrap_or one before) 0 found

-- the options of a change, of which the number of its write is kept
unfoldable pub options : Read ℕ
options = do
  found ← items next_option
  give (last_of found)

-- a line
unfoldable pub line : Read (List ℕ)
line = do
  stored ← sized_run
  give (plain_line stored)

-- the next of so many lines
abbrev pub next_line : List (List ℕ) → Read (Option (List ℕ))
next_line before = line >>= λ found. give (Some found)

-- so many lines
unfoldable pub lines : ℕ → Read (List (List ℕ))
lines count = repeat count (adding next_line) []

-- an entry after its magic
unfoldable pub entry : Read Entry
entry = do
  top ← number 4
  bottom ← number 4
  count ← number 4
  size ← number 4
  lines ← lines size
  give (record { top = top; bottom = bottom; count = count; lines = lines })

-- one entry more, or the magic that ends them
unfoldable pub entry_or_end : Read (Option Entry)
entry_or_end = do
  magic ← checked 2 (magic_kind 0xf518 0x3581)
  if magic == 0x3581 then give None
      else do
        entry ← entry
        give (Some entry)

-- the next entry, or the end
abbrev pub next_entry : List Entry → Read (Option Entry)
next_entry before = entry_or_end

-- the entries of a change
unfoldable pub entries : Read (List Entry)
entries = items next_entry

-- one mark more, which is not kept
unfoldable pub next_mark : ℕ → Read (Option ℕ)
next_mark before = do
  mark ← run 12
  give (Some (before + 1))

-- the four links of a change
unfoldable pub links : Read Links
links = do
  next ← number 4
  prev ← number 4
  alt_next ← number 4
  alt_prev ← number 4
  give (record { next = next; prev = prev; alt_next = alt_next; alt_prev = alt_prev })

-- What a change is but for its links.
pub record Body : Type 0 where
  pub empty : Bool
  pub time : ℕ
  pub save : ℕ
  pub entries : List Entry

-- the rest of a change that was read
abbrev pub body_of : declared_body.Body → Body
body_of b = record { empty = b.empty; time = b.time; save = b.save; entries = map entry_of b.entries.items }

-- the bit of value 2
abbrev pub is_empty : ℕ → Bool
is_empty flags = flags / 2 % 2 == 1

-- cursor and virtual column, and then the flags
unfoldable pub flags : Read Bool
flags = do
  cursor ← run 12
  column ← run 4
  flags ← number 2
  give (is_empty flags)

-- marks and visual area
unfoldable pub marks : Read ℕ
marks = do
  marks ← repeat 26 next_mark 0
  positions ← run 24
  mode ← run 4
  wanted ← run 4
  give marks

-- a change after its number
unfoldable pub body : Read Body
body = do
  empty ← flags
  places ← marks
  time ← number 8
  save ← options
  entries ← entries
  give (record { empty = empty; time = time; save = save; entries = entries })

-- a change, and the place of its magic
pub record Placed : Type 0 where
  pub left : ℕ
  pub change : Change

-- the numbers of changes
abbrev pub numbers_of : List Placed → List ℕ
numbers_of placed = map (λ each. each.change.number) placed

-- a change of its parts, with what is left behind it
abbrev pub change_from : ℕ → Links → ℕ → Body → Placed
change_from left links number body = record {
  left = left;
  change = record {
    number = number;
    next = links.next;
    prev = links.prev;
    alt_next = links.alt_next;
    alt_prev = links.alt_prev;
    empty = body.empty;
    time = body.time;
    save = body.save;
    entries = body.entries;
  };
}

-- a change after its magic, whose place is left, and after these changes
unfoldable pub change : ℕ → List Placed → ℕ → Read Placed
change heads before left bytes =
    if length before == heads then refuse left TooManyHeads heads bytes
    else (do
      links ← links
      number ← checked 4 (change_number_kind (numbers_of before))
      body ← body
      give (change_from left links number body)) bytes

-- one change more, or the magic that ends the file
unfoldable pub change_or_end : ℕ → List Placed → Read (Option Placed)
change_or_end heads before = do
  left ← here
  magic ← checked 2 (magic_kind 0x5fd0 0xe7aa)
  if magic == 0xe7aa then give None
      else do
        placed ← change heads before left
        give (Some placed)

-- all changes
unfoldable pub changes : ℕ → Read (List Placed)
changes heads = items (change_or_end heads)

-- the header up to the U line
unfoldable pub front : Read Front
front = do
  start ← start
  version ← version
  digest ← run 32
  lines ← number 4
  u_line ← sized_run
  u_number ← run 4
  u_column ← run 4
  give (record { digest = digest; lines = lines })

-- the numbers of a file
unfoldable pub numbers : Read Numbers
numbers = do
  oldest ← number 4
  newest ← number 4
  current_head ← number 4
  heads ← number 4
  last ← number 4
  current ← number 4
  give (record { oldest = oldest; newest = newest; current_head = current_head; heads = heads; last = last; current = current })

-- a history with the places of the heads and of the changes
pub record File : Type 0 where
  pub heads_left : ℕ
  pub front : Front
  pub numbers : Numbers
  pub time : ℕ
  pub last_save : ℕ
  pub placed : List Placed

-- a whole file
unfoldable pub file : Read File
file = do
  front ← front
  heads_left ← here
  numbers ← numbers
  time ← number 8
  last_save ← options
  placed ← changes numbers.heads
  give (record { heads_left = heads_left; front = front; numbers = numbers; time = time; last_save = last_save; placed = placed })

-- ---- what a function of the code answers

-- It answers the reader's fault, or that there was no memory.
abbrev pub Fails : {Y : Type 0} → Stop → Result Y Fault → Type 0
Fails stops.Memory read = Unit {0}
Fails (stops.At fault) read = read ≡ Err fault

-- Seen by view, it answers what the reader gives, or that there was no memory.
abbrev pub Gives : {X Y : Type 0} → (X → Y) → Result X Stop → Result Y Fault → Type 0
Gives view (Ok x) read = read ≡ Ok (view x)
Gives view (Err stop) read = Fails stop read
