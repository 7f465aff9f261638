-- What `decode` answers.
use Rattle.std.specs.Prelude.{◌≡◌, ◌≤◌, ℕ, ◌-◌, ◌==◌, ◌||◌, Bool, true, List, [], ◌∷◌, length, map, ◌⊎◌, Option, Some, None, Result, Ok, Err, if◌then◌else◌}
use Rattle.std.specs.Option.{is_some}
use Rattle.std.specs.List.{AllByRecursion}
use Rattle.vs_ufile.specs.declared.error.UfKind.TheVariants.{NoMemory, UnknownLink}
use Rattle.vs_ufile.specs.declared.error.UfErr.{UfErr}
use Rattle.vs_ufile.specs.declared.fault.Fault.{Fault}
use Rattle.vs_ufile.specs.declared.fault.Stop.{Stop}
use Rattle.vs_ufile.specs.declared.fault.Stop.TheVariants as stops
use Rattle.vs_ufile.specs.declared.history.FileHistory.{FileHistory}
use Rattle.vs_ufile.specs.Failing.{AreNumbers, IsTreeFault}
use Rattle.vs_ufile.specs.declared.form.Form.{Form}
use Rattle.vs_ufile.specs.Form.{file_of}
use Rattle.vs_ufile.specs.Format.{HasForm}
use Rattle.vs_ufile.specs.Tree.{IsTree, numbers}
use Rattle.vs_ufile.specs.Values.{Change, History, history_of}
use Rattle.vs_ufile.specs.Reading.{File, Placed, file, index_of, numbers_of}

-- the history without places
abbrev pub history : File → History
history f = record {
  digest = f.front.digest;
  lines = f.front.lines;
  oldest = f.numbers.oldest;
  newest = f.numbers.newest;
  current_head = f.numbers.current_head;
  heads = f.numbers.heads;
  last = f.numbers.last;
  current = f.numbers.current;
  time = f.time;
  last_save = f.last_save;
  changes = map (λ p. p.change) f.placed;
}

-- ---- links

-- the refusal of a link at this place that is neither 0 nor a change's number
abbrev pub unknown : List ℕ → ℕ → ℕ → Option Fault
unknown numbers left link =
    if (link == 0) || is_some (index_of link numbers) then None else Some (record { kind = UnknownLink; left = left; found = link })

-- the first that is there
abbrev pub or_else : {A : Type 0} → Option A → Option A → Option A
or_else None second = second
or_else (Some first) second = Some first

-- the first unknown link of a change, by their places
unfoldable pub unknown_in : List ℕ → Placed → Option Fault
unknown_in numbers p =
    or_else (unknown numbers (p.left - 2) p.change.next)
    (or_else (unknown numbers (p.left - 6) p.change.prev)
    (or_else (unknown numbers (p.left - 10) p.change.alt_next)
    (unknown numbers (p.left - 14) p.change.alt_prev)))

-- the first link of these changes that leads to no change
abbrev pub unknown_among : List ℕ → List Placed → Option Fault
unknown_among numbers [] = None
unknown_among numbers (p ∷ ps) = or_else (unknown_in numbers p) (unknown_among numbers ps)

-- the first unknown link or head of the file, in reading order
unfoldable pub first_unknown : File → Option Fault
first_unknown f =
    let numbers = numbers_of f.placed in
    or_else (unknown numbers f.heads_left f.numbers.oldest)
    (or_else (unknown numbers (f.heads_left - 4) f.numbers.newest)
    (or_else (unknown numbers (f.heads_left - 8) f.numbers.current_head)
    (unknown_among numbers f.placed)))

-- the file, unless it or one of its links is refused
abbrev pub with_links : Result (File × List ℕ) Fault → Result File Fault
with_links (Err fault) = Err fault
with_links (Ok x) = elim (first_unknown x.0) [ None ↦ Ok x.0 | Some fault ↦ Err fault ]

-- ---- the answer

-- a refusal as `decode` tells it, of bytes that are this many
abbrev pub error_of : ℕ → Stop → UfErr
error_of size stops.Memory = record { kind = NoMemory; at = 0; found = 0 }
error_of size (stops.At fault) = record { kind = fault.kind; at = size - fault.left; found = fault.found }

-- the bytes are refused with this fault: of form or of a link, or else since the changes make no tree
abbrev pub IsRefused : List ℕ → Fault → Type 0
IsRefused bytes fault = (with_links (file bytes) ≡ Err fault) ⊎ ((f : File) × (with_links (file bytes) ≡ Ok f) × IsTreeFault f.placed (Some fault))

-- The bytes are those of this file, whose changes are a tree.
abbrev pub IsRead : List ℕ → File → Type 0
IsRead bytes f = (with_links (file bytes) ≡ Ok f) × IsTree (history f).changes

-- a file that is read, or why it is not
abbrev pub IsChecked : List ℕ → Result Form Stop → Type 0
IsChecked bytes (Ok form) = IsRead bytes (file_of form)
IsChecked bytes (Err stops.Memory) = Unit {0}
IsChecked bytes (Err (stops.At fault)) = IsRefused bytes fault

-- want of memory, which may come at any time
abbrev pub no_memory : UfErr
no_memory = record { kind = NoMemory; at = 0; found = 0 }

-- what `decode` answers to these bytes
abbrev pub Answers : List ℕ → Result FileHistory UfErr → Type 0
Answers bytes (Ok h) = (f : File) × IsRead bytes f × (history_of h ≡ history f)
Answers bytes (Err e) = (e ≡ no_memory) ⊎ ((fault : Fault) × IsRefused bytes fault × (e ≡ error_of (length bytes) (stops.At fault)))

-- ---- known links

-- whether a link leads to a change of these numbers, or to none
abbrev pub is_known : List ℕ → ℕ → Bool
is_known numbers link = (link == 0) || is_some (index_of link numbers)

-- each link of a change is 0 or a change's number
pub record LinksAreKnown (numbers : List ℕ) (c : Change) : Type 0 where
  pub next : is_known numbers c.next ≡ true
  pub prev : is_known numbers c.prev ≡ true
  pub alt_next : is_known numbers c.alt_next ≡ true
  pub alt_prev : is_known numbers c.alt_prev ≡ true

-- each link of the changes is 0 or a change's number
abbrev pub KnowsAll : List Placed → Type 0
KnowsAll placed = AllByRecursion (λ p. LinksAreKnown (numbers_of placed) p.change) placed

-- each link and head of the history is 0 or a change's number
pub record KnowsLinks (h : History) : Type 0 where
  pub oldest : is_known (map (λ c. c.number) h.changes) h.oldest ≡ true
  pub newest : is_known (map (λ c. c.number) h.changes) h.newest ≡ true
  pub current_head : is_known (map (λ c. c.number) h.changes) h.current_head ≡ true
  pub changes : AllByRecursion (LinksAreKnown (map (λ c. c.number) h.changes)) h.changes

-- ---- the format

-- what is asked of a history beside the form of its parts
pub record KeepsRules (h : History) : Type 0 where
  pub digest : length h.digest ≡ 32
  pub numbers : AreNumbers (numbers h.changes)
  pub heads : length h.changes ≤ h.heads
  pub saves : AllByRecursion (λ c. c.save ≤ 2000000000) h.changes
  pub last_save : h.last_save ≤ 2000000000
  pub links : KnowsLinks h
  pub tree : IsTree h.changes

-- The bytes are those of an undo file of this history, and more may follow.
pub record IsUndoFile (h : History) (bytes : List ℕ) : Type 0 where
  pub file : File
  pub form : HasForm file bytes
  pub is : history file ≡ h
  pub rules : KeepsRules h

-- a history that is written: its changes are counted
pub record IsWellFormed (h : History) : Type 0 where
  pub rules : KeepsRules h
  pub heads : h.heads ≡ length h.changes

-- bytes are those of one history at most, whatever follows them
abbrev pub OneReading : Type 0
OneReading = (bytes : List ℕ) (g h : History) → IsUndoFile g bytes → IsUndoFile h bytes → g ≡ h
