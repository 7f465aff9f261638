-- Which changes fail to make a tree (docs/FORMATS.md, "Undo file"). Changes are named by their numbers; 0 is none.
use Rattle.std.specs.Prelude.{◌≡◌, ◌≢◌, ℕ, suc, ◌==◌, ◌⊎◌, ◌≤◌, if◌then◌else◌, List, [], ◌∷◌, map, AllPairs, Contains}
use Rattle.vs_ufile.specs.Values.{Change}
use Rattle.vs_ufile.specs.Walks.{walk}

-- the numbers of a file
abbrev pub numbers : List Change → List ℕ
numbers changes = map (λ c. c.number) changes

-- a change has this number
abbrev pub IsChange : List Change → ℕ → Type 0
IsChange changes n = Contains (numbers changes) n

-- the link of the change with this number, 0 where there is none
abbrev pub link : (Change → ℕ) → List Change → ℕ → ℕ
link field [] n = 0
link field (c ∷ changes) n = if c.number == n then field c else link field changes n

-- the alternative after a change
abbrev pub after : List Change → ℕ → ℕ
after = link (λ c. c.alt_next)

-- the alternative before a change
abbrev pub before : List Change → ℕ → ℕ
before = link (λ c. c.alt_prev)

-- a change whose neighbours in the chain do not lead back to it, or that lies on a cycle
abbrev pub FailsInChain : List Change → ℕ → Type 0
FailsInChain changes n =
    ((after changes n ≢ 0) × (before changes (after changes n) ≢ n)) ⊎ ((before changes n ≢ 0) × (after changes (before changes n) ≢ n))
    ⊎ ((k : ℕ) × (walk (after changes) (suc k) n ≡ n))

-- the first change of a change's chain
pub record IsFirst (changes : List Change) (n first : ℕ) : Type 0 where
  pub steps : ℕ
  pub way : walk (before changes) steps n ≡ first
  pub change : IsChange changes first
  pub none_before : before changes first ≡ 0

-- the parent of a change is `next` of the first change of its chain
abbrev pub IsParent : List Change → ℕ → ℕ → Type 0
IsParent changes n parent = (first : ℕ) × IsFirst changes n first × (link (λ c. c.next) changes first ≡ parent)

-- these are the change's parent, its parent, and so on to 0
abbrev pub AreAncestors : List Change → ℕ → List ℕ → Type 0
AreAncestors changes n [] = n ≡ 0
AreAncestors changes n (parent ∷ parents) = IsParent changes n parent × AreAncestors changes parent parents

-- another chain has the same parent
abbrev pub SharesParent : List Change → ℕ → Type 0
SharesParent changes n =
    (first other : ℕ) × IsFirst changes n first × IsFirst changes other other × (first ≢ other)
    × (link (λ c. c.next) changes first ≡ link (λ c. c.next) changes other)

-- a change whose way through parents does not end at 0, or whose parent another chain has too
abbrev pub FailsInTree : List Change → ℕ → Type 0
FailsInTree changes n = ((parents : List ℕ) → ¬ AreAncestors changes n parents) ⊎ SharesParent changes n

-- The chains of alternatives come to an end, at each change.
abbrev pub HasChains : List Change → Type 0
HasChains changes = (n : ℕ) → IsChange changes n → ¬ FailsInChain changes n

-- a change that fails; the tree is looked at where no change fails in its chain
abbrev pub Fails : List Change → ℕ → Type 0
Fails changes n = IsChange changes n × (FailsInChain changes n ⊎ (HasChains changes × FailsInTree changes n))

-- No rule of a tree fails, at any number.
abbrev pub IsTree : List Change → Type 0
IsTree changes = (n : ℕ) → ¬ Fails changes n

-- the change with the least number of those that fail
pub record IsLeastFailing (changes : List Change) (n : ℕ) : Type 0 where
  pub fails : Fails changes n
  pub least : (m : ℕ) → Fails changes m → n ≤ m

-- No walk comes by a change twice: none along a chain comes back to it, and none through its parents, which ends at 0, has a number twice.
pub record WalksOnce (changes : List Change) : Type 0 where
  pub chain : (n k : ℕ) → IsChange changes n → walk (after changes) (suc k) n ≢ n
  pub way : (n : ℕ) (ancestors : List ℕ) → AreAncestors changes n ancestors → AllPairs (λ a b. a ≢ b) (n ∷ ancestors)
