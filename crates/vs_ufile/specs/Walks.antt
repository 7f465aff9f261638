-- Walks along links between places. Links are a list: the place that each place leads to. Place 0 is none and leads nowhere.
use Rattle.std.specs.Prelude.{◌≡◌, ◌≢◌, ℕ, zero, suc, ◌<◌, ◌⊎◌, ◌↔◌, List, length, Bool, false, IsTrue, get_or, All}

-- this many steps along a function
abbrev pub walk : (ℕ → ℕ) → ℕ → ℕ → ℕ
walk f zero n = n
walk f (suc k) n = walk f k (f n)

-- where a place leads
abbrev pub at : List ℕ → ℕ → ℕ
at links place = get_or links place 0

-- the links lead from places to places, and from no place nowhere
pub record AreLinks (size : ℕ) (links : List ℕ) : Type 0 where
  pub all : length links ≡ size
  pub within : All (λ x. x < size) links
  pub none : at links 0 ≡ 0

-- the first links lead as far as this many steps
abbrev pub LeadsFar : List ℕ → ℕ → List ℕ → Type 0
LeadsFar links steps far = (length far ≡ length links) × ((i : ℕ) → i < length links → at far i ≡ walk (at links) steps i)

-- each mark says whether its place lies on a cycle of the links
abbrev pub AreOnCycles : List ℕ → List Bool → Type 0
AreOnCycles links marks =
    (length marks ≡ length links) × ((i : ℕ) → i < length links → IsTrue (get_or marks i false) ↔ ((m : ℕ) × (walk (at links) (suc m) i ≡ i)))

-- the mark of each place from 1 on says whether this holds of it
abbrev pub AreMarks : ℕ → (ℕ → Type 0) → List Bool → Type 0
AreMarks size P marks = (length marks ≡ size) × ((i : ℕ) → 0 < i → i < size → IsTrue (get_or marks i false) ↔ P i)

-- ---- chains: each place leads to the one after it and to the one before it

-- its neighbours do not lead back to it, or it lies on a cycle
abbrev pub FailsAt : List ℕ → List ℕ → ℕ → Type 0
FailsAt after before place =
    ((at after place ≢ 0) × (at before (at after place) ≢ place)) ⊎ ((at before place ≢ 0) × (at after (at before place) ≢ place))
    ⊎ ((m : ℕ) × (walk (at after) (suc m) place ≡ place))

-- no place fails
abbrev pub AreChains : List ℕ → List ℕ → Type 0
AreChains after before = (place : ℕ) → 0 < place → place < length after → ¬ FailsAt after before place

-- a place that begins its chain
pub record IsHead (before : List ℕ) (place : ℕ) : Type 0 where
  pub some : 0 < place
  pub within : place < length before
  pub first : at before place ≡ 0

-- a place leads to the head of its chain
pub record LeadsToHead (before : List ℕ) (place head : ℕ) : Type 0 where
  pub steps : ℕ
  pub way : walk (at before) steps place ≡ head
  pub is_head : IsHead before head

-- each place from 1 on leads to the head of its chain
pub record AreHeads (before heads : List ℕ) : Type 0 where
  pub links : AreLinks (length before) heads
  pub each : (place : ℕ) → 0 < place → place < length before → LeadsToHead before place (at heads place)

-- ---- a tree: the head of each chain leads to the parent of its places

-- two chains have this parent
abbrev pub HaveTwoHeads : List ℕ → List ℕ → ℕ → Type 0
HaveTwoHeads before parents parent = (a b : ℕ) × IsHead before a × IsHead before b × (a ≢ b) × (at parents a ≡ parent) × (at parents b ≡ parent)

-- its way through parents does not end, or another chain has its parent
abbrev pub FailsAbove : List ℕ → List ℕ → ℕ → Type 0
FailsAbove before parents place = ((k : ℕ) → walk (at parents) k place ≢ 0) ⊎ HaveTwoHeads before parents (at parents place)

-- of the heads among the first n places: each parent leads to one of them that has it, and any other place to 0
pub record AreLastHeads (before parents : List ℕ) (n : ℕ) (last : List ℕ) : Type 0 where
  pub all : length last ≡ length parents
  pub is_head : (q : ℕ) → at last q ≢ 0 → IsHead before (at last q) × (at parents (at last q) ≡ q)
  pub found : (head : ℕ) → head < n → IsHead before head → at last (at parents head) ≢ 0
