-- What is known while the text of a store is led outward over the changes of a tree, and back.
use Rattle.std.specs.Prelude.{ℕ, ◌≡◌, ◌≢◌, ◌<◌, ◌≤◌, ◌+◌, ◌-◌, ◌⊎◌, List, [], ◌∷◌, ◌++◌, length, get_or, map, take, Option, Some, None, max, reverse}
use Rattle.vs_edit.specs.declared.store.LineStore.{Ghosts}
use Rattle.vs_entries.specs.declared.entry.Entry.{Entry}
use Rattle.vs_entries.specs.Entries.{Leads, LeadsCount}
use Rattle.vs_undo.specs.declared.parts.Node.{Node}
use Rattle.vs_undo.specs.declared.parts.Parts.{Parts}
use Rattle.vs_undo.specs.Edges.{IsLed}
use Rattle.vs_outward.specs.declared.trail.Step.{Step}
use Rattle.vs_outward.specs.declared.fitting.Search.{Search}
use Rattle.vs_outward.specs.declared.turn.Turn.{Turn}
use Rattle.vs_outward.specs.Outward.{entries_at, LeadsOver, IsOutward, IsMisfit}

-- The entries of the changes that were crossed lead from one to the other, and the kept ones back. The last step comes first.
abbrev pub HasTrail : {X : Type 0} (L : Entry → X → X → Type 0) → List Node → List Step → X → X → Type 0
HasTrail L nodes [] from to = to ≡ from
HasTrail {X = X} L nodes (step ∷ trail) from to =
    (x : X) × (HasTrail L nodes trail from x × IsLed L (entries_at nodes step.number) x to × IsLed L step.back to x)

-- A store was led from its first text over these steps, in their order.
pub record IsOnTrail {S : Type 0} (g : Ghosts S) (nodes : List Node) (first : S) (trail : List Step) (now : S) : Type 0 where
  pub began : g.valid first
  pub counts : HasTrail LeadsCount nodes (reverse trail) (max 1 (g.shows first).present.lines) (max 1 (g.shows now).present.lines)
  pub texts : (text : List (List ℕ)) → (g.shows first).present.Is text
      → (here : List (List ℕ)) × ((g.shows now).present.Is here × HasTrail Leads nodes (reverse trail) text here)

-- The store is on the later steps, from whatever first text it was on the earlier ones.
abbrev pub KeepsTrail : {S : Type 0} (g : Ghosts S) → List Node → List Step → S → List Step → S → Type 0
KeepsTrail {S = S} g nodes was before trail now = (first : S) → IsOnTrail g nodes first was before → IsOnTrail g nodes first trail now

-- No text within the limits follows over the entries of this change from the one that the changes before it lead to.
pub record IsBarredBy (nodes : List Node) (path : List ℕ) (text : List (List ℕ)) (number : ℕ) : Type 0 where
  pub after : List ℕ
  pub before : List ℕ
  pub path_is : path ≡ after ++ number ∷ before
  pub here : List (List ℕ)
  pub led : LeadsOver Leads nodes before text here
  pub none : (there : List (List ℕ)) → IsLed Leads (entries_at nodes number) here there → ⊥

-- A path was tried from the first text of a store on: its entries fit, or the one of a change does not, and the least that is known so
-- far is no greater.
pub record IsTried {S : Type 0} (g : Ghosts S) (nodes : List Node) (first : S) (least : Option ℕ) (path : List ℕ) : Type 0 where
  pub counts : least ≡ None → (to : ℕ) × LeadsOver LeadsCount nodes path (max 1 (g.shows first).present.lines) to
  pub texts : (text : List (List ℕ)) → (g.shows first).present.Is text
      → ((to : List (List ℕ)) × LeadsOver Leads nodes path text to)
      ⊎ ((l : ℕ) × ((least ≡ Some l) × ((number : ℕ) × (IsBarredBy nodes path text number × (l ≤ number)))))

-- The path from the current state to another one was tried.
abbrev pub IsSettledAt : {S : Type 0} (g : Ghosts S) → Parts → S → Option ℕ → ℕ → Type 0
IsSettledAt g parts first least state = (path : List ℕ) × (IsOutward parts path state × IsTried g parts.nodes first least path)

-- The states that were settled still are, where another change may be the least that is known.
abbrev pub KeepsSettled : {S : Type 0} (g : Ghosts S) → Parts → Option ℕ → Option ℕ → Type 0
KeepsSettled {S = S} g parts was least = (first : S) (state : ℕ) → IsSettledAt g parts first was state → IsSettledAt g parts first least state

-- The least change that is known so far does not fit.
abbrev pub IsKnownMisfit : {S : Type 0} (g : Ghosts S) → Parts → S → Option ℕ → Type 0
IsKnownMisfit g parts first least = (l : ℕ) → least ≡ Some l → (text : List (List ℕ)) → (g.shows first).present.Is text → IsMisfit parts text l

-- A path begins with the changes of a trail.
pub record HasBegun (trail : List Step) (path : List ℕ) : Type 0 where
  pub within : length trail ≤ length path
  pub same : map (λ (step : Step). step.number) trail ≡ take (length trail) path

-- A change of the path does not fit, and the least that is known so far is no greater.
pub record IsBarredOn {S : Type 0} (g : Ghosts S) (nodes : List Node) (first : S) (least : Option ℕ) (path : List ℕ) : Type 0 where
  pub number : ℕ
  pub least_is : least ≡ Some number
  pub texts : (text : List (List ℕ)) → (g.shows first).present.Is text → (other : ℕ) × (IsBarredBy nodes (reverse path) text other × (number ≤ other))

-- The store of a search was led over the path as far as its changes fit, and the least change that is known does not fit.
pub record IsSearch {S : Type 0} (g : Ghosts S) (parts : Parts) (first : S) (search : Search) (now : S) : Type 0 where
  pub on : IsOnTrail g parts.nodes first search.trail.items now
  pub begun : HasBegun search.trail.items search.path.items
  pub barred : length search.trail.items < length search.path.items
      → IsBarredOn g parts.nodes first search.least (take (length search.trail.items + 1) search.path.items)
  pub misfit : IsKnownMisfit g parts first search.least

-- The path of a search has come to another one, and so many of its changes have stayed; the store is where it was.
pub record IsTurned {S : Type 0} (g : Ghosts S) (parts : Parts) (first : S) (kept : ℕ) (search : Search) (now : S) : Type 0 where
  pub on : IsOnTrail g parts.nodes first search.trail.items now
  pub within : kept ≤ length search.path.items
  pub begins : kept ≤ length search.trail.items → map (λ (step : Step). step.number) (take kept search.trail.items) ≡ take kept search.path.items
  pub begun : length search.trail.items < kept → HasBegun search.trail.items search.path.items
  pub barred : length search.trail.items < kept → IsBarredOn g parts.nodes first search.least (take (length search.trail.items + 1) search.path.items)
  pub misfit : IsKnownMisfit g parts first search.least

-- The search goes on, from whatever first text it began.
abbrev pub KeepsSearch : {S : Type 0} (g : Ghosts S) → Parts → Search → S → Search → S → Type 0
KeepsSearch {S = S} g parts was before search now = (first : S) → IsSearch g parts first was before → IsSearch g parts first search now

-- A path begins with so many changes of a way.
pub record Shares (count : ℕ) (path way : List ℕ) : Type 0 where
  pub within : count ≤ length path
  pub same : take count path ≡ take count way

-- The path of a search leads from the current state to another one, and shares with the way what it says.
pub record IsPath (parts : Parts) (way : List ℕ) (search : Search) : Type 0 where
  pub outward : (to : ℕ) × IsOutward parts (reverse search.path.items) to
  pub shares : Shares search.on_way search.path.items way

-- A path goes on to this state.
pub record IsTurn (parts : Parts) (way path : List ℕ) (number : ℕ) (turn : Turn) : Type 0 where
  pub kept : turn.kept ≤ length path
  pub outward : IsOutward parts (reverse (take turn.kept path ++ turn.more.items)) number
  pub shares : Shares turn.on_way (take turn.kept path ++ turn.more.items) way

-- At the place of each change of a way stands one more than how many changes of it come before, and 0 at all other places.
pub record AreCounts (nodes : List Node) (way counts : List ℕ) : Type 0 where
  pub count : length counts ≡ length nodes
  pub each : (i : ℕ) (node : Node) → i < length nodes → get_or counts i 0 ≢ 0
      → (get_or counts i 0 ≤ length way) × (get_or way (get_or counts i 0 - 1) 0 ≡ (get_or nodes i node).number)
  pub all : (i k : ℕ) (node : Node) → i < length nodes → k < length way → get_or way k 0 ≡ (get_or nodes i node).number → get_or counts i 0 ≢ 0
