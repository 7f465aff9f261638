-- What stands between two commands is what recovery gives: the newest sync, or a later one that was begun.
use Rattle.std.proofs.Common.{◌≡◌, ◌⊎◌, inl, inr, ℕ, ◌<◌, ◌↔◌, if◌then◌else◌, Bool, true, false, List, [], ◌∷◌, ◌++◌, Option, Some, None, refl, sym, ap, subst, arith}
use Rattle.vs_host.specs.Disk.{Disk}
use Rattle.vs_host.specs.declared.names.Names.{Names}
use Rattle.vs_text.specs.Documents.{Document}
use Rattle.vs_swap.specs.Recovery.{StandsIn, Recovered}
use Rattle.vs_swap.proofs.Standing.{once}
use Rattle.vs_pair.specs.declared.side.Side.{Side}
use Rattle.vs_pair.specs.declared.side.Side.TheVariants.{Swp, Swo}
use Rattle.vs_pair.specs.Pair.{name_of, other_side}
use Rattle.vs_pair.proofs.Reading.{stands_open}
use Rattle.vs_safety.specs.Texts.{IsOneOf, Recovers, RecoversOrNone, Sync, recoverable, NoneAcknowledged, IsSyncIn, IsDocumentOfOne, IsNewestOf, IsThereAs, IsBeside, IsBetween}
use Rattle.vs_safety.specs.Turns.{with_sync, with_begun}

-- ---- lists of documents

abbrev pub Within : List Document → List Document → Type 0
Within documents others = (document : Document) → IsOneOf document documents → IsOneOf document others

pub recovers_more : (names : Names) (documents others : List Document) (disk : Disk) → Within documents others → Recovers names documents disk → Recovers names others disk
recovers_more names documents others disk leads all image whole = let one = all image whole in (one.0, leads one.0 one.1, one.2)

pub or_none : (names : Names) (documents : List Document) (disk : Disk) → Recovers names documents disk → RecoversOrNone names documents disk
or_none names documents disk all image whole = inr (all image whole)

-- ---- what is recoverable

-- the newest acknowledged one is
newest_in : (later past : List Sync) (newest : Sync) → NoneAcknowledged later → IsOneOf newest.document (recoverable (later ++ newest ∷ past))
newest_in [] past newest none = inl refl
newest_in (sync ∷ later) past newest none =
    inr (subst (λ (a : Bool). IsOneOf newest.document (if a then [] else recoverable (later ++ newest ∷ past))) (sym none.0) (newest_in later past newest none.1))

-- and each that was begun after it
later_in : (later past : List Sync) (newest sync : Sync) → NoneAcknowledged later → IsSyncIn sync later → IsOneOf sync.document (recoverable (later ++ newest ∷ past))
later_in [] past newest sync none within = absurd within
later_in (first ∷ later) past newest sync none (inl is) = inl (ap (λ (s : Sync). s.document) is)
later_in (first ∷ later) past newest sync none (inr more) =
    inr (subst (λ (a : Bool). IsOneOf sync.document (if a then [] else recoverable (later ++ newest ∷ past))) (sym none.0) (later_in later past newest sync none.1 more))

-- and no other document
is_recoverable : (later past : List Sync) (newest : Sync) (document : Document) → newest.acknowledged ≡ true → NoneAcknowledged later → IsOneOf document (recoverable (later ++ newest ∷ past)) → (document ≡ newest.document) ⊎ IsDocumentOfOne document later
is_recoverable [] past newest document acknowledged none (inl is) = inl is
is_recoverable [] past newest document acknowledged none (inr more) = absurd (subst (λ (a : Bool). IsOneOf document (if a then [] else recoverable past)) acknowledged more)
is_recoverable (sync ∷ later) past newest document acknowledged none (inl is) = inr (inl is)
is_recoverable (sync ∷ later) past newest document acknowledged none (inr more) =
    elim (is_recoverable later past newest document acknowledged none.1 (subst (λ (a : Bool). IsOneOf document (if a then [] else recoverable (later ++ newest ∷ past))) none.0 more)) [
      | inl is ↦ inl is
      | inr one ↦ inr (inr one)
    ]

document_in_later : (later past : List Sync) (newest : Sync) (document : Document) → NoneAcknowledged later → IsDocumentOfOne document later → IsOneOf document (recoverable (later ++ newest ∷ past))
document_in_later [] past newest document none within = absurd within
document_in_later (sync ∷ later) past newest document none (inl is) = inl is
document_in_later (sync ∷ later) past newest document none (inr more) =
    inr (subst (λ (a : Bool). IsOneOf document (if a then [] else recoverable (later ++ newest ∷ past))) (sym none.0) (document_in_later later past newest document none.1 more))

pub recoverable_are : (syncs later past : List Sync) (newest : Sync) (document : Document) → IsNewestOf syncs later newest past → IsOneOf document (recoverable syncs) ↔ ((document ≡ newest.document) ⊎ IsDocumentOfOne document later)
recoverable_are syncs later past newest document of = (
  λ within. is_recoverable later past newest document of.acknowledged of.none_later (subst (λ (all : List Sync). IsOneOf document (recoverable all)) of.syncs_are within),
  λ where_it_is. subst (λ (all : List Sync). IsOneOf document (recoverable all)) (sym of.syncs_are) (elim where_it_is [
    | inl is ↦ subst (λ (t : Document). IsOneOf t (recoverable (later ++ newest ∷ past))) (sym is) (newest_in later past newest of.none_later)
    | inr one ↦ document_in_later later past newest document of.none_later one
  ]),
)

-- a sync that has ended leaves no more than while it was under way
pub ended_within : (sync : Option Sync) (syncs : List Sync) → Within (recoverable (with_sync sync syncs)) (recoverable (with_begun sync syncs))
ended_within None syncs document within = within
ended_within (Some sync) syncs document (inl is) = inl is
ended_within (Some sync) syncs document (inr more) = inr (kept sync.acknowledged more)
  where
    kept : (a : Bool) → IsOneOf document (if a then [] else recoverable syncs) → IsOneOf document (recoverable syncs)
    kept true none = absurd none
    kept false in_rest = in_rest

-- what was recoverable goes on to be while a sync is under way
pub begun_within : (sync : Option Sync) (syncs : List Sync) → Within (recoverable syncs) (recoverable (with_begun sync syncs))
begun_within None syncs document within = within
begun_within (Some sync) syncs document within = inr within

-- ---- two files

there_stands : (generation : ℕ) (sync : Sync) (found : Option (List ℕ)) → IsThereAs generation sync found → StandsIn found generation sync.document
there_stands generation sync None there = absurd there
there_stands generation sync (Some c) there = there.stands

-- The other file stands for nothing, or for less, or it stands for a later sync.
data Beside (generation : ℕ) (later : List Sync) (found : Option (List ℕ)) : Type 0 where
  Below : ((g : ℕ) (document : Document) → StandsIn found g document → g < generation) → Beside generation later found
  Above : (sync : Sync) (g : ℕ) → IsSyncIn sync later → StandsIn found g sync.document → generation < g → Beside generation later found

beside : (generation : ℕ) (earlier later : List Sync) (found : Option (List ℕ)) → IsBeside generation earlier later found → Beside generation later found
beside generation earlier later None is = Below (λ g document stands. absurd stands)
beside generation earlier later (Some c) is = elim (Rattle.vs_pair.proofs.Offers.open_cases c) [
  | inr closed ↦ Below (λ g document stands. absurd (closed (stands_open c g document stands)))
  | inl opened ↦ elim (is opened) [
    | inl low ↦ Below (λ g document stands. subst (λ (k : ℕ). k < generation) (once c low.own g low.sync.document document low.stands.stands stands).0 low.less)
    | inr high ↦ Above high.sync high.own high.member high.stands.stands high.more
  ]
]

in_once : (found : Option (List ℕ)) (g h : ℕ) (a b : Document) → StandsIn found g a → StandsIn found h b → g ≡ h
in_once None g h a b x y = absurd x
in_once (Some c) g h a b x y = (once c g h a b x y).0

-- which document two files give
module _ (generation : ℕ) (newest : Sync) (later : List Sync) where
  abbrev Gives : Option (List ℕ) → Option (List ℕ) → Type 0
  Gives swp swo = (sync : Sync) × ((sync ≡ newest) ⊎ IsSyncIn sync later) × Recovered swp swo sync.document

  first_newest : (swp swo : Option (List ℕ)) → StandsIn swp generation newest.document → Beside generation later swo → Gives swp swo
  first_newest swp swo stands (Below less) = (newest, inl refl, inl (record { generation = generation; stands = stands; no_newer = λ g others is. omega (arith, less g others is) }))
  first_newest swp swo stands (Above sync g member other more) = (
    sync,
    inr member,
    inr (record { generation = g; stands = other; older = λ h others is. omega (arith, more, same h others is) }),
  )
    where
      same : (h : ℕ) (others : Document) → StandsIn swp h others → h ≡ generation
      same h others is = (in_once swp h generation others newest.document is stands)

  second_newest : (swp swo : Option (List ℕ)) → StandsIn swo generation newest.document → Beside generation later swp → Gives swp swo
  second_newest swp swo stands (Below less) = (newest, inl refl, inr (record { generation = generation; stands = stands; older = less }))
  second_newest swp swo stands (Above sync g member other more) = (
    sync,
    inr member,
    inl (record { generation = g; stands = other; no_newer = λ h others is. omega (arith, more, in_once swo h generation others newest.document is stands) }),
  )

-- ---- between two commands

pub between_recovers : (names : Names) (syncs : List Sync) (disk : Disk) → IsBetween names syncs disk → Recovers names (recoverable syncs) disk
between_recovers names syncs disk between image whole =
    let gives = by_side between.side (between.there image whole, between.beside image whole) in
    (gives.0.document, subst (λ (all : List Sync). IsOneOf gives.0.document (recoverable all)) (sym between.newest_of.syncs_are) (within gives.0 gives.1), gives.2)
  where
    Both : Side → Type 0
    Both side =
        IsThereAs between.generation between.newest (image (name_of names side))
        × IsBeside between.generation (between.newest ∷ between.past) between.later (image (name_of names (other_side side)))

    by_side : (side : Side) → Both side → Gives between.generation between.newest between.later (image names.swp) (image names.swo)
    by_side Swp both = first_newest between.generation between.newest between.later (image names.swp) (image names.swo)
        (there_stands between.generation between.newest (image names.swp) both.0) (beside between.generation (between.newest ∷ between.past) between.later (image names.swo) both.1)
    by_side Swo both = second_newest between.generation between.newest between.later (image names.swp) (image names.swo)
        (there_stands between.generation between.newest (image names.swo) both.0) (beside between.generation (between.newest ∷ between.past) between.later (image names.swp) both.1)

    within : (sync : Sync) → (sync ≡ between.newest) ⊎ IsSyncIn sync between.later → IsOneOf sync.document (recoverable (between.later ++ between.newest ∷ between.past))
    within sync (inl is) = subst (λ (s : Sync). IsOneOf s.document (recoverable (between.later ++ between.newest ∷ between.past))) (sym is) (newest_in between.later between.past between.newest between.newest_of.none_later)
    within sync (inr member) = later_in between.later between.past between.newest sync between.newest_of.none_later member
