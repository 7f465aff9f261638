-- What the pair wrote of each sync is what the session asked, so what the files offer is a document that may be recovered.
use Rattle.std.proofs.Common.{◌≡◌, inl, inr, ℕ, ◌<◌, ◌^◌, ◌+◌, Bool, false, ◌==◌, List, [], ◌∷◌, ◌++◌, length, Option, Some, None, Result, Ok, Err, OnOk, OnErr, IsTrue, refl, sym, ◌∙◌, ap, subst, arith}
use Rattle.std.proofs.lemmas.Bool.{cond-false}
use Rattle.vs_host.specs.Disk.{Disk}
use Rattle.vs_host.specs.declared.names.Names.{Names}
use Rattle.vs_host.specs.Names.{is_allowed, names_of_file}
use Rattle.vs_disk.specs.Names.{SameAt}
use Rattle.vs_pages.specs.Maps.{Map}
use Rattle.vs_pages.specs.Memory.{present_of, state_of, state_under, AreBacked}
use Rattle.vs_pages.specs.State.{PageState}
use Rattle.vs_text.specs.declared.format.Format.{Format}
use Rattle.vs_text.specs.declared.format.Format.TheVariants.{Unix, Dos}
use Rattle.vs_text.specs.Documents.{Document}
use Rattle.vs_swap.specs.Files.{format_number}
use Rattle.vs_pair.specs.Swap.{Synced, IsFormatNumber, body_of, zero_of, Holds}
use Rattle.vs_pair.specs.Cached.{IsCacheOf, was_away}
use Rattle.vs_pair.specs.Held.{KeepsHeld, held_with}
use Rattle.vs_pair.specs.Lent.{IsStored}
use Rattle.vs_pair.specs.Pair as pair
use Rattle.vs_pair.specs.Pair.{Image, IsIn, IsDocumentOf, IsFit, away_of, held_in, known_of, known_with, shown_in, sync_fresh, sync_of, sync_with, is_swap, HasEarlier, HasLater, IsThere, NoneThere, name_of, other_side}
use Rattle.vs_pair.specs.Steps as steps
use Rattle.vs_pair.specs.declared.head.Head.{Head}
use Rattle.vs_pair.specs.declared.pair.SwapPair.{SwapPair}
use Rattle.vs_pair.proofs.AwayLemmas.{away_same}
use Rattle.vs_pair.proofs.Offers.{holds_stands, offered_recovered}
use Rattle.vs_pair.proofs.Reading.{holds_reads}
use Rattle.vs_pair.proofs.Others.{fit_between, fit_changed, fit_recovers, fit_kept}
use Rattle.vs_safety.specs.Texts.{Text, Sync, IsOneOf, GivesOneOf, IsSyncIn, NoneAcknowledged, Recovers, RecoversOrNone, begun, recoverable, StandsAs, IsThereAs, IsBeside, IsBetween}
use Rattle.vs_tree.specs.declared.tree.LineTree.{LineTree}
use Rattle.vs_tree.specs.TextIn.{text_in}
use Rattle.vs_paged.specs.Pages.{IsCommitted, IsPaged, Opening}
use Rattle.vs_paged.proofs.PageLemmas.{text_had, is_paged}
use Rattle.vs_paged.specs.Fits.{Writes, AreSyncs, Fits, Starting, Syncing, Ending, acknowledged_sync, names_of}
use Rattle.vs_paged.specs.declared.paged.PagedText.{PagedText}

-- ---- answers

pub on_ok_as : {T E : Type 0} (result : Result T E) (P Q : Type 0) → (P → Q) → OnOk result P → OnOk result Q
on_ok_as (Ok x) P Q leads is = leads is
on_ok_as (Err e) P Q leads is = tt

pub on_err_as : {T E : Type 0} (result : Result T E) (P Q : Type 0) → (P → Q) → OnErr result P → OnErr result Q
on_err_as (Ok x) P Q leads is = tt
on_err_as (Err e) P Q leads is = leads is

-- ---- lists of syncs

in_back : (sync : Sync) (front back : List Sync) → IsSyncIn sync back → IsSyncIn sync (front ++ back)
in_back sync [] back here = here
in_back sync (first ∷ front) back here = inr (in_back sync front back here)

-- the document of the last acknowledged sync, and of each that was begun since, may be recovered
last_recoverable : (later : List Sync) (last : Sync) (earlier : List Sync) → NoneAcknowledged later → IsOneOf last.document (recoverable (later ++ last ∷ earlier))
last_recoverable [] last earlier none = inl refl
last_recoverable (sync ∷ later) last earlier none =
    inr (subst (λ (documents : List Document). IsOneOf last.document documents) (sym (cond-false sync.acknowledged [] (recoverable (later ++ last ∷ earlier)) none.0)) (last_recoverable later last earlier none.1))

later_recoverable : (later : List Sync) (last : Sync) (earlier : List Sync) → NoneAcknowledged later → (sync : Sync) → IsSyncIn sync later → IsOneOf sync.document (recoverable (later ++ last ∷ earlier))
later_recoverable [] last earlier none sync here = absurd here
later_recoverable (first ∷ later) last earlier none sync (inl is) = inl (ap (λ (s : Sync). s.document) is)
later_recoverable (first ∷ later) last earlier none sync (inr here) =
    inr (subst (λ (documents : List Document). IsOneOf sync.document documents) (sym (cond-false first.acknowledged [] (recoverable (later ++ last ∷ earlier)) none.0)) (later_recoverable later last earlier none.1 sync here))

-- ---- what is recovered

-- each of these was a sync of one of these documents
abbrev pub AreOf : List Synced → List Document → Type 0
AreOf all documents = (synced : Synced) → IsIn synced all → (document : Document) × IsOneOf document documents × IsDocumentOf synced document

pub gives_one : (names : Names) → IsTrue (is_allowed names.file) → (all older : List Synced) (documents : List Document) → AreOf all documents → (image : Image) → (synced : Synced) × IsIn synced all × pair.Offers names older image synced → GivesOneOf names documents image
gives_one names allowed all older documents are image given =
    let is = are given.0 given.1 in
    (is.0, is.1, offered_recovered names allowed older given.0 is.0 is.2 given.2.small image given.2)

pub recovers_documents : (names : Names) → IsTrue (is_allowed names.file) → (all older : List Synced) (documents : List Document) → AreOf all documents → (disk : Disk) → pair.Recovers names all older disk → Recovers names documents disk
recovers_documents names allowed all older documents are disk all_images image whole = gives_one names allowed all older documents are image (all_images image whole)

pub recovers_or_none : (names : Names) → IsTrue (is_allowed names.file) → (all older : List Synced) (documents : List Document) → AreOf all documents → (disk : Disk) → pair.RecoversOrNone names all older disk → RecoversOrNone names documents disk
recovers_or_none names allowed all older documents are disk all_images image whole = elim (all_images image whole) [
  | inl none ↦ inl none
  | inr given ↦ inr (gives_one names allowed all older documents are image given)
]

-- what the newest sync and those begun since wrote
pub are_recoverable : (newest : Synced) (later past : List Synced) (syncs : List Sync) → AreSyncs newest later past syncs → AreOf (newest ∷ later) (recoverable syncs)
are_recoverable newest later past syncs are synced (inl is) = (
  are.last.document,
  subst (λ (l : List Sync). IsOneOf are.last.document (recoverable l)) (sym are.newest_of.syncs_are) (last_recoverable are.begun_since are.last are.earlier are.newest_of.none_later),
  subst (λ (s : Synced). IsDocumentOf s are.last.document) (sym is) are.newest_is.document,
)
are_recoverable newest later past syncs are synced (inr here) =
    let sync = are.later_are synced here in (
      sync.0.document,
      subst (λ (l : List Sync). IsOneOf sync.0.document (recoverable l)) (sym are.newest_of.syncs_are) (later_recoverable are.begun_since are.last are.earlier are.newest_of.none_later sync.0 sync.1),
      sync.2.document,
    )

-- while one more is written
pub are_syncing : (newest sync : Synced) (later past : List Synced) (syncs : List Sync) (document : Document) → AreSyncs newest later past syncs → IsDocumentOf sync document → AreOf (newest ∷ sync ∷ later) (document ∷ recoverable syncs)
are_syncing newest sync later past syncs document are is synced (inl one) = let given = are_recoverable newest later past syncs are synced (inl one) in (given.0, inr given.1, given.2)
are_syncing newest sync later past syncs document are is synced (inr (inl one)) = (document, inl refl, subst (λ (s : Synced). IsDocumentOf s document) (sym one) is)
are_syncing newest sync later past syncs document are is synced (inr (inr here)) = let given = are_recoverable newest later past syncs are synced (inr here) in (given.0, inr given.1, given.2)

-- ---- one more sync

pub first_syncs : (one two : Synced) (document : Document) (dirty : Bool) → Writes one (acknowledged_sync document dirty) → Writes two (acknowledged_sync document dirty) → AreSyncs two [] (one ∷ []) (acknowledged_sync document dirty ∷ [])
first_syncs one two document dirty first second = record {
  begun_since = [];
  last = acknowledged_sync document dirty;
  earlier = [];
  newest_of = record { syncs_are = refl; acknowledged = refl; none_later = tt };
  newest_is = second;
  later_are = λ synced here. absurd here;
  past_are = λ synced here. elim here [ inl is ↦ (acknowledged_sync document dirty, inl refl, subst (λ (s : Synced). Writes s (acknowledged_sync document dirty)) (sym is) first) | inr none ↦ absurd none ];
}

pub more_syncs : (newest sync : Synced) (later past : List Synced) (syncs : List Sync) (document : Document) (dirty : Bool) → AreSyncs newest later past syncs → Writes sync (acknowledged_sync document dirty)
    → AreSyncs sync [] (newest ∷ past) (acknowledged_sync document dirty ∷ syncs)
more_syncs newest sync later past syncs document dirty are is = record {
  begun_since = [];
  last = acknowledged_sync document dirty;
  earlier = syncs;
  newest_of = record { syncs_are = refl; acknowledged = refl; none_later = tt };
  newest_is = is;
  later_are = λ synced here. absurd here;
  past_are = λ synced here. elim here [
    | inl one ↦ (are.last, inr (among are.last (inl refl)), subst (λ (s : Synced). Writes s are.last) (sym one) are.newest_is)
    | inr there ↦ let given = are.past_are synced there in (given.0, inr (among given.0 given.1), given.2)
  ];
}
  where
    among : (s : Sync) → IsSyncIn s (are.last ∷ are.earlier) → IsSyncIn s syncs
    among s here = subst (λ (l : List Sync). IsSyncIn s l) (sym are.newest_of.syncs_are) (in_back s are.begun_since (are.last ∷ are.earlier) here)

pub failed_syncs : (newest sync : Synced) (later past : List Synced) (syncs : List Sync) (document : Document) (dirty : Bool) → AreSyncs newest later past syncs → Writes sync (begun document dirty)
    → AreSyncs newest (sync ∷ later) past (begun document dirty ∷ syncs)
failed_syncs newest sync later past syncs document dirty are is = record {
  begun_since = begun document dirty ∷ are.begun_since;
  last = are.last;
  earlier = are.earlier;
  newest_of = record {
    syncs_are = ap (λ (l : List Sync). begun document dirty ∷ l) are.newest_of.syncs_are;
    acknowledged = are.newest_of.acknowledged;
    none_later = (refl, are.newest_of.none_later);
  };
  newest_is = are.newest_is;
  later_are = λ synced here. elim here [
    | inl one ↦ (begun document dirty, inl refl, subst (λ (s : Synced). Writes s (begun document dirty)) (sym one) is)
    | inr there ↦ let given = are.later_are synced there in (given.0, inr given.1, given.2)
  ];
  past_are = are.past_are;
}

-- ---- between two calls

-- the number of a format is one that is written
format_known : (format : Format) (number : ℕ) → number ≡ format_number format → IsFormatNumber number
format_known Unix number is = inl is
format_known Dos number is = inr is

module _ (names : Names) (allowed : IsTrue (is_allowed names.file)) where
  stands_as : (synced : Synced) (sync : Sync) (c : List ℕ) → Writes synced sync → synced.generation < 2 ^ 64 → Holds (body_of names.file synced) c → StandsAs synced.generation sync c
  stands_as synced sync c writes small holds = record {
    stands = holds_stands names allowed [] synced sync.document writes.document small c holds;
    zero = zero_of synced.generation synced.head;
    reads = holds_reads names.file synced allowed small (format_known sync.document.format synced.head.format writes.document.format) c holds;
    dirty = writes.dirty;
  }

  there_as : (synced : Synced) (sync : Sync) (found : Option (List ℕ)) → Writes synced sync → synced.generation < 2 ^ 64 → IsThere names.file synced found → IsThereAs synced.generation sync found
  there_as synced sync None writes small there = absurd there
  there_as synced sync (Some c) writes small there = stands_as synced sync c writes small there

  beside_as : (newest : Synced) (later past : List Synced) (syncs : List Sync) (are : AreSyncs newest later past syncs) (found : Option (List ℕ)) → newest.generation < 2 ^ 64 → pair.IsBeside names.file newest later past found
      → IsBeside newest.generation (are.last ∷ are.earlier) are.begun_since found
  beside_as newest later past syncs are None small beside = tt
  beside_as newest later past syncs are (Some c) small beside = λ opened. elim (beside opened) [
    | inl earlier ↦ let given = are.past_are earlier.earlier earlier.member in
        inl (record {
          sync = given.0;
          member = given.1;
          own = earlier.earlier.generation;
          stands = stands_as earlier.earlier given.0 c given.2 (omega (arith, earlier.less, small)) (record { opened = opened; whole = earlier.body });
          less = earlier.less;
        })
    | inr more ↦ let given = are.later_are more.sync more.member in
        inr (record {
          sync = given.0;
          member = given.1;
          own = more.sync.generation;
          stands = stands_as more.sync given.0 c given.2 more.small (record { opened = opened; whole = more.body });
          more = more.more;
        })
  ]

pub fits_between : (paged : PagedText) (disk : Disk) (text : Text) (syncs : List Sync) → Fits paged disk text syncs → IsBetween (names_of paged) syncs disk
fits_between paged disk text syncs fits =
    let names : Names = names_of paged in
    let allowed = fits.fit.named.allowed in
    let are = fits.syncs_are in
    let small : fits.newest.generation < 2 ^ 64 = omega (arith, fits.fit.newer_used, fits.fit.bound) in
    let between = fit_between (known_of paged.pair disk) disk fits.newest fits.later fits.past fits.fit in
    record {
      later = are.begun_since;
      newest = are.last;
      past = are.earlier;
      newest_of = are.newest_of;
      side = between.side;
      generation = fits.newest.generation;
      there = λ image whole. there_as names allowed fits.newest are.last (image (name_of names between.side)) are.newest_is small (between.newest_there image whole);
      beside = λ image whole. beside_as names allowed fits.newest fits.later fits.past syncs are (image (name_of names (other_side between.side))) small (between.beside image whole);
    }

pub fits_recovers : (paged : PagedText) (disk : Disk) (text : Text) (syncs : List Sync) → Fits paged disk text syncs → Recovers (names_of paged) (recoverable syncs) disk
fits_recovers paged disk text syncs fits =
    recovers_documents (names_of paged) fits.fit.named.allowed (fits.newest ∷ fits.later) (fits.newest ∷ fits.past) (recoverable syncs) (are_recoverable fits.newest fits.later fits.past syncs fits.syncs_are) disk
    (fit_recovers (known_of paged.pair disk) disk fits.newest fits.later fits.past fits.fit)

-- ---- the calls of the pair

-- the committed pages are those of the text
committed_document : (shown : PageState) (tree : LineTree) (generation : ℕ) (head : Head) (document : Document) → IsPaged shown tree document.text → head.empty ≡ (tree.committed.lines == 0)
    → head.format ≡ format_number document.format → IsDocumentOf (record { generation = generation; head = head; pages = shown.committed }) document
committed_document shown tree generation head document is empty format = record {
  is_text = is.committed.is_text;
  depth = tree.committed.height;
  lines = is.committed.tree;
  empty = empty ∙ ap (λ (n : ℕ). n == 0) (sym is.committed.lines);
  format = format;
}

pub document_synced : (paged : PagedText) (disk : Disk) (generation : ℕ) (head : Head) (document : Document) → IsPaged (shown_in paged.pair disk) paged.tree document.text → head.empty ≡ (paged.tree.committed.lines == 0)
    → head.format ≡ format_number document.format → IsDocumentOf (sync_with paged.pair disk generation head) document
document_synced paged disk generation head document is empty format = committed_document (shown_in paged.pair disk) paged.tree generation head document is empty format

pub syncing_documents : (paged : PagedText) (head : Head) (format : Format) (old new : Disk) → head.empty ≡ (paged.tree.committed.lines == 0) → head.format ≡ format_number format
    → pair.Syncing (known_of paged.pair old) (sync_of paged.pair old head) old new → Syncing paged format old new
syncing_documents paged head format old new empty formatted syncing = record {
  spared = λ text syncs fits. syncing.spared fits.newest fits.later fits.past fits.fit;
  unmoved = λ text syncs fits. syncing.unmoved fits.newest fits.later fits.past fits.fit;
  safe = λ text syncs fits.
      let sync : Synced = sync_of paged.pair old head in
      let document : Document = record { text = text; format = format } in
      recovers_documents (names_of paged) fits.fit.named.allowed (fits.newest ∷ sync ∷ fits.later) (fits.newest ∷ fits.past) (document ∷ recoverable syncs)
      (are_syncing fits.newest sync fits.later fits.past syncs document fits.syncs_are (document_synced paged old (paged.pair.files.generation + 1) head document fits.pages empty formatted)) new
      (syncing.safe fits.newest fits.later fits.past fits.fit);
}

-- the same pages and the same tree
same_pages : (old new : PageState) (tree after : LineTree) (text : Text) → after ≡ tree → new ≡ old → IsPaged old tree text → IsPaged new after text
same_pages old new tree after text same shown is = subst (λ (s : PageState). IsPaged s after text) (sym shown) (subst (λ (t : LineTree). IsPaged old t text) (sym same) is)

module _ (old new : PagedText) (head : Head) (dirty : Bool) (was now : Disk) (document : Document) (syncs : List Sync) (tree : new.tree ≡ old.tree) (shown : shown_in new.pair now ≡ shown_in old.pair was) (stored : IsStored new.pair now)
    (is_dirty : head.dirty ≡ dirty) (empty : head.empty ≡ (old.tree.committed.lines == 0)) (format : head.format ≡ format_number document.format) (fits : Fits old was document.text syncs) where
  pub synced_fits : IsFit (known_of new.pair now) now (sync_of old.pair was head) [] (fits.newest ∷ fits.past) → Fits new now document.text (acknowledged_sync document dirty ∷ syncs)
  synced_fits fit = record {
    pages = same_pages (shown_in old.pair was) (shown_in new.pair now) old.tree new.tree document.text tree shown fits.pages;
    stored = stored;
    newest = sync_of old.pair was head;
    later = [];
    past = fits.newest ∷ fits.past;
    fit = fit;
    syncs_are = more_syncs fits.newest (sync_of old.pair was head) fits.later fits.past syncs document dirty fits.syncs_are
        (record { document = document_synced old was (old.pair.files.generation + 1) head document fits.pages empty format; dirty = is_dirty });
  }

  pub failed_fits : IsFit (known_of new.pair now) now fits.newest (sync_of old.pair was head ∷ fits.later) fits.past → Fits new now document.text (begun document dirty ∷ syncs)
  failed_fits fit = record {
    pages = same_pages (shown_in old.pair was) (shown_in new.pair now) old.tree new.tree document.text tree shown fits.pages;
    stored = stored;
    newest = fits.newest;
    later = sync_of old.pair was head ∷ fits.later;
    past = fits.past;
    fit = fit;
    syncs_are = failed_syncs fits.newest (sync_of old.pair was head) fits.later fits.past syncs document dirty fits.syncs_are
        (record { document = document_synced old was (old.pair.files.generation + 1) head document fits.pages empty format; dirty = is_dirty });
  }

pub ending_documents : (paged : PagedText) (old new : Disk) → steps.Ending (known_of paged.pair old) old new → Ending paged old new
ending_documents paged old new ending = record {
  spared = λ text syncs fits. ending.spared;
  safe = λ text syncs fits.
      recovers_or_none (names_of paged) fits.fit.named.allowed (fits.newest ∷ fits.later) (fits.newest ∷ fits.past) (recoverable syncs) (are_recoverable fits.newest fits.later fits.past syncs fits.syncs_are) new
      (ending.safe fits.newest fits.later fits.past fits.fit);
}

-- ---- the start

module _ (source : SwapPair) (tree : LineTree) (head : Head) (document : Document) (is : IsPaged (state_of source.pages) tree document.text) (empty : head.empty ≡ (tree.committed.lines == 0)) (format : head.format ≡ format_number document.format) where
  started_with : (generation : ℕ) → IsDocumentOf (sync_fresh source generation head) document
  started_with generation = committed_document (state_of source.pages) tree generation head document is empty format

  pub starting_document : (names : Names) → IsTrue (is_allowed names.file) → (was new : Disk) → steps.Starting names (sync_fresh source 1 head) (sync_fresh source 2 head) was new → Starting names document was new
  starting_document names allowed was new starting = record {
    spared = starting.spared;
    safe = recovers_or_none names allowed (sync_fresh source 1 head ∷ sync_fresh source 2 head ∷ []) (sync_fresh source 1 head ∷ []) (document ∷ []) are new starting.safe;
  }
    where
      are : AreOf (sync_fresh source 1 head ∷ sync_fresh source 2 head ∷ []) (document ∷ [])
      are synced (inl one) = (document, inl refl, subst (λ (s : Synced). IsDocumentOf s document) (sym one) (started_with 1))
      are synced (inr (inl two)) = (document, inl refl, subst (λ (s : Synced). IsDocumentOf s document) (sym two) (started_with 2))
      are synced (inr (inr none)) = absurd none

  pub started_fits : (paged : PagedText) (disk : Disk) → shown_in paged.pair disk ≡ state_of source.pages → IsStored paged.pair disk → paged.tree ≡ tree → head.dirty ≡ false
      → IsFit (known_of paged.pair disk) disk (sync_fresh source 2 head) [] (sync_fresh source 1 head ∷ []) → Fits paged disk document.text (acknowledged_sync document false ∷ [])
  started_fits paged disk shown stored same clean fit = record {
    pages = same_pages (state_of source.pages) (shown_in paged.pair disk) tree paged.tree document.text same shown is;
    stored = stored;
    newest = sync_fresh source 2 head;
    later = [];
    past = sync_fresh source 1 head ∷ [];
    fit = fit;
    syncs_are = first_syncs (sync_fresh source 1 head) (sync_fresh source 2 head) document false (record { document = started_with 1; dirty = clean }) (record { document = started_with 2; dirty = clean });
  }

-- ---- other names

pub fits_kept : (paged : PagedText) (old new : Disk) (text : Text) (syncs : List Sync) → SameAt (is_swap (names_of paged)) old new → Fits paged old text syncs → Fits paged new text syncs
fits_kept paged old new text syncs same fits =
    let files = paged.pair.files in
    let pages = paged.pair.pages in
    let away : away_of files old ≡ away_of files new = sym (away_same files old new same) in
    record {
      pages = subst (λ (m : Map). IsPaged (state_under m pages) paged.tree text) away fits.pages;
      stored = record {
        backed = subst (λ (m : Map). AreBacked m pages) away fits.stored.backed;
        cached = subst (λ (m : Map). IsCacheOf (was_away paged.pair.pages) m paged.pair.cache) away fits.stored.cached;
      };
      newest = fits.newest;
      later = fits.later;
      past = fits.past;
      fit = subst (λ (m : Map). IsFit (known_with files (held_with m pages)) new fits.newest fits.later fits.past) away
          (fit_kept (known_of paged.pair old) old new fits.newest fits.later fits.past same fits.fit);
      syncs_are = fits.syncs_are;
    }

-- ---- other pages

-- pages with another text, where each commit that changed a page is known
pub fits_changed : (old new : PagedText) (disk : Disk) (text after : Text) (syncs : List Sync) → new.pair.files ≡ old.pair.files
    → KeepsHeld (held_in old.pair disk) (held_in new.pair disk) → IsPaged (shown_in new.pair disk) new.tree after → IsStored new.pair disk → Fits old disk text syncs → Fits new disk after syncs
fits_changed old new disk text after syncs files held pages stored fits = record {
  pages = pages;
  stored = stored;
  newest = fits.newest;
  later = fits.later;
  past = fits.past;
  fit = fit_changed old.pair new.pair disk fits.newest fits.later fits.past files held fits.fit;
  syncs_are = fits.syncs_are;
}

-- ---- a text that was read into pages

abbrev pub value_of : SwapPair → LineTree → Opening
value_of source tree = record { name = source.files.names.file; text = text_in (present_of source.pages) tree.present }

-- the document that is opened
abbrev pub opened_in : Format → Opening → Document
opened_in format value = record { text = value.text; format = format }

module _ (source : SwapPair) (tree : LineTree) (value : Opening) (is : IsCommitted source.pages tree) (same : value_of source tree ≡ value) where
  pub names_opened : source.files.names ≡ names_of_file value.name
  names_opened = source.files.named.others ∙ ap (λ (o : Opening). names_of_file o.name) same

  module _ (head : Head) (format : Format) (empty : head.empty ≡ (tree.committed.lines == 0)) (formatted : head.format ≡ format_number format) where
    pub opened_starting : (was new : Disk) → steps.Starting source.files.names (sync_fresh source 1 head) (sync_fresh source 2 head) was new
        → Starting (names_of_file value.name) (opened_in format value) was new
    opened_starting was new starting =
        let named : Starting source.files.names (opened_in format value) was new =
        subst (λ (o : Opening). Starting source.files.names (opened_in format o) was new) same
        (starting_document source tree head (opened_in format (value_of source tree)) (is_paged source.pages tree is) empty formatted source.files.names source.files.named.allowed was new starting) in
        subst (λ (n : Names). Starting n (opened_in format value) was new) names_opened named

    pub opened_fits : (paged : PagedText) (disk : Disk) → shown_in paged.pair disk ≡ state_of source.pages → IsStored paged.pair disk → paged.tree ≡ tree → head.dirty ≡ false
        → IsFit (known_of paged.pair disk) disk (sync_fresh source 2 head) [] (sync_fresh source 1 head ∷ []) → Fits paged disk value.text (acknowledged_sync (opened_in format value) false ∷ [])
    opened_fits paged disk shown stored one clean fit =
        subst (λ (o : Opening). Fits paged disk o.text (acknowledged_sync (opened_in format o) false ∷ [])) same
        (started_fits source tree head (opened_in format (value_of source tree)) (is_paged source.pages tree is) empty formatted paged disk shown stored one clean fit)

  pub lines_opened : tree.present.lines ≡ length value.text
  lines_opened = sym (text_had (present_of source.pages) tree.present is.present_fits).lines ∙ ap (λ (o : Opening). length o.text) same
