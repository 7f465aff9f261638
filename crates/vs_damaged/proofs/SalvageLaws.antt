-- A swap file gives one list of lines and markers: no two cases meet, and each has one that is left.
use Rattle.std.proofs.Common.{◌≡◌, ℕ, List, [], ◌∷◌, ◌++◌, Option, refl, sym, ap, ◌∙◌, subst, arith, inl, inr}
use Rattle.vs_ptr.specs.declared.PtrEntry.{PtrEntry}
use Rattle.vs_damaged.specs.declared.finds.Target.{Target}
use Rattle.vs_damaged.specs.declared.finds.Target.TheVariants as target
use Rattle.vs_damaged.specs.declared.shown.Marker.TheVariants as marker
use Rattle.vs_damaged.specs.Finds.{Entries, Found, Items, found_in, original_items, target_of}
use Rattle.vs_damaged.specs.Items.{Item, TheMarker}
use Rattle.vs_damaged.specs.Salvage.{Damaged, Ends, FromBelow, FromBlock, FromOriginal, Gives, IsBarred, IsFree, LeadsNowhere, NoBlock, Pages, bytes_at}

-- what a target to the original file gives
abbrev given : Damaged → Target → List Item
given d (target.Original before count) = original_items d.format d.original before count
given d t = []

-- the pages of a target to a block
abbrev pages_in : Target → Pages
pages_in (target.Block first count) = record { first = first; count = count }
pages_in t = record { first = 0; count = 0 }

abbrev entries_in : Found → List PtrEntry
entries_in (Entries es) = es
entries_in (Items items) = []

abbrev items_in : Found → List Item
items_in (Entries es) = []
items_in (Items items) = items

nowhere_original : (d : Damaged) (taken : List Pages) (t : Target) (before : Option ℕ) (count : ℕ) → t ≡ target.Original before count → LeadsNowhere d taken t → ⊥
nowhere_original d taken t before count is nowhere = subst (λ (u : Target). LeadsNowhere d taken u) is nowhere

nowhere_block : (d : Damaged) (taken : List Pages) (t : Target) (pages : Pages) → t ≡ target.Block pages.first pages.count → IsFree d taken pages → LeadsNowhere d taken t → ⊥
nowhere_block d taken t pages is free nowhere =
    let barred : IsBarred d taken pages = subst (λ (u : Target). LeadsNowhere d taken u) is nowhere in
    elim barred [ inl past ↦ omega (arith, free.inside, past) | inr meets ↦ omega (arith, free.once meets.0, meets.1) ]

-- two blocks to which one entry leads are one
same_pages : (t : Target) (a b : Pages) → t ≡ target.Block a.first a.count → t ≡ target.Block b.first b.count → a ≡ b
same_pages t a b first second = ap (λ (u : Target). pages_in u) (sym first ∙ second)

same_found : (d : Damaged) (e : PtrEntry) (a b : Pages) (x y : Found) → a ≡ b → found_in e (bytes_at d a) ≡ x → found_in e (bytes_at d b) ≡ y → x ≡ y
same_found d e a b x y same first second = sym first ∙ (ap (λ (p : Pages). found_in e (bytes_at d p)) same ∙ second)

pub gives_once : (d : Damaged) (taken : List Pages) (es : List PtrEntry) (xs ys : List Item) → Gives d taken es xs → Gives d taken es ys → xs ≡ ys
gives_once d taken es xs ys (Ends t) (Ends u) = refl
gives_once d taken es xs ys (FromOriginal t e rest items before count is after) (FromOriginal u f more others first number so then) =
    ap (λ (is : List Item). original_items d.format d.original before count ++ is) (gives_once d _ _ items others after then)
    ∙ ap (λ (v : Target). given d v ++ others) (sym is ∙ so)
gives_once d taken es xs ys (FromOriginal t e rest items before count is after) (NoBlock u f more others nowhere then) = absurd (nowhere_original d u (target_of e) before count is nowhere)
gives_once d taken es xs ys (FromOriginal t e rest items before count is after) (FromBelow u f more below others pages so free found then) = absurd (cc)
gives_once d taken es xs ys (FromOriginal t e rest items before count is after) (FromBlock u f more shown others pages so free found then) = absurd (cc)
gives_once d taken es xs ys (NoBlock t e rest items nowhere after) (FromOriginal u f more others before count is then) = absurd (nowhere_original d t (target_of e) before count is nowhere)
gives_once d taken es xs ys (NoBlock t e rest items nowhere after) (NoBlock u f more others lost then) = ap (λ (is : List Item). TheMarker marker.BlockMissing ∷ is) (gives_once d _ _ items others after then)
gives_once d taken es xs ys (NoBlock t e rest items nowhere after) (FromBelow u f more below others pages so free found then) = absurd (nowhere_block d t (target_of e) pages so free nowhere)
gives_once d taken es xs ys (NoBlock t e rest items nowhere after) (FromBlock u f more shown others pages so free found then) = absurd (nowhere_block d t (target_of e) pages so free nowhere)
gives_once d taken es xs ys (FromBelow t e rest below items pages is free found after) (FromOriginal u f more others before count so then) = absurd (cc)
gives_once d taken es xs ys (FromBelow t e rest below items pages is free found after) (NoBlock u f more others nowhere then) = absurd (nowhere_block d t (target_of e) pages is free nowhere)
gives_once d taken es xs ys (FromBelow t e rest below items pages is free found after) (FromBelow u f more under others other so clear seen then) =
    let same = same_pages (target_of e) pages other is so in
    let found_same = same_found d e pages other (Entries below) (Entries under) same found seen in
    gives_once d (other ∷ t) (under ++ rest) items others (subst (λ (ps : List PtrEntry). Gives d (other ∷ t) (ps ++ rest) items) (ap (λ (x : Found). entries_in x) found_same) (subst (λ (p : Pages). Gives d (p ∷ t) (below ++ rest) items) same after)) then
gives_once d taken es xs ys (FromBelow t e rest below items pages is free found after) (FromBlock u f more shown others other so clear seen then) =
    let found_same = same_found d e pages other (Entries below) (Items shown) (same_pages (target_of e) pages other is so) found seen in
    absurd (cc)
gives_once d taken es xs ys (FromBlock t e rest shown items pages is free found after) (FromOriginal u f more others before count so then) = absurd (cc)
gives_once d taken es xs ys (FromBlock t e rest shown items pages is free found after) (NoBlock u f more others nowhere then) = absurd (nowhere_block d t (target_of e) pages is free nowhere)
gives_once d taken es xs ys (FromBlock t e rest shown items pages is free found after) (FromBelow u f more below others other so clear seen then) =
    let found_same = same_found d e pages other (Items shown) (Entries below) (same_pages (target_of e) pages other is so) found seen in
    absurd (cc)
gives_once d taken es xs ys (FromBlock t e rest shown items pages is free found after) (FromBlock u f more seen_items others other so clear seen then) =
    let same = same_pages (target_of e) pages other is so in
    let found_same = same_found d e pages other (Items shown) (Items seen_items) same found seen in
    ap (λ (x : Found). items_in x ++ items) found_same
    ∙ ap (λ (is : List Item). seen_items ++ is) (gives_once d (other ∷ t) rest items others (subst (λ (p : Pages). Gives d (p ∷ t) rest items) same after) then)
