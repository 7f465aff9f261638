-- Known links are known wherever they stand.
use Rattle.std.proofs.Common.{◌≡◌, ℕ, true, cond, List, [], ◌∷◌, map, Option, Some, None, refl, ap, subst, ◌∙◌}
use Rattle.std.specs.List.{AllByRecursion}
use Rattle.vs_ufile.specs.declared.error.UfKind.TheVariants.{UnknownLink}
use Rattle.vs_ufile.specs.declared.fault.Fault.{Fault}
use Rattle.vs_ufile.specs.Decode.{KnowsLinks, LinksAreKnown, first_unknown, history, is_known, or_else, unknown, unknown_among, unknown_in}
use Rattle.vs_ufile.specs.Reading.{File, Placed, numbers_of}

pub numbers_are : (ps : List Placed) → map (λ c. c.number) (map (λ p. p.change) ps) ≡ numbers_of ps
numbers_are [] = refl
numbers_are (p ∷ ps) = ap (λ (ns : List ℕ). p.change.number ∷ ns) (numbers_are ps)

abbrev nothing : Option Fault
nothing = None

known : (numbers : List ℕ) (left link : ℕ) → is_known numbers link ≡ true → unknown numbers left link ≡ None
known numbers left link h = ap (λ b. cond b nothing (Some (record { kind = UnknownLink; left = left; found = link }))) h

then_none : (a b : Option Fault) → a ≡ None → b ≡ None → or_else a b ≡ None
then_none a b p q = ap (λ x. or_else x b) p ∙ q

known_in : (numbers : List ℕ) (p : Placed) → LinksAreKnown numbers p.change → unknown_in numbers p ≡ None
unfolding unknown_in
known_in numbers p k =
    then_none _ _ (known numbers _ p.change.next k.next) (then_none _ _ (known numbers _ p.change.prev k.prev)
    (then_none _ _ (known numbers _ p.change.alt_next k.alt_next) (known numbers _ p.change.alt_prev k.alt_prev)))

known_among : (numbers : List ℕ) (ps : List Placed) → AllByRecursion (LinksAreKnown numbers) (map (λ p. p.change) ps) → unknown_among numbers ps ≡ None
known_among numbers [] k = refl
known_among numbers (p ∷ ps) k = then_none _ _ (known_in numbers p k.0) (known_among numbers ps k.1)

pub all_known : (f : File) → KnowsLinks (history f) → first_unknown f ≡ None
unfolding first_unknown
all_known f k =
    let e = numbers_are f.placed in
    let P = λ (ns : List ℕ). is_known ns f.numbers.oldest ≡ true in
    let Q = λ (ns : List ℕ). is_known ns f.numbers.newest ≡ true in
    let R = λ (ns : List ℕ). is_known ns f.numbers.current_head ≡ true in
    let S = λ (ns : List ℕ). AllByRecursion (LinksAreKnown ns) (map (λ p. p.change) f.placed) in
    let numbers = numbers_of f.placed in
    then_none _ _ (known numbers _ f.numbers.oldest (subst P e k.oldest)) (then_none _ _ (known numbers _ f.numbers.newest (subst Q e k.newest))
    (then_none _ _ (known numbers _ f.numbers.current_head (subst R e k.current_head)) (known_among numbers f.placed (subst S e k.changes))))
