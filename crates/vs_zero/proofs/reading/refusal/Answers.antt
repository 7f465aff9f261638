-- The tests that failed before, and then the one that decides.
use Rattle.std.proofs.Common.{◌≡◌, ◌≤◌, ℕ, true, false, List, length, refl, sym, ◌∙◌, arith}
use Rattle.vs_zero.specs.Zero.{is_short, is_encrypted, is_open, has_magic}
use Rattle.vs_zero.proofs.reading.refusal.Goals as goal

long_enough : (page : List ℕ) → 1048 ≤ length page → is_short page ≡ false
long_enough page whole = grind (arith, whole)

pub returns-then-page-lt-END-clause-value : goal.returns-then-page-lt-END-clause-value
returns-then-page-lt-END-clause-value c =
    let short : is_short c.args.page.now ≡ true = grind (arith, c.if-page-lt-END.true) in
    rw short refl

pub returns-then-is_encrypted-clause-value : goal.returns-then-is_encrypted-clause-value
returns-then-is_encrypted-clause-value c =
    let whole = long_enough c.args.page.now c.if-page-lt-END.false in
    let encrypted : is_encrypted c.args.page.now ≡ true = sym c.is_encrypted.ensures ∙ c.if-is_encrypted.true in
    rw (whole, encrypted) refl

pub returns-then-not-is_open-clause-value : goal.returns-then-not-is_open-clause-value
returns-then-not-is_open-clause-value c =
    let whole = long_enough c.args.page.now c.if-page-lt-END.false in
    let clear : is_encrypted c.args.page.now ≡ false = sym c.is_encrypted.ensures ∙ c.if-is_encrypted.false in
    let closed : is_open c.args.page.now ≡ false = sym c.is_open.ensures ∙ c.if-not-is_open.true in
    rw (whole, clear, closed) refl

pub returns-then-not-has_magic-clause-value : goal.returns-then-not-has_magic-clause-value
returns-then-not-has_magic-clause-value c =
    let whole = long_enough c.args.page.now c.if-page-lt-END.false in
    let clear : is_encrypted c.args.page.now ≡ false = sym c.is_encrypted.ensures ∙ c.if-is_encrypted.false in
    let open_page : is_open c.args.page.now ≡ true = sym c.is_open.ensures ∙ c.if-not-is_open.false in
    let foreign : has_magic c.args.page.now ≡ false = sym c.has_magic.ensures ∙ c.if-not-has_magic.true in
    rw (whole, clear, open_page, foreign) refl
