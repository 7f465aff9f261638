-- Each turn passes one line end.
use Rattle.std.proofs.Common.{◌≡◌, ◌≢◌, ◌++◌, ◌∷◌, if◌then◌else◌, List, ℕ, Bool, true, false, Option, Some, None, MatchOption, refl, ap, sym, ◌∙◌}
use Rattle.std.proofs.lemmas.Bool.{eq-eqb, ne_eqb}
use Rattle.vs_text.specs.Text.{IsLine}
use Rattle.vs_text.specs.Documents.{has_end, has_unix_end, last_byte}
use Rattle.vs_text.specs.declared.format.Format.{Format}
use Rattle.vs_text.specs.declared.format.Format.TheVariants.{Dos, Unix}
use Rattle.vs_text.proofs.Formats.{has_end-ended, has_end-line, has_unix_end-ended, has_unix_end-line}
use Rattle.vs_text.proofs.scan.ends_after.Goals as goal

-- a line end of unix
unix_here : (before last : ℕ) (rest line after : List ℕ) → rest ≡ line ++ 10 ∷ after → IsLine line → last ≡ last_byte before line → last ≢ 13
    → has_unix_end before rest ≡ true
unix_here before last rest line after is h ends other =
    ap (has_unix_end before) is ∙ (has_unix_end-ended before line after h ∙ rw (ne_eqb (last_byte before line) 13 (λ e. other (ends ∙ e))) refl)

-- a line end of dos
dos_here : (before last : ℕ) (rest line after : List ℕ) → rest ≡ line ++ 10 ∷ after → IsLine line → last ≡ last_byte before line → last ≡ 13
    → has_unix_end before rest ≡ has_unix_end 10 after
dos_here before last rest line after is h ends thirteen =
    ap (has_unix_end before) is ∙ (has_unix_end-ended before line after h ∙ rw (eq-eqb (last_byte before line) 13 (sym ends ∙ thirteen)) refl)

-- there is an end in the whole where there is one in what is left
ended_before : (found : Option Format) (rest whole : Bool) → MatchOption found (rest ≡ whole) (λ format. (format ≡ Dos) × (whole ≡ true)) → rest ≡ true → whole ≡ true
ended_before None rest whole h is = sym h ∙ is
ended_before (Some format) rest whole h is = h.1

-- what was found is the answer where no line end is left
all_found : (found : Option Format) (unix rest whole : Bool) → MatchOption found (rest ≡ whole) (λ format. (format ≡ Dos) × (whole ≡ true))
    → rest ≡ false → unix ≡ false → found ≡ (if unix then Some Unix else if whole then Some Dos else None)
all_found None unix rest whole h none plain = rw (plain, sym h ∙ none) refl
all_found (Some format) unix rest whole h none plain = rw (plain, h.1) (ap Some h.0)

pub returns-then-last_byte-ne13 : goal.returns-then-last_byte-ne13
returns-then-last_byte-ne13 c =
    let unix : has_unix_end c.args.before c.args.bytes.now ≡ true = sym c.ends.invariant.unix
    ∙ unix_here c.ends.before c.last_byte.result c.ends.rest.now c.in-Some.line.now c.in-Some.after.now c.in-Some.ensures.1 c.in-Some.ensures.0 c.last_byte.ensures c.if-last_byte-ne13.true in
    rw unix refl

pub ends-preserved : goal.ends-preserved
ends-preserved c =
    let ended : has_end c.ends.rest.now ≡ true = ap has_end c.in-Some.ensures.1 ∙ has_end-ended c.in-Some.line.now c.in-Some.after.now in
    record {
      unix = sym (dos_here c.ends.before c.last_byte.result c.ends.rest.now c.in-Some.line.now c.in-Some.after.now c.in-Some.ensures.1 c.in-Some.ensures.0 c.last_byte.ensures c.if-last_byte-ne13.false)
          ∙ c.ends.invariant.unix;
      found = (refl, ended_before c.ends.found (has_end c.ends.rest.now) (has_end c.args.bytes.now) c.ends.invariant.found ended);
    }

pub returns : goal.returns
returns c =
    let rest = c.ends.rest.now in
    let plain = sym c.ends.invariant.unix ∙ has_unix_end-line c.ends.before rest c.in_default.ensures in
    all_found c.ends.found (has_unix_end c.args.before c.args.bytes.now) (has_end rest) (has_end c.args.bytes.now) c.ends.invariant.found (has_end-line rest c.in_default.ensures) plain
