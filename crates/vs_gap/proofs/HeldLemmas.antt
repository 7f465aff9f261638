-- A text once held lines stand in it, as more of them are held, and as some are exchanged.
use Rattle.std.proofs.Common.{◌≡◌, ◌∙◌, ◌⊎◌, inl, inr, ℕ, ◌+◌, ◌-◌, ◌<◌, ◌≤◌, List, [], ◌++◌, All, length, take, drop, get_or, ap, sym, subst, arith, refl, rules, append_assoc, length-append, length-take, Option, Some, None}
use Rattle.std.proofs.Math.Seq.{take-add}
use Rattle.std.proofs.lemmas.List.{drop-drop, drop-take, take-take, get_or-drop, get_or-take, get_or_append_left, get_or-append_right, take-append-drop}
use Rattle.std.proofs.lemmas.List.Elements.{All-append}
use Rattle.vs_text.specs.Text.{IsLine, IsText, bytes_of}
use Rattle.vs_text.specs.Limits.{IsShort}
use Rattle.vs_text.specs.declared.TheConstants.{MAX_LINES, MAX_TEXT_BYTES}
use Rattle.vs_text.proofs.FileForm.{bytes_of-append}
use Rattle.vs_edit.specs.Splices.{splice, cut_out}
use Rattle.vs_edit.specs.State.{AllowsSplice, IsSpliced, SameText, TextState}
use Rattle.vs_edit.specs.Texts.{IsSound}
use Rattle.vs_edit.proofs.Steps.{SameText-trans, works_as, works_none}
use Rattle.vs_edit.proofs.SpliceLemmas.{All-splice, bytes_of-cut_out, bytes_of-splice, length-splice, splice_mid, splice_none}
use Rattle.vs_gap.proofs.GapLemmas.{cut-first, cut-last}
use Rattle.vs_gap.specs.declared.held.Held.{Held}
use Rattle.vs_gap.specs.Held.{FitsText, HoldsMore, IsExchanged, IsHeld, bytes_from, committed_of, lines_with, shown, with_held}

-- ---- a line

module _ (text lines : List (List ℕ)) (top old : ℕ) (within : top ≤ length text) where
  size : length (take top text) ≡ top
  size = omega (arith, length-take top text, within)

  pub line-before : (at : ℕ) → at < top → get_or (splice text top old lines) at [] ≡ get_or text at []
  line-before at below =
      get_or_append_left (take top text ++ lines) (drop (top + old) text) [] at (omega (arith, below, size, length-append (take top text) lines))
      ∙ get_or_append_left (take top text) lines [] at (omega (arith, below, size)) ∙ get_or-take top text at [] below

  pub line-held : (at : ℕ) → top ≤ at → at - top < length lines → get_or (splice text top old lines) at [] ≡ get_or lines (at - top) []
  line-held at from below =
      get_or_append_left (take top text ++ lines) (drop (top + old) text) [] at (omega (arith, from, below, size, length-append (take top text) lines))
      ∙ get_or-append_right (take top text) lines top at [] size from

  pub line-after : (at : ℕ) → top ≤ at → length lines ≤ at - top → get_or (splice text top old lines) at [] ≡ get_or text (at + old - length lines) []
  line-after at from past =
      get_or-append_right (take top text ++ lines) (drop (top + old) text) (top + length lines) at [] (omega (arith, size, length-append (take top text) lines)) (omega (arith, from, past))
      ∙ get_or-drop (top + old) text (at - (top + length lines)) [] ∙ ap (λ (n : ℕ). get_or text n []) (omega (arith, from, past))

  pub cut-before : (at count : ℕ) → at + count ≤ top → cut_out (splice text top old lines) at count ≡ cut_out text at count
  cut-before at count below =
      cut-first (take top text ++ lines) (drop (top + old) text) at count (omega (arith, below, size, length-append (take top text) lines))
      ∙ cut-first (take top text) lines at count (omega (arith, below, size))
      ∙ ap (λ (n : ℕ). cut_out (take n text) at count) (omega (arith, below)) ∙ ap (take count) (drop-take at (top - at) text)
      ∙ take-take count (top - at) (drop at text) (omega (arith, below))

  pub cut-held : (at count : ℕ) → top ≤ at → at - top + count ≤ length lines → cut_out (splice text top old lines) at count ≡ cut_out lines (at - top) count
  cut-held at count from inside =
      cut-first (take top text ++ lines) (drop (top + old) text) at count (omega (arith, from, inside, size, length-append (take top text) lines))
      ∙ cut-last (take top text) lines at (at - top) count (omega (arith, from, size))

  pub cut-after : (at count : ℕ) → top ≤ at → length lines ≤ at - top → cut_out (splice text top old lines) at count ≡ cut_out text (at + old - length lines) count
  cut-after at count from past =
      cut-last (take top text ++ lines) (drop (top + old) text) at (at - (top + length lines)) count (omega (arith, from, past, size, length-append (take top text) lines))
      ∙ ap (take count) (drop-drop (at - (top + length lines)) (top + old) text ∙ ap (λ (n : ℕ). drop n text) (omega (arith, from, past)))

-- ---- more lines

module _ (below : TextState) where
  pub more-none : (held : Held) → held.top + held.replaced ≤ below.lines → HoldsMore below held held
  more-none held within = record { within = within; lines = refl; bytes = refl; short_lines = λ all. all; text = λ text has. refl }

  pub more-more : (a b c : Held) → HoldsMore below a b → HoldsMore below b c → HoldsMore below a c
  more-more a b c first second = record {
    within = second.within;
    lines = omega (arith, first.lines, second.lines);
    bytes = second.bytes ∙ first.bytes;
    short_lines = λ all. second.short_lines (first.short_lines all);
    text = λ text has. second.text text has ∙ first.text text has;
  }

  -- the lines are the same, however they are kept
  pub more-same : (a b : Held) (lines : List (List ℕ)) → lines ≡ b.lines → HoldsMore below a b → HoldsMore below a (record b { lines = lines })
  more-same a b lines is more = subst (λ (l : List (List ℕ)). HoldsMore below a (record b { lines = l })) (sym is) more

  pub more-before : (other : TextState) (a b : Held) → SameText below other → HoldsMore other a b → HoldsMore below a b
  more-before other a b same more = record {
    within = omega (arith, more.within, same.lines);
    lines = more.lines;
    bytes = more.bytes;
    short_lines = more.short_lines;
    text = λ text has. more.text text (same.text text has);
  }

  -- no lines are held, so they stand anywhere
  pub more-seated : (old new : Held) (top : ℕ) → new.lines ≡ old.lines → new.replaced ≡ old.replaced → new.bytes ≡ old.bytes → old.top + old.replaced ≤ below.lines
      → (old.replaced ≡ 0 → old.lines ≡ [] → top ≤ below.lines) → (new.top ≡ old.top) ⊎ ((old.replaced ≡ 0) × (old.lines ≡ []) × (new.top ≡ top)) → HoldsMore below old new
  more-seated old new top lines replaced bytes within there place = record {
    within = elim place [
      | inl same ↦ omega (arith, same, replaced, within)
      | inr free ↦ omega (arith, free.0, free.2, replaced, there free.0 free.1)
    ];
    lines = omega (arith, ap (λ (xs : List (List ℕ)). length xs) lines, replaced);
    bytes = bytes;
    short_lines = λ all. subst (All IsShort) (sym lines) all;
    text = λ text has.
        ap (λ (xs : List (List ℕ)). splice text new.top new.replaced xs) lines ∙ ap (λ (n : ℕ). splice text new.top n old.lines) replaced ∙ elim place [
          | inl same ↦ ap (λ (n : ℕ). splice text n old.replaced old.lines) same
          | inr free ↦ ap (λ (n : ℕ). splice text new.top n old.lines) free.0 ∙ ap (λ (xs : List (List ℕ)). splice text new.top 0 xs) free.1 ∙ splice_none text new.top
              ∙ sym (ap (λ (n : ℕ). splice text old.top n old.lines) free.0 ∙ ap (λ (xs : List (List ℕ)). splice text old.top 0 xs) free.1 ∙ splice_none text old.top)
        ];
  }

  -- lines before the first
  pub more-front : (old new : Held) (lines : List (List ℕ)) (count : ℕ) → old.top + old.replaced ≤ below.lines → new.top + count ≡ old.top → new.replaced ≡ old.replaced + count
      → new.bytes ≡ old.bytes → new.lines ≡ lines ++ old.lines → length lines ≡ count → All IsShort lines
      → ((text : List (List ℕ)) → below.Is text → lines ≡ cut_out text new.top count) → HoldsMore below old new
  more-front old new lines count within top replaced bytes is size short cut = record {
    within = omega (arith, within, top, replaced);
    lines = omega (arith, ap (λ (xs : List (List ℕ)). length xs) is, length-append lines old.lines, size, replaced);
    bytes = bytes;
    short_lines = λ all. subst (All IsShort) (sym is) (All-append IsShort lines old.lines short all);
    text = λ text has.
        let head = take new.top text in
        let front : head ++ lines ≡ take old.top text =
        ap (λ (xs : List (List ℕ)). head ++ xs) (cut text has) ∙ sym (take-add new.top count text) ∙ ap (λ (n : ℕ). take n text) top in
        let back : drop (new.top + new.replaced) text ≡ drop (old.top + old.replaced) text = ap (λ (n : ℕ). drop n text) (omega (arith, top, replaced)) in
        ap (λ (xs : List (List ℕ)). (head ++ xs) ++ drop (new.top + new.replaced) text) is
        ∙ ap (λ (xs : List (List ℕ)). xs ++ drop (new.top + new.replaced) text) (sym (append_assoc head lines old.lines))
        ∙ ap (λ (xs : List (List ℕ)). (xs ++ old.lines) ++ drop (new.top + new.replaced) text) front
        ∙ ap (λ (xs : List (List ℕ)). (take old.top text ++ old.lines) ++ xs) back;
  }

  -- lines after the last
  pub more-back : (old new : Held) (lines : List (List ℕ)) (count : ℕ) → old.top + old.replaced + count ≤ below.lines → new.top ≡ old.top → new.replaced ≡ old.replaced + count
      → new.bytes ≡ old.bytes → new.lines ≡ old.lines ++ lines → length lines ≡ count → All IsShort lines
      → ((text : List (List ℕ)) → below.Is text → lines ≡ cut_out text (old.top + old.replaced) count) → HoldsMore below old new
  more-back old new lines count within top replaced bytes is size short cut = record {
    within = omega (arith, within, top, replaced);
    lines = omega (arith, ap (λ (xs : List (List ℕ)). length xs) is, length-append old.lines lines, size, replaced);
    bytes = bytes;
    short_lines = λ all. subst (All IsShort) (sym is) (All-append IsShort old.lines lines all short);
    text = λ text has.
        let head = take old.top text in
        let next = old.top + old.replaced in
        let rest : lines ++ drop (new.top + new.replaced) text ≡ drop next text =
        ap (λ (xs : List (List ℕ)). xs ++ drop (new.top + new.replaced) text) (cut text has)
        ∙ ap (λ (n : ℕ). cut_out text next count ++ drop n text) (omega (arith, top, replaced))
        ∙ ap (λ (xs : List (List ℕ)). cut_out text next count ++ xs) (sym (drop-drop count next text)) ∙ take-append-drop count (drop next text) in
        ap (λ (n : ℕ). (take n text ++ new.lines) ++ drop (new.top + new.replaced) text) top
        ∙ ap (λ (xs : List (List ℕ)). (head ++ xs) ++ drop (new.top + new.replaced) text) is
        ∙ ap (λ (xs : List (List ℕ)). xs ++ drop (new.top + new.replaced) text) (sym (append_assoc head old.lines lines))
        ∙ append_assoc (head ++ old.lines) lines (drop (new.top + new.replaced) text)
        ∙ ap (λ (xs : List (List ℕ)). (head ++ old.lines) ++ xs) rest;
  }

  -- what is shown is the same
  pub held-more : (old new : Held) → IsHeld below old → HoldsMore below old new → IsHeld below new
  held-more old new is more = record {
    within = more.within;
    few_lines = omega (arith, is.few_lines, more.lines, is.within, more.within);
    few_bytes = omega (arith, is.few_bytes, more.bytes);
    short_lines = more.short_lines is.short_lines;
    fits = λ text has.
        let was = is.fits text has in
        let same = more.text text has in
        let whole = length-splice text old.top old.replaced was.within old.lines in
        record {
          within = omega (arith, was.lines, whole, more.within, is.within);
          sound = subst IsSound (sym same) was.sound;
          lines = ap (λ (xs : List (List ℕ)). length xs) same ∙ was.lines ∙ omega (arith, more.lines, is.within, more.within);
          bytes = ap bytes_of same ∙ was.bytes ∙ sym more.bytes;
        };
  }

  pub shown-more : (old new : Held) → IsHeld below old → HoldsMore below old new → SameText (shown below old) (shown below new)
  shown-more old new is more = record {
    text = λ text at. record { under = at.under; has = at.has; fits = (held-more old new is more).fits at.under at.has; is = at.is ∙ sym (more.text at.under at.has) };
    lines = omega (arith, more.lines, is.within, more.within);
    bytes = more.bytes;
    worked_by = refl;
    most = refl;
  }

  pub allows-more : (old new : Held) (top count : ℕ) (inserted : List (List ℕ)) → IsHeld below old → HoldsMore below old new → AllowsSplice (shown below old) top count inserted
      → AllowsSplice (shown below new) top count inserted
  allows-more old new top count inserted is more allowed = record {
    within = omega (arith, allowed.within, more.lines, is.within, more.within);
    few_lines = omega (arith, allowed.few_lines, more.lines, is.within, more.within);
    short_lines = allowed.short_lines;
    few_bytes = λ text at.
        allowed.few_bytes text (record { under = at.under; has = at.has; fits = is.fits at.under at.has; is = at.is ∙ more.text at.under at.has });
  }

-- ---- the store below is read

module _ (old new : TextState) (held : Held) (same : SameText old new) where
  fits-same : (text : List (List ℕ)) → FitsText text held (lines_with old.lines held) held.bytes → FitsText text held (lines_with new.lines held) held.bytes
  fits-same text fits = subst (λ (n : ℕ). FitsText text held (lines_with n held) held.bytes) (sym same.lines) fits

  pub held-same : ((text : List (List ℕ)) → new.Is text → old.Is text) → IsHeld old held → IsHeld new held
  held-same back is = record {
    within = omega (arith, is.within, same.lines);
    few_lines = omega (arith, is.few_lines, same.lines);
    few_bytes = is.few_bytes;
    short_lines = is.short_lines;
    fits = λ text has. fits-same text (is.fits text (back text has));
  }

  pub shown-same : SameText (shown old held) (shown new held)
  shown-same = record {
    text = λ text at. record { under = at.under; has = same.text at.under at.has; fits = fits-same at.under at.fits; is = at.is };
    lines = omega (arith, same.lines);
    bytes = refl;
    worked_by = same.worked_by;
    most = same.most;
  }

-- more lines are held, of what was committed, too, where that was nothing else
module _ (below later : TextState) (same : SameText below later) (old new : Held) (is : IsHeld below old) (more : HoldsMore below old new) where
  pub held-read : (committed : Option Held) → ((text : List (List ℕ)) → later.Is text → below.Is text) → IsHeld below (committed_of old committed) → IsHeld later (committed_of new committed)
  held-read None back held = held-same below later new same back (held-more below old new is more)
  held-read (Some other) back held = held-same below later other same back held

  pub shown-read : (committed : Option Held) → SameText (shown below (committed_of old committed)) (shown later (committed_of new committed))
  shown-read None = SameText-trans (shown-more below old new is more) (shown-same below later new same)
  shown-read (Some other) = shown-same below later other same

-- a text that a store has still is the one that it had
pub told-before : {Told : Type 0} (Old New : List (List ℕ) → Type 0) → (Told → (text : List (List ℕ)) × Old text) → ((text : List (List ℕ)) → New text → Told)
    → ((a b : List (List ℕ)) → New a → New b → a ≡ b) → ((text : List (List ℕ)) → Old text → New text) → (text : List (List ℕ)) → New text → Old text
told-before Old New one told same stays text has =
    let was = one (told text has) in
    subst Old (same was.0 text (stays was.0 was.1) has) was.1

-- ---- lines are exchanged

module _ (text : List (List ℕ)) (old new : Held) (top count : ℕ) (inserted : List (List ℕ)) (from : old.top ≤ top) (to : top + count ≤ old.top + length old.lines)
    (within : old.top + old.replaced ≤ length text) (is : IsExchanged old top count inserted new) where
  abbrev head : List (List ℕ)
  head = take old.top text

  abbrev tail : List (List ℕ)
  tail = drop (old.top + old.replaced) text

  place : length head ≡ old.top
  place = omega (arith, within, length-take old.top text)

  new-whole : with_held text new ≡ head ++ (splice old.lines (top - old.top) count inserted ++ tail)
  new-whole =
      ap (λ (n : ℕ). splice text n new.replaced new.lines) is.top_is ∙ ap (λ (n : ℕ). splice text old.top n new.lines) is.replaced
      ∙ ap (λ (xs : List (List ℕ)). splice text old.top old.replaced xs) is.lines ∙ append_assoc head (splice old.lines (top - old.top) count inserted) tail

  -- an exchange is a splice of the whole text
  pub exchanged-whole : splice (with_held text old) top count inserted ≡ with_held text new
  exchanged-whole =
      ap (λ (xs : List (List ℕ)). splice xs top count inserted) (append_assoc head old.lines tail)
      ∙ splice_mid head old.lines tail inserted top (top - old.top) count (omega (arith, place, from)) (omega (arith, from, to)) ∙ sym new-whole

  inside : top - old.top + count ≤ length old.lines
  inside = omega (arith, from, to)

  gone-few : bytes_from old top count ≤ bytes_of (with_held text old)
  gone-few =
      omega (arith, bytes_of-cut_out old.lines (top - old.top) count inside, ap bytes_of (append_assoc head old.lines tail), bytes_of-append head (old.lines ++ tail), bytes_of-append old.lines tail)

  counted : bytes_of (with_held text new) + bytes_from old top count ≡ bytes_of (with_held text old) + bytes_of inserted
  counted =
      let middle = splice old.lines (top - old.top) count inserted in
      omega (
        arith,
        bytes_of-splice old.lines inserted (top - old.top) count inside,
        ap bytes_of (append_assoc head old.lines tail),
        bytes_of-append head (old.lines ++ tail),
        bytes_of-append old.lines tail,
        ap bytes_of new-whole,
        bytes_of-append head (middle ++ tail),
        bytes_of-append middle tail,
      )

  whole-within : top + count ≤ length (with_held text old)
  whole-within = omega (arith, to, within, length-splice text old.top old.replaced within old.lines)

  pub fits-exchanged : (lines : ℕ) → FitsText text old (lines_with lines old) old.bytes → lines_with lines old + length inserted ≤ MAX_LINES + count → All IsShort inserted
      → bytes_of (splice (with_held text old) top count inserted) ≤ MAX_TEXT_BYTES → old.replaced ≤ lines → FitsText text new (lines_with lines new) new.bytes
  fits-exchanged lines fits few short room there =
      let same = exchanged-whole in
      let size = length-splice (with_held text old) top count whole-within inserted in
      let now = ap (λ (xs : List (List ℕ)). length xs) same in
      let held = length-splice old.lines (top - old.top) count inside inserted in
      let now_held = ap (λ (xs : List (List ℕ)). length xs) is.lines in
      record {
        within = omega (arith, within, is.top_is, is.replaced);
        sound = record {
          is_text = subst IsText same (All-splice (with_held text old) top count whole-within IsLine inserted fits.sound.is_text is.is_text);
          within = record {
            short_lines = subst (All IsShort) same (All-splice (with_held text old) top count whole-within IsShort inserted fits.sound.within.short_lines short);
            few_lines = omega (arith, size, now, few, fits.lines, whole-within);
            few_bytes = subst (λ (xs : List (List ℕ)). bytes_of xs ≤ MAX_TEXT_BYTES) same room;
          };
        };
        lines = omega (arith, size, now, fits.lines, held, now_held, is.replaced, there, inside, whole-within);
        bytes =
            let room_new = ap bytes_of same in
            omega (arith, counted, fits.bytes, room, room_new, gone-few, is.bytes (omega (arith, gone-few, fits.bytes)) (omega (arith, counted, fits.bytes, room, room_new)));
      }

-- what is shown is spliced
module _ (below : TextState) (old new : Held) (top count : ℕ) (inserted : List (List ℕ)) (from : old.top ≤ top) (to : top + count ≤ old.top + length old.lines)
    (is : IsExchanged old top count inserted new) (held : IsHeld below old) (allowed : AllowsSplice (shown below old) top count inserted) where
  fits : (text : List (List ℕ)) → below.Is text → FitsText text new (lines_with below.lines new) new.bytes
  fits text has =
      let was = held.fits text has in
      fits-exchanged text old new top count inserted from to was.within is below.lines was allowed.few_lines allowed.short_lines
      (allowed.few_bytes (with_held text old) (record { under = text; has = has; fits = was; is = refl })) (omega (arith, held.within))

  sizes : length new.lines + count ≡ length old.lines + length inserted
  sizes = omega (arith, ap (λ (xs : List (List ℕ)). length xs) is.lines, length-splice old.lines (top - old.top) count (omega (arith, from, to)) inserted)

  pub held-exchanged : IsHeld below new
  held-exchanged = record {
    within = omega (arith, held.within, is.top_is, is.replaced);
    few_lines = omega (arith, sizes, allowed.few_lines, allowed.within, held.within, is.replaced, from, to);
    few_bytes = is.few_bytes;
    short_lines = subst (All IsShort) (sym is.lines) (All-splice old.lines (top - old.top) count (omega (arith, from, to)) IsShort inserted held.short_lines allowed.short_lines);
    fits = fits;
  }

  pub shown-exchanged : IsSpliced (shown below old) top count inserted (shown below new)
  shown-exchanged = record {
    text = λ text at. record {
      under = at.under;
      has = at.has;
      fits = fits at.under at.has;
      is = ap (λ (xs : List (List ℕ)). splice xs top count inserted) at.is ∙ exchanged-whole at.under old new top count inserted from to (held.fits at.under at.has).within is;
    };
    lines = omega (arith, sizes, held.within, is.replaced, allowed.within);
    works = λ text at small. works_none below.most below.worked_by below.worked_by refl;
  }

pub spliced-same : {a b c : TextState} {top count : ℕ} {inserted : List (List ℕ)} → IsSpliced a top count inserted b → SameText b c → IsSpliced a top count inserted c
spliced-same {top} {count} {inserted} spliced same = record {
  text = λ text is. same.text (splice text top count inserted) (spliced.text text is);
  lines = omega (arith, spliced.lines, same.lines);
  works = λ text is small. works_as refl refl same.worked_by (spliced.works text is small);
}

-- ---- no line is held

module _ (below : TextState) (held : Held) (top : held.top ≡ 0) (replaced : held.replaced ≡ 0) (lines : held.lines ≡ []) where
  whole : (text : List (List ℕ)) → with_held text held ≡ text
  whole text =
      ap (λ (n : ℕ). splice text n held.replaced held.lines) top ∙ ap (λ (n : ℕ). splice text 0 n held.lines) replaced
      ∙ ap (λ (xs : List (List ℕ)). splice text 0 0 xs) lines ∙ splice_none text 0

  count : lines_with below.lines held ≡ below.lines
  count = omega (arith, replaced, ap (λ (xs : List (List ℕ)). length xs) lines)

  pub held-none : held.bytes ≡ below.bytes → below.lines ≤ MAX_LINES → below.bytes ≤ MAX_TEXT_BYTES
      → ((text : List (List ℕ)) → below.Is text → length text ≡ below.lines) → ((text : List (List ℕ)) → below.Is text → bytes_of text ≡ below.bytes)
      → ((text : List (List ℕ)) → below.Is text → IsSound text) → IsHeld below held
  held-none bytes few_lines few_bytes size counted sound = record {
    within = omega (arith, top, replaced);
    few_lines = omega (arith, count, few_lines);
    few_bytes = omega (arith, bytes, few_bytes);
    short_lines = subst (All IsShort) (sym lines) (search rules);
    fits = λ text has. record {
      within = omega (arith, top, replaced);
      sound = subst IsSound (sym (whole text)) (sound text has);
      lines = ap (λ (xs : List (List ℕ)). length xs) (whole text) ∙ size text has ∙ sym count;
      bytes = ap bytes_of (whole text) ∙ counted text has ∙ sym bytes;
    };
  }

  pub shown-none : held.bytes ≡ below.bytes → IsHeld below held → SameText below (shown below held)
  shown-none bytes is = record {
    text = λ text has. record { under = text; has = has; fits = is.fits text has; is = sym (whole text) };
    lines = count;
    bytes = bytes;
    worked_by = refl;
    most = refl;
  }

  pub only-none : held.bytes ≡ below.bytes → SameText (shown below held) below
  only-none bytes = record {
    text = λ text at. subst below.Is (sym (at.is ∙ whole at.under)) at.has;
    lines = sym count;
    bytes = sym bytes;
    worked_by = refl;
    most = refl;
  }
