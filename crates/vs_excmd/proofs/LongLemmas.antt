-- Why lines that were rewritten are refused: one is too long, or those up to some match are already too many bytes.
use Rattle.std.proofs.Common.{◌≡◌, ◌<◌, ◌≤◌, ◌+◌, ◌-◌, ◌&&◌, ◌||◌, ℕ, zero, suc, List, [], ◌∷◌, ◌++◌, length, take, drop, map, All, Bool, true, false, cond, not, refl, ap, sym, subst, ◌∙◌, arith, inr, Ok, Err, Some, get_or, if◌then◌else◌}
use Rattle.std.specs.List.{list_all, list_any, prefix_len}
use Rattle.std.proofs.Math.Numerals.{one-add}
use Rattle.std.proofs.Math.Seq.{take-add, take-length}
use Rattle.std.proofs.lemmas.Bool.{false≢true}
use Rattle.std.proofs.lemmas.Bool.Decides.{nat_tests}
use Rattle.std.proofs.lemmas.List.{drop-append-le, drop-drop, get_or-drop, get_or-take, length-drop, length-map}
use Rattle.std.proofs.lemmas.List.Elements.{All-drop, All-head, All-tail, All-take}
use Rattle.std.proofs.lemmas.List.Folds.{list_any-append, list_any_at}
use Rattle.std.proofs.lemmas.List.Sums.{prefix_len-le-length}
use Rattle.vs_text.specs.Text.{bytes_of}
use Rattle.vs_text.specs.Limits.{IsShort}
use Rattle.vs_text.specs.declared.TheConstants.{MAX_TEXT_BYTES}
use Rattle.vs_exparse.specs.Bytes.{is_empty}
use Rattle.vs_exparse.proofs.ClashLemmas.{and-first, and-second}
use Rattle.vs_exparse.specs.declared.command.ExErr.TheVariants.{E486, LineTooLong, TextFull}
use Rattle.vs_edit.specs.Splices.{cut_out}
use Rattle.vs_edit.proofs.SpliceLemmas.{length-cut_out}
use Rattle.vs_edit.proofs.FileForm.{cut_out-more}
use Rattle.vs_excmd.specs.declared.replacing.Rewritten.{Rewritten}
use Rattle.vs_excmd.specs.Errors.{check}
use Rattle.vs_excmd.specs.Change.{bounded, is_short}
use Rattle.vs_excmd.specs.Substitute.{rewritten, substituted_lines, up_to_last}
use Rattle.vs_excmd.specs.Rewriting.{Finds, IsRewriting, is_long, is_too_long}
use Rattle.vs_excmd.proofs.FindLemmas.{finds-long}
use Rattle.vs_excmd.proofs.RewriteLemmas.{any-more}
use Rattle.vs_excmd.proofs.LimitLemmas.{not_empty, refused-full, refused-long, too-much}

or-true : (b : Bool) → (b || true) ≡ true
or-true true = refl
or-true false = refl

and-false : (b : Bool) → (b && false) ≡ false
and-false true = refl
and-false false = refl

not-true : (b : Bool) → not b ≡ true → b ≡ false
not-true true is = sym is
not-true false is = refl

not-false : (b : Bool) → not b ≡ false → b ≡ true
not-false true is = refl
not-false false is = sym is

or-more : (a b c : Bool) → (a || b) ≡ true → (a || (b || c)) ≡ true
or-more true b c is = refl
or-more false true c is = refl
or-more false false c is = absurd (false≢true is)

or-first : (a b : Bool) → (a || b) ≡ false → a ≡ false
or-first true b none = none
or-first false b none = refl

or-second : (a b : Bool) → (a || b) ≡ false → b ≡ false
or-second true b none = absurd (false≢true (sym none))
or-second false b none = none

some-new : {b : Bool} (new : List (List ℕ)) → b ≡ not (is_empty new) → MAX_TEXT_BYTES < bytes_of new → b ≡ true
some-new [] is full = absurd (omega (arith, full))
some-new (line ∷ new) is full = is ∙ ap not (not_empty line new)

module _ (hits : List ℕ → Bool) (f : List ℕ → List ℕ) where
  hits-by : (line : List ℕ) (lines : List (List ℕ)) (b : Bool) → is_long hits f line ≡ b → (is_long hits f line || list_any (is_long hits f) lines) ≡ true →
      (list_any (is_long hits f) lines ≡ true → list_any hits lines ≡ true) → (hits line || list_any hits lines) ≡ true
  hits-by line lines true is some more =
      ap (λ b. b || list_any hits lines) (and-first (hits line) (not (is_short (f line))) is)
  hits-by line lines false is some more =
      ap (λ b. hits line || b) (more (ap (λ b. b || list_any (is_long hits f) lines) (sym is) ∙ some)) ∙ or-true (hits line)

  -- a line that is too long matches
  any-hits : (lines : List (List ℕ)) → list_any (is_long hits f) lines ≡ true → list_any hits lines ≡ true
  any-hits [] some = some
  any-hits (line ∷ lines) some = hits-by line lines (is_long hits f line) refl some (any-hits lines)

  up-by : (line : List ℕ) (lines : List (List ℕ)) (b : Bool) → is_long hits f line ≡ b → (is_long hits f line || list_any (is_long hits f) lines) ≡ true →
      (list_any (is_long hits f) lines ≡ true → list_all is_short (map f (up_to_last hits lines)) ≡ false) →
      (is_short (f line) && list_all is_short (map f (up_to_last hits lines))) ≡ false
  up-by line lines true is some more =
      ap (λ b. b && list_all is_short (map f (up_to_last hits lines))) (not-true (is_short (f line)) (and-second (hits line) (not (is_short (f line))) is))
  up-by line lines false is some more =
      ap (λ b. is_short (f line) && b) (more (ap (λ b. b || list_any (is_long hits f) lines) (sym is) ∙ some)) ∙ and-false (is_short (f line))

  up-long : (lines : List (List ℕ)) → list_any (is_long hits f) lines ≡ true → list_all is_short (map f (up_to_last hits lines)) ≡ false
  up-long [] some = absurd (false≢true some)
  up-long (line ∷ lines) some =
      ap (λ b. list_all is_short (map f (cond b (line ∷ up_to_last hits lines) []))) (any-hits (line ∷ lines) some)
      ∙ up-by line lines (is_long hits f line) refl some (up-long lines)

  drop-by : (line : List ℕ) (lines : List (List ℕ)) (b : Bool) → hits line ≡ b → (is_long hits f line || list_any (is_long hits f) lines) ≡ true →
      (list_any (is_long hits f) lines ≡ true → list_any (is_long hits f) (drop (prefix_len (λ line. not (hits line)) lines) lines) ≡ true) →
      list_any (is_long hits f) (drop (prefix_len (λ line. not (hits line)) (line ∷ lines)) (line ∷ lines)) ≡ true
  drop-by line lines true is some more = ap (λ b. list_any (is_long hits f) (drop (cond (not b) (1 + prefix_len (λ line. not (hits line)) lines) 0) (line ∷ lines))) is ∙ some
  drop-by line lines false is some more =
      ap (λ b. list_any (is_long hits f) (drop (cond (not b) (1 + prefix_len (λ line. not (hits line)) lines) 0) (line ∷ lines))) is
      ∙ ap (λ n. list_any (is_long hits f) (drop n (line ∷ lines))) (one-add (prefix_len (λ line. not (hits line)) lines))
      ∙ more (ap (λ b. (b && not (is_short (f line))) || list_any (is_long hits f) lines) (sym is) ∙ some)

  drop-long : (lines : List (List ℕ)) → list_any (is_long hits f) lines ≡ true → list_any (is_long hits f) (drop (prefix_len (λ line. not (hits line)) lines) lines) ≡ true
  drop-long [] some = some
  drop-long (line ∷ lines) some = drop-by line lines (hits line) refl some (drop-long lines)

  -- lines of which one is too long are refused for it
  pub refused-by-long : (text : List (List ℕ)) (top : ℕ) (lines : List (List ℕ)) → list_any (is_long hits f) lines ≡ true →
      bounded text (substituted_lines hits f top lines) ≡ Err LineTooLong
  refused-by-long text top lines some =
      ap (λ b. bounded text (check b E486 (Ok (Some (rewritten hits f top lines))))) (any-hits lines some)
      ∙ refused-long text (rewritten hits f top lines) (up-long (drop (prefix_len (λ line. not (hits line)) lines) lines) (drop-long lines some))

  line-short : ((line : List ℕ) → hits line ≡ false → f line ≡ line) → (line : List ℕ) (b : Bool) → hits line ≡ b → is_long hits f line ≡ false → IsShort line → is_short (f line) ≡ true
  line-short keeps line true is none short = not-false (is_short (f line)) (ap (λ b. b && not (is_short (f line))) (sym is) ∙ none)
  line-short keeps line false is none short = ap is_short (keeps line is) ∙ (grind (arith, nat_tests))

  short-by : (line : List ℕ) (lines : List (List ℕ)) (b : Bool) → (hits line || list_any hits lines) ≡ b → is_short (f line) ≡ true →
      list_all is_short (map f (up_to_last hits lines)) ≡ true → list_all is_short (map f (up_to_last hits (line ∷ lines))) ≡ true
  short-by line lines true is first rest =
      ap (λ b. list_all is_short (map f (cond b (line ∷ up_to_last hits lines) []))) is ∙ (ap (λ b. b && list_all is_short (map f (up_to_last hits lines))) first ∙ rest)
  short-by line lines false is first rest = ap (λ b. list_all is_short (map f (cond b (line ∷ up_to_last hits lines) []))) is

  up-short : ((line : List ℕ) → hits line ≡ false → f line ≡ line) → (lines : List (List ℕ)) → list_any (is_long hits f) lines ≡ false → All IsShort lines →
      list_all is_short (map f (up_to_last hits lines)) ≡ true
  up-short keeps [] none short = refl
  up-short keeps (line ∷ lines) none short =
      short-by line lines (hits line || list_any hits lines) refl
      (line-short keeps line (hits line) refl (or-first (is_long hits f line) (list_any (is_long hits f) lines) none) (All-head IsShort line lines short))
      (up-short keeps lines (or-second (is_long hits f line) (list_any (is_long hits f) lines) none) (All-tail IsShort line lines short))

  drop-none : (n : ℕ) (lines : List (List ℕ)) → list_any (is_long hits f) lines ≡ false → list_any (is_long hits f) (drop n lines) ≡ false
  drop-none zero lines none = none
  drop-none (suc n) [] none = none
  drop-none (suc n) (line ∷ lines) none = drop-none n lines (or-second (is_long hits f line) (list_any (is_long hits f) lines) none)

  bytes-by : (line : List ℕ) (lines more : List (List ℕ)) (b : Bool) → (hits line || list_any hits lines) ≡ b →
      bytes_of (map f (up_to_last hits lines)) ≤ bytes_of (map f (up_to_last hits (lines ++ more))) →
      bytes_of (map f (up_to_last hits (line ∷ lines))) ≤ bytes_of (map f (up_to_last hits (line ∷ (lines ++ more))))
  bytes-by line lines more true is fewer =
      let whole : (hits line || list_any hits (lines ++ more)) ≡ true =
      ap (λ b. hits line || b) (list_any-append hits lines more) ∙ or-more (hits line) (list_any hits lines) (list_any hits more) is in
      let left : bytes_of (map f (up_to_last hits (line ∷ lines))) ≡ length (f line) + 1 + bytes_of (map f (up_to_last hits lines)) =
      ap (λ b. bytes_of (map f (cond b (line ∷ up_to_last hits lines) []))) is in
      let right : bytes_of (map f (up_to_last hits (line ∷ (lines ++ more)))) ≡ length (f line) + 1 + bytes_of (map f (up_to_last hits (lines ++ more))) =
      ap (λ b. bytes_of (map f (cond b (line ∷ up_to_last hits (lines ++ more)) []))) whole in
      omega (arith, left, right, fewer)
  bytes-by line lines more false is fewer =
      let left : bytes_of (map f (up_to_last hits (line ∷ lines))) ≡ 0 = ap (λ b. bytes_of (map f (cond b (line ∷ up_to_last hits lines) []))) is in
      omega (arith, left)

  -- with more lines there are no fewer bytes up to the last match
  up-bytes : (lines more : List (List ℕ)) → bytes_of (map f (up_to_last hits lines)) ≤ bytes_of (map f (up_to_last hits (lines ++ more)))
  up-bytes [] more = omega arith
  up-bytes (line ∷ lines) more = bytes-by line lines more (hits line || list_any hits lines) refl (up-bytes lines more)

  before-by : (line : List ℕ) (lines more : List (List ℕ)) (b : Bool) → hits line ≡ b → (hits line || list_any hits lines) ≡ true →
      (list_any hits lines ≡ true → prefix_len (λ line. not (hits line)) (lines ++ more) ≡ prefix_len (λ line. not (hits line)) lines) →
      prefix_len (λ line. not (hits line)) (line ∷ (lines ++ more)) ≡ prefix_len (λ line. not (hits line)) (line ∷ lines)
  before-by line lines more true is some same = rw is refl
  before-by line lines more false is some same = rw (is, same (ap (λ b. b || list_any hits lines) (sym is) ∙ some)) refl

  before-same : (lines more : List (List ℕ)) → list_any hits lines ≡ true → prefix_len (λ line. not (hits line)) (lines ++ more) ≡ prefix_len (λ line. not (hits line)) lines
  before-same [] more some = absurd (false≢true some)
  before-same (line ∷ lines) more some = before-by line lines more (hits line) refl some (before-same lines more)

  up-length-by : (line : List ℕ) (lines : List (List ℕ)) (b : Bool) → length (up_to_last hits lines) ≤ length lines → length (cond b (line ∷ up_to_last hits lines) []) ≤ length (line ∷ lines)
  up-length-by line lines true less = omega (arith, less)
  up-length-by line lines false less = omega arith

  up-length : (lines : List (List ℕ)) → length (up_to_last hits lines) ≤ length lines
  up-length [] = omega arith
  up-length (line ∷ lines) = up-length-by line lines (hits line || list_any hits lines) (up-length lines)

  rewritten-within : (lines : List (List ℕ)) → prefix_len (λ line. not (hits line)) lines + length (map f (up_to_last hits (drop (prefix_len (λ line. not (hits line)) lines) lines))) ≤ length lines
  rewritten-within lines =
      let n = prefix_len (λ line. not (hits line)) lines in
      omega (arith, length-map (up_to_last hits (drop n lines)) f, up-length (drop n lines), length-drop n lines, prefix_len-le-length (λ line. not (hits line)) lines)

  -- lines whose new ones pass the limit of a text up to some match are refused for it, where none is too long
  pub refused-by-full : (text : List (List ℕ)) (top : ℕ) (done rest lines new : List (List ℕ)) (before kept : ℕ) → ((line : List ℕ) → hits line ≡ false → f line ≡ line) →
      lines ≡ done ++ rest → top + length lines ≤ length text → list_any (is_long hits f) lines ≡ false → All IsShort lines →
      IsRewriting hits f done before new kept → kept ≡ length new → MAX_TEXT_BYTES < bytes_of new → bounded text (substituted_lines hits f top lines) ≡ Err TextFull
  refused-by-full text top done rest lines new before kept keeps both within none short so_far all_kept full =
      let p = λ (line : List ℕ). not (hits line) in
      let some : list_any hits done ≡ true = some-new new so_far.any full in
      let whole_some : list_any hits lines ≡ true = ap (list_any hits) both ∙ (list_any-append hits done rest ∙ ap (λ b. b || list_any hits rest) some) in
      let same : prefix_len p lines ≡ prefix_len p done = ap (prefix_len p) both ∙ before-same done rest some in
      let cut : drop (prefix_len p lines) lines ≡ drop (prefix_len p done) done ++ rest =
      ap (λ n. drop n lines) same ∙ (ap (drop (prefix_len p done)) both ∙ drop-append-le (prefix_len p done) done rest (prefix_len-le-length p done)) in
      let new_is : new ≡ map f (up_to_last hits (drop (prefix_len p done) done)) =
      sym (take-length new) ∙ (ap (λ n. take n new) (sym all_kept) ∙ (so_far.kept_is ∙ ap (λ n. map f (up_to_last hits (drop n done))) so_far.before_is)) in
      let more : bytes_of new ≤ bytes_of (map f (up_to_last hits (drop (prefix_len p lines) lines))) =
      subst (λ xs. bytes_of new ≤ bytes_of (map f (up_to_last hits xs))) (sym cut) (subst (λ xs. bytes_of xs ≤ bytes_of (map f (up_to_last hits (drop (prefix_len p done) done ++ rest)))) (sym new_is) (up-bytes (drop (prefix_len p done) done) rest)) in
      let size = rewritten-within lines in
      ap (λ b. bounded text (check b E486 (Ok (Some (rewritten hits f top lines))))) whole_some
      ∙ refused-full text (rewritten hits f top lines)
      (up-short keeps (drop (prefix_len p lines) lines) (drop-none (prefix_len p lines) lines none) (All-drop IsShort (prefix_len p lines) lines short))
      (too-much text (map f (up_to_last hits (drop (prefix_len p lines) lines))) (top + prefix_len p lines) (length (map f (up_to_last hits (drop (prefix_len p lines) lines)))) (omega (arith, size, within)) (inr (omega (arith, full, more))))

  -- a line that was found too long is one of the lines
  pub some-at : (text : List (List ℕ)) (top count i : ℕ) (line : List ℕ) (found : Rewritten) → top + count ≤ length text → i < count → line ≡ get_or text (top + i) [] →
      Finds hits f line found → is_too_long found ≡ true → list_any (is_long hits f) (cut_out text top count) ≡ true
  some-at text top count i line found within below is finds long =
      let size : i < length (cut_out text top count) = omega (arith, length-cut_out text top count within) in
      let here : get_or (cut_out text top count) i [] ≡ line = get_or-take count (drop top text) i [] below ∙ (get_or-drop top text i [] ∙ sym is) in
      list_any_at (is_long hits f) (cut_out text top count) i [] size (ap (is_long hits f) here ∙ (finds-long hits f line found finds ∙ long))

  -- none is too long, with one line more that is not
  pub none-more : (text : List (List ℕ)) (top i : ℕ) (line : List ℕ) (found : Rewritten) → top + i < length text → line ≡ get_or text (top + i) [] →
      Finds hits f line found → is_too_long found ≡ false → list_any (is_long hits f) (cut_out text top i) ≡ false → list_any (is_long hits f) (cut_out text top (i + 1)) ≡ false
  none-more text top i line found below is finds short none =
      let last : is_long hits f (get_or text (top + i) []) ≡ false = ap (is_long hits f) (sym is) ∙ (finds-long hits f line found finds ∙ short) in
      ap (list_any (is_long hits f)) (sym (cut_out-more text top i below))
      ∙ (any-more (is_long hits f) (cut_out text top i) (get_or text (top + i) []) ∙ (ap (λ b. b || is_long hits f (get_or text (top + i) [])) none ∙ last))

  -- lines that were rewritten, with one line more
  pub lines-more : (text : List (List ℕ)) (top i : ℕ) (line : List ℕ) (before : ℕ) (new : List (List ℕ)) (kept : ℕ) → top + i < length text → line ≡ get_or text (top + i) [] →
      IsRewriting hits f (cut_out text top i ++ line ∷ []) before new kept → IsRewriting hits f (cut_out text top (i + 1)) before new kept
  lines-more text top i line before new kept below is so_far =
      subst (λ lines. IsRewriting hits f lines before new kept) (ap (λ x. cut_out text top i ++ x ∷ []) is ∙ cut_out-more text top i below) so_far

  refused-by : (text : List (List ℕ)) (top : ℕ) (lines : List (List ℕ)) (long : Bool) → long ≡ list_any (is_long hits f) lines →
      (list_any (is_long hits f) lines ≡ false → bounded text (substituted_lines hits f top lines) ≡ Err TextFull) →
      bounded text (substituted_lines hits f top lines) ≡ Err (if long then LineTooLong else TextFull)
  refused-by text top lines true is full = refused-by-long text top lines (sym is)
  refused-by text top lines false is full = full (sym is)

  -- lines that pass the limit after `done` of them, where the others are looked at for one that is too long
  pub refused-either : (text : List (List ℕ)) (top count done : ℕ) (new : List (List ℕ)) (before kept : ℕ) (long : Bool) → ((line : List ℕ) → hits line ≡ false → f line ≡ line) →
      top + count ≤ length text → done ≤ count → All IsShort text → IsRewriting hits f (cut_out text top done) before new kept → kept ≡ length new → MAX_TEXT_BYTES < bytes_of new →
      list_any (is_long hits f) (cut_out text top done) ≡ false → long ≡ list_any (is_long hits f) (cut_out text (top + done) (count - done)) →
      bounded text (substituted_lines hits f top (cut_out text top count)) ≡ Err (if long then LineTooLong else TextFull)
  refused-either text top count done new before kept long keeps within less short so_far all_kept full none rest =
      let sum : done + (count - done) ≡ count = omega (arith, less) in
      let both : cut_out text top count ≡ cut_out text top done ++ cut_out text (top + done) (count - done) =
      ap (λ n. take n (drop top text)) (sym sum) ∙ (take-add done (count - done) (drop top text) ∙ ap (λ xs. cut_out text top done ++ take (count - done) xs) (drop-drop done top text)) in
      let any : list_any (is_long hits f) (cut_out text top count) ≡ list_any (is_long hits f) (cut_out text (top + done) (count - done)) =
      ap (list_any (is_long hits f)) both ∙ (list_any-append (is_long hits f) (cut_out text top done) (cut_out text (top + done) (count - done)) ∙ ap (λ b. b || list_any (is_long hits f) (cut_out text (top + done) (count - done))) none) in
      let size = length-cut_out text top count within in
      refused-by text top (cut_out text top count) long (rest ∙ sym any)
      (λ none. refused-by-full text top (cut_out text top done) (cut_out text (top + done) (count - done)) (cut_out text top count) new before kept keeps both (omega (arith, size, within)) none
      (All-take IsShort count (drop top text) (All-drop IsShort top text short)) so_far all_kept full)
