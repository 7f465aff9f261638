-- Which number passed a limit, and what pieces of a file make.
use Rattle.std.proofs.Common.{◌≡◌, ℕ, ◌<◌, ◌≤◌, nat_le, Bool, true, false, ◌&&◌, not, List, [], ◌∷◌, ◌++◌, length, take, drop, Option, Some, None, Result, Ok, Err, IsErrAnd, IsErrOf, IsSome, IsSomeAnd, IfErr, IfSome, IsTrue, OnOk, refl, sym, ap, subst, ◌∙◌, inl, inr, arith, append-nil, length-append}
use Rattle.std.proofs.Math.Seq.{take-add}
use Rattle.std.proofs.lemmas.List.{take_all, take-append-drop}
use Rattle.std.proofs.lemmas.Grind.{common_steps}
use Rattle.std.proofs.lemmas.Bool.Decides.{nat_tests}
use Rattle.vs_text.specs.Documents.{document_of, format_of, lines_in}
use Rattle.vs_text.specs.declared.format.Format.{Format}
use Rattle.vs_text.specs.declared.format.Format.TheVariants.{Unix}
use Rattle.std.specs.List.{list_all}
use Rattle.std.proofs.lemmas.Bool.{cases_Bool, true≢false}
use Rattle.vs_host.specs.Names.{is_allowed, is_name_byte, is_reserved}
use Rattle.vs_text.specs.Limits.{IsRefusal, IsWithinLimits, first_long}
use Rattle.vs_text.specs.declared.TheConstants.{MAX_LINE_BYTES}
use Rattle.vs_text.specs.declared.error.TextErr.{TextErr}
use Rattle.vs_text.specs.declared.error.TextErr.TheVariants as text
use Rattle.vs_host.specs.World.{Scene, ReadsFolder, Tells, content_of}
use Rattle.vs_session.specs.Open.{open_error, IsTooLarge, PassesLimit}
use Rattle.vs_session.specs.Pieces.{AreFirstOf, FilePiece, IsPieceOf}
use Rattle.vs_session.specs.declared.open.OpenErr.{OpenErr}
use Rattle.vs_session.specs.declared.open.OpenErr.TheVariants as opening

-- what an error of a reader says, as the error of opening
pub limit_of : {T : Type 0} (r : Result T OpenErr) (error : TextErr) (lines : List (List ℕ)) → IsErrAnd r (λ e. e ≡ open_error error) → IsRefusal lines error
    → (size : ℕ) → IsErrOf r (opening.TextLimit size) → PassesLimit lines size
limit_of (Ok x) error lines is refused = λ size of. absurd is
limit_of (Err e) (text.TextFull n) lines is refused = λ size of.
    let same : n ≡ size = cc in
    inr (let R : ℕ → Type 0 = λ n. IsRefusal lines (text.TextFull n) in subst R same refused)
limit_of (Err e) (text.LineTooLong n) lines is refused = λ size of.
    let same : n ≡ size = cc in
    inl (let R : ℕ → Type 0 = λ n. IsRefusal lines (text.LineTooLong n) in subst R same refused)
limit_of (Err e) text.NoMemory lines is refused = λ size of. absurd (cc)

-- the length of a line that is too long is above the limit
first_long-above : (lines : List (List ℕ)) (n : ℕ) → first_long lines ≡ Some n → MAX_LINE_BYTES < n
first_long-above [] n is = absurd (cc)
first_long-above (line ∷ lines) n is = grind (arith, nat_tests, common_steps, first_long-above lines n)

-- such a number is above the least of the limits
pub limit_above : (lines : List (List ℕ)) (size : ℕ) → PassesLimit lines size → MAX_LINE_BYTES < size
limit_above lines size (inl long) = first_long-above lines size long
limit_above lines size (inr (short, (inl few))) = omega (arith, few.1)
limit_above lines size (inr (short, (inr few))) = omega (arith, few.2)

-- a call that only reads the folder leaves what a name has
pub same_content : (old new : Scene) (name : List ℕ) → ReadsFolder old new → content_of new name ≡ content_of old name
same_content old new name is = ap (λ (s : Scene). content_of s name) is

-- a file that a call left as it is
pub if_same : (file now : Option (List ℕ)) (P : List ℕ → Type 0) → now ≡ file → IfSome file P → IfSome now P
if_same file now P same is = subst (λ (o : Option (List ℕ)). IfSome o P) (sym same) is

pub there_same : (file now : Option (List ℕ)) (P : List ℕ → Type 0) → now ≡ file → IsSomeAnd file P → IsSomeAnd now P
there_same file now P same is = subst (λ (o : Option (List ℕ)). IsSomeAnd o P) (sym same) is

-- the bytes that were read before a piece and this piece are the first ones of the file
pub first_more : (file : Option (List ℕ)) (read bytes : List ℕ) (piece : FilePiece) → piece.at ≡ length read → bytes ≡ piece.bytes
    → IfSome file (λ f. AreFirstOf f read) → IfSome file (λ f. IsPieceOf f piece) → IfSome file (λ f. AreFirstOf f (read ++ bytes))
first_more None read bytes piece at is first next = tt
first_more (Some file) read bytes piece at is first next =
    let part : bytes ≡ take (length bytes) (drop (length read) file) =
    is ∙ (next ∙ (ap (λ (n : ℕ). take (length piece.bytes) (drop n file)) at ∙ ap (λ (b : List ℕ). take (length b) (drop (length read) file)) (sym is))) in
    ap (λ (l : List ℕ). l ++ bytes) first ∙ (ap (λ (l : List ℕ). take (length read) file ++ l) part
    ∙ (sym (take-add (length read) (length bytes) file) ∙ ap (λ (n : ℕ). take n file) (sym (length-append read bytes))))

-- a piece that was read
pub piece_read : {E : Type 0} (result : Result (Unit {0}) E) (Told : Type 0) (file : Option (List ℕ)) (read : List ℕ) (n : ℕ) (piece : FilePiece)
    → piece.bytes ≡ read → n ≡ length read → OnOk result (Told → IfSome file (λ bytes. read ≡ take n (drop piece.at bytes)))
    → OnOk result (Told → IfSome file (λ f. IsPieceOf f piece))
piece_read (Err e) Told file read n piece is size so = tt
piece_read (Ok x) Told None read n piece is size so = λ told. tt
piece_read (Ok x) Told (Some bytes) read n piece is size so = λ told.
    is ∙ (so told ∙ ap (λ (k : ℕ). take k (drop piece.at bytes)) (size ∙ ap length (sym is)))

-- where no bytes are at hand
pub piece_none : (file : Option (List ℕ)) (piece : FilePiece) → piece.bytes ≡ [] → IfSome file (λ f. IsPieceOf f piece)
piece_none None piece none = tt
piece_none (Some file) piece none = rw none refl

-- no bytes are the first ones of a file
pub first_none : (file : Option (List ℕ)) → IfSome file (λ f. AreFirstOf f [])
first_none None = tt
first_none (Some file) = refl

-- at its end the whole file was read
pub whole_read : (file : Option (List ℕ)) (size : ℕ) (read : List ℕ) → IsSomeAnd file (λ bytes. size ≡ length bytes) → length read ≡ size
    → IfSome file (λ f. AreFirstOf f read) → IsSomeAnd file (λ bytes. read ≡ bytes)
whole_read None size read there end first = absurd there
whole_read (Some bytes) size read there end first = first ∙ take_all (length read) bytes (omega (arith, there, end))

-- what is said of the lines of a whole file in its format is said of its document
pub document_read : (file : Option (List ℕ)) (read : List ℕ) (format : Format) (P : List (List ℕ) → Type 0) → IsSomeAnd file (λ bytes. read ≡ bytes)
    → IfSome file (λ bytes. format ≡ format_of bytes) → P (lines_in format read) → IsSomeAnd file (λ bytes. P ((document_of bytes).text))
document_read None read format P is same p = is
document_read (Some bytes) read format P is same p =
    subst (λ (f : Format). P (lines_in f bytes)) same (subst (λ (b : List ℕ). P (lines_in format b)) is p)

-- the same where the file need not be there
pub some_read : (file : Option (List ℕ)) (read : List ℕ) (format : Format) (P : List (List ℕ) → Type 0) → IsSomeAnd file (λ bytes. read ≡ bytes)
    → IfSome file (λ bytes. format ≡ format_of bytes) → P (lines_in format read) → IfSome file (λ bytes. P ((document_of bytes).text))
some_read None read format P is same p = tt
some_read (Some bytes) read format P is same p = document_read (Some bytes) read format P is same p

-- and the other way, where the file is there
pub there_if : (file : Option (List ℕ)) (P : List ℕ → Type 0) → IsSome file → IfSome file P → IsSomeAnd file P
there_if None P there is = absurd (let never : false ≡ true = there in cc)
there_if (Some bytes) P there is = is

told_in_piece : (file : Option (List ℕ)) (n size : ℕ) (format : Format) (read : List ℕ) → IsSomeAnd file (λ bytes. size ≡ length bytes)
    → IfSome file (λ f. AreFirstOf f read) → IfSome file (λ bytes. format ≡ format_of bytes)
    → ((more : List ℕ) → PassesLimit (lines_in format (read ++ more)) n) → IsSomeAnd file (λ bytes. PassesLimit ((document_of bytes).text) n)
told_in_piece None n size format read there first same passes = absurd there
told_in_piece (Some bytes) n size format read there first same passes =
    let whole : read ++ drop (length read) bytes ≡ bytes = ap (λ (l : List ℕ). l ++ drop (length read) bytes) first ∙ take-append-drop (length read) bytes in
    document_read (Some bytes) (read ++ drop (length read) bytes) format (λ text. PassesLimit text n) whole same (passes (drop (length read) bytes))

-- a limit that is passed in a piece, whatever follows
pub limit_in_piece : (tells : Tells) (file : Option (List ℕ)) (n size : ℕ) (format : Format) (read : List ℕ)
    → (IsTrue tells.folder → IsSomeAnd file (λ bytes. size ≡ length bytes)) → (IsTrue tells.folder → IfSome file (λ f. AreFirstOf f read))
    → (IsTrue tells.folder → IfSome file (λ bytes. format ≡ format_of bytes))
    → ((more : List ℕ) → PassesLimit (lines_in format (read ++ more)) n) → IsTooLarge tells n file
limit_in_piece tells file n size format read there first same passes = record {
  above = limit_above _ n (passes []);
  passes = λ told. told_in_piece file n size format read (there told) (first told) (same told) passes;
}

-- a limit that the whole passes
pub limit_at_end : (tells : Tells) (file : Option (List ℕ)) (n : ℕ) (format : Format) (read : List ℕ) → (IsTrue tells.folder → IsSomeAnd file (λ bytes. read ≡ bytes))
    → (IsTrue tells.folder → IfSome file (λ bytes. format ≡ format_of bytes)) → PassesLimit (lines_in format read) n → IsTooLarge tells n file
limit_at_end tells file n format read is same passes = record {
  above = limit_above (lines_in format read) n passes;
  passes = λ told. document_read file read format (λ text. PassesLimit text n) (is told) (same told) passes;
}

-- the format of a file, where it is certain after its first bytes
pub format_certain : (file : Option (List ℕ)) (read : List ℕ) (format : Format) → IfSome file (λ f. AreFirstOf f read) → format ≡ format_of read
    → ((more : List ℕ) → format_of (read ++ more) ≡ Unix) → IfSome file (λ bytes. format ≡ format_of bytes)
format_certain None read format first is certain = tt
format_certain (Some bytes) read format first is certain =
    let whole : read ++ drop (length read) bytes ≡ bytes = ap (λ (l : List ℕ). l ++ drop (length read) bytes) first ∙ take-append-drop (length read) bytes in
    is ∙ (ap format_of (sym (append-nil read)) ∙ (certain [] ∙ (sym (certain (drop (length read) bytes)) ∙ ap format_of whole)))

-- or after all of them
pub format_at_end : (file : Option (List ℕ)) (read : List ℕ) (format : Format) → IsSomeAnd file (λ bytes. read ≡ bytes) → format ≡ format_of read
    → IfSome file (λ bytes. format ≡ format_of bytes)
format_at_end None read format whole is = tt
format_at_end (Some bytes) read format whole is = is ∙ ap format_of whole

-- an error that is handed on is no other
pub handed_on : {T : Type 0} (r : Result T OpenErr) (e f : OpenErr) → IsErrAnd r (λ x. x ≡ e) → e ≡ f → IsErrOf r f
handed_on (Ok x) e f is same = absurd is
handed_on (Err x) e f is same = ap (λ (e : OpenErr). Err e) (is ∙ same)

-- neither the limits of a text nor want of memory are a failed call
pub never_failed : {T : Type 0} (r : Result T OpenErr) (e : TextErr) → IsErrAnd r (λ x. x ≡ open_error e) → IsErrOf r opening.Failed → ⊥
never_failed (Ok x) e is of = absurd is
never_failed (Err x) (text.TextFull n) is of = absurd (cc)
never_failed (Err x) (text.LineTooLong n) is of = absurd (cc)
never_failed (Err x) text.NoMemory is of = absurd (cc)

-- such an error was the same before
pub handed_back : {T U : Type 0} (r : Result T OpenErr) (e f : OpenErr) → IsErrAnd r (λ x. x ≡ e) → IsErrOf r f → IsErrOf {T = U} (Err e) f
handed_back (Ok x) e f is of = absurd is
handed_back (Err x) e f is of = let one : x ≡ f = cc in ap (λ (e : OpenErr). Err e) (sym is ∙ one)

-- what is said of an error is said where it is handed on
pub if_err : {T : Type 0} (P : OpenErr → Type 0) (r : Result T OpenErr) (e : OpenErr) → IsErrAnd r (λ x. x ≡ e) → P e → IfErr r P
if_err P (Ok x) e is holds = tt
if_err P (Err x) e is holds = subst P (sym is) holds

-- want of memory is no failed call
pub not_failed : {T : Type 0} (r : Result T OpenErr) → IsErrAnd r (λ x. x ≡ opening.NoMemory) → IsErrOf r opening.Failed → ⊥
not_failed (Ok x) is of = absurd is
not_failed (Err x) is of = absurd (cc)

pub err_is : {T : Type 0} {e f : OpenErr} → IsErrOf {T = T} (Err e) f → e ≡ f
err_is is = cc

pub ReadsFolder-trans : (a b c : Scene) → ReadsFolder a b → ReadsFolder b c → ReadsFolder a c
ReadsFolder-trans a b c first second = second ∙ ap (λ (s : Scene). record s { folder_faults = c.folder_faults; trace = c.trace }) first

-- the limits of a text are no swap file
pub never_swap : {T : Type 0} (r : Result T OpenErr) (e : TextErr) → IsErrAnd r (λ x. x ≡ open_error e) → IsErrOf r opening.SwapFound → ⊥
never_swap (Ok x) e is of = absurd is
never_swap (Err x) (text.TextFull n) is of = absurd (cc)
never_swap (Err x) (text.LineTooLong n) is of = absurd (cc)
never_swap (Err x) text.NoMemory is of = absurd (cc)

-- a failed call passed no limit
pub failed_no_limit : (size : ℕ) → opening.Failed ≡ opening.TextLimit size → ⊥
failed_no_limit size is = cc

-- a value is no error
pub ok_never : {T : Type 0} {x : T} {e : OpenErr} → IsErrOf {T = T} (Ok x) e → ⊥
ok_never is = cc

-- a failed call found no swap file
pub failed_no_swap : opening.Failed ≡ opening.SwapFound → ⊥
failed_no_swap is = cc

-- want of memory is no swap file
pub never_swapped : {T : Type 0} (r : Result T OpenErr) → IsErrAnd r (λ x. x ≡ opening.NoMemory) → IsErrOf r opening.SwapFound → ⊥
never_swapped (Ok x) is of = absurd is
never_swapped (Err x) is of = absurd (cc)

-- an error that is another
pub never_other : {T : Type 0} (r : Result T OpenErr) (e f : OpenErr) → IsErrAnd r (λ x. x ≡ e) → (e ≡ f → ⊥) → IsErrOf r f → ⊥
never_other (Ok x) e f is differ of = absurd is
never_other (Err x) e f is differ of = differ (sym is ∙ err_is of)

-- a text that is within the limits passes none
pub never_over : (file : Option (List ℕ)) (X : Type 0) → IfSome file (λ bytes. IsWithinLimits ((document_of bytes).text)) → IfSome file (λ bytes. ¬ IsWithinLimits ((document_of bytes).text) → X)
never_over None X is = tt
never_over (Some bytes) X is = λ over. absurd (over is)

-- a name is short
pub allowed_short : (name : List ℕ) → IsTrue (is_allowed name) → length name ≤ 200
allowed_short name is = elim (cases_Bool (nat_le (length name) 200)) [
  | inl short ↦ grind (arith, nat_tests)
  | inr long ↦ absurd (true≢false (sym is ∙ ap (λ (b : Bool). (nat_le 1 (length name) && b) && (list_all is_name_byte name && not (is_reserved name))) long ∙ none (nat_le 1 (length name)) (list_all is_name_byte name && not (is_reserved name))))
]
  where
    none : (a c : Bool) → ((a && false) && c) ≡ false
    none true c = refl
    none false c = refl
