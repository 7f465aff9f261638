-- What is handed on of a piece is read as a unix file is.
use Rattle.std.proofs.Common.{◌≡◌, ◌+◌, ◌≤◌, ◌<◌, ◌++◌, ◌∷◌, [], ℕ, Bool, true, false, List, length, get_or, nat_lt, IfErr, Result, Ok, Err, refl, sym, ap, subst, ◌∙◌, arith, inl, inr, append_assoc, append-nil, length-append}
use Rattle.std.proofs.lemmas.Bool.{eq-eqb, ne_eqb}
use Rattle.std.proofs.lemmas.Bool.Decides.{nat_tests}
use Rattle.vs_text.specs.Text.{IsLine, lines_of}
use Rattle.vs_text.specs.Limits.{IsRefusal}
use Rattle.vs_text.specs.Documents.{LosesReturn, plain_ends, plain_in}
use Rattle.vs_text.specs.declared.error.TextErr.{TextErr}
use Rattle.vs_text.specs.declared.format.Format.{Format}
use Rattle.vs_text.specs.declared.format.Format.TheVariants.{Dos, Unix}
use Rattle.vs_text.proofs.Formats.{IsLine-front, plain_ends-before, plain_ends-ended, plain_ends-other}
use Rattle.vs_pieces.specs.Files.{FileReading, HandsOn, HasReadFile, IsCertainIn, file_size_read, held_back}
use Rattle.vs_pieces.specs.Reader.{HasRead, IsAnswer, IsCertain, Reads}

-- a byte 13 that is held back goes before a line end
pub held-goes : (holds : Bool) (piece more : List ℕ) → 0 < length piece → get_or piece 0 0 ≡ 10
    → plain_ends (held_back holds ++ (piece ++ more)) ≡ plain_ends (piece ++ more)
held-goes false piece more some ten = refl
held-goes true [] more some ten = absurd (omega arith)
held-goes true (byte ∷ piece) more some ten = rw (eq-eqb byte 10 ten) refl

-- and stays before another byte
pub held-stays : (piece more : List ℕ) → 0 < length piece → (get_or piece 0 0 ≡ 10 → ⊥) → plain_ends (13 ∷ (piece ++ more)) ≡ 13 ∷ plain_ends (piece ++ more)
held-stays [] more some other = absurd (omega arith)
held-stays (byte ∷ piece) more some other = rw (ne_eqb byte 10 other) refl

-- a line that ends in a piece
pub one_more : (before into mid now rest line front after : List ℕ) (plain : List ℕ → List ℕ)
    → ((more : List ℕ) → before ++ plain more ≡ into ++ plain_ends (rest ++ more)) → rest ≡ line ++ 10 ∷ after → IsLine line → LosesReturn line front
    → mid ≡ into ++ front → now ≡ mid ++ 10 ∷ [] → (more : List ℕ) → before ++ plain more ≡ now ++ plain_ends (after ++ more)
one_more before into mid now rest line front after plain was is h loses put ended = λ more.
    let whole : plain_ends (rest ++ more) ≡ front ++ 10 ∷ plain_ends (after ++ more) =
    ap (λ (r : List ℕ). plain_ends (r ++ more)) is
    ∙ (ap plain_ends (append_assoc line (10 ∷ after) more) ∙ plain_ends-ended line front (after ++ more) h loses) in
    let grown : now ≡ (into ++ front) ++ 10 ∷ [] = ended ∙ ap (λ (m : List ℕ). m ++ 10 ∷ []) put in
    was more ∙ (ap (λ (xs : List ℕ). into ++ xs) whole ∙ sym (ap (λ (n : List ℕ). n ++ plain_ends (after ++ more)) grown
    ∙ (append_assoc (into ++ front) (10 ∷ []) (plain_ends (after ++ more)) ∙ append_assoc into front (10 ∷ plain_ends (after ++ more)))))

pub length-loses : (line front : List ℕ) → LosesReturn line front → length front ≤ length line
length-loses line front (inl is) = omega (arith, ap length is, length-append front (13 ∷ []))
length-loses line front (inr same) = omega (arith, ap length same.0)

-- the bytes after the last line end
pub held_after : (rest front : List ℕ) → IsLine rest → LosesReturn rest front
    → (more : List ℕ) → plain_ends (rest ++ more) ≡ front ++ plain_ends (held_back (nat_lt (length front) (length rest)) ++ more)
held_after rest front h (inl is) = λ more.
    let longer : nat_lt (length front) (length rest) ≡ true = grind (arith, nat_tests, ap length is, length-append front (13 ∷ [])) in
    rw longer (ap (λ (r : List ℕ). plain_ends (r ++ more)) is ∙ (ap plain_ends (append_assoc front (13 ∷ []) more)
    ∙ plain_ends-before front (13 ∷ more) (IsLine-front front (13 ∷ []) (subst IsLine is h)) refl))
held_after rest front h (inr same) = λ more.
    let as_long : nat_lt (length front) (length rest) ≡ false = grind (arith, nat_tests, ap length same.0) in
    rw as_long (plain_ends-other 10 rest more h same.1 ∙ ap (λ (r : List ℕ). r ++ plain_ends more) same.0)

pub held-size : (rest front : List ℕ) → LosesReturn rest front → length front + length (held_back (nat_lt (length front) (length rest))) ≤ length rest
held-size rest front (inl is) =
    let longer : nat_lt (length front) (length rest) ≡ true = grind (arith, nat_tests, ap length is, length-append front (13 ∷ [])) in
    rw longer (omega (arith, ap length is, length-append front (13 ∷ [])))
held-size rest front (inr same) =
    let as_long : nat_lt (length front) (length rest) ≡ false = grind (arith, nat_tests, ap length same.0) in
    rw as_long (omega (arith, ap length same.0))

sifted : (format : Format) (fed piece handed out : List ℕ) (before after : Bool)
    → ((more : List ℕ) → plain_in format (fed ++ more) ≡ handed ++ plain_in format (held_back before ++ more)) → HandsOn format before piece out after
    → (more : List ℕ) → plain_in format ((fed ++ piece) ++ more) ≡ (handed ++ out) ++ plain_in format (held_back after ++ more)
sifted format fed piece handed out before after whole hands = λ more.
    ap (plain_in format) (append_assoc fed piece more)
    ∙ (whole (piece ++ more) ∙ (ap (λ (xs : List ℕ). handed ++ xs) (hands more) ∙ sym (append_assoc handed out (plain_in format (held_back after ++ more)))))

-- a piece is read
pub HasReadFile-fed : (old new : FileReading) (piece out : List ℕ) → new.format ≡ old.format → HandsOn old.format old.holds piece out new.holds
    → Reads old.reading new.reading out → file_size_read new ≤ file_size_read old + length piece
    → (taken : List (List ℕ)) (fed : List ℕ) → HasReadFile old taken fed → HasReadFile new taken (fed ++ piece)
HasReadFile-fed old new piece out same hands reads size = λ taken fed h. record {
  handed = h.handed ++ out;
  reads = reads taken h.handed h.reads;
  whole = λ more. subst (λ (f : Format). plain_in f ((fed ++ piece) ++ more) ≡ (h.handed ++ out) ++ plain_in f (held_back new.holds ++ more)) (sym same)
      (sifted old.format fed piece h.handed out old.holds new.holds h.whole hands more);
  size = omega (arith, length-append fed piece, h.size);
}

-- a piece is refused
pub IsCertainIn-fed : (old : FileReading) (piece out : List ℕ) (after : Bool) (error : TextErr) → HandsOn old.format old.holds piece out after
    → ((taken : List (List ℕ)) (fed : List ℕ) → HasRead old.reading taken fed → IsCertain (fed ++ out) error)
    → (taken : List (List ℕ)) (fed : List ℕ) → HasReadFile old taken fed → IsCertainIn old.format (fed ++ piece) error
IsCertainIn-fed old piece out after error hands certain = λ taken fed h more.
    subst (λ (bytes : List ℕ). IsRefusal (lines_of bytes) error) (sym (sifted old.format fed piece h.handed out old.holds after h.whole hands more))
    (certain taken h.handed h.reads (plain_in old.format (held_back after ++ more)))

-- of a unix file all bytes are handed on
pub HandsOn-unix : (format : Format) (holds : Bool) (piece : List ℕ) → format ≡ Unix → holds ≡ false → HandsOn format holds piece piece holds
HandsOn-unix format holds piece is none = subst (λ (f : Format). HandsOn f holds piece piece holds) (sym is) (λ more. rw none refl)

-- of a dos file those that are added to none
pub HandsOn-dos : (format : Format) (before : Bool) (piece handed : List ℕ) (after : Bool) (none : List ℕ) → format ≡ Dos → none ≡ []
    → ((more : List ℕ) → none ++ plain_ends (held_back before ++ (piece ++ more)) ≡ handed ++ plain_ends (held_back after ++ more))
    → HandsOn format before piece handed after
HandsOn-dos format before piece handed after none is empty hands =
    subst (λ (f : Format). HandsOn f before piece handed after) (sym is)
    (λ more. sym (ap (λ (xs : List ℕ). xs ++ plain_ends (held_back before ++ (piece ++ more))) empty) ∙ hands more)

-- lines are handed over
pub HasReadFile-taken : (old new : FileReading) (lines : List (List ℕ)) → new.format ≡ old.format → new.holds ≡ old.holds
    → ((taken : List (List ℕ)) (fed : List ℕ) → HasRead old.reading taken fed → HasRead new.reading (taken ++ lines) fed)
    → file_size_read new ≤ file_size_read old
    → (taken : List (List ℕ)) (fed : List ℕ) → HasReadFile old taken fed → HasReadFile new (taken ++ lines) fed
HasReadFile-taken old new lines same held reads size = λ taken fed h. record {
  handed = h.handed;
  reads = reads taken h.handed h.reads;
  whole = λ more. rw (same, held) (h.whole more);
  size = omega (arith, h.size);
}

plain_in-held : (format : Format) (holds : Bool) → plain_in format (held_back holds ++ []) ≡ held_back holds
plain_in-held Unix true = refl
plain_in-held Unix false = refl
plain_in-held Dos true = refl
plain_in-held Dos false = refl

-- the whole is what was handed on and what is held back
pub all_handed : (file : FileReading) (taken : List (List ℕ)) (fed : List ℕ) (h : HasReadFile file taken fed) → plain_in file.format fed ≡ h.handed ++ held_back file.holds
all_handed file taken fed h =
    ap (plain_in file.format) (sym (append-nil fed)) ∙ (h.whole [] ∙ ap (λ (xs : List ℕ). h.handed ++ xs) (plain_in-held file.format file.holds))

-- the same for what a call answers
pub refused_in : {T : Type 0} (result : Result T TextErr) (old : FileReading) (piece out given : List ℕ) (after : Bool) → HandsOn old.format old.holds piece out after → given ≡ out
    → IfErr result (λ error. (taken : List (List ℕ)) (fed : List ℕ) → HasRead old.reading taken fed → IsCertain (fed ++ given) error)
    → IfErr result (λ error. (taken : List (List ℕ)) (fed : List ℕ) → HasReadFile old taken fed → IsCertainIn old.format (fed ++ piece) error)
refused_in (Ok x) old piece out given after hands same certain = tt
refused_in (Err error) old piece out given after hands same certain =
    IsCertainIn-fed old piece out after error hands (λ taken fed h. subst (λ (bytes : List ℕ). IsCertain (fed ++ bytes) error) same (certain taken fed h))

-- the answer for what was handed on and what is held back
pub IsAnswer-handed : (file : FileReading) (taken : List (List ℕ)) (fed : List ℕ) (answer : Result (List (List ℕ)) TextErr) (h : HasReadFile file taken fed) (held : List ℕ)
    → held_back file.holds ≡ held → IsAnswer taken (h.handed ++ held) answer → IsAnswer taken (plain_in file.format fed) answer
IsAnswer-handed file taken fed answer h held is so =
    subst (λ (bytes : List ℕ). IsAnswer taken bytes answer) (sym (all_handed file taken fed h ∙ ap (λ (xs : List ℕ). h.handed ++ xs) is)) so
