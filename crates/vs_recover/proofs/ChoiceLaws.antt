-- What two swap files give.
use Rattle.std.proofs.Common.{◌≡◌, ℕ, ◌<◌, ◌≤◌, List, take, Option, Some, None, Result, Ok, Err, Bool, true, false, is_some, sym, refl, ap, subst, ◌∙◌, inl, inr, arith}
use Rattle.std.specs.Prelude.{IsSomeAnd, if◌then◌else◌, length, nat_eq, nat_lt}
use Rattle.std.proofs.lemmas.Bool.Decides.{nat_tests}
use Rattle.vs_text.specs.Documents.{Document}
use Rattle.vs_zero.specs.declared.Zero.{Zero}
use Rattle.vs_zero.specs.declared.ZeroErr.{ZeroErr}
use Rattle.vs_recover.specs.declared.roots.Root.TheVariants as root
use Rattle.vs_zero.specs.Layout.{number_in, page_size_field}
use Rattle.vs_zero.specs.Zero.{fields_of, is_page_size, reading_of}
use Rattle.vs_zero.proofs.ReadingLaws.{Reads, reads}
use Rattle.vs_recover.specs.declared.image.Opening.{Opening}
use Rattle.vs_recover.specs.declared.roots.Roots.{Roots}
use Rattle.vs_recover.specs.declared.choices.Found.TheVariants as found
use Rattle.vs_recover.specs.Files.{IsFile}
use Rattle.vs_recover.specs.declared.roots.Root.{Root}
use Rattle.vs_recover.specs.declared.error.Fault.{Fault}
use Rattle.vs_recover.specs.declared.error.Fault.TheVariants as fault
use Rattle.vs_recover.specs.declared.error.RecErr.TheVariants as error
use Rattle.vs_recover.specs.Faults.{error_of, IsFault}
use Rattle.vs_recover.specs.declared.error.RecErr.{RecErr}
use Rattle.vs_zero.specs.declared.ZeroErr.TheVariants as refusal
use Rattle.vs_recover.specs.declared.image.Image.TheVariants.{Standing, Open, Closed, Encrypted, NoSwapFile}
use Rattle.vs_host.specs.World.{Tells, Scene, content_of}
use Rattle.std.specs.Prelude.{IsTrue}
use Rattle.vs_recover.specs.Images.{StandsNot}
use Rattle.std.specs.Prelude.{codes, ◌++◌, ◌∷◌, []}
use Rattle.vs_recover.specs.declared.image.Image.{Image}
use Rattle.vs_recover.specs.Images.{IsImage, refused_image}
use Rattle.vs_recover.specs.Infos.{IsInfo, image_words}
use Rattle.vs_recover.specs.Choices.{Recovers, NoneStands, StandsNowhere, StandsInTurn, IsFound, IsGeneration, IsOpening, IsSized, IsStanding, IsRefusal, generation_at, generation_of, generation_said, is_newer, root_chosen, root_in, root_reads, root_of, text_of}
use Rattle.vs_recover.specs.Reading.{IsThere}

page_sized : (n m : ℕ) → n ≡ m → is_page_size n ≡ true → (1048 ≤ m) × (m ≤ 50000)
page_sized n m is sized = (grind (arith, nat_tests, is, sized), grind (arith, nat_tests, is, sized))

pub sized_reading : (page : List ℕ) (found : Result Zero ZeroErr) → found ≡ reading_of page → IsSized found
unfolding fields_of
sized_reading page (Ok zero) is =
    let read : Reads page zero = reads page zero (sym is) in
    page_sized (number_in page_size_field page) zero.page_size (ap (λ (z : Zero). z.page_size) read.fields) read.sized
sized_reading page (Err why) is = tt

-- a file whose page 0 does not read does not stand
pub refused_not : (file : List ℕ) (why : ZeroErr) → reading_of (take 4096 file) ≡ Err why → StandsNot file
refused_not file why is = λ g t s. let e : Ok s.head.zero ≡ Err why = sym s.head.reads ∙ is in absurd (cc)

-- a file that stands has the generation that its page 0 says
pub says_generation : (o : Option (List ℕ)) (found : Option Opening) → IsOpening o found → IsGeneration o (generation_of found)
says_generation None found opening g t s = absurd s
says_generation (Some file) None opening g t s = absurd opening
says_generation (Some file) (Some found) opening g t s =
    let size : nat_eq s.head.zero.page_size 4096 ≡ true = ap (λ n. nat_eq n 4096) s.head.size in
    ap generation_at (opening.1 ∙ s.head.reads) ∙ (ap (λ (b : Bool). if b then generation_said s.head.zero.pair else None) size ∙ ap generation_said s.head.paired)

newer_lt : (a b : Option ℕ) (g h : ℕ) → a ≡ Some g → b ≡ Some h → is_newer a b ≡ true → g < h
newer_lt a b g h first second newer = let e : nat_lt g h ≡ true = ap (λ o. is_newer o (Some h)) (sym first) ∙ (ap (λ o. is_newer a o) (sym second) ∙ newer) in grind (arith, nat_tests, e)

newer_le : (a b : Option ℕ) (g h : ℕ) → a ≡ Some g → b ≡ Some h → is_newer a b ≡ false → h ≤ g
newer_le a b g h first second not = let e : nat_lt g h ≡ false = ap (λ o. is_newer o (Some h)) (sym first) ∙ (ap (λ o. is_newer a o) (sym second) ∙ not) in grind (arith, nat_tests, e)

-- the text of the second file was read first, whose generation is greater
pub second_recovers : (swp swo : Option (List ℕ)) (a b : Option ℕ) (text : Option Document) → IsGeneration swp a → IsGeneration swo b → is_newer a b ≡ true → StandsInTurn swo swp text → Recovers swp swo text
second_recovers swp swo a b None says tells newer none = (none.1, none.0)
second_recovers swp swo a b (Some text) says tells newer (inl is) = inr (record { generation = is.0; stands = is.1; older = λ h others s. newer_lt a b h is.0 (says h others s) (tells is.0 text is.1) newer })
second_recovers swp swo a b (Some text) says tells newer (inr is) = inl (record { generation = is.1.0; stands = is.1.1; no_newer = λ h others s. absurd (is.0 h others s) })

-- the text of the first file was read first, whose generation is no lesser one
pub first_recovers : (swp swo : Option (List ℕ)) (a b : Option ℕ) (text : Option Document) → IsGeneration swp a → IsGeneration swo b → is_newer a b ≡ false → StandsInTurn swp swo text → Recovers swp swo text
first_recovers swp swo a b None says tells not none = none
first_recovers swp swo a b (Some text) says tells not (inl is) = inl (record { generation = is.0; stands = is.1; no_newer = λ h others s. newer_le a b is.0 h (says is.0 text is.1) (tells h others s) not })
first_recovers swp swo a b (Some text) says tells not (inr is) = inr (record { generation = is.1.0; stands = is.1.1; older = λ h others s. absurd (is.0 h others s) })

pub in_turn_first : (first second : Option (List ℕ)) (found : Option Document) (text : Document) → found ≡ Some text → IsStanding first found → StandsInTurn first second (Some text)
in_turn_first first second found text some is = inl (subst (λ f. IsStanding first f) some is)

pub in_turn_second : (first second : Option (List ℕ)) (absent found : Option Document) → absent ≡ None → IsStanding first absent → IsStanding second found → StandsInTurn first second found
in_turn_second first second absent None none nowhere is = (subst (λ f. IsStanding first f) none nowhere, is)
in_turn_second first second absent (Some text) none nowhere is = inr (subst (λ f. IsStanding first f) none nowhere, is)

pub newer_of : (a b c d : Option ℕ) {truth : Bool} → a ≡ c → b ≡ d → is_newer a b ≡ truth → is_newer c d ≡ truth
newer_of a b c d first second is = ap (λ o. is_newer o d) (sym first) ∙ (ap (λ o. is_newer a o) (sym second) ∙ is)

-- ---- a file whose page 0 was read

pub opening_absent : (o : Option (List ℕ)) → is_some o ≡ false → IsOpening o None
opening_absent None not = tt
opening_absent (Some file) not = absurd (cc)

pub opening_found : (o : Option (List ℕ)) (opening : Opening) → is_some o ≡ true → IsSomeAnd o (λ file. opening.len ≡ length file) → ((file : List ℕ) → o ≡ Some file → opening.zero ≡ reading_of (take 4096 file)) → IsOpening o (Some opening)
opening_found None opening there len reads = absurd (cc)
opening_found (Some file) opening there len reads = (len, reads file refl)

len_of : (o : Option (List ℕ)) (opening : Opening) → IsOpening o (Some opening) → IsSomeAnd o (λ file. opening.len ≡ length file)
len_of None opening is = absurd is
len_of (Some file) opening is = is.0

zero_of : (o : Option (List ℕ)) (opening : Opening) (file : List ℕ) → IsOpening o (Some opening) → o ≡ Some file → opening.zero ≡ reading_of (take 4096 file)
zero_of None opening file is there = absurd is
zero_of (Some bytes) opening file is there = let e : bytes ≡ file = cc in is.1 ∙ ap (λ bs. reading_of (take 4096 bs)) e

pub opening_len : (tells : Tells) (scene : Scene) (name : List ℕ) (found : Option Opening) (opening : Opening) → found ≡ Some opening → (IsTrue tells.folder → IsOpening (content_of scene name) found) → IsThere tells scene name (λ file. opening.len ≡ length file)
opening_len tells scene name found opening some is told = len_of (content_of scene name) opening (subst (λ (f : Option Opening). IsOpening (content_of scene name) f) some (is told))

pub opening_zero : (tells : Tells) (scene : Scene) (name : List ℕ) (found : Option Opening) (opening : Opening) → found ≡ Some opening → (IsTrue tells.folder → IsOpening (content_of scene name) found)
    → (file : List ℕ) → IsFile tells scene name file → opening.zero ≡ reading_of (take 4096 file)
opening_zero tells scene name found opening some is file there = zero_of (content_of scene name) opening file (subst (λ (f : Option Opening). IsOpening (content_of scene name) f) some (is there.told)) there.there

pub stands_absent : (o : Option (List ℕ)) (found : Option Opening) → found ≡ None → IsOpening o found → StandsNowhere o
stands_absent None found none is = λ g t s. s
stands_absent (Some file) found none is = absurd (subst (λ (f : Option Opening). IsOpening (Some file) f) none is)

pub found_file : (tells : Tells) (scene : Scene) (name file : List ℕ) → IsTrue tells.folder → content_of scene name ≡ Some file → IsFile tells scene name file
found_file tells scene name file told there = record { told = told; there = there }

pub root_absent : (o : Option (List ℕ)) (found : Option Opening) → found ≡ None → IsOpening o found → root.Absent ≡ root_of o
root_absent None found none is = refl
root_absent (Some file) found none is = absurd (subst (λ (f : Option Opening). IsOpening (Some file) f) none is)

pub root_some : (o : Option (List ℕ)) (r : Root) (found : Option Opening) (opening : Opening) → found ≡ Some opening → IsOpening o found → ((file : List ℕ) → o ≡ Some file → r ≡ root_in file (reading_of (take 4096 file))) → r ≡ root_of o
root_some None r found opening some opened is = absurd (subst (λ (f : Option Opening). IsOpening None f) some opened)
root_some (Some file) r found opening some opened is = is file refl

-- a fault is a refusal of any two files
pub fault_refuses : (swp swo : Option (List ℕ)) (f : Fault) (e : RecErr) → e ≡ error_of f → IsRefusal swp swo e
fault_refuses swp swo fault.Failed e is = subst (λ x. IsRefusal swp swo x) (sym is) tt
fault_refuses swp swo fault.NoMemory e is = subst (λ x. IsRefusal swp swo x) (sym is) tt

pub fault_is : (f : Fault) (e : RecErr) → e ≡ error_of f → IsFault e
fault_is fault.Failed e is = subst IsFault (sym is) tt
fault_is fault.NoMemory e is = subst IsFault (sym is) tt

-- a refusal that the roots of the files give
pub roots_refuse : (swp swo : Option (List ℕ)) (why : RecErr) → NoneStands swp swo → root_chosen (root_of swp) (root_of swo) ≡ Err why → IsRefusal swp swo why
roots_refuse swp swo error.NoSwap none is = (none, is)
roots_refuse swp swo error.Encrypted none is = (none, is)
roots_refuse swp swo error.NotSwap none is = (none, is)
roots_refuse swp swo error.NotTree none is = (none, is)
roots_refuse swp swo error.Failed none is = tt
roots_refuse swp swo error.NoMemory none is = tt

pub roots_are : (swp swo : Option (List ℕ)) (roots : Roots) → IsFound swp swo (found.Roots roots) → root_chosen (root_of swp) (root_of swo) ≡ root_chosen roots.swp roots.swo
roots_are swp swo roots is = ap (λ (r : Root). root_chosen r (root_of swo)) (sym is.1) ∙ ap (λ (r : Root). root_chosen roots.swp r) (sym is.2)

-- what a file is whose page 0 does not read
pub image_refused : (file : List ℕ) (why : ZeroErr) → reading_of (take 4096 file) ≡ Err why → IsImage file (refused_image why)
image_refused file refusal.Closed is = is
image_refused file refusal.Encrypted is = is
image_refused file refusal.Short is = (refusal.Short, is, λ e. cc, λ e. cc)
image_refused file refusal.BadMagic is = (refusal.BadMagic, is, λ e. cc, λ e. cc)
image_refused file (refusal.BadPageSize size) is = (refusal.BadPageSize size, is, λ e. cc, λ e. cc)

-- the text of the file of an image
image_texts : (file : List ℕ) (image : Image) → IsImage file image → IsStanding (Some file) (text_of image)
image_texts file (Standing g t) is = (g, is)
image_texts file (Open size) is = λ g t s. is.3 g t s
image_texts file Closed is = refused_not file refusal.Closed is
image_texts file Encrypted is = refused_not file refusal.Encrypted is
image_texts file NoSwapFile is = refused_not file is.0 is.1

pub text_found : (o : Option (List ℕ)) (image : Image) (found : Option Opening) (opening : Opening) → found ≡ Some opening → IsOpening o found → ((file : List ℕ) → o ≡ Some file → IsImage file image) → IsStanding o (text_of image)
text_found None image found opening some opened is = absurd (subst (λ (f : Option Opening). IsOpening None f) some opened)
text_found (Some file) image found opening some opened is = image_texts file image (is file refl)

pub text_refused : (o : Option (List ℕ)) (found : Option Opening) (opening : Opening) (why : ZeroErr) → found ≡ Some opening → opening.zero ≡ Err why → IsOpening o found → StandsNowhere o
text_refused None found opening why some refused opened = λ g t s. s
text_refused (Some file) found opening why some refused opened =
    let is = subst (λ (f : Option Opening). IsOpening (Some file) f) some opened in
    refused_not file why (sym is.1 ∙ refused)

pub root_tree : (file : List ℕ) (fields : Zero) (reads : Bool) → reading_of (take 4096 file) ≡ Ok fields → reads ≡ root_reads file fields.page_size → reads ≡ true → root.Tree ≡ root_in file (reading_of (take 4096 file))
root_tree file fields reads ok is value = sym (ap (λ (z : Result Zero ZeroErr). root_in file z) ok ∙ ap (λ (b : Bool). if b then root.Tree else root.NoTree) (sym is ∙ value))

pub root_no_tree : (file : List ℕ) (fields : Zero) (reads : Bool) → reading_of (take 4096 file) ≡ Ok fields → reads ≡ root_reads file fields.page_size → reads ≡ false → root.NoTree ≡ root_in file (reading_of (take 4096 file))
root_no_tree file fields reads ok is value = sym (ap (λ (z : Result Zero ZeroErr). root_in file z) ok ∙ ap (λ (b : Bool). if b then root.Tree else root.NoTree) (sym is ∙ value))

-- ---- info

pub info_absent : (o : Option (List ℕ)) (name bytes : List ℕ) → is_some o ≡ false → bytes ≡ [] → IsInfo o name bytes
info_absent None name bytes not none = none
info_absent (Some file) name bytes not none = absurd (cc)

pub info_some : (o : Option (List ℕ)) (name bytes : List ℕ) (image : Image) → is_some o ≡ true → ((file : List ℕ) → o ≡ Some file → IsImage file image) → bytes ≡ name ++ (codes ": " ++ (image_words image ++ 10 ∷ [])) → IsInfo o name bytes
info_some None name bytes image there is line = absurd (cc)
info_some (Some file) name bytes image there is line = (image, is file refl, line)
