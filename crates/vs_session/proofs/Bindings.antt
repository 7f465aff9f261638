-- What is taken from an undo file with a text.
use Rattle.std.proofs.Common.{◌≡◌, ℕ, List, Option, Some, None, Result, Ok, Err, IfOk, refl, sym, ◌∙◌, ap, subst, length}
use Rattle.std.specs.Prelude.{IfErr, IsErrAnd, IsSomeAnd}
use Rattle.std.proofs.lemmas.List.{length-map}
use Rattle.vs_undo.specs.declared.parts.Parts.{Parts}
use Rattle.vs_undo.specs.History.{FitsText, History, IsHistory, links_of, without_entries}
use Rattle.vs_ufile.specs.Values as file
use Rattle.vs_ufile.specs.Values.{change_of, history_of}
use Rattle.vs_ufile.specs.declared.history.FileHistory.{FileHistory}
use Rattle.vs_ubind.specs.Binding.{IsOfText, IsRefused}
use Rattle.vs_ubind.specs.declared.binding.BindErr.TheVariants.{DigestDiffers, LinesDiffer}
use Rattle.vs_ubind.specs.Bound.{IsBound}
use Rattle.vs_safety.specs.Texts.{Text}
use Rattle.vs_session.specs.declared.taking.TakeErr.{TakeErr}
use Rattle.vs_session.specs.Taken.{IsTaken}

pub if_ok_two : {T E : Type 0} (result : Result T E) (P Q R : T → Type 0) → ((x : T) → P x → Q x → R x) → IfOk result P → IfOk result Q → IfOk result R
if_ok_two (Ok x) P Q R leads p q = leads x p q
if_ok_two (Err e) P Q R leads p q = tt

pub if_err_as : {T E : Type 0} (result : Result T E) (P Q : E → Type 0) → ((e : E) → P e → Q e) → IfErr result P → IfErr result Q
if_err_as (Ok x) P Q leads is = tt
if_err_as (Err e) P Q leads is = leads e is

-- a tree whose entries fit a text is a history of it
pub history_there : (undo : Parts) (text : Text) → FitsText undo text → (history : History) × IsHistory undo text history
history_there undo text fits = (record { links = links_of undo; texts = fits.texts }, record { links = refl; are_states = fits.are_states; current = sym fits.current })

-- data with another digest, or another number of lines, is of another text
pub other_digest : (contents : file.History) (text : Text) (file own : _) → IsRefused contents text (DigestDiffers file own) → IsOfText contents text → ⊥
other_digest contents text file own refused of = refused.2 (refused.0 ∙ of.digest ∙ sym refused.1)

pub other_lines : (contents : file.History) (text : Text) (file own : ℕ) → IsRefused contents text (LinesDiffer file own) → IsOfText contents text → ⊥
other_lines contents text file own refused of = refused.3 (refused.1 ∙ of.lines ∙ sym refused.2)

-- the history has as many changes as the data
pub changes_bound : (contents : FileHistory) (text : Text) (history : History) → IsBound (history_of contents) text history → length contents.changes.items ≡ length history.links.nodes
changes_bound contents text history bound =
    sym (length-map contents.changes.items change_of) ∙ sym bound.means.count ∙ sym (length-map bound.tree.nodes without_entries) ∙ ap (λ (p : Parts). length p.nodes) bound.is.links

-- ---- answers

-- an error that was handed on
pub handed : {T E : Type 0} (r : Result T E) (e : E) (P : E → Type 0) → IsErrAnd r (λ x. x ≡ e) → P e → IfErr r P
handed (Ok x) e P is holds = tt
handed (Err x) e P is holds = subst P (sym is) holds

-- what was read stands under the name
pub taken_at : (text : Text) (there found : Option (List ℕ)) (read : Result History TakeErr) → there ≡ found → IsTaken text found read → IsTaken text there read
taken_at text there found read same is = subst (λ (o : Option (List ℕ)). IsTaken text o read) (sym same) is

-- the bytes of a file that is there
pub some_bytes : (found : Option (List ℕ)) (P : List ℕ → Type 0) → IsSomeAnd found P → (bytes : List ℕ) × (found ≡ Some bytes) × P bytes
some_bytes None P is = absurd is
some_bytes (Some bytes) P is = (bytes, refl, is)
