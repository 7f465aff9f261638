-- What `decode` answers, by the format.
use Rattle.std.proofs.Common.{◌≡◌, ℕ, List, ◌++◌, Option, Some, None, Result, Ok, Err, refl, sym, ap, subst, ◌∙◌, inl, inr}
use Rattle.std.specs.Prelude.{IfOk, MatchResult}
use Rattle.vs_ufile.specs.declared.error.UfErr.{UfErr}
use Rattle.vs_ufile.specs.declared.fault.Fault.{Fault}
use Rattle.vs_ufile.specs.declared.history.FileHistory.{FileHistory}
use Rattle.vs_ufile.specs.Decode.{Answers, KeepsRules, KnowsLinks, IsRefused, IsUndoFile, first_unknown, history, no_memory, with_links}
use Rattle.vs_ufile.specs.Format.{HasForm}
use Rattle.vs_ufile.specs.Reading.{File, file}
use Rattle.vs_ufile.specs.Tree.{Fails}
use Rattle.vs_ufile.specs.Values.{History, history_of}
use Rattle.vs_ufile.proofs.Laws.{ok_is}
use Rattle.vs_ufile.proofs.File.{is_read, read_is}
use Rattle.vs_ufile.proofs.Known.{all_known}
use Rattle.vs_ufile.proofs.Rules.{rules_of}

one_form : (bytes : List ℕ) (f g : File) → HasForm f bytes → HasForm g bytes → f ≡ g
one_form bytes f g a b = ap (λ (x : File × List ℕ). x.0) (ok_is (f, a.rest) (g, b.rest) (sym (is_read bytes f a) ∙ is_read bytes g b))

pub one_reading : (bytes : List ℕ) (g h : History) → IsUndoFile g bytes → IsUndoFile h bytes → g ≡ h
one_reading bytes g h a b = sym a.is ∙ ap history (one_form bytes a.file b.file a.form b.form) ∙ b.is

-- ---- a file that is read with its links

linked_by : (o : Option Fault) (f g : File) → (elim o as (λ _. Result File Fault) [ None ↦ Ok f | Some fault ↦ Err fault ]) ≡ Ok g → (f ≡ g) × (o ≡ None)
linked_by None f g e = (ok_is f g e, refl)
linked_by (Some fault) f g e = absurd cc

record Linked (q : Result (File × List ℕ) Fault) (g : File) : Type 0 where
  rest : List ℕ
  read : q ≡ Ok (g, rest)
  known : first_unknown g ≡ None

linked : (q : Result (File × List ℕ) Fault) (g : File) → with_links q ≡ Ok g → Linked q g
linked (Ok x) g e =
    let l = linked_by (first_unknown x.0) x.0 g e in
    record { rest = x.1; read = ap (λ (f : File). Ok (f, x.1)) l.0; known = subst (λ (f : File). first_unknown f ≡ None) l.0 l.1 }
linked (Err fault) g e = absurd cc

pub linked_form : (bytes : List ℕ) (f : File) → with_links (file bytes) ≡ Ok f → HasForm f bytes × (first_unknown f ≡ None)
linked_form bytes f e = let l = linked (file bytes) f e in (read_is bytes f l.rest l.read, l.known)

pub is_found : (bytes : List ℕ) (r : Result FileHistory UfErr) → Answers bytes r → IfOk r (λ h. IsUndoFile (history_of h) bytes)
is_found bytes (Ok h) a =
    let l = linked_form bytes a.0 a.1.0 in
    record { file = a.0; form = l.0; is = sym a.2; rules = subst KeepsRules (sym a.2) (rules_of a.0 bytes l.0 l.1 a.1.1) }
is_found bytes (Err e) a = tt

-- ---- a file that is refused

pub not_both : (q : Result File Fault) (f : File) (fault : Fault) → q ≡ Ok f → q ≡ Err fault → ⊥
not_both q f fault a b = cc

pub read_linked : (bytes : List ℕ) (f : File) → HasForm f bytes → first_unknown f ≡ None → with_links (file bytes) ≡ Ok f
read_linked bytes f is known = ap with_links (is_read bytes f is) ∙ ap (λ (o : Option Fault). elim o as (λ _. Result File Fault) [ None ↦ Ok f | Some fault ↦ Err fault ]) known

links_read : (bytes : List ℕ) (h : History) (is : IsUndoFile h bytes) → with_links (file bytes) ≡ Ok is.file
links_read bytes h is = read_linked bytes is.file is.form (all_known is.file (subst (λ (g : History). KnowsLinks g) (sym is.is) is.rules.links))

never_refused : (bytes : List ℕ) (h : History) (fault : Fault) → IsUndoFile h bytes → ¬ IsRefused bytes fault
never_refused bytes h fault is (inl e) = not_both (with_links (file bytes)) is.file fault (links_read bytes h is) e
never_refused bytes h fault is (inr w) =
    let l = linked_form bytes w.0 w.1 in
    let same : history w.0 ≡ h = ap history (one_form bytes w.0 is.file l.0 is.form) ∙ is.is in
    let p = w.2 in
    is.rules.tree p.0.change.number (subst (λ (g : History). Fails g.changes p.0.change.number) same p.2.fails)

only_memory : (bytes : List ℕ) (e : UfErr) (h : History) → IsUndoFile h bytes → Answers bytes (Err e) → e ≡ no_memory
only_memory bytes e h is (inl none) = none
only_memory bytes e h is (inr refused) = absurd (never_refused bytes h refused.0 is refused.1)

pub is_only : (bytes : List ℕ) (r : Result FileHistory UfErr) → Answers bytes r → (h : History) → IsUndoFile h bytes → MatchResult r (λ again. history_of again ≡ h) (λ e. e ≡ no_memory)
is_only bytes (Ok g) a h is =
    let l = linked_form bytes a.0 a.1.0 in
    a.2 ∙ ap history (one_form bytes a.0 is.file l.0 is.form) ∙ is.is
is_only bytes (Err e) a h is = only_memory bytes e h is a

-- what is written is read again, whatever follows it
pub round : (r : Result FileHistory UfErr) (written more bytes : List ℕ) (h : History)
    → ((rest : List ℕ) → IsUndoFile h (written ++ rest)) → bytes ≡ written ++ more
    → ((g : History) → IsUndoFile g bytes → MatchResult r (λ a. history_of a ≡ g) (λ e. e ≡ no_memory))
    → MatchResult r (λ a. history_of a ≡ h) (λ e. e ≡ no_memory)
round r written more bytes h is_written same only = only h (subst (λ (x : List ℕ). IsUndoFile h x) (sym same) (is_written more))
