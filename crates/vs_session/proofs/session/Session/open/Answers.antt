use Rattle.std.proofs.Common.{◌≡◌, ◌≤◌, ◌∙◌, ℕ, IsTrue, List, Option, min, length, refl, sym, ap, subst, arith}
use Rattle.vs_host.specs.Disk.{Disk}
use Rattle.vs_host.specs.Names.{AreNames, is_allowed, names_of_file}
use Rattle.vs_host.specs.World.{Scene}
use Rattle.vs_disk.proofs.Quiet.{none_then}
use Rattle.vs_pair.specs.Acts.{Acts}
use Rattle.vs_pair.specs.Steps.{BothMoved, IsFresh}
use Rattle.vs_text.specs.Documents.{Document}
use Rattle.vs_host.specs.World.{content_of}
use Rattle.vs_options.specs.Options.{first_options}
use Rattle.vs_session.specs.Opened.{document_of_file, format_in, text_in}
use Rattle.vs_safety.specs.Texts.{Text}
use Rattle.vs_safety.specs.Turns as turns
use Rattle.vs_paged.specs.Fits as folder
use Rattle.vs_session.proofs.Cleared.{cleared_same, cleared_started, cleared_then}
use Rattle.vs_session.proofs.OpenLemmas.{handed_back, never_over, allowed_short}
use Rattle.vs_session.proofs.LookLemmas.{looks_none, is_fresh, opens_looks, opens_then}
use Rattle.vs_session.proofs.session.Session.open.Goals as goal

-- the document of a file, by its text and its format
document_is : (file : Option (List ℕ)) (document : Document) → document.text ≡ text_in file → document.format ≡ format_in file → document ≡ document_of_file file
document_is file document text format = λ i. record { text = text i; format = format i }

pub returns-in_err-kept-clause-acts : goal.returns-in_err-kept-clause-acts
returns-in_err-kept-clause-acts g c =
    let old = g.H.World.scene c.args.host.now in opens_looks g.H.World.tells c.args.name.now old old c.requires.settled (looks_none g.H.World.tells old)

pub returns-in_err-kept-clause-looks : goal.returns-in_err-kept-clause-looks
returns-in_err-kept-clause-looks g c = λ err other. looks_none g.H.World.tells (g.H.World.scene c.args.host.now)

pub returns-in_err-kept-clause-barred_looks : goal.returns-in_err-kept-clause-barred_looks
returns-in_err-kept-clause-barred_looks g c = λ told has. looks_none g.H.World.tells (g.H.World.scene c.args.host.now)

pub returns-in_err-history-clause-acts : goal.returns-in_err-history-clause-acts
returns-in_err-history-clause-acts g c =
    let old = g.H.World.scene c.args.host.now in opens_looks g.H.World.tells c.args.name.now old old c.requires.settled (looks_none g.H.World.tells old)

pub returns-in_err-history-clause-looks : goal.returns-in_err-history-clause-looks
returns-in_err-history-clause-looks g c = λ err other. looks_none g.H.World.tells (g.H.World.scene c.args.host.now)

pub returns-in_err-history-clause-barred_looks : goal.returns-in_err-history-clause-barred_looks
returns-in_err-history-clause-barred_looks g c = λ told has. looks_none g.H.World.tells (g.H.World.scene c.args.host.now)

pub returns-in_err-opening-clause-acts : goal.returns-in_err-opening-clause-acts
returns-in_err-opening-clause-acts g c =
    opens_looks g.H.World.tells c.args.name.now (g.H.World.scene c.args.host.now) (g.H.World.scene c.read_text.new.host) c.requires.settled c.in_err-opening.ensures.reading.look.looks

pub returns-in_err-opening-clause-limit : goal.returns-in_err-opening-clause-limit
returns-in_err-opening-clause-limit g c = λ size of. c.in_err-opening.ensures.limits.limit size (handed_back _ _ _ c.from_residual-in_err-opening.ensures.1 of)

pub start-requires : goal.start-requires
start-requires g c = record {
  fresh = λ told.
      let old = g.H.World.scene c.args.host.now in
      let mid = g.H.World.scene c.read_text.new.host in
      let free = is_fresh (names_of_file c.args.name.now) old.folder (c.requires.settled told) (c.in_ok-opening.ensures.free told) in
      let same = subst (λ (d : Disk). IsFresh (names_of_file c.args.name.now) d) (sym (ap (λ (s : Scene). s.folder) c.in_ok-opening.ensures.reading.look.frame)) free in
      subst (λ (n : List ℕ). IsFresh (names_of_file n) mid.folder) (sym c.in_ok-opening.ensures.name) same;
}

pub returns-in_err-text-clause-acts : goal.returns-in_err-text-clause-acts
returns-in_err-text-clause-acts g c =
    let old = g.H.World.scene c.args.host.now in
    let mid = g.H.World.scene c.read_text.new.host in
    let new = g.H.World.scene c.start.new.host in
    let document : Document = record { text = c.in_ok-opening.opening.text; format = c.found_format-format.result } in
    opens_then g.H.World.tells c.args.name.now document old mid new c.requires.settled
    (λ told. document_is (content_of old c.args.name.now) document (c.in_ok-opening.ensures.text told) (c.found_format-format.ensures (content_of old c.args.name.now) (c.in_ok-opening.ensures.found told)))
    c.in_ok-opening.ensures.reading.look.none c.in_ok-opening.ensures.reading.look.looks
    (subst (λ (n : List ℕ). Acts g.H.World.tells (folder.Starting (names_of_file n) document) mid new) c.in_ok-opening.ensures.name c.in_err-text.ensures.acts)

pub returns-clause-acts : goal.returns-clause-acts
returns-clause-acts g c =
    let old = g.H.World.scene c.args.host.now in
    let mid = g.H.World.scene c.read_text.new.host in
    let new = g.H.World.scene c.start.new.host in
    let document : Document = record { text = c.in_ok-opening.opening.text; format = c.found_format-format.result } in
    opens_then g.H.World.tells c.args.name.now document old mid new c.requires.settled
    (λ told. document_is (content_of old c.args.name.now) document (c.in_ok-opening.ensures.text told) (c.found_format-format.ensures (content_of old c.args.name.now) (c.in_ok-opening.ensures.found told)))
    c.in_ok-opening.ensures.reading.look.none c.in_ok-opening.ensures.reading.look.looks
    (subst (λ (n : List ℕ). Acts g.H.World.tells (folder.Starting (names_of_file n) document) mid new) c.in_ok-opening.ensures.name c.in_ok-text.ensures.acts)

pub returns-clause-barred_looks : goal.returns-clause-barred_looks
returns-clause-barred_looks g c = λ told has. absurd (c.in_ok-opening.ensures.free told has)

pub returns-clause-undo : goal.returns-clause-undo
returns-clause-undo g c = c.in_ok-history.ensures.counts _

pub returns-clause-fits : goal.returns-clause-fits
returns-clause-fits g c = λ told.
    let old = g.H.World.scene c.args.host.now in
    let new = g.H.World.scene c.start.new.host in
    let document : Document = record { text = c.in_ok-opening.opening.text; format = c.found_format-format.result } in
    let is = c.in_ok-opening.ensures.text told in
    let format_is = c.found_format-format.ensures (content_of old c.args.name.now) (c.in_ok-opening.ensures.found told) in
    record {
      stands = record {
        text = subst (λ (x : Document). folder.Fits c.in_ok-text.text new.folder x.text (turns.opened x)) (document_is (content_of old c.args.name.now) document is format_is) (c.in_ok-text.ensures.fits told);
        history = c.in_ok-history.ensures.history _;
      };
      name = c.in_ok-kept.ensures.ok;
      cursor = c.min-cursor.ensures ∙ ap (λ (n : ℕ). min n 1) (c.len.ensures ∙ c.in_ok-text.ensures.lines ∙ ap (λ (t : Text). length t) is) ∙ omega arith;
      saved = refl;
      saved_format = format_is;
      steps = refl;
      options = c.first_options.ensures ∙ ap first_options format_is;
      acknowledged = refl;
    }

pub returns-clause-over : goal.returns-clause-over
returns-clause-over g c = λ told. never_over _ _ (c.in_ok-opening.ensures.limits.within told)

pub invariant_of-result-clause-named : goal.invariant_of-result-clause-named
invariant_of-result-clause-named g c = c.in_ok-text.ensures.names ∙ ap names_of_file (c.in_ok-opening.ensures.name ∙ sym c.in_ok-kept.ensures.ok)

pub invariant_of-result-clause-short : goal.invariant_of-result-clause-short
invariant_of-result-clause-short g c = subst (λ (n : List ℕ). length n ≤ 200) (sym c.in_ok-kept.ensures.ok) (allowed_short c.args.name.now c.requires.name)

pub returns-clause-moved : goal.returns-clause-moved
returns-clause-moved g c = λ told. subst (λ (n : List ℕ). BothMoved (names_of_file n) (g.H.World.scene c.start.new.host).folder) c.in_ok-opening.ensures.name (c.in_ok-text.ensures.moved told)

pub returns-clause-cleared : goal.returns-clause-cleared
returns-clause-cleared g c = λ told.
    let old = g.H.World.scene c.args.host.now in
    let mid = g.H.World.scene c.read_text.new.host in
    let new = g.H.World.scene c.start.new.host in
    let names = names_of_file c.in_ok-opening.opening.name in
    let are : AreNames names = record { allowed = subst (λ (n : List ℕ). IsTrue (is_allowed n)) (sym c.in_ok-opening.ensures.name) c.requires.name; others = refl } in
    cleared_then old.folder mid.folder new.folder (cleared_same old.folder mid.folder (ap (λ (s : Scene). s.folder) c.in_ok-opening.ensures.reading.look.frame))
    (cleared_started names are mid.folder new.folder (c.in_ok-text.ensures.acts.runs told).now.spared (c.in_ok-text.ensures.moved told))

pub returns-clause-none : goal.returns-clause-none
returns-clause-none g c =
    none_then g.H.World.tells (g.H.World.scene c.args.host.now) (g.H.World.scene c.read_text.new.host) (g.H.World.scene c.start.new.host)
    c.in_ok-opening.ensures.reading.look.none c.in_ok-text.ensures.none

pub returns-in_err-text-clause-over : goal.returns-in_err-text-clause-over
returns-in_err-text-clause-over g c = λ told. never_over _ _ (c.in_ok-opening.ensures.limits.within told)

pub returns-in_err-kept-clause-modes : goal.returns-in_err-kept-clause-modes
returns-in_err-kept-clause-modes g c = (returns-in_err-kept-clause-acts g c).modes

pub returns-in_err-history-clause-modes : goal.returns-in_err-history-clause-modes
returns-in_err-history-clause-modes g c = (returns-in_err-history-clause-acts g c).modes

pub returns-in_err-opening-clause-modes : goal.returns-in_err-opening-clause-modes
returns-in_err-opening-clause-modes g c = (returns-in_err-opening-clause-acts g c).modes

pub returns-in_err-text-clause-modes : goal.returns-in_err-text-clause-modes
returns-in_err-text-clause-modes g c = (returns-in_err-text-clause-acts g c).modes

pub returns-clause-modes : goal.returns-clause-modes
returns-clause-modes g c = (returns-clause-acts g c).modes
