use Rattle.std.proofs.Common.{◌∙◌, ℕ, List, Option, IfSome, ap, refl, subst}
use Rattle.vs_text.specs.Limits.{IsWithinLimits}
use Rattle.vs_text.specs.Documents.{document_of}
use Rattle.vs_session.specs.Open.{IsTooLarge}
use Rattle.vs_session.specs.Opened.{sizes_of, text_in}
use Rattle.vs_session.proofs.OpenLemmas.{err_is, failed_no_limit, handed_back, handed_on, not_failed, ok_never, same_content}
use Rattle.vs_session.proofs.LookLemmas.{IsLook-both, IsReading-calm, IsReading-first, IsReading-none, IsReading-refused, KeepsToLimits-other, KeepsToLimits-refused}
use Rattle.vs_session.proofs.opening.read_text.Goals as goal

pub returns-in_err-names-clause-reading : goal.returns-in_err-names-clause-reading
returns-in_err-names-clause-reading g c = IsReading-none g.H.World.tells _ (g.H.World.scene c.args.host.now) (not_failed _ c.from_residual.ensures.1)

pub returns-in_err-text-clause-reading : goal.returns-in_err-text-clause-reading
returns-in_err-text-clause-reading g c = IsReading-none g.H.World.tells _ (g.H.World.scene c.args.host.now) (not_failed _ c.from_residual-in_err-text.ensures.1)

pub returns-in_err-has_swap-clause-reading : goal.returns-in_err-has_swap-clause-reading
returns-in_err-has_swap-clause-reading g c = IsReading-first g.H.World.tells _ c.in_err-has_swap.ensures.look refl c.from_residual-in_err-has_swap.ensures.1

pub returns-in_err-found-clause-reading : goal.returns-in_err-found-clause-reading
returns-in_err-found-clause-reading g c =
    IsReading-refused g.H.World.tells _ _ c.in_ok-has_swap.ensures.look c.in_err-found.ensures.reads.reading c.from_residual-in_err-found.ensures.1 (handed_back _ _ _ c.from_residual-in_err-found.ensures.1)
    (λ of. handed_on _ _ _ c.from_residual-in_err-found.ensures.1 (err_is of))

pub returns-in_err-found-clause-limits : goal.returns-in_err-found-clause-limits
returns-in_err-found-clause-limits g c = KeepsToLimits-refused g.H.World.tells _ _ _ c.from_residual-in_err-found.ensures.1 (λ size of.
    let same = same_content (g.H.World.scene c.args.host.now) (g.H.World.scene c.has_swap.new.host) c.args.name.now c.in_ok-has_swap.ensures.look.frame in
    let P : Option (List ℕ) → Type 0 = λ file. IsTooLarge g.H.World.tells size file in
    subst P same (c.in_err-found.ensures.limits.limit size (handed_back _ _ _ c.from_residual-in_err-found.ensures.1 of)))

pub returns-in_err-has_swap-clause-limits : goal.returns-in_err-has_swap-clause-limits
returns-in_err-has_swap-clause-limits g c = KeepsToLimits-other g.H.World.tells _ _ _ c.from_residual-in_err-has_swap.ensures.1 failed_no_limit

pub returns-clause-text : goal.returns-clause-text
returns-clause-text g c = λ told.
    c.in_ok-found.ensures.text told ∙ ap text_in (same_content (g.H.World.scene c.args.host.now) (g.H.World.scene c.has_swap.new.host) c.args.name.now c.in_ok-has_swap.ensures.look.frame)

pub returns-clause-found : goal.returns-clause-found
returns-clause-found g c = λ told.
    c.in_ok-found.ensures.found told ∙ ap sizes_of (same_content (g.H.World.scene c.args.host.now) (g.H.World.scene c.has_swap.new.host) c.args.name.now c.in_ok-has_swap.ensures.look.frame)

pub returns-clause-limits : goal.returns-clause-limits
returns-clause-limits g c = record {
  within = λ told.
      let P : Option (List ℕ) → Type 0 = λ file. IfSome file (λ bytes. IsWithinLimits ((document_of bytes).text)) in
      subst P (same_content (g.H.World.scene c.args.host.now) (g.H.World.scene c.has_swap.new.host) c.args.name.now c.in_ok-has_swap.ensures.look.frame) (c.in_ok-found.ensures.limits.within told);
  limit = λ size of. absurd (cc);
}

pub returns-clause-reading : goal.returns-clause-reading
returns-clause-reading g c =
    let look = IsLook-both g.H.World.tells c.in_ok-has_swap.ensures.look c.in_ok-found.ensures.reads.reading.look in
    IsReading-calm g.H.World.tells _ (g.H.World.scene c.args.host.now) (g.H.World.scene c.read_file.new.host) look.frame look.looks look.none ok_never

pub returns-in_err-found-clause-swap : goal.returns-in_err-found-clause-swap
returns-in_err-found-clause-swap g c = λ of told. absurd (c.in_err-found.ensures.reads.others (handed_back _ _ _ c.from_residual-in_err-found.ensures.1 of))
