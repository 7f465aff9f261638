use Rattle.std.proofs.Common.{◌++◌}
use Rattle.vs_session.proofs.OpenLemmas.{limit_of, never_failed, never_swap, never_swapped, not_failed}
use Rattle.vs_session.proofs.reading.read_piece.Goals as goal

pub returns-in_err-feed-clause-limit : goal.returns-in_err-feed-clause-limit
returns-in_err-feed-clause-limit c = λ size of fed more read.
    limit_of _ _ _ c.from_residual.ensures.1 (c.in_err-feed.ensures.certain c.args.text.now.text fed read more) size of

pub returns-in_err-feed-clause-failed : goal.returns-in_err-feed-clause-failed
returns-in_err-feed-clause-failed c = never_failed _ _ c.from_residual.ensures.1

pub returns-in_err-feed-clause-swap : goal.returns-in_err-feed-clause-swap
returns-in_err-feed-clause-swap c = never_swap _ _ c.from_residual.ensures.1

pub returns-in_err-push_lines-clause-failed : goal.returns-in_err-push_lines-clause-failed
returns-in_err-push_lines-clause-failed c = not_failed _ c.from_residual-in_err-push_lines.ensures.1

pub returns-in_err-push_lines-clause-swap : goal.returns-in_err-push_lines-clause-swap
returns-in_err-push_lines-clause-swap c = never_swapped _ c.from_residual-in_err-push_lines.ensures.1

pub push_lines-requires : goal.push_lines-requires
push_lines-requires c =
    let read = c.requires.read in
    c.take_lines.ensures.within c.args.text.now.text (read.0 ++ c.args.piece.now) (c.in_ok-feed.ensures.reads c.args.text.now.text read.0 read.1)
