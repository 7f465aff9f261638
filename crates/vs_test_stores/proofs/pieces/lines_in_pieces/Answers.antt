use Rattle.std.proofs.Common.{◌≡◌, ◌++◌, ◌∙◌, ap, sym, append_assoc}
use Rattle.vs_test_stores.proofs.pieces.lines_in_pieces.Goals as goal

pub pieces-preserved : goal.pieces-preserved
pieces-preserved c =
    let seen = c.pieces.invariant.0 in
    let taken = c.pieces.invariant.1 in
    let piece = c.split_at.result.0.now in
    let parts : c.args.file.now ≡ (seen ++ piece) ++ c.split_at.result.1.now =
    c.pieces.invariant.2 ∙ (ap (λ xs. seen ++ xs) c.split_at.ensures.by_index.0 ∙ sym (append_assoc seen piece c.split_at.result.1.now)) in
    (seen ++ piece, taken ++ c.take_lines.result, parts, c.take_lines.ensures.taken taken (seen ++ piece) (c.in_ok-feed.ensures.reads taken seen c.pieces.invariant.3))
