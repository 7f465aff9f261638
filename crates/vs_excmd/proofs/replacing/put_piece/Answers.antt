-- Both parts are put, or the second does not fit after the first.
use Rattle.std.proofs.Common.{◌<◌, ◌-◌, ◌++◌, subst, ap, refl, length}
use Rattle.vs_text.specs.declared.TheConstants.{MAX_LINE_BYTES}
use Rattle.vs_excmd.proofs.MatchLemmas.{put-both}
use Rattle.vs_excmd.proofs.replacing.put_piece.Goals as goal

pub returns-clause-put : goal.returns-clause-put
returns-clause-put c = λ fits.
    put-both c.args.line.now c.args.out.now.items c.split_at-2.result.0.now c.args.new.now c.put.new.out.items c.put-2.new.out.items c.args.from (c.args.place - c.args.from) c.split_at.result.1.now
    c.split_at.ensures.back c.split_at-2.ensures.front (c.in_ok-put.ensures.put c.if-not-branch.false) (c.in_ok-fits.ensures.put fits)

pub returns-clause-long : goal.returns-clause-long
returns-clause-long c = λ long.
    let both = put-both c.args.line.now c.args.out.now.items c.split_at-2.result.0.now c.args.new.now c.put.new.out.items (c.put.new.out.items ++ c.args.new.now) c.args.from (c.args.place - c.args.from) c.split_at.result.1.now
    c.split_at.ensures.back c.split_at-2.ensures.front (c.in_ok-put.ensures.put c.if-not-branch.false) refl in
    subst (λ n. MAX_LINE_BYTES < n) (ap length both) (c.in_ok-fits.ensures.long long)
