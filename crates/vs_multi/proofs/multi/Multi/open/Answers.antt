use Rattle.std.proofs.Common.{refl, sym, ◌∙◌, ap, subst}
use Rattle.vs_host.specs.Disk.{Disk}
use Rattle.vs_host.specs.Names.{names_of_file}
use Rattle.vs_host.specs.World.{Scene}
use Rattle.vs_session.specs.Fits.{IsSettled}
use Rattle.vs_session.proofs.OpenLemmas.{same_content}
use Rattle.vs_disk.proofs.Quiet.{none_then}
use Rattle.vs_multi.specs.declared.multi.Multi.{Multi}
use Rattle.vs_multi.proofs.Opens.{first_refusal, first_stands, found_refusal, look_refusal, mid_content, mid_none, mid_settled, new_both, opened_clear, opened_cleared, opened_own, not_over, over_same, second_refusal, stands_same}
use Rattle.vs_multi.proofs.multi.Multi.open.Goals as goal

pub returns-in_err-has_any_swap-clause-not_opened : goal.returns-in_err-has_any_swap-clause-not_opened
returns-in_err-has_any_swap-clause-not_opened g c = (look_refusal g.H.World.tells c.args.one.now c.args.two.now c.requires.one c.requires.two c.requires.apart (g.H.World.scene c.args.host.now) c.requires.settled (g.H.World.scene c.has_any_swap.new.host) c.in_err-has_any_swap.ensures.reading.look.looks _ c.in_err-has_any_swap.ensures.reading c.in_err-has_any_swap.ensures.errors c.from_residual.ensures.1).not_opened

pub returns-in_err-has_any_swap-clause-swap : goal.returns-in_err-has_any_swap-clause-swap
returns-in_err-has_any_swap-clause-swap g c = (look_refusal g.H.World.tells c.args.one.now c.args.two.now c.requires.one c.requires.two c.requires.apart (g.H.World.scene c.args.host.now) c.requires.settled (g.H.World.scene c.has_any_swap.new.host) c.in_err-has_any_swap.ensures.reading.look.looks _ c.in_err-has_any_swap.ensures.reading c.in_err-has_any_swap.ensures.errors c.from_residual.ensures.1).swap

pub returns-in_err-has_any_swap-clause-barred : goal.returns-in_err-has_any_swap-clause-barred
returns-in_err-has_any_swap-clause-barred g c = (look_refusal g.H.World.tells c.args.one.now c.args.two.now c.requires.one c.requires.two c.requires.apart (g.H.World.scene c.args.host.now) c.requires.settled (g.H.World.scene c.has_any_swap.new.host) c.in_err-has_any_swap.ensures.reading.look.looks _ c.in_err-has_any_swap.ensures.reading c.in_err-has_any_swap.ensures.errors c.from_residual.ensures.1).barred

pub returns-in_err-has_any_swap-clause-barred_looks : goal.returns-in_err-has_any_swap-clause-barred_looks
returns-in_err-has_any_swap-clause-barred_looks g c = (look_refusal g.H.World.tells c.args.one.now c.args.two.now c.requires.one c.requires.two c.requires.apart (g.H.World.scene c.args.host.now) c.requires.settled (g.H.World.scene c.has_any_swap.new.host) c.in_err-has_any_swap.ensures.reading.look.looks _ c.in_err-has_any_swap.ensures.reading c.in_err-has_any_swap.ensures.errors c.from_residual.ensures.1).barred_looks

pub returns-in_err-has_any_swap-clause-limit : goal.returns-in_err-has_any_swap-clause-limit
returns-in_err-has_any_swap-clause-limit g c = (look_refusal g.H.World.tells c.args.one.now c.args.two.now c.requires.one c.requires.two c.requires.apart (g.H.World.scene c.args.host.now) c.requires.settled (g.H.World.scene c.has_any_swap.new.host) c.in_err-has_any_swap.ensures.reading.look.looks _ c.in_err-has_any_swap.ensures.reading c.in_err-has_any_swap.ensures.errors c.from_residual.ensures.1).limit

pub returns-in_err-has_any_swap-clause-one_over : goal.returns-in_err-has_any_swap-clause-one_over
returns-in_err-has_any_swap-clause-one_over g c = (look_refusal g.H.World.tells c.args.one.now c.args.two.now c.requires.one c.requires.two c.requires.apart (g.H.World.scene c.args.host.now) c.requires.settled (g.H.World.scene c.has_any_swap.new.host) c.in_err-has_any_swap.ensures.reading.look.looks _ c.in_err-has_any_swap.ensures.reading c.in_err-has_any_swap.ensures.errors c.from_residual.ensures.1).one_over

pub returns-in_err-has_any_swap-clause-two_over : goal.returns-in_err-has_any_swap-clause-two_over
returns-in_err-has_any_swap-clause-two_over g c = (look_refusal g.H.World.tells c.args.one.now c.args.two.now c.requires.one c.requires.two c.requires.apart (g.H.World.scene c.args.host.now) c.requires.settled (g.H.World.scene c.has_any_swap.new.host) c.in_err-has_any_swap.ensures.reading.look.looks _ c.in_err-has_any_swap.ensures.reading c.in_err-has_any_swap.ensures.errors c.from_residual.ensures.1).two_over

pub returns-in_err-has_any_swap-clause-acts : goal.returns-in_err-has_any_swap-clause-acts
returns-in_err-has_any_swap-clause-acts g c = (look_refusal g.H.World.tells c.args.one.now c.args.two.now c.requires.one c.requires.two c.requires.apart (g.H.World.scene c.args.host.now) c.requires.settled (g.H.World.scene c.has_any_swap.new.host) c.in_err-has_any_swap.ensures.reading.look.looks _ c.in_err-has_any_swap.ensures.reading c.in_err-has_any_swap.ensures.errors c.from_residual.ensures.1).acts

pub returns-in_err-has_any_swap-clause-cause : goal.returns-in_err-has_any_swap-clause-cause
returns-in_err-has_any_swap-clause-cause g c = (look_refusal g.H.World.tells c.args.one.now c.args.two.now c.requires.one c.requires.two c.requires.apart (g.H.World.scene c.args.host.now) c.requires.settled (g.H.World.scene c.has_any_swap.new.host) c.in_err-has_any_swap.ensures.reading.look.looks _ c.in_err-has_any_swap.ensures.reading c.in_err-has_any_swap.ensures.errors c.from_residual.ensures.1).cause

pub returns-in_err-has_any_swap-clause-quiet : goal.returns-in_err-has_any_swap-clause-quiet
returns-in_err-has_any_swap-clause-quiet g c = (look_refusal g.H.World.tells c.args.one.now c.args.two.now c.requires.one c.requires.two c.requires.apart (g.H.World.scene c.args.host.now) c.requires.settled (g.H.World.scene c.has_any_swap.new.host) c.in_err-has_any_swap.ensures.reading.look.looks _ c.in_err-has_any_swap.ensures.reading c.in_err-has_any_swap.ensures.errors c.from_residual.ensures.1).quiet

pub returns-then-branch-clause-not_opened : goal.returns-then-branch-clause-not_opened
returns-then-branch-clause-not_opened g c = (found_refusal g.H.World.tells c.args.one.now c.args.two.now c.requires.one c.requires.two c.requires.apart (g.H.World.scene c.args.host.now) c.requires.settled (g.H.World.scene c.has_any_swap.new.host) c.in_ok-has_any_swap.ensures.reading.look.looks {T = Multi} c.in_ok-has_any_swap.ensures.reading (c.in_ok-has_any_swap.ensures.there c.if-branch.true)).not_opened

pub returns-then-branch-clause-swap : goal.returns-then-branch-clause-swap
returns-then-branch-clause-swap g c = (found_refusal g.H.World.tells c.args.one.now c.args.two.now c.requires.one c.requires.two c.requires.apart (g.H.World.scene c.args.host.now) c.requires.settled (g.H.World.scene c.has_any_swap.new.host) c.in_ok-has_any_swap.ensures.reading.look.looks {T = Multi} c.in_ok-has_any_swap.ensures.reading (c.in_ok-has_any_swap.ensures.there c.if-branch.true)).swap

pub returns-then-branch-clause-barred : goal.returns-then-branch-clause-barred
returns-then-branch-clause-barred g c = (found_refusal g.H.World.tells c.args.one.now c.args.two.now c.requires.one c.requires.two c.requires.apart (g.H.World.scene c.args.host.now) c.requires.settled (g.H.World.scene c.has_any_swap.new.host) c.in_ok-has_any_swap.ensures.reading.look.looks {T = Multi} c.in_ok-has_any_swap.ensures.reading (c.in_ok-has_any_swap.ensures.there c.if-branch.true)).barred

pub returns-then-branch-clause-barred_looks : goal.returns-then-branch-clause-barred_looks
returns-then-branch-clause-barred_looks g c = (found_refusal g.H.World.tells c.args.one.now c.args.two.now c.requires.one c.requires.two c.requires.apart (g.H.World.scene c.args.host.now) c.requires.settled (g.H.World.scene c.has_any_swap.new.host) c.in_ok-has_any_swap.ensures.reading.look.looks {T = Multi} c.in_ok-has_any_swap.ensures.reading (c.in_ok-has_any_swap.ensures.there c.if-branch.true)).barred_looks

pub returns-then-branch-clause-limit : goal.returns-then-branch-clause-limit
returns-then-branch-clause-limit g c = (found_refusal g.H.World.tells c.args.one.now c.args.two.now c.requires.one c.requires.two c.requires.apart (g.H.World.scene c.args.host.now) c.requires.settled (g.H.World.scene c.has_any_swap.new.host) c.in_ok-has_any_swap.ensures.reading.look.looks {T = Multi} c.in_ok-has_any_swap.ensures.reading (c.in_ok-has_any_swap.ensures.there c.if-branch.true)).limit

pub returns-then-branch-clause-one_over : goal.returns-then-branch-clause-one_over
returns-then-branch-clause-one_over g c = (found_refusal g.H.World.tells c.args.one.now c.args.two.now c.requires.one c.requires.two c.requires.apart (g.H.World.scene c.args.host.now) c.requires.settled (g.H.World.scene c.has_any_swap.new.host) c.in_ok-has_any_swap.ensures.reading.look.looks {T = Multi} c.in_ok-has_any_swap.ensures.reading (c.in_ok-has_any_swap.ensures.there c.if-branch.true)).one_over

pub returns-then-branch-clause-two_over : goal.returns-then-branch-clause-two_over
returns-then-branch-clause-two_over g c = (found_refusal g.H.World.tells c.args.one.now c.args.two.now c.requires.one c.requires.two c.requires.apart (g.H.World.scene c.args.host.now) c.requires.settled (g.H.World.scene c.has_any_swap.new.host) c.in_ok-has_any_swap.ensures.reading.look.looks {T = Multi} c.in_ok-has_any_swap.ensures.reading (c.in_ok-has_any_swap.ensures.there c.if-branch.true)).two_over

pub returns-then-branch-clause-acts : goal.returns-then-branch-clause-acts
returns-then-branch-clause-acts g c = (found_refusal g.H.World.tells c.args.one.now c.args.two.now c.requires.one c.requires.two c.requires.apart (g.H.World.scene c.args.host.now) c.requires.settled (g.H.World.scene c.has_any_swap.new.host) c.in_ok-has_any_swap.ensures.reading.look.looks {T = Multi} c.in_ok-has_any_swap.ensures.reading (c.in_ok-has_any_swap.ensures.there c.if-branch.true)).acts

pub returns-then-branch-clause-cause : goal.returns-then-branch-clause-cause
returns-then-branch-clause-cause g c = (found_refusal g.H.World.tells c.args.one.now c.args.two.now c.requires.one c.requires.two c.requires.apart (g.H.World.scene c.args.host.now) c.requires.settled (g.H.World.scene c.has_any_swap.new.host) c.in_ok-has_any_swap.ensures.reading.look.looks {T = Multi} c.in_ok-has_any_swap.ensures.reading (c.in_ok-has_any_swap.ensures.there c.if-branch.true)).cause

pub returns-then-branch-clause-quiet : goal.returns-then-branch-clause-quiet
returns-then-branch-clause-quiet g c = (found_refusal g.H.World.tells c.args.one.now c.args.two.now c.requires.one c.requires.two c.requires.apart (g.H.World.scene c.args.host.now) c.requires.settled (g.H.World.scene c.has_any_swap.new.host) c.in_ok-has_any_swap.ensures.reading.look.looks {T = Multi} c.in_ok-has_any_swap.ensures.reading (c.in_ok-has_any_swap.ensures.there c.if-branch.true)).quiet

pub returns-in_err-first-clause-not_opened : goal.returns-in_err-first-clause-not_opened
returns-in_err-first-clause-not_opened g c = (first_refusal g.H.World.tells c.args.one.now c.args.two.now c.requires.one c.requires.two c.requires.apart (g.H.World.scene c.args.host.now) c.requires.settled (g.H.World.scene c.has_any_swap.new.host) c.in_ok-has_any_swap.ensures.reading.look.looks c.in_ok-has_any_swap.ensures.reading.look.frame c.in_ok-has_any_swap.ensures.reading.look.none (g.H.World.scene c.open.new.host) c.open.ensures.acts _ (c.in_ok-has_any_swap.ensures.free c.if-branch.false) c.in_err-first.ensures.swap c.in_err-first.ensures.limit (c.in_err-first.ensures.looks refl) c.in_err-first.ensures.cause c.in_err-first.ensures.quiet c.from_residual-in_err-first.ensures.1).not_opened

pub returns-in_err-first-clause-swap : goal.returns-in_err-first-clause-swap
returns-in_err-first-clause-swap g c = (first_refusal g.H.World.tells c.args.one.now c.args.two.now c.requires.one c.requires.two c.requires.apart (g.H.World.scene c.args.host.now) c.requires.settled (g.H.World.scene c.has_any_swap.new.host) c.in_ok-has_any_swap.ensures.reading.look.looks c.in_ok-has_any_swap.ensures.reading.look.frame c.in_ok-has_any_swap.ensures.reading.look.none (g.H.World.scene c.open.new.host) c.open.ensures.acts _ (c.in_ok-has_any_swap.ensures.free c.if-branch.false) c.in_err-first.ensures.swap c.in_err-first.ensures.limit (c.in_err-first.ensures.looks refl) c.in_err-first.ensures.cause c.in_err-first.ensures.quiet c.from_residual-in_err-first.ensures.1).swap

pub returns-in_err-first-clause-barred : goal.returns-in_err-first-clause-barred
returns-in_err-first-clause-barred g c = (first_refusal g.H.World.tells c.args.one.now c.args.two.now c.requires.one c.requires.two c.requires.apart (g.H.World.scene c.args.host.now) c.requires.settled (g.H.World.scene c.has_any_swap.new.host) c.in_ok-has_any_swap.ensures.reading.look.looks c.in_ok-has_any_swap.ensures.reading.look.frame c.in_ok-has_any_swap.ensures.reading.look.none (g.H.World.scene c.open.new.host) c.open.ensures.acts _ (c.in_ok-has_any_swap.ensures.free c.if-branch.false) c.in_err-first.ensures.swap c.in_err-first.ensures.limit (c.in_err-first.ensures.looks refl) c.in_err-first.ensures.cause c.in_err-first.ensures.quiet c.from_residual-in_err-first.ensures.1).barred

pub returns-in_err-first-clause-barred_looks : goal.returns-in_err-first-clause-barred_looks
returns-in_err-first-clause-barred_looks g c = (first_refusal g.H.World.tells c.args.one.now c.args.two.now c.requires.one c.requires.two c.requires.apart (g.H.World.scene c.args.host.now) c.requires.settled (g.H.World.scene c.has_any_swap.new.host) c.in_ok-has_any_swap.ensures.reading.look.looks c.in_ok-has_any_swap.ensures.reading.look.frame c.in_ok-has_any_swap.ensures.reading.look.none (g.H.World.scene c.open.new.host) c.open.ensures.acts _ (c.in_ok-has_any_swap.ensures.free c.if-branch.false) c.in_err-first.ensures.swap c.in_err-first.ensures.limit (c.in_err-first.ensures.looks refl) c.in_err-first.ensures.cause c.in_err-first.ensures.quiet c.from_residual-in_err-first.ensures.1).barred_looks

pub returns-in_err-first-clause-limit : goal.returns-in_err-first-clause-limit
returns-in_err-first-clause-limit g c = (first_refusal g.H.World.tells c.args.one.now c.args.two.now c.requires.one c.requires.two c.requires.apart (g.H.World.scene c.args.host.now) c.requires.settled (g.H.World.scene c.has_any_swap.new.host) c.in_ok-has_any_swap.ensures.reading.look.looks c.in_ok-has_any_swap.ensures.reading.look.frame c.in_ok-has_any_swap.ensures.reading.look.none (g.H.World.scene c.open.new.host) c.open.ensures.acts _ (c.in_ok-has_any_swap.ensures.free c.if-branch.false) c.in_err-first.ensures.swap c.in_err-first.ensures.limit (c.in_err-first.ensures.looks refl) c.in_err-first.ensures.cause c.in_err-first.ensures.quiet c.from_residual-in_err-first.ensures.1).limit

pub returns-in_err-first-clause-one_over : goal.returns-in_err-first-clause-one_over
returns-in_err-first-clause-one_over g c = (first_refusal g.H.World.tells c.args.one.now c.args.two.now c.requires.one c.requires.two c.requires.apart (g.H.World.scene c.args.host.now) c.requires.settled (g.H.World.scene c.has_any_swap.new.host) c.in_ok-has_any_swap.ensures.reading.look.looks c.in_ok-has_any_swap.ensures.reading.look.frame c.in_ok-has_any_swap.ensures.reading.look.none (g.H.World.scene c.open.new.host) c.open.ensures.acts _ (c.in_ok-has_any_swap.ensures.free c.if-branch.false) c.in_err-first.ensures.swap c.in_err-first.ensures.limit (c.in_err-first.ensures.looks refl) c.in_err-first.ensures.cause c.in_err-first.ensures.quiet c.from_residual-in_err-first.ensures.1).one_over

pub returns-in_err-first-clause-two_over : goal.returns-in_err-first-clause-two_over
returns-in_err-first-clause-two_over g c = (first_refusal g.H.World.tells c.args.one.now c.args.two.now c.requires.one c.requires.two c.requires.apart (g.H.World.scene c.args.host.now) c.requires.settled (g.H.World.scene c.has_any_swap.new.host) c.in_ok-has_any_swap.ensures.reading.look.looks c.in_ok-has_any_swap.ensures.reading.look.frame c.in_ok-has_any_swap.ensures.reading.look.none (g.H.World.scene c.open.new.host) c.open.ensures.acts _ (c.in_ok-has_any_swap.ensures.free c.if-branch.false) c.in_err-first.ensures.swap c.in_err-first.ensures.limit (c.in_err-first.ensures.looks refl) c.in_err-first.ensures.cause c.in_err-first.ensures.quiet c.from_residual-in_err-first.ensures.1).two_over

pub returns-in_err-first-clause-acts : goal.returns-in_err-first-clause-acts
returns-in_err-first-clause-acts g c = (first_refusal g.H.World.tells c.args.one.now c.args.two.now c.requires.one c.requires.two c.requires.apart (g.H.World.scene c.args.host.now) c.requires.settled (g.H.World.scene c.has_any_swap.new.host) c.in_ok-has_any_swap.ensures.reading.look.looks c.in_ok-has_any_swap.ensures.reading.look.frame c.in_ok-has_any_swap.ensures.reading.look.none (g.H.World.scene c.open.new.host) c.open.ensures.acts _ (c.in_ok-has_any_swap.ensures.free c.if-branch.false) c.in_err-first.ensures.swap c.in_err-first.ensures.limit (c.in_err-first.ensures.looks refl) c.in_err-first.ensures.cause c.in_err-first.ensures.quiet c.from_residual-in_err-first.ensures.1).acts

pub returns-in_err-first-clause-cause : goal.returns-in_err-first-clause-cause
returns-in_err-first-clause-cause g c = (first_refusal g.H.World.tells c.args.one.now c.args.two.now c.requires.one c.requires.two c.requires.apart (g.H.World.scene c.args.host.now) c.requires.settled (g.H.World.scene c.has_any_swap.new.host) c.in_ok-has_any_swap.ensures.reading.look.looks c.in_ok-has_any_swap.ensures.reading.look.frame c.in_ok-has_any_swap.ensures.reading.look.none (g.H.World.scene c.open.new.host) c.open.ensures.acts _ (c.in_ok-has_any_swap.ensures.free c.if-branch.false) c.in_err-first.ensures.swap c.in_err-first.ensures.limit (c.in_err-first.ensures.looks refl) c.in_err-first.ensures.cause c.in_err-first.ensures.quiet c.from_residual-in_err-first.ensures.1).cause

pub returns-in_err-first-clause-quiet : goal.returns-in_err-first-clause-quiet
returns-in_err-first-clause-quiet g c = (first_refusal g.H.World.tells c.args.one.now c.args.two.now c.requires.one c.requires.two c.requires.apart (g.H.World.scene c.args.host.now) c.requires.settled (g.H.World.scene c.has_any_swap.new.host) c.in_ok-has_any_swap.ensures.reading.look.looks c.in_ok-has_any_swap.ensures.reading.look.frame c.in_ok-has_any_swap.ensures.reading.look.none (g.H.World.scene c.open.new.host) c.open.ensures.acts _ (c.in_ok-has_any_swap.ensures.free c.if-branch.false) c.in_err-first.ensures.swap c.in_err-first.ensures.limit (c.in_err-first.ensures.looks refl) c.in_err-first.ensures.cause c.in_err-first.ensures.quiet c.from_residual-in_err-first.ensures.1).quiet

pub returns-in_err-second-clause-not_opened : goal.returns-in_err-second-clause-not_opened
returns-in_err-second-clause-not_opened g c = (second_refusal g.H.World.tells c.args.one.now c.args.two.now c.requires.one c.requires.two c.requires.apart (g.H.World.scene c.args.host.now) c.requires.settled (g.H.World.scene c.has_any_swap.new.host) c.in_ok-has_any_swap.ensures.reading.look.looks c.in_ok-has_any_swap.ensures.reading.look.frame c.in_ok-has_any_swap.ensures.reading.look.none (g.H.World.scene c.open.new.host) c.open.ensures.acts c.in_ok-first.ensures.none (g.H.World.scene c.open-2.new.host) c.open-2.ensures.acts _ c.in_ok-first.first (c.in_ok-has_any_swap.ensures.free c.if-branch.false) (stands_same g.H.World.tells c.args.one.now (g.H.World.scene c.args.host.now) (g.H.World.scene c.has_any_swap.new.host) (g.H.World.scene c.open.new.host) c.in_ok-first.first (λ told. same_content (g.H.World.scene c.args.host.now) (g.H.World.scene c.has_any_swap.new.host) c.args.one.now c.in_ok-has_any_swap.ensures.reading.look.frame) (record { fits = c.in_ok-first.ensures.fits; file = c.in_ok-first.ensures.file; named = c.in_ok-first.ensures.name.0; names = c.in_ok-first.ensures.name.1; generation = c.in_ok-first.ensures.generation; undo = c.in_ok-first.ensures.undo })) (λ told. not_over _ (over_same _ _ (same_content (g.H.World.scene c.args.host.now) (g.H.World.scene c.has_any_swap.new.host) c.args.one.now c.in_ok-has_any_swap.ensures.reading.look.frame) (c.in_ok-first.ensures.over told))) c.in_err-second.ensures.swap c.in_err-second.ensures.limit c.in_err-second.ensures.cause c.in_err-second.ensures.quiet c.from_residual-in_err-second.ensures.1).not_opened

pub returns-in_err-second-clause-swap : goal.returns-in_err-second-clause-swap
returns-in_err-second-clause-swap g c = (second_refusal g.H.World.tells c.args.one.now c.args.two.now c.requires.one c.requires.two c.requires.apart (g.H.World.scene c.args.host.now) c.requires.settled (g.H.World.scene c.has_any_swap.new.host) c.in_ok-has_any_swap.ensures.reading.look.looks c.in_ok-has_any_swap.ensures.reading.look.frame c.in_ok-has_any_swap.ensures.reading.look.none (g.H.World.scene c.open.new.host) c.open.ensures.acts c.in_ok-first.ensures.none (g.H.World.scene c.open-2.new.host) c.open-2.ensures.acts _ c.in_ok-first.first (c.in_ok-has_any_swap.ensures.free c.if-branch.false) (stands_same g.H.World.tells c.args.one.now (g.H.World.scene c.args.host.now) (g.H.World.scene c.has_any_swap.new.host) (g.H.World.scene c.open.new.host) c.in_ok-first.first (λ told. same_content (g.H.World.scene c.args.host.now) (g.H.World.scene c.has_any_swap.new.host) c.args.one.now c.in_ok-has_any_swap.ensures.reading.look.frame) (record { fits = c.in_ok-first.ensures.fits; file = c.in_ok-first.ensures.file; named = c.in_ok-first.ensures.name.0; names = c.in_ok-first.ensures.name.1; generation = c.in_ok-first.ensures.generation; undo = c.in_ok-first.ensures.undo })) (λ told. not_over _ (over_same _ _ (same_content (g.H.World.scene c.args.host.now) (g.H.World.scene c.has_any_swap.new.host) c.args.one.now c.in_ok-has_any_swap.ensures.reading.look.frame) (c.in_ok-first.ensures.over told))) c.in_err-second.ensures.swap c.in_err-second.ensures.limit c.in_err-second.ensures.cause c.in_err-second.ensures.quiet c.from_residual-in_err-second.ensures.1).swap

pub returns-in_err-second-clause-barred : goal.returns-in_err-second-clause-barred
returns-in_err-second-clause-barred g c = (second_refusal g.H.World.tells c.args.one.now c.args.two.now c.requires.one c.requires.two c.requires.apart (g.H.World.scene c.args.host.now) c.requires.settled (g.H.World.scene c.has_any_swap.new.host) c.in_ok-has_any_swap.ensures.reading.look.looks c.in_ok-has_any_swap.ensures.reading.look.frame c.in_ok-has_any_swap.ensures.reading.look.none (g.H.World.scene c.open.new.host) c.open.ensures.acts c.in_ok-first.ensures.none (g.H.World.scene c.open-2.new.host) c.open-2.ensures.acts _ c.in_ok-first.first (c.in_ok-has_any_swap.ensures.free c.if-branch.false) (stands_same g.H.World.tells c.args.one.now (g.H.World.scene c.args.host.now) (g.H.World.scene c.has_any_swap.new.host) (g.H.World.scene c.open.new.host) c.in_ok-first.first (λ told. same_content (g.H.World.scene c.args.host.now) (g.H.World.scene c.has_any_swap.new.host) c.args.one.now c.in_ok-has_any_swap.ensures.reading.look.frame) (record { fits = c.in_ok-first.ensures.fits; file = c.in_ok-first.ensures.file; named = c.in_ok-first.ensures.name.0; names = c.in_ok-first.ensures.name.1; generation = c.in_ok-first.ensures.generation; undo = c.in_ok-first.ensures.undo })) (λ told. not_over _ (over_same _ _ (same_content (g.H.World.scene c.args.host.now) (g.H.World.scene c.has_any_swap.new.host) c.args.one.now c.in_ok-has_any_swap.ensures.reading.look.frame) (c.in_ok-first.ensures.over told))) c.in_err-second.ensures.swap c.in_err-second.ensures.limit c.in_err-second.ensures.cause c.in_err-second.ensures.quiet c.from_residual-in_err-second.ensures.1).barred

pub returns-in_err-second-clause-barred_looks : goal.returns-in_err-second-clause-barred_looks
returns-in_err-second-clause-barred_looks g c = (second_refusal g.H.World.tells c.args.one.now c.args.two.now c.requires.one c.requires.two c.requires.apart (g.H.World.scene c.args.host.now) c.requires.settled (g.H.World.scene c.has_any_swap.new.host) c.in_ok-has_any_swap.ensures.reading.look.looks c.in_ok-has_any_swap.ensures.reading.look.frame c.in_ok-has_any_swap.ensures.reading.look.none (g.H.World.scene c.open.new.host) c.open.ensures.acts c.in_ok-first.ensures.none (g.H.World.scene c.open-2.new.host) c.open-2.ensures.acts _ c.in_ok-first.first (c.in_ok-has_any_swap.ensures.free c.if-branch.false) (stands_same g.H.World.tells c.args.one.now (g.H.World.scene c.args.host.now) (g.H.World.scene c.has_any_swap.new.host) (g.H.World.scene c.open.new.host) c.in_ok-first.first (λ told. same_content (g.H.World.scene c.args.host.now) (g.H.World.scene c.has_any_swap.new.host) c.args.one.now c.in_ok-has_any_swap.ensures.reading.look.frame) (record { fits = c.in_ok-first.ensures.fits; file = c.in_ok-first.ensures.file; named = c.in_ok-first.ensures.name.0; names = c.in_ok-first.ensures.name.1; generation = c.in_ok-first.ensures.generation; undo = c.in_ok-first.ensures.undo })) (λ told. not_over _ (over_same _ _ (same_content (g.H.World.scene c.args.host.now) (g.H.World.scene c.has_any_swap.new.host) c.args.one.now c.in_ok-has_any_swap.ensures.reading.look.frame) (c.in_ok-first.ensures.over told))) c.in_err-second.ensures.swap c.in_err-second.ensures.limit c.in_err-second.ensures.cause c.in_err-second.ensures.quiet c.from_residual-in_err-second.ensures.1).barred_looks

pub returns-in_err-second-clause-limit : goal.returns-in_err-second-clause-limit
returns-in_err-second-clause-limit g c = (second_refusal g.H.World.tells c.args.one.now c.args.two.now c.requires.one c.requires.two c.requires.apart (g.H.World.scene c.args.host.now) c.requires.settled (g.H.World.scene c.has_any_swap.new.host) c.in_ok-has_any_swap.ensures.reading.look.looks c.in_ok-has_any_swap.ensures.reading.look.frame c.in_ok-has_any_swap.ensures.reading.look.none (g.H.World.scene c.open.new.host) c.open.ensures.acts c.in_ok-first.ensures.none (g.H.World.scene c.open-2.new.host) c.open-2.ensures.acts _ c.in_ok-first.first (c.in_ok-has_any_swap.ensures.free c.if-branch.false) (stands_same g.H.World.tells c.args.one.now (g.H.World.scene c.args.host.now) (g.H.World.scene c.has_any_swap.new.host) (g.H.World.scene c.open.new.host) c.in_ok-first.first (λ told. same_content (g.H.World.scene c.args.host.now) (g.H.World.scene c.has_any_swap.new.host) c.args.one.now c.in_ok-has_any_swap.ensures.reading.look.frame) (record { fits = c.in_ok-first.ensures.fits; file = c.in_ok-first.ensures.file; named = c.in_ok-first.ensures.name.0; names = c.in_ok-first.ensures.name.1; generation = c.in_ok-first.ensures.generation; undo = c.in_ok-first.ensures.undo })) (λ told. not_over _ (over_same _ _ (same_content (g.H.World.scene c.args.host.now) (g.H.World.scene c.has_any_swap.new.host) c.args.one.now c.in_ok-has_any_swap.ensures.reading.look.frame) (c.in_ok-first.ensures.over told))) c.in_err-second.ensures.swap c.in_err-second.ensures.limit c.in_err-second.ensures.cause c.in_err-second.ensures.quiet c.from_residual-in_err-second.ensures.1).limit

pub returns-in_err-second-clause-one_over : goal.returns-in_err-second-clause-one_over
returns-in_err-second-clause-one_over g c = (second_refusal g.H.World.tells c.args.one.now c.args.two.now c.requires.one c.requires.two c.requires.apart (g.H.World.scene c.args.host.now) c.requires.settled (g.H.World.scene c.has_any_swap.new.host) c.in_ok-has_any_swap.ensures.reading.look.looks c.in_ok-has_any_swap.ensures.reading.look.frame c.in_ok-has_any_swap.ensures.reading.look.none (g.H.World.scene c.open.new.host) c.open.ensures.acts c.in_ok-first.ensures.none (g.H.World.scene c.open-2.new.host) c.open-2.ensures.acts _ c.in_ok-first.first (c.in_ok-has_any_swap.ensures.free c.if-branch.false) (stands_same g.H.World.tells c.args.one.now (g.H.World.scene c.args.host.now) (g.H.World.scene c.has_any_swap.new.host) (g.H.World.scene c.open.new.host) c.in_ok-first.first (λ told. same_content (g.H.World.scene c.args.host.now) (g.H.World.scene c.has_any_swap.new.host) c.args.one.now c.in_ok-has_any_swap.ensures.reading.look.frame) (record { fits = c.in_ok-first.ensures.fits; file = c.in_ok-first.ensures.file; named = c.in_ok-first.ensures.name.0; names = c.in_ok-first.ensures.name.1; generation = c.in_ok-first.ensures.generation; undo = c.in_ok-first.ensures.undo })) (λ told. not_over _ (over_same _ _ (same_content (g.H.World.scene c.args.host.now) (g.H.World.scene c.has_any_swap.new.host) c.args.one.now c.in_ok-has_any_swap.ensures.reading.look.frame) (c.in_ok-first.ensures.over told))) c.in_err-second.ensures.swap c.in_err-second.ensures.limit c.in_err-second.ensures.cause c.in_err-second.ensures.quiet c.from_residual-in_err-second.ensures.1).one_over

pub returns-in_err-second-clause-two_over : goal.returns-in_err-second-clause-two_over
returns-in_err-second-clause-two_over g c = (second_refusal g.H.World.tells c.args.one.now c.args.two.now c.requires.one c.requires.two c.requires.apart (g.H.World.scene c.args.host.now) c.requires.settled (g.H.World.scene c.has_any_swap.new.host) c.in_ok-has_any_swap.ensures.reading.look.looks c.in_ok-has_any_swap.ensures.reading.look.frame c.in_ok-has_any_swap.ensures.reading.look.none (g.H.World.scene c.open.new.host) c.open.ensures.acts c.in_ok-first.ensures.none (g.H.World.scene c.open-2.new.host) c.open-2.ensures.acts _ c.in_ok-first.first (c.in_ok-has_any_swap.ensures.free c.if-branch.false) (stands_same g.H.World.tells c.args.one.now (g.H.World.scene c.args.host.now) (g.H.World.scene c.has_any_swap.new.host) (g.H.World.scene c.open.new.host) c.in_ok-first.first (λ told. same_content (g.H.World.scene c.args.host.now) (g.H.World.scene c.has_any_swap.new.host) c.args.one.now c.in_ok-has_any_swap.ensures.reading.look.frame) (record { fits = c.in_ok-first.ensures.fits; file = c.in_ok-first.ensures.file; named = c.in_ok-first.ensures.name.0; names = c.in_ok-first.ensures.name.1; generation = c.in_ok-first.ensures.generation; undo = c.in_ok-first.ensures.undo })) (λ told. not_over _ (over_same _ _ (same_content (g.H.World.scene c.args.host.now) (g.H.World.scene c.has_any_swap.new.host) c.args.one.now c.in_ok-has_any_swap.ensures.reading.look.frame) (c.in_ok-first.ensures.over told))) c.in_err-second.ensures.swap c.in_err-second.ensures.limit c.in_err-second.ensures.cause c.in_err-second.ensures.quiet c.from_residual-in_err-second.ensures.1).two_over

pub returns-in_err-second-clause-acts : goal.returns-in_err-second-clause-acts
returns-in_err-second-clause-acts g c = (second_refusal g.H.World.tells c.args.one.now c.args.two.now c.requires.one c.requires.two c.requires.apart (g.H.World.scene c.args.host.now) c.requires.settled (g.H.World.scene c.has_any_swap.new.host) c.in_ok-has_any_swap.ensures.reading.look.looks c.in_ok-has_any_swap.ensures.reading.look.frame c.in_ok-has_any_swap.ensures.reading.look.none (g.H.World.scene c.open.new.host) c.open.ensures.acts c.in_ok-first.ensures.none (g.H.World.scene c.open-2.new.host) c.open-2.ensures.acts _ c.in_ok-first.first (c.in_ok-has_any_swap.ensures.free c.if-branch.false) (stands_same g.H.World.tells c.args.one.now (g.H.World.scene c.args.host.now) (g.H.World.scene c.has_any_swap.new.host) (g.H.World.scene c.open.new.host) c.in_ok-first.first (λ told. same_content (g.H.World.scene c.args.host.now) (g.H.World.scene c.has_any_swap.new.host) c.args.one.now c.in_ok-has_any_swap.ensures.reading.look.frame) (record { fits = c.in_ok-first.ensures.fits; file = c.in_ok-first.ensures.file; named = c.in_ok-first.ensures.name.0; names = c.in_ok-first.ensures.name.1; generation = c.in_ok-first.ensures.generation; undo = c.in_ok-first.ensures.undo })) (λ told. not_over _ (over_same _ _ (same_content (g.H.World.scene c.args.host.now) (g.H.World.scene c.has_any_swap.new.host) c.args.one.now c.in_ok-has_any_swap.ensures.reading.look.frame) (c.in_ok-first.ensures.over told))) c.in_err-second.ensures.swap c.in_err-second.ensures.limit c.in_err-second.ensures.cause c.in_err-second.ensures.quiet c.from_residual-in_err-second.ensures.1).acts

pub returns-in_err-second-clause-cause : goal.returns-in_err-second-clause-cause
returns-in_err-second-clause-cause g c = (second_refusal g.H.World.tells c.args.one.now c.args.two.now c.requires.one c.requires.two c.requires.apart (g.H.World.scene c.args.host.now) c.requires.settled (g.H.World.scene c.has_any_swap.new.host) c.in_ok-has_any_swap.ensures.reading.look.looks c.in_ok-has_any_swap.ensures.reading.look.frame c.in_ok-has_any_swap.ensures.reading.look.none (g.H.World.scene c.open.new.host) c.open.ensures.acts c.in_ok-first.ensures.none (g.H.World.scene c.open-2.new.host) c.open-2.ensures.acts _ c.in_ok-first.first (c.in_ok-has_any_swap.ensures.free c.if-branch.false) (stands_same g.H.World.tells c.args.one.now (g.H.World.scene c.args.host.now) (g.H.World.scene c.has_any_swap.new.host) (g.H.World.scene c.open.new.host) c.in_ok-first.first (λ told. same_content (g.H.World.scene c.args.host.now) (g.H.World.scene c.has_any_swap.new.host) c.args.one.now c.in_ok-has_any_swap.ensures.reading.look.frame) (record { fits = c.in_ok-first.ensures.fits; file = c.in_ok-first.ensures.file; named = c.in_ok-first.ensures.name.0; names = c.in_ok-first.ensures.name.1; generation = c.in_ok-first.ensures.generation; undo = c.in_ok-first.ensures.undo })) (λ told. not_over _ (over_same _ _ (same_content (g.H.World.scene c.args.host.now) (g.H.World.scene c.has_any_swap.new.host) c.args.one.now c.in_ok-has_any_swap.ensures.reading.look.frame) (c.in_ok-first.ensures.over told))) c.in_err-second.ensures.swap c.in_err-second.ensures.limit c.in_err-second.ensures.cause c.in_err-second.ensures.quiet c.from_residual-in_err-second.ensures.1).cause

pub returns-in_err-second-clause-quiet : goal.returns-in_err-second-clause-quiet
returns-in_err-second-clause-quiet g c = (second_refusal g.H.World.tells c.args.one.now c.args.two.now c.requires.one c.requires.two c.requires.apart (g.H.World.scene c.args.host.now) c.requires.settled (g.H.World.scene c.has_any_swap.new.host) c.in_ok-has_any_swap.ensures.reading.look.looks c.in_ok-has_any_swap.ensures.reading.look.frame c.in_ok-has_any_swap.ensures.reading.look.none (g.H.World.scene c.open.new.host) c.open.ensures.acts c.in_ok-first.ensures.none (g.H.World.scene c.open-2.new.host) c.open-2.ensures.acts _ c.in_ok-first.first (c.in_ok-has_any_swap.ensures.free c.if-branch.false) (stands_same g.H.World.tells c.args.one.now (g.H.World.scene c.args.host.now) (g.H.World.scene c.has_any_swap.new.host) (g.H.World.scene c.open.new.host) c.in_ok-first.first (λ told. same_content (g.H.World.scene c.args.host.now) (g.H.World.scene c.has_any_swap.new.host) c.args.one.now c.in_ok-has_any_swap.ensures.reading.look.frame) (record { fits = c.in_ok-first.ensures.fits; file = c.in_ok-first.ensures.file; named = c.in_ok-first.ensures.name.0; names = c.in_ok-first.ensures.name.1; generation = c.in_ok-first.ensures.generation; undo = c.in_ok-first.ensures.undo })) (λ told. not_over _ (over_same _ _ (same_content (g.H.World.scene c.args.host.now) (g.H.World.scene c.has_any_swap.new.host) c.args.one.now c.in_ok-has_any_swap.ensures.reading.look.frame) (c.in_ok-first.ensures.over told))) c.in_err-second.ensures.swap c.in_err-second.ensures.limit c.in_err-second.ensures.cause c.in_err-second.ensures.quiet c.from_residual-in_err-second.ensures.1).quiet

pub open-requires-clause-name : goal.open-requires-clause-name
open-requires-clause-name g c = c.requires.one

pub open-requires-clause-settled : goal.open-requires-clause-settled
open-requires-clause-settled g c = λ told.
    subst (λ (d : Disk). IsSettled (names_of_file c.args.one.now) d) (sym (ap (λ (s : Scene). s.folder) c.in_ok-has_any_swap.ensures.reading.look.frame)) (c.requires.settled told).first

pub open-requires-2-clause-name : goal.open-requires-2-clause-name
open-requires-2-clause-name g c = c.requires.two

pub open-requires-2-clause-settled : goal.open-requires-2-clause-settled
open-requires-2-clause-settled g c = mid_settled g.H.World.tells c.args.one.now c.args.two.now c.requires.one c.requires.two c.requires.apart (g.H.World.scene c.args.host.now) c.requires.settled (g.H.World.scene c.has_any_swap.new.host) c.in_ok-has_any_swap.ensures.reading.look.looks c.in_ok-has_any_swap.ensures.reading.look.frame c.in_ok-has_any_swap.ensures.reading.look.none (g.H.World.scene c.open.new.host) c.open.ensures.acts

pub invariant_of-result : goal.invariant_of-result
invariant_of-result g c =
    record { apart = opened_clear c.in_ok-first.first c.in_ok-second.second c.args.one.now c.args.two.now c.in_ok-first.ensures.name.1 c.in_ok-second.ensures.name.1 c.requires.apart }

pub returns-clause-opens : goal.returns-clause-opens
returns-clause-opens g c = record {
  first = first_stands g.H.World.tells c.args.one.now c.args.two.now c.requires.one c.requires.two c.requires.apart (g.H.World.scene c.args.host.now) c.requires.settled (g.H.World.scene c.has_any_swap.new.host) c.in_ok-has_any_swap.ensures.reading.look.looks c.in_ok-has_any_swap.ensures.reading.look.frame c.in_ok-has_any_swap.ensures.reading.look.none (g.H.World.scene c.open.new.host) c.open.ensures.acts c.in_ok-first.ensures.none (g.H.World.scene c.open-2.new.host) c.open-2.ensures.acts c.in_ok-first.first (stands_same g.H.World.tells c.args.one.now (g.H.World.scene c.args.host.now) (g.H.World.scene c.has_any_swap.new.host) (g.H.World.scene c.open.new.host) c.in_ok-first.first (λ told. same_content (g.H.World.scene c.args.host.now) (g.H.World.scene c.has_any_swap.new.host) c.args.one.now c.in_ok-has_any_swap.ensures.reading.look.frame) (record { fits = c.in_ok-first.ensures.fits; file = c.in_ok-first.ensures.file; named = c.in_ok-first.ensures.name.0; names = c.in_ok-first.ensures.name.1; generation = c.in_ok-first.ensures.generation; undo = c.in_ok-first.ensures.undo }));
  second = stands_same g.H.World.tells c.args.two.now (g.H.World.scene c.args.host.now) (g.H.World.scene c.open.new.host) (g.H.World.scene c.open-2.new.host) c.in_ok-second.second (mid_content g.H.World.tells c.args.one.now c.args.two.now c.requires.one c.requires.two c.requires.apart (g.H.World.scene c.args.host.now) c.requires.settled (g.H.World.scene c.has_any_swap.new.host) c.in_ok-has_any_swap.ensures.reading.look.looks c.in_ok-has_any_swap.ensures.reading.look.frame c.in_ok-has_any_swap.ensures.reading.look.none (g.H.World.scene c.open.new.host) c.open.ensures.acts) (record { fits = c.in_ok-second.ensures.fits; file = c.in_ok-second.ensures.file; named = c.in_ok-second.ensures.name.0; names = c.in_ok-second.ensures.name.1; generation = c.in_ok-second.ensures.generation; undo = c.in_ok-second.ensures.undo });
}

pub returns-clause-fits : goal.returns-clause-fits
returns-clause-fits g c = record {
  first = λ told. (_, _, (first_stands g.H.World.tells c.args.one.now c.args.two.now c.requires.one c.requires.two c.requires.apart (g.H.World.scene c.args.host.now) c.requires.settled (g.H.World.scene c.has_any_swap.new.host) c.in_ok-has_any_swap.ensures.reading.look.looks c.in_ok-has_any_swap.ensures.reading.look.frame c.in_ok-has_any_swap.ensures.reading.look.none (g.H.World.scene c.open.new.host) c.open.ensures.acts c.in_ok-first.ensures.none (g.H.World.scene c.open-2.new.host) c.open-2.ensures.acts c.in_ok-first.first (stands_same g.H.World.tells c.args.one.now (g.H.World.scene c.args.host.now) (g.H.World.scene c.has_any_swap.new.host) (g.H.World.scene c.open.new.host) c.in_ok-first.first (λ told. same_content (g.H.World.scene c.args.host.now) (g.H.World.scene c.has_any_swap.new.host) c.args.one.now c.in_ok-has_any_swap.ensures.reading.look.frame) (record { fits = c.in_ok-first.ensures.fits; file = c.in_ok-first.ensures.file; named = c.in_ok-first.ensures.name.0; names = c.in_ok-first.ensures.name.1; generation = c.in_ok-first.ensures.generation; undo = c.in_ok-first.ensures.undo }))).fits told);
  second = λ told. (_, _, c.in_ok-second.ensures.fits told);
  own = opened_own g.H.World.tells c.args.one.now c.args.two.now c.requires.one c.requires.two c.requires.apart (g.H.World.scene c.args.host.now) c.requires.settled (g.H.World.scene c.has_any_swap.new.host) c.in_ok-has_any_swap.ensures.reading.look.looks c.in_ok-has_any_swap.ensures.reading.look.frame c.in_ok-has_any_swap.ensures.reading.look.none (g.H.World.scene c.open.new.host) c.open.ensures.acts c.in_ok-first.ensures.none (g.H.World.scene c.open-2.new.host) c.open-2.ensures.acts c.in_ok-first.first c.in_ok-second.second c.in_ok-first.ensures.name.1 c.in_ok-second.ensures.name.1;
}

pub returns-clause-cleared : goal.returns-clause-cleared
returns-clause-cleared g c = λ told.
    opened_cleared (g.H.World.scene c.args.host.now) (g.H.World.scene c.has_any_swap.new.host) (g.H.World.scene c.open.new.host) (g.H.World.scene c.open-2.new.host)
    c.in_ok-has_any_swap.ensures.reading.look.frame (c.in_ok-first.ensures.cleared told) (c.in_ok-second.ensures.cleared told)

pub returns-clause-none : goal.returns-clause-none
returns-clause-none g c = none_then g.H.World.tells (g.H.World.scene c.args.host.now) (g.H.World.scene c.open.new.host) (g.H.World.scene c.open-2.new.host) (mid_none g.H.World.tells c.args.one.now c.args.two.now c.requires.one c.requires.two c.requires.apart (g.H.World.scene c.args.host.now) c.requires.settled (g.H.World.scene c.has_any_swap.new.host) c.in_ok-has_any_swap.ensures.reading.look.looks c.in_ok-has_any_swap.ensures.reading.look.frame c.in_ok-has_any_swap.ensures.reading.look.none (g.H.World.scene c.open.new.host) c.open.ensures.acts c.in_ok-first.ensures.none (g.H.World.scene c.open-2.new.host) c.open-2.ensures.acts) c.in_ok-second.ensures.none

pub returns-clause-barred : goal.returns-clause-barred
returns-clause-barred g c = λ told has. absurd ((c.in_ok-has_any_swap.ensures.free c.if-branch.false) told has)

pub returns-clause-barred_looks : goal.returns-clause-barred_looks
returns-clause-barred_looks g c = λ told has. absurd ((c.in_ok-has_any_swap.ensures.free c.if-branch.false) told has)

pub returns-clause-one_over : goal.returns-clause-one_over
returns-clause-one_over g c = λ told. over_same _ _ (same_content (g.H.World.scene c.args.host.now) (g.H.World.scene c.has_any_swap.new.host) c.args.one.now c.in_ok-has_any_swap.ensures.reading.look.frame) (c.in_ok-first.ensures.over told)

pub returns-clause-two_over : goal.returns-clause-two_over
returns-clause-two_over g c = λ told. over_same _ _ (mid_content g.H.World.tells c.args.one.now c.args.two.now c.requires.one c.requires.two c.requires.apart (g.H.World.scene c.args.host.now) c.requires.settled (g.H.World.scene c.has_any_swap.new.host) c.in_ok-has_any_swap.ensures.reading.look.looks c.in_ok-has_any_swap.ensures.reading.look.frame c.in_ok-has_any_swap.ensures.reading.look.none (g.H.World.scene c.open.new.host) c.open.ensures.acts told) (c.in_ok-second.ensures.over told)

pub returns-clause-acts : goal.returns-clause-acts
returns-clause-acts g c = new_both g.H.World.tells c.args.one.now c.args.two.now c.requires.one c.requires.two c.requires.apart (g.H.World.scene c.args.host.now) c.requires.settled (g.H.World.scene c.has_any_swap.new.host) c.in_ok-has_any_swap.ensures.reading.look.looks c.in_ok-has_any_swap.ensures.reading.look.frame c.in_ok-has_any_swap.ensures.reading.look.none (g.H.World.scene c.open.new.host) c.open.ensures.acts c.in_ok-first.ensures.none (g.H.World.scene c.open-2.new.host) c.open-2.ensures.acts

pub returns-clause-cause : goal.returns-clause-cause
returns-clause-cause g c = record { later = (new_both g.H.World.tells c.args.one.now c.args.two.now c.requires.one c.requires.two c.requires.apart (g.H.World.scene c.args.host.now) c.requires.settled (g.H.World.scene c.has_any_swap.new.host) c.in_ok-has_any_swap.ensures.reading.look.looks c.in_ok-has_any_swap.ensures.reading.look.frame c.in_ok-has_any_swap.ensures.reading.look.none (g.H.World.scene c.open.new.host) c.open.ensures.acts c.in_ok-first.ensures.none (g.H.World.scene c.open-2.new.host) c.open-2.ensures.acts).later; risen = λ of. absurd (cc) }

pub returns-clause-quiet : goal.returns-clause-quiet
returns-clause-quiet g c = λ other. c.in_ok-second.ensures.none.faults ∙ (mid_none g.H.World.tells c.args.one.now c.args.two.now c.requires.one c.requires.two c.requires.apart (g.H.World.scene c.args.host.now) c.requires.settled (g.H.World.scene c.has_any_swap.new.host) c.in_ok-has_any_swap.ensures.reading.look.looks c.in_ok-has_any_swap.ensures.reading.look.frame c.in_ok-has_any_swap.ensures.reading.look.none (g.H.World.scene c.open.new.host) c.open.ensures.acts c.in_ok-first.ensures.none (g.H.World.scene c.open-2.new.host) c.open-2.ensures.acts).faults
