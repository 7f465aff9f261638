use Rattle.std.proofs.Common.{◌≡◌, Some, None, option_copied, sym, ap, ◌∙◌}
use Rattle.std.proofs.lemmas.Option.{same_Some}
use Rattle.vs_ufile.specs.Values.{change_of}
use Rattle.vs_ubind.proofs.Takes.{save_kept, save_lost}
use Rattle.vs_ubind.proofs.numbering.kept_save.Goals as goal

pub returns-in-Some : goal.returns-in-Some
returns-in-Some c = λ changes all is. save_kept changes c.args.savers.now (change_of c.args.change.now) c.in-Some.number.now all (sym c.in-Some.ensures.value) c.if-number-change.true

pub returns-in_default : goal.returns-in_default
returns-in_default c = λ changes all is. save_lost changes c.args.savers.now (change_of c.args.change.now) all is (λ n here same. c.if-number-change.false (same_Some c.in-Some.number.now n (c.in-Some.ensures.value ∙ here) ∙ same))

pub returns-in_default-2 : goal.returns-in_default-2
returns-in_default-2 c = λ changes all is. save_lost changes c.args.savers.now (change_of c.args.change.now) all is (λ n here same. absurd (let e : None ≡ Some n = ap option_copied (sym c.in_default.is) ∙ (c.get.ensures.value ∙ here) in cc))
