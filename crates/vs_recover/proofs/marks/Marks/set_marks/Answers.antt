use Rattle.std.proofs.Common.{◌≡◌, ◌+◌, arith, ap, ◌∙◌, length, ℕ, List, Bool, true, false, get_or, length-set}
use Rattle.vs_pages.specs.Maps.{span}
use Rattle.vs_recover.specs.Marks.{used_in, free_in}
use Rattle.vs_recover.proofs.MarkLaws.{free_next, mark_more, free-set}
use Rattle.vs_recover.proofs.marks.Marks.set_marks.Goals as goal

pub set_mark-requires-clause-free : goal.set_mark-requires-clause-free
set_mark-requires-clause-free c = free_next c.args.self.now c.loop-page.self c.args.block c.args.pages c.loop-page.page (omega arith) c.requires.free (λ k. c.loop-page.invariant.used k)

pub loop-page-preserved : goal.loop-page-preserved
loop-page-preserved c =
    let now : List Bool = c.loop-page.self in
    let at : ℕ = c.args.block + c.loop-page.page in
    let free : get_or now at true ≡ false = free_next c.args.self.now now c.args.block c.args.pages c.loop-page.page (omega arith) c.requires.free (λ k. c.loop-page.invariant.used k) in
    record {
      len = ap length c.set_mark.ensures ∙ (length-set now at true ∙ c.loop-page.invariant.len);
      used = λ k. ap (λ (ms : List Bool). used_in ms k) c.set_mark.ensures ∙ mark_more c.args.self.now now c.args.block c.loop-page.page k free (c.loop-page.invariant.used k);
      free = omega (arith, ap (λ (ms : List Bool). free_in ms) c.set_mark.ensures, free-set now at free, c.loop-page.invariant.free);
    }

pub returns-clause-used : goal.returns-clause-used
returns-clause-used c = λ k. let all : c.loop-page.page ≡ c.args.pages = omega arith in c.loop-page.invariant.used k ∙ ap (λ n. used_in c.args.self.now k + span c.args.block n k) all

pub returns-clause-free : goal.returns-clause-free
returns-clause-free c = omega (arith, c.loop-page.invariant.free)
