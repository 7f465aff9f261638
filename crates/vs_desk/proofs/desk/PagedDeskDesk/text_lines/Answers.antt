-- The tree says at which call it failed, and the desk says the same.
use Rattle.std.proofs.Common.{IsTrue, refl, rules}
use Rattle.vs_pair.specs.Pair.{shown_in}
use Rattle.vs_desk.proofs.Above.{reads_counted}
use Rattle.vs_desk.proofs.Keeping.{all_shown, desk_read, pages_read}
use Rattle.vs_desk.proofs.desk.PagedDeskDesk.text_lines.Goals as goal

pub returns-in-Err-NoMemory-clause-kept : goal.returns-in-Err-NoMemory-clause-kept
returns-in-Err-NoMemory-clause-kept g c =
    let tells = g.F.World.tells in
    let kept = c.copy_lines.ensures.kept in
    let p = c.args.self.now.pages.pair.now in
    let q = c.copy_lines.new.pages.pair.now in
    let t = c.args.self.now.tree.now in
    let u = c.copy_lines.new.self in
    let old = g.F.World.scene c.args.self.now.pages.host.now in
    let new = g.F.World.scene c.copy_lines.new.pages.host.now in
    let looks = kept.stays.2 in
    let shown = λ (is : IsTrue tells.folder). all_shown (shown_in p old.folder) (shown_in q new.folder) (kept.present is) (kept.committed is) (kept.still.worked is) (kept.still.before is) (kept.commits is) refl in
    let same = pages_read tells p q t u old new c.copy_lines.ensures.tree looks shown in
    reads_counted _ _ (desk_read tells.folder p q t u old.folder new.folder same kept.valid c.requires.valid) (λ above. (search rules, search rules, search rules, same, above)) looks.frame looks.counts
    c.in-Err-NoMemory.ensures.cause (λ failed. absurd (cc)) (λ failed. let is = c.in-Err-NoMemory.field-0-is in absurd (cc))

pub returns-in-Err-Failed-clause-kept : goal.returns-in-Err-Failed-clause-kept
returns-in-Err-Failed-clause-kept g c =
    let tells = g.F.World.tells in
    let kept = c.copy_lines.ensures.kept in
    let p = c.args.self.now.pages.pair.now in
    let q = c.copy_lines.new.pages.pair.now in
    let t = c.args.self.now.tree.now in
    let u = c.copy_lines.new.self in
    let old = g.F.World.scene c.args.self.now.pages.host.now in
    let new = g.F.World.scene c.copy_lines.new.pages.host.now in
    let looks = kept.stays.2 in
    let shown = λ (is : IsTrue tells.folder). all_shown (shown_in p old.folder) (shown_in q new.folder) (kept.present is) (kept.committed is) (kept.still.worked is) (kept.still.before is) (kept.commits is) refl in
    let same = pages_read tells p q t u old new c.copy_lines.ensures.tree looks shown in
    reads_counted _ _ (desk_read tells.folder p q t u old.folder new.folder same kept.valid c.requires.valid) (λ above. (search rules, search rules, search rules, same, above)) looks.frame looks.counts
    c.in-Err-Failed.ensures.cause (λ failed. search rules) (λ failed. search rules)

pub returns-in-Ok-clause-kept : goal.returns-in-Ok-clause-kept
returns-in-Ok-clause-kept g c =
    let tells = g.F.World.tells in
    let kept = c.copy_lines.ensures.kept in
    let p = c.args.self.now.pages.pair.now in
    let q = c.copy_lines.new.pages.pair.now in
    let t = c.args.self.now.tree.now in
    let u = c.copy_lines.new.self in
    let old = g.F.World.scene c.args.self.now.pages.host.now in
    let new = g.F.World.scene c.copy_lines.new.pages.host.now in
    let looks = kept.stays.2 in
    let shown = λ (is : IsTrue tells.folder). all_shown (shown_in p old.folder) (shown_in q new.folder) (kept.present is) (kept.committed is) (kept.still.worked is) (kept.still.before is) (kept.commits is) refl in
    let same = pages_read tells p q t u old new c.copy_lines.ensures.tree looks shown in
    reads_counted _ _ (desk_read tells.folder p q t u old.folder new.folder same kept.valid c.requires.valid) (λ above. (search rules, search rules, search rules, same, above)) looks.frame looks.counts
    c.in-Ok.ensures.cause (λ failed. absurd (cc)) (λ failed. absurd (cc))
