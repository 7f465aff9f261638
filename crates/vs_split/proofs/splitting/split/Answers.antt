use Rattle.std.proofs.Common.{◌∙◌, sym, ◌≢◌, ◌-◌, drop, length}
use Rattle.std.proofs.lemmas.List.Elements.{All-drop, All-take}
use Rattle.vs_split.proofs.Tags.{tag_none, tag_one, tag_two}
use Rattle.vs_split.proofs.splitting.split.Goals as goal

pub returns-then-starts_with-clause-tag : goal.returns-then-starts_with-clause-tag
returns-then-starts_with-clause-tag c = λ more kept. tag_one c.args.line.now more kept (sym c.starts_with.ensures.value ∙ c.if-starts_with.true)

pub returns-then-starts_with-2-clause-tag : goal.returns-then-starts_with-2-clause-tag
returns-then-starts_with-2-clause-tag c = λ more kept.
    tag_two c.args.line.now more kept (sym c.starts_with.ensures.value ∙ c.if-starts_with.false) (sym c.starts_with-2.ensures.value ∙ c.if-starts_with-2.true)

pub returns-clause-tag : goal.returns-clause-tag
returns-clause-tag c = λ more kept.
    tag_none c.args.line.now more kept (sym c.starts_with.ensures.value ∙ c.if-starts_with.false) (sym c.starts_with-2.ensures.value ∙ c.if-starts_with-2.false)

pub returns-then-starts_with-clause-line : goal.returns-then-starts_with-clause-line
returns-then-starts_with-clause-line c =
    All-take (λ byte. byte ≢ 10) (length c.args.line.now - 2) (drop 2 c.args.line.now) (All-drop (λ byte. byte ≢ 10) 2 c.args.line.now c.requires)

pub returns-then-starts_with-2-clause-line : goal.returns-then-starts_with-2-clause-line
returns-then-starts_with-2-clause-line c =
    All-take (λ byte. byte ≢ 10) (length c.args.line.now - 2) (drop 2 c.args.line.now) (All-drop (λ byte. byte ≢ 10) 2 c.args.line.now c.requires)
