use Rattle.std.proofs.Common.{◌≡◌, ◌∙◌, Some, None, sym, subst, Result, ℕ}
use Rattle.std.proofs.lemmas.Bool.{true≢false}
use Rattle.vs_text.specs.Documents.{file_in}
use Rattle.vs_host.specs.Disk.{mode_in}
use Rattle.vs_host.specs.World.{Scene}
use Rattle.vs_disk.proofs.Contents.{some_content}
use Rattle.vs_backup.proofs.NamesApart.{no_backup}
use Rattle.vs_backup.proofs.Whole.{chosen_others, chosen_somewhere, plain_others}
use Rattle.vs_backup.proofs.Modes.{makes_any}
use Rattle.vs_backup.proofs.Doing as doing
use Rattle.vs_backup.specs.Writing.{FailsNoEarlier}
use Rattle.vs_backup.specs.declared.errors.WriteErr.{WriteErr}
use Rattle.vs_backup.proofs.write.write_there.Goals as goal

pub returns-clause-backed : goal.returns-clause-backed
returns-clause-backed g c told old content backup chosen text has =
    let none = no_backup c.args.options.now c.args.name.now (g.D.World.scene c.args.desk.now).folder (sym c.backs_up.ensures ∙ c.if-backs_up.false) in
    let clash : None ≡ Some backup = sym none ∙ chosen in cc

pub returns-clause-plain : goal.returns-clause-plain
returns-clause-plain g c told old content off text has = record {
  answer = c.write_unbacked.result;
  is = c.without_backup.ensures;
  plain = c.write_unbacked.ensures.plain told old content text has;
}

pub returns-then-backs_up-clause-others : goal.returns-then-backs_up-clause-others
returns-then-backs_up-clause-others g c told =
    let s0 : Scene = g.D.World.scene c.args.desk.now in
    let s1 : Scene = g.D.World.scene c.write_chosen.new.desk in
    let had = some_content s0.folder c.args.name.now (c.requires.there told) in
    let text = g.met.D.Desk.tells_one c.args.desk.now c.requires.valid told in
    chosen_others c.args.options.now c.args.name.now s0 s1 had.0 (file_in c.args.options.now.format text.0) c.write_chosen.result (c.requires.there told)
    (λ backup chosen. c.write_chosen.ensures.backed told had.0 had.1 backup chosen text.0 text.1) (λ none. c.write_chosen.ensures.all_taken told none)

pub returns-clause-others : goal.returns-clause-others
returns-clause-others g c told =
    let s0 : Scene = g.D.World.scene c.args.desk.now in
    let s1 : Scene = g.D.World.scene c.write_unbacked.new.desk in
    let had = some_content s0.folder c.args.name.now (c.requires.there told) in
    let text = g.met.D.Desk.tells_one c.args.desk.now c.requires.valid told in
    plain_others c.args.options.now c.args.name.now s0 s1 had.0 (file_in c.args.options.now.format text.0) c.write_unbacked.result (c.write_unbacked.ensures.plain told had.0 had.1 text.0 text.1)

pub returns-then-backs_up-clause-somewhere : goal.returns-then-backs_up-clause-somewhere
returns-then-backs_up-clause-somewhere g c told on refused =
    let s0 : Scene = g.D.World.scene c.args.desk.now in
    let s1 : Scene = g.D.World.scene c.write_chosen.new.desk in
    let had = some_content s0.folder c.args.name.now (c.requires.there told) in
    let text = g.met.D.Desk.tells_one c.args.desk.now c.requires.valid told in
    chosen_somewhere c.args.options.now c.args.name.now s0 s1 had.0 (file_in c.args.options.now.format text.0) c.write_chosen.result
    (λ backup chosen. c.write_chosen.ensures.backed told had.0 had.1 backup chosen text.0 text.1) (λ none. c.write_chosen.ensures.all_taken told none) refused

pub returns-clause-somewhere : goal.returns-clause-somewhere
returns-clause-somewhere g c told on refused = true≢false (sym on ∙ sym c.backs_up.ensures ∙ c.if-backs_up.false)

pub returns-clause-calls : goal.returns-clause-calls
returns-clause-calls g c = λ told text has. let had = some_content (g.D.World.scene c.args.desk.now).folder c.args.name.now (c.requires.there told) in subst (λ (r : Result ℕ WriteErr). FailsNoEarlier c.args.name.now (file_in c.args.options.now.format text) (g.D.World.scene c.args.desk.now) (g.D.World.scene c.write_unbacked.new.desk) r) (sym c.without_backup.ensures) (doing.fails_plain c.args.name.now (file_in c.args.options.now.format text) g.D.World.tells c.write_unbacked.result (g.D.World.scene c.args.desk.now) (g.D.World.scene c.write_unbacked.new.desk) told (g.D.World.newest c.write_unbacked.new.desk told) c.write_unbacked.ensures.kept.stops c.write_unbacked.ensures.kept.cause (c.write_unbacked.ensures.plain told had.0 had.1 text has).written)

pub returns-clause-modes : goal.returns-clause-modes
returns-clause-modes g c = makes_any (mode_in (g.D.World.scene c.args.desk.now).folder c.args.name.now) c.write_unbacked.ensures.modes
