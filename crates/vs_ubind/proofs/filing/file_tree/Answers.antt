use Rattle.std.proofs.Common.{◌≡◌, ◌∙◌, length, sym, ap, subst, arith}
use Rattle.std.proofs.lemmas.List.{length-map}
use Rattle.vs_ufile.specs.Values.{change_of}
use Rattle.vs_ubind.specs.Meaning.{Means}
use Rattle.vs_ubind.specs.Unbound.{saved_change, with_next}
use Rattle.vs_ufile.specs.Decode.{IsWellFormed}
use Rattle.vs_ubind.proofs.Known.{formed_next}
use Rattle.vs_ubind.proofs.Marked.{filed_next}
use Rattle.vs_ubind.proofs.Meant.{means_next}
use Rattle.vs_ubind.proofs.filing.file_tree.Goals as goal

pub returns-clause-data : goal.returns-clause-data
returns-clause-data c =
    let parts = c.args.parts.now in
    let changes = c.in_ok-changes.ensures in
    let heads : c.in_ok-narrow-4.field-0 ≡ length parts.nodes =
    omega (arith, c.in_ok-narrow-4.ensures, c.len.ensures, ap length changes, length-map c.in_ok-changes.changes.items change_of, length-map parts.nodes (saved_change c.args.save_next parts)) in
    (λ i. record {
      digest = c.args.digest;
      lines = c.args.lines;
      oldest = c.in_ok-narrow.ensures i;
      newest = (c.in_ok-narrow-2.ensures ∙ c.newest_of.ensures) i;
      current_head = (c.in_ok-narrow-3.ensures ∙ c.last_child.ensures) i;
      heads = heads i;
      last = c.in_ok-narrow-5.ensures i;
      current = c.in_ok-narrow-6.ensures i;
      time = c.time_of.ensures i;
      last_save = (c.in_ok-narrow-7.ensures ∙ c.last_save_of.ensures) i;
      changes = changes i;
    })
    ∙ filed_next c.args.save_next c.args.digest c.args.lines parts c.requires.sound.numbers.rising

pub returns-clause-formed : goal.returns-clause-formed
returns-clause-formed c =
    subst IsWellFormed (sym (returns-clause-data c)) (formed_next c.args.save_next c.args.digest c.args.lines c.args.parts.now c.requires.sound c.requires.long)

pub returns-clause-means : goal.returns-clause-means
returns-clause-means c =
    subst (λ d. Means d (with_next c.args.save_next c.args.parts.now)) (sym (returns-clause-data c)) (means_next c.args.save_next c.args.digest c.args.lines c.args.parts.now c.requires.sound)
