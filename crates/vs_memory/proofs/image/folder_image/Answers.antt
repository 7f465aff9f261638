use Rattle.std.proofs.Common.{rules, ◌≡◌, ◌-◌, ◌+◌, ℕ, min, List, length, take, ap, ◌∙◌, subst, arith}
use Rattle.std.specs.Prelude.{All}
use Rattle.std.proofs.lemmas.List.{take_all}
use Rattle.std.proofs.lemmas.List.Elements.{All-more}
use Rattle.vs_host.specs.Disk.{names_at}
use Rattle.vs_memory.specs.declared.names.NameChange.{NameChange}
use Rattle.vs_memory.specs.Memory.{Memory}
use Rattle.vs_memory.specs.Images.{kept_under, AreLeft, IsPut}
use Rattle.vs_memory.specs.Present.{disk_in}
use Rattle.vs_memory.proofs.Lefts.{folder_chosen, pending_long, all_reversed}
use Rattle.vs_memory.proofs.image.folder_image.Goals as goal

pub loop-change-preserved : goal.loop-change-preserved
loop-change-preserved c =
    let kept : List NameChange = take (c.len.result - (c.args.folder.now.pending - c.min.result)) c.deref.result.now in
    let item : NameChange = c.change-item.result in
    record {
      fresh = c.put_given.ensures.frame ∙ ap (λ (m : Memory). record m { base = c.put_given.new.host.base }) c.loop-change.invariant.fresh;
      left = c.put_given.ensures.left c.loop-change.invariant.left;
      put = All-more (IsPut kept c.put_given.new.host.base) kept c.loop-change.change-index item (omega arith)
          (λ j d lt name gives some. c.put_given.ensures.grows name (c.loop-change.invariant.put j d lt name gives some))
          (subst (λ (x : NameChange). IsPut kept c.put_given.new.host.base x) c.change-item.is c.in_ok-put_given.ensures.named);
    }

pub returns-clause-chosen : goal.returns-clause-chosen
returns-clause-chosen c =
    let folder = c.args.folder.now in
    let k : ℕ = c.len.result - (folder.pending - c.min.result) in
    let keep = c.args.choice.now.keep in
    let same : c.deref.result.now ≡ folder.changes.items = c.deref.ensures.value in
    let within = folder.sound.within in
    let size : c.len.result ≡ length folder.changes.items = search rules in
    let least : c.min.result ≡ min folder.pending c.args.choice.now.names = search rules in
    let long : k + (folder.pending - c.min.result) ≡ length folder.changes.items = omega arith in
    let whole : take c.loop-change.change-index (take k c.deref.result.now) ≡ take k c.deref.result.now = take_all c.loop-change.change-index (take k c.deref.result.now) (omega arith) in
    let put : All (IsPut (take k c.deref.result.now) c.loop-change.host.base) (take k c.deref.result.now) =
    subst (λ (cs : List NameChange). All (IsPut (take k c.deref.result.now) c.loop-change.host.base) cs) whole c.loop-change.invariant.put in
    let pending : length (disk_in folder).pending ≡ folder.pending = pending_long folder.changes.items folder.pending folder.files.items folder.sound.within in
    let unsynced : folder.pending - c.min.result ≡ length (disk_in folder).pending - c.args.choice.now.names = omega (arith, least, pending) in
    λ name.
    folder_chosen keep folder.changes.items folder.pending folder.files.items (folder.pending - c.min.result) k c.loop-change.host.base (omega arith) long
    (subst (λ (cs : List NameChange). AreLeft keep folder.files.items (take k cs) c.loop-change.host.base) same c.loop-change.invariant.left)
    (all_reversed (IsPut (take k folder.changes.items) c.loop-change.host.base) (take k folder.changes.items)
    (subst (λ (cs : List NameChange). All (IsPut (take k cs) c.loop-change.host.base) (take k cs)) same put)) name
    ∙ ap (λ (n : ℕ). kept_under keep (disk_in folder).files (names_at (disk_in folder) n name)) unsynced
