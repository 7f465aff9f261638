use Rattle.std.proofs.Common.{◌≤◌, ◌+◌, ◌*◌, length, arith, ◌∙◌, ap, refl, subst, sym}
use Rattle.vs_host.specs.Disk.{Disk}
use Rattle.vs_disk.proofs.Quiet.{none_fails, none_then}
use Rattle.vs_pages.specs.Memory.{AreBacked}
use Rattle.vs_pair.specs.Held.{held_from, pages_under}
use Rattle.vs_pair.specs.Writes.{page_or_zeros}
use Rattle.vs_pair.proofs.PageWrites.{length-run, run_more, run_none}
use Rattle.vs_pair.proofs.ReadLemmas.{is_failed, only_as, only_folder, only_none, only_then}
use Rattle.vs_pair.proofs.writing.fill_run.Goals as goal

pub loop-next-init : goal.loop-next-init
loop-next-init g c = record {
  size = refl;
  pages = λ told. run_none (held_from c.args.pages.now (g.F.World.scene c.args.host.now).folder c.args.from.now).committed c.args.at c.args.run.now;
  reads = only_none g.F.World.tells ⊥ _ 0 (λ failed. failed);
  none = none_fails g.F.World.tells _;
}

pub copy_page-requires-clause-backed : goal.copy_page-requires-clause-backed
copy_page-requires-clause-backed g c told =
    subst (λ (d : Disk). AreBacked (pages_under d c.args.from.now) c.args.pages.now) (sym (only_folder g.F.World.tells _ _ _ _ c.loop-next.invariant.reads)) (c.requires.backed told)

pub returns-in_err-copy_page-clause-reads : goal.returns-in_err-copy_page-clause-reads
returns-in_err-copy_page-clause-reads g c =
    only_then g.F.World.tells _ _ _ _ _ c.loop-next.next 1 _ (omega (arith, c.loop-next-test.true)) c.loop-next.invariant.none c.loop-next.invariant.reads
    (only_as g.F.World.tells _ _ _ _ 1 1 (omega arith) (λ failed. is_failed c.copy_page.result _ c.in_err-copy_page.was) c.copy_page.ensures.reads)

pub loop-next-preserved : goal.loop-next-preserved
loop-next-preserved g c =
    let room : 4096 * (c.loop-next.next + 1) ≤ length c.loop-next.run = omega (arith, c.loop-next.invariant.size, c.requires.room, c.loop-next-test.true) in
    record {
      size = length-run c.loop-next.run c.copy_page.new.into c.put_page.new.run (c.loop-next.next * 4096) c.put_page.ensures (omega (arith, room, c.copy_page.ensures.size))
          ∙ c.loop-next.invariant.size;
      pages = λ told.
          run_more (held_from c.args.pages.now (g.F.World.scene c.args.host.now).folder c.args.from.now).committed c.args.at c.loop-next.next (c.loop-next.next * 4096) c.loop-next.run c.copy_page.new.into c.put_page.new.run c.put_page.ensures (omega arith)
          c.copy_page.ensures.size room
          (c.in_ok-copy_page.ensures.page told ∙ ap (λ (d : Disk). page_or_zeros ((held_from c.args.pages.now d c.args.from.now).committed (c.args.at + c.loop-next.next))) (only_folder g.F.World.tells _ _ _ _ c.loop-next.invariant.reads))
          (c.loop-next.invariant.pages told);
      reads = only_then g.F.World.tells _ _ _ _ _ c.loop-next.next 1 _ (omega arith) c.loop-next.invariant.none c.loop-next.invariant.reads (only_as g.F.World.tells _ ⊥ _ _ 1 1 (omega arith) (λ never. absurd never) c.copy_page.ensures.reads);
      none = none_then g.F.World.tells _ _ _ c.loop-next.invariant.none c.in_ok-copy_page.ensures.none;
    }

pub returns-clause-reads : goal.returns-clause-reads
returns-clause-reads g c = only_as g.F.World.tells ⊥ _ _ _ c.loop-next.next _ (omega (arith, c.loop-next.auto.next-end)) (λ failed. absurd (cc)) c.loop-next.invariant.reads
