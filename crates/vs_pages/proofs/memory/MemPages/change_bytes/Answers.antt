use Rattle.std.proofs.Common.{List, [], ◌∷◌, ◌++◌, ap, ◌∙◌, refl, arith}
use Rattle.std.specs.Result.{is_ok}
use Rattle.vs_pages.specs.Maps.{numbers}
use Rattle.vs_pages.specs.Memory.{kept_of}
use Rattle.vs_pages.specs.declared.change.Patch.{Patch}
use Rattle.vs_pages.specs.declared.change.Change.{Change}
use Rattle.vs_pages.specs.declared.change.Change.TheVariants as kinds
use Rattle.vs_pages.proofs.Ends.{end_patched, gaps_more, near_patch}
use Rattle.vs_pages.proofs.Patches.{patch_back, patch_written, pushed}
use Rattle.vs_pages.proofs.TableLemmas.{written_within}
use Rattle.vs_pages.proofs.Undos.{can_more, reverse_last}
use Rattle.vs_pages.proofs.memory.MemPages.change_bytes.Goals as goal

pub invariant_of-self-2-clause-undo : goal.invariant_of-self-2-clause-undo
invariant_of-self-2-clause-undo c =
    let old = kept_of c.args.self.now in
    let patch : Patch = record { at = c.args.at; from = c.args.from; was = c.in_ok-was.was' } in
    let log = pushed (is_ok c.push.result) c.reserve.new.self.items c.push.new.self.items (kinds.Patch patch) c.push.ensures.items (c.push.ensures.succeeds (omega (arith, c.in_ok-reserve.ensures.ok)))
    ∙ ap (λ (cs : List Change). cs ++ kinds.Patch patch ∷ []) c.reserve.ensures.items in
    can_more _ old _ _ (kinds.Patch patch) _ _ (reverse_last c.push.new.self.items c.args.self.now.log.items (kinds.Patch patch) log)
    (record {
      inside = omega (arith, c.patch.ensures.places, written_within c.args.self.now.table.places.items c.args.at c.requires.written);
      within = omega (arith, c.in_ok-was.ensures.len, c.requires.within);
      written = patch_written old _ c.args.at c.args.from c.args.bytes.now c.patch.ensures.cells c.requires.written c.requires.within;
    })
    (patch_back old _ c.args.at c.args.from c.args.bytes.now c.patch.ensures.cells c.requires.written c.requires.within c.in_ok-was.was'.items c.in_ok-was.ensures.len c.in_ok-was.ensures.bytes)
    c.patch.ensures.places c.args.self.now.undo

pub invariant_of-self-2-clause-ends : goal.invariant_of-self-2-clause-ends
invariant_of-self-2-clause-ends c = end_patched _ _ _ c.args.at c.args.from c.args.bytes.now c.patch.ensures.cells c.args.self.now.ends

pub invariant_of-self-2-clause-no_gaps : goal.invariant_of-self-2-clause-no_gaps
invariant_of-self-2-clause-no_gaps c =
    let old = kept_of c.args.self.now in
    let patch : Patch = record { at = c.args.at; from = c.args.from; was = c.in_ok-was.was' } in
    let log = pushed (is_ok c.push.result) c.reserve.new.self.items c.push.new.self.items (kinds.Patch patch) c.push.ensures.items (c.push.ensures.succeeds (omega (arith, c.in_ok-reserve.ensures.ok)))
    ∙ ap (λ (cs : List Change). cs ++ kinds.Patch patch ∷ []) c.reserve.ensures.items in
    gaps_more _ old (kinds.Patch patch) _ _ (reverse_last c.push.new.self.items c.args.self.now.log.items (kinds.Patch patch) log)
    (patch_back old _ c.args.at c.args.from c.args.bytes.now c.patch.ensures.cells c.requires.written c.requires.within c.in_ok-was.was'.items c.in_ok-was.ensures.len c.in_ok-was.ensures.bytes)
    c.args.self.now.no_gaps (near_patch old _ c.args.at c.args.from c.args.bytes.now (numbers c.args.at 1) c.patch.ensures.cells)

pub returns-clause-ok : goal.returns-clause-ok
returns-clause-ok c =
    let old = kept_of c.args.self.now in
    let patch : Patch = record { at = c.args.at; from = c.args.from; was = c.in_ok-was.was' } in
    record {
      change = kinds.Patch patch;
      changes = reverse_last c.push.new.self.items c.args.self.now.log.items (kinds.Patch patch) (c.in_ok-push.ensures.items ∙ ap (λ (cs : List Change). cs ++ kinds.Patch patch ∷ []) c.reserve.ensures.items);
      was = patch_back old _ c.args.at c.args.from c.args.bytes.now c.patch.ensures.cells c.requires.written c.requires.within c.in_ok-was.was'.items c.in_ok-was.ensures.len c.in_ok-was.ensures.bytes;
      worked = refl;
      kept = c.patch.ensures.cells;
      commits = refl;
    }
