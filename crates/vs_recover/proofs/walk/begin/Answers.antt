use Rattle.std.proofs.Common.{◌≡◌, ◌/◌, ◌++◌, ◌∙◌, List, ℕ, length, take, drop, reverse, arith, ap, refl, sym}
use Rattle.std.proofs.lemmas.List.{append-nil}
use Rattle.vs_ptr.specs.Blocks.{entries_of}
use Rattle.vs_recover.proofs.ReadingLaws.{file_has, no_memory, reads_none, reads_ok, reads_passed, reads_then}
use Rattle.vs_recover.proofs.SalvageLaws.{has_root, root_entries}
use Rattle.vs_recover.proofs.WalkedLaws.{block_loaded}
use Rattle.vs_recover.proofs.walk.begin.Goals as goal

pub returns-then-at-len-clause-reading : goal.returns-then-at-len-clause-reading
returns-then-at-len-clause-reading g c = reads_none g.F.World.tells (λ is. cc)

pub returns-in_err-block-clause-reading : goal.returns-in_err-block-clause-reading
returns-in_err-block-clause-reading g c = reads_none g.F.World.tells (no_memory _ c.from_residual.ensures.1)

pub returns-in_err-original-clause-reading : goal.returns-in_err-original-clause-reading
returns-in_err-original-clause-reading g c = reads_passed c.in_err-original.was c.from_residual-in_err-original.ensures.1 (omega arith) (reads_then c.in_ok-read_part.ensures.reading c.open_original.ensures.reading)

pub returns-clause-reading : goal.returns-clause-reading
returns-clause-reading g c = reads_ok (omega arith) (reads_then c.in_ok-read_part.ensures.reading c.in_ok-original.ensures.reading)

pub returns-clause-root : goal.returns-clause-root
returns-clause-root g c = λ file is.
    let size : ℕ = c.args.size in
    let s : c.from-at.result ≡ size = omega (arith, c.from-at.ensures) in
    let n : c.args.len ≡ length file = file_has _ _ _ file (λ f. c.args.len ≡ length f) c.requires.len is in
    let room : length c.deref_mut.result.now ≡ c.in_ok-block.block.len = omega (arith, c.deref_mut.ensures.len) in
    let len : length c.deref_mut.result.now ≡ size = omega (arith, room, c.in_ok-block.ensures.len) in
    let read = block_loaded file c.read_part.new.into c.in_ok-block.block.items c.deref.result.now c.from-at.result c.in_ok-block.block.len (length c.deref_mut.result.now) c.deref.ensures.value room (c.in_ok-read_part.ensures.value file is) (omega (arith, s, n, len, c.if-at-len.false)) in
    let bytes : c.deref.result.now ≡ take size (drop size file) = read ∙ (ap (λ k. take k (drop c.from-at.result file)) len ∙ ap (λ k. take size (drop k file)) s) in
    let same : c.deref-2.result.now ≡ c.deref.result.now = c.deref-2.ensures.value ∙ sym c.deref.ensures.value in (
      has_root file c.deref.result.now size c.args.len c.in-Ok.view n (omega (arith, s, c.if-at-len.false)) bytes (sym c.read.ensures.answer ∙ c.in-Ok.is),
      c.in_ok-push_entries.ensures.entries ∙ (ap (λ (es : List _). entries_of c.deref-2.result.now ++ reverse es) c.new-left.ensures.items ∙ (append-nil (entries_of c.deref-2.result.now) ∙ ap (λ bs. entries_of bs) (same ∙ bytes))),
    )

pub returns-clause-pages : goal.returns-clause-pages
returns-clause-pages g c =
    let s : c.from-at.result ≡ c.args.size = omega (arith, c.from-at.ensures) in
    let pages : c.args.len / c.from-at.result ≡ c.args.len / c.args.size = ap (λ k. c.args.len / k) s in (
      refl,
      c.in_ok-marks.ensures.len ∙ pages,
      c.in_ok-marks.ensures.free ∙ pages,
      root_entries c.deref.result.now c.in-Ok.view (length c.push_entries.new.left.items) (sym c.read.ensures.answer ∙ c.in-Ok.is) (omega (arith, c.in_ok-push_entries.ensures.len, ap length c.new-left.ensures.items)) (omega (arith, c.deref.ensures.len, c.in_ok-block.ensures.len, c.requires.most)),
    )
