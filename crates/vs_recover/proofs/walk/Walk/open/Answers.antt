use Rattle.std.proofs.Common.{◌≡◌, ◌≤◌, ◌+◌, ◌*◌, ◌/◌, ◌∙◌, List, ℕ, length, take, drop, reverse, arith, ap, subst}
use Rattle.vs_damaged.specs.Finds.{ShowsBlock, found_in}
use Rattle.vs_recover.proofs.ReadingLaws.{file_has, no_memory, reads_none, there_as}
use Rattle.vs_recover.proofs.WalkedLaws.{block_inside, block_loaded}
use Rattle.vs_recover.proofs.walk.Walk.open.Goals as goal

pub returns-in_err-block-clause-reading : goal.returns-in_err-block-clause-reading
returns-in_err-block-clause-reading g c = reads_none g.F.World.tells (no_memory _ c.from_residual.ensures.1)

pub read_part-requires : goal.read_part-requires
read_part-requires g c =
    let size : ℕ = c.args.self.now.size in
    let s : c.from-size.result ≡ size = omega (arith, c.from-size.ensures) in
    let p : c.from.result ≡ c.args.pages = omega (arith, c.from.ensures) in
    let both : c.from.result * c.from-size.result ≡ c.args.pages * size = ap (λ n. n * c.from-size.result) p ∙ ap (λ n. c.args.pages * n) s in
    let len : length c.deref_mut.result.now ≡ c.args.pages * size = omega (arith, c.deref_mut.ensures.len, c.in_ok-block.ensures.len, both) in
    let place : c.args.first * c.from-size.result ≡ c.args.first * size = ap (λ n. c.args.first * n) s in
    record {
      inside = there_as g.F.World.tells (g.F.World.scene c.args.host.now) c.args.swap.now (λ file. length c.args.self.now.marks ≡ length file / size)
          (λ file. c.args.first * c.from-size.result + length c.deref_mut.result.now ≤ length file)
          (λ file n. omega (arith, len, place, block_inside (length file) size c.args.first c.args.pages (length c.args.self.now.marks) n c.requires.near)) c.requires.count;
    }

pub returns-clause-shows : goal.returns-clause-shows
returns-clause-shows g c = λ file is.
    let size : ℕ = c.args.self.now.size in
    let s : c.from-size.result ≡ size = omega (arith, c.from-size.ensures) in
    let p : c.from.result ≡ c.args.pages = omega (arith, c.from.ensures) in
    let both : c.from.result * c.from-size.result ≡ c.args.pages * size = ap (λ n. n * c.from-size.result) p ∙ ap (λ n. c.args.pages * n) s in
    let len : length c.deref_mut.result.now ≡ c.args.pages * size = omega (arith, c.deref_mut.ensures.len, c.in_ok-block.ensures.len, both) in
    let room : length c.deref_mut.result.now ≡ c.in_ok-block.block.len = omega (arith, c.deref_mut.ensures.len) in
    let place : c.args.first * c.from-size.result ≡ c.args.first * size = ap (λ n. c.args.first * n) s in
    let n : length c.args.self.now.marks ≡ length file / size = file_has _ _ _ file (λ f. length c.args.self.now.marks ≡ length f / size) c.requires.count is in
    let inside : c.args.first * c.from-size.result + length c.deref_mut.result.now ≤ length file = omega (arith, len, place, block_inside (length file) size c.args.first c.args.pages (length c.args.self.now.marks) n c.requires.near) in
    let read = block_loaded file c.read_part.new.into c.in_ok-block.block.items c.deref.result.now (c.args.first * c.from-size.result) c.in_ok-block.block.len (length c.deref_mut.result.now) c.deref.ensures.value room (c.in_ok-read_part.ensures.value file is) inside in
    let count : length c.deref_mut.result.now ≡ size * c.args.pages = omega (arith, len) in
    let at : c.args.first * c.from-size.result ≡ size * c.args.first = omega (arith, place) in
    let bytes : c.deref.result.now ≡ take (size * c.args.pages) (drop (size * c.args.first) file) = read ∙ (ap (λ k. take k (drop (c.args.first * c.from-size.result) file)) count ∙ ap (λ k. take (size * c.args.pages) (drop k file)) at) in
    subst (λ (bs : List ℕ). ShowsBlock c.args.self.now.shown c.show.new.self.shown (reverse c.args.self.now.left.items) (reverse c.show.new.self.left.items) (found_in c.args.entry.now bs)) bytes c.in_ok-show.ensures.shows
