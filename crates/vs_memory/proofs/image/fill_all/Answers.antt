use Rattle.std.proofs.Common.{◌≡◌, ◌+◌, ◌++◌, ◌∷◌, [], ◌∙◌, List, ℕ, take, sym, ap, arith}
use Rattle.std.proofs.lemmas.List.{take_more}
use Rattle.vs_memory.specs.declared.file.Changed.{Changed}
use Rattle.vs_memory.specs.Folders.{ranges_of}
use Rattle.vs_memory.specs.Images.{filled}
use Rattle.vs_memory.proofs.Fills.{filled_none, filled_more}
use Rattle.vs_memory.proofs.image.fill_all.Goals as goal

pub loop-range-init : goal.loop-range-init
loop-range-init c = sym (filled_none c.args.byte c.args.bytes.now)

pub loop-range-preserved : goal.loop-range-preserved
loop-range-preserved c =
    let i : ℕ = c.loop-range.range-index in
    let range : Changed = c.range-item.result in
    let more : take (i + 1) c.args.ranges.now ≡ take i c.args.ranges.now ++ range ∷ [] =
    take_more c.args.ranges.now i range (omega arith) ∙ ap (λ (r : Changed). take i c.args.ranges.now ++ r ∷ []) (sym c.range-item.is) in
    filled_more c.args.bytes.now c.loop-range.bytes c.fill.new.bytes (take i c.args.ranges.now) range c.args.byte c.loop-range.invariant c.fill.ensures.size c.fill.ensures.inside c.fill.ensures.outside
    ∙ ap (λ (rs : List Changed). filled (ranges_of rs) c.args.byte c.args.bytes.now) (sym more)
