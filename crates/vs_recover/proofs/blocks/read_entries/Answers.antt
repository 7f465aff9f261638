use Rattle.std.proofs.Common.{◌≡◌, ◌+◌, [], ◌∷◌, ◌++◌, length, sym, subst, ◌∙◌, arith}
use Rattle.vs_ptr.specs.Blocks.{entries_of}
use Rattle.vs_ptr.proofs.Reading.{length-entries_of}
use Rattle.vs_swap.proofs.Pointers.{points_read, points_refused, pointers_none}
use Rattle.vs_recover.proofs.ChainLaws.{SoPointers, pointers_begin, pointers_more, pointers_end}
use Rattle.vs_recover.proofs.blocks.read_entries.Goals as goal

pub returns-in_default : goal.returns-in_default
returns-in_default c = points_refused c.args.bytes.now c.in_default.field-0 (sym c.in_default.ensures.answer)

pub returns-in_default-from_ptr : goal.returns-in_default-from_ptr
returns-in_default-from_ptr c =
    points_read c.args.bytes.now c.in-Ok.view (sym c.in-Ok.ensures.answer) ∙ pointers_none (entries_of c.args.bytes.now) c.loop-at.at c.entry.result c.entry.ensures (sym c.in_default-from_ptr.ensures)

pub loop-at-init : goal.loop-at-init
loop-at-init c = subst (λ es. SoPointers (entries_of c.args.bytes.now) 0 es) (sym c.new-entries.ensures.items) (pointers_begin (entries_of c.args.bytes.now))

pub loop-at-preserved : goal.loop-at-preserved
loop-at-preserved c =
    let items : c.push.new.self.items ≡ c.loop-at.entries.items ++ c.in-Some.entry ∷ [] = c.in_ok-push.ensures.items in
    subst (λ es. SoPointers (entries_of c.args.bytes.now) (c.loop-at.at + 1) es) (sym items) (pointers_more (entries_of c.args.bytes.now) c.loop-at.at c.entry.result c.in-Some.entry c.loop-at.entries.items c.entry.ensures c.in-Some.ensures c.loop-at.invariant)

pub returns : goal.returns
returns c =
    let size : length (entries_of c.args.bytes.now) ≡ c.in-Ok.view.count = length-entries_of c.args.bytes.now c.in-Ok.view (sym c.in-Ok.ensures.answer) in
    points_read c.args.bytes.now c.in-Ok.view (sym c.in-Ok.ensures.answer) ∙ pointers_end (entries_of c.args.bytes.now) c.loop-at.at c.loop-at.entries.items (omega (arith, size)) c.loop-at.invariant
