use Rattle.std.proofs.Common.{◌≡◌, ◌≢◌, ◌++◌, ◌∷◌, [], ℕ, List, map, Result, sym, ap, ◌∙◌}
use Rattle.std.proofs.lemmas.Result.{on_ok_weaker}
use Rattle.std.specs.Prelude.{pos}
use Rattle.std.specs.List.{range_with_len}
use Rattle.vs_data.specs.declared.DataErr.{DataErr}
use Rattle.vs_data.specs.declared.DataView.{DataView}
use Rattle.vs_data.specs.Blocks.{bounds_in}
use Rattle.vs_damaged.specs.declared.shown.Marker.TheVariants.{LineCountWrong}
use Rattle.vs_damaged.specs.Finds.{data_items, item_at}
use Rattle.vs_damaged.specs.Items.{Item, TheMarker}
use Rattle.vs_damaged.proofs.FindLaws.{count_other}
use Rattle.vs_damaged.proofs.ShownLaws.{shown_next}
use Rattle.vs_damaged.proofs.finds.show_data.Goals as goal

pub returns-then-from-entry : goal.returns-then-from-entry
returns-then-from-entry c =
    let block : List ℕ = c.args.block.now in
    let lines : List Item = map (λ line. item_at block c.in-Ok.view line) (range_with_len 0 c.in-Ok.view.count) in
    let all : List Item = data_items c.args.entry.now block (bounds_in block) in
    let other : pos c.in-Ok.view.count ≢ c.args.entry.now.lines = λ same. c.if-from-entry.true (let is : c.from.result ≡ c.args.entry.now.lines = c.from.ensures ∙ same in cc) in
    let all_is : all ≡ lines ++ TheMarker LineCountWrong ∷ [] =
    ap (λ (r : Result DataView DataErr). data_items c.args.entry.now block r) (sym c.bounds.ensures ∙ c.in-Ok.is) ∙ ap (λ (ys : List Item). lines ++ ys) (count_other c.args.entry.now.lines c.in-Ok.view.count other) in
    on_ok_weaker c.push_marker-then-from-entry.result
    (λ pushed format items shows. shown_next format c.push_marker-then-from-entry.new.self items lines all (TheMarker LineCountWrong) all_is (pushed format (items ++ lines) (c.in_ok-show_lines.ensures format items shows)))
    c.push_marker-then-from-entry.ensures
