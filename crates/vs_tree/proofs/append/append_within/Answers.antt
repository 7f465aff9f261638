use Rattle.std.proofs.Common.{◌≡◌, ◌≤◌, ℕ, List, [], ◌++◌, All, length, map, sym, ap, subst, ◌∙◌, arith, append-nil}
use Rattle.std.proofs.lemmas.Result.{IfOk-weaker}
use Rattle.vs_text.specs.Text.{bytes_of, file_of, lines_of, stored_line}
use Rattle.vs_tree_blocks.specs.Blocks.{data_blocks}
use Rattle.vs_tree.specs.Packed.{ArePut, IsWhole, PacksText}
use Rattle.vs_tree.proofs.OwnBlocks.{put_behind}
use Rattle.vs_text.specs.Limits.{IsShort}
use Rattle.vs_tree.specs.declared.texts.Extent.{Extent}
use Rattle.vs_tree.specs.Texts.{HasText}
use Rattle.vs_tree.proofs.AppendLemmas.{lines_none, sized}
use Rattle.vs_tree.proofs.append.append_within.Goals as goal

pub returns-then-is_empty-clause-text : goal.returns-then-is_empty-clause-text
returns-then-is_empty-clause-text g c =
    let none : length c.bytes-bytes.result.now ≡ 0 = grind arith in
    let no_lines : c.args.lines.now ≡ [] = sym c.bytes-bytes.ensures.lines ∙ lines_none c.bytes-bytes.result.now none in λ told text has.
    let H : List (List ℕ) → Type 0 = λ xs. HasText (g.P.Pages.shows c.args.pages.now).present c.args.now xs in
    subst H (sym (ap (λ (ls : List (List ℕ)). text ++ ls) no_lines ∙ append-nil text)) has

pub returns-then-is_empty-clause-lines : goal.returns-then-is_empty-clause-lines
returns-then-is_empty-clause-lines g c =
    let none : length c.bytes-bytes.result.now ≡ 0 = grind arith in
    omega (arith, ap length (sym c.bytes-bytes.ensures.lines ∙ lines_none c.bytes-bytes.result.now none))

pub begin_text-requires-clause-size : goal.begin_text-requires-clause-size
begin_text-requires-clause-size g c = omega (arith, sized c.args.lines.now c.bytes-bytes.result.now c.bytes-bytes.ensures.bytes, ap bytes_of c.bytes-bytes.ensures.lines)

pub begin_text-requires-clause-few_lines : goal.begin_text-requires-clause-few_lines
begin_text-requires-clause-few_lines g c = omega (arith, ap length c.bytes-bytes.ensures.lines, c.requires.few_lines)

pub begin_text-requires-clause-short_lines : goal.begin_text-requires-clause-short_lines
begin_text-requires-clause-short_lines g c = subst (λ (ls : List (List ℕ)). All IsShort ls) (sym c.bytes-bytes.ensures.lines) c.requires.short_lines

pub begin_text-requires-clause-few_bytes : goal.begin_text-requires-clause-few_bytes
begin_text-requires-clause-few_bytes g c = omega (arith, sized c.args.lines.now c.bytes-bytes.result.now c.bytes-bytes.ensures.bytes, c.requires.few_bytes)

pub returns-then-now-eq0-clause-text : goal.returns-then-now-eq0-clause-text
returns-then-now-eq0-clause-text g c = IfOk-weaker c.begin_text.result _ _
    (λ (extent : Extent) appended told text has.
    let H : List (List ℕ) → Type 0 = λ ls. HasText (g.P.Pages.shows c.begin_text.new.pages).present extent (text ++ ls) in
    subst H c.bytes-bytes.ensures.lines (appended told text has))
    c.begin_text.ensures.text

pub returns-then-now-eq0-clause-lines : goal.returns-then-now-eq0-clause-lines
returns-then-now-eq0-clause-lines g c = IfOk-weaker c.begin_text.result _ _
    (λ (extent : Extent) lines. omega (arith, lines, ap length c.bytes-bytes.ensures.lines)) c.begin_text.ensures.lines

pub append_text-requires-clause-size : goal.append_text-requires-clause-size
append_text-requires-clause-size g c = omega (arith, sized c.args.lines.now c.bytes-bytes.result.now c.bytes-bytes.ensures.bytes, ap bytes_of c.bytes-bytes.ensures.lines)

pub append_text-requires-clause-few_lines : goal.append_text-requires-clause-few_lines
append_text-requires-clause-few_lines g c = omega (arith, ap length c.bytes-bytes.ensures.lines, c.requires.few_lines)

pub append_text-requires-clause-short_lines : goal.append_text-requires-clause-short_lines
append_text-requires-clause-short_lines g c = subst (λ (ls : List (List ℕ)). All IsShort ls) (sym c.bytes-bytes.ensures.lines) c.requires.short_lines

pub append_text-requires-clause-few_bytes : goal.append_text-requires-clause-few_bytes
append_text-requires-clause-few_bytes g c = omega (arith, sized c.args.lines.now c.bytes-bytes.result.now c.bytes-bytes.ensures.bytes, c.requires.few_bytes)

pub returns-clause-text : goal.returns-clause-text
returns-clause-text g c = IfOk-weaker c.append_text.result _ _
    (λ (extent : Extent) appended told text has.
    let H : List (List ℕ) → Type 0 = λ ls. HasText (g.P.Pages.shows c.append_text.new.pages).present extent (text ++ ls) in
    subst H c.bytes-bytes.ensures.lines (appended told text has))
    c.append_text.ensures.text

pub returns-clause-lines : goal.returns-clause-lines
returns-clause-lines g c = IfOk-weaker c.append_text.result _ _
    (λ (extent : Extent) lines. omega (arith, lines, ap length c.bytes-bytes.ensures.lines)) c.append_text.ensures.lines

pub returns-clause-few : goal.returns-clause-few
returns-clause-few g c = IfOk-weaker c.append_text.result _ _
    (λ (extent : Extent) bytes. omega (arith, bytes, sized c.args.lines.now c.bytes-bytes.result.now c.bytes-bytes.ensures.bytes, c.requires.few_bytes)) c.append_text.ensures.bytes

pub returns-then-is_empty-clause-filled : goal.returns-then-is_empty-clause-filled
returns-then-is_empty-clause-filled g c = λ told f. f

-- bytes that are the file form of lines are whole
whole_bytes : (bytes : List ℕ) (lines : List (List ℕ)) → bytes ≡ file_of lines → lines_of bytes ≡ lines → IsWhole bytes
whole_bytes bytes lines is of = ap file_of of ∙ sym is

pub returns-then-is_empty-clause-packed : goal.returns-then-is_empty-clause-packed
returns-then-is_empty-clause-packed g c =
    let none : length c.bytes-bytes.result.now ≡ 0 = grind arith in
    let no_lines : c.args.lines.now ≡ [] = sym c.bytes-bytes.ensures.lines ∙ lines_none c.bytes-bytes.result.now none in
    λ told. put_behind _ _ c.args.now.lines _ (λ some. absurd (omega (arith, some, ap length (ap (λ (ls : List (List ℕ)). map stored_line ls) no_lines))))

pub returns-then-now-eq0-clause-packed : goal.returns-then-now-eq0-clause-packed
returns-then-now-eq0-clause-packed g c = IfOk-weaker c.begin_text.result _ _
    (λ (extent : Extent) packed.
    subst (λ (ls : List (List ℕ)). PacksText g.P.Pages c.begin_text.new.pages c.args.now extent ls) c.bytes-bytes.ensures.lines
    (packed (whole_bytes c.bytes-bytes.result.now c.args.lines.now c.bytes-bytes.ensures.bytes c.bytes-bytes.ensures.lines)))
    c.begin_text.ensures.packed

pub returns-clause-packed : goal.returns-clause-packed
returns-clause-packed g c = IfOk-weaker c.append_text.result _ _
    (λ (extent : Extent) packed told.
    put_behind _ _ c.args.now.lines _
    (subst (λ (ls : List (List ℕ)). 1 ≤ length (map stored_line ls) → ArePut (data_blocks (g.P.Pages.shows c.append_text.new.pages).present extent.height) c.args.now.lines (map stored_line ls) []) c.bytes-bytes.ensures.lines
    (packed (whole_bytes c.bytes-bytes.result.now c.args.lines.now c.bytes-bytes.ensures.bytes c.bytes-bytes.ensures.lines) told)))
    c.append_text.ensures.packed
