use Rattle.std.proofs.Common.{◌≤◌, ◌+◌, ◌++◌, ℕ, List, length, true, refl, sym, ap, ◌∙◌, arith}
use Rattle.std.specs.Int.{from_bool}
use Rattle.vs_text.specs.Documents.{line_end}
use Rattle.vs_damaged.specs.declared.shown.Shown.{Shown}
use Rattle.vs_damaged.specs.Items.{is_within}
use Rattle.vs_damaged.proofs.ShownLaws.{few_bytes, one_most, shows_last, shows_more}
use Rattle.vs_damaged.proofs.shown.Shown.push.Goals as goal

pub returns-then-not-has_room : goal.returns-then-not-has_room
returns-then-not-has_room c = λ item is one format items shows.
    let old : Shown = c.args.self.now in
    let most : old.lines ≤ 4000000 = shows.lines in
    let marked = ap (λ (s : Shown). s.markers) c.in_ok-add.ensures.others in
    shows_last format old (record { format = c.add.new.self.format; bytes = c.add.new.self.bytes; lines = c.add.new.self.lines; size = c.add.new.self.size; markers = c.saturating_add-self.result; full = true }) items item c.if-self.false
    (ap (λ (bs : List ℕ). is_within (old.lines + 1) (old.size + (length bs + 1))) is ∙ sym c.if-not-has_room.ensures)
    (c.in_ok-add.ensures.bytes ∙ ap (λ (bs : List ℕ). old.bytes.items ++ (bs ++ line_end old.format)) c.words.ensures)
    (ap (λ (s : Shown). s.format) c.in_ok-add.ensures.others) (ap (λ (s : Shown). s.lines) c.in_ok-add.ensures.others) (omega (arith, c.saturating_add-self.ensures, marked, most, shows.few, ap from_bool c.if-self.false)) refl shows

pub returns : goal.returns
returns c = λ item is one format items shows.
    let old : Shown = c.args.self.now in
    let most : old.lines ≤ 4000000 = shows.lines in
    let marked = ap (λ (s : Shown). s.markers) c.in_ok-add-2.ensures.others in
    let counted = ap (λ (s : Shown). s.lines) c.in_ok-add-2.ensures.others in
    let sized = ap (λ (s : Shown). s.size) c.in_ok-add-2.ensures.others in
    shows_more format old (record { format = c.add-2.new.self.format; bytes = c.add-2.new.self.bytes; lines = c.saturating_add-self-2.result; size = c.saturating_add-self-3.result; markers = c.saturating_add-self-4.result; full = c.add-2.new.self.full }) items item c.if-self.false
    (ap (λ (bs : List ℕ). is_within (old.lines + 1) (old.size + (length bs + 1))) is ∙ sym c.if-not-has_room.ensures)
    (c.in_ok-add-2.ensures.bytes ∙ ap (λ (bs : List ℕ). old.bytes.items ++ (bs ++ line_end old.format)) (sym is))
    (ap (λ (s : Shown). s.format) c.in_ok-add-2.ensures.others) (omega (arith, c.saturating_add-self-2.ensures, counted, most)) (omega (arith, c.saturating_add-self-3.ensures, sized, few_bytes (old.lines + 1) (old.size + (length c.args.line.now + 1)) (sym c.if-not-has_room.ensures), ap length is)) (omega (arith, c.saturating_add-self-4.ensures, marked, most, one, one_most item, shows.few, ap from_bool c.if-self.false))
    (ap (λ (s : Shown). s.full) c.in_ok-add-2.ensures.others) shows
