-- Lines go, and come; the text between keeps its bytes.
use Rattle.std.proofs.Common.{◌≡◌, ◌∙◌, ◌+◌, ◌-◌, ◌≤◌, ℕ, List, [], ◌++◌, All, length, refl, ap, sym, subst, arith}
use Rattle.std.proofs.lemmas.List.Elements.{All-nil}
use Rattle.std.proofs.lemmas.Result.{on_ok_weaker}
use Rattle.vs_text.specs.Limits.{IsShort}
use Rattle.vs_text.specs.Text.{bytes_of}
use Rattle.vs_text.specs.declared.TheConstants.{MAX_LINES}
use Rattle.vs_edit.specs.Splices.{cut_out, splice}
use Rattle.vs_edit.proofs.SpliceLemmas.{bytes_of-splice_le}
use Rattle.vs_excmd.specs.Change.{size_of}
use Rattle.vs_excmd.specs.Place.{IsPlaceIn}
use Rattle.vs_global.specs.Global.{come_to}
use Rattle.vs_global.proofs.MoveLemmas.{comes-within, moved-bytes, moved-twice, two-as}
use Rattle.vs_global.proofs.moving.move_lines.Goals as goal

pub splice-requires-clause-allowed : goal.splice-requires-clause-allowed
splice-requires-clause-allowed g c =
    let law = g.met.S.LineStore in
    let place = c.args.place in
    let kept = c.in_ok-push_lines.ensures.kept in
    let top_is : c.before-top.result ≡ place.lines.first - 1 = c.before-top.ensures in
    let size_is : c.size-size.result ≡ place.lines.last - (place.lines.first - 1) = c.size-size.ensures in
    let lies = c.requires.lies.lies in
    let empty : bytes_of [] ≡ 0 = refl in
    let few : (g.S.LineStore.shows c.push_lines.new.view).present.lines + 0 ≤ MAX_LINES + c.size-size.result = omega (arith, law.few_lines c.push_lines.new.view kept.valid) in
    record {
      within = omega (arith, top_is, size_is, lies.order, lies.within, c.requires.positive, kept.present.lines);
      few_lines = few;
      short_lines = All-nil IsShort;
      few_bytes = λ text has.
          let in_text : c.before-top.result + c.size-size.result ≤ length text =
          omega (arith, top_is, size_is, lies.order, lies.within, c.requires.positive, kept.present.lines, law.has_lines c.push_lines.new.view text has) in
          omega (arith, empty, bytes_of-splice_le text [] c.before-top.result c.size-size.result in_text, (law.has_within c.push_lines.new.view text kept.valid has).few_bytes);
    }

pub splice-requires-2-clause-allowed : goal.splice-requires-2-clause-allowed
splice-requires-2-clause-allowed g c =
    let law = g.met.S.LineStore in
    let place = c.args.place in
    let kept = c.in_ok-push_lines.ensures.kept in
    let went = c.in_ok-splice.ensures in
    let room = comes-within place (g.S.LineStore.shows c.args.view.now).present.lines c.requires.lies c.requires.positive c.requires.outside in
    let size_is : c.size-size.result ≡ size_of place.lines = c.size-size.ensures in
    let at_is : c.come_to.result ≡ come_to place = c.come_to.ensures in
    let none = c.new-lines.ensures.items in
    let put = c.deref.ensures.value in
    let count = c.in_ok-push_lines.ensures.count in
    record {
      within = omega (arith, room, size_is, at_is, went.ok.lines, kept.present.lines);
      few_lines = omega (arith, law.few_lines c.push_lines.new.view kept.valid, went.ok.lines, count, ap (λ (l : List (List ℕ)). length l) none, ap (λ (l : List (List ℕ)). length l) put);
      short_lines = subst (All IsShort) (sym put) (c.in_ok-push_lines.ensures.short (subst (All IsShort) (sym none) (All-nil IsShort)));
      few_bytes = λ text has.
          let was = law.tells_one c.args.view.now c.requires.valid (law.has_told c.splice.new.self text has) in
          let start = was.0 in
          let lines = law.has_lines c.args.view.now start was.1 in
          let lies = subst (λ (n : ℕ). IsPlaceIn n place) (sym lines) c.requires.lies in
          let same : text ≡ splice start c.before-top.result c.size-size.result [] = law.has_one c.splice.new.self text _ has (went.ok.text start (kept.present.text start was.1)) in
          let read = put ∙ c.in_ok-push_lines.ensures.lines start was.1 ∙ ap (λ (l : List (List ℕ)). l ++ cut_out start c.before-top.result c.size-size.result) none in
          let whole = two-as start place text c.deref.result.now c.before-top.result c.size-size.result c.come_to.result c.before-top.ensures size_is at_is same read in
          omega (arith, ap bytes_of whole, moved-bytes start place lies c.requires.positive c.requires.outside, (law.has_within c.args.view.now start c.requires.valid was.1).few_bytes);
    }

pub returns-clause-text : goal.returns-clause-text
returns-clause-text g c = on_ok_weaker c.splice-2.result
    (λ came text change has is.
    let law = g.met.S.LineStore in
    let place = c.args.place in
    let lies = subst (λ (n : ℕ). IsPlaceIn n place) (sym (law.has_lines c.args.view.now text has)) c.requires.lies in
    let gone = splice text c.before-top.result c.size-size.result [] in
    let left = c.in_ok-splice.ensures.ok.text text (c.in_ok-push_lines.ensures.kept.present.text text has) in
    let read = c.deref.ensures.value ∙ c.in_ok-push_lines.ensures.lines text has ∙ ap (λ (l : List (List ℕ)). l ++ cut_out text c.before-top.result c.size-size.result) c.new-lines.ensures.items in
    let whole = two-as text place gone c.deref.result.now c.before-top.result c.size-size.result c.come_to.result c.before-top.ensures c.size-size.ensures c.come_to.ensures refl read in
    subst (λ (l : List (List ℕ)). (g.S.LineStore.shows c.splice-2.new.self).present.Is l) (whole ∙ moved-twice text place change lies c.requires.positive c.requires.outside is)
    (came.text gone left)) c.splice-2.ensures.ok
