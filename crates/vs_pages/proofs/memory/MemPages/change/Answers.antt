use Rattle.std.proofs.Common.{◌≡◌, ◌<◌, ℕ, true, List, [], ◌∷◌, ◌++◌, Option, is_some, length, ap, sym, subst, ◌∙◌, arith}
use Rattle.std.specs.Result.{is_ok}
use Rattle.vs_pages.specs.Cells.{Cells, is_away}
use Rattle.vs_pages.specs.Maps.{numbers}
use Rattle.vs_pages.specs.History.{put_places}
use Rattle.vs_pages.specs.Memory.{kept_of}
use Rattle.vs_pages.specs.declared.page.Page.{Page}
use Rattle.vs_pages.specs.declared.change.Run.{Run}
use Rattle.vs_pages.specs.declared.change.Change.{Change}
use Rattle.vs_pages.specs.declared.change.Change.TheVariants as kinds
use Rattle.vs_pages.proofs.Ends.{gaps_more, near_places, past_put}
use Rattle.vs_pages.proofs.Patches.{pushed}
use Rattle.vs_pages.proofs.Places.{put_places-away, put_places-start, numbers-start}
use Rattle.vs_pages.proofs.TableLemmas.{cells_of-end}
use Rattle.vs_pages.proofs.Undos.{can_more, reverse_last}
use Rattle.vs_pages.proofs.memory.MemPages.change.Goals as goal

-- where there is a page, the first place is the one that was asked for
starts_at : (pages lent : List (Option Page)) (asked at : ℕ) → lent ≡ pages → (0 < length lent → at ≡ asked) → 0 < length pages → at ≡ asked
starts_at pages lent asked at same first some = first (subst (λ (ps : List (Option Page)). 0 < length ps) (sym same) some)

pub end_below-self-requires : goal.end_below-self-requires
end_below-self-requires c = past_put _ _ c.extend_to.new.self.used c.max.result c.first_place-at.result c.args.pages.items c.exchange.ensures.put c.extend_to.new.self.ends
    (omega (arith, c.max.ensures)) (omega (arith, c.max.ensures, c.len-2.ensures, c.exchange.ensures.len))

pub invariant_of-self-2-clause-undo : goal.invariant_of-self-2-clause-undo
invariant_of-self-2-clause-undo c =
    let old = kept_of c.args.self.now in
    let places = c.args.self.now.table.places.items in
    let at = c.first_place-at.result in
    let run : Run = record { at = at; was = c.exchange.new.pages; places = c.len-places.result } in
    let room : is_ok c.push.result ≡ true = c.push.ensures.succeeds (omega (arith, c.in_ok-reserve.ensures.ok, ap (λ l. l.cap) c.extend_to.ensures.log, ap (λ l. length l.items) c.extend_to.ensures.log)) in
    let log = pushed (is_ok c.push.result) c.extend_to.new.self.log.items c.push.new.self.items (kinds.Run run) c.push.ensures.items room
    ∙ ap (λ (cs : List Change). cs ++ kinds.Run run ∷ []) (ap (λ l. l.items) c.extend_to.ensures.log ∙ c.reserve.ensures.items) in
    let put = c.exchange.ensures.put ∙ ap (λ (m : Cells). put_places m at c.args.pages.items) c.extend_to.ensures.kept in
    let back = sym c.exchange.ensures.was ∙ c.extend_to.ensures.kept in
    can_more _ old _ (length places) (kinds.Run run) _ _ (reverse_last c.push.new.self.items c.args.self.now.log.items (kinds.Run run) log)
    (record {
      within = omega (arith, c.exchange.ensures.places, c.exchange.ensures.len, c.in_ok-extend_to.ensures, c.len.ensures);
      fewer = omega (arith, c.exchange.ensures.places, c.extend_to.ensures.longer, c.len-places.ensures);
      past = λ k past. ap (λ (m : Cells). is_some (m k)) back ∙ ap (λ o. is_some o) (cells_of-end places k (omega (arith, past, c.len-places.ensures)));
      away = λ k away.
          ap (λ (m : Cells). is_away (m k)) back
          ∙ put_places-away old at c.args.pages.items k c.requires.here (ap (λ (m : Cells). is_away (m k)) (sym put) ∙ away);
    }) back c.len-places.ensures c.args.self.now.undo

pub invariant_of-self-2-clause-no_gaps : goal.invariant_of-self-2-clause-no_gaps
invariant_of-self-2-clause-no_gaps c =
    let at = c.first_place-at.result in
    let run : Run = record { at = at; was = c.exchange.new.pages; places = c.len-places.result } in
    let room : is_ok c.push.result ≡ true = c.push.ensures.succeeds (omega (arith, c.in_ok-reserve.ensures.ok, ap (λ l. l.cap) c.extend_to.ensures.log, ap (λ l. length l.items) c.extend_to.ensures.log)) in
    let log = pushed (is_ok c.push.result) c.extend_to.new.self.log.items c.push.new.self.items (kinds.Run run) c.push.ensures.items room
    ∙ ap (λ (cs : List Change). cs ++ kinds.Run run ∷ []) (ap (λ l. l.items) c.extend_to.ensures.log ∙ c.reserve.ensures.items) in
    gaps_more _ (kept_of c.args.self.now) (kinds.Run run) _ _ (reverse_last c.push.new.self.items c.args.self.now.log.items (kinds.Run run) log)
    (sym c.exchange.ensures.was ∙ c.extend_to.ensures.kept)
    c.args.self.now.no_gaps
    (near_places (kept_of c.args.self.now) _ c.args.self.now.used at _ c.args.pages.items c.exchange.ensures.len (c.exchange.ensures.put ∙ ap (λ (m : Cells). put_places m at c.args.pages.items) c.extend_to.ensures.kept)
    c.args.self.now.ends (λ some. omega (arith, starts_at c.args.pages.items _ c.args.at at c.deref.ensures.value c.first_place-at.ensures.some some, c.requires.near some)))

pub returns-clause-ok : goal.returns-clause-ok
returns-clause-ok c =
    let at = c.first_place-at.result in
    let start : 0 < length c.args.pages.items → at ≡ c.args.at = starts_at c.args.pages.items _ c.args.at at c.deref.ensures.value c.first_place-at.ensures.some in
    let run : Run = record { at = at; was = c.exchange.new.pages; places = c.len-places.result } in
    let log = c.in_ok-push.ensures.items ∙ ap (λ (cs : List Change). cs ++ kinds.Run run ∷ []) (ap (λ l. l.items) c.extend_to.ensures.log ∙ c.reserve.ensures.items) in
    record {
      change = kinds.Run run;
      changes = reverse_last c.push.new.self.items c.args.self.now.log.items (kinds.Run run) log;
      was = sym c.exchange.ensures.was ∙ c.extend_to.ensures.kept;
      worked = ap (λ n. numbers at n) c.exchange.ensures.len ∙ numbers-start c.args.at at (length c.args.pages.items) start;
      kept = c.exchange.ensures.put ∙ ap (λ (m : Cells). put_places m at c.args.pages.items) c.extend_to.ensures.kept ∙ put_places-start (kept_of c.args.self.now) c.args.at at c.args.pages.items start;
      commits = c.extend_to.ensures.commits;
    }
