-- The walk, and what it leaves, by the lemmas on moves: once for the numbers of lines and once for the texts.
use Rattle.std.proofs.Common.{◌≡◌, ◌<◌, ◌++◌, ℕ, List, [], Some, length, get_or, max, rules, sym, ap, subst, ◌∙◌, refl}
use Rattle.vs_faults.proofs.OneCause.{one_as, one_back}
use Rattle.vs_edit.proofs.Steps.{SameText-trans}
use Rattle.vs_entries.specs.Entries.{Leads, LeadsCount}
use Rattle.vs_undo.specs.declared.parts.Node.{Node}
use Rattle.vs_undo.specs.declared.parts.Parts.{Parts}
use Rattle.vs_undo.specs.Ways.{node_at, IsWayOf}
use Rattle.vs_undo.specs.Sound.{IsSound}
use Rattle.vs_undo.specs.Meetings.{IsSettled}
use Rattle.vs_undo.specs.Edges.{AreStates}
use Rattle.vs_undo.specs.Forks.{IsStraightBelow}
use Rattle.vs_undo.specs.Turns.{exchanged}
use Rattle.vs_undo.proofs.ForkLemmas.{same_straight}
use Rattle.vs_undo.specs.History.{arrived, links_of, moved}
use Rattle.vs_undo.proofs.MeetingLemmas.{arrived_settled, met_between, none_between}
use Rattle.vs_undo.proofs.MoveLemmas.{arrived_parent, crosses_path, crossed, exchanged_after, links_of-arrived, same_way}
use Rattle.vs_undo.proofs.ReadyLemmas.{gone_back, settled}
use Rattle.vs_undo.proofs.SoundLemmas.{arrived_sound}
use Rattle.vs_undo.proofs.moves.move_to.Goals as goal
use Rattle.vs_undo.proofs.moves.move_to.Goals.{After-drop-meeting-in-Ok-2}

pub cross-requires-clause-entries : goal.cross-requires-clause-entries
cross-requires-clause-entries g c =
    subst (λ ns. (k : ℕ) (node : Node) → node_at ns k ≡ Some node → 0 < length node.entries) (sym c.nodes.ensures) c.requires.sound.entries

pub cross-requires-clause-counts : goal.cross-requires-clause-counts
cross-requires-clause-counts g c =
    let parts = c.args.parts.now in
    let is = c.in_ok-meeting.ensures in
    let from = c.in_ok-meeting.meeting.from.items ++ is.meets.rest in
    let to = c.in_ok-meeting.meeting.to.items ++ is.meets.rest in
    let a = is.meets.from in
    let b = is.meets.to in
    let between = met_between c.in_ok-meeting.meeting c.deref.result.now c.deref-2.result.now c.in_ok-path.path.items is.meets.rest c.deref.ensures.value c.deref-2.ensures.value c.in_ok-path.ensures in
    let sees = c.requires.ready.counts in
    crosses_path LeadsCount sees.counts parts c.args.number from to c.in_ok-path.path.items c.nodes.result.now c.deref-3.result.now (max 1 (g.S.LineStore.shows c.args.store.now).present.lines) c.requires.sound.tree a b between c.nodes.ensures c.deref-3.ensures.value sees.are_states (sym sees.current)

pub cross-requires-clause-texts : goal.cross-requires-clause-texts
cross-requires-clause-texts g c = λ text has.
    let parts = c.args.parts.now in
    let is = c.in_ok-meeting.ensures in
    let from = c.in_ok-meeting.meeting.from.items ++ is.meets.rest in
    let to = c.in_ok-meeting.meeting.to.items ++ is.meets.rest in
    let a = is.meets.from in
    let b = is.meets.to in
    let between = met_between c.in_ok-meeting.meeting c.deref.result.now c.deref-2.result.now c.in_ok-path.path.items is.meets.rest c.deref.ensures.value c.deref-2.ensures.value c.in_ok-path.ensures in
    let sees = c.requires.ready.texts text has in
    crosses_path Leads sees.texts parts c.args.number from to c.in_ok-path.path.items c.nodes.result.now c.deref-3.result.now text c.requires.sound.tree a b between c.nodes.ensures c.deref-3.ensures.value sees.are_states (sym sees.current)

-- the whole way of the state reached
abbrev whole_to : (g : _) (c : After-drop-meeting-in-Ok-2 g) → List ℕ
whole_to g c = c.in_ok-meeting.meeting.to.items ++ c.in_ok-meeting.ensures.meets.rest

-- the tree after the move
after : (g : _) (c : After-drop-meeting-in-Ok-2 g) → c.arrive.new.parts ≡ arrived c.in_ok-path.path.items c.in-Ok.turned.items (whole_to g c) c.args.parts.now
after g c = c.arrive.ensures c.in_ok-meeting.ensures ∙ ap (λ xs. arrived xs c.in-Ok.turned.items (whole_to g c) c.args.parts.now) c.deref-in-Ok.ensures.value

way_to : (g : _) (c : After-drop-meeting-in-Ok-2 g) → IsWayOf c.args.parts.now.nodes c.args.number (whole_to g c)
way_to g c = c.in_ok-meeting.ensures.meets.to

current : (g : _) (c : After-drop-meeting-in-Ok-2 g) → c.arrive.new.parts.current ≡ c.args.number
current g c = ap (λ (p : Parts). p.current) (after g c) ∙ (way_to g c).starts

counted : (g : _) (c : After-drop-meeting-in-Ok-2 g) → (counts : ℕ → ℕ) → AreStates LeadsCount c.args.parts.now counts → max 1 (g.S.LineStore.shows c.args.store.now).present.lines ≡ counts c.args.parts.now.current
    → AreStates LeadsCount c.arrive.new.parts counts × (max 1 (g.S.LineStore.shows c.cross.new.store).present.lines ≡ counts c.args.number)
counted g c counts are_states here =
    let parts = c.args.parts.now in
    let is = c.in_ok-meeting.ensures in
    let from = c.in_ok-meeting.meeting.from.items ++ is.meets.rest in
    let path = c.in_ok-path.path.items in
    let a = is.meets.from in
    let between = met_between c.in_ok-meeting.meeting c.deref.result.now c.deref-2.result.now c.in_ok-path.path.items is.meets.rest c.deref.ensures.value c.deref-2.ensures.value c.in_ok-path.ensures in
    let done = crossed LeadsCount (λ n. max 1 (g.S.LineStore.shows c.cross.new.store).present.lines ≡ n) counts parts c.args.number from (whole_to g c) path c.in-Ok.turned.items c.nodes.result.now c.deref-3.result.now
    (max 1 (g.S.LineStore.shows c.args.store.now).present.lines) c.requires.sound.tree a (way_to g c) between c.nodes.ensures c.deref-3.ensures.value c.in-Ok.ensures.count are_states (sym here) c.in-Ok.ensures.counts in
    (subst (λ (p : Parts). AreStates LeadsCount p counts) (sym (after g c)) done.0, done.1)

told : (g : _) (c : After-drop-meeting-in-Ok-2 g) → (texts : ℕ → List (List ℕ)) → AreStates Leads c.args.parts.now texts → (text : List (List ℕ)) → (g.S.LineStore.shows c.args.store.now).present.Is text → texts c.args.parts.now.current ≡ text
    → AreStates Leads c.arrive.new.parts texts × (g.S.LineStore.shows c.commit.new.self).present.Is (texts c.args.number)
told g c texts are_states text has here =
    let parts = c.args.parts.now in
    let is = c.in_ok-meeting.ensures in
    let from = c.in_ok-meeting.meeting.from.items ++ is.meets.rest in
    let path = c.in_ok-path.path.items in
    let a = is.meets.from in
    let between = met_between c.in_ok-meeting.meeting c.deref.result.now c.deref-2.result.now c.in_ok-path.path.items is.meets.rest c.deref.ensures.value c.deref-2.ensures.value c.in_ok-path.ensures in
    let done = crossed Leads (λ t. (g.S.LineStore.shows c.cross.new.store).present.Is t) texts parts c.args.number from (whole_to g c) path c.in-Ok.turned.items c.nodes.result.now c.deref-3.result.now text
    c.requires.sound.tree a (way_to g c) between c.nodes.ensures c.deref-3.ensures.value c.in-Ok.ensures.count are_states here (c.in-Ok.ensures.texts text has) in
    (subst (λ (p : Parts). AreStates Leads p texts) (sym (after g c)) done.0, c.commit.ensures.present.text (texts c.args.number) done.1)

pub returns-in-Ok-clause-moved : goal.returns-in-Ok-clause-moved
returns-in-Ok-clause-moved g c =
    let parts = c.args.parts.now in
    let to = whole_to g c in
    let links : links_of c.arrive.new.parts ≡ moved to (links_of parts) = ap links_of (after g c) ∙ links_of-arrived c.in_ok-path.path.items c.in-Ok.turned.items to parts in
    record {
      way = to;
      is_way = way_to g c;
      links = links;
      history = λ text history has is.
          let done = told g c history.texts is.are_states text has is.current in
          (done.1, record { links = links ∙ ap (moved to) is.links; are_states = done.0; current = ap history.texts (current g c) });
      entries = λ text history has is way_from is_from k was now was_at now_at.
          let met = c.in_ok-meeting.ensures in
          let from = c.in_ok-meeting.meeting.from.items ++ met.meets.rest in
          let path = c.in_ok-path.path.items in
          let a = met.meets.from in
          let between = met_between c.in_ok-meeting.meeting c.deref.result.now c.deref-2.result.now c.in_ok-path.path.items met.meets.rest c.deref.ensures.value c.deref-2.ensures.value c.in_ok-path.ensures in
          let there : node_at (arrived path c.in-Ok.turned.items to parts).nodes k ≡ Some now = ap (λ (p : Parts). node_at p.nodes k) (sym (after g c)) ∙ now_at in
          subst (λ way. now.entries ≡ exchanged way to history.texts was) (same_way parts.nodes c.requires.sound.tree parts.current from way_from a is_from)
          (exchanged_after history.texts parts c.args.number from to path c.in-Ok.turned.items c.nodes.result.now c.deref-3.result.now text c.requires.sound.tree a (way_to g c) between
          c.nodes.ensures c.deref-3.ensures.value c.in-Ok.ensures.count is.are_states is.current (c.in-Ok.ensures.back text has) k was now was_at there);
      still = λ here.
          let met = c.in_ok-meeting.ensures in
          let between = met_between c.in_ok-meeting.meeting c.deref.result.now c.deref-2.result.now c.in_ok-path.path.items met.meets.rest c.deref.ensures.value c.deref-2.ensures.value c.in_ok-path.ensures in
          let none = none_between parts.nodes c.requires.sound.tree parts.current c.args.number _ to c.in_ok-path.path.items here met.meets.from (way_to g c) between in
          SameText-trans (c.in-Ok.ensures.still (ap length c.deref-3.ensures.value ∙ none)) c.commit.ensures.present;
    }

pub returns-in-Ok-clause-settled : goal.returns-in-Ok-clause-settled
returns-in-Ok-clause-settled g c =
    let parts = c.args.parts.now in
    subst (λ (p : Parts). IsSettled p) (sym (after g c)) (arrived_settled c.in_ok-path.path.items c.in-Ok.turned.items (whole_to g c) parts c.args.number c.requires.sound.tree (way_to g c))

pub returns-in-Ok-clause-straight : goal.returns-in-Ok-clause-straight
returns-in-Ok-clause-straight g c = λ fork straight.
    let parts = c.args.parts.now in
    subst (λ (p : Parts). IsStraightBelow fork p.nodes) (sym (after g c))
    (same_straight parts.nodes _ (arrived_parent c.in_ok-path.path.items c.in-Ok.turned.items (whole_to g c) parts) fork straight)

pub returns-in-Ok-clause-sound : goal.returns-in-Ok-clause-sound
returns-in-Ok-clause-sound g c =
    let parts = c.args.parts.now in
    let turned = c.in-Ok.turned.items in
    let path = c.in_ok-path.path.items in
    let some = subst (λ xs. (i : ℕ) → i < length xs → 0 < length (get_or turned i [])) c.deref-3.ensures.value c.in-Ok.ensures.some in
    subst (λ (p : Parts). IsSound p) (sym (after g c)) (arrived_sound path turned (whole_to g c) parts c.args.number (c.in-Ok.ensures.count ∙ ap length c.deref-3.ensures.value) some c.requires.sound (way_to g c))

pub returns-in-Ok-clause-atomic : goal.returns-in-Ok-clause-atomic
returns-in-Ok-clause-atomic g c =
    let laws = g.met.S.LineStore in
    let sees = c.requires.ready.counts in
    let lines = counted g c sees.counts sees.are_states sees.current in
    let one = laws.has_one c.commit.new.self in
    record {
      stayed = tt;
      ready = record {
        valid = c.commit.ensures.valid;
        committed = settled c.commit.ensures.present c.commit.ensures.committed (λ text has. laws.tells_one c.cross.new.store c.in-Ok.ensures.kept.valid (laws.has_told c.commit.new.self text has)) one;
        counts = record { counts = sees.counts; are_states = lines.0; current = ap (max 1) c.commit.ensures.present.lines ∙ (lines.1 ∙ sym (ap sees.counts (current g c))) };
        texts = λ text has.
            let was = laws.tells_one c.args.store.now c.requires.ready.valid (laws.has_told c.commit.new.self text has) in
            let fits = c.requires.ready.texts was.0 was.1 in
            let done = told g c fits.texts fits.are_states was.0 was.1 (sym fits.current) in
            record { texts = fits.texts; are_states = done.0; current = one text (fits.texts c.args.number) has done.1 ∙ sym (ap fits.texts (current g c)) };
      };
      stays = laws.stays_on _ _ _ c.in-Ok.ensures.kept.stays c.commit.ensures.stays;
      cause = one_as (one_back c.in-Ok.ensures.cause c.commit.ensures.faults c.commit.ensures.earlier) (λ failed. absurd (cc)) (λ failed. absurd (cc));
    }

pub returns-clause-atomic : goal.returns-clause-atomic
returns-clause-atomic g c =
    let laws = g.met.S.LineStore in
    let ready = c.requires.ready in
    let kept = c.in-Err.ensures.kept in
    let back = c.rollback.ensures in
    record {
      stayed = record { tree = refl; text = SameText-trans ready.committed (SameText-trans kept.committed back.present) };
      ready = gone_back g.S.LineStore c.args.parts.now c.args.store.now c.cross.new.store c.rollback.new.self ready kept.committed back.present back.committed back.valid
          (λ text has. laws.tells_one c.args.store.now ready.valid (laws.has_told c.rollback.new.self text has)) (laws.has_one c.rollback.new.self);
      stays = laws.stays_on _ _ _ kept.stays back.stays;
      cause = one_as (one_back c.in-Err.ensures.cause back.faults back.earlier) (λ failed. search rules) (λ failed. search rules);
    }
