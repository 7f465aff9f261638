-- Flags that do not show change nothing of which changes fit: trees that the data of a file stands for are alike.
use Rattle.std.proofs.Common.{◌≡◌, ℕ, ◌≤◌, ◌&&◌, nat_le, if◌then◌else◌, Bool, true, false, List, [], ◌∷◌, length, max, Option, Some, None, option_map, unwrap_or, refl, sym, ap, subst, ◌∙◌, arith}
use Rattle.vs_text.specs.Text.{bytes_of}
use Rattle.vs_text.specs.declared.TheConstants.{MAX_TEXT_BYTES}
use Rattle.vs_edit.specs.Splices.{splice}
use Rattle.vs_entries.specs.declared.entry.Entry.{Entry}
use Rattle.vs_entries.specs.Entries.{applied, filled, range_in, settled, Leads, LeadsCount}
use Rattle.vs_entries.proofs.EntryLemmas.{bytes_of-settled, filled-settled}
use Rattle.vs_undo.specs.declared.parts.Node.{Node}
use Rattle.vs_undo.specs.declared.parts.Parts.{Parts}
use Rattle.vs_undo.specs.Edges.{IsLed}
use Rattle.vs_undo.specs.History.{links_of, without_entries}
use Rattle.vs_undo.specs.Ways.{is_on, node_at, parent_at, IsWay}
use Rattle.vs_undo.proofs.ChangeLemmas.{seen}
use Rattle.vs_undo.proofs.NodeLemmas.{at-links_of}
use Rattle.vs_outward.specs.Outward.{entries_at, IsFirstMisfit, IsMisfit, IsOut, IsOutward, LeadsOver}
use Rattle.vs_ubind.specs.Meaning.{last_flag}
use Rattle.vs_ubind.proofs.Sounds.{same_count}

-- ---- one entry
abbrev exchanged : Entry → List (List ℕ) → List (List ℕ)
exchanged entry form = splice form entry.top (range_in entry (length form)) entry.lines

-- an entry works on the stored form
leads_like : (entry : Entry) (x z y : List (List ℕ)) → filled x ≡ filled z → bytes_of z ≤ MAX_TEXT_BYTES → Leads entry x y → Leads entry z y
leads_like entry x z y same few leads = record {
  count = subst (λ form. LeadsCount entry (length form) (length (filled y))) same leads.count;
  is = leads.is ∙ ap (λ form. settled entry.empty (exchanged entry form)) same;
  from_bytes = few;
  to_bytes = leads.to_bytes;
}

few_filled : (lines : List (List ℕ)) → bytes_of (filled lines) ≤ max 1 (bytes_of lines)
few_filled [] = omega arith
few_filled (line ∷ lines) = omega arith

few_settled : (flag : Bool) (lines : List (List ℕ)) → bytes_of (settled flag lines) ≤ max 1 (bytes_of lines)
few_settled flag lines =
    let most = few_filled lines in
    elim (flag && nat_le (bytes_of lines) 1) as (λ b. bytes_of (if b then [] else filled lines) ≤ max 1 (bytes_of lines)) [
      | true ↦ omega arith
      | false ↦ most
    ]

-- with another flag
leads_flagged : (entry : Entry) (flag : Bool) (x y : List (List ℕ)) → Leads entry x y → Leads (record entry { empty = flag }) x (applied (record entry { empty = flag }) x) × (filled (applied (record entry { empty = flag }) x) ≡ filled y)
leads_flagged entry flag x y leads =
    let new = exchanged entry (filled x) in
    let one : filled (settled flag new) ≡ filled new = filled-settled flag new in
    let two : filled y ≡ filled new = ap filled leads.is ∙ filled-settled entry.empty new in
    let same : filled (settled flag new) ≡ filled y = one ∙ sym two in
    let most : bytes_of (settled flag new) ≤ MAX_TEXT_BYTES =
    let a = few_settled flag new in let b = bytes_of-settled entry.empty new in let c = ap bytes_of leads.is in let d = leads.to_bytes in omega (arith, a, b, c, d) in (
      record {
        count = record {
          fits = record { above = leads.count.fits.above; within = leads.count.fits.within };
          is = ap length same ∙ leads.count.is;
          few = let few = leads.count.few in let e = ap length same in omega (arith, few, e);
          short = leads.count.short;
        };
        is = refl;
        from_bytes = leads.from_bytes;
        to_bytes = most;
      },
      same,
    )

-- ---- the entries of a change
head_same : (a b : Entry) (ones bs : List Entry) → a ∷ ones ≡ b ∷ bs → a ≡ b
head_same a b ones bs e = cc

tail_same : (a b : Entry) (ones bs : List Entry) → a ∷ ones ≡ b ∷ bs → ones ≡ bs
tail_same a b ones bs e = cc

led_same : (e f : Entry) (es fs : List Entry) (x z y : List (List ℕ)) → last_flag (e ∷ es) ≡ last_flag (f ∷ fs) → filled x ≡ filled z → bytes_of z ≤ MAX_TEXT_BYTES → IsLed Leads (e ∷ es) x y → IsLed Leads (f ∷ fs) z y
led_same e f [] [] x z y alike same few led = (led.0, (subst (λ g. Leads g z led.0) (head_same e f [] [] alike) (leads_like e x z led.0 same few led.1.0), led.1.1))
led_same e f [] (g ∷ fs) x z y alike same few led = absurd (omega (arith, ap length alike, same_count (g ∷ fs)))
led_same e f (g ∷ es) [] x z y alike same few led = absurd (omega (arith, ap length alike, same_count (g ∷ es)))
led_same e f (g ∷ es) (h ∷ fs) x z y alike same few led =
    let plain = leads_flagged e false z led.0 (leads_like e x z led.0 same few led.1.0) in
    let e0 : Entry = record e { empty = false } in
    let f0 : Entry = record f { empty = false } in
    let one : e0 ≡ f0 = head_same e0 f0 (last_flag (g ∷ es)) (last_flag (h ∷ fs)) alike in
    let rest = tail_same e0 f0 (last_flag (g ∷ es)) (last_flag (h ∷ fs)) alike in
    let other : Leads f0 z (applied e0 z) = subst (λ t. Leads t z (applied e0 z)) one plain.0 in
    let flagged = leads_flagged f0 f.empty z (applied e0 z) other in
    let now : filled led.0 ≡ filled (applied f z) = sym plain.1 ∙ sym flagged.1 in
    (applied f z, (flagged.0, led_same g h es fs led.0 (applied f z) y rest now flagged.0.to_bytes led.1.1))

pub led_alike : (es fs : List Entry) → last_flag es ≡ last_flag fs → (x y : List (List ℕ)) → IsLed Leads es x y → IsLed Leads fs x y
led_alike [] [] alike x y led = led
led_alike [] (f ∷ fs) alike x y led = absurd (omega (arith, ap length alike, same_count (f ∷ fs)))
led_alike (e ∷ es) [] alike x y led = absurd (omega (arith, ap length alike, same_count (e ∷ es)))
led_alike (e ∷ es) (f ∷ fs) alike x y led = led_same e f es fs x x y alike refl led.1.0.from_bytes led

-- ---- trees
module _ (a b : Parts) (links : links_of a ≡ links_of b) (entries : (n : ℕ) (x y : Node) → node_at a.nodes n ≡ Some x → node_at b.nodes n ≡ Some y → last_flag x.entries ≡ last_flag y.entries) where
  pub same_at : (n : ℕ) → option_map without_entries (node_at a.nodes n) ≡ option_map without_entries (node_at b.nodes n)
  same_at n = sym (at-links_of a.nodes n) ∙ (ap (λ (p : Parts). node_at p.nodes n) links ∙ at-links_of b.nodes n)

  pub same_parents : ◌≡◌ {A = ℕ → Option ℕ} (λ k. parent_at a.nodes k) (λ k. parent_at b.nodes k)
  same_parents = λ i k. seen without_entries (λ (n : Node). n.parent) (λ _. refl) (node_at a.nodes k) (node_at b.nodes k) (same_at k) i

  pub same_current : a.current ≡ b.current
  same_current = ap (λ (p : Parts). p.current) links

  alike_at : (n : ℕ) (o p : Option Node) → node_at a.nodes n ≡ o → node_at b.nodes n ≡ p → option_map without_entries o ≡ option_map without_entries p
      → last_flag (unwrap_or (option_map (λ (node : Node). node.entries) o) []) ≡ last_flag (unwrap_or (option_map (λ (node : Node). node.entries) p) [])
  alike_at n None None one two same = refl
  alike_at n None (Some y) one two same = absurd (cc)
  alike_at n (Some x) None one two same = absurd (cc)
  alike_at n (Some x) (Some y) one two same = entries n x y one two

  alike_entries : (n : ℕ) → last_flag (entries_at a.nodes n) ≡ last_flag (entries_at b.nodes n)
  alike_entries n = alike_at n (node_at a.nodes n) (node_at b.nodes n) refl refl (same_at n)

  outward_too : (path : List ℕ) (to : ℕ) → IsOutward a path to → IsOutward b path to
  outward_too path to out = record {
    way = out.way;
    is_way = record { is_way = subst (λ p. IsWay p out.way) same_parents out.is_way.is_way; starts = out.is_way.starts ∙ same_current };
    out = subst (λ from. IsOut (λ k. parent_at b.nodes k) (is_on out.way) from path to) same_current (subst (λ p. IsOut p (is_on out.way) a.current path to) same_parents out.out);
  }

  over_too : (path : List ℕ) (from to : List (List ℕ)) → LeadsOver Leads a.nodes path from to → LeadsOver Leads b.nodes path from to
  over_too [] from to led = led
  over_too (n ∷ path) from to led = (led.0, (over_too path from led.0 led.1.0, led_alike (entries_at a.nodes n) (entries_at b.nodes n) (alike_entries n) led.0 to led.1.1))

  misfit_too : (text : List (List ℕ)) (n : ℕ) → IsMisfit a text n → IsMisfit b text n
  misfit_too text n is = record {
    path = is.path;
    to = is.to;
    outward = outward_too (n ∷ is.path) is.to is.outward;
    here = is.here;
    led = over_too is.path text is.here is.led;
    none = λ there led. is.none there (led_alike (entries_at b.nodes n) (entries_at a.nodes n) (sym (alike_entries n)) is.here there led);
  }

pub first_too : (a b : Parts) → links_of a ≡ links_of b → ((n : ℕ) (x y : Node) → node_at a.nodes n ≡ Some x → node_at b.nodes n ≡ Some y → last_flag x.entries ≡ last_flag y.entries)
    → (text : List (List ℕ)) (n : ℕ) → IsFirstMisfit a text n → IsFirstMisfit b text n
first_too a b links entries text n first = record {
  is = misfit_too a b links entries text n first.is;
  first = λ other is. first.first other (misfit_too b a (sym links) (λ k x y one two. sym (entries k y x two one)) text other is);
}
