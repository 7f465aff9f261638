-- What one session works on is none of the other's: their families share no name, and no file is handed from one to the other.
use Rattle.std.proofs.Common.{◌≡◌, inl, inr, Bool, true, false, not, ◌||◌, ◌&&◌, [], Option, None, refl, sym, ◌∙◌, ap}
use Rattle.std.specs.Prelude.{Some, IfSome}
use Rattle.std.specs.Str.{bytes_eq}
use Rattle.std.proofs.lemmas.Slice.Eq.{bytes_eq-Decides}
use Rattle.std.proofs.lemmas.Bool.{cases_Bool, true≢false, or_left, or_right}
use Rattle.vs_host.specs.Disk.{Disk, Name, IsFolder}
use Rattle.vs_host.specs.declared.names.Names.{Names}
use Rattle.vs_disk.specs.Names.{IsApart, SameAt}
use Rattle.vs_disk.proofs.Hands.{apart_settled}
use Rattle.vs_pair.specs.Pair.{is_foreign, is_pair_name}
use Rattle.vs_safety.specs.Writes.{AreIn, outside}
use Rattle.vs_safety.specs.FileWork.{FileWork, EditedFile, UndoFile, BothFiles, AvoidsFiles, Keeps}
use Rattle.vs_safety.proofs.Handed.{keeps_avoided, keeps_hands}
use Rattle.vs_both.specs.Beside.{Party, AreSetApart, AreBeside, HasFamily, IsSetApart, ShareNone, others_of}

-- ---- one family

and_first : (a b : Bool) → (a && b) ≡ true → a ≡ true
and_first true b is = refl
and_first false b is = absurd (true≢false (sym is))

and_second : (a b : Bool) → (a && b) ≡ true → b ≡ true
and_second true b is = is
and_second false b is = absurd (true≢false (sym is))

pub others_in_family : (party : Party) → AreIn party.family (others_of party)
others_in_family party name is = and_first (party.family name) (is_foreign party.names name) is

pub others_foreign : (party : Party) → AreIn (is_foreign party.names) (others_of party)
others_foreign party name is = and_second (party.family name) (is_foreign party.names name) is

itself : (a : Name) → bytes_eq a a ≡ true
itself a = (bytes_eq-Decides a a).1 refl

-- a name of the pair is of the family
pair_in : (party : Party) → HasFamily party → (name : Name) → is_pair_name party.names name ≡ true → party.family name ≡ true
pair_in party has name is = elim (cases_Bool (party.family name)) [
  | inl within ↦ within
  | inr out ↦ absurd (true≢false (sym (has.pair name (ap not out)) ∙ ap not is))
]

pub swp_in : (party : Party) → HasFamily party → party.family party.names.swp ≡ true
swp_in party has = pair_in party has party.names.swp (or_left _ _ (or_left _ _ (itself party.names.swp)))

pub swo_in : (party : Party) → HasFamily party → party.family party.names.swo ≡ true
swo_in party has = pair_in party has party.names.swo (or_left _ _ (or_right (bytes_eq party.names.swp party.names.swo) _ (itself party.names.swo)))

-- ---- two families

pub share_none : (one two : Party) → ShareNone one two → ShareNone two one
share_none one two apart name is = elim (cases_Bool (one.family name)) [
  | inl within ↦ absurd (true≢false (sym is ∙ apart name within))
  | inr out ↦ out
]

avoids_fewer : (names : Names) (work : FileWork) (wide inside : Name → Bool) → AreIn wide inside → AvoidsFiles names work wide → AvoidsFiles names work inside
avoids_fewer names (EditedFile write) wide inside are avoids = λ name is works. avoids name (are name is) works
avoids_fewer names (UndoFile undo) wide inside are avoids = λ name is works. avoids name (are name is) works
avoids_fewer names (BothFiles write undo) wide inside are avoids = ((λ name is works. avoids.0 name (are name is) works), (λ name is works. avoids.1 name (are name is) works))

each_avoids : (party : Party) → HasFamily party → (write : Option FileWork) (inside : Name → Bool) → AreIn (outside party.family) inside → IfSome write (λ work. AvoidsFiles party.names work inside)
each_avoids party has None inside are = tt
each_avoids party has (Some work) inside are = avoids_fewer party.names work (outside party.family) inside are (has.files work)

-- the other session leaves the family
pub leaves_family : (party other : Party) → HasFamily other → ShareNone party other → (write : Option FileWork) (old new : Disk) → IsApart party.family old → Keeps other.names write old new → SameAt party.family old new
leaves_family party other has apart write old new alone keeps =
    keeps_avoided (is_foreign other.names) other.names write party.family old new (λ name is. has.pair name (ap not (apart name is)))
    (each_avoids other has write party.family (λ name is. ap not (apart name is))) alone keeps

-- ---- no file is handed over

hands_own : (party : Party) → HasFamily party → (write : Option FileWork) (part : Name → Bool) (old new : Disk) → IsApart (outside party.family) old
    → ((a b : Name) → party.family a ≡ true → party.family b ≡ true → part a ≡ part b) → IsApart part old → Keeps party.names write old new → IsApart part new
hands_own party has write part old new alone one_side apart keeps =
    keeps_hands (is_foreign party.names) party.names write party.family part old new has.pair (each_avoids party has write (outside party.family) (λ name is. is)) alone one_side apart keeps

module _ (one two : Party) (has : HasFamily one) (apart : ShareNone one two) (write : Option FileWork) (old new : Disk) (own : IsSetApart one.family old) (other : IsSetApart two.family old) (keeps : Keeps one.names write old new) where
  own_stays : IsSetApart one.family new
  own_stays = record {
    own = hands_own one has write one.family old new own.others (λ a b is_a is_b. is_a ∙ sym is_b) own.own keeps;
    others = hands_own one has write (outside one.family) old new own.others (λ a b is_a is_b. ap not (is_a ∙ sym is_b)) own.others keeps;
  }

  other_stays : IsSetApart two.family new
  other_stays = record {
    own = hands_own one has write two.family old new own.others (λ a b is_a is_b. apart a is_a ∙ sym (apart b is_b)) other.own keeps;
    others = hands_own one has write (outside two.family) old new own.others (λ a b is_a is_b. ap not (apart a is_a ∙ sym (apart b is_b))) other.others keeps;
  }

pub first_stays_apart : (one two : Party) (write : Option FileWork) (old new : Disk) → AreBeside one two → AreSetApart one two old → Keeps one.names write old new → AreSetApart one two new
first_stays_apart one two write old new are apart keeps = record {
  first = own_stays one two are.first are.apart write old new apart.first apart.second keeps;
  second = other_stays one two are.first are.apart write old new apart.first apart.second keeps;
}

pub second_stays_apart : (one two : Party) (write : Option FileWork) (old new : Disk) → AreBeside one two → AreSetApart one two old → Keeps two.names write old new → AreSetApart one two new
second_stays_apart one two write old new are apart keeps = record {
  first = other_stays two one are.second (share_none one two are.apart) write old new apart.second apart.first keeps;
  second = own_stays two one are.second (share_none one two are.apart) write old new apart.second apart.first keeps;
}

-- where no change of a name is pending
set_apart : (family : Name → Bool) (disk : Disk) → disk.pending ≡ [] → IsFolder disk → IsSetApart family disk
set_apart family disk settled folder = record { own = apart_settled family disk settled folder; others = apart_settled (outside family) disk settled folder }

pub settled_apart : (one two : Party) (disk : Disk) → disk.pending ≡ [] → IsFolder disk → AreSetApart one two disk
settled_apart one two disk settled folder = record { first = set_apart one.family disk settled folder; second = set_apart two.family disk settled folder }
