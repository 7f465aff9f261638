-- A name that only commands change which work on it: it has the bytes of the one snapshot at which the stretch began.
use Rattle.std.proofs.Common.{◌≡◌, ℕ, ◌<◌, ◌≤◌, Bool, true, List, [], ◌∷◌, ◌++◌, length, Some, None, sym, ◌∙◌, subst, arith}
use Rattle.vs_host.specs.File.{File, IsFileImage}
use Rattle.vs_host.specs.Disk.{Disk, Name, names_at}
use Rattle.vs_host.specs.Trace.{Snapshot, Each}
use Rattle.vs_host.specs.declared.names.Names.{Names}
use Rattle.vs_disk.specs.Images.{HoldsAt, HoldsBytes}
use Rattle.vs_disk.specs.Names.{SameAt}
use Rattle.vs_safety.specs.Stretches.{IsShorter, IsFirst, KeepsSince}

shorter_one : (n : ℕ) (newer older : List Snapshot) (m : Snapshot) → Each (IsShorter n) (newer ++ m ∷ older) → IsShorter n m
shorter_one n [] older m each = each.0
shorter_one n (x ∷ newer) older m each = shorter_one n newer older m each.1

-- there is one first snapshot with n bytes
same_first : (n : ℕ) (one other : Snapshot) (newer older newer' older' : List Snapshot) → newer ++ one ∷ older ≡ newer' ++ other ∷ older' → n ≤ length one.output → n ≤ length other.output
    → Each (IsShorter n) older → Each (IsShorter n) older' → other ≡ one
same_first n one other [] older [] older' same reached reached' before before' = cc
same_first n one other [] older (x ∷ newer') older' same reached reached' before before' =
    let rest : older ≡ newer' ++ other ∷ older' = cc in
    let less : length other.output < n = shorter_one n newer' older' other (subst (λ (ms : List Snapshot). Each (IsShorter n) ms) rest before) in
    absurd (omega (arith, less, reached'))
same_first n one other (x ∷ newer) older [] older' same reached reached' before before' =
    let rest : older' ≡ newer ++ one ∷ older = cc in
    let less : length one.output < n = shorter_one n newer older one (subst (λ (ms : List Snapshot). Each (IsShorter n) ms) rest before') in
    absurd (omega (arith, less, reached))
same_first n one other (x ∷ newer) older (y ∷ newer') older' same reached reached' before before' =
    let rest : newer ++ one ∷ older ≡ newer' ++ other ∷ older' = cc in
    same_first n one other newer older newer' older' rest reached reached' before before'

pub first_once : (n : ℕ) (moments : List Snapshot) (one other : Snapshot) → IsFirst n moments one → IsFirst n moments other → other ≡ one
first_once n moments one other first second =
    same_first n one other first.newer first.older second.newer second.older (sym first.is ∙ second.is) first.reached second.reached first.not_before second.not_before

holds_same : (inside : Name → Bool) (name : Name) (bytes : List ℕ) (old new : Disk) → inside name ≡ true → SameAt inside old new → HoldsBytes name bytes old → HoldsBytes name bytes new
holds_same inside name bytes old new is same holds lost =
    let at = same.back lost in
    let was : HoldsAt at.0 name (λ c. c ≡ bytes) old = holds at.0 in
    let leads : names_at new lost name ≡ Some was.number = at.1 name is ∙ was.leads in
    record {
      number = was.number;
      leads = leads;
      leaves = λ c image. was.leaves c (subst (λ (f : File). IsFileImage f c) (same.files lost name was.number is leads) image);
    }

pub lasts : (others : Name → Bool) (names : Names) (moments : List Snapshot) (n : ℕ) (folder : Disk) (first : Snapshot) (name : Name) (bytes : List ℕ) → others name ≡ true → KeepsSince others names moments n None folder
    → IsFirst n moments first → HoldsBytes name bytes first.folder → HoldsBytes name bytes folder
lasts others names moments n folder first name bytes foreign since begins holds =
    holds_same others name bytes since.since.folder folder foreign since.keeps
    (subst (λ (m : Snapshot). HoldsBytes name bytes m.folder) (first_once n moments since.since first since.begins begins) holds)
