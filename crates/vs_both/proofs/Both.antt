-- A turn of one of two sessions is a turn of both: of the other one, a command that does nothing.
use Rattle.std.proofs.Common.{◌⊎◌, ℕ, ◌<◌, List, ◌++◌, length, length-append, Option, None, sym, ◌∙◌, ap, subst, arith, append_assoc}
use Rattle.vs_host.specs.Disk.{Disk}
use Rattle.vs_host.specs.World.{Scene, LeavesTrace}
use Rattle.vs_disk.specs.Names.{IsApart}
use Rattle.vs_text.specs.Documents.{Document}
use Rattle.vs_safety.specs.FileWork.{FileWork}
use Rattle.vs_safety.specs.Texts.{IsBetween, NoneLeft, RecoversOrNone, recoverable}
use Rattle.vs_safety.specs.Turns.{Turn, Quits, with_begun}
use Rattle.vs_safety.specs.Safety.{IsCrashSafeAmong, IsFirstPart, IsUnderWay, Looks, Stepped, SteppedAmong, Works, Wrote}
use Rattle.vs_safety.specs.History.{History, Open, After, HasBegunAmong, Replied, WaitsAmong, ran_of, syncs_of}
use Rattle.vs_safety.proofs.Replies.{wrote_then}
use Rattle.vs_safety.proofs.SoFar.{so_far_now, waits_first, waits_next, waits_on}
use Rattle.vs_safety.proofs.Endings.{cut_turn, opening_cut, quits, stopped}
use Rattle.vs_both.specs.Beside.{Party, AreSetApart, AreBeside, HasFamily, ShareNone, of_others, others_of}
use Rattle.vs_both.specs.Both.{PartyStage, Running, Gone, with_turn, WaitsAtStage, HasKept, BothGo, BothKept}
use Rattle.vs_both.proofs.Names.{first_stays_apart, share_none}
use Rattle.vs_both.proofs.Turns.{foreign_turn, idle_turn, own_turn, own_works}
use Rattle.vs_both.proofs.Quits.{beside_looks, beside_then, beside_works, beside_wrote, has_quit, quit_on}

-- ---- one session

module _ (party : Party) (start : Scene) where
  between_now : (past : History) (now : Scene) → WaitsAmong (others_of party) party.names start past now → IsBetween party.names (syncs_of past) now.folder
  between_now past now waits = (so_far_now (others_of party) party.names start past now waits).stands.between

  at_looks : (stage : PartyStage) (now new : Scene) → WaitsAtStage party start stage now → Looks now new → WaitsAtStage party start stage new
  at_looks (Running past) now new at looks = waits_on (others_of party) party.names start past now new at looks
  at_looks (Gone past) now new at looks = quit_on party start past now new at (beside_looks party now new looks)

  at_stops : (stage : PartyStage) (now : Scene) → WaitsAtStage party start stage now → HasKept party start stage now
  at_stops (Running past) now at = stopped (others_of party) party.names party.line start past now at
  at_stops (Gone past) now at = at

  -- a reply for which nobody works on the folder
  at_replied : (stage : PartyStage) (reply : List ℕ) (now new : Scene) → WaitsAtStage party start stage now → Replied reply now new → WaitsAtStage party start (with_turn stage (of_others reply)) new
  at_replied (Running past) reply now new at replied =
      waits_next (others_of party) party.names start past (of_others reply) now now new at (idle_turn party (syncs_of past) reply now (between_now past now at)) replied
  at_replied (Gone past) reply now new at replied = quit_on party start past now new at (beside_wrote party reply now new replied.wrote)

  at_reply_cut : (stage : PartyStage) (reply written : List ℕ) (now new : Scene) → WaitsAtStage party start stage now → 0 < length reply → Wrote written now new → IsFirstPart written reply → HasKept party start (with_turn stage (of_others reply)) new
  at_reply_cut (Running past) reply written now new at some wrote part =
      cut_turn (others_of party) party.names party.line start past now at now new (of_others reply) written some (idle_turn party (syncs_of past) reply now (between_now past now at)) wrote part
  at_reply_cut (Gone past) reply written now new at some wrote part = quit_on party start past now new at (beside_wrote party written now new wrote)

  -- the other one works, and writes its reply
  module _ (other : Party) (has : HasFamily party) (other_has : HasFamily other) (apart : ShareNone party other) (write : Option FileWork) (Q : Disk → Type 0) (now ended : Scene) (alone : IsApart party.family now.folder)
      (works : Works other.names write Q now ended) where
    seen : (past : History) (reply : List ℕ) → WaitsAmong (others_of party) party.names start past now → SteppedAmong (others_of party) party.names (syncs_of past) (of_others reply) now ended
    seen past reply at = foreign_turn party other has other_has apart write Q now ended alone (syncs_of past) reply (between_now past now at) works

    at_other : (stage : PartyStage) (reply : List ℕ) (new : Scene) → WaitsAtStage party start stage now → Replied reply ended new → WaitsAtStage party start (with_turn stage (of_others reply)) new
    at_other (Running past) reply new at replied = waits_next (others_of party) party.names start past (of_others reply) now ended new at (seen past reply at) replied
    at_other (Gone past) reply new at replied =
        quit_on party start past now new at
        (beside_then party now ended new (beside_works party other write Q now ended has other_has apart alone works) (beside_wrote party reply ended new replied.wrote))

    at_other_cut : (stage : PartyStage) (reply written : List ℕ) (new : Scene) → WaitsAtStage party start stage now → 0 < length reply → Wrote written ended new → IsFirstPart written reply → HasKept party start (with_turn stage (of_others reply)) new
    at_other_cut (Running past) reply written new at some wrote part =
        cut_turn (others_of party) party.names party.line start past now at ended new (of_others reply) written some (seen past reply at) wrote part
    at_other_cut (Gone past) reply written new at some wrote part =
        quit_on party start past now new at
        (beside_then party now ended new (beside_works party other write Q now ended has other_has apart alone works) (beside_wrote party written ended new wrote))

-- ---- both

pub both_swapped : (one two : Party) (start now : Scene) (first second : PartyStage) → BothGo one two start first second now → BothGo two one start second first now
both_swapped one two start now first second both = record {
  first_at = both.second_at;
  second_at = both.first_at;
  apart = record { first = both.apart.second; second = both.apart.first };
}

pub beside_swapped : (one two : Party) → AreBeside one two → AreBeside two one
beside_swapped one two are = record { first = are.second; second = are.first; apart = share_none one two are.apart }

module _ (one two : Party) (start now : Scene) (first second : PartyStage) (both : BothGo one two start first second now) where
  pub both_look : (new : Scene) → Looks now new → BothGo one two start first second new
  both_look new looks = record {
    first_at = at_looks one start first now new both.first_at looks;
    second_at = at_looks two start second now new both.second_at looks;
    apart = subst (λ (d : Disk). AreSetApart one two d) (sym looks.folder) both.apart;
  }

  pub both_stop : BothKept one two start first second now
  both_stop = record { first_kept = at_stops one start first now both.first_at; second_kept = at_stops two start second now both.second_at }

  pub both_replied : (reply : List ℕ) (new : Scene) → Replied reply now new → BothGo one two start (with_turn first (of_others reply)) (with_turn second (of_others reply)) new
  both_replied reply new replied = record {
    first_at = at_replied one start first reply now new both.first_at replied;
    second_at = at_replied two start second reply now new both.second_at replied;
    apart = subst (λ (d : Disk). AreSetApart one two d) (sym replied.wrote.folder) both.apart;
  }

  pub both_reply_cut : (reply written : List ℕ) (new : Scene) → 0 < length reply → Wrote written now new → IsFirstPart written reply → BothKept one two start (with_turn first (of_others reply)) (with_turn second (of_others reply)) new
  both_reply_cut reply written new some wrote part = record {
    first_kept = at_reply_cut one start first reply written now new both.first_at some wrote part;
    second_kept = at_reply_cut two start second reply written now new both.second_at some wrote part;
  }

-- the first session is asked
module _ (one two : Party) (are : AreBeside one two) (start now : Scene) (past : History) (second : PartyStage) (both : BothGo one two start (Running past) second now) where
  other_share : ShareNone two one
  other_share = share_none one two are.apart

  module _ (turn : Turn) (ended : Scene) (stepped : Stepped one.names (syncs_of past) turn now ended) where
    abbrev Under : Disk → Type 0
    Under = IsUnderWay one.names (with_begun turn.sync (syncs_of past)) turn.write

    own : SteppedAmong (others_of one) one.names (syncs_of past) turn now ended
    own = own_turn one (syncs_of past) turn now ended stepped

    pub both_answered : (new : Scene) → Replied turn.reply ended new → BothGo one two start (Running (After past turn)) (with_turn second (of_others turn.reply)) new
    both_answered new replied = record {
      first_at = waits_next (others_of one) one.names start past turn now ended new both.first_at own replied;
      second_at = at_other two start one are.second are.first other_share turn.write Under now ended both.apart.second.own stepped.works second turn.reply new both.second_at replied;
      apart = subst (λ (d : Disk). AreSetApart one two d) (sym replied.wrote.folder) (first_stays_apart one two turn.write now.folder ended.folder are both.apart stepped.works.spared);
    }

    pub both_cut : (written : List ℕ) (new : Scene) → 0 < length turn.reply → Wrote written ended new → IsFirstPart written turn.reply → BothKept one two start (Running (After past turn)) (with_turn second (of_others turn.reply)) new
    both_cut written new some wrote part = record {
      first_kept = cut_turn (others_of one) one.names one.line start past now both.first_at ended new turn written some own wrote part;
      second_kept = at_other_cut two start one are.second are.first other_share turn.write Under now ended both.apart.second.own stepped.works second turn.reply written new both.second_at some wrote part;
    }

  -- it quits
  module _ (mid : Scene) (works : Works one.names None (RecoversOrNone one.names (recoverable (syncs_of past))) now mid) where
    abbrev Removing : Disk → Type 0
    Removing = RecoversOrNone one.names (recoverable (syncs_of past))

    pub both_quit : (new : Scene) → NoneLeft one.names mid.folder → Replied one.line mid new → BothGo one two start (Gone past) (with_turn second (of_others one.line)) new
    both_quit new none replied = record {
      first_at = has_quit one start past now mid new both.first_at works none replied;
      second_at = at_other two start one are.second are.first other_share None Removing now mid both.apart.second.own works second one.line new both.second_at replied;
      apart = subst (λ (d : Disk). AreSetApart one two d) (sym replied.wrote.folder) (first_stays_apart one two None now.folder mid.folder are both.apart works.spared);
    }

    pub both_quit_cut : (written : List ℕ) (new : Scene) → 0 < length one.line → Wrote written mid new → IsFirstPart written one.line → LeavesTrace mid new ⊎ NoneLeft one.names mid.folder
        → IsCrashSafeAmong (others_of one) one.names one.line start new (ran_of past Quits) × HasKept two start (with_turn second (of_others one.line)) new
    both_quit_cut written new some wrote part either = (
      quits (others_of one) one.names one.line start past now both.first_at mid new written (own_works one None Removing now mid works) wrote part either,
      at_other_cut two start one are.second are.first other_share None Removing now mid both.apart.second.own works second one.line written new both.second_at some wrote part,
    )

-- ---- both opening replies

part_front : (written reply more : List ℕ) → IsFirstPart written reply → IsFirstPart written (reply ++ more)
part_front written reply more part = (part.0 ++ more, ap (λ (l : List ℕ). l ++ more) part.1 ∙ append_assoc written part.0 more)

part_behind : (reply written other : List ℕ) → IsFirstPart written other → IsFirstPart (reply ++ written) (reply ++ other)
part_behind reply written other part = (part.0, ap (λ (l : List ℕ). reply ++ l) part.1 ∙ sym (append_assoc reply written part.0))

module _ (one two : Party) (start now : Scene) (document other_document : Document) (reply other_reply : List ℕ) (first : HasBegunAmong (others_of one) one.names document start now)
    (second : HasBegunAmong (others_of two) two.names other_document start now) where
  both_replies : (mid new : Scene) → Replied reply now mid → Replied other_reply mid new → Replied (reply ++ other_reply) now new
  both_replies mid new replied other_replied = record { some = some_both replied.some; wrote = wrote_then reply other_reply now mid new replied.wrote other_replied.wrote }
    where
      some_both : 0 < length reply → 0 < length (reply ++ other_reply)
      some_both some = omega (arith, some, length-append reply other_reply)

  pub both_opened : (mid new : Scene) → AreSetApart one two now.folder → Replied reply now mid → Replied other_reply mid new
      → BothGo one two start (Running (After (Open document reply) (of_others other_reply))) (Running (Open other_document (reply ++ other_reply))) new
  both_opened mid new apart replied other_replied = record {
    first_at = at_replied one start (Running (Open document reply)) other_reply mid new (waits_first (others_of one) one.names start document reply now mid first replied) other_replied;
    second_at = waits_first (others_of two) two.names start other_document (reply ++ other_reply) now new second (both_replies mid new replied other_replied);
    apart = subst (λ (d : Disk). AreSetApart one two d) (sym (other_replied.wrote.folder ∙ replied.wrote.folder)) apart;
  }

  -- the first one is cut short
  pub both_first_cut : (written : List ℕ) (new : Scene) → 0 < length reply → Wrote written now new → IsFirstPart written reply → BothKept one two start (Running (Open document reply)) (Running (Open other_document (reply ++ other_reply))) new
  both_first_cut written new some wrote part = record {
    first_kept = opening_cut (others_of one) one.names one.line document reply start now first new written some wrote part;
    second_kept = opening_cut (others_of two) two.names two.line other_document (reply ++ other_reply) start now second new written (omega (arith, some, length-append reply other_reply)) wrote (part_front written reply other_reply part);
  }

  -- or the second one
  pub both_second_cut : (mid : Scene) (written : List ℕ) (new : Scene) → Replied reply now mid → 0 < length other_reply → Wrote written mid new → IsFirstPart written other_reply
      → BothKept one two start (Running (After (Open document reply) (of_others other_reply))) (Running (Open other_document (reply ++ other_reply))) new
  both_second_cut mid written new replied some wrote part = record {
    first_kept = at_reply_cut one start (Running (Open document reply)) other_reply written mid new (waits_first (others_of one) one.names start document reply now mid first replied) some wrote part;
    second_kept = opening_cut (others_of two) two.names two.line other_document (reply ++ other_reply) start now second new (reply ++ written) (omega (arith, some, length-append reply other_reply))
        (wrote_then reply written now mid new replied.wrote wrote) (part_behind reply written other_reply part);
  }
