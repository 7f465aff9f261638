-- A history computes, the newest turn first; the promise reads its turns in the order in which they were answered.
use Rattle.std.proofs.Common.{◌≡◌, ◌+◌, List, [], ◌∷◌, ◌++◌, length, length-append, refl, sym, ◌∙◌, arith, append_assoc}
use Rattle.vs_host.specs.World.{Scene}
use Rattle.vs_safety.specs.Turns.{Turn, Closing, Quits, with_closing, after_turns, opened, replies}
use Rattle.vs_safety.specs.Safety.{opened_at}
use Rattle.vs_safety.specs.History.{History, Open, After, opened_document, opening_reply, syncs_of, written_by, turns_then, replied_at}

pub then_is : (past : History) (rest : List Turn) → turns_then past rest ≡ turns_then past [] ++ rest
then_is past rest = appended past [] rest
  where
    appended : (past : History) (turns rest : List Turn) → turns_then past (turns ++ rest) ≡ turns_then past turns ++ rest
    appended (Open document opening) turns rest = refl
    appended (After past turn) turns rest = appended past (turn ∷ turns) rest

pub syncs_are : (past : History) (rest : List Turn) → after_turns (opened (opened_document past)) (turns_then past rest) ≡ after_turns (syncs_of past) rest
syncs_are (Open document opening) rest = refl
syncs_are (After past turn) rest = syncs_are past (turn ∷ rest)

pub written_are : (past : History) (rest : List Turn) → opening_reply past ++ replies (turns_then past rest) ≡ written_by past ++ replies rest
written_are (Open document opening) rest = refl
written_are (After past turn) rest = written_are past (turn ∷ rest) ∙ sym (append_assoc (written_by past) turn.reply (replies rest))

pub replied_is : (start : Scene) (past : History) (rest : List Turn)
    → opened_at start (opening_reply past) + length (replies (turns_then past rest)) ≡ replied_at start past + length (replies rest)
replied_is start (Open document opening) rest = refl
replied_is start (After past turn) rest = omega (arith, replied_is start past (turn ∷ rest), length-append turn.reply (replies rest))

pub place_is : (start : Scene) (past : History) → opened_at start (opening_reply past) + length (replies (turns_then past [])) ≡ replied_at start past
place_is start past = omega (arith, replied_is start past [])

-- a quit is no turn
pub quit_turns : (turns : List Turn) (closing : Closing) → closing ≡ Quits → with_closing turns closing ≡ turns
quit_turns turns Rattle.vs_safety.specs.Turns.NotBegun quits = refl
quit_turns turns (Rattle.vs_safety.specs.Turns.LastSync sync) quits = absurd (cc)
quit_turns turns Quits quits = refl
