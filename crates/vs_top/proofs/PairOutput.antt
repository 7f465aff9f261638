-- What the output of a run of two sessions has under the prefix of one is what that one writes.
use Rattle.std.proofs.Common.{◌≡◌, ◌≢◌, ℕ, List, [], ◌∷◌, ◌++◌, get_or, refl, sym, ◌∙◌, ap, subst, arith, append_assoc, append-nil}
use Rattle.std.specs.Prelude.{codes}
use Rattle.std.proofs.lemmas.List.Elements.{All-nil, All-cons}
use Rattle.vs_text.specs.Text.{IsLine, lines_of}
use Rattle.vs_family.specs.declared.which.Which.{Which}
use Rattle.vs_family.specs.declared.which.Which.TheVariants as which
use Rattle.vs_host.specs.World.{Scene}
use Rattle.vs_machine.specs.declared.command.Mark.{Mark}
use Rattle.vs_machine.specs.Replies.{opening_of}
use Rattle.vs_safety.specs.Turns.{preserved_line, quit_line}
use Rattle.vs_session.specs.Session.{reply_of}
use Rattle.vs_split.specs.Tags.{if_same}
use Rattle.vs_tagged.specs.Tagged.{lines_under}
use Rattle.vs_tagged.proofs.Lines.{reads_other, reads_own}
use Rattle.vs_top.specs.Tags.{no_session, prefix_of, session_ended, tagged_for}
use Rattle.vs_top.specs.PairHistory.{PairAnswer, Answered, Left, AfterQuit, OfNone, Preserved, AnswerList, BothFiles, answer_lines, opening_for, own_lines, reply_after, state_for, written_both}
use Rattle.vs_top.specs.PairScript.{answers_of}
use Rattle.vs_top.specs.PairPromise.{AllWhole, Reach, HasRunBoth, WroteBoth, files_in}
use Rattle.vs_top.specs.declared.ending.Ending.{Ending}

line_of_two : (byte : ℕ) → byte ≢ 10 → IsLine (byte ∷ 58 ∷ [])
line_of_two byte not = All-cons (λ b. b ≢ 10) byte (58 ∷ []) not (All-cons (λ b. b ≢ 10) 58 [] (λ is. omega (arith, is)) (All-nil (λ b. b ≢ 10)))

line_one : IsLine (codes "1:")
line_one = line_of_two 49 (λ is. omega (arith, is))

line_two : IsLine (codes "2:")
line_two = line_of_two 50 (λ is. omega (arith, is))

line_none : IsLine (codes "0:")
line_none = line_of_two 48 (λ is. omega (arith, is))

differ : (a b : ℕ) → a ≢ b → a ∷ 58 ∷ [] ≢ b ∷ 58 ∷ []
differ a b not is = not (ap (λ (l : List ℕ). get_or l 0 0) is)

-- under the prefix of a session stand the lines of a reply to it, and none of another
one_reply : (session whose : Which) (bytes rest : List ℕ)
    → lines_under (prefix_of session) (lines_of (tagged_for whose bytes ++ rest)) ≡ if_same session whose (lines_of bytes) [] ++ lines_under (prefix_of session) (lines_of rest)
one_reply which.One which.One bytes rest = reads_own (codes "1:") bytes rest line_one
one_reply which.One which.Two bytes rest = reads_other (codes "2:") (codes "1:") bytes rest line_two refl (differ 49 50 (λ is. omega (arith, is)))
one_reply which.Two which.One bytes rest = reads_other (codes "1:") (codes "2:") bytes rest line_one refl (differ 50 49 (λ is. omega (arith, is)))
one_reply which.Two which.Two bytes rest = reads_own (codes "2:") bytes rest line_two

no_reply : (session : Which) (rest : List ℕ) → lines_under (prefix_of session) (lines_of (no_session ++ rest)) ≡ lines_under (prefix_of session) (lines_of rest)
no_reply which.One rest = reads_other (codes "0:") (codes "1:") (codes "no session" ++ 10 ∷ []) rest line_none refl (differ 49 48 (λ is. omega (arith, is)))
no_reply which.Two rest = reads_other (codes "0:") (codes "2:") (codes "no session" ++ 10 ∷ []) rest line_none refl (differ 50 48 (λ is. omega (arith, is)))

-- an answer
one_answer : (session : Which) (files : BothFiles) (earlier : AnswerList) (answer : PairAnswer) (rest : List ℕ)
    → lines_under (prefix_of session) (lines_of (reply_after files earlier answer ++ rest)) ≡ answer_lines session files earlier answer ++ lines_under (prefix_of session) (lines_of rest)
one_answer session files earlier (Answered whose run) rest = one_reply session whose (reply_of (state_for whose files earlier) run.instruction run.ended).bytes rest
one_answer session files earlier (Left whose quit) rest = one_reply session whose quit_line rest
one_answer session files earlier (AfterQuit whose) rest = one_reply session whose session_ended rest
one_answer session files earlier OfNone rest = no_reply session rest
one_answer session files earlier (Preserved whose synced) rest = one_reply session whose preserved_line rest

both_openings : (session : Which) (files : BothFiles) (rest : List ℕ)
    → lines_under (prefix_of session) (lines_of ((opening_for which.One files ++ opening_for which.Two files) ++ rest)) ≡ own_lines session files [] ++ lines_under (prefix_of session) (lines_of rest)
both_openings which.One files rest =
    ap (λ (l : List ℕ). lines_under (prefix_of which.One) (lines_of l)) (append_assoc (opening_for which.One files) (opening_for which.Two files) rest)
    ∙ one_reply which.One which.One (opening_of files.one.name files.one.found).bytes (opening_for which.Two files ++ rest)
    ∙ ap (λ (ls : List (List ℕ)). lines_of (opening_of files.one.name files.one.found).bytes ++ ls) (one_reply which.One which.Two (opening_of files.two.name files.two.found).bytes rest)
both_openings which.Two files rest =
    ap (λ (l : List ℕ). lines_under (prefix_of which.Two) (lines_of l)) (append_assoc (opening_for which.One files) (opening_for which.Two files) rest)
    ∙ one_reply which.Two which.One (opening_of files.one.name files.one.found).bytes (opening_for which.Two files ++ rest)
    ∙ one_reply which.Two which.Two (opening_of files.two.name files.two.found).bytes rest

-- all answers, and what follows
pub own_output : (session : Which) (files : BothFiles) (answers : AnswerList) (rest : List ℕ)
    → lines_under (prefix_of session) (lines_of (written_both files answers ++ rest)) ≡ own_lines session files answers ++ lines_under (prefix_of session) (lines_of rest)
own_output session files [] rest = both_openings session files rest
own_output session files (last ∷ earlier) rest =
    ap (λ (l : List ℕ). lines_under (prefix_of session) (lines_of l)) (append_assoc (written_both files earlier) (reply_after files earlier last) rest)
    ∙ own_output session files earlier (reply_after files earlier last ++ rest)
    ∙ ap (λ (ls : List (List ℕ)). own_lines session files earlier ++ ls) (one_answer session files earlier last rest)
    ∙ sym (append_assoc (own_lines session files earlier) (answer_lines session files earlier last) (lines_under (prefix_of session) (lines_of rest)))

-- of a run whose answers are all whole
pub own_run : (session : Which) (one two : List ℕ) (old new : Scene) (end : Ending) (marks : List Mark) (ran : HasRunBoth one two old new end marks) → old.output ≡ [] → ran.did.reach ≡ AllWhole
    → lines_under (prefix_of session) (lines_of new.output) ≡ own_lines session (files_in old one two) (answers_of ran.did.transcript)
own_run session one two old new end marks ran empty whole =
    let files : BothFiles = files_in old one two in
    let answers : AnswerList = answers_of ran.did.transcript in
    let wrote : WroteBoth AllWhole files old new answers = subst (λ (e : Reach). WroteBoth e files old new answers) whole ran.wrote in
    let output : new.output ≡ written_both files answers ++ [] = wrote.0 ∙ ap (λ (l : List ℕ). l ++ written_both files answers) empty ∙ sym (append-nil (written_both files answers)) in
    ap (λ (l : List ℕ). lines_under (prefix_of session) (lines_of l)) output ∙ own_output session files answers [] ∙ append-nil (own_lines session files answers)
