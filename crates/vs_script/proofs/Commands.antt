-- Each line that is read adds to the commands that are known, whatever follows.
use Rattle.std.proofs.Common.{◌≡◌, ◌⊎◌, ◌≤◌, ◌+◌, inl, inr, ℕ, Bool, true, false, List, [], ◌∷◌, ◌++◌, Option, Some, None, refl, sym, ap, subst, ◌∙◌, Ok, IfSome}
use Rattle.std.specs.declared.result.Result.{Result}
use Rattle.std.proofs.lemmas.Bool.{cases_Bool, true≢false}
use Rattle.std.proofs.lemmas.List.{take-take}
use Rattle.vs_exparse.specs.Bytes.{max_line_bytes}
use Rattle.vs_host.specs.World.{Scene}
use Rattle.vs_exparse.specs.Command.{Command}
use Rattle.vs_exparse.specs.declared.command.ExErr.{ExErr}
use Rattle.vs_excmd.specs.Request.{Instruction, IsRequest}
use Rattle.vs_excmd.specs.declared.request.Request.{Request}
use Rattle.vs_script.specs.declared.feed.CommandFeed.{CommandFeed}
use Rattle.vs_script.specs.declared.feed.Fed.{Fed}
use Rattle.vs_script.specs.declared.feed.Fed.TheVariants as fed
use Rattle.vs_script.specs.declared.reader.ScriptErr.{ScriptErr}
use Rattle.vs_script.specs.Ahead.{Ahead, GoesOn, IsKeptOf, Kept, MeanSame, Stops, ReadsLine, TakesLine, kept_of, lines_ahead, whole_lines}
use Rattle.vs_script.specs.Feed.{Reading, Between, Within, Taken, HasEnded, IsAt, IsEnded, IsReady, ended_last, taken_as, taken_in, takes}
use Rattle.vs_script.specs.Requests.{TakesRequest, TakesNone, commands_ahead, whole_commands}
use Rattle.vs_script.specs.Script.{LineKind, NoCommand, Alone, Head, instruction, kind_of, is_dot, commands_by, block_by, commands_of, at_end, not_yet, whole_of}
use Rattle.vs_script.proofs.Going.{goes_on_twice, goes_on_by, goes_on_as, goes_on_start, stops_then, stops_by}

-- what a line adds to the commands, whatever is made of a block without its dot
by_dot : (unended : Command → List (List ℕ) → List Instruction) (all lines : List (List ℕ)) (line : List ℕ) (command : Command) → is_dot line ≡ true
    → block_by unended command all (line ∷ lines) ≡ instruction (Ok command) all ∷ commands_by unended lines
by_dot unended all lines line command dot = rw (block_by, dot) refl

in_block : (unended : Command → List (List ℕ) → List Instruction) (all lines : List (List ℕ)) (line : List ℕ) (command : Command) → is_dot line ≡ false
    → block_by unended command all (line ∷ lines) ≡ block_by unended command (all ++ line ∷ []) lines
in_block unended all lines line command plain = rw (block_by, plain) refl

-- a reader that goes on by a line
pub goes_line : {X : Type 0} (f : List ℕ → X) (k h : List (List ℕ) → X) (line : List ℕ) (old mid new : Ahead) (before between after : Scene) → GoesOn f (λ bytes. k (whole_lines bytes)) old mid before between
    → GoesOn whole_lines (λ bytes. line ∷ whole_lines bytes) mid new between after → ((lines : List (List ℕ)) → k (line ∷ lines) ≡ h lines) → GoesOn f (λ bytes. h (whole_lines bytes)) old new before after
goes_line f k h line old mid new before between after one two step =
    goes_on_as f (λ bytes. k (line ∷ whole_lines bytes)) (λ bytes. h (whole_lines bytes)) old new before after
    (goes_on_twice f (λ bytes. k (whole_lines bytes)) (λ bytes. k (line ∷ whole_lines bytes)) old mid new before between after one (goes_on_by k whole_lines (λ bytes. line ∷ whole_lines bytes) mid new between after two))
    (λ bytes. step (whole_lines bytes))

-- and one that stops in a line
pub stops_line : {X : Type 0} (error : ScriptErr) (f : List ℕ → X) (k : List (List ℕ) → X) (old mid new : Ahead) (before between after : Scene) → GoesOn f (λ bytes. k (whole_lines bytes)) old mid before between
    → Stops error whole_lines [] mid new between after → Stops error f (k []) old new before after
stops_line error f k old mid new before between after one two =
    stops_then error f (λ bytes. k (whole_lines bytes)) (k []) old mid new before between after one (stops_by k error whole_lines [] mid new between after two)

-- a line that was found
pub found_line : (found : Bool) (kept : Kept) (old new : Ahead) (before after : Scene) → found ≡ true → (read : ReadsLine found kept old new before after)
    → lines_ahead old before ≡ read.line ∷ lines_ahead new after
found_line found kept old new before after is read =
    let taken : TakesLine (lines_ahead old before) true read.line (lines_ahead new after) = rw is at read.ahead in taken

-- the commands of a script that is read from here on, whatever is made of a block without its dot
abbrev pub commands_at : (Command → List (List ℕ) → List Instruction) → Reading → List (List ℕ) → List Instruction
commands_at unended Between lines = commands_by unended lines
commands_at unended (Within command block) lines = block_by unended command block lines

-- what a line ends goes before the commands of the rest
abbrev pub before : Option Instruction → List Instruction → List Instruction
before None commands = commands
before (Some command) commands = command ∷ commands

by_kind : (unended : Command → List (List ℕ) → List Instruction) (kind : LineKind) (lines : List (List ℕ))
    → elim kind [ NoCommand ↦ commands_by unended lines | Alone parsed ↦ instruction parsed [] ∷ commands_by unended lines | Head command ↦ block_by unended command [] lines ]
    ≡ before (taken_as kind).ended (commands_at unended (taken_as kind).reading lines)
by_kind unended NoCommand lines = refl
by_kind unended (Alone parsed) lines = refl
by_kind unended (Head command) lines = refl

-- A line ends what it ends, and the script is read on from where it leaves.
pub one_line : (unended : Command → List (List ℕ) → List Instruction) (reading : Reading) (line : List ℕ) (lines : List (List ℕ))
    → commands_at unended reading (line ∷ lines) ≡ before (takes reading line).ended (commands_at unended (takes reading line).reading lines)
one_line unended Between line lines = by_kind unended (kind_of line) lines
one_line unended (Within command block) line lines = elim (cases_Bool (is_dot line)) [
  | inl dot ↦ by_dot unended block lines line command dot ∙ ap (λ (t : Taken). before t.ended (commands_at unended t.reading lines)) (sym (dotted command block line dot))
  | inr plain ↦ in_block unended block lines line command plain ∙ ap (λ (t : Taken). before t.ended (commands_at unended t.reading lines)) (sym (undotted command block line plain))
]
  where
    dotted : (command : Command) (block : List (List ℕ)) (line : List ℕ) → is_dot line ≡ true → taken_in command block line ≡ record { ended = Some (instruction (Ok command) block); reading = Between }
    dotted command block line dot = rw dot refl

    undotted : (command : Command) (block : List (List ℕ)) (line : List ℕ) → is_dot line ≡ false → taken_in command block line ≡ record { ended = None; reading = Within command (block ++ line ∷ []) }
    undotted command block line plain = rw plain refl

-- a line after which no command is ended
none_ended : (unended : Command → List (List ℕ) → List Instruction) (reading : Reading) (line : List ℕ) (lines : List (List ℕ)) → (takes reading line).ended ≡ None
    → commands_at unended reading (line ∷ lines) ≡ commands_at unended (takes reading line).reading lines
none_ended unended reading line lines none = one_line unended reading line lines ∙ ap (λ (e : Option Instruction). before e (commands_at unended (takes reading line).reading lines)) none

-- a line that ends a command stands before the next one
between_then : (reading : Reading) (line : List ℕ) (command : Instruction) → (takes reading line).ended ≡ Some command → (takes reading line).reading ≡ Between
between_then Between line command some = by_line (kind_of line) some
  where
    by_line : (kind : LineKind) → (taken_as kind).ended ≡ Some command → (taken_as kind).reading ≡ Between
    by_line NoCommand is = absurd (cc)
    by_line (Alone parsed) is = refl
    by_line (Head head) is = absurd (cc)
between_then (Within head block) line command some = elim (cases_Bool (is_dot line)) [
  | inl dot ↦ rw dot refl
  | inr plain ↦ absurd (unended plain some)
]
  where
    unended : is_dot line ≡ false → (taken_in head block line).ended ≡ Some command → ⊥
    unended plain is = let none : None ≡ Some command = rw plain at is in absurd (cc)

some_ended : (unended : Command → List (List ℕ) → List Instruction) (reading : Reading) (line : List ℕ) (lines : List (List ℕ)) (command : Instruction) → (takes reading line).ended ≡ Some command
    → commands_at unended reading (line ∷ lines) ≡ command ∷ commands_by unended lines
some_ended unended reading line lines command some =
    one_line unended reading line lines ∙ ap (λ (e : Option Instruction). before e (commands_at unended (takes reading line).reading lines)) some
    ∙ ap (λ (r : Reading). command ∷ commands_at unended r lines) (between_then reading line command some)

-- no command is whole where nothing follows
pub none_whole : (reading : Reading) → commands_at not_yet reading [] ≡ []
none_whole Between = refl
none_whole (Within command block) = refl

-- What is known between two lines: how far the commands are read.
pub record InScript (feed : CommandFeed) (old now : Ahead) (start mid : Scene) : Type 0 where
  pub reading : Reading
  pub at : IsAt feed reading
  pub ahead : commands_at at_end reading (lines_ahead now mid) ≡ commands_ahead old start
  pub going : now.ended ≡ false → GoesOn whole_commands (λ bytes. commands_at not_yet reading (whole_lines bytes)) old now start mid

pub script_begins : (feed : CommandFeed) (old : Ahead) (start : Scene) → IsAt feed Between → InScript feed old old start start
script_begins feed old start at = record { reading = Between; at = at; ahead = refl; going = λ open_before. goes_on_start whole_commands old start open_before }

-- how a line that was read goes on
line_goes : (found : Bool) (kept : Kept) (feed : CommandFeed) (old now new : Ahead) (start mid after : Scene) (h : List (List ℕ) → List Instruction)
    → (so_far : InScript feed old now start mid) → (read : ReadsLine found kept now new mid after)
    → ((lines : List (List ℕ)) → commands_at not_yet so_far.reading (read.line ∷ lines) ≡ h lines) → new.ended ≡ false → GoesOn whole_commands (λ bytes. h (whole_lines bytes)) old new start after
line_goes found kept feed old now new start mid after h so_far read step open_after =
    let next = (read.whole open_after).1 in
    goes_line whole_commands (commands_at not_yet so_far.reading) h read.line old now new start mid after (so_far.going next.open_before) next step

-- one more line, which ends no command
pub script_goes_on : (found : Bool) (kept : Kept) (feed feed' : CommandFeed) (old now new : Ahead) (start mid after : Scene) → (so_far : InScript feed old now start mid)
    → found ≡ true → (read : ReadsLine found kept now new mid after) → (takes so_far.reading read.line).ended ≡ None → IsAt feed' (takes so_far.reading read.line).reading
    → InScript feed' old new start after
script_goes_on found kept feed feed' old now new start mid after so_far is read none at =
    let reading : Reading = so_far.reading in
    record {
      reading = (takes reading read.line).reading;
      at = at;
      ahead = sym (none_ended at_end reading read.line (lines_ahead new after) none) ∙ ap (commands_at at_end reading) (sym (found_line found kept now new mid after is read)) ∙ so_far.ahead;
      going = line_goes found kept feed old now new start mid after (commands_at not_yet (takes reading read.line).reading) so_far read (λ lines. none_ended not_yet reading read.line lines none);
    }

-- a line that ends a command
pub takes_request : (found : Bool) (kept : Kept) (feed : CommandFeed) (request : Request) (command : Instruction) (old now new : Ahead) (start mid after : Scene) → (so_far : InScript feed old now start mid)
    → found ≡ true → (read : ReadsLine found kept now new mid after) → (takes so_far.reading read.line).ended ≡ Some command → IsRequest request command → TakesRequest request old new start after
takes_request found kept feed request command old now new start mid after so_far is read some meant =
    let reading : Reading = so_far.reading in
    record {
      first = command;
      meant = meant;
      ahead = sym so_far.ahead ∙ ap (commands_at at_end reading) (found_line found kept now new mid after is read) ∙ some_ended at_end reading read.line (lines_ahead new after) command some;
      whole = line_goes found kept feed old now new start mid after (λ lines. command ∷ whole_of lines) so_far read (λ lines. some_ended not_yet reading read.line lines command some);
    }

-- a reader that stops
pub script_stops : (error : ScriptErr) (feed : CommandFeed) (old now new : Ahead) (start mid after : Scene) → InScript feed old now start mid
    → Stops error whole_lines [] now new mid after → Stops error whole_commands [] old new start after
script_stops error feed old now new start mid after so_far stop =
    subst (λ (value : List Instruction). Stops error whole_commands value old new start after) (none_whole so_far.reading)
    (stops_line error whole_commands (commands_at not_yet so_far.reading) old now new start mid after (so_far.going stop.open_before) stop)

-- ---- the script's end

pub at_last : (reading : Reading) → commands_at at_end reading [] ≡ before (ended_last reading) []
at_last Between = refl
at_last (Within command block) = refl

-- the commands that are left at the script's end
left_last : (found : Bool) (kept : Kept) (feed : CommandFeed) (old now new : Ahead) (start mid after : Scene) (so_far : InScript feed old now start mid)
    → found ≡ false → ReadsLine found kept now new mid after → commands_ahead old start ≡ before (ended_last so_far.reading) (commands_ahead new after)
left_last found kept feed old now new start mid after so_far none read =
    let taken : TakesLine (lines_ahead now mid) false read.line (lines_ahead new after) = rw none at read.ahead in
    sym so_far.ahead ∙ ap (commands_at at_end so_far.reading) taken.1 ∙ at_last so_far.reading
    ∙ ap (λ (lines : List (List ℕ)). before (ended_last so_far.reading) (commands_of lines)) (sym taken.0)

not_open : (found : Bool) (kept : Kept) (now new : Ahead) (mid after : Scene) → found ≡ false → ReadsLine found kept now new mid after → new.ended ≡ false → ⊥
not_open found kept now new mid after none read open_after = true≢false (sym (read.whole open_after).0 ∙ none)

-- a block that is open ends there
pub ends_request : (found : Bool) (kept : Kept) (feed : CommandFeed) (result : Option Request) (old now new : Ahead) (start mid after : Scene) (so_far : InScript feed old now start mid)
    → found ≡ false → ReadsLine found kept now new mid after → ((reading : Reading) → IsAt feed reading → IsEnded result (ended_last reading))
    → IfSome result (λ request. TakesRequest request old new start after)
ends_request found kept feed result old now new start mid after so_far none read ends =
    by_end result (ended_last so_far.reading) (ends so_far.reading so_far.at) (left_last found kept feed old now new start mid after so_far none read)
  where
    by_end : (result : Option Request) (ended : Option Instruction) → IsEnded result ended → commands_ahead old start ≡ before ended (commands_ahead new after)
        → IfSome result (λ request. TakesRequest request old new start after)
    by_end None ended is left = tt
    by_end (Some request) None is left = absurd is
    by_end (Some request) (Some command) is left =
        record { first = command; meant = is; ahead = left; whole = λ open_after. absurd (not_open found kept now new mid after none read open_after) }

-- or no command is left
pub ends_none : (found : Bool) (kept : Kept) (feed : CommandFeed) (result : Option Request) (old now new : Ahead) (start mid after : Scene) (so_far : InScript feed old now start mid)
    → found ≡ false → ReadsLine found kept now new mid after → ((reading : Reading) → IsAt feed reading → IsEnded result (ended_last reading)) → after.script ≡ [] → result ≡ None
    → TakesNone old new start after
ends_none found kept feed result old now new start mid after so_far none read ends script is_none = record {
  ahead = left_last found kept feed old now new start mid after so_far none read ∙ by_end result (ended_last so_far.reading) (ends so_far.reading so_far.at) is_none;
  ended = elim (cases_Bool new.ended) [
    | inl ended ↦ ended
    | inr open_after ↦ absurd (not_open found kept now new mid after none read open_after)
  ];
  script = script;
}
  where
    by_end : (result : Option Request) (ended : Option Instruction) → IsEnded result ended → result ≡ None → before ended (commands_ahead new after) ≡ []
    by_end None None is same = ap commands_of no_lines
      where
        no_lines : lines_ahead new after ≡ []
        no_lines = let taken : TakesLine (lines_ahead now mid) false read.line (lines_ahead new after) = rw none at read.ahead in taken.0
    by_end None (Some command) is same = absurd is
    by_end (Some request) ended is same = absurd (cc)

-- ---- what the code says of a line

-- a command by itself
pub alone_request : (line : List ℕ) (parsed : Result Command ExErr) (ended : Option Instruction) → HasEnded fed.Alone line ended → kind_of line ≡ Alone parsed → ended ≡ Some (instruction parsed [])
alone_request line parsed ended says kind = says.2 ∙ ap (λ (p : Result Command ExErr). Some (instruction p [])) (same says.0 parsed (sym says.1 ∙ kind))
  where
    same : (a b : Result Command ExErr) → Alone a ≡ Alone b → a ≡ b
    same a b is = cc

-- a command with its block
pub block_request : (request : Request) (ended : Option Instruction) → IsEnded (Some request) ended → (command : Instruction) × (ended ≡ Some command) × IsRequest request command
block_request request None is = absurd is
block_request request (Some command) is = (command, refl, is)

-- what is kept of a line decides what it means
pub means_kept : (bytes line : List ℕ) (kept : Kept) → bytes ≡ kept.bytes → max_line_bytes + 1 ≤ kept.room → IsKeptOf kept line → MeanSame bytes line
means_kept bytes line kept same room is = ap kept_of (same ∙ is) ∙ take-take (max_line_bytes + 1) kept.room line room

-- ---- one line of the feed

-- a line after which the feed goes on
pub feed_goes_on : (found : Bool) (kept : Kept) (feed feed' : CommandFeed) (old now new : Ahead) (start mid after : Scene) (so_far : InScript feed old now start mid)
    → found ≡ true → (read : ReadsLine found kept now new mid after)
    → HasEnded fed.Nothing kept.bytes (takes so_far.reading read.line).ended × IsAt feed' (takes so_far.reading read.line).reading → InScript feed' old new start after
feed_goes_on found kept feed feed' old now new start mid after so_far is read taken =
    script_goes_on found kept feed feed' old now new start mid after so_far is read taken.0 taken.1

-- a line that ends a block
pub block_taken : (found : Bool) (kept : Kept) (feed : CommandFeed) (request : Request) (old now new : Ahead) (start mid after : Scene) (so_far : InScript feed old now start mid)
    → found ≡ true → (read : ReadsLine found kept now new mid after) → IsEnded (Some request) (takes so_far.reading read.line).ended → TakesRequest request old new start after
block_taken found kept feed request old now new start mid after so_far is read ended =
    let command = block_request request (takes so_far.reading read.line).ended ended in
    takes_request found kept feed request command.0 old now new start mid after so_far is read command.1 command.2

-- a line that is a command by itself
pub alone_taken : (found : Bool) (kept : Kept) (feed : CommandFeed) (request : Request) (parsed : Result Command ExErr) (line : List ℕ) (old now new : Ahead) (start mid after : Scene)
    (so_far : InScript feed old now start mid) → found ≡ true → (read : ReadsLine found kept now new mid after) → HasEnded fed.Alone line (takes so_far.reading read.line).ended
    → kind_of line ≡ Alone parsed → IsRequest request (instruction parsed []) → TakesRequest request old new start after
alone_taken found kept feed request parsed line old now new start mid after so_far is read ended kind meant =
    takes_request found kept feed request (instruction parsed []) old now new start mid after so_far is read
    (alone_request line parsed (takes so_far.reading read.line).ended ended kind) meant

-- where the feed stands, it stands also after each line
pub ready_on : (feed feed' : CommandFeed) (fed_is : Fed) (line : List ℕ) → IsReady feed
    → ((reading : Reading) (more : List ℕ) → IsAt feed reading → MeanSame line more → HasEnded fed_is line (takes reading more).ended × IsAt feed' (takes reading more).reading) → IsReady feed'
ready_on feed feed' fed_is line ready taken = ((takes ready.0 line).reading, (taken ready.0 line ready.1 refl).1)

-- an answer to each request where the script is told
pub if_told : (P : Request → Type 0) (told : Type 0) (result : Option Request) → (told → IfSome result P) → IfSome result (λ request. told → P request)
if_told P told None each = tt
if_told P told (Some request) each = each

-- a request at the script's end has lines of its own
pub fewer_at_end : (feed : CommandFeed) (result : Option Request) (less : Type 0) → IsAt feed Between ⊎ less → ((reading : Reading) → IsAt feed reading → IsEnded result (ended_last reading))
    → IfSome result (λ request. less)
fewer_at_end feed None less begun ends = tt
fewer_at_end feed (Some request) less (inl start) ends = absurd (ends Between start)
fewer_at_end feed (Some request) less (inr is) ends = is
