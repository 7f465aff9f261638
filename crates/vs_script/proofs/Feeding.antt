-- The feed stands where the script is read: each line moves both alike.
use Rattle.std.proofs.Common.{◌≡◌, ◌∙◌, ℕ, true, false, List, [], ◌∷◌, ◌++◌, Some, None, refl, sym, Ok}
use Rattle.std.proofs.lemmas.Bool.{true≢false}
use Rattle.vs_exparse.specs.Command.{Command}
use Rattle.vs_excmd.specs.Request.{IsRequest}
use Rattle.vs_excmd.specs.declared.request.Request.{Request}
use Rattle.vs_script.specs.declared.block.OpenBlock.{OpenBlock}
use Rattle.vs_script.specs.declared.feed.CommandFeed.{CommandFeed}
use Rattle.vs_script.specs.declared.feed.Fed.TheVariants as fed
use Rattle.vs_script.specs.Ahead.{MeanSame}
use Rattle.vs_script.specs.Feed.{Reading, Between, Within, BlockIsAt, HasEnded, IsAt, IsEnded, IsReady, ended_last, takes}
use Rattle.vs_script.specs.Script.{LineKind, NoCommand, Alone, Head, instruction, is_alone, is_dot, kind_of}
use Rattle.vs_script.proofs.LineKinds.{kind_of-same, is_dot-same}

-- ---- a line that stands in no block

pub begins_none : (feed : CommandFeed) (line more : List ℕ) → feed.block ≡ None → kind_of line ≡ NoCommand → MeanSame line more
    → HasEnded fed.Nothing line (takes Between more).ended × IsAt feed (takes Between more).reading
begins_none feed line more none kind same =
    let is : kind_of more ≡ NoCommand = sym (kind_of-same line more same) ∙ kind in
    rw (is, none) (refl, tt)

alone_by : (feed : CommandFeed) (line more : List ℕ) (kind : LineKind) → feed.block ≡ None → is_alone kind ≡ true → kind_of line ≡ kind → kind_of more ≡ kind
    → HasEnded fed.Alone line (takes Between more).ended × IsAt feed (takes Between more).reading
alone_by feed line more NoCommand none alone is also = absurd (true≢false (sym alone))
alone_by feed line more (Alone parsed) none alone is also = rw (also, none) ((parsed, is, refl), tt)
alone_by feed line more (Head command) none alone is also = absurd (true≢false (sym alone))

pub begins_alone : (feed : CommandFeed) (line more : List ℕ) → feed.block ≡ None → is_alone (kind_of line) ≡ true → MeanSame line more
    → HasEnded fed.Alone line (takes Between more).ended × IsAt feed (takes Between more).reading
begins_alone feed line more none alone same = alone_by feed line more (kind_of line) none alone refl (sym (kind_of-same line more same))

pub begins_block : (feed : CommandFeed) (block : OpenBlock) (command : Command) (line more : List ℕ) → feed.block ≡ Some block → BlockIsAt block command [] → kind_of line ≡ Head command
    → MeanSame line more → HasEnded fed.Nothing line (takes Between more).ended × IsAt feed (takes Between more).reading
begins_block feed block command line more some here kind same =
    let is : kind_of more ≡ Head command = sym (kind_of-same line more same) ∙ kind in
    rw (is, some) (refl, here)

-- ---- where a feed stands by its block

pub at_none : (feed : CommandFeed) (reading : Reading) → IsAt feed reading → feed.block ≡ None → reading ≡ Between
at_none feed Between stands none = refl
at_none feed (Within command lines) stands none = absurd (rw none at stands)

in_block : (feed : CommandFeed) (block : OpenBlock) (reading : Reading) → IsAt feed reading → feed.block ≡ Some block → (command : Command) × (lines : List (List ℕ)) × BlockIsAt block command lines
in_block feed block Between stands some = absurd (rw some at stands)
in_block feed block (Within command lines) stands some = (command, lines, rw some at stands)

pub block_there : (feed : CommandFeed) (block : OpenBlock) → IsReady feed → feed.block ≡ Some block → (command : Command) × (lines : List (List ℕ)) × BlockIsAt block command lines
block_there feed block ready some = in_block feed block ready.0 ready.1 some

-- ---- a line of a block

pub ends_in : (feed feed' : CommandFeed) (block : OpenBlock) (request : Request) (line : List ℕ) → feed.block ≡ Some block → feed'.block ≡ None → is_dot line ≡ true
    → ((command : Command) (lines : List (List ℕ)) → BlockIsAt block command lines → IsRequest request (instruction (Ok command) lines))
    → (reading : Reading) (more : List ℕ) → IsAt feed reading → MeanSame line more → HasEnded (fed.Block request) line (takes reading more).ended × IsAt feed' (takes reading more).reading
ends_in feed feed' block request line some none dot meant Between more stands same = absurd (rw some at stands)
ends_in feed feed' block request line some none dot meant (Within command lines) more stands same =
    let is : is_dot more ≡ true = sym (is_dot-same line more same) ∙ dot in
    let here : BlockIsAt block command lines = rw some at stands in
    rw (is, none) (meant command lines here, tt)

pub goes_in : (feed feed' : CommandFeed) (block block' : OpenBlock) (line : List ℕ) → feed.block ≡ Some block → feed'.block ≡ Some block' → is_dot line ≡ false
    → ((command : Command) (lines : List (List ℕ)) (more : List ℕ) → BlockIsAt block command lines → MeanSame line more → BlockIsAt block' command (lines ++ more ∷ []))
    → (reading : Reading) (more : List ℕ) → IsAt feed reading → MeanSame line more → HasEnded fed.Nothing line (takes reading more).ended × IsAt feed' (takes reading more).reading
goes_in feed feed' block block' line some some' plain with Between more stands same = absurd (rw some at stands)
goes_in feed feed' block block' line some some' plain with (Within command lines) more stands same =
    let is : is_dot more ≡ false = sym (is_dot-same line more same) ∙ plain in
    let here : BlockIsAt block command lines = rw some at stands in
    rw (is, some') (refl, with command lines more here same)

-- ---- the script's end

pub end_none : (feed : CommandFeed) → feed.block ≡ None → (reading : Reading) → IsAt feed reading → IsEnded None (ended_last reading)
end_none feed none Between stands = tt
end_none feed none (Within command lines) stands = absurd (rw none at stands)

pub end_some : (feed : CommandFeed) (block : OpenBlock) (request : Request) → feed.block ≡ Some block
    → ((command : Command) (lines : List (List ℕ)) → BlockIsAt block command lines → IsRequest request (instruction (Ok command) lines))
    → (reading : Reading) → IsAt feed reading → IsEnded (Some request) (ended_last reading)
end_some feed block request some meant Between stands = absurd (rw some at stands)
end_some feed block request some meant (Within command lines) stands = meant command lines (rw some at stands)
