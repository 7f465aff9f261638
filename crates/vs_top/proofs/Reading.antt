-- What a reader has read of a script: whole commands, of which each turn of a run answers one.
use Rattle.std.proofs.Common.{◌≡◌, ℕ, Bool, true, false, List, [], ◌∷◌, ◌++◌, take, length, refl, sym, ap, ◌∙◌, append-nil, arith, ◌+◌, ◌-◌, ◌<◌, ◌≤◌, inl, inr}
use Rattle.std.proofs.lemmas.Bool.{true≢false}
use Rattle.std.proofs.lemmas.Bool.Decides.{leb_tells}
use Rattle.std.proofs.Math.Seq.{take-append-add}
use Rattle.vs_host.specs.World.{Scene}
use Rattle.vs_text.specs.Text.{lines_of}
use Rattle.vs_excmd.specs.Request.{Instruction}
use Rattle.vs_excmd.specs.declared.request.Request.{Request}
use Rattle.vs_script.specs.Ahead.{Ahead, HasSeen, CountsTaken, GoesOn, Stops, IsLeft, script_limit}
use Rattle.vs_script.specs.Requests.{TakesRequest, TakesNone, commands_ahead, whole_commands}
use Rattle.vs_script.specs.Script.{commands_of}
use Rattle.vs_script.specs.declared.reader.ScriptErr.{ScriptErr}
use Rattle.vs_script.proofs.Going.{goes_on_start, goes_on_twice, goes_on_by, goes_on_in, stops_then, stops_by}
use Rattle.vs_top.specs.History.{Past, commands_then}
use Rattle.vs_top.specs.Run.{WereRead, commands_in, commands_within}

-- a reader that has read nothing yet
abbrev pub fresh_reader : Ahead
fresh_reader = record { bytes = []; taken = 0; ended = false }

-- What a reader has read: `done` puts the commands that were read before others, and of what the reader took nothing else is known to be one.
pub record HasRead (fresh reader : Ahead) (start now : Scene) (done : List Instruction → List Instruction) : Type 0 where
  pub ahead : commands_ahead fresh start ≡ done (commands_ahead reader now)
  pub going : reader.ended ≡ false → GoesOn whole_commands (λ bytes. done (whole_commands bytes)) fresh reader start now

pub read_on : (fresh reader reader' : Ahead) (start now between : Scene) (done : List Instruction → List Instruction) (request : Request) → HasRead fresh reader start now done
    → (taken : TakesRequest request reader reader' now between) → HasRead fresh reader' start between (λ rest. done (taken.first ∷ rest))
read_on fresh reader reader' start now between done request read taken = record {
  ahead = read.ahead ∙ ap done taken.ahead;
  going = λ open_after.
      let step = taken.whole open_after in
      goes_on_twice whole_commands (λ bytes. done (whole_commands bytes)) (λ bytes. done (taken.first ∷ whole_commands bytes)) fresh reader reader' start now between (read.going step.open_before)
      (goes_on_by done whole_commands (λ bytes. taken.first ∷ whole_commands bytes) reader reader' now between step);
}

-- in another scene with the same script
pub read_in : (fresh reader : Ahead) (start now scene : Scene) (done : List Instruction → List Instruction) → HasRead fresh reader start now done → scene.script ≡ now.script → HasRead fresh reader start scene done
read_in fresh reader start now scene done read same = record {
  ahead = read.ahead ∙ ap (λ (l : List ℕ). done (commands_of (lines_of (reader.bytes ++ l)))) (sym same);
  going = λ open_after. goes_on_in whole_commands (λ bytes. done (whole_commands bytes)) fresh reader start now scene (read.going open_after) same;
}

-- a reader that has not seen the end has read whole commands of the first bytes, and the limit lies after them
read_before_limit : (fresh reader : Ahead) (start now : Scene) (done : List Instruction → List Instruction) (n : ℕ) → fresh ≡ fresh_reader → reader.taken ≤ n
    → GoesOn whole_commands (λ bytes. done (whole_commands bytes)) fresh reader start now → (rest : List Instruction) × (whole_commands (take n start.script) ≡ done rest)
read_before_limit fresh reader start now done n new limit going =
    let more : ℕ = n - length going.fresh in
    let size : reader.taken ≡ length going.fresh = going.count ∙ ap (λ (a : Ahead). a.taken + length going.fresh) new ∙ omega arith in
    let sum : n ≡ length going.fresh + more = omega (arith, size, limit) in
    let front : take n start.script ≡ going.fresh ++ take more now.script =
    ap (λ (l : List ℕ). take n l) going.script ∙ ap (λ k. take k (going.fresh ++ now.script)) sum ∙ take-append-add going.fresh now.script more in
    let first : fresh.bytes ++ going.fresh ≡ going.fresh = ap (λ (a : Ahead). a.bytes ++ going.fresh) new in (
      whole_commands (reader.bytes ++ take more now.script),
      ap whole_commands (front ∙ ap (λ (l : List ℕ). l ++ take more now.script) (sym first)) ∙ going.each (take more now.script),
    )

pub not_ended : (reader : Ahead) (now : Scene) (ended : Bool) → reader.ended ≡ ended → HasSeen reader now → 0 < length now.script → reader.ended ≡ false
not_ended reader now false is seen some = is
not_ended reader now true is seen some = absurd (omega (arith, ap (λ (l : List ℕ). length l) (seen is), some))

-- what was read so far are first commands of the script within its limit
pub read_within : (fresh reader : Ahead) (start now : Scene) (done : List Instruction → List Instruction) → fresh ≡ fresh_reader → HasRead fresh reader start now done → HasSeen reader now
    → CountsTaken fresh reader start now → reader.taken ≤ script_limit → (rest : List Instruction) × (commands_within start.script ≡ done rest)
read_within fresh reader start now done new read seen counts limit = elim (leb_tells (length start.script) script_limit) [
  | inl small ↦
      let all : commands_ahead fresh start ≡ commands_of (lines_of start.script) = ap (λ (a : Ahead). commands_ahead a start) new in
      (commands_ahead reader now, rw small.0 (sym all ∙ read.ahead))
  | inr large ↦
      let some : 0 < length now.script = omega (arith, large.1, counts, ap (λ (a : Ahead). a.taken) new, limit) in
      let found = read_before_limit fresh reader start now done script_limit new limit (read.going (not_ended reader now reader.ended refl seen some)) in
      (found.0, rw large.0 found.1)
]

-- they were read: a reader that has not seen the end has them whole in what it took
pub were_read : (fresh reader : Ahead) (start now : Scene) (past : Past) (next : Instruction) (ended : Bool) → reader.ended ≡ ended → fresh ≡ fresh_reader → HasRead fresh reader start now (λ rest. commands_then past (next ∷ rest)) → HasSeen reader now
    → WereRead past next start now
were_read fresh reader start now past next true is new read seen = inl (seen is)
were_read fresh reader start now past next false is new read seen =
    let going = read.going is in
    let front : whole_commands going.fresh ≡ whole_commands ((fresh.bytes ++ going.fresh) ++ []) =
    ap (λ (l : List ℕ). whole_commands l) (sym (append-nil (fresh.bytes ++ going.fresh) ∙ ap (λ (a : Ahead). a.bytes ++ going.fresh) new)) in
    inr (going.fresh, whole_commands (reader.bytes ++ []), going.script, front ∙ going.each [])

-- where a reader stops, the commands that were answered are those that were whole in what it took
pub record StoppedRun (error : ScriptErr) (old after : Scene) (reader' : Ahead) (done : List Instruction → List Instruction) : Type 0 where
  pub taken : List ℕ
  pub left : List ℕ
  pub is_left : IsLeft error left reader' after
  pub script : old.script ≡ taken ++ left
  pub count : reader'.taken ≡ length taken
  pub whole : done [] ≡ whole_commands taken

pub stops_run : (error : ScriptErr) (old now after : Scene) (fresh reader reader' : Ahead) (done : List Instruction → List Instruction) → fresh ≡ fresh_reader → HasRead fresh reader old now done
    → Stops error whole_commands [] reader reader' now after → StoppedRun error old after reader' done
stops_run error old now after fresh reader reader' done new read stop =
    let stops = stops_then error whole_commands (λ bytes. done (whole_commands bytes)) (done []) fresh reader reader' old now after (read.going stop.open_before)
    (stops_by done error whole_commands [] reader reader' now after stop) in
    let whole : whole_commands stops.fresh ≡ done [] = sym (ap (λ (a : Ahead). whole_commands (a.bytes ++ stops.fresh)) new) ∙ stops.value_is in
    let zero : 0 + length stops.fresh ≡ length stops.fresh = omega arith in
    record {
      taken = stops.fresh;
      left = stops.left;
      is_left = stops.is_left;
      script = stops.script;
      count = stops.count ∙ ap (λ (a : Ahead). a.taken + length stops.fresh) new ∙ zero;
      whole = sym whole;
    }

-- nothing yet
pub read_start : (fresh : Ahead) (old now : Scene) → fresh ≡ fresh_reader → now.script ≡ old.script → HasRead fresh fresh old now (λ rest. rest)
read_start fresh old now new same = read_in fresh fresh old old now (λ rest. rest) (record { ahead = refl; going = λ going. goes_on_start whole_commands fresh old going }) same

-- the commands that a fresh reader has before it are those of the script
pub all_ahead : (old : Scene) (fresh : Ahead) → fresh ≡ fresh_reader → commands_ahead fresh old ≡ commands_in old
all_ahead old fresh new = rw new refl

-- at the script's end all commands were answered
pub done_is_all : (old now after : Scene) (fresh reader reader' : Ahead) (done : List Instruction → List Instruction) → fresh ≡ fresh_reader → HasRead fresh reader old now done → TakesNone reader reader' now after → done [] ≡ commands_in old
done_is_all old now after fresh reader reader' done new read none = ap done (sym none.ahead) ∙ sym read.ahead ∙ all_ahead old fresh new

pub counts_on : (fresh reader reader' : Ahead) (start now after : Scene) → CountsTaken fresh reader start now → CountsTaken reader reader' now after → CountsTaken fresh reader' start after
counts_on fresh reader reader' start now after one two = omega (arith, one, two)

-- what was taken so far is within the limit
pub few_taken : (fresh reader : Ahead) (old now : Scene) → fresh ≡ fresh_reader → CountsTaken fresh reader old now → reader.taken ≤ script_limit → length old.script ≤ length now.script + script_limit
few_taken fresh reader old now new counts limit = omega (arith, ap (λ (a : Ahead). a.taken) new, counts, limit)

-- a fresh reader has not seen the end
pub fresh_seen : (scene : Scene) (fresh : Ahead) → fresh ≡ fresh_reader → HasSeen fresh scene
fresh_seen scene fresh new = λ at_end. absurd (true≢false (sym at_end ∙ ap (λ (a : Ahead). a.ended) new))
