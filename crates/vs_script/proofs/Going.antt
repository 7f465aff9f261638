-- What a reader took is known whatever follows: a function of the bytes is carried along from piece to piece.
use Rattle.std.proofs.Common.{◌≡◌, ℕ, false, List, [], ◌++◌, refl, sym, ap, ◌∙◌, append_assoc, append-nil, arith, Ok, Err, IfErr, IsErrAnd}
use Rattle.std.proofs.lemmas.List.{length-append}
use Rattle.std.specs.declared.result.Result.{Result}
use Rattle.vs_host.specs.World.{Scene}
use Rattle.vs_script.specs.declared.reader.ScriptErr.{ScriptErr}
use Rattle.vs_script.specs.Ahead.{Ahead, GoesOn, Stops}

-- a reader that goes on twice
pub goes_on_twice : {X : Type 0} (f g h : List ℕ → X) (old mid new : Ahead) (before between after : Scene) → GoesOn f g old mid before between → GoesOn g h mid new between after → GoesOn f h old new before after
goes_on_twice {X} f g h old mid new before between after one two =
    record {
      open_before = one.open_before;
      fresh = one.fresh ++ two.fresh;
      script = one.script ∙ ap (λ (l : List ℕ). one.fresh ++ l) two.script ∙ sym (append_assoc one.fresh two.fresh after.script);
      count = rw (length-append) (omega (arith, one.count, two.count));
      each = λ rest.
          let left : (old.bytes ++ (one.fresh ++ two.fresh)) ++ rest ≡ (old.bytes ++ one.fresh) ++ (two.fresh ++ rest) = simp append_assoc in
          ap f left ∙ one.each (two.fresh ++ rest) ∙ ap g (sym (append_assoc mid.bytes two.fresh rest)) ∙ two.each rest;
    }

-- a reader that goes on and then stops
pub stops_then : {X : Type 0} (error : ScriptErr) (f g : List ℕ → X) (value : X) (old mid new : Ahead) (before between after : Scene) → GoesOn f g old mid before between → Stops error g value mid new between after → Stops error f value old new before after
stops_then {X} error f g value old mid new before between after one two =
    record {
      open_before = one.open_before;
      fresh = one.fresh ++ two.fresh;
      left = two.left;
      is_left = two.is_left;
      script = one.script ∙ ap (λ (l : List ℕ). one.fresh ++ l) two.script ∙ sym (append_assoc one.fresh two.fresh two.left);
      count = rw (length-append) (omega (arith, one.count, two.count));
      value_is = ap f (sym (append_assoc old.bytes one.fresh two.fresh)) ∙ one.each two.fresh ∙ two.value_is;
    }

-- the same, seen through a function
pub goes_on_by : {X Y : Type 0} (k : X → Y) (f g : List ℕ → X) (old new : Ahead) (before after : Scene) → GoesOn f g old new before after → GoesOn (λ bytes. k (f bytes)) (λ bytes. k (g bytes)) old new before after
goes_on_by k f g old new before after one =
    record {
      open_before = one.open_before;
      fresh = one.fresh;
      script = one.script;
      count = one.count;
      each = λ rest. ap k (one.each rest);
    }

pub stops_by : {X Y : Type 0} (k : X → Y) (error : ScriptErr) (f : List ℕ → X) (value : X) (old new : Ahead) (before after : Scene) → Stops error f value old new before after → Stops error (λ bytes. k (f bytes)) (k value) old new before after
stops_by k error f value old new before after one =
    record {
      open_before = one.open_before;
      fresh = one.fresh;
      left = one.left;
      is_left = one.is_left;
      script = one.script;
      count = one.count;
      value_is = ap k one.value_is;
    }

-- what holds of an error that `?` hands on
pub on_same_err : {T E : Type 0} (r : Result T E) (x : E) (P : E → Type 0) → IsErrAnd r (λ e. e ≡ x) → P x → IfErr r P
on_same_err (Ok v) x P is p = tt
on_same_err (Err e) x P is p = rw is p

-- where a reader stands
pub goes_on_start : {X : Type 0} (f : List ℕ → X) (old : Ahead) (before : Scene) → old.ended ≡ false → GoesOn f f old old before before
goes_on_start f old before going = record { open_before = going; fresh = []; script = refl; count = omega arith; each = λ rest. ap (λ (l : List ℕ). f (l ++ rest)) (append-nil old.bytes) }

-- the bytes after it seen otherwise
pub goes_on_as : {X : Type 0} (f g h : List ℕ → X) (old new : Ahead) (before after : Scene) → GoesOn f g old new before after → ((bytes : List ℕ) → g bytes ≡ h bytes) → GoesOn f h old new before after
goes_on_as f g h old new before after one same =
    record { open_before = one.open_before; fresh = one.fresh; script = one.script; count = one.count; each = λ rest. one.each rest ∙ same (new.bytes ++ rest) }

-- in another scene with the same script
pub goes_on_in : {X : Type 0} (f g : List ℕ → X) (old new : Ahead) (before after scene : Scene) → GoesOn f g old new before after → scene.script ≡ after.script → GoesOn f g old new before scene
goes_on_in f g old new before after scene one same =
    record { open_before = one.open_before; fresh = one.fresh; script = rw same one.script; count = one.count; each = one.each }
