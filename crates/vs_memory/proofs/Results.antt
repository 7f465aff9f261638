-- What follows from an answer.
use Rattle.std.proofs.Common.{◌≡◌, subst, refl}
use Rattle.std.specs.Prelude.{Ok, Err, OnOk, OnErr, IfOk}
use Rattle.std.specs.declared.result.Result.{Result}

pub ok_leads : {T E : Type 0} (A B : Type 0) (result : Result T E) → (A → B) → OnOk result A → OnOk result B
ok_leads A B (Ok v) leads is = leads is
ok_leads A B (Err e) leads is = is

pub err_leads : {T E : Type 0} (A B : Type 0) (result : Result T E) → (A → B) → OnErr result A → OnErr result B
err_leads A B (Ok v) leads is = is
err_leads A B (Err e) leads is = leads is

same_ok : {T E : Type 0} (a b : T) (result : Result T E) → result ≡ Ok a → result ≡ Ok b → a ≡ b
same_ok a b result one other = cc

pub if_ok : {T E : Type 0} (P : T → Type 0) (result : Result T E) (value : T) → IfOk result P → result ≡ Ok value → P value
if_ok P (Ok v) value holds is = subst P (same_ok v value (Ok v) refl is) holds
if_ok P (Err e) value holds is = cc
