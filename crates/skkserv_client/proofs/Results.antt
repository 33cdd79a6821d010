-- What is said of results.
use Rattle.std.proofs.Common.{Result, Ok, Err, OnErr, IfOk}

-- what holds anyhow holds of a failed result
pub on_err : {T E P : Type 0} (r : Result T E) → P → OnErr r P
on_err (Ok x) p = tt
on_err (Err e) p = p

-- what follows of a value holds of that of a result
pub if_ok : {T E : Type 0} {P Q : T → Type 0} (r : Result T E) → ((x : T) → P x → Q x) → IfOk r P → IfOk r Q
if_ok (Ok x) more p = more x p
if_ok (Err e) more p = tt
