-- What is said of a result.
use Rattle.std.proofs.Common.{◌≡◌, ℕ, Option, List, [], Result, Ok, Err, OnErr, OnOk, IfOk, IfErr, IsErrAnd, sym}
use Rattle.std.proofs.Common.{subst, append-nil}
use Rattle.std.specs.Io.KnownBytes.{Appends}
use Rattle.skk_outside.specs.Written.{AppendsPrefix}

-- what holds anyhow holds of a failed result
pub on_err : {T E P : Type 0} (r : Result T E) → P → OnErr r P
on_err (Ok x) p = tt
on_err (Err e) p = p

-- what is said of an error holds where a result is one
pub at_err : {T E P : Type 0} (r : Result T E) (e : E) → r ≡ Err e → OnErr r P → P
at_err {P = P} r e is told = subst (λ result. OnErr result P) is told

-- what is said of a value holds where a result has one
pub at_ok : {T E : Type 0} (P : T → Type 0) (r : Result T E) (x : T) → r ≡ Ok x → IfOk r P → P x
at_ok P r x is told = subst (λ result. IfOk result P) is told

-- a call that writes has written the first of its bytes, whatever it came to
pub written-some : {T E : Type 0} (r : Result T E) (before after : Option (List ℕ)) (bytes : List ℕ)
    → OnOk r (Appends before after bytes) → OnErr r (AppendsPrefix before after bytes)
    → AppendsPrefix before after bytes
written-some (Ok x) before after bytes ok err = (bytes, ([], sym (append-nil bytes)), ok)
written-some (Err e) before after bytes ok err = err

-- what holds of an error is said of a result that is this error
pub if_err : {T E : Type 0} (P : E → Type 0) (r : Result T E) (e : E) → IsErrAnd r (λ given. given ≡ e) → P e
    → IfErr r P
if_err P (Ok x) e is p = tt
if_err P (Err given) e is p = subst P (sym is) p
