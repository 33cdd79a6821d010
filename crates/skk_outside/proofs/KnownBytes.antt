-- What several reads and writes together do to known bytes.
use Rattle.std.proofs.Common.{ℕ, ◌+◌, ◌-◌, ◌≤◌, ◌∙◌, sym, subst, ap, Option, List, ◌++◌, length, take, drop, Result}
use Rattle.std.proofs.Common.{OnErr, IsErr, length-append, arith}
use Rattle.std.proofs.lemmas.List.{take-append-drop, take_rest}
use Rattle.std.proofs.lemmas.Result.{MatchResult-from_err}
use Rattle.std.proofs.Math.Seq.{take-add}
use Rattle.std.specs.Bool.{⊤}
use Rattle.std.specs.Io.KnownBytes.{Appends, Keeps, Consumes}
use Rattle.std.proofs.KnownBytes.{Appends-trans, Appends-kept, Consumes-trans}
use Rattle.skk_outside.specs.Written.{AppendsPrefix}
use Rattle.skk_outside.specs.Taken.{TakesAtMost}

-- a prefix of the bytes was written, and then a prefix of the others
pub Appends-more : (a b c : Option (List ℕ)) (n m : ℕ) (bytes : List ℕ) → Appends a b (take n bytes)
    → Appends b c (take m (take (length bytes - n) (drop n bytes))) → Appends a c (take (n + m) bytes)
Appends-more a b c n m bytes p q =
    subst (Appends a c) (ap (λ rest. take n bytes ++ take m rest) (take_rest bytes n) ∙ sym (take-add n m bytes))
    (Appends-trans a b c (take n bytes) (take m (take (length bytes - n) (drop n bytes))) p q)

-- a prefix of the bytes was written, and then none
pub AppendsPrefix-kept : (a b c : Option (List ℕ)) (n : ℕ) (bytes : List ℕ) → Appends a b (take n bytes) → Keeps b c
    → AppendsPrefix a c bytes
AppendsPrefix-kept a b c n bytes p q =
    (take n bytes, (drop n bytes, sym (take-append-drop n bytes)), Appends-kept a b c (take n bytes) p q)

-- some bytes were taken, and then some more
pub TakesAtMost-more : (a b c : Option (List ℕ)) (bytes : List ℕ) (n m k : ℕ) → Consumes a b bytes → length bytes ≤ n
    → TakesAtMost b c m → n + m ≤ k → TakesAtMost a c k
TakesAtMost-more a b c bytes n m k p few q e =
    (bytes ++ q.0, omega (arith, length-append bytes q.0), Consumes-trans a b c bytes q.0 p q.2)

-- what is so anyhow is so at an error
pub OnErr-known : {T E P : Type 0} (r : Result T E) → IsErr r → P → OnErr r P
OnErr-known r failed p = MatchResult-from_err r (λ _. ⊤) (λ _. _) failed (λ _. p)
