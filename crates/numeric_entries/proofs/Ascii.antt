-- Digits are ASCII.
use Rattle.std.proofs.Common.{◌≡◌, ◌<◌, ℕ, zero, suc, true, List, [], ◌∷◌, arith}
use Rattle.std.specs.Char.{is_ascii_digit}
use Rattle.std.specs.List.{list_all}
use Rattle.std.specs.Str.{IsAscii}
use Rattle.std.proofs.lemmas.Bool.{and_parts}
use Rattle.std.proofs.lemmas.Bool.Decides.{nat_tests}

digit-ascii : (c : ℕ) → is_ascii_digit c ≡ true → c < 128
digit-ascii c digit = grind (arith, nat_tests)

-- each byte of digits is below 128
pub digits-ascii : (digits : List ℕ) → list_all is_ascii_digit digits ≡ true → IsAscii digits
digits-ascii [] all i = omega arith
digits-ascii (c ∷ digits) all zero = digit-ascii c (and_parts _ _ all).0
digits-ascii (c ∷ digits) all (suc i) = digits-ascii digits (and_parts _ _ all).1 i
