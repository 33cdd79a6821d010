-- A number in bytes is an exact format.
use Rattle.std.specs.Prelude.{◌≡◌, ◌^◌, ◌<◌, ◌≤◌, ◌&&◌, ℕ, zero, suc, true, nat_le, None, Some, List, [], ◌∷◌, ◌++◌}
use Rattle.std.specs.Prelude.{length, take, drop}
use Rattle.std.specs.Int.{Width, byte_len, w16, w32, w64}
use Rattle.std.proofs.Common.{Fits, w8, get_or, inl, inr, refl, sym, ap, ◌∙◌, subst, arith, take-append-drop}
use Rattle.std.proofs.Common.{length-take-le, length-append}
use Rattle.std.proofs.Math.Facts.{Fits-lt-pow}
use Rattle.std.proofs.lemmas.Bool.{and_parts, leb-true}
use Rattle.std.proofs.lemmas.Bool.Decides.{nat_tests}
use Rattle.std.proofs.lemmas.List.{drop_at, take_at}
use Rattle.std.proofs.lemmas.Nat.{le_bytes_2, le_bytes_4, le_bytes_8}
use Rattle.std.proofs.lemmas.Nat.{from_le_bytes-to_le_bytes_2, from_le_bytes-to_le_bytes_4, from_le_bytes-to_le_bytes_8}
use Rattle.std.proofs.lemmas.Option.{none-some, same_Some}
use Rattle.exact_readers.specs.Exact.{Begins, IsExact}
use Rattle.exact_readers.specs.ExactLaws.{chosen}
use Rattle.exact_readers.specs.Numbers.{are_bytes, number_bytes, number_of, number, number_step}

-- the bytes of a width tell their number, and a number of it its bytes
pub record AreTold (width : Width) : Type 0 where
  pub some : 0 < byte_len width
  pub long : (n : ℕ) → length (number_bytes width n) ≡ byte_len width
  pub small : (n : ℕ) → are_bytes (number_bytes width n) ≡ true
  pub back : (n : ℕ) → n < 256 ^ byte_len width → number_of width (number_bytes width n) ≡ n
  pub within : (bytes : List ℕ) → length bytes ≡ byte_len width → are_bytes bytes ≡ true
      → number_of width bytes < 256 ^ byte_len width
  pub written : (bytes : List ℕ) → length bytes ≡ byte_len width → are_bytes bytes ≡ true
      → number_bytes width (number_of width bytes) ≡ bytes

-- each of some bytes is small
small_at : (bytes : List ℕ) → are_bytes bytes ≡ true → (i : ℕ) → get_or bytes i 0 < 256
small_at [] small i = omega arith
small_at (b ∷ bytes) small zero = grind (arith, nat_tests)
small_at (b ∷ bytes) small (suc i) = small_at bytes (grind arith) i

-- what code takes of bytes are bytes
bytes_small : (bytes : List ℕ) → ((i : ℕ) → Fits w8 (get_or bytes i 0)) → are_bytes bytes ≡ true
bytes_small [] fits = refl
bytes_small (b ∷ bytes) fits =
    grind (arith, nat_tests, Fits-lt-pow (fits 0), bytes_small bytes (λ i. fits (suc i)))

small_front : (k : ℕ) (bytes : List ℕ) → are_bytes bytes ≡ true → are_bytes (take k bytes) ≡ true
small_front zero bytes small = refl
small_front (suc k) [] small = refl
small_front (suc k) (b ∷ bytes) small = grind (arith, small_front k bytes)

module _ (width : Width) (told : AreTold width) where
  -- the number at the front of enough bytes
  step-some : (tokens : List ℕ) → byte_len width ≤ length tokens → are_bytes (take (byte_len width) tokens) ≡ true
      → number_step width tokens
      ≡ Some (number_of width (take (byte_len width) tokens), drop (byte_len width) tokens)
  unfolding number_step
  step-some tokens long small = grind (arith, nat_tests, small)

  pub number-exact : IsExact (number width)
  unfolding number_step
  number-exact = record {
    sound = sound;
    complete = λ piece n rest (fits, is).
        ap (λ ys. number_step width (ys ++ rest)) is ∙ complete n rest fits;
    takes = λ piece n (fits, is). omega (arith, ap length is, told.long n, told.some);
  }
    where
      sound : (tokens : List ℕ) (n : ℕ) (rest : List ℕ) → number_step width tokens ≡ Some (n, rest)
          → Begins (number width) tokens n rest
      sound tokens n rest e =
          let front = take (byte_len width) tokens in
          elim (chosen (nat_le (byte_len width) (length tokens) && are_bytes front) _ _ _ e) [
            | inl read ↦
                let tests = and_parts (nat_le (byte_len width) (length tokens)) (are_bytes front) read.0 in
                let long : length front ≡ byte_len width =
                length-take-le (byte_len width) tokens (leb-true (byte_len width) (length tokens) tests.0) in
                let parts = same_Some _ (n, rest) read.1 in
                record {
                  piece = front;
                  spelled = (
                    subst (λ m. m < 256 ^ byte_len width) (ap (λ pair. pair.0) parts)
                        (told.within front long tests.1),
                    sym (told.written front long tests.1) ∙ ap (λ pair. number_bytes width pair.0) parts,
                  );
                  tokens_are =
                      sym (take-append-drop (byte_len width) tokens) ∙ ap (λ pair. front ++ pair.1) parts;
                }
            | inr none ↦ absurd (none-some (n, rest) none.1)
          ]

      complete : (n : ℕ) (rest : List ℕ) → n < 256 ^ byte_len width
          → number_step width (number_bytes width n ++ rest) ≡ Some (n, rest)
      complete n rest fits =
          let bytes = number_bytes width n in
          let long = told.long n in
          let front : take (byte_len width) (bytes ++ rest) ≡ bytes = take_at bytes rest (byte_len width) long in
          let left : drop (byte_len width) (bytes ++ rest) ≡ rest = drop_at bytes rest (byte_len width) long in
          step-some (bytes ++ rest) (omega (arith, length-append bytes rest, long))
          (ap are_bytes front ∙ told.small n)
          ∙ ap (λ ys. Some (number_of width ys, drop (byte_len width) (bytes ++ rest))) front
          ∙ ap (λ m. Some (m, drop (byte_len width) (bytes ++ rest))) (told.back n fits)
          ∙ ap (λ ys. Some (n, ys)) left

  -- code that takes as many bytes off the front as a width has reads the number in them
  pub number_read : (bytes front rest : List ℕ) (n : ℕ) → ((i : ℕ) → Fits w8 (get_or bytes i 0))
      → front ≡ take (byte_len width) bytes → rest ≡ drop (byte_len width) bytes → byte_len width ≤ length bytes
      → n ≡ number_of width front → Some (n, rest) ≡ number_step width bytes
  number_read bytes front rest n fits front_is rest_is long is =
      let small = small_front (byte_len width) bytes (bytes_small bytes fits) in
      ap (λ m. Some (m, rest)) (is ∙ ap (number_of width) front_is)
      ∙ ap (λ ys. Some (number_of width (take (byte_len width) bytes), ys)) rest_is
      ∙ sym (step-some bytes long small)

-- too few bytes have no number
pub number_short : (width : Width) (bytes : List ℕ) → length bytes < byte_len width → None ≡ number_step width bytes
unfolding number_step
number_short width bytes short = grind (arith, nat_tests)

-- Widths

-- numbers of two bytes are told by them
pub told_16 : AreTold w16
unfolding number_bytes number_of
told_16 = record {
  some = omega arith;
  long = λ n. refl;
  small = λ n. grind (arith, nat_tests);
  back = λ n fits. from_le_bytes-to_le_bytes_2 n fits;
  within = λ bytes long small. let s = small_at bytes small in omega (arith, s 0, s 1);
  written = λ bytes long small. le_bytes_2 bytes _ long (small_at bytes small) refl;
}

-- numbers of four bytes are told by them
pub told_32 : AreTold w32
unfolding number_bytes number_of
told_32 = record {
  some = omega arith;
  long = λ n. refl;
  small = λ n. grind (arith, nat_tests);
  back = λ n fits. from_le_bytes-to_le_bytes_4 n fits;
  within = λ bytes long small. let s = small_at bytes small in omega (arith, s 0, s 1, s 2, s 3);
  written = λ bytes long small. le_bytes_4 bytes _ long (small_at bytes small) refl;
}

-- numbers of eight bytes are told by them
pub told_64 : AreTold w64
unfolding number_bytes number_of
told_64 = record {
  some = omega arith;
  long = λ n. refl;
  small = λ n. grind (arith, nat_tests);
  back = λ n fits. from_le_bytes-to_le_bytes_8 n fits;
  within = λ bytes long small.
      let s = small_at bytes small in omega (arith, s 0, s 1, s 2, s 3, s 4, s 5, s 6, s 7);
  written = λ bytes long small. le_bytes_8 bytes _ long (small_at bytes small) refl;
}
