-- Tokens up to the first that ends them: what is cut off is what is spelled.
use Rattle.std.proofs.Common.{◌≡◌, ◌<◌, ℕ, ◌+◌, suc, Bool, true, false, not, cond, nat_lt, Option, None, Some, List, []}
use Rattle.std.proofs.Common.{◌∷◌, ◌++◌, length, take, drop, refl, sym, ap, ◌∙◌, arith, length-append, append_assoc}
use Rattle.std.proofs.Common.{inl, inr}
use Rattle.std.specs.List.{list_all, position, position_or_len}
use Rattle.std.specs.Option.{option_map}
use Rattle.std.proofs.lemmas.Bool.{and_from, and_parts, both_ways, not-true, not_from_false, ltb-true, ltb-false}
use Rattle.std.proofs.lemmas.Bool.{lt-ltb, le-ltb}
use Rattle.std.proofs.lemmas.Option.{some_pair_parts}
use Rattle.exact_readers.specs.Cuts.{cut, up_to}
use Rattle.exact_readers.specs.Exact.{Begins, IsExact}
use Rattle.exact_readers.specs.ExactLaws.{chosen, option_map-some}

module _ {X : Type 0} (test : X → Bool) where
  -- a token fails the test
  abbrev pub fails : X → Bool
  fails x = not (test x)

  -- tokens are cut at the first that passes
  pub cut-at : (front : List X) (x : X) (rest : List X) → list_all fails front ≡ true → test x ≡ true
      → cut test (front ++ x ∷ rest) ≡ Some (front, rest)
  cut-at [] x rest none passes = rw passes refl
  cut-at (y ∷ front) x rest none passes =
      let parts = and_parts (fails y) (list_all fails front) none in
      rw (not-true (test y) parts.0, cut-at front x rest parts.1 passes) refl

  -- and nowhere where none passes
  pub cut-nowhere : (xs : List X) → list_all fails xs ≡ true → cut test xs ≡ None
  cut-nowhere [] none = refl
  cut-nowhere (x ∷ xs) none =
      let parts = and_parts (fails x) (list_all fails xs) none in
      rw (not-true (test x) parts.0, cut-nowhere xs parts.1) refl

  -- where they are not cut, none passes
  pub cut-none : (xs : List X) → cut test xs ≡ None → list_all fails xs ≡ true
  cut-none [] e = refl
  cut-none (x ∷ xs) e = by (test x) (cut test xs) refl refl (cut-none xs) e
    where
      by : (b : Bool) (o : Option (List X × List X)) → test x ≡ b → cut test xs ≡ o
          → (cut test xs ≡ None → list_all fails xs ≡ true) → cut test (x ∷ xs) ≡ None → list_all fails (x ∷ xs) ≡ true
      by true o f g rest e = let some : ◌≡◌ {A = Option (List X × List X)} (Some ([], xs)) None = rw f at e in cc
      by false None f g rest e = and_from (fails x) (list_all fails xs) (not_from_false (test x) f) (rest g)
      by false (Some parts) f g rest e =
          let some : ◌≡◌ {A = Option (List X × List X)} (Some (x ∷ parts.0, parts.1)) None = rw (f, g) at e in cc

  cut-sound : (tokens front rest : List X) → cut test tokens ≡ Some (front, rest)
      → Begins (up_to test) tokens front rest
  cut-sound [] front rest e = cc
  cut-sound (x ∷ tokens) front rest e =
      elim (chosen (test x) _ _ _ e) [
        | inl some ↦
            let same = some_pair_parts [] front tokens rest some.1 in
            record {
              piece = x ∷ [];
              spelled = (x, some.0, ap (list_all fails) (sym same.0), ap (λ ys. ys ++ x ∷ []) same.0);
              tokens_are = ap (λ ys. x ∷ ys) same.1;
            }
        | inr later ↦
            let found = option_map-some (cut test tokens) (λ parts. (x ∷ parts.0, parts.1)) (front, rest) later.1 in
            let is = cut-sound tokens found.0.0 found.0.1 found.1 in
            let (end, passes, none, pieces) = is.spelled in
            record {
              piece = x ∷ is.piece;
              spelled = (
                end,
                passes,
                ap (list_all fails) (sym (ap (λ pair. pair.0) found.2))
                    ∙ and_from (fails x) (list_all fails found.0.0) (not_from_false (test x) later.0) none,
                ap (λ ys. x ∷ ys) pieces ∙ ap (λ pair. pair.0 ++ end ∷ []) found.2,
              );
              tokens_are = ap (λ ys. x ∷ ys) is.tokens_are ∙ ap (λ pair. x ∷ is.piece ++ pair.1) found.2;
            }
      ]

  pub up_to-exact : IsExact (up_to test)
  up_to-exact = record {
    sound = cut-sound;
    complete = λ piece front rest (end, passes, none, is).
        ap (λ ys. cut test (ys ++ rest)) is ∙ ap (cut test) (append_assoc front (end ∷ []) rest)
        ∙ cut-at front end rest none passes;
    takes = λ piece front (end, passes, none, is). omega (arith, ap length is, length-append front (end ∷ []));
  }

  -- Places

  -- where an item passes behind one that doesn't
  position_later : (b : Bool) (n m : ℕ) → b ≡ false → n < m
      → cond (nat_lt (cond (not b) (1 + n) 0) (suc m)) (Some (cond (not b) (1 + n) 0)) None ≡ Some (suc n)
  position_later true n m e lt = absurd (both_ways true e refl)
  position_later false n m e lt =
      let more : 1 + n ≡ suc n = omega arith in
      let within : nat_lt (suc n) (suc m) ≡ true = lt-ltb (suc n) (suc m) (omega arith) in
      rw (more, within) refl

  -- where none passes
  position_none : (b : Bool) (n m : ℕ) → b ≡ false → nat_lt n m ≡ false
      → cond (nat_lt (cond (not b) (1 + n) 0) (suc m)) (Some (cond (not b) (1 + n) 0)) None ≡ None
  position_none true n m e ge = absurd (both_ways true e refl)
  position_none false n m e ge =
      let gone : nat_lt (1 + n) (suc m) ≡ false = le-ltb (1 + n) (suc m) (omega (arith, ltb-false n m ge)) in
      rw gone refl

  -- tokens are cut where the first stands that passes
  pub cut-position : (xs : List X) → cut test xs ≡ option_map (λ at. (take at xs, drop (at + 1) xs)) (position test xs)
  cut-position [] = refl
  cut-position (x ∷ xs) = by (test x) (nat_lt (position_or_len test xs) (length xs)) refl refl (cut-position xs)
    where
      by : (b within : Bool) → test x ≡ b → nat_lt (position_or_len test xs) (length xs) ≡ within
          → cut test xs ≡ option_map (λ at. (take at xs, drop (at + 1) xs)) (position test xs)
          → cut test (x ∷ xs) ≡ option_map (λ at. (take at (x ∷ xs), drop (at + 1) (x ∷ xs))) (position test (x ∷ xs))
      by true within e f rest =
          let first : nat_lt 0 (suc (length xs)) ≡ true = lt-ltb 0 (suc (length xs)) (omega arith) in rw (e, first) refl
      by false true e f rest =
          let at = position_or_len test xs in
          let later = position_later (test x) at (length xs) e (ltb-true at (length xs) f) in
          let here : cut test xs ≡ Some (take at xs, drop (at + 1) xs) = rw f at rest in
          rw (later, e, here) (let more : suc at + 1 ≡ suc (at + 1) = omega arith in rw more refl)
      by false false e f rest =
          let none = position_none (test x) (position_or_len test xs) (length xs) e f in
          let here : cut test xs ≡ None = rw f at rest in
          rw (none, e, here) refl
