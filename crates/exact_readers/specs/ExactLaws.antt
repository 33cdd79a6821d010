-- Each way to make a format of smaller ones keeps that it is exact.
use Rattle.std.proofs.Common.{◌≡◌, ◌≢◌, ◌<◌, ℕ, Bool, true, false, ◌==◌, cond, ◌⊎◌, inl, inr, Option, None, Some, List}
use Rattle.std.proofs.Common.{[], ◌∷◌, ◌++◌, length, refl, sym, ap, ◌∙◌, subst, arith, length-append, append_assoc}
use Rattle.std.proofs.Common.{append-nil, Bor, MatchOption}
use Rattle.std.specs.Option.{option_map}
use Rattle.std.proofs.lemmas.Bool.{eqb-true, eq-eqb}
use Rattle.std.proofs.lemmas.Option.{none-some, same_Some}
use Rattle.exact_readers.specs.Formats.{Format, then_at, or_else, first_by, one_by, one_as, one_whole, past, literal}
use Rattle.exact_readers.specs.Formats.{behind, and_past, before, paired, both, either, mapped, if_made, checked}
use Rattle.exact_readers.specs.Formats.{if_whole, whole}
use Rattle.exact_readers.specs.Exact.{Begins, IsExact, Finds, IsPrinted, IsWhole}

-- Values that are there

-- where a function made a value of another, that was there
pub then_at-some : {X Y : Type 0} (o : Option X) (f : X → Option Y) (y : Y) → then_at o f ≡ Some y
    → (x : X) × (o ≡ Some x) × (f x ≡ Some y)
then_at-some None f y e = absurd (none-some y e)
then_at-some (Some x) f y e = (x, refl, e)

-- and so it was where it was mapped
pub option_map-some : {X Y : Type 0} (o : Option X) (f : X → Y) (y : Y) → option_map f o ≡ Some y
    → (x : X) × (o ≡ Some x) × (f x ≡ y)
option_map-some None f y e = absurd (none-some y e)
option_map-some (Some x) f y e = (x, refl, same_Some (f x) y e)

-- which way a choice went
pub chosen : {X : Type 0} (b : Bool) (x y z : X) → cond b x y ≡ z → ((b ≡ true) × (x ≡ z)) ⊎ ((b ≡ false) × (y ≡ z))
chosen true x y z e = inl (refl, e)
chosen false x y z e = inr (refl, e)

-- what is left of tokens is shorter
pub shrinks : {X A : Type 0} (F : Format X A) → IsExact F → (tokens : List X) (a : A) (rest : List X)
    → F.step tokens ≡ Some (a, rest) → length rest < length tokens
shrinks F exact tokens a rest e =
    let is = exact.sound tokens a rest e in
    omega (arith, ap length is.tokens_are, length-append is.piece rest, exact.takes is.piece a is.spelled)

-- One token

module _ {X A : Type 0} (R : A → X → Type 0) (f : X → Option A) (finds : Finds R f) where
  pub one_by-exact : IsExact (one_by R f)
  one_by-exact = record {
    sound = sound;
    complete = λ piece a rest (x, is, one). ap (λ ys. first_by f (ys ++ rest)) one
        ∙ ap (option_map (λ b. (b, rest))) (finds.complete x a is);
    takes = λ piece a (x, is, one). omega (arith, ap length one);
  }
    where
      sound : (tokens : List X) (a : A) (rest : List X) → first_by f tokens ≡ Some (a, rest)
          → Begins (one_by R f) tokens a rest
      sound [] a rest e = absurd (none-some (a, rest) e)
      sound (x ∷ tokens) a rest e =
          let found = option_map-some (f x) (λ b. (b, tokens)) (a, rest) e in
          let made = finds.sound x a (found.1 ∙ ap (λ (pair : A × List X). Some pair.0) found.2) in
          record {
            piece = x ∷ [];
            spelled = (x, made, refl);
            tokens_are = ap (λ (pair : A × List X). x ∷ pair.1) found.2;
          }

pub one_as-exact : {X A : Type 0} (f : X → Option A) → IsExact (one_as f)
one_as-exact f = one_by-exact (λ a x. f x ≡ Some a) f (record { sound = λ x a e. e; complete = λ x a e. e })

-- Words around values

pub past-sound : (word tokens rest : List ℕ) → past word tokens ≡ Some rest → tokens ≡ word ++ rest
past-sound [] tokens rest e = same_Some tokens rest e
past-sound (c ∷ word) [] rest e = absurd (none-some rest e)
past-sound (c ∷ word) (d ∷ tokens) rest e =
    elim (chosen (d == c) _ _ _ e) [
      | inl some ↦ ap (λ n. n ∷ tokens) (eqb-true d c some.0) ∙ ap (λ ys. c ∷ ys) (past-sound word tokens rest some.1)
      | inr none ↦ absurd (none-some rest none.1)
    ]

pub past-complete : (word rest : List ℕ) → past word (word ++ rest) ≡ Some rest
past-complete [] rest = refl
past-complete (c ∷ word) rest = rw (eq-eqb c c refl) (past-complete word rest)

-- what stands behind a word, by whether the tokens begin with it
pub past-is : (word tokens : List ℕ) (found : Option (Bor (List ℕ)))
    → MatchOption found ((rest : List ℕ) → tokens ≢ word ++ rest) (λ rest. tokens ≡ word ++ rest.now)
    → option_map (λ rest. rest.now) found ≡ past word tokens
past-is word tokens None lacks = by (past word tokens) refl
  where
    by : (o : Option (List ℕ)) → past word tokens ≡ o → None ≡ o
    by None e = refl
    by (Some rest) e = absurd (lacks rest (past-sound word tokens rest e))
past-is word tokens (Some rest) has = sym (ap (past word) has ∙ past-complete word rest.now)

pub literal-exact : (word : List ℕ) → 0 < length word → IsExact (literal word)
literal-exact word some = record {
  sound = λ tokens a rest e.
      let found = option_map-some (past word tokens) (λ later. (word, later)) (a, rest) e in
      record {
        piece = word;
        spelled = (sym (ap (λ pair. pair.0) found.2), refl);
        tokens_are = past-sound word tokens found.0 found.1 ∙ ap (λ pair. word ++ pair.1) found.2;
      };
  complete = λ piece a rest (same, is).
      ap (λ ys. option_map (λ later. (word, later)) (past word (ys ++ rest))) is
      ∙ ap (option_map (λ later. (word, later))) (past-complete word rest)
      ∙ ap (λ b. Some (b, rest)) (sym same);
  takes = λ piece a (same, is). omega (arith, ap length is, some);
}

module _ {A : Type 0} (F : Format ℕ A) (exact : IsExact F) (word : List ℕ) where
  pub behind-exact : IsExact (behind word F)
  behind-exact = record {
    sound = λ tokens a rest e.
        let found = then_at-some (past word tokens) F.step (a, rest) e in
        let is = exact.sound found.0 a rest found.2 in
        record {
          piece = word ++ is.piece;
          spelled = (is.piece, is.spelled, refl);
          tokens_are =
              past-sound word tokens found.0 found.1 ∙ ap (λ ys. word ++ ys) is.tokens_are
              ∙ sym (append_assoc word is.piece rest);
        };
    complete = λ piece a rest (inner, spelled, is).
        ap (λ ys. then_at (past word (ys ++ rest)) F.step) is
        ∙ ap (λ ys. then_at (past word ys) F.step) (append_assoc word inner rest)
        ∙ ap (λ o. then_at o F.step) (past-complete word (inner ++ rest))
        ∙ exact.complete inner a rest spelled;
    takes = λ piece a (inner, spelled, is).
        omega (arith, ap length is, length-append word inner, exact.takes inner a spelled);
  }

  pub before-exact : IsExact (before F word)
  before-exact = record {
    sound = λ tokens a rest e.
        let found = then_at-some (F.step tokens) (and_past word) (a, rest) e in
        let later = option_map-some (past word found.0.1) (λ r. (found.0.0, r)) (a, rest) found.2 in
        let is = exact.sound tokens found.0.0 found.0.1 found.1 in
        record {
          piece = is.piece ++ word;
          spelled = (is.piece, subst (λ b. F.Spells b is.piece) (ap (λ pair. pair.0) later.2) is.spelled, refl);
          tokens_are =
              is.tokens_are
              ∙ ap (λ ys. is.piece ++ ys)
              (past-sound word found.0.1 later.0 later.1 ∙ ap (λ pair. word ++ pair.1) later.2)
              ∙ sym (append_assoc is.piece word rest);
        };
    complete = λ piece a rest (inner, spelled, is).
        ap (λ ys. then_at (F.step (ys ++ rest)) (and_past word)) is
        ∙ ap (λ ys. then_at (F.step ys) (and_past word)) (append_assoc inner word rest)
        ∙ ap (λ o. then_at o (and_past word)) (exact.complete inner a (word ++ rest) spelled)
        ∙ ap (option_map (λ r. (a, r))) (past-complete word rest);
    takes = λ piece a (inner, spelled, is).
        omega (arith, ap length is, length-append inner word, exact.takes inner a spelled);
  }

-- Two formats

pub both-exact : {X A B : Type 0} (F : Format X A) (G : Format X B) → IsExact F → IsExact G → IsExact (both F G)
both-exact F G first second = record {
  sound = λ tokens pair rest e.
      let found = then_at-some (F.step tokens) (paired G.step) (pair, rest) e in
      let later = option_map-some (G.step found.0.1) (λ more. ((found.0.0, more.0), more.1)) (pair, rest) found.2 in
      let front = first.sound tokens found.0.0 found.0.1 found.1 in
      let back = second.sound found.0.1 later.0.0 later.0.1 later.1 in
      record {
        piece = front.piece ++ back.piece;
        spelled = (
          front.piece,
          back.piece,
          subst (λ a. F.Spells a front.piece) (ap (λ p. p.0.0) later.2) front.spelled,
          subst (λ b. G.Spells b back.piece) (ap (λ p. p.0.1) later.2) back.spelled,
          refl,
        );
        tokens_are =
            front.tokens_are
            ∙ ap (λ ys. front.piece ++ ys) (back.tokens_are ∙ ap (λ p. back.piece ++ p.1) later.2)
            ∙ sym (append_assoc front.piece back.piece rest);
      };
  complete = λ piece pair rest (front, back, spelled, more, is).
      ap (λ ys. then_at (F.step (ys ++ rest)) (paired G.step)) is
      ∙ ap (λ ys. then_at (F.step ys) (paired G.step)) (append_assoc front back rest)
      ∙ ap (λ o. then_at o (paired G.step)) (first.complete front pair.0 (back ++ rest) spelled)
      ∙ ap (option_map (λ later. ((pair.0, later.0), later.1))) (second.complete back pair.1 rest more);
  takes = λ piece pair (front, back, spelled, more, is).
      omega (arith, ap length is, length-append front back, first.takes front pair.0 spelled);
}

-- where tokens begin as the second format spells, the first reads nothing
module _ {X A : Type 0} (F G : Format X A) (first : IsExact F) (second : IsExact G)
    (apart : (piece : List X) (a : A) (rest : List X) → G.Spells a piece → F.step (piece ++ rest) ≡ None) where
  pub either-exact : IsExact (either F G)
  either-exact = record {
    sound = λ tokens a rest e. by tokens a rest (F.step tokens) refl e;
    complete = complete;
    takes = takes;
  }
    where
      by : (tokens : List X) (a : A) (rest : List X) (o : Option (A × List X)) → F.step tokens ≡ o
          → or_else o (G.step tokens) ≡ Some (a, rest) → Begins (either F G) tokens a rest
      by tokens a rest None e f =
          let is = second.sound tokens a rest f in
          record { piece = is.piece; spelled = inr is.spelled; tokens_are = is.tokens_are }
      by tokens a rest (Some read) e f =
          let is = first.sound tokens a rest (e ∙ f) in
          record { piece = is.piece; spelled = inl is.spelled; tokens_are = is.tokens_are }

      complete : (piece : List X) (a : A) (rest : List X) → (either F G).Spells a piece
          → (either F G).step (piece ++ rest) ≡ Some (a, rest)
      complete piece a rest (inl spelled) =
          ap (λ o. or_else o (G.step (piece ++ rest))) (first.complete piece a rest spelled)
      complete piece a rest (inr spelled) =
          ap (λ o. or_else o (G.step (piece ++ rest))) (apart piece a rest spelled)
          ∙ second.complete piece a rest spelled

      takes : (piece : List X) (a : A) → (either F G).Spells a piece → 0 < length piece
      takes piece a (inl spelled) = first.takes piece a spelled
      takes piece a (inr spelled) = second.takes piece a spelled

-- Values of values, and whole texts

module _ {X A : Type 0} (F : Format X A) (exact : IsExact F) where
  pub mapped-exact : {B : Type 0} (f : A → B) → IsExact (mapped f F)
  mapped-exact f = record {
    sound = λ tokens b rest e.
        let found = option_map-some (F.step tokens) (λ read. (f read.0, read.1)) (b, rest) e in
        let is = exact.sound tokens found.0.0 found.0.1 found.1 in
        record {
          piece = is.piece;
          spelled = (found.0.0, is.spelled, sym (ap (λ pair. pair.0) found.2));
          tokens_are = is.tokens_are ∙ ap (λ pair. is.piece ++ pair.1) found.2;
        };
    complete = λ piece b rest (a, spelled, is).
        ap (option_map (λ read. (f read.0, read.1))) (exact.complete piece a rest spelled)
        ∙ ap (λ c. Some (c, rest)) (sym is);
    takes = λ piece b (a, spelled, is). exact.takes piece a spelled;
  }

  pub checked-exact : {B : Type 0} (f : A → Option B) → IsExact (checked f F)
  checked-exact f = record {
    sound = λ tokens b rest e.
        let found = then_at-some (F.step tokens) (if_made f) (b, rest) e in
        let made = option_map-some (f found.0.0) (λ c. (c, found.0.1)) (b, rest) found.2 in
        let is = exact.sound tokens found.0.0 found.0.1 found.1 in
        record {
          piece = is.piece;
          spelled = (found.0.0, is.spelled, made.1 ∙ ap (λ pair. Some pair.0) made.2);
          tokens_are = is.tokens_are ∙ ap (λ pair. is.piece ++ pair.1) made.2;
        };
    complete = λ piece b rest (a, spelled, is).
        ap (λ o. then_at o (if_made f)) (exact.complete piece a rest spelled) ∙ ap (option_map (λ c. (c, rest))) is;
    takes = λ piece b (a, spelled, is). exact.takes piece a spelled;
  }

  -- what all tokens spell is read
  pub whole-complete : (tokens : List X) (a : A) → F.Spells a tokens → whole F tokens ≡ Some a
  whole-complete tokens a spelled =
      ap (λ o. then_at o if_whole) (ap F.step (sym (append-nil tokens)) ∙ exact.complete tokens a [] spelled)

  -- and what is read of all tokens is what they spell
  pub whole-is : (tokens : List X) (o : Option A) → o ≡ whole F tokens → IsWhole F tokens o
  whole-is tokens o e = subst (IsWhole F tokens) (sym e) (by (F.step tokens) refl)
    where
      by : (o : Option (A × List X)) → F.step tokens ≡ o → IsWhole F tokens (then_at o if_whole)
      by None e = λ a spelled.
          none-some a (sym (ap (λ o. then_at o if_whole) e) ∙ whole-complete tokens a spelled)
      by (Some (a, [])) e =
          let is = exact.sound tokens a [] e in
          subst (F.Spells a) (sym (is.tokens_are ∙ append-nil is.piece)) is.spelled
      by (Some (a, x ∷ rest)) e = λ b spelled.
          none-some b (sym (ap (λ o. then_at o if_whole) e) ∙ whole-complete tokens b spelled)

  -- so tokens spell one value at most
  pub spells-once : (tokens : List X) (a b : A) → F.Spells a tokens → F.Spells b tokens → a ≡ b
  spells-once tokens a b one other =
      same_Some a b (sym (whole-complete tokens a one) ∙ whole-complete tokens b other)

  -- and what is read of all tokens is found by reading them
  pub whole-finds : Finds F.Spells (whole F)
  whole-finds = record {
    sound = λ tokens a e. whole-is tokens (Some a) (sym e);
    complete = whole-complete;
  }

  pub one_whole-exact : IsExact (one_whole F)
  one_whole-exact = one_by-exact F.Spells (whole F) whole-finds

  -- tokens that are read to their end spell what was read
  pub spelled-read : (tokens : List X) (a : A) → F.step tokens ≡ Some (a, []) → F.Spells a tokens
  spelled-read tokens a e = whole-is tokens (Some a) (sym (ap (λ o. then_at o if_whole) e))

  -- what is printed is read again
  pub printed-again : (test : A → Bool) (print : A → List X) → IsPrinted F test print → (a : A) → test a ≡ true
      → (rest : List X) → F.step (print a ++ rest) ≡ Some (a, rest)
  printed-again test print printed a passes rest = exact.complete (print a) a rest (printed.spells a passes)
