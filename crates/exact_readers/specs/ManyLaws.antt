-- Values one behind another: what is taken is what is spelled, where it is known what ends them.
use Rattle.std.proofs.Common.{◌≡◌, ◌<◌, ◌≤◌, Bool, true, Option, None, Some, List, [], ◌∷◌, ◌++◌, length, refl, sym, ap}
use Rattle.std.proofs.Common.{◌∙◌, map, subst, arith, length-append, append_assoc, append-nil}
use Rattle.std.specs.List.{flat_map, list_all}
use Rattle.std.specs.Option.{option_map}
use Rattle.std.proofs.lemmas.Bool.{and_parts}
use Rattle.std.proofs.lemmas.Option.{same_Some}
use Rattle.exact_readers.specs.Formats.{Format, SpellsMany, and_later, taken_within, taken, to_end, ended_by, if_whole}
use Rattle.exact_readers.specs.Formats.{all}
use Rattle.exact_readers.specs.Exact.{IsExact, IsPrinted, AreAll}
use Rattle.exact_readers.specs.ExactLaws.{shrinks, option_map-some}

-- what is taken of tokens is spelled, and no more is taken of what is left
pub record AreTaken {X A : Type 0} (F : Format X A) (tokens : List X) (values : List A) (rest : List X) : Type 0 where
  pub pieces : List X
  pub spelled : SpellsMany F.Spells values pieces
  pub tokens_are : tokens ≡ pieces ++ rest
  pub ends : F.step rest ≡ None

module _ {X A : Type 0} (F : Format X A) (exact : IsExact F) where
  -- from no tokens nothing is taken
  pub none_from_nothing : F.step [] ≡ None
  none_from_nothing = by (F.step []) refl
    where
      by : (o : Option (A × List X)) → F.step [] ≡ o → o ≡ None
      by None e = refl
      by (Some (a, rest)) e = absurd (omega (arith, shrinks F exact [] a rest e))

  -- with enough turns it doesn't matter how many there are
  within_enough : (turns more tokens : List X) → length tokens ≤ length turns → length tokens ≤ length more
      → taken_within F.step turns tokens ≡ taken_within F.step more tokens
  within_enough [] [] tokens f g = refl
  within_enough [] (other ∷ more) [] f g = rw none_from_nothing refl
  within_enough [] (other ∷ more) (x ∷ tokens) f g = absurd (omega arith)
  within_enough (turn ∷ turns) [] [] f g = rw none_from_nothing refl
  within_enough (turn ∷ turns) [] (x ∷ tokens) f g = absurd (omega arith)
  within_enough (turn ∷ turns) (other ∷ more) tokens f g = by (F.step tokens) refl (within_enough turns more)
    where
      by : (o : Option (A × List X)) → F.step tokens ≡ o
          → ((back : List X) → length back ≤ length turns → length back ≤ length more
          → taken_within F.step turns back ≡ taken_within F.step more back)
          → and_later o tokens (taken_within F.step turns) ≡ and_later o tokens (taken_within F.step more)
      by None e same = refl
      by (Some (a, rest)) e same =
          let less = shrinks F exact tokens a rest e in
          ap (λ (later : List A × List X). (a ∷ later.0, later.1)) (same rest (omega arith) (omega arith))

  -- a step that takes nothing ends it
  pub taken-none : (tokens : List X) → F.step tokens ≡ None → taken F.step tokens ≡ ([], tokens)
  unfolding taken
  taken-none [] e = refl
  taken-none (x ∷ tokens) e = rw e refl

  -- one that takes a value goes on with what it leaves
  pub taken-some : (tokens : List X) (a : A) (rest : List X) → F.step tokens ≡ Some (a, rest)
      → taken F.step tokens ≡ (a ∷ (taken F.step rest).0, (taken F.step rest).1)
  unfolding taken
  taken-some [] a rest e = absurd (omega (arith, shrinks F exact [] a rest e))
  taken-some (x ∷ tokens) a rest e =
      rw e (ap (λ (later : List A × List X). (a ∷ later.0, later.1))
      (within_enough tokens rest rest (omega (arith, shrinks F exact (x ∷ tokens) a rest e)) (omega arith)))

  taken_turns : (turns tokens : List X) → length tokens < length turns
      → AreTaken F tokens (taken F.step tokens).0 (taken F.step tokens).1
  taken_turns [] tokens lt = absurd (omega arith)
  taken_turns (turn ∷ turns) tokens lt = by (F.step tokens) refl (taken_turns turns)
    where
      by : (o : Option (A × List X)) → F.step tokens ≡ o
          → ((back : List X) → length back < length turns
          → AreTaken F back (taken F.step back).0 (taken F.step back).1)
          → AreTaken F tokens (taken F.step tokens).0 (taken F.step tokens).1
      by None e later =
          rw (taken-none tokens e) (record { pieces = []; spelled = refl; tokens_are = refl; ends = e })
      by (Some (a, rest)) e later =
          let is = exact.sound tokens a rest e in
          let more = later rest (omega (arith, shrinks F exact tokens a rest e)) in
          rw (taken-some tokens a rest e)
          (record {
            pieces = is.piece ++ more.pieces;
            spelled = (is.piece, more.pieces, is.spelled, more.spelled, refl);
            tokens_are =
                is.tokens_are ∙ ap (λ ys. is.piece ++ ys) more.tokens_are
                ∙ sym (append_assoc is.piece more.pieces (taken F.step rest).1);
            ends = more.ends;
          })

  -- what is taken is spelled
  pub taken-sound : (tokens : List X) → AreTaken F tokens (taken F.step tokens).0 (taken F.step tokens).1
  taken-sound [] = rw (taken-none [] none_from_nothing)
      (record { pieces = []; spelled = refl; tokens_are = refl; ends = none_from_nothing })
  taken-sound (x ∷ tokens) = taken_turns (x ∷ x ∷ tokens) (x ∷ tokens) (omega arith)

  -- and what is spelled is taken, where nothing is taken behind it
  pub taken-complete : (values : List A) (pieces rest : List X) → SpellsMany F.Spells values pieces
      → F.step rest ≡ None → taken F.step (pieces ++ rest) ≡ (values, rest)
  taken-complete [] pieces rest is ends = rw is (taken-none rest ends)
  taken-complete (a ∷ values) pieces rest (front, back, spelled, more, is) ends =
      ap (λ ys. taken F.step (ys ++ rest)) is
      ∙ ap (taken F.step) (append_assoc front back rest)
      ∙ taken-some (front ++ (back ++ rest)) a (back ++ rest) (exact.complete front a (back ++ rest) spelled)
      ∙ ap (λ (parts : List A × List X). (a ∷ parts.0, parts.1)) (taken-complete values back rest more ends)

  -- all values that all tokens spell are read
  pub all-complete : (values : List A) (tokens : List X) → SpellsMany F.Spells values tokens
      → all F tokens ≡ Some values
  all-complete values tokens spelled =
      ap (λ ys. if_whole (taken F.step ys)) (sym (append-nil tokens))
      ∙ ap if_whole (taken-complete values tokens [] spelled none_from_nothing)

  -- and what is read of all tokens is what they spell
  pub all-are : (tokens : List X) → AreAll F tokens (all F tokens)
  all-are tokens = by (taken F.step tokens).0 (taken F.step tokens).1 refl (taken-sound tokens)
    where
      by : (values : List A) (rest : List X) → taken F.step tokens ≡ (values, rest) → AreTaken F tokens values rest
          → AreAll F tokens (if_whole (values, rest))
      by values [] e is =
          subst (SpellsMany F.Spells values) (sym (is.tokens_are ∙ append-nil is.pieces)) is.spelled
      by values (x ∷ rest) e is = λ others spelled.
          let none : ◌≡◌ {A = Option (List A)} None (Some others) =
          sym (ap if_whole e) ∙ all-complete others tokens spelled in cc

  -- so tokens spell one list of values at most
  pub all-once : (values others : List A) (tokens : List X) → SpellsMany F.Spells values tokens
      → SpellsMany F.Spells others tokens → values ≡ others
  all-once values others tokens one other =
      same_Some values others (sym (all-complete values tokens one) ∙ all-complete others tokens other)

  -- no value begins as the end does
  module _ {B : Type 0} (E : Format X B) (end : IsExact E)
      (ends : (back : List X) (b : B) (rest : List X) → E.Spells b back → F.step (back ++ rest) ≡ None) where
    pub ended_by-exact : IsExact (ended_by E F)
    ended_by-exact = record {
      sound = λ tokens values rest e.
          let all = taken-sound tokens in
          let later = option_map-some (E.step (taken F.step tokens).1) (λ later. ((taken F.step tokens).0, later.1))
          (values, rest) e in
          let is = end.sound (taken F.step tokens).1 later.0.0 later.0.1 later.1 in
          record {
            piece = all.pieces ++ is.piece;
            spelled = (
              all.pieces,
              is.piece,
              later.0.0,
              subst (λ vs. SpellsMany F.Spells vs all.pieces) (ap (λ pair. pair.0) later.2) all.spelled,
              is.spelled,
              refl,
            );
            tokens_are =
                all.tokens_are
                ∙ ap (λ ys. all.pieces ++ ys) (is.tokens_are ∙ ap (λ pair. is.piece ++ pair.1) later.2)
                ∙ sym (append_assoc all.pieces is.piece rest);
          };
      complete = λ piece values rest (front, back, b, spelled, closes, is).
          ap (λ ys. to_end E.step (taken F.step (ys ++ rest))) is
          ∙ ap (λ ys. to_end E.step (taken F.step ys)) (append_assoc front back rest)
          ∙ ap (to_end E.step) (taken-complete values front (back ++ rest) spelled (ends back b rest closes))
          ∙ ap (option_map (λ later. (values, later.1))) (end.complete back b rest closes);
      takes = λ piece values (front, back, b, spelled, closes, is).
          omega (arith, ap length is, length-append front back, end.takes back b closes);
    }

-- what is printed of values, one behind another, spells them
pub many-printed : {X A : Type 0} (F : Format X A) (test : A → Bool) (print : A → List X) → IsPrinted F test print
    → (values : List A) → list_all test values ≡ true → SpellsMany F.Spells values (flat_map print values)
many-printed F test print printed [] pass = refl
many-printed F test print printed (a ∷ values) pass =
    let parts = and_parts (test a) (list_all test values) pass in (
      print a,
      flat_map print values,
      printed.spells a parts.0,
      many-printed F test print printed values parts.1,
      refl,
    )

-- what spells a value alone
pub many-one : {X A : Type 0} (R : A → List X → Type 0) (a : A) (tokens : List X) → R a tokens
    → SpellsMany R (a ∷ []) tokens
many-one R a tokens spelled = (tokens, [], spelled, refl, sym (append-nil tokens))

-- what spells values, and behind it what spells others
pub many-append : {X A : Type 0} (R : A → List X → Type 0) (values others : List A) (front back : List X)
    → SpellsMany R values front → SpellsMany R others back → SpellsMany R (values ++ others) (front ++ back)
many-append R [] others front back one other = subst (λ ys. SpellsMany R others (ys ++ back)) (sym one) other
many-append R (a ∷ values) others front back (first, later, spelled, more, is) other = (
  first,
  later ++ back,
  spelled,
  many-append R values others later back more other,
  ap (λ ys. ys ++ back) is ∙ append_assoc first later back,
)

-- so does what is printed of what stands for them
pub many-of : {S X A : Type 0} (R : A → List X → Type 0) (value : S → A) (print : S → List X) (test : S → Bool)
    → ((s : S) → test s ≡ true → R (value s) (print s)) → (all : List S) → list_all test all ≡ true
    → SpellsMany R (map value all) (flat_map print all)
many-of R value print test each [] pass = refl
many-of R value print test each (s ∷ all) pass =
    let parts = and_parts (test s) (list_all test all) pass in
    (print s, flat_map print all, each s parts.0, many-of R value print test each all parts.1, refl)
