-- What stands behind the last whole piece decides all that is read later.
use Rattle.std.proofs.Common.{◌≡◌, ◌≤◌, List, [], ◌∷◌, ◌++◌, length, ap, ◌∙◌, arith}
use Rattle.std.proofs.Common.{length-append, append_assoc}
use Rattle.exact_readers.specs.Exact.{IsExact}
use Rattle.exact_readers.specs.Formats.{Format, SpellsMany, taken}
use Rattle.exact_readers.specs.ManyLaws.{taken-sound, taken-some}

module _ {X A : Type 0} (F : Format X A) (exact : IsExact F) where
  -- values that are spelled, and what is taken behind them
  pub taken-behind : (values : List A) (pieces rest : List X) → SpellsMany F.Spells values pieces
      → taken F.step (pieces ++ rest) ≡ (values ++ (taken F.step rest).0, (taken F.step rest).1)
  taken-behind [] pieces rest is = ap (λ ys. taken F.step (ys ++ rest)) is
  taken-behind (a ∷ values) pieces rest (front, back, spelled, more, is) =
      ap (λ ys. taken F.step (ys ++ rest)) is
      ∙ ap (taken F.step) (append_assoc front back rest)
      ∙ taken-some F exact (front ++ (back ++ rest)) a (back ++ rest) (exact.complete front a (back ++ rest) spelled)
      ∙ ap (λ (parts : List A × List X). (a ∷ parts.0, parts.1)) (taken-behind values back rest more)

  -- what is taken of tokens with more behind them: what is taken of these, and of their rest with more behind it
  pub taken-on : (tokens more : List X)
      → taken F.step (tokens ++ more)
      ≡ (
        (taken F.step tokens).0 ++ (taken F.step ((taken F.step tokens).1 ++ more)).0,
        (taken F.step ((taken F.step tokens).1 ++ more)).1,
      )
  taken-on tokens more =
      let is = taken-sound F exact tokens in
      ap (λ ys. taken F.step (ys ++ more)) is.tokens_are
      ∙ ap (taken F.step) (append_assoc is.pieces (taken F.step tokens).1 more)
      ∙ taken-behind (taken F.step tokens).0 is.pieces ((taken F.step tokens).1 ++ more) is.spelled

  -- what is left is no longer than all
  pub rest-within : (tokens : List X) → length (taken F.step tokens).1 ≤ length tokens
  rest-within tokens =
      let is = taken-sound F exact tokens in
      omega (arith, ap length is.tokens_are, length-append is.pieces (taken F.step tokens).1)
