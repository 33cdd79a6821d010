-- The rules of the table's rows as they are added one by one.
use Rattle.std.proofs.Common.{◌≡◌, ℕ, zero, suc, ◌+◌, ◌<◌, List, [], ◌∷◌, ◌++◌, length, take, get_or, refl, sym, ◌∙◌}
use Rattle.std.proofs.Common.{ap, append_assoc, add-one, arith, flat_map, codes}
use Rattle.std.proofs.lemmas.Grind.{flat_map-append}
use Rattle.std.proofs.lemmas.List.{append-nil, take_more}
use Rattle.std.proofs.lemmas.Str.{chars-nil}
use Rattle.std.specs.Borrow.{Bor}
use Rattle.std.specs.Str.{chars}
use Rattle.romaji_rules.specs.declared.rule.Rule.{Rule}
use Rattle.romaji_rules.specs.Standard.{rule, row_rules}
use Rattle.romaji_rules.specs.Table.{texts, row_of}

module _ (before stem : List ℕ) where
  -- a row up to its next column has that column's rule behind the others
  row_more : (vowels : List ℕ) (endings : List (Bor (List ℕ))) (i d : ℕ) (e : Bor (List ℕ)) → i < length vowels
      → i < length endings → row_rules before stem (take (suc i) vowels) (texts (take (suc i) endings))
      ≡ row_rules before stem (take i vowels) (texts (take i endings))
      ++ rule (before ++ get_or vowels i d ∷ []) (stem ++ chars (get_or endings i e).now) ∷ []
  row_more [] endings i d e lt more = absurd (omega arith)
  row_more (vowel ∷ vowels) [] i d e lt more = absurd (omega arith)
  row_more (vowel ∷ vowels) (ending ∷ endings) zero d e lt more = refl
  row_more (vowel ∷ vowels) (ending ∷ endings) (suc i) d e lt more =
      ap (λ rows. rule (before ++ vowel ∷ []) (stem ++ chars ending.now) ∷ rows)
      (row_more vowels endings i d e (omega arith) (omega arith))

  -- so a step adds the next column
  pub row_step : (vowels : List ℕ) (endings : List (Bor (List ℕ))) (i d : ℕ) (e : Bor (List ℕ)) → i < length vowels
      → i < length endings → (old now new : List Rule) (added : Rule) (bytes input : List ℕ)
      → now ≡ old ++ row_rules before stem (take i vowels) (texts (take i endings))
      → new ≡ now ++ added ∷ [] → added ≡ rule input (stem ++ chars (get_or endings i e).now)
      → input ≡ bytes ++ get_or vowels i d ∷ [] → bytes ≡ before
      → new ≡ old ++ row_rules before stem (take (i + 1) vowels) (texts (take (i + 1) endings))
  row_step vowels endings i d e lt more old now new added bytes input so_far pushed is_rule is_input is_before =
      let column = rule (before ++ get_or vowels i d ∷ []) (stem ++ chars (get_or endings i e).now) in
      let is_column : added ≡ column = is_rule ∙ ap (λ bs. rule bs (stem ++ chars (get_or endings i e).now)) (is_input
      ∙ ap (λ bs. bs ++ get_or vowels i d ∷ []) is_before) in
      pushed ∙ ap (λ rs. rs ++ added ∷ []) so_far
      ∙ ap (λ r. (old ++ row_rules before stem (take i vowels) (texts (take i endings))) ++ r ∷ []) is_column
      ∙ append_assoc old (row_rules before stem (take i vowels) (texts (take i endings))) (column ∷ [])
      ∙ ap (λ rs. old ++ rs) (sym (row_more vowels endings i d e lt more)
      ∙ ap (λ n. row_rules before stem (take n vowels) (texts (take n endings))) (sym (add-one i)))

-- one more line of a table adds its rules behind those of the lines before it
pub lines_step : {X : Type 0} (f : X → List Rule) (lines : List X) (i : ℕ) (d : X) → i < length lines
    → (old now new : List Rule)
    → now ≡ old ++ flat_map f (take i lines) → new ≡ now ++ f (get_or lines i d)
    → new ≡ old ++ flat_map f (take (i + 1) lines)
lines_step f lines i d lt old now new so_far added =
    let line = get_or lines i d in
    added ∙ ap (λ rs. rs ++ f line) so_far ∙ append_assoc old (flat_map f (take i lines)) (f line)
    ∙ ap (λ rs. old ++ rs)
    (sym (ap (flat_map f) (take_more lines i d lt) ∙ flat_map-append f (take i lines) (line ∷ [])
    ∙ ap (λ rs. flat_map f (take i lines) ++ rs) (append-nil (f line))))

-- the same of a row with no stem
pub rows_step : (lines : List (Bor (List ℕ) × List (Bor (List ℕ)))) (i : ℕ) (d : Bor (List ℕ) × List (Bor (List ℕ)))
    → i < length lines → (old now new : List Rule)
    → now ≡ old ++ flat_map row_of (take i lines)
    → new ≡ now ++ row_rules (get_or lines i d).0.now (chars []) (codes "aiueo") (texts (get_or lines i d).1)
    → new ≡ old ++ flat_map row_of (take (i + 1) lines)
rows_step lines i d lt old now new so_far added =
    let line = get_or lines i d in
    lines_step row_of lines i d lt old now new so_far
    (added ∙ ap (λ stem. now ++ row_rules line.0.now stem (codes "aiueo") (texts line.1)) chars-nil)
