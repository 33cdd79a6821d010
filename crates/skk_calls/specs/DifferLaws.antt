-- What holds of texts of which no two are the same.
use Rattle.std.proofs.Common.{◌≡◌, ℕ, true, false, not, List, [], ◌∷◌, ◌++◌, refl, ◌∙◌, ap, arith}
use Rattle.std.specs.List.{list_all}
use Rattle.std.proofs.lemmas.Bool.{and_from}
use Rattle.std.proofs.lemmas.List.Folds.{list_any-append}
use Rattle.skk_text.specs.FilterLaws.{list_all_kept}
use Rattle.skk_text.specs.PairsLaws.{list_all-weaker, all_pairs-filter}
use Rattle.skk_calls.specs.KeyLaws.{same_other}
use Rattle.skk_calls.specs.Learning.{without_text}
use Rattle.skk_calls.specs.Rows.{same_text, has_text, texts_differ}

-- a text that a list has not is the same as none of it
pub none_same : (texts : List (List ℕ)) (text : List ℕ) → has_text texts text ≡ false
    → list_all (λ other. not (same_text text other)) texts ≡ true
none_same [] text none = refl
none_same (other ∷ texts) text none = grind (arith, none_same texts text)

-- a list has not a text that is the same as none of it
pub has_none : (texts : List (List ℕ)) (text : List ℕ) → list_all (λ other. not (same_text text other)) texts ≡ true
    → has_text texts text ≡ false
has_none [] text none = refl
has_none (other ∷ texts) text none = grind (arith, has_none texts text)

-- of texts that differ the others have not the first, and differ
pub differ_parts : (text : List ℕ) (texts : List (List ℕ)) → texts_differ (text ∷ texts) ≡ true
    → (has_text texts text ≡ false) × (texts_differ texts ≡ true)
differ_parts text texts e = (has_none texts text (grind arith), grind arith)

-- texts that differ still do with a new one in front of them
pub differ_from : (text : List ℕ) (texts : List (List ℕ)) → has_text texts text ≡ false → texts_differ texts ≡ true
    → texts_differ (text ∷ texts) ≡ true
differ_from text texts none apart = grind (arith, none_same texts text)

-- texts that differ still do where one is put in front of them and left out behind it
pub differ_front : (text : List ℕ) (texts : List (List ℕ)) → texts_differ texts ≡ true
    → texts_differ (text ∷ without_text text texts) ≡ true
differ_front text texts differ =
    and_from (list_all (λ other. not (same_text text other)) (without_text text texts))
    (texts_differ (without_text text texts))
    (list_all-weaker (λ other. not (same_text other text)) (λ other. not (same_text text other))
    (λ other e. ap not (same_other text other) ∙ e) (without_text text texts)
    (list_all_kept (λ other. not (same_text other text)) texts))
    (all_pairs-filter (λ one other. not (same_text one other)) (λ other. not (same_text other text)) texts differ)

-- texts that differ still do with a new one behind them
pub differ_end : (texts : List (List ℕ)) (last : List ℕ) → texts_differ texts ≡ true → has_text texts last ≡ false
    → texts_differ (texts ++ last ∷ []) ≡ true
differ_end [] last differ new = refl
differ_end (text ∷ texts) last differ new =
    grind (
      arith,
      (differ_parts text texts differ).0,
      (differ_parts text texts differ).1,
      same_other text last,
      list_any-append (same_text text) texts (last ∷ []),
      differ_end texts last,
      differ_from text (texts ++ last ∷ []),
    )
