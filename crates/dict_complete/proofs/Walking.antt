-- The readings of a file behind one that a walk has come to, and those of them that go on from a prefix.
use Rattle.std.proofs.Common.{◌≡◌, ◌<◌, ℕ, Bool, true, false, cond, ◌&&◌, not, nat_eq, None, Some, List, [], ◌∷◌}
use Rattle.std.proofs.Common.{length, get_or, zero, suc, refl, ap, ◌∙◌, arith}
use Rattle.std.specs.List.{filter, starts_with}
use Rattle.skk_text.specs.FilterLaws.{filter_all, find_passes, list_all_kept}
use Rattle.ordered_lists.specs.OrderLaws.{less_than_all, none_behind, not_itself}
use Rattle.skk_calls.specs.Completions.{goes_on_from}
use Rattle.skk_calls.specs.OrderLaws.{text_order}
use Rattle.skk_calls.specs.Orders.{text_less}
use Rattle.skk_calls.specs.Rows.{same_text}
use Rattle.skk_calls.specs.Walks.{all_ascend, next_above, texts_ascend}
use Rattle.dict_complete.specs.PrefixLaws.{goes_on_between, goes_on_greater, greater_goes_on}

-- what passes a test that only those pass that pass another is kept of these
filter_within : {X : Type 0} (p q : X → Bool) → ((x : X) → p x ≡ true → q x ≡ true) → (xs : List X)
    → filter p (filter q xs) ≡ filter p xs
filter_within p q so [] = refl
filter_within p q so (x ∷ xs) = grind (arith, so x, filter_within p q so xs)

-- where the next text is this one, the greater ones are it and those greater than it
pub above_next : (texts : List (List ℕ)) (low next : List ℕ) → texts_ascend texts ≡ true
    → next_above texts low ≡ Some next → filter (text_less low) texts ≡ next ∷ filter (text_less next) texts
above_next [] low next ascend found = cc
above_next (text ∷ texts) low next ascend found =
    grind (
      arith,
      above_next texts low next,
      not_itself text_less text_order text,
      filter_all (text_less low) texts,
      filter_all (text_less text) texts,
      less_than_all text_less text_order low text texts,
      find_passes (text_less low) texts next,
      text_order.one_way text next,
      text_order.chain low text next,
    )

-- where there is no next text, none is greater
pub none_above : (texts : List (List ℕ)) (low : List ℕ) → next_above texts low ≡ None
    → filter (text_less low) texts ≡ []
none_above [] low none = refl
none_above (text ∷ texts) low none = grind (arith, none_above texts low)

-- the texts that go on from a prefix are greater
pub all_behind : (prefix : List ℕ) (texts : List (List ℕ))
    → filter (goes_on_from prefix) (filter (text_less prefix) texts) ≡ filter (goes_on_from prefix) texts
all_behind prefix texts = filter_within (goes_on_from prefix) (text_less prefix) (goes_on_greater prefix) texts

-- behind a text that is not less than the prefix the next one is greater than the prefix
pub next_greater : (texts : List (List ℕ)) (prefix low next : List ℕ) → text_less low prefix ≡ false
    → next_above texts low ≡ Some next → text_less prefix next ≡ true
next_greater texts prefix low next reached found =
    grind (arith, find_passes (text_less low) texts next found, text_order.chain low prefix next)

-- so where it begins with the prefix it is one of those that go on
pub next_goes_on : (texts : List (List ℕ)) (prefix low next : List ℕ) → texts_ascend texts ≡ true
    → text_less low prefix ≡ false → next_above texts low ≡ Some next → starts_with nat_eq next prefix ≡ true
    → filter (goes_on_from prefix) (filter (text_less low) texts)
    ≡ next ∷ filter (goes_on_from prefix) (filter (text_less next) texts)
next_goes_on texts prefix low next ascend reached found begins =
    ap (filter (goes_on_from prefix)) (above_next texts low next ascend found)
    ∙ ap (λ b. cond b (next ∷ filter (goes_on_from prefix) (filter (text_less next) texts))
    (filter (goes_on_from prefix) (filter (text_less next) texts)))
    (greater_goes_on prefix next (next_greater texts prefix low next reached found) begins)

-- and where it does not, none behind it does
pub next_ends : (texts : List (List ℕ)) (prefix low next : List ℕ) → texts_ascend texts ≡ true
    → text_less low prefix ≡ false → next_above texts low ≡ Some next → starts_with nat_eq next prefix ≡ false
    → filter (goes_on_from prefix) (filter (text_less low) texts) ≡ []
next_ends texts prefix low next ascend reached found ends =
    ap (filter (goes_on_from prefix)) (above_next texts low next ascend found)
    ∙ none_behind text_less (goes_on_from prefix) next (filter (text_less next) texts) here later
    (list_all_kept (text_less next) texts)
  where
    here : goes_on_from prefix next ≡ false
    here = ap (λ b. b && not (same_text next prefix)) ends

    later : (text : List ℕ) → text_less next text ≡ true → goes_on_from prefix text ≡ false
    later text less =
        grind (arith, here, goes_on_between prefix next text (next_greater texts prefix low next reached found))

-- what a walk steps over is no more behind it
pub fewer_left : (texts : List (List ℕ)) (low next : List ℕ) → texts_ascend texts ≡ true
    → next_above texts low ≡ Some next
    → length (filter (text_less next) texts) < length (filter (text_less low) texts)
fewer_left texts low next ascend found =
    omega (arith, ap length (above_next texts low next ascend found))

-- the texts of each file ascend
pub file_ascends : (files : List (List (List ℕ))) (file : ℕ) → all_ascend files ≡ true
    → texts_ascend (get_or files file []) ≡ true
file_ascends [] file ascend = refl
file_ascends (texts ∷ files) zero ascend = grind arith
file_ascends (texts ∷ files) (suc file) ascend = grind (arith, file_ascends files file)
