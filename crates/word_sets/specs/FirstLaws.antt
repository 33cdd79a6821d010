-- What holds of the first of each text, and of items that are added one by one where their texts are new.
use Rattle.std.proofs.Common.{◌≡◌, ℕ, Bool, true, false, not, ◌||◌, List, [], ◌∷◌, ◌++◌, map, refl, sym, ap, arith}
use Rattle.std.proofs.Common.{◌∙◌, append_assoc}
use Rattle.std.specs.List.{filter, fold, list_all}
use Rattle.std.proofs.lemmas.List.{append-nil, map-append}
use Rattle.std.proofs.lemmas.List.Folds.{list_all-append, list_any-append}
use Rattle.std.proofs.lemmas.List.Sums.{fold-append}
use Rattle.std.proofs.lemmas.Simd.{map-map}
use Rattle.skk_calls.specs.DifferLaws.{differ_end}
use Rattle.skk_calls.specs.Found.{first_of_each}
pub use Rattle.skk_calls.specs.KeyLaws.{same_itself, same_equal, same_other}
use Rattle.skk_calls.specs.Rows.{same_text, has_text, texts_differ}
use Rattle.word_sets.specs.Firsts.{with_new}

-- Texts

-- a list of texts is that of their texts
pub texts_stay : (texts : List (List ℕ)) → map (λ text. text) texts ≡ texts
texts_stay [] = refl
texts_stay (text ∷ texts) = ap (λ others. text ∷ others) (texts_stay texts)

-- Tests

-- a test or none is the test
pub or_none : (a : Bool) → (a || false) ≡ a
or_none a = grind arith

-- Items that are added one by one

module _ {X : Type 0} (text_of : X → List ℕ) where
  -- the texts of items with one more at their end
  texts_pushed : (xs : List X) (y : X) (text : List ℕ)
      → has_text (map text_of (xs ++ y ∷ [])) text ≡ (same_text text (text_of y) || has_text (map text_of xs) text)
  texts_pushed xs y text =
      grind (
        arith,
        map-append text_of xs (y ∷ []),
        list_any-append (same_text text) (map text_of xs) (text_of y ∷ []),
      )

  -- the texts with one more item are the same whether its text was new or not
  pub with_new-texts : (xs : List X) (y : X) (text : List ℕ) → has_text (map text_of (with_new text_of xs y)) text
      ≡ (same_text text (text_of y) || has_text (map text_of xs) text)
  with_new-texts xs y text = grind (arith, same_equal text (text_of y), texts_pushed xs y text)

  -- the texts of items to which others were added one by one
  pub fold_new-texts : (xs ys : List X) (text : List ℕ) → has_text (map text_of (fold (with_new text_of) xs ys)) text
      ≡ (has_text (map text_of xs) text || has_text (map text_of ys) text)
  fold_new-texts xs [] text = grind arith
  fold_new-texts xs (y ∷ ys) text =
      grind (arith, fold_new-texts (with_new text_of xs y) ys text, with_new-texts xs y text)

  -- the texts differ still
  pub with_new-differ : (xs : List X) (y : X) → texts_differ (map text_of xs) ≡ true
      → texts_differ (map text_of (with_new text_of xs y)) ≡ true
  with_new-differ xs y differ =
      grind (arith, map-append text_of xs (y ∷ []), differ_end (map text_of xs) (text_of y))

  pub fold_new-differ : (xs ys : List X) → texts_differ (map text_of xs) ≡ true
      → texts_differ (map text_of (fold (with_new text_of) xs ys)) ≡ true
  fold_new-differ xs [] differ = differ
  fold_new-differ xs (y ∷ ys) differ = fold_new-differ (with_new text_of xs y) ys (with_new-differ xs y differ)

  -- what holds of all holds of those that are added
  pub with_new-all : (p : X → Bool) (xs : List X) (y : X) → list_all p xs ≡ true → p y ≡ true
      → list_all p (with_new text_of xs y) ≡ true
  with_new-all p xs y all one = grind (arith, list_all-append p xs (y ∷ []))

  pub fold_new-all : (p : X → Bool) (xs ys : List X) → list_all p xs ≡ true → list_all p ys ≡ true
      → list_all p (fold (with_new text_of) xs ys) ≡ true
  fold_new-all p xs [] all more = all
  fold_new-all p xs (y ∷ ys) all more =
      grind (arith, fold_new-all p (with_new text_of xs y) ys, with_new-all p xs y)

  -- of items that a text differs from, the same are new where an item of that text is added
  still_new : (xs : List X) (x : X) (ys : List X)
      → list_all (λ other. not (same_text (text_of x) other)) (map text_of ys) ≡ true
      → filter (λ y. not (has_text (map text_of (xs ++ x ∷ [])) (text_of y))) ys
      ≡ filter (λ y. not (has_text (map text_of xs) (text_of y))) ys
  still_new xs x [] unlike = refl
  still_new xs x (y ∷ ys) unlike =
      grind (arith, same_other (text_of y) (text_of x), texts_pushed xs x (text_of y), still_new xs x ys)

  -- of items whose texts differ, those come to the end whose texts are new
  pub fold_new-apart : (xs ys : List X) → texts_differ (map text_of ys) ≡ true
      → fold (with_new text_of) xs ys ≡ xs ++ filter (λ y. not (has_text (map text_of xs) (text_of y))) ys
  fold_new-apart xs [] differ = sym (append-nil xs)
  fold_new-apart xs (y ∷ ys) differ =
      let fresh = filter (λ z. not (has_text (map text_of xs) (text_of z))) ys in
      grind (
        arith,
        fold_new-apart xs ys,
        fold_new-apart (xs ++ y ∷ []) ys,
        still_new xs y ys,
        append_assoc xs (y ∷ []) fresh,
      )

  all_new : (xs : List X) → filter (λ x. not (has_text [] (text_of x))) xs ≡ xs
  all_new [] = refl
  all_new (x ∷ xs) = ap (λ ys. x ∷ ys) (all_new xs)

  -- items whose texts differ are all added
  pub fold_new-fresh : (xs : List X) → texts_differ (map text_of xs) ≡ true → fold (with_new text_of) [] xs ≡ xs
  fold_new-fresh xs differ = fold_new-apart [] xs differ ∙ all_new xs

  -- The first of each

  -- what is first among the texts that were not seen is added to items of these texts
  pub first_unseen : (seen : List (List ℕ)) (xs ys : List X)
      → ((text : List ℕ) → has_text seen text ≡ has_text (map text_of xs) text)
      → xs ++ first_of_each text_of seen ys ≡ fold (with_new text_of) xs ys
  first_unseen seen xs [] same = append-nil xs
  first_unseen seen xs (y ∷ ys) same =
      grind (
        arith,
        same (text_of y),
        first_unseen seen xs ys same,
        first_unseen (text_of y ∷ seen) (xs ++ y ∷ []) ys (λ text. grind (arith, same text, texts_pushed xs y text)),
        append_assoc xs (y ∷ []) (first_of_each text_of (text_of y ∷ seen) ys),
      )

  -- the first of each are what is added one by one
  pub first_of_each-fold : (xs : List X) → first_of_each text_of [] xs ≡ fold (with_new text_of) [] xs
  first_of_each-fold xs = first_unseen [] [] xs (λ text. refl)

  -- one more item
  pub first_of_each-push : (xs : List X) (y : X)
      → first_of_each text_of [] (xs ++ y ∷ []) ≡ with_new text_of (first_of_each text_of [] xs) y
  first_of_each-push xs y =
      first_of_each-fold (xs ++ y ∷ []) ∙ fold-append (with_new text_of) [] xs (y ∷ [])
      ∙ ap (λ zs. with_new text_of zs y) (sym (first_of_each-fold xs))

  -- the texts of the first of each are those of all
  pub first_of_each-texts : (xs : List X) (text : List ℕ)
      → has_text (map text_of (first_of_each text_of [] xs)) text ≡ has_text (map text_of xs) text
  first_of_each-texts xs text =
      ap (λ zs. has_text (map text_of zs) text) (first_of_each-fold xs) ∙ fold_new-texts [] xs text

  -- the texts of the first of each differ
  pub first_of_each-differ : (xs : List X) → texts_differ (map text_of (first_of_each text_of [] xs)) ≡ true
  first_of_each-differ xs =
      ap (λ zs. texts_differ (map text_of zs)) (first_of_each-fold xs) ∙ fold_new-differ [] xs refl

  -- what holds of all holds of the first of each
  pub first_of_each-all : (p : X → Bool) (xs : List X) → list_all p xs ≡ true
      → list_all p (first_of_each text_of [] xs) ≡ true
  first_of_each-all p xs all = ap (list_all p) (first_of_each-fold xs) ∙ fold_new-all p [] xs refl all

  -- items whose texts differ are all the first of theirs
  pub first_of_each-fresh : (xs : List X) → texts_differ (map text_of xs) ≡ true → first_of_each text_of [] xs ≡ xs
  first_of_each-fresh xs differ = first_of_each-fold xs ∙ fold_new-fresh xs differ

-- Texts that are added one by one

-- the texts to which others were added one by one have those of both
pub texts_fold_new : (texts others : List (List ℕ)) (text : List ℕ)
    → has_text (fold (with_new (λ t. t)) texts others) text ≡ (has_text texts text || has_text others text)
texts_fold_new texts others text =
    ap (λ ts. has_text ts text) (sym (texts_stay (fold (with_new (λ t. t)) texts others)))
    ∙ fold_new-texts (λ t. t) texts others text
    ∙ ap (λ ts. has_text ts text || has_text (map (λ t. t) others) text) (texts_stay texts)
    ∙ ap (λ ts. has_text texts text || has_text ts text) (texts_stay others)

-- what is made of items with one more is what is made of each
pub with_new-map : {X Y : Type 0} (f : X → Y) (text_of : Y → List ℕ) (xs : List X) (x : X)
    → map f (with_new (λ y. text_of (f y)) xs x) ≡ with_new text_of (map f xs) (f x)
with_new-map f text_of xs x = grind (arith, map-append f xs (x ∷ []), map-map text_of f xs)
