-- No book is read twice.
use Rattle.std.proofs.Common.{◌≡◌, ◌∙◌, ◌++◌, ◌∷◌, [], ap, sym, subst, refl, ℕ, Bool, true, false, not, ◌==◌, ◌||◌}
use Rattle.std.proofs.Common.{cond}
use Rattle.std.proofs.Common.{List, Option, None, Some, length, arith}
use Rattle.std.specs.List.{filter, list_all}
use Rattle.std.specs.Option.{is_none}
use Rattle.std.proofs.lemmas.Bool.{and_parts, or_parts}
use Rattle.std.proofs.lemmas.Bool.Decides.{nat_tests}
use Rattle.std.proofs.lemmas.List.Folds.{list_any-append}
use Rattle.skk_text.specs.FilterLaws.{list_all_found}
use Rattle.skk_calls.specs.declared.book_list.TypistList.{TypistList}
use Rattle.skk_calls.specs.BookLists.{has_count, has_number, is_book_list, same_numbers, shared_alone, twice_at}
use Rattle.skk_calls.specs.BookLists.{twice_behind}
use Rattle.skk_calls.specs.States.{State, books_read, is_kept_list, is_valid, list_in, listed_books, lists_ascend}
use Rattle.skk_calls.specs.States.{shared_books}
use Rattle.dict_laws.specs.ValidStates.{valid_parts}

-- what is not among numbers with one more is not among them, and is not that one
module _ (numbers : List ℕ) (last number : ℕ) where
  not-more : has_number (numbers ++ last ∷ []) number ≡ false
      → (has_number numbers number ≡ false) × (last == number ≡ false)
  not-more none =
      let parts = or_parts (has_number numbers number) (last == number || false)
      (sym (list_any-append (λ other. other == number) numbers (last ∷ [])) ∙ none) in
      (parts.0, (or_parts (last == number) false parts.1).0)

  none-more : has_number numbers number ≡ false → last == number ≡ false
      → has_number (numbers ++ last ∷ []) number ≡ false
  none-more none other =
      list_any-append (λ other. other == number) numbers (last ∷ [])
      ∙ ap (λ b. b || (last == number || false)) none ∙ ap (λ b. b || false) other

-- numbers of which none stands twice, without one of them, behind that one: none stands twice
once-without : (who : ℕ) (before kept numbers : List ℕ)
    → ((number : ℕ) → has_number before number ≡ false → number == who ≡ false → has_number kept number ≡ false)
    → twice_behind before numbers ≡ None → twice_behind kept (filter (λ number. not (number == who)) numbers) ≡ None
once-without who before kept [] fewer once = refl
once-without who before kept (number ∷ numbers) fewer once =
    by (has_number before number) (number == who) refl refl
    (λ kept' fewer'. once-without who (before ++ number ∷ []) kept' numbers fewer') once
  where
    rest : List ℕ
    rest = filter (λ n. not (n == who)) numbers

    more : List ℕ
    more = before ++ number ∷ []

    by : (stands own : Bool) → has_number before number ≡ stands → number == who ≡ own
        → ((kept' : List ℕ)
        → ((n : ℕ) → has_number more n ≡ false → n == who ≡ false → has_number kept' n ≡ false)
        → twice_behind more numbers ≡ None → twice_behind kept' rest ≡ None)
        → cond stands (Some (length before)) (twice_behind more numbers) ≡ None
        → twice_behind kept (cond (not own) (number ∷ rest) rest) ≡ None
    by true own stands is further once = absurd (cc)
    by false true stands is further once =
        further kept (λ n none other. fewer n (not-more before number n none).0 other) once
    by false false stands is further once =
        subst (λ b. cond b (Some (length kept)) (twice_behind (kept ++ number ∷ []) rest) ≡ None)
        (sym (fewer number stands is)) (further (kept ++ number ∷ []) (λ n none other.
        let parts = not-more before number n none in
        none-more kept number n (fewer n parts.0 other) parts.1) once)

none-twice : (place : Option ℕ) → is_none place ≡ true → place ≡ None
none-twice None is = refl
none-twice (Some at) is = absurd (cc)

-- no number of a typist's list stands twice
listed-once : (state : State) (who : ℕ) → is_valid state ≡ true → twice_at (shared_books state who) ≡ None
listed-once state who valid = by (list_in who state.lists) refl
  where
    by : (found : Option TypistList) → list_in who state.lists ≡ found → twice_at (listed_books found) ≡ None
    by None is = refl
    by (Some list) is =
        let all = (and_parts (lists_ascend state.lists) (list_all is_kept_list state.lists)
        (valid_parts state valid).lists).1 in
        let kept = list_all_found is_kept_list (λ (l : TypistList). l.typist == who) state.lists list all is in
        let books = (and_parts (is_book_list list.books) (not (same_numbers list.books shared_alone)) kept).0 in
        none-twice (twice_at list.books) (and_parts (has_count list.books) (is_none (twice_at list.books)) books).1

-- the typist's own book is not among the others, and no other is there twice
pub read-once : (state : State) (who : ℕ) → is_valid state ≡ true → twice_at (books_read state who) ≡ None
read-once state who valid =
    once-without who [] (who ∷ []) (shared_books state who) apart (listed-once state who valid)
  where
    apart : (number : ℕ) → has_number [] number ≡ false → number == who ≡ false → has_number (who ∷ []) number ≡ false
    apart number none other = grind (arith, nat_tests, other)
