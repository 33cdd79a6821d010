-- The lists of typists that an index keeps.
use Rattle.std.proofs.Common.{◌≡◌, ◌∙◌, ℕ, true, ◌&&◌, List, ap}
use Rattle.std.proofs.lemmas.Bool.{and_parts}
use Rattle.std.specs.List.{list_all}
use Rattle.skk_calls.specs.BookLists.{is_book_list}
use Rattle.skk_calls.specs.declared.book_list.TypistList.{TypistList}
use Rattle.skk_calls.specs.States.{books_ascend, is_book, is_kept_list, is_valid, lists_ascend, with_list}
use Rattle.dict_laws.specs.ValidStates.{is_valid_listed}
use Rattle.learn_index.specs.declared.book.LearnedBook.{LearnedBook}
use Rattle.learn_index.specs.Kept.{changed, kept, IsKept}

module _ (items : List LearnedBook) (lists : List TypistList) (rows : ℕ) (keeps : IsKept (kept items lists) rows) where
  -- the lists ascend
  pub lists_in_order : lists_ascend lists ≡ true
  lists_in_order =
      let state = changed (kept items lists) in
      let ordered = lists_ascend lists && list_all is_kept_list lists in
      (and_parts (lists_ascend lists) (list_all is_kept_list lists)
      (and_parts (list_all is_book state.books) ordered
      (and_parts (books_ascend state.books) (list_all is_book state.books && ordered) keeps.valid).1).1).0

  -- where a typist is given a list, what is kept is kept
  pub kept_listed : (typist : ℕ) (books : List ℕ) (after : List TypistList) → is_book_list books ≡ true
      → after ≡ with_list typist books lists → IsKept (kept items after) rows
  kept_listed typist books after is e = record {
    ascend = keeps.ascend;
    valid =
        ap (λ (those : List TypistList). is_valid (changed (kept items those))) e
        ∙ is_valid_listed typist books is (changed (kept items lists)) keeps.valid;
    counts = keeps.counts;
    held = keeps.held;
    counted = keeps.counted;
  }
