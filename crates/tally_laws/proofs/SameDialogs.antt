-- Histories in which each caller says the same.
use Rattle.std.proofs.Common.{◌≡◌, ◌≢◌, ◌⊎◌, ◌∙◌, inl, inr, ap, sym, subst, refl, arith, ℕ, ◌==◌, Bool, true, false}
use Rattle.std.proofs.Common.{cond, not, ◌&&◌, min, List, [], ◌∷◌, length}
use Rattle.std.specs.List.{list_all}
use Rattle.std.proofs.lemmas.Bool.{and_parts, eqb-true}
use Rattle.skk_text.specs.Counts.{last_count}
use Rattle.skk_text.specs.PairsLaws.{list_all-weaker}
use Rattle.skk_calls.specs.declared.answer.Answer.{Answer}
use Rattle.skk_calls.specs.declared.book.NumberedBook.{NumberedBook}
use Rattle.skk_calls.specs.declared.call.Call.{Call}
use Rattle.skk_calls.specs.declared.entry.Entry.{Entry}
use Rattle.skk_calls.specs.Dictionary.{is_share}
use Rattle.skk_calls.specs.Histories.{after_calls, dialog, state_after}
use Rattle.skk_calls.specs.Interactions.{Dialog, calls_of}
use Rattle.skk_calls.specs.Openings.{is_reply}
use Rattle.skk_calls.specs.States.{State}
use Rattle.skk_calls.specs.Tallies.{tally_of, count_answers, count_rows, has_answer, tells_learned}
use Rattle.skk_calls.specs.Tallies.{tells_restored, lacks_memory, lacks_disk, lacks_room}
use Rattle.dict_laws.specs.OwnBooks.{owner, is_own, is_own_entry}
use Rattle.tally_laws.proofs.OwnBooksChanged.{books_of, calls_on, left-by-calls}
use Rattle.tally_laws.proofs.Parts.{same-total}

-- what an entry says
abbrev said : Entry → Call × Answer
said entry = (entry.call, entry.answer)

module _ (test : ℕ → Call × Answer → Bool) where
  -- what each entry of a history passes, each passes that a caller says
  dialog-passes : (history : List Entry) → list_all (λ entry. test entry.number (said entry)) history ≡ true
      → (number : ℕ) → list_all (test number) (dialog history number) ≡ true
  dialog-passes [] all number = refl
  dialog-passes (entry ∷ history) all number = grind (arith, dialog-passes history)

  -- and the other way round
  history-passes : (history : List Entry)
      → ((number : ℕ) → list_all (test number) (dialog history number) ≡ true)
      → list_all (λ entry. test entry.number (said entry)) history ≡ true
  history-passes [] all = refl
  history-passes (entry ∷ history) all =
      grind (arith, all entry.number, history-passes history (λ number. grind (arith, all number)))

-- Calls on one book

-- one holds just where the other does
abbrev agree : Bool → Bool → Bool
agree true b = b
agree false b = not b

-- where the owner of each call is this one just where the caller is that one, the calls on the owner's book are those
-- that the caller makes
on-said : (history : List Entry) (book number : ℕ)
    → list_all (λ entry. agree (owner entry.call == book) (entry.number == number)) history ≡ true
    → calls_on book history ≡ calls_of (dialog history number)
on-said [] book number all = refl
on-said (entry ∷ history) book number all = grind (arith, on-said history book number)

-- no call is on a book that no call has
on-none : (history : List Entry) (book : ℕ) → list_all (λ entry. not (owner entry.call == book)) history ≡ true
    → calls_on book history ≡ []
on-none [] book none = refl
on-none (entry ∷ history) book none = grind (arith, on-none history book)

-- what is said stays said
still-said : (entry : Entry) (history : List Entry) (number : ℕ) → dialog history number ≢ []
    → dialog (entry ∷ history) number ≢ []
still-said entry history number some none = grind (arith, some)

module _ (state : State) (typist_of : ℕ → ℕ) (history other : List Entry)
    (same : (number : ℕ) → dialog other number ≡ dialog history number)
    (own : list_all (is_own_entry typist_of) history ≡ true)
    (apart : (first second : ℕ) → dialog history first ≢ [] → dialog history second ≢ []
    → typist_of first ≡ typist_of second → first ≡ second)
    (served : list_all (λ entry. is_reply entry.answer) history ≡ true) where
  -- what is said passes in both
  both-pass : (test : ℕ → Call × Answer → Bool)
      → list_all (λ entry. test entry.number (said entry)) history ≡ true
      → list_all (λ entry. test entry.number (said entry)) other ≡ true
  both-pass test all =
      history-passes test other (λ number. subst (λ (d : Dialog). list_all (test number) d ≡ true)
      (sym (same number)) (dialog-passes test history all number))

  -- a caller whose typist a book is, or none
  abbrev Speaks : ℕ → List Entry → Type 0
  Speaks book entries = (number : ℕ) × (dialog entries number ≢ []) × (typist_of number ≡ book)

  speaks : (book : ℕ) (entries : List Entry) → list_all (is_own_entry typist_of) entries ≡ true
      → Speaks book entries ⊎ (list_all (λ entry. not (owner entry.call == book)) entries ≡ true)
  speaks book [] owns = inr refl
  speaks book (entry ∷ entries) owns = by (owner entry.call == book) refl (speaks book entries both.1)
    where
      both : (is_own_entry typist_of entry ≡ true) × (list_all (is_own_entry typist_of) entries ≡ true)
      both = and_parts (is_own_entry typist_of entry) (list_all (is_own_entry typist_of) entries) owns

      some : dialog (entry ∷ entries) entry.number ≢ []
      some none = grind arith

      by : (b : Bool) → (owner entry.call == book) ≡ b
          → Speaks book entries ⊎ (list_all (λ e. not (owner e.call == book)) entries ≡ true)
          → Speaks book (entry ∷ entries)
          ⊎ ((not b && list_all (λ e. not (owner e.call == book)) entries) ≡ true)
      by true is rest =
          inl (
            entry.number,
            some,
            sym (eqb-true (owner entry.call) (typist_of entry.number)
                (and_parts (not (is_share entry.call)) (owner entry.call == typist_of entry.number) both.0).1)
                ∙ eqb-true (owner entry.call) book is,
          )
      by false is (inl speaker) =
          inl (speaker.0, still-said entry entries speaker.0 speaker.1, speaker.2)
      by false is (inr none) = inr none

  module _ (book : ℕ) where
    -- the caller of a book makes all calls on it
    agrees : (speaker : Speaks book history)
        → list_all (λ entry. agree (owner entry.call == book) (entry.number == speaker.0)) history ≡ true
    agrees speaker =
        history-passes (λ number pair. agree (owner pair.0 == book) (number == speaker.0)) history
        (λ number. by number (dialog history number) refl
        (dialog-passes (λ n pair. is_own (typist_of n) pair.0) history own number))
      where
        at : (number : ℕ) → dialog history number ≢ [] → (pair : Call × Answer)
            → is_own (typist_of number) pair.0 ≡ true
            → agree (owner pair.0 == book) (number == speaker.0) ≡ true
        at number some pair owns = grind (arith, apart number speaker.0 some speaker.1, speaker.2)

        by : (number : ℕ) (d : Dialog) → dialog history number ≡ d
            → list_all (λ pair. is_own (typist_of number) pair.0) (dialog history number) ≡ true
            → list_all (λ pair. agree (owner pair.0 == book) (number == speaker.0)) (dialog history number) ≡ true
        by number [] is owns =
            ap (list_all (λ pair. agree (owner pair.0 == book) (number == speaker.0))) is
        by number (pair ∷ pairs) is owns =
            list_all-weaker (λ p. is_own (typist_of number) p.0)
            (λ p. agree (owner p.0 == book) (number == speaker.0))
            (at number (λ none. absurd (cc (sym is ∙ none)))) (dialog history number) owns

    -- so the calls on a book are the same in both
    same-calls : calls_on book other ≡ calls_on book history
    same-calls =
        elim (speaks book history own) [
          | inl speaker ↦
              on-said other book speaker.0
              (both-pass (λ number pair. agree (owner pair.0 == book) (number == speaker.0)) (agrees speaker))
              ∙ ap calls_of (same speaker.0)
              ∙ sym (on-said history book speaker.0 (agrees speaker))
          | inr none ↦
              on-none other book (both-pass (λ number pair. not (owner pair.0 == book)) none)
              ∙ sym (on-none history book none)
        ]

    -- and what they leave of it
    same-books : books_of book (state_after state other).books ≡ books_of book (state_after state history).books
    same-books =
        left-by-calls book state state other (both-pass (λ number pair. is_reply pair.1) served) refl
        ∙ ap (λ (calls : List Call). books_of book (after_calls state calls).books) same-calls
        ∙ sym (left-by-calls book state state history served refl)

  -- as many rows
  same-row-count : count_rows (state_after state other) ≡ count_rows (state_after state history)
  same-row-count =
      same-total (λ (b : NumberedBook). b.number) (λ (b : NumberedBook). b) (λ (b : NumberedBook). length b.rows)
      (state_after state other).books (state_after state history).books same-books

  -- as many answers that pass
  same-answers : (test : Answer → Bool) → count_answers test other ≡ count_answers test history
  same-answers test =
      ap (λ n. min n last_count)
      (same-total (λ (e : Entry). e.number) said (λ (p : Call × Answer). cond (test p.1) 1 0) other history same)

  -- and no answer that passes a test which no reply does
  no-answers : (test : Answer → Bool) → ((given : Answer) → is_reply given ≡ true → test given ≡ false)
      → (entries : List Entry) → list_all (λ entry. is_reply entry.answer) entries ≡ true
      → has_answer test entries ≡ false
  no-answers test none [] all = refl
  no-answers test none (entry ∷ entries) all = grind (arith, none entry.answer, no-answers test none entries)

  same-none : (test : Answer → Bool) → ((given : Answer) → is_reply given ≡ true → test given ≡ false)
      → has_answer test other ≡ has_answer test history
  same-none test none =
      no-answers test none other (both-pass (λ number pair. is_reply pair.1) served)
      ∙ sym (no-answers test none history served)

  pub same-tally : tally_of state other ≡ tally_of state history
  same-tally =
      rw (
        same-answers tells_learned,
        same-answers tells_restored,
        same-row-count,
        same-none lacks_memory (λ given is. grind arith),
        same-none lacks_disk (λ given is. grind arith),
        same-none lacks_room (λ given is. grind arith),
      ) refl
