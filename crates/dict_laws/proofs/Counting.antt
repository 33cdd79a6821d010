-- Answers that are counted one by one come to the tally of the history.
use Rattle.std.proofs.Common.{◌≡◌, ℕ, ◌+◌, Bool, true, false, ◌||◌, cond, min, List, [], ◌∷◌, ◌++◌, refl, ◌∙◌, ap}
use Rattle.std.proofs.Common.{arith}
use Rattle.std.specs.List.{count_by}
use Rattle.std.proofs.lemmas.List.Folds.{list_any-append}
use Rattle.std.proofs.lemmas.List.Sums.{sum_by-append}
use Rattle.skk_calls.specs.declared.answer.Answer.{Answer}
use Rattle.skk_calls.specs.declared.entry.Entry.{Entry}
use Rattle.skk_text.specs.Counts.{last_count}
use Rattle.skk_calls.specs.States.{State}
use Rattle.skk_calls.specs.Tallies.{one_more_if, tally_with, count_answers, has_answer, tells_learned, tells_restored}
use Rattle.skk_calls.specs.Tallies.{lacks_memory, lacks_disk, lacks_room, tally_of}

-- a number that stands still counts on
one_more : (count : ℕ) → min (count + 1) last_count ≡ min (min count last_count + 1) last_count
one_more count = grind arith

-- how many entries have an answer that passes
abbrev count : (Answer → Bool) → List Entry → ℕ
count test entries = count_by (λ e. test e.answer) entries

module _ (test : Answer → Bool) (history : List Entry) (entry : Entry) where
  -- one more answer is counted where it passes
  count_of_more : count_answers test (history ++ entry ∷ [])
      ≡ one_more_if (test entry.answer) (count_answers test history)
  count_of_more = by (test entry.answer) refl
    where
      by : (b : Bool) → test entry.answer ≡ b
          → count_answers test (history ++ entry ∷ []) ≡ one_more_if b (count_answers test history)
      by true e =
          let more : count test (history ++ entry ∷ []) ≡ count test history + 1 =
          sum_by-append (λ e. cond (test e.answer) 1 0) history (entry ∷ []) ∙ (rw e refl) in
          ap (λ n. min n last_count) more ∙ one_more (count test history)
      by false e =
          let same_text : count test (history ++ entry ∷ []) ≡ count test history + 0 =
          sum_by-append (λ e. cond (test e.answer) 1 0) history (entry ∷ []) ∙ (rw e refl) in
          ap (λ n. min n last_count) (same_text ∙ omega arith)

  -- and told of where it passes
  any_of_more : has_answer test (history ++ entry ∷ []) ≡ (has_answer test history || test entry.answer)
  any_of_more =
      list_any-append (λ e. test e.answer) history (entry ∷ [])
      ∙ ap (λ b. has_answer test history || b) (by (test entry.answer))
    where
      by : (b : Bool) → (b || false) ≡ b
      by true = refl
      by false = refl

-- one more answer makes the tally of one more entry, but for the rows
pub counted_more : (state : State) (history : List Entry) (entry : Entry)
    → tally_with (tally_of state history) entry.answer
    ≡ record (tally_of state (history ++ entry ∷ [])) { rows = (tally_of state history).rows }
counted_more state history entry =
    rw (
      count_of_more tells_learned history entry,
      count_of_more tells_restored history entry,
      any_of_more lacks_memory history entry,
      any_of_more lacks_disk history entry,
      any_of_more lacks_room history entry,
    ) refl
