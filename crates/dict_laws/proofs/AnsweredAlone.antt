-- In a history of own calls each typist is answered as if the others had made none.
use Rattle.std.specs.Bool.{⊤}
use Rattle.std.proofs.Common.{◌≡◌, ℕ, Bool, true, false, cond, ◌&&◌, ◌||◌, ◌==◌, not, None, Some, List, []}
use Rattle.std.proofs.Common.{◌∷◌, ◌++◌, refl, sym, subst, ap, ◌∙◌}
use Rattle.std.proofs.lemmas.Bool.{and_parts, eqb-true, not-true}
use Rattle.std.specs.List.{cons_option, filter, list_all}
use Rattle.skk_calls.specs.declared.answer.Answer.{Answer}
use Rattle.skk_calls.specs.declared.answer.Answer.TheVariants.{Done, Refused}
use Rattle.skk_calls.specs.declared.call.Call.{Call}
use Rattle.skk_calls.specs.BookLists.{has_number}
use Rattle.skk_calls.specs.Dictionary.{answer, after, is_share}
use Rattle.skk_calls.specs.declared.entry.Entry.{Entry}
use Rattle.skk_calls.specs.Histories.{Opening, LacksRoom, IsLegalAnswer, IsLegal, after_answer, after_entry}
use Rattle.skk_calls.specs.Histories.{state_after, after_calls, dialog}
use Rattle.skk_calls.specs.Interactions.{Dialog, IsAnsweredAlone, calls_of}
use Rattle.skk_calls.specs.Openings.{is_reply}
use Rattle.skk_calls.specs.Rows.{Row}
use Rattle.skk_calls.specs.States.{State, books_read, shared_books}
use Rattle.dict_laws.specs.OwnBooks.{owner, is_own, LookAlike, gives_own, GivesOwn, is_own_entry, is_apart}
use Rattle.dict_laws.specs.OwnBookLaws.{look_alike_too, own_answered_alike, own_leaves_alike, others_leave_alike}
use Rattle.dict_laws.specs.OwnBookLaws.{answer_gives_own}
use Rattle.dict_laws.proofs.KeptLists.{lists_after}

-- Replies of a history

-- an answer, where it is a reply, is the dictionary's
abbrev pub IsReplyOf : List (List Row) → State → Call → Answer → Type 0
IsReplyOf files state call (Done reply) = reply ≡ answer files state call
IsReplyOf files state call (Refused refusal) = ⊤

-- each reply of a history is the dictionary's at its place
abbrev pub AreRepliesOf : List (List Row) → State → List Entry → Type 0
AreRepliesOf files state history =
    (prefix : List Entry) (entry : Entry) (rest : List Entry) → history ≡ prefix ++ entry ∷ rest
    → IsReplyOf files (state_after state prefix) entry.call entry.answer

-- so is each of a legal history
pub legal_replies : (opening : Opening) (history : List Entry) → IsLegal opening history
    → AreRepliesOf opening.files opening.state history
legal_replies opening history legal prefix entry rest e = by _ entry.answer (legal prefix entry rest e)
  where
    by : (state : State) (given : Answer) → IsLegalAnswer LacksRoom opening state entry.call given
        → IsReplyOf opening.files state entry.call given
    by state (Done reply) is = is
    by state (Refused refusal) is = tt

-- and each behind its first entry
replies_rest : (files : List (List Row)) (state : State) (entry : Entry) (history : List Entry)
    → AreRepliesOf files state (entry ∷ history) → AreRepliesOf files (after_entry state entry) history
replies_rest files state entry history replies prefix next rest e =
    replies (entry ∷ prefix) next rest (ap (λ l. entry ∷ l) e)

-- One caller among others

module _ (typist : ℕ) (state alone : State) (call : Call) (alike : LookAlike typist state alone) where
  -- a reply to the typist's own call is the one that is given alone
  own_reply : (files : List (List Row)) (given : Answer) → is_own typist call ≡ true → is_reply given ≡ true
      → IsReplyOf files state call given → given ≡ Done (answer files alone call)
  own_reply files (Done reply) own is of =
      ap Done (of ∙ sym (own_answered_alike state alone typist call alike own files))
  own_reply files (Refused refusal) own is of = cc

  -- and leaves a state that looks like the one that is left alone
  own_entry_leaves : (given : Answer) → is_own typist call ≡ true → is_reply given ≡ true
      → LookAlike typist (after_answer state call given) (after alone call)
  own_entry_leaves (Done reply) own is = own_leaves_alike state alone typist call alike own
  own_entry_leaves (Refused refusal) own is = cc

  -- what is answered to another, who has a book that the typist does not read, leaves a state that looks like the one
  -- alone
  other_entry_leaves : (given : Answer) → is_share call ≡ false
      → has_number (books_read state typist) (owner call) ≡ false
      → LookAlike typist (after_answer state call given) alone
  other_entry_leaves (Done reply) e unread =
      look_alike_too typist state alone (after state call) alike (others_leave_alike state typist call e unread)
  other_entry_leaves (Refused refusal) e unread = alike

-- a call that gives no list leaves the lists, whatever it is answered
lists_left : (state : State) (call : Call) (given : Answer) → is_share call ≡ false
    → (after_answer state call given).lists ≡ state.lists
lists_left state call (Done reply) e = lists_after state call e
lists_left state call (Refused refusal) e = refl

module _ (files : List (List Row)) (start : State) (typist_of : ℕ → ℕ) (number : ℕ) where
  -- what a caller of a history said is answered alone, where the replies are the dictionary's; and the state after it
  -- looks like the one after the history
  abbrev IsAlone : State → State → List Entry → Dialog → Type 0
  IsAlone state alone history said =
      (AreRepliesOf files state history → IsAnsweredAlone files alone said)
      × LookAlike (typist_of number) (state_after state history) (after_calls alone (calls_of said))

  pub each_alone : (state alone : State) (history : List Entry) → state.lists ≡ start.lists
      → LookAlike (typist_of number) state alone → list_all (is_own_entry typist_of) history ≡ true
      → list_all (is_apart start typist_of number) history ≡ true
      → list_all (λ pair. is_reply pair.1) (dialog history number) ≡ true
      → IsAlone state alone history (dialog history number)
  each_alone state alone [] lists alike own apart served = (λ replies. tt, alike)
  each_alone state alone (entry ∷ history) lists alike own apart served =
      let owns = and_parts (is_own_entry typist_of entry) (list_all (is_own_entry typist_of) history) own in
      let aparts =
      and_parts (is_apart start typist_of number entry) (list_all (is_apart start typist_of number) history) apart in
      by (entry.number == number) refl owns.0 aparts.0 served
      (λ next next_alone left like replied. each_alone next next_alone history left like owns.1 aparts.1 replied)
    where
      -- what the caller said from this entry on, where that is the caller's or not
      said : Bool → Dialog
      said mine = cons_option (cond mine (Some (entry.call, entry.answer)) None) (dialog history number)

      -- an own call gives no list, and is its typist's
      own_parts : is_own_entry typist_of entry ≡ true → (not (is_share entry.call) ≡ true)
          × ((owner entry.call == typist_of entry.number) ≡ true)
      own_parts own = and_parts (not (is_share entry.call)) (owner entry.call == typist_of entry.number) own

      -- so the lists stay
      kept : is_own_entry typist_of entry ≡ true → (after_entry state entry).lists ≡ start.lists
      kept own =
          lists_left state entry.call entry.answer (not-true (is_share entry.call) (own_parts own).0) ∙ lists

      by : (mine : Bool) → (entry.number == number) ≡ mine → is_own_entry typist_of entry ≡ true
          → (mine || not (has_number (books_read start (typist_of number)) (typist_of entry.number))) ≡ true
          → list_all (λ pair. is_reply pair.1) (said mine) ≡ true
          → ((next next_alone : State) → next.lists ≡ start.lists → LookAlike (typist_of number) next next_alone
          → list_all (λ pair. is_reply pair.1) (dialog history number) ≡ true
          → IsAlone next next_alone history (dialog history number))
          → IsAlone state alone (entry ∷ history) (said mine)
      by true e own other replied rest =
          let replies =
          and_parts (is_reply entry.answer) (list_all (λ pair. is_reply pair.1) (dialog history number)) replied in
          let is : is_own (typist_of number) entry.call ≡ true =
          subst (λ n. is_own (typist_of n) entry.call ≡ true) (eqb-true entry.number number e) own in
          let behind =
          rest (after_entry state entry) (after alone entry.call) (kept own)
          (own_entry_leaves (typist_of number) state alone entry.call alike entry.answer is replies.0) replies.1 in (
            λ told. (
              own_reply (typist_of number) state alone entry.call alike files entry.answer is replies.0
                  (told [] entry history refl),
              behind.0 (replies_rest files state entry history told),
            ),
            behind.1,
          )
      by false e own other replied rest =
          let parts = own_parts own in
          let owned : owner entry.call ≡ typist_of entry.number =
          eqb-true (owner entry.call) (typist_of entry.number) parts.1 in
          let behind =
          rest (after_entry state entry) alone (kept own)
          (other_entry_leaves (typist_of number) state alone entry.call alike entry.answer
          (not-true (is_share entry.call) parts.0)
          (ap (λ n. has_number (books_read state (typist_of number)) n) owned
          ∙ ap (λ l. has_number (books_read (record state { lists = l }) (typist_of number)) (typist_of entry.number))
          lists
          ∙ not-true (has_number (books_read start (typist_of number)) (typist_of entry.number)) other)) replied in
          (λ told. behind.0 (replies_rest files state entry history told), behind.1)

-- What own calls are given

-- in a history whose replies are the dictionary's each own call of a caller is given own learnings
pub replies_give_own : (files : List (List Row)) (typist number : ℕ) (state : State) (history : List Entry)
    → AreRepliesOf files state history → GivesOwn typist (dialog history number)
replies_give_own files typist number state [] replies = tt
replies_give_own files typist number state (entry ∷ history) replies =
    by (entry.number == number)
    (replies_give_own files typist number (after_entry state entry) history
    (replies_rest files state entry history replies))
  where
    given : (answered : Answer) → IsReplyOf files state entry.call answered → is_own typist entry.call ≡ true
        → gives_own typist answered ≡ true
    given (Done reply) is own =
        ap (λ r. gives_own typist (Done r)) is ∙ answer_gives_own typist files state entry.call own
    given (Refused refusal) is own = refl

    by : (b : Bool) → GivesOwn typist (dialog history number)
        → GivesOwn typist (cons_option (cond b (Some (entry.call, entry.answer)) None) (dialog history number))
    by true rest = (given entry.answer (replies [] entry history refl), rest)
    by false rest = rest
