-- The record of a change leaves the state that the change leaves.
use Rattle.std.proofs.Common.{◌≡◌, ℕ, Bool, true, false, cond, ◌&&◌, ◌==◌, Option, None, Some}
use Rattle.std.proofs.Common.{◌+◌, refl, ap, arith}
use Rattle.std.proofs.lemmas.Bool.{and_parts}
use Rattle.dict_laws.specs.ChangedStates.{after_moved}
use Rattle.dict_laws.specs.ValidStates.{fits_after, fits_row_at}
use Rattle.skk_calls.specs.KeyLaws.{same_key_equal}
use Rattle.skk_calls.specs.declared.answer.Reply.TheVariants as replies
use Rattle.skk_calls.specs.declared.call.Call.{Call}
use Rattle.skk_calls.specs.declared.call.Call.TheVariants.{Lookup, Complete, Learn, Purge, Annotate, Share, Unlearn}
use Rattle.skk_calls.specs.Dictionary.{after, moves, state_moved, is_call, is_change, is_stamped, stamp_of}
use Rattle.skk_calls.specs.Dictionary.{is_row_or_none}
use Rattle.skk_calls.specs.Learning.{annotated, is_row_before, is_valid_learned}
use Rattle.skk_calls.specs.Rows.{RowKey, Cand, Row, Learned, is_row_key}
use Rattle.skk_calls.specs.States.{State, row_at, count_of, state_with, is_valid}
use Rattle.learned_store.specs.declared.form.PayloadForm.{PayloadForm}
use Rattle.learned_store.specs.Payloads.{state_told, row_told, note_told, change_told}

-- a book with a row that may stand in it has changed
some_count : (count : ℕ) (row : Option Row) (stamp : ℕ) → fits_after count row ≡ true → is_stamped stamp row ≡ true
    → (count == 0) ≡ false
some_count count row stamp fits there = grind arith

-- what is said of a key of a book that has changed leaves its row there
told_leaves : (state : State) (book count stamp : ℕ) (key : RowKey) (before : Option Row) → (count == 0) ≡ false
    → is_row_before key stamp before ≡ true
    → state_told state (row_told book count key before) ≡ state_with state book count key before
told_leaves state book count stamp key None some valid =
    ap (λ (b : Bool). cond b state (state_with state book count key None)) some
told_leaves state book count stamp key (Some row) some valid = grind (arith, same_key_equal row.key key)

-- a learning is taken back only where its row is there
restores : (stamp : ℕ) (row : Option Row)
    → is_change (cond (is_stamped stamp row) replies.Restored (replies.Overtaken (stamp_of row))) ≡ true
    → is_stamped stamp row ≡ true
restores stamp row moved = grind arith

unlearning_leaves : (state : State) (learned : Learned) → is_valid state ≡ true → is_call (Unlearn learned) ≡ true
    → moves state (Unlearn learned) ≡ true
    → state_told state (row_told learned.book (count_of state learned.book) learned.key learned.before)
    ≡ state_moved state (Unlearn learned)
unlearning_leaves state learned valid call moved =
    let rest =
    (and_parts (is_row_key learned.key) (is_valid_learned learned && is_row_or_none learned.before) call).1 in
    let before = (and_parts (is_valid_learned learned) (is_row_or_none learned.before) rest).0 in
    let there = restores learned.stamp (row_at state learned.book learned.key) moved in
    told_leaves state learned.book (count_of state learned.book) learned.stamp learned.key learned.before
    (some_count (count_of state learned.book) (row_at state learned.book learned.key) learned.stamp
    (fits_row_at state learned.book valid learned.key) there) before

-- what the record of an annotation says leaves the row after it
noted_leaves : (state : State) (book count : ℕ) (key : RowKey) (cand : Cand) (row : Option Row)
    → row ≡ row_at state book key
    → state_told state (note_told book count key cand row)
    ≡ state_with state book count key (Some (annotated (row_at state book key) key cand count))
noted_leaves state book count key cand None same =
    ap (λ (r : Option Row). state_with state book count key (Some (annotated r key cand count))) same
noted_leaves state book count key cand (Some row) same = refl

pub change_leaves : (state : State) (call : Call) (form : PayloadForm) → is_valid state ≡ true → is_call call ≡ true
    → moves state call ≡ true → change_told state call ≡ Some form → state_told state form ≡ after state call
change_leaves state (Lookup who key okuri) form valid call moved is = absurd (cc)
change_leaves state (Complete who prefix) form valid call moved is = absurd (cc)
change_leaves state (Learn book key okuri cand) form valid call moved is =
    grind (arith, after_moved state (Learn book key okuri cand) moved)
change_leaves state (Purge book key word) form valid call moved is =
    grind (arith, after_moved state (Purge book key word) moved)
change_leaves state (Annotate book key cand) form valid call moved is =
    grind (
      arith,
      noted_leaves state book (count_of state book + 1) key cand (row_at state book key) refl,
      after_moved state (Annotate book key cand) moved,
    )
change_leaves state (Share who books) form valid call moved is =
    grind (arith, after_moved state (Share who books) moved)
change_leaves state (Unlearn learned) form valid call moved is =
    grind (arith, unlearning_leaves state learned valid call moved, after_moved state (Unlearn learned) moved)
