-- A plan that changes something leaves what the record of its call tells.
use Rattle.std.proofs.Common.{◌≡◌, ℕ, ◌+◌, true, ◌&&◌, ◌==◌, Option, None, Some, refl, sym, ap, ◌∙◌}
use Rattle.std.specs.Option.{option_map}
use Rattle.std.proofs.lemmas.Bool.{and_parts, eqb-true}
use Rattle.skk_calls.specs.declared.answer.Reply.{Reply}
use Rattle.skk_calls.specs.declared.call.Call.{Call}
use Rattle.skk_calls.specs.declared.call.Call.TheVariants.{Lookup, Complete, Learn, Purge, Annotate, Share, Unlearn}
use Rattle.skk_calls.specs.Dictionary.{after, is_call, is_row_or_none}
use Rattle.skk_calls.specs.KeyLaws.{same_key_equal, same_key_itself}
use Rattle.skk_calls.specs.Learning.{learnt, purged, annotated, is_valid_learned}
use Rattle.skk_calls.specs.Rows.{RowKey, Cand, Row, same_key, is_row_key}
use Rattle.skk_calls.specs.States.{State, row_at, count_of, state_with}
use Rattle.dict_laws.specs.ChangedStates.{after_moved, before_has_key, count_of_changed, has_key, row_at_changed}
use Rattle.learn_index.specs.declared.plan.Plan.TheVariants.{Move}
use Rattle.learn_index.specs.Plans.{IsPlanned}
use Rattle.learned_store.specs.declared.form.PayloadForm.{PayloadForm}
use Rattle.learned_store.specs.declared.form.PayloadForm.TheVariants.{Note}
use Rattle.learned_store.specs.Payloads.{row_told, note_told, change_told}
use Rattle.learned_store.specs.Written.{noted_in, planned_told}

-- what is told of a row that was changed is what is told of the row that is read
same_told : (state changed : State) (number stamp : ℕ) (own : RowKey) (new : Option Row) (book count : ℕ)
    (key : RowKey) (row : Option Row) → has_key own new ≡ true
    → (number == book && same_key own key) ≡ true → changed ≡ state_with state number stamp own new
    → count ≡ count_of changed book → row ≡ row_at changed book key
    → row_told number stamp own new ≡ row_told book count key row
same_told state changed number stamp own new book count key row has speaks e counts rows =
    let parts = and_parts (number == book) (same_key own key) speaks in
    let book_is : number ≡ book = eqb-true number book parts.0 in
    let key_is : own ≡ key = same_key_equal own key parts.1 in
    let at : changed ≡ state_with state book stamp key new =
    e ∙ ap (λ n. state_with state n stamp own new) book_is ∙ ap (λ k. state_with state book stamp k new) key_is in
    let count_is : count ≡ stamp = counts ∙ ap (λ s. count_of s book) at ∙ count_of_changed state book stamp key new in
    let row_is : row ≡ new = rows ∙ ap (λ s. row_at s book key) at
    ∙ row_at_changed state book stamp key new (ap (λ k. has_key k new) (sym key_is) ∙ has) in
    ap (λ n. row_told n stamp own new) book_is ∙ ap (λ n. row_told book n own new) (sym count_is)
    ∙ ap (λ k. row_told book count k new) key_is ∙ ap (row_told book count key) (sym row_is)

-- the book and the count of a row that was changed are those of the row that is read
same_count : (state changed : State) (number stamp : ℕ) (own : RowKey) (new : Option Row) (book count : ℕ)
    (key : RowKey) → (number == book && same_key own key) ≡ true
    → changed ≡ state_with state number stamp own new → count ≡ count_of changed book
    → (number ≡ book) × (stamp ≡ count)
same_count state changed number stamp own new book count key speaks e counts =
    let parts = and_parts (number == book) (same_key own key) speaks in
    let book_is : number ≡ book = eqb-true number book parts.0 in
    let at : changed ≡ state_with state book stamp own new =
    e ∙ ap (λ n. state_with state n stamp own new) book_is in (
      book_is,
      sym (counts ∙ ap (λ s. count_of s book) at ∙ count_of_changed state book stamp own new),
    )

-- what is told of a candidate of a row that is there, or else of the row after its annotation
noted_told : (state changed : State) (number stamp : ℕ) (own : RowKey) (cand : Cand) (book count : ℕ) (key : RowKey)
    (row : Option Row) (before : Option Row) → before ≡ row_at state number own
    → (number == book && same_key own key) ≡ true
    → changed ≡ state_with state number stamp own (Some (annotated before own cand stamp))
    → count ≡ count_of changed book → row ≡ row_at changed book key
    → note_told number stamp own cand before
    ≡ planned_told (option_map (λ r. (own, cand)) before) book count key row
noted_told state changed number stamp own cand book count key row None at speaks e counts rows =
    same_told state changed number stamp own (Some (annotated None own cand stamp)) book count key row
    (same_key_itself own) speaks e counts rows
noted_told state changed number stamp own cand book count key row (Some there) at speaks e counts rows =
    let same =
    same_count state changed number stamp own (Some (annotated (Some there) own cand stamp)) book count key speaks e
    counts in
    ap (λ n. Note n stamp own cand) same.0 ∙ ap (λ n. Note book n own cand) same.1

pub plan_told : (state : State) (call : Call) (book count : ℕ) (key : RowKey) (row : Option Row) (reply : Reply)
    → is_call call ≡ true → IsPlanned state call (Move book count key row reply)
    → change_told state call ≡ Some (planned_told (noted_in state call) book count key row)
plan_told state (Lookup who own okuri) book count key row reply typed planned = let moves = planned.0 in absurd (cc)
plan_told state (Complete who prefix) book count key row reply typed planned = let moves = planned.0 in absurd (cc)
plan_told state (Learn number own okuri cand) book count key row reply typed planned =
    let stamp = count_of state number + 1 in
    ap (λ (f : PayloadForm). Some f) (same_told state (after state (Learn number own okuri cand)) number stamp own
    (Some (learnt (row_at state number own) own okuri cand stamp)) book count key row (same_key_itself own)
    planned.2 (after_moved state (Learn number own okuri cand) planned.0) planned.3 planned.4)
plan_told state (Purge number own word) book count key row reply typed planned =
    let stamp = count_of state number + 1 in
    ap (λ (f : PayloadForm). Some f) (same_told state (after state (Purge number own word)) number stamp own
    (Some (purged (row_at state number own) own word stamp)) book count key row (same_key_itself own)
    planned.2 (after_moved state (Purge number own word) planned.0) planned.3 planned.4)
plan_told state (Annotate number own cand) book count key row reply typed planned =
    let stamp = count_of state number + 1 in
    ap (λ (f : PayloadForm). Some f) (noted_told state (after state (Annotate number own cand)) number stamp own cand
    book count key row (row_at state number own) refl planned.2
    (after_moved state (Annotate number own cand) planned.0) planned.3 planned.4)
plan_told state (Share who books) book count key row reply typed planned = let speaks = planned.2 in absurd (cc)
plan_told state (Unlearn learned) book count key row reply typed planned =
    let valid = (and_parts (is_valid_learned learned) (is_row_or_none learned.before)
    (and_parts (is_row_key learned.key) (is_valid_learned learned && is_row_or_none learned.before) typed).1).0 in
    ap (λ (f : PayloadForm). Some f) (same_told state (after state (Unlearn learned)) learned.book
    (count_of state learned.book) learned.key learned.before book count key row
    (before_has_key learned.key learned.stamp learned.before valid) planned.2
    (after_moved state (Unlearn learned) planned.0) planned.3 planned.4)
