-- What a plan leaves is what the call that was planned leaves, and it is valid.
use Rattle.std.proofs.Common.{◌≡◌, ◌==◌, ℕ, ◌+◌, ◌<◌, Bool, true, false, cond, not, ◌&&◌, nat_lt, nat_le, Option, None}
use Rattle.std.proofs.Common.{Some, List, [], refl, sym, ap, ◌∙◌, subst, arith}
use Rattle.std.specs.Option.{IfSome}
use Rattle.skk_text.specs.Counts.{last_count}
use Rattle.std.proofs.lemmas.Bool.{and_from, and_parts, eqb-true, leb-true, not_from_false}
use Rattle.std.proofs.lemmas.Bool.Decides.{nat_tests}
use Rattle.skk_text.specs.FilterLaws.{filter_all}
use Rattle.skk_text.specs.PairsLaws.{list_all-weaker}
use Rattle.skk_calls.specs.declared.answer.Reply.{Reply}
use Rattle.skk_calls.specs.declared.answer.Reply.TheVariants.{Learned, Purged, Unchanged, Restored, Annotated}
use Rattle.skk_calls.specs.declared.answer.Reply.TheVariants.{Overtaken, TooBig, StampsEnd}
use Rattle.skk_calls.specs.declared.call.Call.{Call}
use Rattle.skk_calls.specs.declared.call.Call.TheVariants.{Lookup, Complete, Learn, Purge, Annotate, Share, Unlearn}
use Rattle.skk_calls.specs.declared.part.Part.TheVariants.{Nasi}
use Rattle.skk_calls.specs.Canonical.{is_good, line_limit}
use Rattle.skk_calls.specs.Dictionary.{answer, after, moves, state_moved, speaks_of, is_change, is_call, is_fit}
use Rattle.skk_calls.specs.Dictionary.{is_row_or_none, is_stamped, stamp_of, line_length, change_reply}
use Rattle.skk_calls.specs.KeyLaws.{same_key_equal, same_key_itself}
use Rattle.skk_calls.specs.Learning.{learnt, purged, purge_changes, annotated, annotation_changes, is_row_before}
use Rattle.skk_calls.specs.Learning.{is_valid_learned}
use Rattle.skk_calls.specs.Rows.{RowKey, Cand, Row, Learned as LearnedRow, same_key, is_row_key, is_row}
use Rattle.skk_calls.specs.States.{State, row_in, rows_of, row_at, count_of, without_row, with_book, state_with}
use Rattle.skk_calls.specs.States.{has_stamp, fits_count, is_valid, state_listed}
use Rattle.dict_laws.specs.ChangedStates.{after_moved, before_has_key, book_at_changed, changed_book, count_of_changed}
use Rattle.dict_laws.specs.ChangedStates.{has_key, number_itself, row_at_changed, row_in_has_key}
use Rattle.dict_laws.specs.ValidStates.{fits_after, fits_row_at, is_valid_changed, parts_at, rows_of_fit}
use Rattle.learn_index.specs.declared.plan.Plan.{Plan}
use Rattle.learn_index.specs.declared.plan.Plan.TheVariants.{Still, Move, Lists}
use Rattle.learn_index.specs.Plans.{IsPlanned, IsMade, row_plan}
use Rattle.learn_index.specs.Records.{state_counted}

-- a change of the row that is read is the change that was made
same_change : (state changed : State) (number stamp : ℕ) (own : RowKey) (new : Option Row) (book count : ℕ)
    (key : RowKey) (row : Option Row) → has_key own new ≡ true
    → (number == book && same_key own key) ≡ true → changed ≡ state_with state number stamp own new
    → count ≡ count_of changed book → row ≡ row_at changed book key
    → changed ≡ state_with state book count key row
same_change state changed number stamp own new book count key row has speaks e counts rows =
    let parts = and_parts (number == book) (same_key own key) speaks in
    let book_is : number ≡ book = eqb-true number book parts.0 in
    let key_is : own ≡ key = same_key_equal own key parts.1 in
    let at : changed ≡ state_with state book stamp key new =
    e ∙ ap (λ n. state_with state n stamp own new) book_is ∙ ap (λ k. state_with state book stamp k new) key_is in
    let count_is : count ≡ stamp = counts ∙ ap (λ s. count_of s book) at ∙ count_of_changed state book stamp key new in
    let row_is : row ≡ new = rows ∙ ap (λ s. row_at s book key) at
    ∙ row_at_changed state book stamp key new (ap (λ k. has_key k new) (sym key_is) ∙ has) in
    at ∙ ap (λ n. state_with state book n key new) (sym count_is) ∙ ap (state_with state book count key) (sym row_is)

-- what a plan leaves is what its call leaves
pub move_is : (state : State) (call : Call) (book count : ℕ) (key : RowKey) (row : Option Row) (reply : Reply)
    → is_call call ≡ true → IsPlanned state call (Move book count key row reply)
    → after state call ≡ state_with state book count key row
move_is state (Lookup who own okuri) book count key row reply typed planned = let moves = planned.0 in cc
move_is state (Complete who prefix) book count key row reply typed planned = let moves = planned.0 in cc
move_is state (Learn number own okuri cand) book count key row reply typed planned =
    let stamp = count_of state number + 1 in
    same_change state (after state (Learn number own okuri cand)) number stamp own
    (Some (learnt (row_at state number own) own okuri cand stamp)) book count key row (same_key_itself own)
    planned.2 (after_moved state (Learn number own okuri cand) planned.0) planned.3 planned.4
move_is state (Purge number own word) book count key row reply typed planned =
    let stamp = count_of state number + 1 in
    same_change state (after state (Purge number own word)) number stamp own
    (Some (purged (row_at state number own) own word stamp)) book count key row (same_key_itself own)
    planned.2 (after_moved state (Purge number own word) planned.0) planned.3 planned.4
move_is state (Annotate number own cand) book count key row reply typed planned =
    let stamp = count_of state number + 1 in
    same_change state (after state (Annotate number own cand)) number stamp own
    (Some (annotated (row_at state number own) own cand stamp)) book count key row (same_key_itself own)
    planned.2 (after_moved state (Annotate number own cand) planned.0) planned.3 planned.4
move_is state (Share who books) book count key row reply typed planned = let speaks = planned.2 in cc
move_is state (Unlearn learned) book count key row reply typed planned =
    let valid = (and_parts (is_valid_learned learned) (is_row_or_none learned.before)
    (and_parts (is_row_key learned.key) (is_valid_learned learned && is_row_or_none learned.before) typed).1).0 in
    same_change state (after state (Unlearn learned)) learned.book (count_of state learned.book) learned.key
    learned.before book count key row
    (before_has_key learned.key learned.stamp learned.before valid) planned.2
    (after_moved state (Unlearn learned) planned.0) planned.3 planned.4

-- and so is what a plan of a list leaves
pub list_is : (state : State) (call : Call) (who : ℕ) (list : List ℕ) (reply : Reply)
    → IsPlanned state call (Lists who list reply) → after state call ≡ state_listed state who list
list_is state call who list reply planned =
    ap (after state) planned.2
    ∙ after_moved state (Share who list) (ap (moves state) (sym planned.2) ∙ planned.0)

module _ (state : State) (book count : ℕ) (key : RowKey) (row : Option Row) (reply : Reply)
    (made : IsMade state (Move book count key row reply)) where
  -- it is valid where calls keep a state so
  pub made_valid : is_valid state ≡ true → ((s : State) (call : Call) → is_valid s ≡ true → is_call call ≡ true
      → is_fit call ≡ true → is_valid (after s call) ≡ true)
      → is_valid (state_with state book count key row) ≡ true
  made_valid valid keeps =
      ap is_valid (sym (move_is state made.0 book count key row reply made.1 made.4))
      ∙ keeps state made.0 valid made.1 made.2

  -- and its row has the key
  pub made_has_key : has_key key row ≡ true
  made_has_key = ap (has_key key) made.4.4 ∙ row_in_has_key key (rows_of (after state made.0) book)

-- a book of a valid state has a count
pub some_count : (state : State) (book count : ℕ) (key : RowKey) (row : Option Row)
    → is_valid (state_with state book count key row) ≡ true → 0 < count
some_count state book count key row valid =
    let parts = parts_at (state_with state book count key row) book valid (changed_book state book count key row)
    (book_at_changed state book count key row) in
    omega (arith, leb-true 1 count parts.count)

-- What is rebuilt

-- a row that may stand in a book of a count may be put there
pub put_valid : (state : State) (book count : ℕ) (row : Row) → is_valid state ≡ true
    → nat_le (count_of state book) count ≡ true → fits_count count row ≡ true
    → is_valid (state_with state book count row.key (Some row)) ≡ true
put_valid state book count row valid later fits =
    is_valid_changed state book count row.key (Some row) valid (grind (arith, between row.stamp count)) later
    (same_key_itself row.key) fits
  where
    between : (s m : ℕ) → (nat_le 1 s && nat_le s m) ≡ true → nat_le 1 m ≡ true
    between s m f = grind (arith, nat_tests)

-- and so may none
pub drop_valid : (state : State) (book count : ℕ) (key : RowKey) → is_valid state ≡ true → 0 < count
    → nat_le (count_of state book) count ≡ true → is_valid (state_with state book count key None) ≡ true
drop_valid state book count key valid some later =
    is_valid_changed state book count key None valid (grind (arith, nat_tests)) later refl refl

-- a key that no row has
abbrev no_key : RowKey
no_key = record { part = Nasi; reading = [] }

none_there : (state : State) (book : ℕ) → is_valid state ≡ true
    → without_row no_key (rows_of state book) ≡ rows_of state book
none_there state book valid =
    filter_all (λ (row : Row). not (same_key row.key no_key)) (rows_of state book)
    (list_all-weaker (fits_count (count_of state book)) (λ row. not (same_key row.key no_key))
    (λ row fits. not_from_false (same_key row.key no_key)
    (differs row (and_parts (is_row row) (is_good row && has_stamp (count_of state book) row) fits).0))
    (rows_of state book) (rows_of_fit state book valid))
  where
    differs : (row : Row) → is_row row ≡ true → same_key row.key no_key ≡ false
    differs row e = grind (arith, same_key_equal row.key no_key)

-- a book may get a later count
pub count_valid : (state : State) (book count : ℕ) → is_valid state ≡ true → 0 < count
    → nat_le (count_of state book) count ≡ true → is_valid (state_counted state book count) ≡ true
count_valid state book count valid some later =
    ap is_valid
    (ap (λ b. cond b state counted) (not_none count some) ∙ ap (λ (rows : List Row). record state {
      books = with_book (record { number = book; count = count; rows = rows }) state.books;
    }) (sym (none_there state book valid)))
    ∙ drop_valid state book count no_key valid some later
  where
    counted : State
    counted =
        record state {
          books = with_book (record { number = book; count = count; rows = rows_of state book }) state.books;
        }

    not_none : (n : ℕ) → 0 < n → (n == 0) ≡ false
    not_none n e = grind (arith, nat_tests)

-- What is planned

-- the row of a key has it
pub before_keyed : (key : RowKey) (rows : List Row) → IfSome (row_in key rows) (λ row. row.key ≡ key)
before_keyed key rows = by (row_in key rows) (row_in_has_key key rows)
  where
    by : (found : Option Row) → has_key key found ≡ true → IfSome found (λ row. row.key ≡ key)
    by None e = tt
    by (Some row) e = same_key_equal row.key key e

-- the row of a key in a valid state may stand before a learning
pub before_valid : (state : State) (book : ℕ) (key : RowKey) (stamp : ℕ) → is_valid state ≡ true
    → count_of state book < stamp → is_row_before key stamp (row_at state book key) ≡ true
before_valid state book key stamp valid later =
    by (row_at state book key) (fits_row_at state book valid key) (row_in_has_key key (rows_of state book))
  where
    between : (s n m : ℕ) → (nat_le 1 s && nat_le s n) ≡ true → n < m → (nat_le 1 s && nat_lt s m) ≡ true
    between s n m e f = grind (arith, nat_tests)

    by : (found : Option Row) → fits_after (count_of state book) found ≡ true → has_key key found ≡ true
        → is_row_before key stamp found ≡ true
    by None fits has = refl
    by (Some row) fits has = grind (arith, between row.stamp (count_of state book) stamp)

module _ (state : State) (call : Call) (book : ℕ) (key : RowKey) (row : Row) (reply : Reply)
    (told : is_change reply ≡ true) (own : same_key row.key key ≡ true)
    (speaks : speaks_of call book key ≡ true)
    (moved : state_moved state call ≡ state_with state book (count_of state book + 1) key (Some row))
    (answers : answer [] state call ≡ change_reply (count_of state book) row reply)
    (more : (count_of state book == last_count) ≡ false) where
  pub row_planned : IsPlanned state call (row_plan book (count_of state book + 1) key row reply)
  row_planned = by (nat_lt line_limit (line_length row)) refl
    where
      allowed : answer [] state call ≡ cond (nat_lt line_limit (line_length row)) (TooBig (line_length row)) reply
      allowed =
          answers ∙ ap
          (λ b. cond b StampsEnd (cond (nat_lt line_limit (line_length row)) (TooBig (line_length row)) reply)) more

      by : (b : Bool) → nat_lt line_limit (line_length row) ≡ b → IsPlanned state call
          (cond b (Still (TooBig (line_length row))) (Move book (count_of state book + 1) key (Some row) reply))
      by true e =
          let answered : answer [] state call ≡ TooBig (line_length row) =
          allowed ∙ ap (λ b. cond b (TooBig (line_length row)) reply) e in
          (ap is_change answered, sym answered)
      by false e =
          let answered : answer [] state call ≡ reply = allowed ∙ ap (λ b. cond b (TooBig (line_length row)) reply) e in
          let moves = ap is_change answered ∙ told in
          let at : after state call ≡ state_with state book (count_of state book + 1) key (Some row) =
          after_moved state call moves ∙ moved in (
            moves,
            sym answered,
            speaks,
            sym (ap (λ s. count_of s book) at ∙ count_of_changed state book (count_of state book + 1) key (Some row)),
            sym (ap (λ s. row_at s book key) at
                ∙ row_at_changed state book (count_of state book + 1) key (Some row) own),
          )

-- a count that has a next one is not the last
more_counts : (count : ℕ) → count + 1 < 18446744073709551616 → (count == last_count) ≡ false
more_counts count e = grind (arith, nat_tests)

-- a call speaks of its own row
speaks_itself : (book : ℕ) (key : RowKey) → (book == book && same_key key key) ≡ true
speaks_itself book key = and_from (book == book) (same_key key key) (number_itself book) (same_key_itself key)

-- the plan of a learning
pub learn_planned : (state : State) (book : ℕ) (key : RowKey) (okuri : Option (List ℕ)) (cand : Cand) (row : Row)
    (reply : Reply) (stamp : ℕ) → stamp ≡ count_of state book + 1 → stamp < 18446744073709551616
    → row ≡ learnt (row_at state book key) key okuri cand stamp
    → reply ≡ Learned (record { book = book; key = key; stamp = stamp; before = row_at state book key })
    → IsPlanned state (Learn book key okuri cand) (row_plan book stamp key row reply)
learn_planned state book key okuri cand row reply stamp e small rows replies =
    let next = count_of state book + 1 in
    let new : Row = learnt (row_at state book key) key okuri cand next in
    let told : Reply = Learned (record { book = book; key = key; stamp = next; before = row_at state book key }) in
    let plain =
    row_planned state (Learn book key okuri cand) book key new told refl (same_key_itself key) (speaks_itself book key)
    refl refl (more_counts (count_of state book) (subst (λ n. n < 18446744073709551616) e small)) in
    subst (IsPlanned state (Learn book key okuri cand))
    (sym (ap (row_plan_at reply stamp) rows ∙ ap (row_plan_by stamp) replies ∙ ap all e)) plain
  where
    row_plan_at : Reply → ℕ → Row → Plan
    row_plan_at r n new = row_plan book n key new r

    row_plan_by : ℕ → Reply → Plan
    row_plan_by n r = row_plan book n key (learnt (row_at state book key) key okuri cand n) r

    all : ℕ → Plan
    all n =
        row_plan book n key (learnt (row_at state book key) key okuri cand n)
        (Learned (record { book = book; key = key; stamp = n; before = row_at state book key }))

-- where the stamps of the book have ended, that is planned
pub end_planned : (state : State) (book : ℕ) (key : RowKey) (okuri : Option (List ℕ)) (cand : Cand)
    → count_of state book ≡ last_count → IsPlanned state (Learn book key okuri cand) (Still StampsEnd)
end_planned state book key okuri cand e = (ap is_change answered, sym answered)
  where
    row : Row
    row = learnt (row_at state book key) key okuri cand (count_of state book + 1)

    told : Reply
    told =
        Learned (record {
          book = book;
          key = key;
          stamp = count_of state book + 1;
          before = row_at state book key;
        })

    answered : answer [] state (Learn book key okuri cand) ≡ StampsEnd
    answered =
        ap (λ b. cond b StampsEnd (cond (nat_lt line_limit (line_length row)) (TooBig (line_length row)) told))
        (ap (λ n. n == last_count) e ∙ number_itself last_count)

-- a row that stands where a test tells of a change is the one after the change
changed_row : (test : Bool) (after row : Row) → cond test (Some after) None ≡ Some row → (test ≡ true) × (after ≡ row)
changed_row true after row e = (refl, cc)
changed_row false after row e = cc

-- the plan of a purge
pub purge_planned : (state : State) (book : ℕ) (key : RowKey) (word : List ℕ) (row : Row) (stamp : ℕ)
    → stamp ≡ count_of state book + 1 → stamp < 18446744073709551616
    → (if_changes : Option Row) → if_changes
    ≡ cond (purge_changes (row_at state book key) key word) (Some (purged (row_at state book key) key word stamp)) None
    → if_changes ≡ Some row → IsPlanned state (Purge book key word) (row_plan book stamp key row Purged)
purge_planned state book key word row stamp e small if_changes made found =
    let next = count_of state book + 1 in
    let new : Row = purged (row_at state book key) key word next in
    let parts =
    changed_row (purge_changes (row_at state book key) key word) (purged (row_at state book key) key word stamp)
    row (sym made ∙ found) in
    let answers = ap (λ b. cond b (change_reply (count_of state book) new Purged) Unchanged) parts.0 in
    let plain =
    row_planned state (Purge book key word) book key new Purged refl (same_key_itself key) (speaks_itself book key) refl
    answers (more_counts (count_of state book) (subst (λ n. n < 18446744073709551616) e small)) in
    subst (IsPlanned state (Purge book key word)) (sym (ap (row_plan_at stamp) (sym parts.1) ∙ ap all e)) plain
  where
    row_plan_at : ℕ → Row → Plan
    row_plan_at n r = row_plan book n key r Purged

    all : ℕ → Plan
    all n = row_plan book n key (purged (row_at state book key) key word n) Purged

-- the plan of an annotation
pub annotation_planned : (state : State) (book : ℕ) (key : RowKey) (cand : Cand) (row : Row) (stamp : ℕ)
    → stamp ≡ count_of state book + 1 → stamp < 18446744073709551616
    → (if_changes : Option Row) → if_changes
    ≡ cond (annotation_changes (row_at state book key) key cand)
    (Some (annotated (row_at state book key) key cand stamp)) None
    → if_changes ≡ Some row → IsPlanned state (Annotate book key cand) (row_plan book stamp key row Annotated)
annotation_planned state book key cand row stamp e small if_changes made found =
    let next = count_of state book + 1 in
    let new : Row = annotated (row_at state book key) key cand next in
    let parts = changed_row (annotation_changes (row_at state book key) key cand)
    (annotated (row_at state book key) key cand stamp) row (sym made ∙ found) in
    let answers = ap (λ b. cond b (change_reply (count_of state book) new Annotated) Unchanged) parts.0 in
    let plain =
    row_planned state (Annotate book key cand) book key new Annotated refl (same_key_itself key)
    (speaks_itself book key) refl
    answers (more_counts (count_of state book) (subst (λ n. n < 18446744073709551616) e small)) in
    subst (IsPlanned state (Annotate book key cand)) (sym (ap (row_plan_at stamp) (sym parts.1) ∙ ap all e)) plain
  where
    row_plan_at : ℕ → Row → Plan
    row_plan_at n r = row_plan book n key r Annotated

    all : ℕ → Plan
    all n = row_plan book n key (annotated (row_at state book key) key cand n) Annotated

-- the plan of taking back
pub unlearn_planned : (state : State) (learned : LearnedRow) → is_valid_learned learned ≡ true
    → is_stamped learned.stamp (row_at state learned.book learned.key) ≡ true
    → IsPlanned state (Unlearn learned)
    (Move learned.book (count_of state learned.book) learned.key learned.before Restored)
unlearn_planned state learned valid stamped =
    let answered : answer [] state (Unlearn learned) ≡ Restored =
    ap (λ b. cond b Restored (Overtaken (stamp_of (row_at state learned.book learned.key)))) stamped in
    let moves = ap is_change answered in
    let at : after state (Unlearn learned)
    ≡ state_with state learned.book (count_of state learned.book) learned.key learned.before =
    after_moved state (Unlearn learned) moves in (
      moves,
      sym answered,
      speaks_itself learned.book learned.key,
      sym (ap (λ s. count_of s learned.book) at
          ∙ count_of_changed state learned.book (count_of state learned.book) learned.key learned.before),
      sym (ap (λ s. row_at s learned.book learned.key) at
          ∙ row_at_changed state learned.book (count_of state learned.book) learned.key learned.before
          (before_has_key learned.key learned.stamp learned.before valid)),
    )
