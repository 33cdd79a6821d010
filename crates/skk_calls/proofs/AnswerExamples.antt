-- What calls are answered, what they make of a state, and which calls and answers there may be.
use Rattle.std.proofs.Common.{◌≡◌, ℕ, Bool, true, false, List, [], ◌∷◌, codes, refl, map, Some, None}
use Rattle.skk_text.specs.Text.{byte_len}
use Rattle.skk_calls.specs.declared.answer.Answer.{Answer}
use Rattle.skk_calls.specs.declared.answer.Answer.TheVariants.{Done, Refused}
use Rattle.skk_calls.specs.declared.answer.Refusal.TheVariants.{Memory, Disk, JournalFull}
use Rattle.skk_calls.specs.declared.answer.Reply.{Reply}
use Rattle.skk_calls.specs.declared.answer.Reply.TheVariants as replies
use Rattle.skk_calls.specs.declared.call.Call.{Call}
use Rattle.skk_calls.specs.declared.call.Call.TheVariants.{Lookup, Complete, Learn, Purge, Annotate, Unlearn}
use Rattle.skk_calls.specs.Canonical.{canonical}
use Rattle.skk_calls.specs.Dictionary.{answer, after, moves, speaks_of, is_fit, is_call, may_answer, change_reply}
use Rattle.skk_calls.specs.Dictionary.{line_length}
use Rattle.skk_calls.specs.Learning.{learnt, purged, annotated}
use Rattle.skk_calls.specs.Rows.{Row, Learned}
use Rattle.skk_calls.specs.States.{State, empty_state, is_valid}
use Rattle.skk_calls.proofs.Samples.{Gives, Gives2, plain, noted, nasi, block, row, book, books, files, kanji_key}
use Rattle.skk_calls.proofs.Samples.{ook_key, a, b}

-- A word is learnt and taken back

-- learning the word 漢字 in book 1, and the state that has it
abbrev pub learn_kanji : Call
learn_kanji = Learn 1 kanji_key None (plain (codes "漢字"))

abbrev pub first_row : Row
first_row = row kanji_key (plain (codes "漢字") ∷ []) [] [] 1

abbrev pub first_state : State
first_state = books (book 1 1 (first_row ∷ []) ∷ [])

-- learning 感じ next, what is told of it, and the state that has both
abbrev learn_feeling : Call
learn_feeling = Learn 1 kanji_key None (plain (codes "感じ"))

abbrev second : Learned
second = record { book = 1; key = kanji_key; stamp = 2; before = Some first_row }

abbrev second_state : State
second_state = books (book 1 2 (row kanji_key (plain (codes "感じ") ∷ plain (codes "漢字") ∷ []) [] [] 2 ∷ []) ∷ [])

-- the state where that was taken back: the first row is there, and the count stays
abbrev restored_state : State
restored_state = books (book 1 2 (first_row ∷ []) ∷ [])

-- what was learnt first, and something that was learnt where no row is
abbrev first : Learned
first = record { book = 1; key = kanji_key; stamp = 1; before = None }

-- purging 漢字 in book 1, and the state in which it is hidden
abbrev purge_kanji : Call
purge_kanji = Purge 1 kanji_key (codes "漢字")

abbrev purged_state : State
purged_state = books (book 1 2 (row kanji_key [] [] (codes "漢字" ∷ []) 2 ∷ []) ∷ [])

-- a note of the user's own for 漢字 in book 1, the row that has it, and the states that have it
abbrev pub annotate_kanji : Call
annotate_kanji = Annotate 1 kanji_key (noted (codes "漢字") (codes "*よい"))

abbrev noted_row : ℕ → Row
noted_row stamp = row kanji_key (noted (codes "漢字") (codes "*よい") ∷ []) [] [] stamp

abbrev noted_state : State
noted_state = books (book 1 2 (noted_row 2 ∷ []) ∷ [])

-- what each call is answered
answers : Gives2 (answer files) (
    (empty_state, learn_kanji, replies.Learned first)
    ∷ (first_state, learn_feeling, replies.Learned second)
    ∷ (second_state, Unlearn second, replies.Restored)
    ∷ (restored_state, Unlearn second, replies.Overtaken 1)
    ∷ (empty_state, Unlearn second, replies.Overtaken 0)
    ∷ (first_state, Unlearn first, replies.Restored)
    ∷ (first_state, Unlearn (record { book = 2; key = kanji_key; stamp = 1; before = None }), replies.Overtaken 0)
    ∷ (empty_state, purge_kanji, replies.Purged)
    ∷ (first_state, purge_kanji, replies.Purged)
    ∷ (purged_state, purge_kanji, replies.Unchanged)
    ∷ (first_state, annotate_kanji, replies.Annotated)
    ∷ (empty_state, annotate_kanji, replies.Annotated)
    ∷ (purged_state, annotate_kanji, replies.Annotated)
    ∷ (noted_state, annotate_kanji, replies.Unchanged)
    ∷ [])
unfolding lib.Utf8.encode
answers = refl

-- the state after each call
states_after : Gives2 after (
    (empty_state, learn_kanji, first_state)
    ∷ (first_state, learn_feeling, second_state)
    ∷ (second_state, Unlearn second, restored_state)
    ∷ (restored_state, Unlearn second, restored_state)
    ∷ (first_state, Unlearn first, books (book 1 1 [] ∷ []))
    ∷ (first_state, purge_kanji, purged_state)
    ∷ (purged_state, purge_kanji, purged_state)
    ∷ (first_state, annotate_kanji, noted_state)
    ∷ (empty_state, annotate_kanji, books (book 1 1 (noted_row 1 ∷ []) ∷ []))
    ∷ (purged_state, annotate_kanji, books (book 1 3 (noted_row 3 ∷ []) ∷ []))
    ∷ (noted_state, annotate_kanji, noted_state)
    ∷ (first_state, Lookup 1 kanji_key None, first_state)
    ∷ (first_state, Complete 1 a, first_state)
    ∷ [])
unfolding lib.Utf8.encode
states_after = refl

-- what a call makes of another book, and under another key, with an okurigana
states_after_more : Gives (after first_state) ((
  Learn 0 ook_key (Some (codes "く")) (noted a b),
  books (book 0 1 (row ook_key (noted a b ∷ []) (block (codes "く") (a ∷ []) ∷ []) [] 1 ∷ [])
      ∷ book 1 1 (first_row ∷ []) ∷ []),
)
    ∷ (Purge 2 ook_key a, books (book 1 1 (first_row ∷ []) ∷ book 2 1 (row ook_key [] [] (a ∷ []) 1 ∷ []) ∷ []))
    ∷ (Purge 1 ook_key a, books (book 1 2 (first_row ∷ row ook_key [] [] (a ∷ []) 2 ∷ []) ∷ []))
    ∷ [])
unfolding lib.Utf8.encode
states_after_more = refl

-- these states are valid
states_are_valid : Gives is_valid
    ((first_state, true) ∷ (second_state, true) ∷ (restored_state, true) ∷ (purged_state, true) ∷ [])
unfolding lib.Utf8.encode
states_are_valid = refl

-- a look-up and a completion are answered for their own typist, key, okurigana and prefix
lookups : Gives (answer files (books (book 1 1
    (row ook_key (plain (codes "覆") ∷ []) [] [] 1 ∷ row (nasi (codes "かい")) (plain a ∷ []) [] [] 1 ∷ []) ∷ []))) (
    (Lookup 1 ook_key None, replies.Found (plain (codes "覆") ∷ plain (codes "大") ∷ plain (codes "多") ∷ []))
    ∷ (
      Lookup 1 ook_key (Some (codes "く")),
      replies.Found (plain (codes "覆") ∷ plain (codes "多") ∷ plain (codes "大") ∷ []),
    )
    ∷ (Lookup 0 ook_key (Some (codes "く")), replies.Found (plain (codes "多") ∷ plain (codes "大") ∷ []))
    ∷ (Lookup 1 (nasi b) None, replies.Found [])
    ∷ (Complete 1 (codes "か"), replies.Readings (codes "かい" ∷ codes "かんじ" ∷ []))
    ∷ (Complete 0 (codes "か"), replies.Readings (codes "かんじ" ∷ []))
    ∷ (Complete 1 (codes "ぬ"), replies.Readings [])
    ∷ [])
unfolding lib.Utf8.encode
lookups = refl

-- Two typists on the shared book

-- the first learnt 感じ, and the second 幹事 after that, so that the first can't take it back
shared_book : answer files (after (after empty_state (Learn 0 kanji_key None (plain (codes "感じ"))))
    (Learn 0 kanji_key None (plain (codes "幹事"))))
    (Unlearn (record { book = 0; key = kanji_key; stamp = 1; before = None }))
    ≡ replies.Overtaken 2
unfolding lib.Utf8.encode
shared_book = refl

-- Limits

-- a state whose book 1 has this count
abbrev counted_state : ℕ → State
counted_state count = books (book 1 count [] ∷ [])

-- a book with the last count learns, purges and annotates nothing more
last_counts : Gives2 (λ count call. answer files (counted_state count) call) ((
  18446744073709551614,
  learn_kanji,
  replies.Learned (record { book = 1; key = kanji_key; stamp = 18446744073709551615; before = None }),
)
    ∷ (18446744073709551615, learn_kanji, replies.StampsEnd)
    ∷ (18446744073709551614, purge_kanji, replies.Purged)
    ∷ (18446744073709551615, purge_kanji, replies.StampsEnd)
    ∷ (18446744073709551614, annotate_kanji, replies.Annotated)
    ∷ (18446744073709551615, annotate_kanji, replies.StampsEnd)
    ∷ [])
unfolding lib.Utf8.encode
last_counts = refl

-- a purge or an annotation that would change nothing is told so also at the last count
unchanged_at_last_count : answer files
    (books (book 1 18446744073709551615 (row kanji_key [] [] (codes "漢字" ∷ []) 2 ∷ []) ∷ [])) purge_kanji
    ≡ replies.Unchanged
unchanged_at_last_count = refl

noted_at_last_count : answer files (books (book 1 18446744073709551615 (noted_row 2 ∷ []) ∷ [])) annotate_kanji
    ≡ replies.Unchanged
noted_at_last_count = refl

-- a line may have 65,535 bytes and no more, and the end of the stamps is told first
module _ (long : Row) (reply : Reply) where
  longest_line : line_length long ≡ 65535 → change_reply 1 long reply ≡ reply
  longest_line e = rw e

  too_long_line : line_length long ≡ 65536 → change_reply 1 long reply ≡ replies.TooBig 65536
  too_long_line e = rw e

  too_long_at_last_count : line_length long ≡ 65536 → change_reply 18446744073709551615 long reply ≡ replies.StampsEnd
  too_long_at_last_count e = refl

  -- the length of a line is told up to the last number
  length_told : byte_len (canonical long) ≡ 18446744073709551616 → line_length long ≡ 18446744073709551615
  length_told e = rw e

-- the line that counts is that of the row after the call, with all that the row before had
module _ (long : List ℕ) where
  abbrev long_row : Row
  long_row = row ook_key (plain a ∷ plain long ∷ []) (block (codes "く") (long ∷ []) ∷ []) (a ∷ []) 1

  abbrev long_state : State
  long_state = books (book 1 1 (long_row ∷ []) ∷ [])

  too_long_learning : line_length (learnt (Some long_row) ook_key (Some (codes "く")) (plain a) 2) ≡ 65536
      → answer files long_state (Learn 1 ook_key (Some (codes "く")) (plain a)) ≡ replies.TooBig 65536
  too_long_learning e = rw e

  too_long_purge : line_length (purged (Some long_row) ook_key a 2) ≡ 65536
      → answer files long_state (Purge 1 ook_key a) ≡ replies.TooBig 65536
  too_long_purge e = rw e

  too_long_annotation : line_length (annotated (Some long_row) ook_key (noted a b) 2) ≡ 65536
      → answer files long_state (Annotate 1 ook_key (noted a b)) ≡ replies.TooBig 65536
  too_long_annotation e = rw e

-- Calls

-- a call speaks of the row of its key in its book, where it may change one
rows_spoken_of : Gives (λ call. speaks_of call 1 (nasi a)) (
    (Learn 1 (nasi a) None (plain a), true) ∷ (Learn 2 (nasi a) None (plain a), false)
    ∷ (Learn 1 (nasi b) None (plain a), false)
    ∷ (Purge 1 (nasi a) a, true) ∷ (Purge 2 (nasi a) a, false) ∷ (Purge 1 (nasi b) a, false)
    ∷ (Annotate 1 (nasi a) (noted a b), true) ∷ (Annotate 2 (nasi a) (noted a b), false)
    ∷ (Annotate 1 (nasi b) (noted a b), false)
    ∷ (Unlearn (record { book = 1; key = nasi a; stamp = 1; before = None }), true)
    ∷ (Unlearn (record { book = 2; key = nasi a; stamp = 1; before = None }), false)
    ∷ (Unlearn (record { book = 1; key = nasi b; stamp = 1; before = None }), false)
    ∷ (Lookup 1 (nasi a) None, false) ∷ (Complete 1 a, false)
    ∷ [])
rows_spoken_of = refl

-- the word of a purge is a word
fit_calls : Gives is_fit ((Purge 1 (nasi a) [], false) ∷ (Purge 1 (nasi a) a, true) ∷ (
  Learn 1 (nasi a) None (plain []),
  true,
) ∷ (Annotate 1 (nasi a) (plain []), true) ∷ (Lookup 1 (nasi []) None, true) ∷ (Complete 1 [], true) ∷ (
  Unlearn second,
  true,
) ∷ [])
unfolding lib.Utf8.encode
fit_calls = refl

-- the parts of a call are valid, and so is what was learnt
valid_calls : Gives is_call (
    (Lookup 1 (nasi a) None, true) ∷ (Lookup 1 (nasi []) None, false) ∷ (Lookup 1 (nasi a) (Some (codes "く")), true)
    ∷ (Lookup 1 (nasi a) (Some a), false)
    ∷ (Complete 1 [], true)
    ∷ (Learn 1 (nasi a) None (plain a), true) ∷ (Learn 1 (nasi []) None (plain a), false)
    ∷ (Learn 1 (nasi a) (Some a) (plain a), false) ∷ (Learn 1 (nasi a) None (plain []), false)
    ∷ (Purge 1 (nasi a) [], true) ∷ (Purge 1 (nasi []) a, false)
    ∷ (Annotate 1 (nasi a) (noted a b), true) ∷ (Annotate 1 (nasi []) (noted a b), false)
    ∷ (Annotate 1 (nasi a) (plain []), false)
    ∷ (Unlearn (record { book = 1; key = nasi a; stamp = 2; before = None }), true)
    ∷ (Unlearn (record { book = 1; key = nasi []; stamp = 2; before = None }), false)
    ∷ (
      Unlearn (record { book = 1; key = nasi a; stamp = 2; before = Some (row (nasi a) (plain a ∷ []) [] [] 1) }),
      true,
    )
    ∷ (
      Unlearn (record { book = 1; key = nasi a; stamp = 2; before = Some (row (nasi a) (plain a ∷ []) [] [] 2) }),
      false,
    )
    ∷ (
      Unlearn (record { book = 1; key = nasi a; stamp = 2; before = Some (row (nasi a) (plain [] ∷ []) [] [] 1) }),
      false,
    )
    ∷ [])
unfolding lib.Utf8.encode
valid_calls = refl

-- Answers

-- one call of each kind
abbrev calls : List Call
calls =
    Lookup 1 (nasi a) None ∷ Complete 1 a ∷ Learn 1 (nasi a) None (plain a) ∷ Purge 1 (nasi a) a
    ∷ Annotate 1 (nasi a) (noted a b) ∷ Unlearn second ∷ []

-- which of these calls may be answered so
abbrev answered_by : Answer → List Bool
answered_by told = map (λ call. may_answer call told) calls

-- a look-up, a completion, a learning, a purge, an annotation and a taking back each have their replies, and only the
-- last four are refused for more than memory
possible_answers : Gives answered_by (
    (Done (replies.Found []), true ∷ false ∷ false ∷ false ∷ false ∷ false ∷ [])
    ∷ (Done (replies.Readings (a ∷ b ∷ [])), false ∷ true ∷ false ∷ false ∷ false ∷ false ∷ [])
    ∷ (Done (replies.Readings (a ∷ [] ∷ [])), false ∷ false ∷ false ∷ false ∷ false ∷ false ∷ [])
    ∷ (Done (replies.Learned second), false ∷ false ∷ true ∷ false ∷ false ∷ false ∷ [])
    ∷ (Done replies.Purged, false ∷ false ∷ false ∷ true ∷ false ∷ false ∷ [])
    ∷ (Done replies.Unchanged, false ∷ false ∷ false ∷ true ∷ true ∷ false ∷ [])
    ∷ (Done replies.Annotated, false ∷ false ∷ false ∷ false ∷ true ∷ false ∷ [])
    ∷ (Done replies.Restored, false ∷ false ∷ false ∷ false ∷ false ∷ true ∷ [])
    ∷ (Done (replies.Overtaken 1), false ∷ false ∷ false ∷ false ∷ false ∷ true ∷ [])
    ∷ (Done (replies.TooBig 65536), false ∷ false ∷ true ∷ true ∷ true ∷ false ∷ [])
    ∷ (Done replies.StampsEnd, false ∷ false ∷ true ∷ true ∷ true ∷ false ∷ [])
    ∷ (Refused Memory, true ∷ true ∷ true ∷ true ∷ true ∷ true ∷ [])
    ∷ (Refused Disk, false ∷ false ∷ true ∷ true ∷ true ∷ true ∷ [])
    ∷ (Refused (JournalFull 18 49 64), false ∷ false ∷ true ∷ true ∷ true ∷ true ∷ [])
    ∷ [])
unfolding lib.Utf8.encode
possible_answers = refl

-- which calls change a state
moving_calls : Gives2 moves (
    (first_state, Lookup 1 kanji_key None, false) ∷ (first_state, Complete 1 a, false)
    ∷ (first_state, learn_kanji, true) ∷ (first_state, purge_kanji, true)
    ∷ (purged_state, purge_kanji, false) ∷ (first_state, annotate_kanji, true) ∷ (noted_state, annotate_kanji, false)
    ∷ (first_state, Unlearn first, true) ∷ (first_state, Unlearn second, false)
    ∷ (counted_state 18446744073709551615, learn_kanji, false)
    ∷ [])
unfolding lib.Utf8.encode
moving_calls = refl
