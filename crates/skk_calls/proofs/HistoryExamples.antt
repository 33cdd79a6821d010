-- Which room calls need, which histories are legal, and what histories come to.
use Rattle.std.proofs.Common.{◌≡◌, ℕ, true, false, List, [], ◌∷◌, ◌++◌, codes, refl, subst, ap, Some, None, arith}
use Rattle.std.proofs.lemmas.Bool.{false≢true}
use Rattle.skk_calls.specs.declared.answer.Answer.{Answer}
use Rattle.skk_calls.specs.declared.answer.Answer.TheVariants.{Done, Refused}
use Rattle.skk_calls.specs.declared.answer.Refusal.TheVariants.{Memory, Disk, JournalFull}
use Rattle.skk_calls.specs.declared.answer.Reply.{Reply}
use Rattle.skk_calls.specs.declared.answer.Reply.TheVariants as replies
use Rattle.skk_calls.specs.declared.call.Call.{Call}
use Rattle.skk_calls.specs.declared.call.Call.TheVariants.{Lookup, Complete, Learn, Purge, Annotate, Unlearn}
use Rattle.skk_calls.specs.declared.chronicle.Noted.{Noted}
use Rattle.skk_calls.specs.declared.chronicle.Noted.TheVariants.{Opened, Entered}
use Rattle.skk_calls.specs.declared.entry.Entry.{Entry}
use Rattle.skk_calls.specs.Chronicles.{is_chronicle, is_chronicle_or_none, noted, opening_of, history_of}
use Rattle.skk_calls.specs.Dictionary.{answer}
use Rattle.skk_calls.specs.Histories.{Opening, LacksRoom, IsLegalAnswer, IsLegal, after_entry, state_after}
use Rattle.skk_calls.specs.Histories.{changes, after_calls, need, tight, dialog, in_doubt}
use Rattle.skk_calls.specs.Histories.{states_left}
use Rattle.skk_calls.specs.Openings.{fresh_opening, said_in, are_of_one, is_reply, are_served}
use Rattle.skk_calls.specs.Rows.{Row, Learned}
use Rattle.skk_calls.specs.States.{State, empty_state}
use Rattle.skk_calls.specs.Tallies.{Tally, empty_tally, tally_with, tally_of}
use Rattle.skk_calls.proofs.AnswerExamples.{learn_kanji, annotate_kanji, first_row, first_state}
use Rattle.skk_calls.proofs.Samples.{Gives, Gives2, plain, nasi, row, book, books, files, kanji_key, a}

-- Room in the learned file

-- learning 東京都葛飾区 in book 1, and the row that it makes there after another learning
abbrev learn_katsushika : Call
learn_katsushika = Learn 1 (nasi (codes "125")) None (plain (codes "東京都葛飾区"))

abbrev katsushika_row : Row
katsushika_row = row (nasi (codes "125")) (plain (codes "東京都葛飾区") ∷ []) [] [] 2

-- what was learnt first
abbrev first : Learned
first = record { book = 1; key = kanji_key; stamp = 1; before = None }

-- a row's record has 25 bytes before the line, that of a row that is taken out 17 before the reading, and that of a
-- candidate with its note 18 before the reading and the item; where there is no row an annotation needs the row's
needs_of_calls : Gives2 need (
    (empty_state, learn_kanji, 43) ∷ (empty_state, learn_katsushika, 49)
    ∷ (first_state, Learn 1 kanji_key None (plain a), 45) ∷ (first_state, Learn 2 kanji_key None (plain a), 38)
    ∷ (first_state, Purge 1 kanji_key (codes "漢字"), 67) ∷ (first_state, Purge 2 kanji_key a, 62)
    ∷ (first_state, Purge 1 kanji_key a, 69)
    ∷ (first_state, annotate_kanji, 41) ∷ (first_state, Annotate 1 kanji_key (plain a), 28)
    ∷ (empty_state, annotate_kanji, 51) ∷ (first_state, Annotate 2 kanji_key (plain a), 38)
    ∷ (first_state, Unlearn first, 26)
    ∷ (first_state, Unlearn (record { book = 1; key = kanji_key; stamp = 2; before = Some first_row }), 43)
    ∷ (first_state, Lookup 1 kanji_key None, 0) ∷ (first_state, Complete 1 a, 0)
    ∷ [])
unfolding lib.Utf8.encode
needs_of_calls = refl

-- Histories

-- that learning as an entry of caller 1
abbrev learned_kanji : Answer
learned_kanji = Done (replies.Learned first)

abbrev learned_first : Entry
learned_first = record { number = 1; call = learn_kanji; answer = learned_kanji }

-- the other learning as an entry of caller 2
abbrev learned_second : Entry
learned_second = record {
  number = 2;
  call = learn_katsushika;
  answer = Done (replies.Learned (record { book = 1; key = nasi (codes "125"); stamp = 2; before = None }));
}

-- both rows
abbrev second_state : State
second_state = books (book 1 2 (katsushika_row ∷ first_row ∷ []) ∷ [])

-- taking the first learning back, as an entry of caller 1
abbrev took_back : Entry
took_back = record { number = 1; call = Unlearn first; answer = Done replies.Restored }

-- a look-up of caller 1, and what it finds
abbrev lookup_kanji : Call
lookup_kanji = Lookup 1 kanji_key None

abbrev found_kanji : Answer
found_kanji = Done (answer files empty_state lookup_kanji)

abbrev looked_up : Entry
looked_up = record { number = 1; call = lookup_kanji; answer = found_kanji }

-- a learning of caller 2 that the disk failed
abbrev failed : Entry
failed = record { number = 2; call = learn_katsushika; answer = Refused Disk }

-- a learning of caller 2 for which memory was lacking, and one for which the learned file of 64 bytes was full
abbrev lacked : Entry
lacked = record { number = 2; call = learn_katsushika; answer = Refused Memory }

abbrev full : Entry
full = record { number = 2; call = learn_katsushika; answer = Refused (JournalFull 61 49 64) }

-- caller 1 looks up, caller 2 fails, caller 1 learns, and caller 2 fails again
abbrev history : List Entry
history = looked_up ∷ failed ∷ learned_first ∷ failed ∷ []

-- the state after a history
states_after : Gives (state_after empty_state) (
    ([], empty_state) ∷ (history, first_state) ∷ (learned_first ∷ learned_second ∷ [], second_state)
    ∷ (lacked ∷ full ∷ failed ∷ [], empty_state)
    ∷ (learned_first ∷ took_back ∷ [], books (book 1 1 [] ∷ []))
    ∷ [])
unfolding lib.Utf8.encode
states_after = refl

-- 18 bytes without a book, and more for the records of each row, or of a count where a book has none
tight_ends : Gives tight (
    (empty_state, 18) ∷ (books (book 1 1 [] ∷ []), 34) ∷ (first_state, 61) ∷ (second_state, 110)
    ∷ (books (book 1 2 (katsushika_row ∷ first_row ∷ []) ∷ book 2 1 [] ∷ book 3 1 (first_row ∷ []) ∷ []), 169)
    ∷ [])
unfolding lib.Utf8.encode
tight_ends = refl

-- the tight end after a history: what was taken back leaves no more than a count
tight_after : Gives (λ (entries : List Entry). tight (state_after empty_state entries)) (
    ([], 18) ∷ (history, 61) ∷ (learned_first ∷ learned_second ∷ [], 110) ∷ (learned_first ∷ took_back ∷ [], 34)
    ∷ (looked_up ∷ lacked ∷ full ∷ failed ∷ [], 18)
    ∷ [])
unfolding lib.Utf8.encode
tight_after = refl

-- the calls that changed something, the state that they make, and the bytes that they need, each at its own state
calls_that_changed : Gives changes (
    ([], []) ∷ (history, learn_kanji ∷ []) ∷ (
      learned_first ∷ looked_up ∷ learned_second ∷ took_back ∷ full ∷ [],
      learn_kanji ∷ learn_katsushika ∷ Unlearn first ∷ [],
    )
    ∷ [])
calls_that_changed = refl

states_of_calls : Gives (after_calls empty_state)
    (([], empty_state) ∷ (learn_kanji ∷ learn_katsushika ∷ [], second_state) ∷ [])
unfolding lib.Utf8.encode
states_of_calls = refl

-- what each caller called, and was answered
dialogs : Gives (dialog history) (
    (1, (lookup_kanji, found_kanji) ∷ (learn_kanji, learned_kanji) ∷ [])
    ∷ (2, (learn_katsushika, Refused Disk) ∷ (learn_katsushika, Refused Disk) ∷ [])
    ∷ (3, [])
    ∷ [])
dialogs = refl

-- a change that a disk failed is in doubt, until another change is done; a look-up and other refusals end no doubt
doubts : Gives (in_doubt []) (
    ([], []) ∷ (looked_up ∷ failed ∷ [], learn_katsushika ∷ [])
    ∷ (failed ∷ looked_up ∷ lacked ∷ full ∷ [], learn_katsushika ∷ [])
    ∷ (
      record { number = 1; call = learn_kanji; answer = Refused Disk } ∷ failed ∷ [],
      learn_kanji ∷ learn_katsushika ∷ [],
    )
    ∷ (looked_up ∷ failed ∷ learned_first ∷ [], []) ∷ (failed ∷ took_back ∷ [], [])
    ∷ (history, learn_katsushika ∷ []) ∷ (lacked ∷ full ∷ [], [])
    ∷ [])
doubts = refl

-- without doubt a stop leaves the state after the history,
-- and with changes in doubt it may leave each of them done, too
states_after_stop : Gives (states_left empty_state) (
    ([], empty_state ∷ []) ∷ (looked_up ∷ failed ∷ learned_first ∷ [], first_state ∷ [])
    ∷ (history, first_state ∷ second_state ∷ [])
    ∷ (
      record { number = 1; call = learn_kanji; answer = Refused Disk } ∷ failed ∷ [],
      empty_state ∷ first_state ∷ books (book 1 1 (record katsushika_row { stamp = 1 } ∷ []) ∷ []) ∷ [],
    )
    ∷ [])
unfolding lib.Utf8.encode
states_after_stop = refl

-- what a history came to
tallies : Gives (tally_of empty_state) (
    ([], record { learned = 0; restored = 0; rows = 0; memory = false; disk = false; full = false })
    ∷ (history, record { learned = 1; restored = 0; rows = 1; memory = false; disk = true; full = false })
    ∷ (
      learned_first ∷ learned_second ∷ took_back ∷ lacked ∷ [],
      record { learned = 2; restored = 1; rows = 1; memory = true; disk = false; full = false },
    )
    ∷ (
      looked_up ∷ full ∷ learned_first ∷ [],
      record { learned = 1; restored = 0; rows = 1; memory = false; disk = false; full = true },
    )
    ∷ [])
unfolding lib.Utf8.encode
tallies = refl

-- nothing came of no calls
empty_tallied : tally_of empty_state [] ≡ empty_tally
empty_tallied = refl

-- a tally to which one more answer is counted, of which the learnings have ended
abbrev tally_so_far : Tally
tally_so_far =
    record { learned = 18446744073709551615; restored = 3; rows = 7; memory = false; disk = false; full = false }

answers_counted : Gives (tally_with tally_so_far) (
    (learned_kanji, tally_so_far) ∷ (Done replies.Restored, record tally_so_far { restored = 4 })
    ∷ (Done replies.Purged, tally_so_far)
    ∷ (Refused Memory, record tally_so_far { memory = true }) ∷ (Refused Disk, record tally_so_far { disk = true })
    ∷ (Refused (JournalFull 61 49 64), record tally_so_far { full = true })
    ∷ [])
answers_counted = refl

-- the rows of all books are counted
rows_counted : (tally_of (books (book 0 2 (first_row ∷ katsushika_row ∷ []) ∷ book 1 1 (first_row ∷ []) ∷ [])) []).rows
    ≡ 3
rows_counted = refl

-- Legal answers

-- a learned file of at most 64 bytes that ends at 18, over the empty state, and one of other limits
abbrev opening_of_limit : ℕ → Opening
opening_of_limit limit = record { files = files; state = empty_state; end = 18; limit = limit; time = 3; faults = 0 }

abbrev opening : Opening
opening = opening_of_limit 64

-- 49 bytes behind the first 18 pass 66 bytes, but not 67
full_is_legal : IsLegalAnswer LacksRoom (opening_of_limit 66) empty_state learn_katsushika
    (Refused (JournalFull 18 49 66))
unfolding lib.Utf8.encode
full_is_legal = (refl, (refl, refl, refl, omega arith))

room_for_all : IsLegalAnswer LacksRoom (opening_of_limit 67) empty_state learn_katsushika
    (Refused (JournalFull 18 49 67)) → ⊥
unfolding lib.Utf8.encode
room_for_all h = omega (arith, h.1.3)

-- the file is told to be full at its own end, need and limit alone, and for a change alone
other_end : IsLegalAnswer LacksRoom opening empty_state learn_katsushika (Refused (JournalFull 19 49 64)) → ⊥
other_end h = let e : 19 ≡ 18 = h.1.0 in omega (arith, e)

other_need : IsLegalAnswer LacksRoom opening empty_state learn_katsushika (Refused (JournalFull 18 48 64)) → ⊥
unfolding lib.Utf8.encode
other_need h = let e : 48 ≡ 49 = h.1.1 in omega (arith, e)

other_limit : IsLegalAnswer LacksRoom opening empty_state learn_katsushika (Refused (JournalFull 18 49 65)) → ⊥
other_limit h = let e : 65 ≡ 64 = h.1.2 in omega (arith, e)

no_change : IsLegalAnswer LacksRoom (opening_of_limit 17) empty_state lookup_kanji (Refused (JournalFull 18 0 17))
    → ⊥
no_change h = false≢true h.0

-- the disk may fail a change alone
disk_is_legal : IsLegalAnswer LacksRoom opening empty_state learn_kanji (Refused Disk)
unfolding lib.Utf8.encode
disk_is_legal = refl

disk_is_not_legal : IsLegalAnswer LacksRoom opening empty_state lookup_kanji (Refused Disk) → ⊥
disk_is_not_legal h = false≢true h

-- memory may lack for each call
memory_is_legal : IsLegalAnswer LacksRoom opening empty_state lookup_kanji (Refused Memory)
memory_is_legal = tt

-- a reply is the dictionary's, over the files, and no other
reply_is_legal : IsLegalAnswer LacksRoom opening empty_state lookup_kanji found_kanji
reply_is_legal = refl

other_reply : IsLegalAnswer LacksRoom opening empty_state lookup_kanji (Done (replies.Found [])) → ⊥
other_reply h = cc

-- Legal histories

-- each answer is legal at the state that the answers before it leave
abbrev IsLegalFrom : Opening → State → List Entry → Type 0
IsLegalFrom over state [] = Unit {0}
IsLegalFrom over state (entry ∷ rest) =
    IsLegalAnswer LacksRoom over state entry.call entry.answer × IsLegalFrom over (after_entry state entry) rest

-- a history that is legal answer by answer is legal
legal_by_answers : (over : Opening) (state : State) (whole : List Entry) → IsLegalFrom over state whole
    → (prefix : List Entry) (entry : Entry) (rest : List Entry) → whole ≡ prefix ++ entry ∷ rest
    → IsLegalAnswer LacksRoom over (state_after state prefix) entry.call entry.answer
legal_by_answers over state [] legal [] entry rest e = cc
legal_by_answers over state [] legal (p ∷ prefix) entry rest e = cc
legal_by_answers over state (first_entry ∷ whole) legal [] entry rest e =
    let same : first_entry ≡ entry = cc in
    subst (λ (x : Entry). IsLegalAnswer LacksRoom over state x.call x.answer) same legal.0
legal_by_answers over state (first_entry ∷ whole) legal (p ∷ prefix) entry rest e =
    let same : first_entry ≡ p = cc in
    let behind : whole ≡ prefix ++ entry ∷ rest = cc in
    subst (λ (x : Entry). IsLegalAnswer LacksRoom over (state_after (after_entry state x) prefix) entry.call
    entry.answer) same (legal_by_answers over (after_entry state first_entry) whole legal.1 prefix entry rest behind)

-- a learning, and behind it another for which the file is full: what it holds by then ends at 61
legal_history : IsLegal opening (learned_first ∷ full ∷ [])
unfolding lib.Utf8.encode
legal_history = legal_by_answers opening empty_state (learned_first ∷ full ∷ []) (
  refl,
  ((refl, (refl, refl, refl, omega arith)), tt),
)

-- two learnings, where the stamp of the second is the next one
legal_learnings : IsLegal opening (learned_first ∷ learned_second ∷ [])
unfolding lib.Utf8.encode
legal_learnings = legal_by_answers opening empty_state (learned_first ∷ learned_second ∷ []) (refl, (refl, tt))

-- the stamp that a reply tells
abbrev stamp_told : Reply → ℕ
stamp_told (replies.Learned learned) = learned.stamp
stamp_told reply = 0

-- the second is not legal first, nor is the full file
not_legal_first : IsLegal opening (learned_second ∷ []) → ⊥
unfolding lib.Utf8.encode
not_legal_first legal = let told : 2 ≡ 1 = ap stamp_told (legal [] learned_second [] refl) in omega (arith, told)

not_full_first : IsLegal opening (full ∷ []) → ⊥
not_full_first legal = let told : 61 ≡ 18 = (legal [] full [] refl).1.0 in omega (arith, told)

-- nor is the first legal twice: a history is judged at the state of its place
not_legal_twice : IsLegal opening (learned_first ∷ learned_first ∷ []) → ⊥
unfolding lib.Utf8.encode
not_legal_twice legal =
    let told : 1 ≡ 2 = ap stamp_told (legal (learned_first ∷ []) learned_first [] refl) in omega (arith, told)

-- Chronicles

-- an opening, two entries, and what they are noted as
abbrev noted_opening : Noted
noted_opening = Opened files first_state 61 64 3 0

abbrev noted_look_up : Noted
noted_look_up = Entered 1 lookup_kanji found_kanji 5 1

abbrev noted_failure : Noted
noted_failure = Entered 2 learn_katsushika (Refused Disk) 6 2

-- an opening stands first and nowhere else
chronicles : Gives is_chronicle (
    ([], false) ∷ (noted_opening ∷ [], true) ∷ (noted_opening ∷ noted_look_up ∷ noted_failure ∷ [], true)
    ∷ (noted_look_up ∷ [], false) ∷ (noted_look_up ∷ noted_opening ∷ [], false)
    ∷ (noted_opening ∷ noted_opening ∷ [], false) ∷ (noted_opening ∷ noted_look_up ∷ noted_opening ∷ [], false)
    ∷ [])
chronicles = refl

traces : Gives is_chronicle_or_none ((None, true) ∷ (Some [], false) ∷ (Some (noted_opening ∷ []), true) ∷ [])
traces = refl

lists_of_traces : Gives noted ((None, []) ∷ (Some (noted_opening ∷ []), noted_opening ∷ []) ∷ [])
lists_of_traces = refl

-- its opening, and its history
openings : Gives opening_of (
    ([], None) ∷ (noted_look_up ∷ noted_opening ∷ [], None)
    ∷ (
      noted_opening ∷ noted_look_up ∷ [],
      Some (record { files = files; state = first_state; end = 61; limit = 64; time = 3; faults = 0 }),
    )
    ∷ [])
openings = refl

histories : Gives history_of
    (([], []) ∷ (noted_opening ∷ noted_look_up ∷ noted_failure ∷ [], looked_up ∷ failed ∷ []) ∷ [])
histories = refl

-- an answer is a reply, or a refusal
replies_told : Gives is_reply (
    (found_kanji, true) ∷ (learned_kanji, true) ∷ (Refused Memory, false) ∷ (Refused Disk, false)
    ∷ (Refused (JournalFull 18 49 64), false)
    ∷ [])
replies_told = refl

-- a refusal in a chronicle is seen behind its opening and behind other entries
served : Gives are_served (
    (noted_opening ∷ [], true) ∷ (noted_opening ∷ noted_look_up ∷ [], true)
    ∷ (noted_opening ∷ noted_look_up ∷ noted_failure ∷ [], false)
    ∷ (noted_opening ∷ noted_failure ∷ noted_look_up ∷ [], false)
    ∷ [])
served = refl

-- an entry of another caller than the one with the number 0 is seen
abbrev noted_of : ℕ → Noted
noted_of number = Entered number lookup_kanji found_kanji 3 0

of_one : Gives are_of_one (
    (noted_opening ∷ [], true) ∷ (noted_opening ∷ noted_of 0 ∷ noted_of 0 ∷ [], true)
    ∷ (noted_opening ∷ noted_of 0 ∷ noted_of 1 ∷ [], false) ∷ (noted_opening ∷ noted_of 2 ∷ [], false)
    ∷ [])
of_one = refl

-- each caller's calls are its own
said : Gives2 said_in (
    (noted_opening ∷ noted_of 0 ∷ noted_look_up ∷ [], 0, (lookup_kanji, found_kanji) ∷ [])
    ∷ (noted_opening ∷ noted_of 0 ∷ noted_look_up ∷ noted_failure ∷ [], 2, (learn_katsushika, Refused Disk) ∷ [])
    ∷ (noted_opening ∷ noted_look_up ∷ [], 0, [])
    ∷ [])
said = refl

-- nothing is learnt before a fresh opening, and there is no disk
fresh : fresh_opening files ≡ record { files = files; state = empty_state; end = 0; limit = 0; time = 0; faults = 0 }
fresh = refl
