-- The conversion of a reading and its completion: what is asked of the dictionary, and what the answers come to.
use Rattle.std.specs.Prelude.{ℕ, ◌==◌, if◌then◌else◌, Option, None, Some, Result, Ok, Err, List, [], ◌∷◌, ◌++◌, length}
use Rattle.std.specs.Char.{is_ascii_digit}
use Rattle.std.specs.List.{list_any}
use Rattle.numeric_entries.specs.Forms.{asks_lookup}
use Rattle.numeric_entries.specs.Numbers.{numbers_of}
use Rattle.skk_calls.specs.declared.answer.Answer.{Answer}
use Rattle.skk_calls.specs.declared.answer.Answer.TheVariants.{Done, Refused}
use Rattle.skk_calls.specs.declared.answer.Refusal.{Refusal}
use Rattle.skk_calls.specs.declared.answer.Reply.TheVariants as replies
use Rattle.skk_calls.specs.declared.call.Call.{Call}
use Rattle.skk_calls.specs.declared.call.Call.TheVariants.{Lookup, Complete}
use Rattle.skk_calls.specs.declared.part.Part.TheVariants.{Nasi}
use Rattle.skk_calls.specs.Interactions.{Interaction, ends, asks, followed_by}
use Rattle.skk_calls.specs.Rows.{Cand, RowKey}
use Rattle.reading_state.specs.Keys.{key_of, okuri_of}
use Rattle.reading_state.specs.Puts.{Reading}
use Rattle.reading_state.specs.Reading.{completed}
use Rattle.candidate_state.specs.declared.shown.BothFound.{BothFound}
use Rattle.candidate_state.specs.declared.shown.Found.{Found}
use Rattle.candidate_state.specs.Picking.{new_picking}
use Rattle.candidate_state.specs.Shown.{Shown, shown_plain, shown_numbers}
use Rattle.session_machine.specs.declared.first_words.FirstWords.{FirstWords}
use Rattle.session_machine.specs.declared.first_words.FirstWords.TheVariants.{Words, Stopped}
use Rattle.session_machine.specs.declared.frame.FrameState.TheVariants as states
use Rattle.session_machine.specs.declared.session_notice.SessionNotice.TheVariants as told
use Rattle.session_machine.specs.declared.frame.Waiting.TheVariants as waits
use Rattle.session_machine.specs.Meanings.{Meaning, becomes}
use Rattle.session_machine.specs.ReadingParts.{number_key_of}
use Rattle.session_machine.specs.Registrations.{registering}
use Rattle.session_machine.specs.Session.{Session, with_state, noting}

-- a session whose reading stays open, with the refusal of what it asked, where it was refused
abbrev pub left_open : Session → Reading → Option Refusal → Session
left_open session reading None = with_state session (states.Reading reading)
left_open session reading (Some refusal) =
    record (with_state session (states.Reading reading)) { notice = told.Refused refusal }

-- Conversion

-- what candidates come to that were found for a reading: the first of them is shown; where there are none a
-- registration opens
abbrev pub pick : Session → Reading → List Shown → Meaning
pick session reading shown =
    if length shown == 0 then becomes (registering session (waits.Reading reading))
    else becomes (with_state session (states.Picking (record { reading = reading; picking = new_picking shown })))

-- the candidates that an answer found; or else the refusal, where it is one
abbrev pub found_by : Answer → Result (List Cand) (Option Refusal)
found_by (Done (replies.Found found)) = Ok found
found_by (Done reply) = Err None
found_by (Refused refusal) = Err (Some refusal)

-- what was found of a key, or else the refusal
abbrev pub key_found : RowKey → Result (List Cand) (Option Refusal) → Result Found (Option Refusal)
key_found key (Ok cands) = Ok (record { key = key; cands = cands })
key_found key (Err refusal) = Err refusal

-- a key is looked up with a reading's okurigana
abbrev pub key_asked : ℕ → Reading → RowKey → Interaction (Result Found (Option Refusal))
key_asked typist reading key =
    asks (Lookup typist key (okuri_of reading)) (λ answer. ends (key_found key (found_by answer)))

-- what is done with what was found for a reading; where nothing was found of its kind the reading stays open
abbrev pub with_found : Session → Reading → (Found → Meaning) → Result Found (Option Refusal) → Meaning
with_found session reading behind (Ok found) = behind found
with_found session reading behind (Err refusal) = becomes (left_open session reading refusal)

-- what the look-up of a key of a reading comes to, by what is done with what is found
abbrev pub looked_up : Session → Reading → RowKey → (Found → Meaning) → Meaning
looked_up session reading key behind =
    followed_by (key_asked session.typist reading key) (with_found session reading behind)

-- the look-up of a number by a typist, as a reading without okurigana
abbrev pub number_look_up : ℕ → List ℕ → Call
number_look_up typist number = Lookup typist (record { part = Nasi; reading = number }) None

-- what stands for a number that was looked up: the word of the first candidate, or else its digits
abbrev pub first_word : List ℕ → List Cand → List ℕ
first_word number [] = number
first_word number (cand ∷ cands) = cand.word

-- what the look-up of a number comes to by what it found, and by what is done with the word that stands for the number;
-- the words stop where it found nothing of its kind
abbrev pub number_looked_up : List ℕ → (List ℕ → Interaction FirstWords) → Result (List Cand) (Option Refusal)
    → Interaction FirstWords
number_looked_up number behind (Ok found) = behind (first_word number found)
number_looked_up number behind (Err refusal) = ends (Stopped refusal)

-- what the look-ups of these numbers by a typist come to, one after another, where those before them gave these words
abbrev pub first_words : ℕ → List (List ℕ) → List (List ℕ) → Interaction FirstWords
first_words typist words [] = ends (Words words)
first_words typist words (number ∷ numbers) =
    asks (number_look_up typist number)
    (λ answer. number_looked_up number (λ word. first_words typist (words ++ word ∷ []) numbers) (found_by answer))

-- what comes to be where the numbers of a reading were looked up: all that was found is shown, or the reading stays
abbrev pub filled : Session → Reading → BothFound → FirstWords → Meaning
filled session reading found (Words words) =
    pick session reading (shown_numbers found (numbers_of reading.text) words)
filled session reading found (Stopped refusal) = becomes (left_open session reading refusal)

-- what comes to be where both look-ups of a reading with numbers were answered: where a word asks for it each number is
-- looked up; or else all that was found is shown
abbrev pub both_found : Session → Reading → BothFound → Meaning
both_found session reading found =
    let numbers = numbers_of reading.text in
    if list_any (λ cand. asks_lookup cand.word) found.numbered.cands
    then followed_by (first_words session.typist [] numbers) (filled session reading found)
    else pick session reading (shown_numbers found numbers numbers)

-- what comes to be of a reading with numbers, of which this was found as it is: its number key is looked up too
abbrev pub numbered : Session → Reading → Found → Meaning
numbered session reading plain =
    looked_up session reading (number_key_of reading)
    (λ numbered. both_found session reading (record { plain = plain; numbered = numbered }))

-- what comes to be of what was found for a reading as it is: where it has numbers more is looked up; or else it is
-- shown
abbrev pub plain_found : Session → Reading → Found → Meaning
plain_found session reading plain =
    if list_any is_ascii_digit reading.text then numbered session reading plain
    else pick session reading (shown_plain plain)

-- what the conversion of a reading comes to
abbrev pub converted : Session → Reading → Meaning
converted session reading = looked_up session reading (key_of reading) (plain_found session reading)

-- Completion

-- what the answer to a reading's completion comes to: the first of the readings replaces it, and all are kept, or there
-- are none; where it was refused the reading stays
abbrev pub completions_answered : Session → Reading → Answer → Meaning
completions_answered session reading (Done (replies.Readings readings)) =
    let done = completed reading readings in
    becomes (noting (with_state session (states.Reading done.reading)) done.notice)
completions_answered session reading (Done reply) = becomes (left_open session reading None)
completions_answered session reading (Refused refusal) = becomes (left_open session reading (Some refusal))

-- what the completion of a reading comes to: it is asked for as it stands
abbrev pub completing : Session → Reading → Meaning
completing session reading = asks (Complete session.typist reading.text) (completions_answered session reading)
