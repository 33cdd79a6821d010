-- The reading state ▽: what a key does to an open reading.
use Rattle.std.specs.Prelude.{ℕ, suc, ◌-◌, Bool, true, false, ◌&&◌, ◌||◌, ◌==◌, not, nat_le, if◌then◌else◌, Option}
use Rattle.std.specs.Prelude.{None, Some, List, [], ◌∷◌, slice_get}
use Rattle.std.specs.Char.{to_ascii_lowercase}
use Rattle.std.specs.Option.{option_map_or}
use Rattle.skk_text.specs.Characters.{code}
use Rattle.skk_text.specs.Lists.{is_empty}
use Rattle.skk_text.specs.Text.{without_last}
use Rattle.skk_text.specs.declared.key.Key.{Key}
use Rattle.skk_text.specs.declared.key.Key.TheVariants.{Char, Cj, Cg, Bs, Ret, Tab, Undo}
use Rattle.skk_text.specs.declared.notice.Notice.{Notice}
use Rattle.skk_text.specs.declared.notice.Notice.TheVariants as notices
use Rattle.romaji_rules.specs.declared.rule.Rule.{Rule}
use Rattle.romaji_rules.specs.Typed.{fed, flushed, extends_pending}
use Rattle.reading_state.specs.Puts.{BegunOkuri, Completions, Reading, Put, put, later_notice}
use Rattle.reading_state.specs.declared.reading_do.AfterConfirm.{AfterConfirm}
use Rattle.reading_state.specs.declared.reading_do.AfterConfirm.TheVariants.{Nothing, ToAscii, ToWide, OpenReading}
use Rattle.reading_state.specs.declared.reading_do.AfterConfirm.TheVariants.{Newline}
use Rattle.reading_state.specs.declared.reading_do.ReadingDo.{ReadingDo}
use Rattle.reading_state.specs.declared.reading_do.ReadingThen.{ReadingThen}
use Rattle.reading_state.specs.declared.reading_do.ReadingThen.TheVariants.{Stay, Convert, AskCompletions, Drop}
use Rattle.reading_state.specs.declared.reading_do.ReadingThen.TheVariants.{Confirm}

-- a key's step: the reading after it, and what it gives
pub record ReadingStep : Type 0 where
  pub reading : Reading
  pub done : ReadingDo

-- the step to a reading, with a notice, and with what is to be done then
abbrev pub step_to : Reading → Notice → ReadingThen → ReadingStep
step_to reading notice effect = record { reading = reading; done = record { notice = notice; then = effect } }

-- a reading with other letters pending
abbrev pub with_pending : Reading → List ℕ → Reading
with_pending reading pending = record reading { pending = pending }

-- what flushing puts: the hiragana of what is pending, where that is an input, and then nothing is pending
abbrev pub flush : List Rule → Reading → Put
flush rules reading = put (with_pending reading []) (flushed rules reading.pending).hira

-- what a character puts that the rules read: their hiragana
abbrev pub feed : List Rule → Reading → ℕ → Put
feed rules reading c =
    let step = fed rules reading.pending c in
    put (with_pending reading step.pending) step.out.hira

-- whether an okurigana was begun, and has no kana yet
abbrev pub is_empty_okuri : Option BegunOkuri → Bool
is_empty_okuri None = false
is_empty_okuri (Some begun) = is_empty begun.text

-- whether an okurigana was begun, and has a kana
abbrev pub is_filled_okuri : Option BegunOkuri → Bool
is_filled_okuri None = false
is_filled_okuri (Some begun) = not (is_empty begun.text)

-- whether an okurigana is whole: it has a kana, and nothing is pending
abbrev pub is_whole : Reading → Bool
is_whole reading = is_filled_okuri reading.okuri && is_empty reading.pending

-- the step of a character that was put: where an okurigana is whole behind it, the conversion starts
abbrev pub typed_step : Put → ReadingStep
typed_step put = step_to put.reading put.notice (if is_whole put.reading then Convert else Stay)

-- the step of the space behind its flush: it closes an empty reading, gives up an okurigana that has no kana,
-- or converts
abbrev pub space_step : Put → ReadingStep
space_step put =
    if is_empty put.reading.text then step_to put.reading put.notice Drop
    else if is_empty_okuri put.reading.okuri then step_to (record put.reading { okuri = None }) put.notice Stay
    else step_to put.reading put.notice Convert

-- the step that gives out what is pending, and confirms the reading in the frame's kana or in the other
abbrev pub confirm_step : List Rule → Reading → Bool → AfterConfirm → ReadingStep
confirm_step rules reading other after =
    let flush = flush rules reading in
    step_to flush.reading flush.notice (Confirm other after)

-- a put behind another, of which the last notice stands
abbrev pub put_after : Put → Put → Put
put_after first second = record { reading = second.reading; notice = later_notice first.notice second.notice }

-- whether `>` ends a prefix: no okurigana was begun, and behind the flush the reading is not empty
abbrev pub ends_prefix : Option BegunOkuri → Put → Bool
ends_prefix None flush = not (is_empty flush.reading.text)
ends_prefix (Some begun) flush = false

-- the step of `>` at the end of a prefix, behind its flush: it is put, and converted with
abbrev pub prefix_step : Put → ReadingStep
prefix_step flush =
    let whole = put_after flush (put flush.reading (code ">" ∷ [])) in
    step_to whole.reading whole.notice Convert

-- whether a letter is a consonant that stands doubled before an okurigana: none of `a`, `i`, `u`, `e`, `o` and `n`
abbrev pub is_doubled : ℕ → Bool
is_doubled c =
    not (c == code "a" || c == code "i" || c == code "u" || c == code "e" || c == code "o" || c == code "n")

-- whether a letter alone is pending
abbrev pub is_alone : ℕ → List ℕ → Bool
is_alone c [] = false
is_alone c (b ∷ pending) = b == c && is_empty pending

-- a reading with an okurigana begun: its letter, and its first kana
abbrev pub with_okuri : Reading → ℕ → List ℕ → Reading
with_okuri reading letter text = record reading { okuri = Some (record { letter = letter; text = text }) }

-- what a letter puts that begins an okurigana, behind its flush: behind an empty reading it is read as a character
abbrev pub begin_okuri : List Rule → Put → ℕ → Put
begin_okuri rules flush c =
    if is_empty flush.reading.text then put_after flush (feed rules flush.reading c)
    else put_after flush (feed rules (with_okuri flush.reading c []) c)

-- what the lower-case letter of an upper-case one puts: it goes on with an okurigana that was begun; begins one with っ
-- where it stands alone behind a reading already, and is doubled; or else begins one behind what is flushed
abbrev pub put_upper : List Rule → Reading → Option BegunOkuri → ℕ → Put
put_upper rules reading None c =
    if is_alone c reading.pending && is_doubled c && not (is_empty reading.text)
    then record { reading = with_okuri reading c (code "っ" ∷ []); notice = notices.Empty }
    else begin_okuri rules (flush rules reading) c
put_upper rules reading (Some begun) c = feed rules reading c

-- the step of a character: in an abbreviation all but the space are put as themselves; else, by the first case that
-- fits, it goes on with what is pending; it is the space, `q`, `l`, `L`, `Q`, the `>` behind a prefix, or another
-- upper-case letter; or it is read by the rules
abbrev pub char_step : List Rule → Reading → ℕ → ReadingStep
char_step rules reading c =
    if reading.is_abbrev && not (c == code " ") then typed_step (put reading (c ∷ []))
    else if extends_pending rules reading.pending c then typed_step (feed rules reading c)
    else if c == code " " then space_step (flush rules reading)
    else if c == code "q" then confirm_step rules reading true Nothing
    else if c == code "l" then confirm_step rules reading false ToAscii
    else if c == code "L" then confirm_step rules reading false ToWide
    else if c == code "Q" then confirm_step rules reading false OpenReading
    else if c == code ">" && ends_prefix reading.okuri (flush rules reading) then prefix_step (flush rules reading)
    else if nat_le (code "A") c && nat_le c (code "Z")
    then typed_step (put_upper rules reading reading.okuri (to_ascii_lowercase c))
    else typed_step (feed rules reading c)

-- an okurigana is given up where it has no kana and nothing is pending
abbrev pub without_empty_okuri : Reading → Reading
without_empty_okuri reading =
    if is_empty_okuri reading.okuri && is_empty reading.pending then record reading { okuri = None } else reading

-- an okurigana without its last kana
abbrev pub okuri_without_last : Option BegunOkuri → Option BegunOkuri
okuri_without_last None = None
okuri_without_last (Some begun) = Some (record { letter = begun.letter; text = without_last begun.text })

-- the step of backspace: it takes the last pending letter, or else the okurigana's last kana, or else the reading's
-- last character; where there is none of these it closes the reading
abbrev pub delete_step : Reading → ReadingStep
delete_step reading =
    if not (is_empty reading.pending)
    then step_to (without_empty_okuri (with_pending reading (without_last reading.pending))) notices.Empty Stay
    else if is_filled_okuri reading.okuri
    then step_to (without_empty_okuri (record reading { okuri = okuri_without_last reading.okuri })) notices.Empty Stay
    else if not (is_empty reading.text)
    then step_to (record reading { text = without_last reading.text; okuri = None }) notices.Empty Stay
    else step_to reading notices.Empty Drop

-- the step of Tab: without an okurigana completions are asked for behind the flush, and with one there are none
abbrev pub tab_step : List Rule → Reading → Option BegunOkuri → ReadingStep
tab_step rules reading None = let flush = flush rules reading in step_to flush.reading flush.notice AskCompletions
tab_step rules reading (Some begun) = step_to reading notices.NoCompletion Stay

-- the step of a key where no completions are kept
abbrev pub key_step : List Rule → Reading → Key → ReadingStep
key_step rules reading (Char c) = char_step rules reading c
key_step rules reading Cj = confirm_step rules reading false Nothing
key_step rules reading Cg = step_to reading notices.Empty Drop
key_step rules reading Bs = delete_step reading
key_step rules reading Ret = confirm_step rules reading false Newline
key_step rules reading Tab = tab_step rules reading reading.okuri
key_step rules reading Undo = step_to reading notices.NoUndo Stay

-- a reading without completions
abbrev pub without_completions : Reading → Reading
without_completions reading = record reading { completions = None }

-- a reading that shows a text, which completes it, and keeps the readings among which that has a place
abbrev pub showing : Reading → List (List ℕ) → ℕ → List ℕ → Reading
showing reading readings place text =
    record reading { text = text; completions = Some (record { readings = readings; place = place }) }

-- the step to the completion of a place: behind the last one there is no more, and the reading stays
abbrev pub completion_step : Reading → Completions → ℕ → ReadingStep
completion_step reading kept place =
    option_map_or (λ text. step_to (showing reading kept.readings place text) notices.Empty Stay)
    (slice_get kept.readings place)
    (step_to reading notices.NoMore Stay)

-- the step to the completion after the one that is shown
abbrev pub next_step : Reading → Completions → ReadingStep
next_step reading kept = completion_step reading kept (suc kept.place)

-- the step to the completion before the one that is shown: before the first one there is no more, and the reading stays
abbrev pub previous_step : Reading → Completions → ReadingStep
previous_step reading kept =
    if kept.place == 0 then step_to reading notices.NoMore Stay else completion_step reading kept (kept.place - 1)

-- whether a key goes to the next of the completions that are kept
abbrev pub is_next : Key → Bool
is_next Tab = true
is_next (Char c) = c == code "."
is_next key = false

-- whether a key goes to the one before among the completions that are kept
abbrev pub is_previous : Key → Bool
is_previous (Char c) = c == code ","
is_previous key = false

-- the step of a key where completions are kept: Tab and `.` go to the next, `,` to the one before, and any other key
-- gives them up
abbrev pub kept_step : List Rule → Reading → Completions → Key → ReadingStep
kept_step rules reading kept key =
    if is_next key then next_step reading kept
    else if is_previous key then previous_step reading kept
    else key_step rules (without_completions reading) key

-- the step of a key, with completions that are kept or without
abbrev pub step_with : List Rule → Reading → Option Completions → Key → ReadingStep
step_with rules reading None key = key_step rules reading key
step_with rules reading (Some kept) key = kept_step rules reading kept key

-- the step of a key in the reading state
abbrev pub reading_step : List Rule → Reading → Key → ReadingStep
reading_step rules reading key = step_with rules reading reading.completions key

-- what readings that complete a reading make of it: the first of them replaces it and all are kept, or there are none
abbrev pub completed : Reading → List (List ℕ) → Put
completed reading [] = record { reading = reading; notice = notices.NoCompletion }
completed reading (first ∷ rest) = record { reading = showing reading (first ∷ rest) 0 first; notice = notices.Empty }
