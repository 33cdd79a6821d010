-- How sessions are shown at small examples, each worked out by hand.
use Rattle.std.proofs.Common.{◌≡◌, ◌+◌, ℕ, zero, suc, Bool, true, false, Option, Some, None, List, [], ◌∷◌, ◌++◌, codes}
use Rattle.std.proofs.Common.{map, replicate, refl}
use Rattle.std.specs.Fmt.{digits}
use Prim.Native.String.{String}
use Rattle.skk_text.specs.Characters.{code}
use Rattle.skk_text.specs.declared.mode.Mode.{Mode}
use Rattle.skk_text.specs.declared.mode.Mode.TheVariants.{Hira, Kata, Ascii, Wide}
use Rattle.skk_text.specs.declared.notice.Notice.TheVariants as notices
use Rattle.skk_calls.specs.declared.answer.Refusal.TheVariants.{Memory, Disk, JournalFull}
use Rattle.skk_calls.specs.declared.part.Part.TheVariants.{Nasi}
use Rattle.reading_state.specs.Puts.{BegunOkuri, Reading}
use Rattle.candidate_state.specs.Picking.{Picking}
use Rattle.candidate_state.specs.Shown.{Shown}
use Rattle.session_machine.specs.declared.frame.Conversion.{Conversion}
use Rattle.session_machine.specs.declared.frame.Frame.{Frame}
use Rattle.session_machine.specs.declared.frame.OuterFrame.{OuterFrame}
use Rattle.session_machine.specs.declared.frame.FrameState.{FrameState}
use Rattle.session_machine.specs.declared.frame.FrameState.TheVariants as states
use Rattle.session_machine.specs.declared.frame.Waiting.TheVariants as waits
use Rattle.session_machine.specs.declared.session_notice.SessionNotice.{SessionNotice}
use Rattle.session_machine.specs.declared.session_notice.SessionNotice.TheVariants.{Step, Refused, Purged, Unchanged}
use Rattle.session_machine.specs.declared.session_notice.SessionNotice.TheVariants.{Undone, Overtaken, TooBig}
use Rattle.session_machine.specs.declared.session_notice.SessionNotice.TheVariants.{StampsEnd, Depth, Annotated}
use Rattle.session_machine.specs.declared.session_notice.SessionNotice.TheVariants.{BadNote}
use Rattle.session_machine.specs.Session.{Session}
use Rattle.session_machine.specs.Display.{escaped, has_escape, printed_form, shown_characters, okuri_shown}
use Rattle.session_machine.specs.Display.{reading_shown, question_shown, first_text, first_note, single_shown}
use Rattle.session_machine.specs.Display.{page_letters, lettered, page_shown, picking_shown, state_shown, frame_shown}
use Rattle.session_machine.specs.Display.{display, step_text, refusal_text, note_text, state_note, notice_text, notice}
use Rattle.session_machine.specs.Display.{indicator, line, text_printed}

-- Characters

-- the characters with an escape, TAB, LF, CR and the backslash, and those beside them
abbrev edges : List ℕ
edges = 8 ∷ 9 ∷ 10 ∷ 11 ∷ 12 ∷ 13 ∷ 14 ∷ 91 ∷ 92 ∷ 93 ∷ []

escapes : map escaped edges
    ≡ (8 ∷ []) ∷ (92 ∷ code "t" ∷ []) ∷ (92 ∷ code "n" ∷ []) ∷ (11 ∷ []) ∷ (12 ∷ []) ∷ (92 ∷ code "r" ∷ []) ∷ (14 ∷ [])
    ∷ codes "[" ∷ (92 ∷ 92 ∷ []) ∷ codes "]" ∷ []
escapes = refl

with_escape : map has_escape edges ≡ false ∷ true ∷ true ∷ false ∷ false ∷ true ∷ false ∷ false ∷ true ∷ false ∷ []
with_escape = refl

texts_printed : map printed_form ([] ∷ codes "漢字n" ∷ (code "亜" ∷ 10 ∷ 10 ∷ codes "t") ∷ (9 ∷ 92 ∷ 13 ∷ []) ∷ [])
    ≡ [] ∷ codes "漢字n" ∷ (code "亜" ∷ 92 ∷ code "n" ∷ 92 ∷ codes "nt") ∷ (92 ∷ code "t" ∷ 92 ∷ 92 ∷ 92 ∷ codes "r") ∷ []
texts_printed = refl

-- Readings

-- an okurigana that was begun, and a reading
abbrev begun : String → Option BegunOkuri
begun text = Some (record { letter = code "r"; text = codes text })

abbrev reading : String → Option BegunOkuri → String → Reading
reading text okuri pending =
    record { text = codes text; is_abbrev = false; okuri = okuri; pending = codes pending; completions = None }

okurigana : map (λ (l : Mode × Option BegunOkuri). okuri_shown l.0 l.1) ((Hira, None) ∷ (Kata, None) ∷ (Hira, begun "る")
    ∷ (Kata, begun "る") ∷ (Ascii, begun "る") ∷ (Wide, begun "る") ∷ (Kata, begun "") ∷ [])
    ≡ [] ∷ [] ∷ codes "*る" ∷ codes "*ル" ∷ codes "*る" ∷ codes "*る" ∷ codes "*" ∷ []
okurigana = refl

-- readings in both kana, without okurigana and with it, and with letters that wait
readings : map (λ (l : Mode × Reading). reading_shown l.0 l.1) (
    (Hira, reading "" None "") ∷ (Hira, reading "かんじ" None "") ∷ (Kata, reading "かんじ" None "")
    ∷ (Hira, reading "か" None "ky") ∷ (Kata, reading "か" None "ky")
    ∷ (Hira, reading "おく" (begun "り") "") ∷ (Kata, reading "おく" (begun "り") "") ∷ (Hira, reading "おく" (begun "") "r")
    ∷ (Kata, reading "まが" (begun "っ") "t") ∷ (Kata, record (reading "skk" None "") { is_abbrev = true }) ∷ [])
    ≡ codes "▽" ∷ codes "▽かんじ" ∷ codes "▽カンジ" ∷ codes "▽かky" ∷ codes "▽カky"
    ∷ codes "▽おく*り" ∷ codes "▽オク*リ" ∷ codes "▽おく*r" ∷ codes "▽マガ*ッt" ∷ codes "▽skk" ∷ []
readings = refl

-- Candidates

-- a candidate with a note and a text
abbrev cand : String → String → String → Shown
cand word note text = record {
  key = record { part = Nasi; reading = codes "かんじ" };
  cand = record { word = codes word; note = codes note };
  text = codes text;
}

-- three candidates, of which the second has a note, and the third a text that is not its word
abbrev three : List Shown
three = cand "漢字" "" "漢字" ∷ cand "幹事" "宴会の" "幹事" ∷ cand "#1かん" "" "５かん" ∷ []

-- so many candidates without notes, whose texts are the characters from one on
abbrev some_from : ℕ → ℕ → List Shown
some_from c zero = []
some_from c (suc count) =
    record { key = record { part = Nasi; reading = [] }; cand = record { word = codes "#1"; note = [] }; text = c ∷ [] }
    ∷ some_from (c + 1) count

-- a place among candidates, with or without a question, and its conversion with an okurigana
abbrev picking : List Shown → ℕ → Bool → Picking
picking shown place question = record { shown = shown; place = place; question = question }

abbrev conversion : Option BegunOkuri → List Shown → ℕ → Bool → Conversion
conversion okuri shown place question =
    record { reading = reading "かん" okuri ""; picking = picking shown place question }

questions : map question_shown (false ∷ true ∷ []) ≡ [] ∷ codes "[削除 Y/N]" ∷ []
questions = refl

-- the first candidate's text and its note
first_texts : map first_text ([] ∷ three ∷ (cand "#1かん" "" "５かん" ∷ three) ∷ []) ≡ [] ∷ codes "漢字" ∷ codes "５かん" ∷ []
first_texts = refl

first_notes : map first_note ([] ∷ three ∷ (cand "幹事" "宴会の" "幹事" ∷ three) ∷ []) ≡ [] ∷ [] ∷ codes "宴会の" ∷ []
first_notes = refl

-- single candidates: at each place, with an okurigana in both kana, which the candidate is not put in,
-- and with the question
singles : map (λ (l : Mode × Conversion). single_shown l.0 l.1) (
    (Hira, conversion None three 0 false) ∷ (Hira, conversion None three 1 false)
    ∷ (Kata, conversion None three 2 false)
    ∷ (Hira, conversion (begun "る") three 2 false) ∷ (Kata, conversion (begun "る") three 2 false)
    ∷ (Kata, conversion (begun "") three 0 false)
    ∷ (Hira, conversion None three 1 true) ∷ (Kata, conversion (begun "る") three 0 true) ∷ [])
    ≡ codes "▼漢字" ∷ codes "▼幹事" ∷ codes "▼５かん" ∷ codes "▼５かんる" ∷ codes "▼５かんル" ∷ codes "▼漢字" ∷ codes "▼幹事[削除 Y/N]"
    ∷ codes "▼漢字ル[削除 Y/N]" ∷ []
singles = refl

-- no candidate, one, seven and eight behind the letters
behind_letters : map (λ count. lettered page_letters (some_from (code "a") count)) (0 ∷ 1 ∷ 7 ∷ 8 ∷ [])
    ≡ [] ∷ codes "A:a " ∷ codes "A:a S:b D:c F:d J:e K:f L:g " ∷ codes "A:a S:b D:c F:d J:e K:f L:g " ∷ []
behind_letters = refl

no_letters : lettered [] three ≡ []
no_letters = refl

-- pages of one, seven and eight candidates, the page behind one, and one that many are behind
pages : map (λ (l : ℕ × ℕ). page_shown (picking (some_from (code "a") l.0) l.1 false))
    ((5, 4) ∷ (11, 4) ∷ (12, 4) ∷ (12, 11) ∷ (21, 4) ∷ [])
    ≡ codes "▼[A:e 残り 0]" ∷ codes "▼[A:e S:f D:g F:h J:i K:j L:k 残り 0]" ∷ codes "▼[A:e S:f D:g F:h J:i K:j L:k 残り 1]"
    ∷ codes "▼[A:l 残り 0]" ∷ codes "▼[A:e S:f D:g F:h J:i K:j L:k 残り 10]" ∷ []
unfolding digits
pages = refl

-- the last single candidate and the first page, in either of which no kana of the page are changed
views : map (λ (l : Mode × Conversion). picking_shown l.0 l.1) ((
  Kata,
  conversion (begun "る") (some_from (code "あ") 6) 3 false,
) ∷ (Kata, conversion (begun "る") (some_from (code "か") 6) 4 false) ∷ [])
    ≡ codes "▼ぅル" ∷ codes "▼[A:く S:ぐ 残り 0]" ∷ []
unfolding digits
views = refl

-- Frames

-- a state with candidates
abbrev picked : List Shown → ℕ → FrameState
picked shown place = states.Picking (conversion None shown place false)

states_shown : map (λ (l : Mode × FrameState). state_shown l.0 l.1)
    ((Kata, states.Plain []) ∷ (Kata, states.Plain (codes "ky")) ∷ (Kata, states.Reading (reading "か" None "n"))
    ∷ (Hira, picked three 0) ∷ (Hira, picked (some_from (code "a") 5) 4) ∷ [])
    ≡ [] ∷ codes "ky" ∷ codes "▽カn" ∷ codes "▼漢字" ∷ codes "▼[A:e 残り 0]" ∷ []
unfolding digits
states_shown = refl

-- so many characters, from one on
abbrev characters : ℕ → ℕ → List ℕ
characters c zero = []
characters c (suc count) = c ∷ characters (c + 1) count

-- a frame with a text and a state
abbrev frame : List ℕ → Mode → FrameState → Frame
frame text mode state = record { text = text; mode = mode; state = state; last_choice = None }

-- texts of 63, 64 and 65 characters, each of three bytes: the first of the last is not shown
long_texts : map (λ count. frame_shown (frame (characters 12400 count) Hira (states.Plain (codes "k"))))
    (63 ∷ 64 ∷ 65 ∷ [])
    ≡ (characters 12400 63 ++ codes "k") ∷ (characters 12400 64 ++ codes "k") ∷ (characters 12401 64 ++ codes "k") ∷ []
long_texts = refl

characters_shown : shown_characters ≡ 64
characters_shown = refl

-- a text in hiragana before a reading, in katakana mode
frame_in_katakana : frame_shown (frame (codes "あい") Kata (states.Reading (reading "う" None ""))) ≡ codes "あい▽ウ"
frame_in_katakana = refl

-- a session of a frame in frames, with a notice
abbrev session : Frame → List OuterFrame → SessionNotice → Session
session frame outer told = record { typist = 1; book = 0; frame = frame; outer = outer; notice = told }

-- a frame in the plain state
abbrev plain : List ℕ → Frame
plain text = frame text Hira (states.Plain [])

-- a frame outside, which waits for a word of a reading
abbrev outer : List ℕ → Mode → Reading → OuterFrame
outer text mode reading = record { text = text; mode = mode; waiting = waits.Reading reading; last_choice = None }

-- a frame outside that waits in hiragana mode for a word of の
abbrev outside : List ℕ → OuterFrame
outside text = outer text Hira (reading "の" None "")

-- what is shown is printed, of the text as of the state
displays : map (λ f. display (session f [] (Step notices.Limit))) (
    plain [] ∷ plain (code "あ" ∷ 10 ∷ codes "い") ∷ frame (92 ∷ []) Kata (states.Reading (reading "か" None ""))
    ∷ frame [] Hira (states.Plain (92 ∷ [])) ∷ [])
    ≡ [] ∷ (code "あ" ∷ 92 ∷ codes "nい") ∷ (92 ∷ 92 ∷ codes "▽カ") ∷ (92 ∷ 92 ∷ []) ∷ []
displays = refl

-- the prompt of one registration and of two: the reading of the innermost in the kana outside it, with its okurigana,
-- and with a # in the place of each number
prompts : map (λ frames. display (session (frame (codes "内") Kata (states.Reading (reading "か" None ""))) frames
    (Step notices.Empty)))
    ((outside (codes "外") ∷ []) ∷ (outer [] Kata (reading "ぬの" None "") ∷ [])
    ∷ (outside (codes "外") ∷ outer (codes "中") Hira (reading "はし" (begun "る") "") ∷ [])
    ∷ (outside [] ∷ outer [] Kata (reading "まが" (begun "") "r") ∷ [])
    ∷ (outer [] Kata (reading "はし" (begun "る") "") ∷ [])
    ∷ (outer [] Hira (reading "12か3" None "") ∷ []) ∷ (outer [] Ascii (reading "a" None "") ∷ []) ∷ [])
    ≡ codes "[辞書登録] の: 内▽カ" ∷ codes "[辞書登録] ヌノ: 内▽カ" ∷ codes "[[辞書登録]] はし*る: 内▽カ"
    ∷ codes "[[辞書登録]] マガ*: 内▽カ" ∷ codes "[辞書登録] ハシ*ル: 内▽カ"
    ∷ codes "[辞書登録] #か#: 内▽カ" ∷ codes "[辞書登録] a: 内▽カ" ∷ []
prompts = refl

-- a prompt is printed, with its escapes
prompt_printed : display (session (plain [])
    (outer [] Hira (record (reading "" None "") { text = 92 ∷ []; is_abbrev = true }) ∷ []) (Step notices.Empty))
    ≡ codes "[辞書登録] " ++ 92 ∷ 92 ∷ codes ": "
prompt_printed = refl

-- a word is waited for too where candidates were shown
prompt_of_candidates : display (session (plain []) (record (outside []) {
  waiting = waits.Picking (record {
    reading = reading "かんじ" None "";
    picking = record { shown = three; place = 1; question = false };
  });
} ∷ []) (Step notices.Empty)) ≡ codes "[辞書登録] かんじ: "
prompt_of_candidates = refl

-- a note line that stands over a candidate of three
abbrev noting : Mode → Conversion → OuterFrame
noting mode conversion = record { text = []; mode = mode; waiting = waits.Note conversion; last_choice = None }

-- the prompt has the brackets, the name and the candidate's text as it is shown, without okurigana and in any mode
prompts_of_notes : map (λ frames. display (session (frame (codes "内") Kata (states.Reading (reading "か" None "")))
    frames (Step notices.Empty)))
    ((noting Hira (conversion None three 0 false) ∷ []) ∷ (noting Hira (conversion (begun "る") three 1 false) ∷ [])
    ∷ (outside (codes "外") ∷ noting Kata (conversion None three 2 false) ∷ [])
    ∷ (noting Hira (conversion None three 0 false) ∷ outside [] ∷ []) ∷ [])
    ≡ codes "[注釈登録] 漢字: 内▽カ" ∷ codes "[注釈登録] 幹事: 内▽カ" ∷ codes "[[注釈登録]] ５かん: 内▽カ"
    ∷ codes "[[辞書登録]] の: 内▽カ" ∷ []
prompts_of_notes = refl

-- so many line feeds as they are printed
abbrev printed_feeds : ℕ → List ℕ
printed_feeds zero = []
printed_feeds (suc count) = 92 ∷ code "n" ∷ printed_feeds count

-- characters are counted as they stand in the text, not as they are printed
line_feeds : map (λ count. display (session (plain (replicate count 10)) [] (Step notices.Empty))) (33 ∷ 64 ∷ 65 ∷ [])
    ≡ printed_feeds 33 ∷ printed_feeds 64 ∷ printed_feeds 64 ∷ []
line_feeds = refl

-- Notices

steps : map step_text (notices.Empty ∷ notices.Limit ∷ notices.Reading ∷ notices.NoMore ∷ notices.NoCompletion
    ∷ notices.NoUndo ∷ notices.NoCandidate ∷ [])
    ≡ [] ∷ codes "limit" ∷ codes "reading" ∷ codes "no-more" ∷ codes "no-completion" ∷ codes "no-undo"
    ∷ codes "no-candidate" ∷ []
steps = refl

refused : map refusal_text (Memory ∷ Disk ∷ JournalFull 0 24 100 ∷ [])
    ≡ codes "refused memory" ∷ codes "refused disk" ∷ codes "refused full 0 24 100" ∷ []
unfolding digits
refused = refl

notes : map note_text ([] ∷ codes "宴会の" ∷ codes ";" ∷ []) ≡ [] ∷ codes ";宴会の" ∷ codes ";;" ∷ []
notes = refl

-- the notes of states: a single candidate without a note and with one, and pages, which have none
abbrev noted : ℕ → FrameState
noted place = picked (some_from (code "a") 3 ++ three ++ three) place

state_notes : map state_note (states.Plain (codes "k") ∷ states.Reading (reading "か" None "") ∷ picked three 0
    ∷ picked three 1 ∷ noted 3 ∷ noted 4 ∷ [])
    ≡ [] ∷ [] ∷ [] ∷ codes ";宴会の" ∷ [] ∷ [] ∷ []
state_notes = refl

-- a note is told where the last key gave no notice
notices_told : map (λ (l : SessionNotice × FrameState). notice_text l.0 l.1) (
    (Step notices.Empty, states.Plain []) ∷ (Step notices.Empty, picked three 0) ∷ (Step notices.Empty, picked three 1)
    ∷ (Step notices.Limit, picked three 1) ∷ (Step notices.NoCandidate, states.Plain [])
    ∷ (Refused Disk, picked three 1) ∷ (Purged, states.Plain [])
    ∷ (Unchanged, states.Plain []) ∷ (Undone, picked three 1) ∷ (Overtaken 0, picked three 1)
    ∷ (Overtaken 18, picked three 0) ∷ (TooBig 65537, picked three 1)
    ∷ (StampsEnd, picked three 1) ∷ (Depth, picked three 1)
    ∷ (Annotated, picked three 1) ∷ (BadNote, states.Plain []) ∷ [])
    ≡ [] ∷ [] ∷ codes ";宴会の" ∷ codes "limit" ∷ codes "no-candidate" ∷ codes "refused disk" ∷ codes "purged"
    ∷ codes "unchanged" ∷ codes "undone" ∷ codes "overtaken 0" ∷ codes "overtaken 18" ∷ codes "too-big 65537"
    ∷ codes "stamps-end" ∷ codes "depth 8" ∷ codes "annotated" ∷ codes "note" ∷ []
unfolding digits
notices_told = refl

-- a note is printed
abbrev odd : List Shown
odd = record {
  key = record { part = Nasi; reading = [] };
  cand = record { word = codes "a"; note = 9 ∷ 92 ∷ [] };
  text = codes "a";
} ∷ []

notices_printed : map (λ (l : FrameState × SessionNotice). notice (session (frame (codes "あ") Hira l.0) [] l.1)) ((
  picked odd 0,
  Step notices.Empty,
) ∷ (picked odd 0, Step notices.NoUndo) ∷ (states.Plain [], Refused (JournalFull 1 2 3)) ∷ [])
    ≡ (code ";" ∷ 92 ∷ code "t" ∷ 92 ∷ 92 ∷ []) ∷ codes "no-undo" ∷ codes "refused full 1 2 3" ∷ []
unfolding digits
notices_printed = refl

-- Lines

indicators : map indicator (Hira ∷ Kata ∷ Ascii ∷ Wide ∷ []) ≡ codes "かな" ∷ codes "カナ" ∷ codes "SKK" ∷ codes "全英" ∷ []
indicators = refl

-- lines of sessions: with nothing to show, with a text of two lines and a reading, and with a candidate that has a note
lines : map line (session (plain []) [] (Step notices.Empty)
    ∷ session (frame (code "あ" ∷ 10 ∷ []) Kata (states.Reading (reading "か" None "k"))) [] (Step notices.Reading)
    ∷ session (frame (codes "a") Hira (picked three 1)) (outside (codes "外") ∷ []) (Step notices.Empty)
    ∷ session (frame [] Wide (states.Plain [])) [] (Refused Memory) ∷ [])
    ≡ (codes "かな" ++ 9 ∷ 9 ∷ 10 ∷ [])
    ∷ (codes "カナ" ++ 9 ∷ code "あ" ∷ 92 ∷ codes "n▽カk" ++ 9 ∷ codes "reading" ++ 10 ∷ [])
    ∷ (codes "かな" ++ 9 ∷ codes "[辞書登録] の: a▼幹事" ++ 9 ∷ codes ";宴会の" ++ 10 ∷ [])
    ∷ (codes "全英" ++ 9 ∷ 9 ∷ codes "refused memory" ++ 10 ∷ []) ∷ []
lines = refl

-- the whole text of a session: its frame's, where there is no other, or that of the outermost one,
-- without what is shown of a state
texts : map (λ outer.
    text_printed (session (frame (codes "内" ++ 10 ∷ []) Hira (states.Plain (codes "k"))) outer (Step notices.Empty)))
    ([] ∷ (outside (codes "外" ++ 9 ∷ []) ∷ []) ∷ (outside (codes "外") ∷ outside (codes "中") ∷ [])
    ∷ (outside (characters 12400 65) ∷ []) ∷ [])
    ≡ (code "内" ∷ 92 ∷ codes "n") ∷ (code "外" ∷ 92 ∷ codes "t") ∷ codes "外" ∷ characters 12400 65 ∷ []
texts = refl
