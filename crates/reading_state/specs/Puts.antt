-- An open reading, what its type keeps, and what is put into it.
use Rattle.std.specs.Prelude.{ℕ, ◌+◌, Bool, true, false, ◌&&◌, ◌||◌, not, nat_lt, if◌then◌else◌, Option, None, Some}
use Rattle.std.specs.Prelude.{List, [], ◌∷◌, ◌++◌, length}
use Rattle.std.specs.List.{list_all}
use Rattle.skk_text.specs.Characters.{code}
use Rattle.skk_text.specs.Lists.{is_empty}
use Rattle.skk_text.specs.Text.{byte_len}
use Rattle.skk_text.specs.declared.notice.Notice.{Notice}
use Rattle.skk_text.specs.declared.notice.Notice.TheVariants as notices
use Rattle.skk_calls.specs.Dictionary.{is_plain_reading}
use Rattle.skk_calls.specs.Rows.{is_letter, is_okuri, okuri_limit, reading_limit}
use Rattle.skk_calls.specs.declared.part.Part.TheVariants.{Nasi}

-- an okurigana that was begun: the letter behind the reading in its key, and its kana so far
pub record BegunOkuri : Type 0 where
  pub letter : ℕ
  pub text : List ℕ

-- readings that complete what was typed, and the place of the one that is shown
pub record Completions : Type 0 where
  pub readings : List (List ℕ)
  pub place : ℕ

-- an open reading: its characters, whether it is an abbreviation, its okurigana where one was begun, the letters that
-- wait for more, and its completions where they are kept
pub record Reading : Type 0 where
  pub text : List ℕ
  pub is_abbrev : Bool
  pub okuri : Option BegunOkuri
  pub pending : List ℕ
  pub completions : Option Completions

-- a reading that was just opened
abbrev pub new_reading : Reading
new_reading = record { text = []; is_abbrev = false; okuri = None; pending = []; completions = None }

-- an abbreviation that was just opened
abbrev pub new_abbrev : Reading
new_abbrev = record { text = []; is_abbrev = true; okuri = None; pending = []; completions = None }

-- a reading that was opened for a suffix, which begins with `>`
abbrev pub suffix_reading : Reading
suffix_reading = record new_reading { text = code ">" ∷ [] }

-- a text may stand in an open reading: it is empty, or a valid reading without okurigana
abbrev pub may_read : List ℕ → Bool
may_read text = is_empty text || is_plain_reading text

-- a text may stand in an okurigana that was begun: it is empty, or a valid okurigana
abbrev pub may_end : List ℕ → Bool
may_end text = is_empty text || is_okuri text

-- an okurigana that was begun has a letter from `a` to `z`, a text that may stand in it, and a reading before it
abbrev pub fits_reading : List ℕ → Option BegunOkuri → Bool
fits_reading text None = true
fits_reading text (Some begun) = is_letter (begun.letter ∷ []) && (may_end begun.text && not (is_empty text))

-- a reading is one that may be open: its text and its okurigana may stand there
abbrev pub is_open : Reading → Bool
is_open reading = may_read reading.text && fits_reading reading.text reading.okuri

-- completions may be kept: each is a valid reading without okurigana, and the place is that of one of them
abbrev pub may_complete : Completions → Bool
may_complete kept = list_all is_plain_reading kept.readings && nat_lt kept.place (length kept.readings)

-- a reading after a piece was put, or was not, and the notice of that
pub record Put : Type 0 where
  pub reading : Reading
  pub notice : Notice

-- the notice that stands where two are given one after another
abbrev pub later_notice : Notice → Notice → Notice
later_notice first notices.Empty = first
later_notice first second = second

-- why a piece is not put at the end of a text: it would pass its limit, or would not be one that may stand there;
-- nothing where it is put
abbrev pub refusal : ℕ → (List ℕ → Bool) → List ℕ → List ℕ → Notice
refusal limit may_stand text piece =
    if nat_lt limit (byte_len text + byte_len piece) then notices.Limit
    else if may_stand (text ++ piece) then notices.Empty
    else notices.Reading

-- a text with a piece at its end, unless there is a notice against it
abbrev pub unless_refused : Notice → List ℕ → List ℕ → List ℕ
unless_refused notices.Empty text piece = text ++ piece
unless_refused notice text piece = text

-- what putting a piece makes of a reading: the piece goes behind the okurigana where one was begun, or else behind the
-- reading
abbrev pub put_into : Reading → Option BegunOkuri → List ℕ → Put
put_into reading None piece =
    let notice = refusal (reading_limit Nasi) may_read reading.text piece in
    record { reading = record reading { text = unless_refused notice reading.text piece }; notice = notice }
put_into reading (Some begun) piece =
    let notice = refusal okuri_limit may_end begun.text piece in
    record {
      reading = record reading {
        okuri = Some (record { letter = begun.letter; text = unless_refused notice begun.text piece });
      };
      notice = notice;
    }

-- what putting a piece makes of a reading
abbrev pub put : Reading → List ℕ → Put
put reading piece = put_into reading reading.okuri piece
