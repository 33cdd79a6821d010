-- What the bytes tell that a server sends for a request.
use Rattle.std.specs.Prelude.{ℕ, ◌+◌, ◌==◌, nat_lt, if◌then◌else◌, Option, None, Some, Result, Ok}
use Rattle.std.specs.Prelude.{Err, List, [], ◌∷◌, codes, length, map}
use Rattle.std.specs.Str.{chars, is_utf8}
use Rattle.std.specs.Str.Lossy.{utf8_valid_len}
use Rattle.skk_text.specs.Characters.{code}
use Rattle.skk_text.specs.Text.{byte_len}
use Rattle.skk_calls.specs.Rows.{Cand}
use Rattle.exact_readers.specs.Formats.{Format, past, then_at}
use Rattle.exact_readers.specs.Lines.{is_line_feed, without_return}
use Rattle.cut_input.specs.Pieces.{ended_piece}
use Rattle.dict_format.specs.Building.{cands_once}
use Rattle.dict_format.specs.ItemsAlone.{cand_alone, is_long}
use Rattle.dict_format.specs.Reading.{texts_at}
use Rattle.dict_format.specs.RowOfItems.{words_once}
use Rattle.skkserv_client.specs.declared.question.Ask.{Ask}
use Rattle.skkserv_client.specs.declared.question.Ask.TheVariants.{Look, Complete}
use Rattle.skkserv_client.specs.declared.told.AskFault.{AskFault}
use Rattle.skkserv_client.specs.declared.told.AskFault.TheVariants.{TooLong, Ended, Refused, BadReply}
use Rattle.skkserv_client.specs.declared.told.Told.{Told}
use Rattle.skkserv_client.specs.declared.told.Told.TheVariants.{Cands, Readings}

-- Lines

-- the most bytes of a reply's line, without the LF that ends it
abbrev pub longest_line : ℕ
longest_line = 4194303

-- a line that is not too long, and the LF that ends it
abbrev pub reply_line : Format ℕ (List ℕ)
reply_line = ended_piece is_line_feed longest_line

-- why so many bytes, which are all that come, have no line: they are too many, or they end before it does
abbrev pub no_line : ℕ → AskFault
no_line count = if nat_lt longest_line count then TooLong else Ended count

-- what was read of bytes, so many, as a line
abbrev pub line_or_fault : Option (List ℕ × List ℕ) → ℕ → Result (List ℕ) AskFault
line_or_fault (Some parts) count = Ok (without_return parts.0)
line_or_fault None count = Err (no_line count)

-- the line that bytes begin with, without a CR at its end
unfoldable pub line_of : List ℕ → Result (List ℕ) AskFault
line_of bytes = line_or_fault (reply_line.step bytes) (length bytes)

-- Lists

-- the candidates of texts, the first of each word that is not empty
abbrev pub cands_of : List (List ℕ) → List Cand
cands_of texts = cands_once (map cand_alone texts)

-- where the first text stands that is too long as an item, where the first of them stands at this byte and each has a
-- slash behind it
abbrev pub first_long : ℕ → List (List ℕ) → Option ℕ
first_long at [] = None
first_long at (text ∷ texts) =
    if is_long (cand_alone text) then Some at else first_long (at + (byte_len text + 1)) texts

-- the candidates of texts, where none is too long
abbrev pub if_none_long : Option ℕ → List (List ℕ) → Result Told AskFault
if_none_long (Some at) texts = Err (BadReply at)
if_none_long None texts = Ok (Cands (cands_of texts))

-- what texts tell of what was asked, which stand behind `1/`: candidates, or the readings that are not empty, each once
unfoldable pub told_by_texts : Ask → List (List ℕ) → Result Told AskFault
told_by_texts (Look reading) texts = if_none_long (first_long 2 texts) texts
told_by_texts (Complete prefix) texts = Ok (Readings (words_once texts))

-- what texts tell, where there are any
abbrev pub if_texts : Ask → Option (List (List ℕ)) → Result Told AskFault
if_texts what None = Err (BadReply 1)
if_texts what (Some texts) = told_by_texts what texts

-- the texts between the slashes of a line, behind `1`
unfoldable pub texts_of_line : List ℕ → Option (List (List ℕ))
texts_of_line line = then_at (past (codes "1") (chars line)) texts_at

-- what a line tells that begins with `1`
unfoldable pub told_by_list : Ask → List ℕ → Result Told AskFault
told_by_list what line =
    if is_utf8 line then if_texts what (texts_of_line line) else Err (BadReply (utf8_valid_len line))

-- Replies

-- nothing was found
abbrev pub nothing_told : Ask → Told
nothing_told (Look reading) = Cands []
nothing_told (Complete prefix) = Readings []

-- what a line tells
unfoldable pub told_by_line : Ask → List ℕ → Result Told AskFault
told_by_line what [] = Err (BadReply 0)
told_by_line what (first ∷ rest) =
    if first == code "0" then Err Refused
    else if first == code "1" then told_by_list what (first ∷ rest)
    else if first == code "4" then Ok (nothing_told what)
    else Err (BadReply 0)

-- what is told by a line, where there is one
abbrev pub if_line : Ask → Result (List ℕ) AskFault → Result Told AskFault
if_line what (Ok line) = told_by_line what line
if_line what (Err fault) = Err fault

-- what all the bytes tell that a server sends
unfoldable pub told_by : Ask → List ℕ → Result Told AskFault
told_by what bytes = if_line what (line_of bytes)
