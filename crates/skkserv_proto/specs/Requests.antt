-- The requests that bytes spell.
use Rattle.std.specs.Prelude.{ℕ, ◌+◌, ◌-◌, ◌==◌, ◌||◌, Bool, nat_lt, min, if◌then◌else◌, Option, None, Some, List}
use Rattle.std.specs.Prelude.{[], ◌∷◌, ◌++◌, length}
use Rattle.std.specs.List.{flat_map}
use Rattle.std.specs.Option.{option_map}
use Rattle.skk_text.specs.Characters.{code, carriage_return}
use Rattle.skk_text.specs.Counts.{last_count}
use Rattle.skk_text.specs.Lines.{line_feed}
use Rattle.cut_input.specs.Pieces.{ended_piece, begun_piece, IsBegun}
use Rattle.exact_readers.specs.Formats.{Format, one_as, both, either, mapped, taken}
use Rattle.skkserv_proto.specs.declared.command.CommandByte.{CommandByte}
use Rattle.skkserv_proto.specs.declared.command.CommandByte.TheVariants as commands
use Rattle.skkserv_proto.specs.declared.command.Wants.{Wants}
use Rattle.skkserv_proto.specs.declared.command.Wants.TheVariants.{Candidates, Completions}
use Rattle.skkserv_proto.specs.declared.request.Request.{Request}
use Rattle.skkserv_proto.specs.declared.request.Request.TheVariants.{End, Look, Version, Host, Complete}

-- what a byte is in a command's place: a CR or LF is skipped, `0` ends, `1` and `4` stand before a reading, `2` asks
-- the version and `3` the host
abbrev pub command_at : ℕ → CommandByte
command_at byte =
    if byte == carriage_return || byte == line_feed then commands.LineEnd
    else if byte == code "0" then commands.End
    else if byte == code "1" then commands.Reading Candidates
    else if byte == code "2" then commands.Version
    else if byte == code "3" then commands.Host
    else if byte == code "4" then commands.Reading Completions
    else commands.Other

-- Readings

-- a byte ends a reading: a space, a CR or an LF
abbrev pub ends_reading : ℕ → Bool
ends_reading byte = byte == code " " || (byte == carriage_return || byte == line_feed)

-- the most bytes of a reading
abbrev pub longest_reading : ℕ
longest_reading = 255

-- a reading that is not too long, and the byte that ends it
abbrev pub ended_reading : Format ℕ (List ℕ)
ended_reading = ended_piece ends_reading longest_reading

-- bytes may be those of a reading that has not ended
abbrev pub IsOpen : List ℕ → Type 0
IsOpen text = IsBegun ends_reading longest_reading text

-- what is asked of a reading, where a command is one before a reading
abbrev pub wanted_by : CommandByte → Option Wants
wanted_by (commands.Reading wants) = Some wants
wanted_by command = None

-- what is asked of a reading, where it stands behind this byte
abbrev pub wanted_at : ℕ → Option Wants
wanted_at byte = wanted_by (command_at byte)

-- the request of a reading
abbrev pub asking : Wants → List ℕ → Request
asking Candidates text = Look text
asking Completions text = Complete text

-- Tokens

-- what a command asks that is whole by itself: nothing, where it is skipped, the version, or the host
abbrev pub asked_by : CommandByte → Option (List Request)
asked_by commands.LineEnd = Some []
asked_by commands.Version = Some (Version ∷ [])
asked_by commands.Host = Some (Host ∷ [])
asked_by command = None

-- what a byte asks that is whole by itself
abbrev pub asked_alone : ℕ → Option (List Request)
asked_alone byte = asked_by (command_at byte)

-- a command with its reading, and what both ask
abbrev pub with_reading : Format ℕ (List Request)
with_reading = mapped (λ pair. asking pair.0 pair.1 ∷ []) (both (one_as wanted_at) ended_reading)

-- what is whole: a byte by itself, or a command with its reading
abbrev pub token : Format ℕ (List Request)
token = either (one_as asked_alone) with_reading

-- what the tokens of bytes ask, each by itself, and what stands behind the last of them
abbrev pub tokens_of : List ℕ → List (List Request) × List ℕ
tokens_of bytes = taken token.step bytes

-- Requests

-- whether a command is the end
abbrev pub end_by : CommandByte → List Request
end_by commands.End = End ∷ []
end_by command = []

-- what is asked behind the last token: the end, where its command stands there
abbrev pub end_in : List ℕ → List Request
end_in [] = []
end_in (byte ∷ rest) = end_by (command_at byte)

-- what tokens ask, one after another
abbrev pub all_asked : List (List Request) → List Request
all_asked tokens = flat_map (λ asked. asked) tokens

-- the requests that bytes spell, up to the end, to a byte that is bad, or to a rest that is no whole request
abbrev pub requests : List ℕ → List Request
requests bytes = all_asked (tokens_of bytes).0 ++ end_in (tokens_of bytes).1

-- Bad bytes

-- the reading that a text begins with: what stands before the byte that ends it, or the whole text
abbrev pub reading_in : List ℕ → List ℕ
reading_in text = begun_piece ends_reading text

-- where a byte is bad, counted from a command in front of a text: that is none, or its reading is too long, which it is
-- by the byte behind as many as a reading may have
abbrev pub bad_by : CommandByte → List ℕ → Option ℕ
bad_by commands.Other text = Some 0
bad_by (commands.Reading wants) text =
    if nat_lt longest_reading (length (reading_in text)) then Some (longest_reading + 1) else None
bad_by command text = None

-- where a byte is bad in what stands behind the last token
abbrev pub bad_in : List ℕ → Option ℕ
bad_in [] = None
bad_in (byte ∷ text) = bad_by (command_at byte) text

-- where the first bad byte stands
abbrev pub first_bad : List ℕ → Option ℕ
first_bad bytes =
    let rest = (tokens_of bytes).1 in option_map (λ at. length bytes - length rest + at) (bad_in rest)

-- the place of the first bad byte, which stands still at the last number of 64 bits
abbrev pub bad_at : List ℕ → Option ℕ
bad_at bytes = option_map (λ at. min at last_count) (first_bad bytes)
