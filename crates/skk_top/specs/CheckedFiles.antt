-- What is printed for a dictionary file.
use Rattle.std.specs.Prelude.{ℕ, List, [], ◌∷◌, ◌++◌, codes, length, encode_utf8_all}
use Rattle.std.specs.Fmt.{decimal}
use Rattle.std.specs.List.{count_by, flat_map}
use Rattle.skk_text.specs.Lines.{line_feed}
use Rattle.skk_calls.specs.declared.part.Part.{Part}
use Rattle.skk_calls.specs.declared.part.Part.TheVariants.{Nasi, Ari}
use Rattle.skk_calls.specs.Rows.{Row}
use Rattle.dict_format.specs.PrintedFiles.{is_of}
use Rattle.dict_format.specs.declared.file.BadLine.{BadLine}
use Rattle.dict_format.specs.declared.file.Listed.{Listed}
use Rattle.dict_format.specs.declared.reason.LineReason.{LineReason}
use Rattle.dict_format.specs.declared.reason.LineReason.TheVariants.{LongLine, NoSpace, BadReading, LongReading}
use Rattle.dict_format.specs.declared.reason.LineReason.TheVariants.{OkuriKey, NoSlash, Block, LongCandidate, Empty}
use Rattle.dict_format.specs.declared.reason.LineReason.TheVariants.{Twice}

-- the name of a reason
abbrev pub reason_name : LineReason → List ℕ
reason_name LongLine = codes "LongLine"
reason_name NoSpace = codes "NoSpace"
reason_name BadReading = codes "BadReading"
reason_name LongReading = codes "LongReading"
reason_name OkuriKey = codes "OkuriKey"
reason_name NoSlash = codes "NoSlash"
reason_name Block = codes "Block"
reason_name LongCandidate = codes "LongCandidate"
reason_name Empty = codes "Empty"
reason_name Twice = codes "Twice"

-- what is printed for a bad line: its number, and its reason
abbrev pub bad_line : BadLine → List ℕ
bad_line bad = codes "line " ++ decimal bad.line ++ codes " " ++ reason_name bad.reason ++ line_feed ∷ []

-- what is printed for bad lines, in their order
abbrev pub bad_lines : List BadLine → List ℕ
bad_lines bad = flat_map bad_line bad

-- how many of the rows are of a part
abbrev pub count_of : Part → List Row → ℕ
count_of part rows = count_by (is_of part) rows

-- the counts of the rows of each part, and of the bad lines
abbrev pub counts_line : Listed → List ℕ
counts_line listed =
    codes "okuri-ari " ++ decimal (count_of Ari listed.book) ++ codes " okuri-nasi "
    ++ decimal (count_of Nasi listed.book) ++ codes " bad " ++ decimal (length listed.bad) ++ line_feed ∷ []

-- the characters printed for what a file lists: its bad lines, and the counts
abbrev pub checked_text : Listed → List ℕ
checked_text listed = bad_lines listed.bad ++ counts_line listed

-- the bytes printed for it
abbrev pub checked : Listed → List ℕ
checked listed = encode_utf8_all (checked_text listed)
