-- A dictionary file: its lines, and the rows and bad lines that they come to.
use Rattle.std.specs.Prelude.{◌≡◌, ◌⊎◌, ◌≤◌, ℕ, ◌+◌, Bool, true, false, if◌then◌else◌, List, [], ◌∷◌, ◌++◌, length}
use Rattle.std.specs.List.{list_any}
use Rattle.std.specs.Str.{IsUtf8, chars}
use Rattle.skk_text.specs.Lines.{lines_of}
use Rattle.skk_calls.specs.declared.part.Part.{Part}
use Rattle.skk_calls.specs.declared.part.Part.TheVariants.{Nasi, Ari}
use Rattle.skk_calls.specs.Rows.{Row, RowKey, begins_well, same_text, same_key}
use Rattle.exact_readers.specs.Trimming.{without_mark, trimmed_line}
use Rattle.dict_format.specs.declared.file.Listed.{Listed}
use Rattle.dict_format.specs.declared.file_lines.LineKind.{LineKind}
use Rattle.dict_format.specs.declared.file_lines.LineKind.TheVariants.{Opening, Entry, Skipped}
use Rattle.dict_format.specs.declared.reason.LineReason.{LineReason}
use Rattle.dict_format.specs.declared.reason.LineReason.TheVariants.{Twice}
use Rattle.dict_format.specs.Lines.{SpellsRow}
use Rattle.dict_format.specs.PrintedFiles.{part_line}
use Rattle.dict_format.specs.Reasons.{IsReason}

-- the most bytes of a file
abbrev pub file_limit : ℕ
file_limit = 67108864

-- what a line is, by what is read of it: a part line opens its part; it is skipped where it is empty or a comment; any
-- other is an entry
abbrev pub kind_of : List ℕ → LineKind
kind_of line =
    if same_text line (part_line Ari) then Opening Ari
    else if same_text line (part_line Nasi) then Opening Nasi
    else if begins_well line then Entry
    else Skipped

-- an entry of a file: the number of its line, its part, and its text
pub record FileEntry : Type 0 where
  pub number : ℕ
  pub part : Part
  pub text : List ℕ

-- the part in which the lines behind a line of this kind stand, where that line stands in the other
abbrev pub part_behind : LineKind → Part → Part
part_behind (Opening opened) part = opened
part_behind Entry part = part
part_behind Skipped part = part

-- the entry that a line of this kind is, if it is one
abbrev pub entry_of : LineKind → ℕ → Part → List ℕ → List FileEntry
entry_of (Opening opened) number part line = []
entry_of Entry number part line = record { number = number; part = part; text = chars line } ∷ []
entry_of Skipped number part line = []

-- the entries among lines, of which the first has this number and stands in this part
abbrev pub entries_from : ℕ → Part → List (List ℕ) → List FileEntry
entries_from number part [] = []
entries_from number part (line ∷ lines) =
    let kind = kind_of (trimmed_line line) in
    entry_of kind number part (trimmed_line line) ++ entries_from (number + 1) (part_behind kind part) lines

-- the entries of a file: before the first part line they are of the okuri-nasi part
abbrev pub entries_of : List ℕ → List FileEntry
entries_of bytes = entries_from 1 Nasi (lines_of (without_mark bytes))

-- one of the rows has this key
abbrev pub has_key : List Row → RowKey → Bool
has_key rows key = list_any (λ row. same_key row.key key) rows

-- an entry spells this row, whose key none of these rows has
abbrev pub GivesRow : List Row → FileEntry → Row → Type 0
GivesRow before entry row = SpellsRow entry.part entry.text row × (has_key before row.key ≡ false)

-- an entry is refused for this reason: it is the first that fits its line, or one of these rows has the key of the row
-- that the entry spells
abbrev pub Refuses : List Row → FileEntry → LineReason → Type 0
Refuses before entry reason =
    IsReason entry.part entry.text reason
    ⊎ ((reason ≡ Twice) × (row : Row) × SpellsRow entry.part entry.text row × (has_key before row.key ≡ true))

-- an entry takes what was listed before it to this: with its row, or with its line as a bad one
abbrev pub Takes : Listed → FileEntry → Listed → Type 0
Takes before entry after =
    ((row : Row) × GivesRow before.book entry row
    × (after ≡ record { book = before.book ++ row ∷ []; bad = before.bad }))
    ⊎ ((reason : LineReason) × Refuses before.book entry reason
    × (after ≡ record { book = before.book; bad = before.bad ++ record { line = entry.number; reason = reason } ∷ [] }))

-- entries, one after another, take what was listed before them to this
abbrev pub TakeAll : Listed → List FileEntry → Listed → Type 0
TakeAll before [] after = after ≡ before
TakeAll before (entry ∷ entries) after = (next : Listed) × Takes before entry next × TakeAll next entries after

-- nothing is listed
abbrev pub none_listed : Listed
none_listed = record { book = []; bad = [] }

-- the bytes of a file list these rows and these bad lines: they are not too many, are UTF-8, and their entries
-- come to that
pub record Lists (bytes : List ℕ) (listed : Listed) : Type 0 where
  pub not_long : length bytes ≤ file_limit
  pub valid : IsUtf8 bytes
  pub entries : TakeAll none_listed (entries_of bytes) listed

-- bytes list these rows, whatever bad lines they have
abbrev pub ListsRows : List ℕ → List Row → Type 0
ListsRows bytes rows = (listed : Listed) × Lists bytes listed × (listed.book ≡ rows)
