-- What is read of a line, level by level: what the functions of the code that read it give.
use Rattle.std.specs.Prelude.{ℕ, Bool, ◌==◌, nat_lt, if◌then◌else◌, Option, None, Some, Result, Ok, Err, List, codes}
use Rattle.std.specs.List.{list_all}
use Rattle.skk_text.specs.Text.{byte_len}
use Rattle.skk_calls.specs.declared.part.Part.{Part}
use Rattle.skk_calls.specs.Canonical.{line_limit}
use Rattle.skk_calls.specs.Rows.{Row, RowKey, reading_limit}
use Rattle.exact_readers.specs.Cuts.{cut, without_spaces}
use Rattle.exact_readers.specs.Formats.{past, then_at, all}
use Rattle.dict_format.specs.declared.reason.LineReason.{LineReason}
use Rattle.dict_format.specs.declared.reason.LineReason.TheVariants as reasons
use Rattle.dict_format.specs.Items.{Item, item_format}
use Rattle.dict_format.specs.Lines.{slashed_text}
use Rattle.dict_format.specs.Reasons.{is_bad_reading, lacks_letter}
use Rattle.dict_format.specs.RowOfItems.{item_fits, row_of_items, says_something}
use Rattle.dict_format.specs.Words.{if_some}

-- a value, or the reason why there is none
abbrev pub or_reason : {X : Type 0} → LineReason → Option X → Result X LineReason
or_reason reason None = Err reason
or_reason reason (Some x) = Ok x

-- a value, what a function makes of it, or the reason why there is none
abbrev pub and_then : {X Y : Type 0} → Result X LineReason → (X → Result Y LineReason) → Result Y LineReason
and_then (Ok x) f = f x
and_then (Err reason) f = Err reason

-- the texts between the slashes of a body
unfoldable pub texts_at : List ℕ → Option (List (List ℕ))
texts_at body = then_at (past (codes "/") body) (λ behind. then_at (all slashed_text behind) if_some)

-- the key of a reading
unfoldable pub key_at : Part → List ℕ → Result RowKey LineReason
key_at part reading =
    if is_bad_reading reading then Err reasons.BadReading
    else if nat_lt (reading_limit part) (byte_len reading) then Err reasons.LongReading
    else if lacks_letter part reading then Err reasons.OkuriKey
    else Ok (record { part = part; reading = reading })

-- the items that texts spell, none of which is too long
unfoldable pub fit_items_at : Part → List (List ℕ) → Result (List Item) LineReason
fit_items_at part texts =
    and_then (or_reason reasons.Block (all (item_format part) texts))
    (λ items. if list_all item_fits items then Ok items else Err reasons.LongCandidate)

-- the row of items, which says something
unfoldable pub some_row_of : RowKey → List Item → Result Row LineReason
some_row_of key items =
    let row = row_of_items key items in
    if says_something row then Ok row else Err reasons.Empty

-- a space
abbrev pub is_space : ℕ → Bool
is_space c = c == 0x20

-- the row that the parts of a line before and behind its first space spell
unfoldable pub row_reading : Part → List ℕ × List ℕ → Result Row LineReason
row_reading part line =
    and_then (key_at part line.0) (λ key.
    and_then (or_reason reasons.NoSlash (texts_at (without_spaces line.1))) (λ texts.
    and_then (fit_items_at part texts) (some_row_of key)))

-- the key of the row that a line spells, or its first reason if that is one of the line or of its reading
unfoldable pub key_reading : Part → List ℕ → Result RowKey LineReason
key_reading part line =
    if nat_lt line_limit (byte_len line) then Err reasons.LongLine
    else and_then (or_reason reasons.NoSpace (cut is_space line)) (λ parts. key_at part parts.0)

-- the row that a line spells, or its first reason
unfoldable pub line_reading : Part → List ℕ → Result Row LineReason
line_reading part line =
    if nat_lt line_limit (byte_len line) then Err reasons.LongLine
    else and_then (or_reason reasons.NoSpace (cut is_space line)) (row_reading part)
