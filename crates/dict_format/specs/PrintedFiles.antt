-- A whole dictionary file as it is printed.
use Rattle.std.specs.Prelude.{◌≡◌, ℕ, Bool, true, List, ◌∷◌, ◌++◌, codes, map}
use Rattle.std.specs.List.{filter, flat_map, list_all}
use Rattle.exact_readers.specs.Lines.{with_line_end}
use Rattle.skk_calls.specs.declared.part.Part.{Part}
use Rattle.skk_calls.specs.declared.part.Part.TheVariants.{Nasi, Ari}
use Rattle.skk_calls.specs.Canonical.{canonical}
use Rattle.skk_calls.specs.Orders.{sort_by, text_less}
use Rattle.skk_calls.specs.Rows.{Row, is_row, keys_differ, same_part}

-- a row is of a part
abbrev pub is_of : Part → Row → Bool
is_of part row = same_part row.key.part part

-- a row of a part is printed before another: without okurigana where its reading is less by its bytes, and with it
-- where the other's is
abbrev pub is_printed_before : Part → Row → Row → Bool
is_printed_before Nasi row other = text_less row.key.reading other.key.reading
is_printed_before Ari row other = text_less other.key.reading row.key.reading

-- the rows of a part in the order in which they are printed
abbrev pub part_in_order : Part → List Row → List Row
part_in_order part rows = sort_by (is_printed_before part) (filter (is_of part) rows)

-- the rows in the order in which they are printed: those with okurigana, descending,
-- and then those without it, ascending
abbrev pub in_printing_order : List Row → List Row
in_printing_order rows = part_in_order Ari rows ++ part_in_order Nasi rows

-- the line that opens a part
abbrev pub part_line : Part → List ℕ
part_line Nasi = codes ";; okuri-nasi entries."
part_line Ari = codes ";; okuri-ari entries."

-- the text of a part: its line, and the lines of its rows
abbrev pub printed_part : Part → List Row → List ℕ
printed_part part rows = flat_map with_line_end (part_line part ∷ map canonical (part_in_order part rows))

-- the text of a file: the part with okurigana, and then the one without it
abbrev pub printed_file : List Row → List ℕ
printed_file rows = printed_part Ari rows ++ printed_part Nasi rows

-- a row as a file has it, with stamp 0
abbrev pub without_stamp : Row → Row
without_stamp row = record row { stamp = 0 }

-- what is kept of the rows of a book: their keys differ, and each is valid
pub record AreOfBook (rows : List Row) : Type 0 where
  pub differ : keys_differ rows ≡ true
  pub valid : list_all is_row rows ≡ true
