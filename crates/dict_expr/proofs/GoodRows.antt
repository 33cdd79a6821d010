-- Which rows can be read again once they are printed.
use Rattle.std.proofs.Common.{◌≡◌, ◌∙◌, ◌<◌, ◌≤◌, ℕ, true, false, not, nat_le, nat_lt, min, Option, None, Some, List}
use Rattle.std.proofs.Common.{[]}
use Rattle.std.proofs.Common.{◌∷◌, find, refl, sym, ap, arith}
use Rattle.std.specs.List.{list_all}
use Rattle.std.specs.List.Sorted.{IsPermutation}
use Rattle.std.specs.Option.{option_map, option_or}
use Rattle.std.proofs.lemmas.Bool.{and_from, and_parts}
use Rattle.std.proofs.lemmas.Bool.Decides.{nat_tests}
use Rattle.std.proofs.lemmas.List.Folds.{find-append}
use Rattle.std.proofs.lemmas.List.Sorted.{IsPermutation-sym}
use Rattle.skk_text.specs.FilterLaws.{none_found}
use Rattle.skk_text.specs.Counts.{last_count}
use Rattle.skk_text.specs.Text.{byte_len}
use Rattle.ordered_lists.specs.OrderLaws.{holds_moved}
use Rattle.skk_calls.specs.declared.part.Part.TheVariants.{Nasi, Ari}
use Rattle.skk_calls.specs.Canonical.{canonical, is_good, line_limit}
use Rattle.skk_calls.specs.Dictionary.{line_length}
use Rattle.skk_calls.specs.RowLaws.{block_parts, row_parts}
use Rattle.skk_calls.specs.Rows.{Block, Row, is_block, is_row, is_word}
use Rattle.dict_format.specs.PrintedFiles.{in_printing_order, part_in_order}
use Rattle.dict_expr.specs.Books.{first_too_big, is_too_big, says_something, too_big_told}

-- a line is too long where what is told of its length is
long_told : (bytes : ℕ) → nat_lt line_limit (min bytes last_count) ≡ nat_lt line_limit bytes
long_told bytes = grind (arith, nat_tests)

pub length_told : (row : Row) → nat_lt line_limit (line_length row) ≡ is_too_big row
length_told row = long_told (byte_len (canonical row))

pub long_row : (row : Row) (bytes : ℕ) → bytes ≡ line_length row → line_limit < bytes → is_too_big row ≡ true
long_row row bytes is long =
    sym (length_told row) ∙ ap (nat_lt line_limit) (sym is) ∙ grind (arith, nat_tests)

pub short_row : (row : Row) (bytes : ℕ) → bytes ≡ line_length row → bytes ≤ line_limit → is_too_big row ≡ false
short_row row bytes is short =
    sym (length_told row) ∙ ap (nat_lt line_limit) (sym is) ∙ grind (arith, nat_tests)

-- the first line that is too long is that of the okuri-ari part, and where it has none that of the other
or_told : (f : Row → ℕ) (first second : Option Row)
    → option_map f (option_or first second) ≡ option_or (option_map f first) (option_map f second)
or_told f None second = refl
or_told f (Some row) second = refl

pub parts_told : (rows : List Row) → option_map line_length (first_too_big rows)
    ≡ option_or (too_big_told (part_in_order Ari rows)) (too_big_told (part_in_order Nasi rows))
parts_told rows =
    ap (option_map line_length) (find-append is_too_big (part_in_order Ari rows) (part_in_order Nasi rows))
    ∙ or_told line_length (find is_too_big (part_in_order Ari rows)) (find is_too_big (part_in_order Nasi rows))

-- the words of blocks are words
block_words : (blocks : List Block) → list_all is_block blocks ≡ true
    → list_all (λ block. list_all is_word block.words) blocks ≡ true
block_words [] all = refl
block_words (block ∷ blocks) all =
    let parts = block_parts block (grind arith) in grind (arith, parts.words, block_words blocks)

-- a line that is not too long
short_line : (bytes : ℕ) → nat_lt line_limit bytes ≡ false → nat_le bytes line_limit ≡ true
short_line bytes e = grind (arith, nat_tests)

-- a row that says something on a line that is not too long is a good one
good_row : (row : Row) → is_row row ≡ true → says_something row ≡ true → not (is_too_big row) ≡ true
    → is_good row ≡ true
good_row row is says fits =
    let parts = row_parts row is in
    grind (arith, says, block_words row.blocks parts.blocks, short_line (byte_len (canonical row)) (grind arith))

good_each : (rows : List Row) → list_all is_row rows ≡ true → list_all says_something rows ≡ true
    → list_all (λ row. not (is_too_big row)) rows ≡ true → list_all is_good rows ≡ true
good_each [] are say fit = refl
good_each (row ∷ rows) are say fit =
    let is = and_parts (is_row row) (list_all is_row rows) are in
    let says = and_parts (says_something row) (list_all says_something rows) say in
    let fits = and_parts (not (is_too_big row)) (list_all (λ r. not (is_too_big r)) rows) fit in
    and_from (is_good row) (list_all is_good rows) (good_row row is.0 says.0 fits.0) (good_each rows is.1 says.1 fits.1)

-- so are all of which none has a line that is too long
pub all_good : (rows : List Row) → IsPermutation rows (in_printing_order rows) → list_all is_row rows ≡ true
    → list_all says_something rows ≡ true → first_too_big rows ≡ None → list_all is_good rows ≡ true
all_good rows moves are say none =
    good_each rows are say
    (holds_moved (λ row. not (is_too_big row)) (in_printing_order rows) rows
    (IsPermutation-sym rows (in_printing_order rows) moves)
    (none_found is_too_big (in_printing_order rows) none))
