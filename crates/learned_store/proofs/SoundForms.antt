-- What a record keeps that may be written.
use Rattle.std.proofs.Common.{◌≡◌, ℕ, ◌≤◌, true, ◌&&◌, nat_le, List, arith}
use Rattle.std.specs.List.{list_all}
use Rattle.std.proofs.lemmas.Bool.{and_parts, leb-true}
use Rattle.std.specs.Str.{all_scalars}
use Rattle.skk_calls.specs.BookLists.{is_book_list}
use Rattle.skk_calls.specs.Canonical.{canonical, is_good, item}
use Rattle.skk_calls.specs.Rows.{RowKey, Cand, Row, is_row, is_row_key, is_cand}
use Rattle.skk_calls.specs.States.{has_stamp, fits_count}
use Rattle.learned_store.specs.declared.form.PayloadForm.TheVariants.{Put, Drop, Note, SetList}
use Rattle.learned_store.specs.Payloads.{are_held, is_held, is_sound}
use Rattle.learned_store.specs.Reading.{is_written_row}

-- what a row keeps that may be written and stands in a book of this count
pub record WrittenParts (count : ℕ) (row : Row) : Type 0 where
  pub valid : is_row row ≡ true
  pub good : is_good row ≡ true
  pub stamp : has_stamp count row ≡ true
  pub at_least : 1 ≤ row.stamp
  pub at_most : row.stamp ≤ count
  pub text : all_scalars (canonical row) ≡ true

pub written_parts : (count : ℕ) (row : Row) → is_written_row count row ≡ true → WrittenParts count row
written_parts count row written =
    let both = and_parts (fits_count count row) (all_scalars (canonical row)) written in
    let fits = and_parts (is_row row) (is_good row && has_stamp count row) both.0 in
    let good = and_parts (is_good row) (has_stamp count row) fits.1 in
    let stamp = and_parts (nat_le 1 row.stamp) (nat_le row.stamp count) good.1 in
    record {
      valid = fits.0;
      good = good.0;
      stamp = good.1;
      at_least = leb-true 1 row.stamp stamp.0;
      at_most = leb-true row.stamp count stamp.1;
      text = both.1;
    }

-- what a row keeps that may be put
pub record PutParts (book count : ℕ) (row : Row) : Type 0 where
  pub held : are_held book count ≡ true
  pub written : WrittenParts count row

pub put_parts : (book count : ℕ) (row : Row) → is_sound (Put book count row) ≡ true → PutParts book count row
put_parts book count row sound =
    record { held = grind arith; written = written_parts count row (grind arith) }

-- what a key keeps whose row may be dropped
pub record DropParts (book count : ℕ) (key : RowKey) : Type 0 where
  pub held : are_held book count ≡ true
  pub valid : is_row_key key ≡ true
  pub text : all_scalars key.reading ≡ true

pub drop_parts : (book count : ℕ) (key : RowKey) → is_sound (Drop book count key) ≡ true → DropParts book count key
drop_parts book count key sound = record { held = grind arith; valid = grind arith; text = grind arith }

-- what a note keeps that may be written
pub record NoteParts (book count : ℕ) (key : RowKey) (cand : Cand) : Type 0 where
  pub held : are_held book count ≡ true
  pub some : 1 ≤ count
  pub valid : is_row_key key ≡ true
  pub cand_is : is_cand cand ≡ true
  pub reading : all_scalars key.reading ≡ true
  pub item : all_scalars (item cand) ≡ true

pub note_parts : (book count : ℕ) (key : RowKey) (cand : Cand) → is_sound (Note book count key cand) ≡ true
    → NoteParts book count key cand
note_parts book count key cand sound =
    let texts = all_scalars key.reading && all_scalars (item cand) in
    let held = and_parts (are_held book count) (nat_le 1 count && (is_row_key key && (is_cand cand && texts))) sound in
    let some = and_parts (nat_le 1 count) (is_row_key key && (is_cand cand && texts)) held.1 in
    let valid = and_parts (is_row_key key) (is_cand cand && texts) some.1 in
    let cand_is = and_parts (is_cand cand) texts valid.1 in
    let spelled = and_parts (all_scalars key.reading) (all_scalars (item cand)) cand_is.1 in
    record {
      held = held.0;
      some = leb-true 1 count some.0;
      valid = valid.0;
      cand_is = cand_is.0;
      reading = spelled.0;
      item = spelled.1;
    }

-- what a typist's list keeps that may be written
pub record ListParts (typist : ℕ) (books : List ℕ) : Type 0 where
  pub held : is_held typist ≡ true
  pub valid : is_book_list books ≡ true
  pub numbers : list_all is_held books ≡ true

pub list_parts : (typist : ℕ) (books : List ℕ) → is_sound (SetList typist books) ≡ true → ListParts typist books
list_parts typist books sound =
    let held = and_parts (is_held typist) (is_book_list books && list_all is_held books) sound in
    let valid = and_parts (is_book_list books) (list_all is_held books) held.1 in
    record { held = held.0; valid = valid.0; numbers = valid.1 }
