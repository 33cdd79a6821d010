-- What a row and its parts keep, each by its name.
use Rattle.std.proofs.Common.{◌≡◌, ℕ, Bool, true, ◌&&◌, ◌||◌, nat_le, None, Some, Option, [], refl}
use Rattle.std.proofs.Common.{not}
use Rattle.std.specs.List.{list_all}
use Rattle.std.proofs.lemmas.Bool.{and_from, and_parts}
use Rattle.skk_text.specs.Text.{byte_len}
use Rattle.skk_text.specs.PairsLaws.{list_all-weaker}
use Rattle.skk_calls.specs.KeyLaws.{same_key_equal}
use Rattle.skk_calls.specs.declared.part.Part.{Part}
use Rattle.skk_calls.specs.declared.part.Part.TheVariants.{Nasi, Ari}
use Rattle.skk_calls.specs.Canonical.{canonical, is_good, line_limit}
use Rattle.skk_text.specs.Lists.{is_empty}
use Rattle.skk_calls.specs.Learning.{row_or_empty}
use Rattle.skk_calls.specs.Rows.{RowKey, Block, Row, is_row_key, is_word, is_block}
use Rattle.skk_calls.specs.Rows.{fits_blocks, is_row}
use Rattle.skk_calls.specs.RowLaws.{RowParts, row_parts, block_parts}
use Rattle.skk_calls.specs.States.{has_stamp}
use Rattle.dict_laws.specs.ChangedStates.{has_key}
use Rattle.dict_laws.specs.ValidStates.{fits_after}

-- each word of a block is one
abbrev pub has_words : Block → Bool
has_words block = list_all is_word block.words

-- what is known of the row of a key before a change
pub record BeforeParts (key : RowKey) (row : Row) : Type 0 where
  pub same_text : row.key ≡ key
  pub parts : RowParts row
  pub hidden : list_all is_word row.hides ≡ true

-- the words that a good row hides are words
pub good_hides : (row : Row) → is_good row ≡ true → list_all is_word row.hides ≡ true
good_hides row e =
    (and_parts (list_all is_word row.hides)
    (list_all has_words row.blocks && nat_le (byte_len (canonical row)) line_limit)
    (and_parts (not (is_empty row.cands) || (not (is_empty row.blocks) || not (is_empty row.hides)))
    (list_all is_word row.hides && (list_all has_words row.blocks && nat_le (byte_len (canonical row)) line_limit))
    e).1).0

-- each part fits no blocks
fits_no_blocks : (part : Part) → fits_blocks part [] ≡ true
fits_no_blocks Nasi = refl
fits_no_blocks Ari = refl

-- the row before a change, or the one that says nothing, has its parts
pub before_parts : (count : ℕ) (key : RowKey) (before : Option Row) → is_row_key key ≡ true → has_key key before ≡ true
    → fits_after count before ≡ true
    → BeforeParts key (row_or_empty key before)
before_parts count key None e has_text fits = record {
  same_text = refl;
  parts = record {
    key = e;
    cands = refl;
    words = refl;
    part = fits_no_blocks key.part;
    blocks = refl;
    okuri = refl;
    hides = refl;
  };
  hidden = refl;
}
before_parts count key (Some row) e has_text fits = record {
  same_text = same_key_equal row.key key has_text;
  parts = row_parts row (and_parts (is_row row) (is_good row && has_stamp count row) fits).0;
  hidden =
      good_hides row (and_parts (is_good row) (has_stamp count row)
      (and_parts (is_row row) (is_good row && has_stamp count row) fits).1).0;
}

-- a row that says something, hides words alone and is short is good
pub good_from_parts : (row : Row) → RowParts row → list_all is_word row.hides ≡ true
    → (not (is_empty row.cands) || (not (is_empty row.blocks) || not (is_empty row.hides))) ≡ true
    → nat_le (byte_len (canonical row)) line_limit ≡ true → is_good row ≡ true
good_from_parts row parts hidden says short =
    let words : list_all has_words row.blocks ≡ true =
    list_all-weaker is_block has_words (λ (block : Block) (e : is_block block ≡ true). (block_parts block e).words)
    row.blocks parts.blocks in
    and_from (not (is_empty row.cands) || (not (is_empty row.blocks) || not (is_empty row.hides)))
    (list_all is_word row.hides && (list_all has_words row.blocks && nat_le (byte_len (canonical row)) line_limit)) says
    (and_from (list_all is_word row.hides)
    (list_all has_words row.blocks && nat_le (byte_len (canonical row)) line_limit) hidden
    (and_from (list_all has_words row.blocks) (nat_le (byte_len (canonical row)) line_limit) words short))
