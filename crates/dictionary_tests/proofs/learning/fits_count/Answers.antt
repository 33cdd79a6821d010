use Rattle.std.proofs.Common.{◌≡◌, ◌≤◌, ◌||◌, ◌&&◌, ℕ, Bool, true, false, refl, min, nat_le, length, ap, sym, subst}
use Rattle.std.proofs.Common.{◌∙◌, arith, not}
use Rattle.std.specs.List.{list_all}
use Rattle.std.proofs.lemmas.Bool.{and_from, OnTrue_from}
use Rattle.std.proofs.lemmas.Bool.Decides.{nat_tests}
use Rattle.std.proofs.lemmas.List.{nil_from_length}
use Rattle.skk_text.specs.Counts.{last_count}
use Rattle.skk_text.specs.PairsLaws.{list_all-weaker}
use Rattle.skk_text.specs.Text.{byte_len}
use Rattle.skk_calls.specs.Canonical.{canonical, is_good, line_limit}
use Rattle.skk_text.specs.Lists.{is_empty}
use Rattle.skk_calls.specs.Dictionary.{line_length}
use Rattle.skk_calls.specs.RowLaws.{block_parts, row_parts}
use Rattle.skk_calls.specs.Rows.{Row, is_block, is_row, is_word}
use Rattle.skk_calls.specs.States.{fits_count, has_stamp}
use Rattle.dictionary_tests.proofs.learning.fits_count.Goals as goal

fits : (row : Row) (count : ℕ) → is_row row ≡ true → length row.hides ≤ 0 → line_length row ≤ 65535
    → (not (is_empty row.cands) || not (is_empty row.blocks)) ≡ true → has_stamp count row ≡ true
    → fits_count count row ≡ true
fits row count valid none short says stamped =
    and_from (is_row row) (is_good row && has_stamp count row) valid
    (and_from (is_good row) (has_stamp count row)
    (and_from (not (is_empty row.cands) || (not (is_empty row.blocks) || not (is_empty row.hides)))
    (list_all is_word row.hides
    && (list_all (λ block. list_all is_word block.words) row.blocks && nat_le (byte_len (canonical row)) line_limit))
    (some (not (is_empty row.cands)) (not (is_empty row.blocks)) (not (is_empty row.hides)) says)
    (and_from (list_all is_word row.hides)
    (list_all (λ block. list_all is_word block.words) row.blocks && nat_le (byte_len (canonical row)) line_limit)
    (ap (list_all is_word) (nil_from_length row.hides (omega (arith, none))))
    (and_from (list_all (λ block. list_all is_word block.words) row.blocks)
    (nat_le (byte_len (canonical row)) line_limit)
    (list_all-weaker is_block (λ block. list_all is_word block.words) (λ block e. (block_parts block e).words)
    row.blocks (row_parts row valid).blocks)
    (low (byte_len (canonical row)) short))))
    stamped)
  where
    some : (a b d : Bool) → (a || b) ≡ true → (a || (b || d)) ≡ true
    some true b d e = refl
    some false true d e = refl
    some false false d e = cc

    low : (n : ℕ) → min n last_count ≤ 65535 → nat_le n 65535 ≡ true
    low n e = grind (arith, nat_tests)

pub returns : goal.returns
returns c =
    OnTrue_from c.has_stamp.result (fits_count c.args.count c.args.row.now ≡ true)
    (λ e. fits c.args.row.now c.args.count c.hides.ensures.valid
    (omega (arith, c.if-len-gt0.false, c.len.ensures, ap length c.hides.ensures.value))
    (subst (λ n. n ≤ 65535) c.line_length.ensures c.if-line_length-gt65535.false)
    (sym c.has_words.ensures ∙ c.if-not-has_words.false) (sym c.has_stamp.ensures ∙ e))
