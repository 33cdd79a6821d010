-- The row that is read of a line that is its own.
use Rattle.std.proofs.Common.{◌≡◌, ◌↔◌, inl, inr, ℕ, Bool, true, not, ◌&&◌, ◌==◌, nat_le, length}
use Rattle.std.proofs.Common.{Some}
use Rattle.std.proofs.Common.{List, [], ◌∷◌, refl, sym, ◌∙◌, ap, subst, arith}
use Rattle.std.specs.List.{list_all, flat_map}
use Rattle.std.proofs.lemmas.Bool.{and_parts, and_from, eqb-true, le-leb}
use Rattle.std.proofs.lemmas.Option.{none-some, same_Some}
use Rattle.exact_readers.specs.ExactLaws.{chosen, then_at-some}
use Rattle.exact_readers.specs.Formats.{then_at}
use Rattle.std.proofs.lemmas.List.Folds.{list_all-append}
use Rattle.skk_text.specs.Lists.{is_empty}
use Rattle.skk_text.specs.PairsLaws.{list_all-kept, list_all-weaker}
use Rattle.skk_calls.specs.declared.part.Part.{Part}
use Rattle.skk_calls.specs.Canonical.{canonical, is_good}
use Rattle.skk_calls.specs.Found.{first_of_each}
use Rattle.skk_calls.specs.RowLaws.{row_parts, block_parts}
use Rattle.skk_calls.specs.KeyLaws.{same_equal, same_itself}
use Rattle.skk_calls.specs.Rows.{Block, Row, is_block, is_row, is_word, same_text}
use Rattle.dict_format.specs.EntryRows.{HasKey, row_of_line}
use Rattle.dict_format.specs.Items.{Item}
use Rattle.dict_format.specs.Lines.{SpellsRow}
use Rattle.dict_format.specs.RowOfItems.{fits, item_fits, hidden_in, not_empty, words_once}
use Rattle.learned_store.specs.Reading.{if_own, is_line_row, line_row, parted_row}

-- Words that a row hides

-- a text that is not empty has a character
some_longer : (text : List ℕ) → not (is_empty text) ≡ true → nat_le 1 (length text) ≡ true
some_longer [] e = cc
some_longer (c ∷ text) e = le-leb 1 (length (c ∷ text)) (omega arith)

-- what holds of all texts holds of the first of each
firsts_kept : (p : List ℕ → Bool) (seen texts : List (List ℕ)) → list_all p texts ≡ true
    → list_all p (first_of_each (λ text. text) seen texts) ≡ true
firsts_kept p seen [] all = refl
firsts_kept p seen (text ∷ texts) all =
    grind (arith, firsts_kept p seen texts, firsts_kept p (text ∷ seen) texts)

words_fit : (words : List (List ℕ)) → list_all fits words ≡ true → list_all is_word (words_once words) ≡ true
words_fit words fit =
    firsts_kept is_word [] (not_empty words)
    (list_all-kept fits (λ word. not (is_empty word)) is_word
    (λ word short some. and_from (nat_le 1 (length word)) (fits word) (some_longer word some) short) words fit)

hidden_fit : (items : List Item) → list_all item_fits items ≡ true → list_all fits (flat_map hidden_in items) ≡ true
hidden_fit [] fit = refl
hidden_fit (item ∷ items) fit =
    grind (arith, list_all-append fits (hidden_in item) (flat_map hidden_in items), hidden_fit items)

-- Rows

-- each word of a block is one
abbrev has_words : Block → Bool
has_words b = list_all is_word b.words

-- a row that its own line spells is good
spelled_good : (part : Part) (line : List ℕ) (row : Row) → SpellsRow part line row → is_row row ≡ true
    → canonical row ≡ line → is_good row ≡ true
spelled_good part line row spells valid own =
    let blocks : list_all has_words row.blocks ≡ true =
    list_all-weaker is_block has_words (λ (b : Block) (e : is_block b ≡ true). (block_parts b e).words) row.blocks
    (row_parts row valid).blocks in
    grind (
      arith,
      spells.row_is,
      words_fit (flat_map hidden_in spells.items) (hidden_fit spells.items spells.fit),
      spells.not_long,
      spells.something,
    )

-- each good row is read again from its line
abbrev pub LinesAreRead : Type 0
LinesAreRead =
    (row : Row) → is_row row ≡ true → is_good row ≡ true
    → row_of_line row.key.part (canonical row) ≡ Some (record row { stamp = 0 })

-- what is read of a line is a row of its part that the line spells
pub record LinesAreRows : Type 0 where
  pub read : (part : Part) (line : List ℕ) (row : Row) → SpellsRow part line row ↔ (row_of_line part line ≡ Some row)
  pub valid : (part : Part) (line : List ℕ) (row : Row) → SpellsRow part line row → is_row row ≡ true
  pub key : (part : Part) (line : List ℕ) (row : Row) → SpellsRow part line row → HasKey part line row

-- so good rows are read again where their lines spell them
pub lines_are_read :
    ((row : Row) → is_row row ≡ true → is_good row ≡ true
    → SpellsRow row.key.part (canonical row) (record row { stamp = 0 }))
    → ((part : Part) (line : List ℕ) (row : Row) → SpellsRow part line row ↔ (row_of_line part line ≡ Some row))
    → LinesAreRead
lines_are_read again read row valid good =
    (read row.key.part (canonical row) (record row { stamp = 0 })).0 (again row valid good)

-- the row of a stamp that is read of its own line has that part and that line
pub own_sound : LinesAreRows → (part : Part) (line : List ℕ) (stamp : ℕ) (row : Row)
    → line_row stamp (part, line) ≡ Some row → (is_line_row stamp row ≡ true) × ((part, line) ≡ parted_row row)
own_sound lines part line stamp row e =
    let found = then_at-some (row_of_line part line) (if_own stamp line) row e in
    let spelled = found.0 in
    let spells = (lines.read part line spelled).1 found.1 in
    elim (chosen (same_text (canonical spelled) line) _ _ _ found.2) [
      | inl is ↦
          let own = same_equal (canonical spelled) line is.0 in
          subst (λ (r : Row). (is_line_row stamp r ≡ true) × ((part, line) ≡ parted_row r))
          (same_Some (record spelled { stamp = stamp }) row is.1) (
            grind (
              arith,
              spelled_good part line spelled spells (lines.valid part line spelled spells) own,
              lines.valid part line spelled spells,
            ),
            ap (λ (p : Part). (p, line)) (sym (lines.key part line spelled spells).part_is)
                ∙ ap (λ (l : List ℕ). (spelled.key.part, l)) (sym own),
          )
      | inr none ↦ absurd (none-some row none.1)
    ]

-- and a row is read again of its own line
pub own_complete : LinesAreRead → (stamp : ℕ) (row : Row) → is_line_row stamp row ≡ true
    → line_row stamp (parted_row row) ≡ Some row
own_complete read stamp row sound =
    let valid = and_parts (is_row row) (is_good row && row.stamp == stamp) sound in
    let good = and_parts (is_good row) (row.stamp == stamp) valid.1 in
    ap (λ o. then_at o (if_own stamp (canonical row))) (read row valid.0 good.0)
    ∙ grind (arith, same_itself (canonical row), eqb-true row.stamp stamp good.1)

-- so a row that a line is known to be the own line of is read of it
pub plain_read : LinesAreRead → (part : Part) (line : List ℕ) (stamp : ℕ) (row : Row) → is_line_row stamp row ≡ true
    → (part, line) ≡ parted_row row → Some row ≡ line_row stamp (part, line)
plain_read read part line stamp row sound own =
    sym (ap (line_row stamp) own ∙ own_complete read stamp row sound)
