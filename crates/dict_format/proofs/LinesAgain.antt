-- The canonical line of a good row spells that row; it begins well, holds no LF, and ends in a slash.
use Rattle.std.proofs.Common.{◌≡◌, not, ℕ, true, ◌==◌, nat_le, List, [], ◌∷◌, ◌++◌, codes, refl, sym, ap, ◌∙◌}
use Rattle.std.proofs.Common.{arith, append_assoc}
use Rattle.std.specs.List.{flat_map, list_all}
use Rattle.std.proofs.lemmas.Bool.{both_ways, leb-true}
use Rattle.skk_text.specs.Text.{byte_len}
use Rattle.skk_calls.specs.Canonical.{canonical, with_slash, items, is_good, line_limit}
use Rattle.skk_calls.specs.RowLaws.{RowParts, row_parts}
use Rattle.skk_calls.specs.Rows.{Row, begins_well, is_note, is_note_char, is_reading_char, is_word, is_row}
use Rattle.exact_readers.specs.LackLaws.{both_lack, each_passes, lacks-failing}
use Rattle.exact_readers.specs.Lacking.{lacks}
use Rattle.exact_readers.specs.ManyLaws.{all-once, many-printed}
use Rattle.dict_format.specs.Lines.{slashed_text, SpellsRow}
use Rattle.dict_format.specs.RowOfItems.{row_of_items, says_something}
use Rattle.dict_format.proofs.Exactness.{item_exact}
use Rattle.dict_format.proofs.ItemsAgain.{AreTexts, row_items, row_texts}
use Rattle.dict_format.proofs.RowsBack.{row_back}

begins_behind : (text more : List ℕ) → begins_well text ≡ true → begins_well (text ++ more) ≡ true
begins_behind text more begins = grind arith

module _ (row : Row) (valid : is_row row ≡ true) (good : is_good row ≡ true) where
  parts : RowParts row
  parts = row_parts row valid

  reading_chars : list_all is_reading_char row.key.reading ≡ true
  reading_chars = grind (arith, parts.key)

  pub canonical_begins : begins_well (canonical row) ≡ true
  canonical_begins = begins_behind row.key.reading _ (grind (arith, parts.key))

  hides : list_all is_word row.hides ≡ true
  hides = grind arith

  something : says_something row ≡ true
  something = grind arith

  not_long : nat_le (byte_len (canonical row)) line_limit ≡ true
  not_long = grind arith

  are : AreTexts row.key.part (items row) (row_items row)
  are = row_texts row parts hides

  -- the canonical line spells the row with stamp 0
  pub canonical_spells : SpellsRow row.key.part (canonical row) (record row { stamp = 0 })
  canonical_spells =
      let body = 0x2F ∷ flat_map with_slash (items row) in
      let back = row_back row parts hides in
      record {
        reading = row.key.reading;
        body = body;
        texts = are.texts;
        items = row_items row;
        not_long = leb-true (byte_len (canonical row)) line_limit not_long;
        has_body = record {
          spaces = 1;
          some_space = omega arith;
          line_is = sym (append_assoc row.key.reading (0x20 ∷ []) body);
          before = lacks-failing is_reading_char 0x20 refl row.key.reading reading_chars;
          behind = refl;
        };
        valid = parts.key;
        has_texts = record {
          some_text = λ none.
              let no_items = all-once _ (item_exact row.key.part) (row_items row) [] are.texts are.spell none in
              both_ways (says_something row) (ap says_something (sym back ∙ ap (row_of_items row.key) no_items))
              something;
          behind = flat_map with_slash are.texts;
          body_is = ap (λ ys. 0x2F ∷ ys) are.ended;
          spelled =
              many-printed slashed_text is_note with_slash
              (record { spells = λ text e. (0x2F, refl, lacks-failing is_note_char 0x2F refl text e, refl) })
              are.texts are.noted;
        };
        has_items = are.spell;
        fit = are.fit;
        row_is = sym back;
        something = something;
      }

  pub canonical_lacks : lacks 10 (canonical row) ≡ true
  canonical_lacks =
      ap (λ ys. lacks 10 (row.key.reading ++ 0x20 ∷ 0x2F ∷ ys)) are.ended
      ∙ both_lack 10 row.key.reading (0x20 ∷ 0x2F ∷ flat_map with_slash are.texts)
      (lacks-failing is_reading_char 10 refl row.key.reading reading_chars)
      (each_passes is_note (λ c. not (c == 10)) with_slash
      (λ text e. both_lack 10 text (codes "/") (lacks-failing is_note_char 10 refl text e) refl) are.texts are.noted)

pub canonical_ends : (row : Row) → (front : List ℕ) × (canonical row ≡ front ++ 0x2F ∷ [])
canonical_ends row =
    let (front, is) = ends (items row) in (
      row.key.reading ++ 0x20 ∷ front,
      ap (λ ys. row.key.reading ++ 0x20 ∷ ys) is ∙ sym (append_assoc row.key.reading (0x20 ∷ front) (0x2F ∷ [])),
    )
  where
    ends : (texts : List (List ℕ)) → (front : List ℕ) × (0x2F ∷ flat_map with_slash texts ≡ front ++ 0x2F ∷ [])
    ends [] = ([], refl)
    ends (text ∷ texts) = let more = ends texts in (0x2F ∷ text ++ more.0, simp (append_assoc, more.1))
