-- A line of a dictionary, and the row that it spells.
use Rattle.std.specs.Prelude.{◌≡◌, ◌≢◌, ◌≤◌, ℕ, ◌==◌, Bool, true, not, List, [], ◌∷◌, ◌++◌, replicate}
use Rattle.std.specs.List.{list_all}
use Rattle.skk_text.specs.Text.{byte_len}
use Rattle.skk_calls.specs.declared.part.Part.{Part}
use Rattle.skk_calls.specs.Canonical.{line_limit}
use Rattle.skk_calls.specs.Rows.{Row, is_row_key}
use Rattle.exact_readers.specs.Cuts.{up_to}
use Rattle.exact_readers.specs.Formats.{Format, SpellsMany}
use Rattle.exact_readers.specs.Lacking.{lacks}
use Rattle.dict_format.specs.Items.{Item, SpellsItems}
use Rattle.dict_format.specs.RowOfItems.{item_fits, row_of_items, says_something}

-- the text does not begin with a space
abbrev pub begins_without_space : List ℕ → Bool
begins_without_space [] = true
begins_without_space (c ∷ text) = not (c == 0x20)

-- the line is the reading, which holds no space, a run of spaces, and the body behind it
pub record HasBody (line reading body : List ℕ) : Type 0 where
  pub spaces : ℕ
  pub some_space : 1 ≤ spaces
  pub line_is : line ≡ reading ++ replicate spaces 0x20 ++ body
  pub before : lacks 0x20 reading ≡ true
  pub behind : begins_without_space body ≡ true

-- a slash
abbrev pub is_slash : ℕ → Bool
is_slash c = c == 0x2F

-- a text without slashes, and the slash that ends it
abbrev pub slashed_text : Format ℕ (List ℕ)
slashed_text = up_to is_slash

-- the body is a slash and texts without slashes, one or more, each ended by a slash
pub record HasTexts (body : List ℕ) (texts : List (List ℕ)) : Type 0 where
  pub some_text : texts ≢ []
  pub behind : List ℕ
  pub body_is : body ≡ 0x2F ∷ behind
  pub spelled : SpellsMany slashed_text.Spells texts behind

-- the line of a part spells the row: it is not too long, its reading is valid in the part, the texts of its body spell
-- items that are not too long, and the row of these says something
pub record SpellsRow (part : Part) (line : List ℕ) (row : Row) : Type 0 where
  pub reading : List ℕ
  pub body : List ℕ
  pub texts : List (List ℕ)
  pub items : List Item
  pub not_long : byte_len line ≤ line_limit
  pub has_body : HasBody line reading body
  pub valid : is_row_key (record { part = part; reading = reading }) ≡ true
  pub has_texts : HasTexts body texts
  pub has_items : SpellsItems part texts items
  pub fit : list_all item_fits items ≡ true
  pub row_is : row ≡ row_of_items (record { part = part; reading = reading }) items
  pub something : says_something row ≡ true
