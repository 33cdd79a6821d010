-- What the search is told at some functions.
use Rattle.std.proofs.Common.{◌≡◌, map, ℕ, false, List, [], ◌∷◌, ◌++◌, ◌∙◌, codes, append_assoc, append-nil}
pub use Rattle.std.specs.Str.{chars}
use Rattle.std.specs.List.{flat_map, list_all}
use Rattle.std.proofs.lemmas.Grind.{common_steps}
use Rattle.std.proofs.lemmas.List.Concat.{flat_map-append}
use Rattle.std.proofs.lemmas.List.Elements.{filter_more}
use Rattle.std.proofs.lemmas.List.Folds.{flat_map-map, list_all-map, list_all_more}
use Rattle.std.proofs.lemmas.Str.{chars-nil, encodes-chars}
use Rattle.skk_text.specs.Lists.{is_empty}
use Rattle.skk_calls.specs.Canonical.{canonical, with_slash, item, written_block, mark_items, quoted}
use Rattle.skk_calls.specs.Rows.{Row}
use Rattle.dict_format.specs.RowOfItems.{item_fits}
use Rattle.dict_format.specs.Views.{item_said}
use Rattle.dict_format.specs.declared.items.Item.{Item as MadeItem}

-- the items that are kept so far, and what all so far pass, with one more
pub ruleset one_more = (common_steps, filter_more, list_all_more)

-- one mark with its slash
pub mark_some : (hides : List (List ℕ)) → is_empty hides ≡ false → flat_map with_slash (mark_items hides)
    ≡ codes "(skk-ignore-dic-word" ++ flat_map (λ w. 0x20 ∷ quoted w) hides ++ codes ")/"
mark_some [] e = cc
mark_some (word ∷ words) e =
    let front = codes "(skk-ignore-dic-word" ++ flat_map (λ w. 0x20 ∷ quoted w) (word ∷ words) in
    append-nil (with_slash (front ++ codes ")")) ∙ append_assoc front (codes ")") (0x2F ∷ [])

pub ruleset marks = (common_steps, mark_some)

-- the bytes of characters
pub ruleset bytes = (common_steps, encodes-chars)

pub ruleset no_text = (common_steps, chars-nil)

-- the line of a row behind a text
pub line_is : (text : List ℕ) (row : Row) → text ++ canonical row
    ≡ (((text ++ row.key.reading) ++ codes " /") ++ flat_map (λ cand. with_slash (item cand)) row.cands)
    ++ flat_map (λ block. with_slash (written_block block)) row.blocks ++ flat_map with_slash (mark_items row.hides)
line_is text row = simp (flat_map-append, flat_map-map, append_assoc)

-- whether items fit
pub items_fit : (items : List MadeItem)
    → list_all item_fits (map item_said items) ≡ list_all (λ item. item_fits (item_said item)) items
items_fit items = list_all-map item_fits item_said items
