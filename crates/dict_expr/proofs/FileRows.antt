-- The rows of a file say something, and their hidden words are words.
use Rattle.std.proofs.Common.{◌≡◌, ◌∙◌, inl, inr, ℕ, true, not, List, [], ◌∷◌}
use Rattle.std.proofs.Common.{refl}
use Rattle.std.proofs.Common.{ap, arith}
use Rattle.std.specs.List.{flat_map, list_all}
use Rattle.std.proofs.lemmas.Bool.Decides.{nat_tests}
use Rattle.std.proofs.lemmas.List.Folds.{list_all-append}
use Rattle.skk_text.specs.Lists.{is_empty}
use Rattle.skk_text.specs.PairsLaws.{list_all-kept}
use Rattle.skk_calls.specs.declared.part.Part.{Part}
use Rattle.skk_calls.specs.Rows.{Row, is_word}
use Rattle.word_sets.specs.FirstLaws.{first_of_each-all}
use Rattle.dict_format.specs.declared.file.Listed.{Listed}
use Rattle.dict_format.specs.FileLines.{FileEntry, TakeAll, Takes}
use Rattle.dict_format.specs.Items.{Item}
use Rattle.dict_format.specs.Items.Item.{candidate, block, mark}
use Rattle.dict_format.specs.Lines.{SpellsRow}
use Rattle.dict_format.specs.RowOfItems.{fits, hidden_in, item_fits, not_empty, words_once}
use Rattle.dict_format.specs.RowOfItems.{says_something as has_item}
use Rattle.dict_expr.specs.Books.{says_something}

-- a text that is not empty and not too long is a word
fits_word : (text : List ℕ) → fits text ≡ true → not (is_empty text) ≡ true → is_word text ≡ true
fits_word [] short some = cc
fits_word (c ∷ text) short some = grind (arith, nat_tests, short)

-- the words that items hide are not too long
hidden_fit : (items : List Item) → list_all item_fits items ≡ true
    → list_all fits (flat_map hidden_in items) ≡ true
hidden_fit [] all = refl
hidden_fit (candidate word note ∷ items) all = hidden_fit items (grind arith)
hidden_fit (block okuri words ∷ items) all = hidden_fit items (grind arith)
hidden_fit (mark words ∷ items) all =
    grind (arith, list_all-append fits words (flat_map hidden_in items), hidden_fit items (grind arith))

hidden_words : (items : List Item) → list_all item_fits items ≡ true
    → list_all is_word (words_once (flat_map hidden_in items)) ≡ true
hidden_words items all =
    first_of_each-all (λ (word : List ℕ). word) is_word (not_empty (flat_map hidden_in items))
    (list_all-kept fits (λ word. not (is_empty word)) is_word fits_word (flat_map hidden_in items)
    (hidden_fit items all))

-- a row with an item says something where its hidden words are words
item_says : (row : Row) → has_item row ≡ true → list_all is_word row.hides ≡ true → says_something row ≡ true
item_says row has words = grind (arith, has, words)

-- so does the row that a line spells
pub spelled_says : (part : Part) (line : List ℕ) (row : Row) → SpellsRow part line row → says_something row ≡ true
spelled_says part line row spells =
    item_says row spells.something
    (ap (λ (r : Row). list_all is_word r.hides) spells.row_is ∙ hidden_words spells.items spells.fit)

-- and each row that entries come to, where those before them do
taken_says : (before : Listed) (entry : FileEntry) (after : Listed) → Takes before entry after
    → list_all says_something before.book ≡ true → list_all says_something after.book ≡ true
taken_says before entry after (inl (row, gives, is)) all =
    ap (λ (listed : Listed). list_all says_something listed.book) is
    ∙ list_all-append says_something before.book (row ∷ [])
    ∙ grind (arith, all, spelled_says entry.part entry.text row gives.0)
taken_says before entry after (inr (reason, refuses, is)) all =
    ap (λ (listed : Listed). list_all says_something listed.book) is ∙ all

pub entries_say : (before : Listed) (entries : List FileEntry) (after : Listed) → TakeAll before entries after
    → list_all says_something before.book ≡ true → list_all says_something after.book ≡ true
entries_say before [] after is all =
    ap (λ (listed : Listed). list_all says_something listed.book) is ∙ all
entries_say before (entry ∷ entries) after (next, takes, rest) all =
    entries_say next entries after rest (taken_says before entry next takes all)
