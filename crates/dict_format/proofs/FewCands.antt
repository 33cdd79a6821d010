-- Candidates alone, of which each is looked for among those before it.
use Rattle.std.proofs.Common.{◌≡◌, ◌∙◌, ◌++◌, ◌∷◌, [], ℕ, Bool, true, false, not, if◌then◌else◌, List, map}
use Rattle.std.proofs.Common.{refl, sym, ap}
use Rattle.std.specs.List.{filter, flat_map, fold, list_all}
use Rattle.std.proofs.lemmas.Bool.{and_parts}
use Rattle.std.proofs.lemmas.List.Folds.{list_all-append, list_all-map}
use Rattle.skk_text.specs.Lists.{is_empty}
use Rattle.skk_calls.specs.Rows.{Block, Cand, Row, RowKey, has_text, is_okuri, words_of}
use Rattle.word_sets.specs.FirstLaws.{first_of_each-fold}
use Rattle.word_sets.specs.Firsts.{with_new}
use Rattle.word_sets.specs.Strings.{as_cand}
use Rattle.dict_format.specs.Building.{is_candidate, with_item}
use Rattle.dict_format.specs.Items.{Item}
use Rattle.dict_format.specs.Items.Item.{candidate, block, mark}
use Rattle.dict_format.specs.RowOfItems.{row_of_items, cand_in, block_in, hidden_in, has_word, joined_blocks}
use Rattle.dict_format.specs.RowOfItems.{words_once}
use Rattle.dict_format.specs.Views.{item_said}
use Rattle.dict_format.specs.declared.items.Item.{Item as MadeItem}

-- the word of a candidate
abbrev word_of : Cand → List ℕ
word_of cand = cand.word

-- What passes

module _ (p : Cand → Bool) where
  -- the parts of candidates with one more at their end
  both : (cands : List Cand) (cand : Cand) → list_all p (cands ++ cand ∷ []) ≡ true
      → (list_all p cands ≡ true) × (list_all p (cand ∷ []) ≡ true)
  both cands cand all =
      and_parts (list_all p cands) (list_all p (cand ∷ [])) (sym (list_all-append p cands (cand ∷ [])) ∙ all)

  -- the last of candidates passes what all do
  pub last_passes : (cands : List Cand) (cand : Cand) → list_all p (cands ++ cand ∷ []) ≡ true → p cand ≡ true
  last_passes cands cand all = (and_parts (p cand) true (both cands cand all).1).0

  -- and so do those before it, whether it is new or not
  before : (b : Bool) (cands : List Cand) (cand : Cand)
      → list_all p (if b then cands else cands ++ cand ∷ []) ≡ true → list_all p cands ≡ true
  before true cands cand all = all
  before false cands cand all = (both cands cand all).0

  -- and whether its word is empty or not
  before_word : (b : Bool) (cands : List Cand) (cand : Cand)
      → list_all p (if b then cands else with_new word_of cands cand) ≡ true → list_all p cands ≡ true
  before_word true cands cand all = all
  before_word false cands cand all = before (has_text (map word_of cands) cand.word) cands cand all

  before_item : (cands : List Cand) (item : Item) → list_all p (with_item cands item) ≡ true
      → list_all p cands ≡ true
  before_item cands (candidate word note) all = before_word (is_empty word) cands (as_cand (word, note)) all
  before_item cands (block okuri words) all = all
  before_item cands (mark words) all = all

  -- candidates pass what they pass with those of more items
  pub before_items : (cands : List Cand) (items : List Item) → list_all p (fold with_item cands items) ≡ true
      → list_all p cands ≡ true
  before_items cands [] all = all
  before_items cands (item ∷ items) all = before_item cands item (before_items (with_item cands item) items all)

-- The first of each word

-- a candidate stays out where its word is empty
stays : (b : Bool) (cands more : List Cand) → b ≡ true → (if b then cands else more) ≡ cands
stays true cands more e = refl
stays false cands more e = cc

pub with_empty : (cands : List Cand) (word note : List ℕ) → is_empty word ≡ true
    → with_item cands (candidate word note) ≡ cands
with_empty cands word note empty = stays (is_empty word) cands (with_new word_of cands (as_cand (word, note))) empty

-- or came before
stays_known : (b d : Bool) (cands more : List Cand) → d ≡ true
    → (if b then cands else (if d then cands else more)) ≡ cands
stays_known true d cands more e = refl
stays_known false d cands more e = stays d cands more e

pub with_known : (cands : List Cand) (word note : List ℕ) → has_text (words_of cands) word ≡ true
    → with_item cands (candidate word note) ≡ cands
with_known cands word note known =
    stays_known (is_empty word) (has_text (words_of cands) word) cands (cands ++ as_cand (word, note) ∷ []) known

-- and comes to the end elsewhere
comes : (b d : Bool) (cands more : List Cand) → b ≡ false → d ≡ false
    → (if b then cands else (if d then cands else more)) ≡ more
comes true d cands more e f = cc
comes false true cands more e f = cc
comes false false cands more e f = refl

pub with_other : (cands : List Cand) (word note : List ℕ) → is_empty word ≡ false
    → has_text (words_of cands) word ≡ false
    → with_item cands (candidate word note) ≡ cands ++ as_cand (word, note) ∷ []
with_other cands word note some other =
    comes (is_empty word) (has_text (words_of cands) word) cands (cands ++ as_cand (word, note) ∷ []) some other

-- one more candidate, whether its word is empty or not
first_more : (b : Bool) (cands : List Cand) (cand : Cand) (items : List Item) (left : List Cand)
    → ((some : List Cand) → fold with_item some items ≡ fold (with_new word_of) some left)
    → fold with_item (if b then cands else with_new word_of cands cand) items
    ≡ fold (with_new word_of) cands (if not b then cand ∷ left else left)
first_more true cands cand items left same = same cands
first_more false cands cand items left same = same (with_new word_of cands cand)

-- the candidates of items whose words are not empty
abbrev cands_said : List Item → List Cand
cands_said items = filter (λ cand. not (is_empty cand.word)) (flat_map cand_in items)

-- candidates that are looked for one by one are the first of each word
firsts : (cands : List Cand) (items : List Item)
    → fold with_item cands items ≡ fold (with_new word_of) cands (cands_said items)
firsts cands [] = refl
firsts cands (candidate word note ∷ items) =
    first_more (is_empty word) cands (as_cand (word, note)) items (cands_said items) (λ some. firsts some items)
firsts cands (block okuri words ∷ items) = firsts cands items
firsts cands (mark words ∷ items) = firsts cands items

-- Candidates alone

-- whether items are candidates alone
pub cands_alone : (items : List MadeItem)
    → list_all is_candidate (map item_said items) ≡ list_all (λ item. is_candidate (item_said item)) items
cands_alone items = list_all-map is_candidate item_said items

no_blocks : (items : List Item) → list_all is_candidate items ≡ true → flat_map block_in items ≡ []
no_blocks [] alone = refl
no_blocks (candidate word note ∷ items) alone = no_blocks items alone
no_blocks (block okuri words ∷ items) alone = cc
no_blocks (mark words ∷ items) alone = cc

no_hidden : (items : List Item) → list_all is_candidate items ≡ true → flat_map hidden_in items ≡ []
no_hidden [] alone = refl
no_hidden (candidate word note ∷ items) alone = no_hidden items alone
no_hidden (block okuri words ∷ items) alone = cc
no_hidden (mark words ∷ items) alone = cc

-- a row of its parts
abbrev row_made : RowKey → List Cand → List Block → List (List ℕ) → Row
row_made key cands blocks hides =
    record { key = key; cands = cands; blocks = blocks; hides = hides; stamp = 0 }

-- a row of candidates, and of the blocks and hidden words of items
abbrev row_with : RowKey → List Cand → List Block → List (List ℕ) → Row
row_with key cands blocks hidden = record {
  key = key;
  cands = cands;
  blocks = filter (λ b. is_okuri b.okuri) (joined_blocks (filter has_word blocks));
  hides = words_once hidden;
  stamp = 0;
}

-- candidates alone make a row without blocks and hidden words
pub row_of_cands : (key : RowKey) (items : List Item) (cands : List Cand) (blocks : List Block)
    (hides : List (List ℕ)) → list_all is_candidate items ≡ true → cands ≡ fold with_item [] items → blocks ≡ []
    → hides ≡ []
    → (let row : Row = record { key = key; cands = cands; blocks = blocks; hides = hides; stamp = 0 } in
    row ≡ row_of_items key items)
row_of_cands key items cands blocks hides alone cands_are no_block none_hidden =
    ap (λ (bs : List Block). row_made key cands bs hides) no_block ∙ ap (row_made key cands []) none_hidden
    ∙ ap (λ (bs : List Block). row_with key cands bs []) (sym (no_blocks items alone))
    ∙ ap (row_with key cands (flat_map block_in items)) (sym (no_hidden items alone))
    ∙ ap (λ (all : List Cand). row_with key all (flat_map block_in items) (flat_map hidden_in items))
    (cands_are ∙ firsts [] items ∙ sym (first_of_each-fold word_of (cands_said items)))
