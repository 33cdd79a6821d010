-- The items of a canonical line spell what they were made of.
use Rattle.std.proofs.Common.{◌≡◌, ℕ, Bool, true, false, not, ◌||◌, ◌==◌, nat_le, inl, inr, List, [], ◌∷◌, ◌++◌, codes}
use Rattle.std.proofs.Common.{map, length, refl, sym, ap, ◌∙◌, subst, append_assoc, append-nil, arith}
use Rattle.std.specs.List.{flat_map, list_all}
use Rattle.std.proofs.lemmas.Bool.{and_parts, and_from, both_ways}
use Rattle.std.proofs.lemmas.List.Concat.{flat_map-append, flat_map_single}
use Rattle.std.proofs.lemmas.List.Folds.{list_all-append, flat_map-map}
use Rattle.skk_text.specs.PairsLaws.{list_all-weaker}
use Rattle.skk_calls.specs.declared.part.Part.{Part}
use Rattle.skk_calls.specs.declared.part.Part.TheVariants.{Nasi, Ari}
use Rattle.skk_calls.specs.Canonical.{quoted, begins_form, written_word, written_note, written_block, item}
use Rattle.skk_calls.specs.Canonical.{items, with_slash, mark_items}
use Rattle.skk_calls.specs.RowLaws.{RowParts, block_parts}
use Rattle.skk_calls.specs.Rows.{Cand, Block, Row, is_cand, is_note, is_note_char, is_word, is_block, is_okuri_char}
use Rattle.skk_calls.specs.Rows.{fits_blocks}
use Rattle.exact_readers.specs.Formats.{SpellsMany}
use Rattle.exact_readers.specs.LackLaws.{each_passes}
use Rattle.exact_readers.specs.ManyLaws.{many-append, many-one, many-printed}
use Rattle.dict_format.specs.Items.{Item, SpellsItems, before_note, opens_block, closes_block, inside_block}
use Rattle.dict_format.specs.Items.{item_format, IsSingle, block_words, whole_block}
use Rattle.dict_format.specs.Items.Item.{candidate, block, mark}
use Rattle.dict_format.specs.RowOfItems.{fits, item_fits}
use Rattle.dict_format.specs.Words.{SaysWord}
use Rattle.dict_format.proofs.WordsAgain.{marked_again, written_says, item_word, item_note, no_mark, is_plain}
use Rattle.dict_format.proofs.WordsAgain.{written_case, written_plain, marked_plain}

-- How written words begin

-- a text begins, and not with a bracket
abbrev begins_inside : List ℕ → Bool
begins_inside [] = false
begins_inside (c ∷ text) = not (c == 0x5B || c == 0x5D)

plain_begins : (c : ℕ) (word : List ℕ) → begins_form (c ∷ word) ≡ false → begins_inside (c ∷ word) ≡ true
plain_begins c word none = grind arith

written_begins : (word : List ℕ) → nat_le 1 (length word) ≡ true → begins_inside (written_word word) ≡ true
written_begins [] e = absurd (both_ways (nat_le 1 0) refl e)
written_begins (c ∷ word) e =
    written_case (c ∷ word) (λ text. begins_inside text ≡ true) refl (λ e none. plain_begins c word none)

-- so it opens no block, whatever stands behind it, and closes none
opens_none : (part : Part) (text note : List ℕ) → begins_inside text ≡ true → opens_block part (text ++ note) ≡ false
opens_none part text note begins = grind arith

closes_none : (text : List ℕ) → begins_inside text ≡ true → closes_block text ≡ false
closes_none text begins = grind arith

-- Items

abbrev pub cand_item : Cand → Item
cand_item c = candidate c.word c.note

abbrev pub block_item : Block → Item
block_item b = block b.okuri b.words

abbrev pub mark_of : List (List ℕ) → List Item
mark_of [] = []
mark_of (w ∷ words) = mark (w ∷ words) ∷ []

abbrev mark_text : List (List ℕ) → List ℕ
mark_text words = codes "(skk-ignore-dic-word" ++ flat_map (λ w. 0x20 ∷ quoted w) words ++ codes ")"

-- the items of a row
abbrev pub row_items : Row → List Item
row_items row = map cand_item row.cands ++ map block_item row.blocks ++ mark_of row.hides

-- Texts

-- what no written word holds stands in no note
pub plain_noted : (text : List ℕ) → list_all is_plain text ≡ true → is_note text ≡ true
plain_noted text plain = list_all-weaker is_plain is_note_char (λ c e. grind arith) text plain

okuri_noted : (c : ℕ) → is_okuri_char c ≡ true → is_note_char c ≡ true
okuri_noted c e = grind arith

pub note_noted : (note : List ℕ) → is_note note ≡ true → is_note (written_note note) ≡ true
note_noted note e = grind arith

words_fit : (words : List (List ℕ)) → list_all is_word words ≡ true → list_all fits words ≡ true
words_fit words all = list_all-weaker is_word fits (λ w e. (and_parts (nat_le 1 (length w)) (fits w) e).1) words all

-- the texts of what is printed of items: they spell these, none of which is too long, and hold no slash and no LF
pub record AreTexts (part : Part) (printed : List (List ℕ)) (items : List Item) : Type 0 where
  pub texts : List (List ℕ)
  pub spell : SpellsItems part texts items
  pub fit : list_all item_fits items ≡ true
  pub noted : list_all is_note texts ≡ true
  pub ended : flat_map with_slash printed ≡ flat_map with_slash texts

module _ (part : Part) where
  no_texts : AreTexts part [] []
  no_texts = record { texts = []; spell = refl; fit = refl; noted = refl; ended = refl }

  texts_behind : (printed : List (List ℕ)) (said : List Item) (later : List (List ℕ)) (others : List Item)
      → AreTexts part printed said → AreTexts part later others → AreTexts part (printed ++ later) (said ++ others)
  texts_behind printed said later others are more = record {
    texts = are.texts ++ more.texts;
    spell = many-append (item_format part).Spells said others are.texts more.texts are.spell more.spell;
    fit = list_all-append item_fits said others ∙ and_from (list_all item_fits said) _ are.fit more.fit;
    noted = list_all-append is_note are.texts more.texts ∙ and_from (list_all is_note are.texts) _ are.noted more.noted;
    ended = simp (flat_map-append, are.ended, more.ended);
  }

  -- those of many values, as of each
  each_texts : {S : Type 0} (print : S → List ℕ) (value : S → Item) (test : S → Bool)
      → ((s : S) → test s ≡ true → AreTexts part (print s ∷ []) (value s ∷ [])) → (all : List S)
      → list_all test all ≡ true → AreTexts part (map print all) (map value all)
  each_texts print value test each [] pass = no_texts
  each_texts print value test each (s ∷ all) pass =
      let parts = and_parts (test s) (list_all test all) pass in
      texts_behind (print s ∷ []) (value s ∷ []) _ _ (each s parts.0) (each_texts print value test each all parts.1)

  cand_texts : (c : Cand) → is_cand c ≡ true → AreTexts part (item c ∷ []) (cand_item c ∷ [])
  cand_texts c e =
      let noted : is_note c.note ≡ true = grind arith in
      let fit : list_all item_fits (cand_item c ∷ []) ≡ true = grind arith in
      let says : IsSingle part (cand_item c) (item c) = (
        opens_none part (written_word c.word) (written_note c.note) (written_begins c.word (grind arith)),
        no_mark c.word c.note,
        subst (λ t. SaysWord t c.word) (sym (item_word c.word c.note)) (written_says c.word),
        sym (item_note c.word c.note noted),
      ) in
      record {
        texts = item c ∷ [];
        spell =
            many-one (item_format part).Spells (cand_item c) (item c ∷ []) (inl (item c, says, refl));
        fit = fit;
        noted =
            simp (list_all-append, plain_noted (written_word c.word) (written_plain c.word), note_noted c.note noted);
        ended = refl;
      }

  mark_texts : (words : List (List ℕ)) → list_all is_word words ≡ true
      → AreTexts part (mark_items words) (mark_of words)
  mark_texts [] all = no_texts
  mark_texts (w ∷ words) all =
      let text = mark_text (w ∷ words) in
      record {
        texts = text ∷ [];
        spell =
            many-one (item_format part).Spells (mark (w ∷ words)) (text ∷ [])
            (inl (text, (closed part, marked_again w words), refl));
        fit = and_from (list_all fits (w ∷ words)) true (words_fit (w ∷ words) all) refl;
        noted = and_from (is_note text) true (plain_noted text (marked_plain (w ∷ words))) refl;
        ended = refl;
      }
    where
      closed : (p : Part) → opens_block p (mark_text (w ∷ words)) ≡ false
      closed p = grind arith

block_texts : (b : Block) → is_block b ≡ true → AreTexts Ari (written_block b ∷ []) (block_item b ∷ [])
block_texts b e =
    let parts = block_parts b e in
    let first = 0x5B ∷ b.okuri in
    let each = λ (w : List ℕ). written_word w ∷ [] in
    let words = flat_map each b.words in
    let okuri : list_all is_okuri_char b.okuri ≡ true = grind (arith, parts.okuri) in
    let inside : SpellsMany inside_block.Spells b.words words =
    many-printed inside_block is_word each (record { spells = says }) b.words parts.words in
    let closed : block_words.Spells b.words (words ++ codes "]" ∷ []) =
    (words, codes "]" ∷ [], codes "]", inside, (codes "]", refl, refl), refl) in
    let spells : (whole_block Ari).Spells (block_item b) (first ∷ words ++ codes "]" ∷ []) =
    ((b.okuri, b.words), (first ∷ [], words ++ codes "]" ∷ [], (first, refl, refl), closed, refl), refl) in
    let noted : list_all is_note words ≡ true =
    each_passes is_word is_note each
    (λ w f. and_from (is_note (written_word w)) true (plain_noted (written_word w) (written_plain w)) refl) b.words
    parts.words in
    let ended : flat_map with_slash words ≡ flat_map (λ w. with_slash (written_word w)) b.words =
    ap (flat_map with_slash) (flat_map_single written_word b.words) ∙ flat_map-map with_slash written_word b.words in
    record {
      texts = first ∷ words ++ codes "]" ∷ [];
      spell = many-one (item_format Ari).Spells (block_item b) (first ∷ words ++ codes "]" ∷ []) (inr spells);
      fit = and_from (list_all fits b.words) true (words_fit b.words parts.words) refl;
      noted =
          simp (
            list_all-append is_note words (codes "]" ∷ []),
            noted,
            list_all-weaker is_okuri_char is_note_char okuri_noted b.okuri okuri,
          );
      ended =
          regroup (with_slash first) (flat_map (λ w. with_slash (written_word w)) b.words)
          ∙ ap (λ ys. with_slash first ++ (ys ++ codes "]/")) (sym ended)
          ∙ ap (λ ys. with_slash first ++ ys) (sym (flat_map-append with_slash words (codes "]" ∷ [])));
    }
  where
    regroup : (x y : List ℕ) → (((x ++ y) ++ 0x5D ∷ []) ++ 0x2F ∷ []) ++ [] ≡ x ++ (y ++ codes "]/")
    regroup x y = simp (append_assoc, append-nil)

    says : (w : List ℕ) → is_word w ≡ true → inside_block.Spells w (written_word w ∷ [])
    says w e =
        let alone : before_note (written_word w) ≡ written_word w =
        ap before_note (sym (append-nil (written_word w))) ∙ item_word w [] in (
          written_word w,
          (
            closes_none (written_word w) (written_begins w (grind arith)),
            subst (λ t. SaysWord t w) (sym alone) (written_says w),
          ),
          refl,
        )

-- Rows

-- the texts of a row's items
pub row_texts : (row : Row) → RowParts row → list_all is_word row.hides ≡ true
    → AreTexts row.key.part (items row) (row_items row)
row_texts row is hides =
    let part = row.key.part in
    texts_behind part _ (map cand_item row.cands ++ map block_item row.blocks) _ (mark_of row.hides)
    (texts_behind part (map item row.cands) (map cand_item row.cands) _ _
    (each_texts part item cand_item is_cand (cand_texts part) row.cands is.cands)
    (blocks part row.blocks is.part is.blocks))
    (mark_texts part row.hides hides)
  where
    blocks : (part : Part) (bs : List Block) → fits_blocks part bs ≡ true → list_all is_block bs ≡ true
        → AreTexts part (map written_block bs) (map block_item bs)
    blocks Nasi [] fit all = no_texts Nasi
    blocks Nasi (b ∷ bs) fit all = absurd (both_ways false refl fit)
    blocks Ari bs fit all = each_texts Ari written_block block_item is_block block_texts bs all
