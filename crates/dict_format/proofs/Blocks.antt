-- Blocks are joined by their okurigana.
use Rattle.std.proofs.Common.{◌≡◌, ℕ, Bool, true, false, if◌then◌else◌, Some, None, List, []}
use Rattle.std.proofs.Common.{◌∷◌, ◌++◌, map, refl, sym, ap, ◌∙◌, arith, inl, inr}
use Rattle.std.specs.List.{filter}
use Rattle.std.specs.Map.{lookup, set_value}
use Rattle.std.proofs.lemmas.Bool.{cases_Bool}
use Rattle.std.proofs.lemmas.Option.{same_Some}
use Rattle.std.proofs.lemmas.List.{append-nil, map-append}
use Rattle.std.proofs.lemmas.List.Elements.{filter-append}
use Rattle.std.proofs.lemmas.Grind.{flat_map-append}
use Rattle.std.proofs.lemmas.Simd.{map-map}
use Rattle.skk_calls.specs.KeyLaws.{same_itself, same_other}
use Rattle.skk_calls.specs.Found.{first_of_each}
use Rattle.skk_calls.specs.Rows.{Block, same_text, has_text, is_okuri}
use Rattle.word_sets.specs.FirstLaws.{first_of_each-differ, first_of_each-push, first_of_each-texts}
use Rattle.word_sets.specs.Firsts.{with_new}
use Rattle.word_sets.specs.ValueLaws.{found_value, same_values, set_there, valued}
use Rattle.dict_format.specs.Building.{as_block, joined_words, valid_blocks}
use Rattle.dict_format.specs.RowOfItems.{words_once, words_with, joined_blocks}

-- Words of blocks

-- the words with an okurigana, with one more block
pub words_with-push : (okuri : List ℕ) (blocks : List Block) (block : Block) → words_with okuri (blocks ++ block ∷ [])
    ≡ (if same_text block.okuri okuri then words_with okuri blocks ++ block.words else words_with okuri blocks)
words_with-push okuri blocks block =
    let of = λ (b : Block). same_text b.okuri okuri in
    let joined = flat_map-append (λ (b : Block). b.words) (filter of blocks) (filter of (block ∷ [])) in
    rw (filter-append of blocks (block ∷ []), joined) (grind (arith, append-nil {A = List ℕ}))

-- no block has an okurigana that is none of theirs
pub words_with-none : (okuri : List ℕ) (blocks : List Block) → has_text (map (λ b. b.okuri) blocks) okuri ≡ false
    → words_with okuri blocks ≡ []
words_with-none okuri [] none = refl
words_with-none okuri (block ∷ blocks) none =
    grind (arith, same_other block.okuri okuri, words_with-none okuri blocks)

-- One more block

-- the okurigana of a block
abbrev okuri_of : Block → List ℕ
okuri_of block = block.okuri

module _ (blocks : List Block) (block : Block) where
  -- the first block of each okurigana so far
  abbrev firsts : List Block
  firsts = first_of_each okuri_of [] blocks

  -- the words of each okurigana, before the block and with it
  abbrev old : List ℕ → List (List ℕ)
  old okuri = words_once (words_with okuri blocks)

  abbrev new : List ℕ → List (List ℕ)
  new okuri = words_once (words_with okuri (blocks ++ block ∷ []))

  -- the block's words are those of its okurigana alone
  others : (okuri : List ℕ) → same_text block.okuri okuri ≡ false → old okuri ≡ new okuri
  others okuri apart = sym (ap words_once (rw apart at (words_with-push okuri blocks block)))

  here : words_once (words_with block.okuri blocks ++ block.words) ≡ new block.okuri
  here = sym (ap words_once (rw (same_itself block.okuri) at (words_with-push block.okuri blocks block)))

  -- the okurigana with the block's
  more : (b : Bool) → has_text (map okuri_of firsts) block.okuri ≡ b
      → valued okuri_of new (if b then firsts else firsts ++ block ∷ []) ≡ joined_words (blocks ++ block ∷ [])
  more b e =
      ap (λ c. valued okuri_of new (if c then firsts else firsts ++ block ∷ [])) (sym e)
      ∙ ap (valued okuri_of new) (sym (first_of_each-push okuri_of blocks block))

  -- an okurigana that is there has the block's words too
  pub joined-known : (known after : List (List ℕ))
      → Some known ≡ lookup (same_text block.okuri) (joined_words blocks)
      → (known ≡ old block.okuri → after ≡ words_once (words_with block.okuri blocks ++ block.words))
      → set_value (same_text block.okuri) (joined_words blocks) after ≡ joined_words (blocks ++ block ∷ [])
  joined-known known after is adds =
      let found = is ∙ found_value okuri_of old block.okuri firsts in
      elim (cases_Bool (has_text (map okuri_of firsts) block.okuri)) [
        | inl there ↦
            let value = same_Some known (old block.okuri) (rw there at found) in
            ap (set_value (same_text block.okuri) (joined_words blocks)) (adds value ∙ here)
            ∙ set_there okuri_of block.okuri old new others firsts (first_of_each-differ okuri_of blocks)
            ∙ more true there
        | inr none ↦ let wrong = rw none at found in cc
      ]

  -- a new one has the block's words alone
  pub joined-new : (first : List (List ℕ)) → None ≡ lookup (same_text block.okuri) (joined_words blocks)
      → first ≡ words_once block.words
      → with_new (λ pair. pair.0) (joined_words blocks) (block.okuri, first) ≡ joined_words (blocks ++ block ∷ [])
  joined-new first is words =
      let found = is ∙ found_value okuri_of old block.okuri firsts in
      elim (cases_Bool (has_text (map okuri_of firsts) block.okuri)) [
        | inl there ↦ let wrong = rw there at found in cc
        | inr none ↦
            let nothing = words_with-none block.okuri blocks
            (sym (first_of_each-texts okuri_of blocks block.okuri) ∙ none) in
            let value = words ∙ rw nothing at here in
            let texts = map-map (λ (pair : List ℕ × List (List ℕ)). pair.0)
            (λ (c : Block). (c.okuri, old c.okuri)) firsts in
            let pairs = same_values okuri_of block.okuri old new others firsts none in
            rw (texts, none, pairs, value)
            (sym (map-append (λ (c : Block). (c.okuri, new c.okuri)) firsts (block ∷ [])) ∙ more false none)
      ]

-- Made blocks

-- the okurigana that are valid make the blocks
pub joined-made : (blocks : List Block)
    → valid_blocks (joined_words blocks) ≡ filter (λ b. is_okuri b.okuri) (joined_blocks blocks)
joined-made blocks =
    ap (filter (λ b. is_okuri b.okuri))
    (map-map as_block (λ (first : Block). (first.okuri, words_once (words_with first.okuri blocks)))
    (first_of_each (λ b. b.okuri) [] blocks))
