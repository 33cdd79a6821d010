-- How many bytes the parts of a line have.
use Rattle.std.proofs.Common.{◌≡◌, ◌∙◌, ◌+◌, ℕ, true, cond, ◌||◌, List, [], ◌∷◌, ◌++◌, codes, length, map, refl, ap}
use Rattle.std.proofs.Common.{arith}
use Rattle.std.specs.List.{flat_map, list_any}
use Rattle.std.proofs.lemmas.Grind.{flat_map-append}
use Rattle.std.proofs.lemmas.List.{append-nil}
use Rattle.std.proofs.lemmas.Str.{length-le-encodes}
use Rattle.skk_text.specs.Text.{byte_len}
use Rattle.skk_text.specs.TextLaws.{byte_len-append}
use Rattle.skk_calls.specs.Canonical.{canonical, with_slash, quoted, is_special, begins_form, written_word}
use Rattle.skk_calls.specs.Canonical.{written_note, item, items, written_block, mark_items}
use Rattle.skk_calls.specs.Rows.{Block, Row}
use Rattle.dict_rows.proofs.Lengths.{opening, closing, start, concat, ignored, bracket, slashed}

-- a word that is quoted
pub quoted_word : (word : List ℕ) → (list_any is_special word || begins_form word) ≡ true
    → byte_len (written_word word) ≡ byte_len (quoted word) + 9
quoted_word word e =
    ap (λ b. byte_len (cond b (codes "(concat " ++ quoted word ++ codes ")") word)) e
    ∙ (omega (
      arith,
      byte_len-append (codes "(concat " ++ quoted word) (codes ")"),
      byte_len-append (codes "(concat ") (quoted word),
      concat,
      bracket,
    ))

-- no note
pub note_none : (note : List ℕ) → byte_len note ≡ 0 → byte_len (written_note note) ≡ 0
note_none [] e = refl
note_none (c ∷ note) e = absurd (omega (arith, e, length-le-encodes (c ∷ note)))

-- a block
pub block_parts : (block : Block) → byte_len (written_block block)
    ≡ byte_len block.okuri + byte_len (flat_map (λ word. with_slash (written_word word)) block.words) + 3
block_parts block =
    let words = flat_map (λ word. with_slash (written_word word)) block.words in
    omega (
      arith,
      byte_len-append ((0x5B ∷ with_slash block.okuri) ++ words) (0x5D ∷ []),
      byte_len-append (0x5B ∷ with_slash block.okuri) words,
      byte_len-append (0x5B ∷ []) (with_slash block.okuri),
      slashed block.okuri,
      opening,
      closing,
    )

-- the mark with its slash
pub mark_some : (hides : List (List ℕ)) → (length hides ≡ 0 → ⊥)
    → byte_len (flat_map with_slash (mark_items hides)) ≡ byte_len (flat_map (λ word. 0x20 ∷ quoted word) hides) + 22
mark_some [] e = absurd (e refl)
mark_some (word ∷ words) e =
    let strings = flat_map (λ w. 0x20 ∷ quoted w) (word ∷ words) in
    let mark = codes "(skk-ignore-dic-word" ++ strings ++ codes ")" in
    ap byte_len (append-nil (with_slash mark))
    ∙ (omega (
      arith,
      slashed mark,
      byte_len-append (codes "(skk-ignore-dic-word" ++ strings) (codes ")"),
      byte_len-append (codes "(skk-ignore-dic-word") strings,
      ignored,
      bracket,
    ))

-- texts that are made are ended as they are made
ended_map : {X : Type 0} (f : X → List ℕ) (xs : List X)
    → flat_map with_slash (map f xs) ≡ flat_map (λ x. with_slash (f x)) xs
ended_map f [] = refl
ended_map f (x ∷ xs) = ap (λ ys. with_slash (f x) ++ ys) (ended_map f xs)

-- a line
pub line_parts : (row : Row) → byte_len (canonical row)
    ≡ byte_len row.key.reading + byte_len (flat_map (λ cand. with_slash (item cand)) row.cands)
    + byte_len (flat_map (λ block. with_slash (written_block block)) row.blocks)
    + byte_len (flat_map with_slash (mark_items row.hides)) + 2
line_parts row =
    let cands = map item row.cands in
    let blocks = map written_block row.blocks in
    let ended = flat_map with_slash (items row) in
    omega (
      arith,
      byte_len-append row.key.reading (0x20 ∷ 0x2F ∷ ended),
      byte_len-append (0x20 ∷ 0x2F ∷ []) ended,
      start,
      ap byte_len (flat_map-append with_slash (cands ++ blocks) (mark_items row.hides)),
      ap byte_len (flat_map-append with_slash cands blocks),
      byte_len-append (flat_map with_slash (cands ++ blocks)) (flat_map with_slash (mark_items row.hides)),
      byte_len-append (flat_map with_slash cands) (flat_map with_slash blocks),
      ap byte_len (ended_map item row.cands),
      ap byte_len (ended_map written_block row.blocks),
    )
