-- A note makes the line of its row at most so much longer as its item with a slash is.
use Rattle.std.proofs.Common.{◌≡◌, ◌+◌, ◌≤◌, ℕ, Bool, true, false, cond, Some, List, [], ◌∷◌, ◌++◌}
use Rattle.std.proofs.Common.{codes, map, refl, sym, ap, subst, arith}
use Rattle.std.specs.List.{flat_map}
use Rattle.std.proofs.lemmas.Grind.{flat_map-append}
use Rattle.skk_text.specs.Text.{byte_len}
use Rattle.skk_text.specs.TextLaws.{byte_len-append}
use Rattle.skk_calls.specs.Canonical.{canonical, item, mark_items, quoted, with_slash, written_block}
use Rattle.skk_calls.specs.KeyLaws.{same_equal}
use Rattle.skk_calls.specs.Learning.{without_text, annotated_cands, annotated}
use Rattle.skk_calls.specs.Rows.{Cand, Block, Row, same_text}

-- how many bytes these texts have with their slashes
abbrev slashed : List (List ℕ) → ℕ
slashed texts = byte_len (flat_map with_slash texts)

one_more : (text : List ℕ) (texts : List (List ℕ)) → slashed (text ∷ texts) ≡ byte_len (with_slash text) + slashed texts
one_more text texts = byte_len-append (with_slash text) (flat_map with_slash texts)

-- Candidates

cands_most : (cand : Cand) (cands : List Cand)
    → slashed (map item (annotated_cands cands cand)) ≤ slashed (map item cands) + byte_len (with_slash (item cand))
cands_most cand [] = omega (arith, one_more (item cand) [])
cands_most cand (first ∷ cands) = by (same_text first.word cand.word) refl (cands_most cand cands)
  where
    by : (b : Bool) → same_text first.word cand.word ≡ b
        → slashed (map item (annotated_cands cands cand)) ≤ slashed (map item cands) + byte_len (with_slash (item cand))
        → slashed (map item (cond b (record { word = first.word; note = cand.note } ∷ cands)
        (first ∷ annotated_cands cands cand)))
        ≤ slashed (map item (first ∷ cands)) + byte_len (with_slash (item cand))
    by true same later =
        subst (λ (w : List ℕ). slashed (map item (record { word = w; note = cand.note } ∷ cands))
        ≤ slashed (map item (first ∷ cands)) + byte_len (with_slash (item cand)))
        (sym (same_equal first.word cand.word same))
        (omega (arith, one_more (item cand) (map item cands), one_more (item first) (map item cands)))
    by false differ later =
        omega (
          arith,
          one_more (item first) (map item cands),
          one_more (item first) (map item (annotated_cands cands cand)),
          later,
        )

-- Hidden words

abbrev hidden : List ℕ → List ℕ
hidden word = 0x20 ∷ quoted word

words_most : (word : List ℕ) (hides : List (List ℕ))
    → byte_len (flat_map hidden (without_text word hides)) ≤ byte_len (flat_map hidden hides)
words_most word [] = omega arith
words_most word (first ∷ hides) =
    grind (
      arith,
      byte_len-append (hidden first) (flat_map hidden hides),
      byte_len-append (hidden first) (flat_map hidden (without_text word hides)),
      words_most word hides,
    )

-- what stands around them in a mark
abbrev around : ℕ
around = byte_len (codes "(skk-ignore-dic-word") + byte_len (codes ")") + byte_len (0x2F ∷ [])

mark_bytes : (word : List ℕ) (hides : List (List ℕ))
    → slashed (mark_items (word ∷ hides)) ≡ byte_len (flat_map hidden (word ∷ hides)) + around
mark_bytes word hides =
    let words = flat_map hidden (word ∷ hides) in
    let mark = codes "(skk-ignore-dic-word" ++ words ++ codes ")" in
    omega (
      arith,
      one_more mark [],
      byte_len-append mark (0x2F ∷ []),
      byte_len-append (codes "(skk-ignore-dic-word" ++ words) (codes ")"),
      byte_len-append (codes "(skk-ignore-dic-word") words,
    )

-- a mark of some of the words of another is no longer
mark_most : (some all : List (List ℕ)) → byte_len (flat_map hidden some) ≤ byte_len (flat_map hidden all)
    → (all ≡ [] → some ≡ []) → slashed (mark_items some) ≤ slashed (mark_items all)
mark_most [] all less none = omega arith
mark_most (word ∷ some) [] less none = absurd (by (none refl))
  where
    by : word ∷ some ≡ [] → ⊥
    by e = cc
mark_most (word ∷ some) (other ∷ all) less none = omega (arith, mark_bytes word some, mark_bytes other all, less)

without_none : (word : List ℕ) (hides : List (List ℕ)) → hides ≡ [] → without_text word hides ≡ []
without_none word [] e = refl
without_none word (first ∷ hides) e = cc

-- Rows

-- the line of a row, part by part
line_bytes : (reading : List ℕ) (cands : List Cand) (blocks : List Block) (hides : List (List ℕ))
    → byte_len (reading ++ 0x20 ∷ 0x2F ∷ flat_map with_slash (map item cands ++ map written_block blocks
    ++ mark_items hides))
    ≡ byte_len reading + byte_len (0x20 ∷ 0x2F ∷ []) + (slashed (map item cands) + slashed (map written_block blocks)
    + slashed (mark_items hides))
line_bytes reading cands blocks hides =
    let front = map item cands ++ map written_block blocks in
    let all = flat_map with_slash (front ++ mark_items hides) in
    omega (
      arith,
      byte_len-append reading (0x20 ∷ 0x2F ∷ all),
      byte_len-append (0x20 ∷ 0x2F ∷ []) all,
      ap byte_len (flat_map-append with_slash front (mark_items hides)),
      byte_len-append (flat_map with_slash front) (flat_map with_slash (mark_items hides)),
      ap byte_len (flat_map-append with_slash (map item cands) (map written_block blocks)),
      byte_len-append (flat_map with_slash (map item cands)) (flat_map with_slash (map written_block blocks)),
    )

pub annotated_most : (row : Row) (cand : Cand) (stamp : ℕ)
    → byte_len (canonical (annotated (Some row) row.key cand stamp))
    ≤ byte_len (canonical row) + byte_len (with_slash (item cand))
annotated_most row cand stamp =
    omega (
      arith,
      line_bytes row.key.reading row.cands row.blocks row.hides,
      line_bytes row.key.reading (annotated_cands row.cands cand) row.blocks (without_text cand.word row.hides),
      cands_most cand row.cands,
      mark_most (without_text cand.word row.hides) row.hides (words_most cand.word row.hides)
          (without_none cand.word row.hides),
    )
