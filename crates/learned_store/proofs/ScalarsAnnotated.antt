-- The line of a row after one of its candidates is annotated spells characters where the row and the item do.
use Rattle.std.proofs.Common.{◌≡◌, ℕ, Bool, true, false, ◌&&◌, cond, Some, List, [], ◌∷◌, ◌++◌}
use Rattle.std.proofs.Common.{codes, map, refl, sym, ap, ◌∙◌, subst, arith}
use Rattle.std.specs.List.{flat_map}
use Rattle.std.specs.Str.{all_scalars}
use Rattle.std.proofs.lemmas.Bool.{and_from, and_parts}
use Rattle.std.proofs.lemmas.Grind.{flat_map-append}
use Rattle.skk_calls.specs.Canonical.{canonical, item, mark_items, quoted, with_slash, written_block}
use Rattle.skk_calls.specs.KeyLaws.{same_equal}
use Rattle.skk_calls.specs.Learning.{without_text, annotated_cands, annotated}
use Rattle.skk_calls.specs.Rows.{Cand, Block, Row, same_text}

-- texts one behind another
both : (front back : List ℕ) → all_scalars (front ++ back) ≡ (all_scalars front && all_scalars back)
both [] back = refl
both (c ∷ front) back = grind (arith, both front back)

-- Candidates

module _ (cand : Cand) (new : all_scalars (item cand) ≡ true) where
  slash_spelled : all_scalars (with_slash (item cand)) ≡ true
  slash_spelled =
      both (item cand) (0x2F ∷ []) ∙ and_from (all_scalars (item cand)) (all_scalars (0x2F ∷ [])) new refl

  -- the items of candidates, one of which has the note
  cands_spelled : (cands : List Cand) → all_scalars (flat_map with_slash (map item cands)) ≡ true
      → all_scalars (flat_map with_slash (map item (annotated_cands cands cand))) ≡ true
  cands_spelled [] all =
      both (with_slash (item cand)) []
      ∙ and_from (all_scalars (with_slash (item cand))) (all_scalars []) slash_spelled refl
  cands_spelled (first ∷ cands) all = by (same_text first.word cand.word) refl (cands_spelled cands parts.1)
    where
      rest : List ℕ
      rest = flat_map with_slash (map item cands)

      parts : (all_scalars (with_slash (item first)) ≡ true) × (all_scalars rest ≡ true)
      parts = and_parts (all_scalars (with_slash (item first))) (all_scalars rest)
          (sym (both (with_slash (item first)) rest) ∙ all)

      by : (b : Bool) → same_text first.word cand.word ≡ b
          → all_scalars (flat_map with_slash (map item (annotated_cands cands cand))) ≡ true
          → all_scalars (flat_map with_slash (map item (cond b (record { word = first.word; note = cand.note } ∷ cands)
          (first ∷ annotated_cands cands cand)))) ≡ true
      by true same spelled =
          subst (λ (w : List ℕ).
          all_scalars (flat_map with_slash (map item (record { word = w; note = cand.note } ∷ cands))) ≡ true)
          (sym (same_equal first.word cand.word same))
          (both (with_slash (item cand)) rest
          ∙ and_from (all_scalars (with_slash (item cand))) (all_scalars rest) slash_spelled parts.1)
      by false differ spelled =
          let later = flat_map with_slash (map item (annotated_cands cands cand)) in
          both (with_slash (item first)) later
          ∙ and_from (all_scalars (with_slash (item first))) (all_scalars later) parts.0 spelled

-- Hidden words

-- a hidden word as it stands in its mark
abbrev hidden : List ℕ → List ℕ
hidden word = 0x20 ∷ quoted word

-- some of them spell characters where all do
some_hidden : (word : List ℕ) (hides : List (List ℕ)) → all_scalars (flat_map hidden hides) ≡ true
    → all_scalars (flat_map hidden (without_text word hides)) ≡ true
some_hidden word [] all = refl
some_hidden word (first ∷ hides) all =
    grind (
      arith,
      both (hidden first) (flat_map hidden hides),
      both (hidden first) (flat_map hidden (without_text word hides)),
      some_hidden word hides,
    )

-- the mark of hidden words spells characters just where they do
mark_spells : (hides : List (List ℕ)) → all_scalars (flat_map hidden hides) ≡ true
    → all_scalars (flat_map with_slash (mark_items hides)) ≡ true
mark_spells [] all = refl
mark_spells (word ∷ hides) all =
    let words = flat_map hidden (word ∷ hides) in
    let mark = codes "(skk-ignore-dic-word" ++ words ++ codes ")" in
    grind (
      arith,
      both (codes "(skk-ignore-dic-word" ++ words) (codes ")"),
      both (codes "(skk-ignore-dic-word") words,
      both mark (0x2F ∷ []),
      both (with_slash mark) [],
      all,
    )

hides_spell : (hides : List (List ℕ)) → all_scalars (flat_map with_slash (mark_items hides)) ≡ true
    → all_scalars (flat_map hidden hides) ≡ true
hides_spell [] all = refl
hides_spell (word ∷ hides) all =
    let words = flat_map hidden (word ∷ hides) in
    let mark = codes "(skk-ignore-dic-word" ++ words ++ codes ")" in
    grind (
      arith,
      both (codes "(skk-ignore-dic-word" ++ words) (codes ")"),
      both (codes "(skk-ignore-dic-word") words,
      both mark (0x2F ∷ []),
      both (with_slash mark) [],
      all,
    )

-- Rows

-- the items of a row with their slashes, part by part
parts : (cands : List Cand) (blocks : List Block) (hides : List (List ℕ))
    → all_scalars (flat_map with_slash (map item cands ++ map written_block blocks ++ mark_items hides))
    ≡ ((all_scalars (flat_map with_slash (map item cands))
    && all_scalars (flat_map with_slash (map written_block blocks)))
    && all_scalars (flat_map with_slash (mark_items hides)))
parts cands blocks hides =
    ap all_scalars (flat_map-append with_slash (map item cands ++ map written_block blocks) (mark_items hides)
    ∙ ap (λ l. l ++ flat_map with_slash (mark_items hides))
    (flat_map-append with_slash (map item cands) (map written_block blocks)))
    ∙ both (flat_map with_slash (map item cands) ++ flat_map with_slash (map written_block blocks))
    (flat_map with_slash (mark_items hides))
    ∙ ap (λ b. b && all_scalars (flat_map with_slash (mark_items hides)))
    (both (flat_map with_slash (map item cands)) (flat_map with_slash (map written_block blocks)))

pub annotated_spells : (row : Row) (cand : Cand) (stamp : ℕ) → all_scalars (canonical row) ≡ true
    → all_scalars (item cand) ≡ true → all_scalars (canonical (annotated (Some row) row.key cand stamp)) ≡ true
annotated_spells row cand stamp all new =
    let cands = annotated_cands row.cands cand in
    let hides = without_text cand.word row.hides in
    let old_items = flat_map with_slash (map item row.cands ++ map written_block row.blocks ++ mark_items row.hides) in
    let new_items = flat_map with_slash (map item cands ++ map written_block row.blocks ++ mark_items hides) in
    grind (
      arith,
      both row.key.reading (0x20 ∷ 0x2F ∷ old_items),
      both row.key.reading (0x20 ∷ 0x2F ∷ new_items),
      parts row.cands row.blocks row.hides,
      parts cands row.blocks hides,
      cands_spelled cand new row.cands,
      hides_spell row.hides,
      some_hidden cand.word row.hides,
      mark_spells hides,
      all,
      new,
    )
