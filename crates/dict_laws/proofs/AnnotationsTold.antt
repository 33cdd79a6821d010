-- An annotation is told to change something exactly where it does, keeps the order of the candidates, and is shown.
use Rattle.std.proofs.Common.{◌≡◌, ◌≢◌, ℕ, Bool, true, false, cond, not, ◌||◌, Some, List, [], ◌∷◌, ◌++◌, refl}
use Rattle.std.proofs.Common.{sym, ◌∙◌, ap, arith}
use Rattle.std.specs.List.{list_any}
use Rattle.std.proofs.lemmas.Bool.{or_parts, both_ways}
use Rattle.skk_calls.specs.Found.{note_of}
use Rattle.skk_calls.specs.KeyLaws.{same_itself, same_equal, same_other}
use Rattle.skk_calls.specs.Learning.{annotated_cands, annotated, same_cand, annotation_changes}
use Rattle.skk_calls.specs.Learning.{learnt_note, is_own_note}
use Rattle.skk_calls.specs.Rows.{Cand, Row, same_text, has_text, texts_differ, words_of, is_row}
use Rattle.skk_calls.specs.RowLaws.{row_parts}
use Rattle.dict_laws.proofs.PurgesTold.{without_none}
use Rattle.dict_laws.proofs.Texts.{has_without, differ_parts}

-- some candidate is this one
abbrev has_cand : List Cand → Cand → Bool
has_cand cands cand = list_any (λ other. same_cand other cand) cands

module _ (cand : Cand) where
  -- where a candidate is there, so is its word
  word_there : (cands : List Cand) → has_cand cands cand ≡ true → has_text (words_of cands) cand.word ≡ true
  word_there [] has = cc
  word_there (first ∷ cands) has = grind (arith, same_other cand.word first.word, word_there cands)

  -- among words that differ, candidates that have the one are left
  cands_left : (cands : List Cand) → texts_differ (words_of cands) ≡ true → has_cand cands cand ≡ true
      → annotated_cands cands cand ≡ cands
  cands_left [] differ has = cc
  cands_left (first ∷ cands) differ has =
      by (same_text first.word cand.word) refl (same_text first.note cand.note) refl (cands_left cands parts.1)
    where
      parts : (has_text (words_of cands) first.word ≡ false) × (texts_differ (words_of cands) ≡ true)
      parts = differ_parts first.word (words_of cands) differ

      by : (b : Bool) → same_text first.word cand.word ≡ b → (n : Bool) → same_text first.note cand.note ≡ n
          → (has_cand cands cand ≡ true → annotated_cands cands cand ≡ cands)
          → cond b (record { word = first.word; note = cand.note } ∷ cands) (first ∷ annotated_cands cands cand)
          ≡ first ∷ cands
      by true e true f rest =
          (ap (λ (note : List ℕ). record { word = first.word; note = note } ∷ cands)
          (sym (same_equal first.note cand.note f)))
      by true e false f rest =
          let more : has_cand cands cand ≡ true = grind (arith, e, f) in
          absurd (both_ways (has_text (words_of cands) first.word) parts.0
          (rw (same_equal first.word cand.word e) (word_there cands more)))
      by false e n f rest =
          let more : has_cand cands cand ≡ true = grind (arith, e) in ap (λ behind. first ∷ behind) (rest more)

  -- after an annotation the candidate is there
  cands_have : (cands : List Cand) → has_cand (annotated_cands cands cand) cand ≡ true
  cands_have [] = grind (arith, same_itself cand.word, same_itself cand.note)
  cands_have (first ∷ cands) = grind (arith, same_itself cand.note, cands_have cands)

  -- the words stand in the same order, with a new one behind
  pub words_in_order : (cands : List Cand) → words_of (annotated_cands cands cand)
      ≡ cond (has_text (words_of cands) cand.word) (words_of cands) (words_of cands ++ cand.word ∷ [])
  words_in_order [] = refl
  words_in_order (first ∷ cands) = grind (arith, same_other cand.word first.word, words_in_order cands)

  -- the word has the note
  pub note_annotated : (cands : List Cand) → note_of (annotated_cands cands cand) cand.word ≡ cand.note
  note_annotated [] = grind (arith, same_itself cand.word)
  note_annotated (first ∷ cands) = grind (arith, note_annotated cands)

  -- every other word has the note that it had
  pub notes_left : (cands : List Cand) (word : List ℕ) → same_text cand.word word ≡ false
      → note_of (annotated_cands cands cand) word ≡ note_of cands word
  notes_left [] word other = grind (arith)
  notes_left (first ∷ cands) word other =
      grind (arith, same_equal first.word cand.word, notes_left cands word)

-- where no change is told, the row is left
pub annotation_leaves : (row : Row) (cand : Cand) → is_row row ≡ true
    → annotation_changes (Some row) row.key cand ≡ false → annotated (Some row) row.key cand row.stamp ≡ row
annotation_leaves row cand e none =
    let tests = or_parts (has_text row.hides cand.word) (not (has_cand row.cands cand)) none in
    rw (
      cands_left cand row.cands (row_parts row e).words (by (has_cand row.cands cand) tests.1),
      without_none cand.word row.hides tests.0,
    ) refl
  where
    by : (b : Bool) → not b ≡ false → b ≡ true
    by true f = refl
    by false f = cc

-- where a change is told, the row is another
pub annotation_alters : (row : Row) (cand : Cand) → annotation_changes (Some row) row.key cand ≡ true
    → annotated (Some row) row.key cand row.stamp ≢ row
annotation_alters row cand told e = by (has_text row.hides cand.word) refl (has_cand row.cands cand) refl told
  where
    by : (a : Bool) → has_text row.hides cand.word ≡ a → (b : Bool) → has_cand row.cands cand ≡ b
        → (a || not b) ≡ true → ⊥
    by true f b g t =
        both_ways (has_text row.hides cand.word)
        (sym (ap (λ (r : Row). has_text r.hides cand.word) e) ∙ has_without cand.word row.hides) f
    by false f true g t = cc
    by false f false g t =
        both_ways (has_cand row.cands cand) g
        (sym (ap (λ (r : Row). has_cand r.cands cand) e) ∙ cands_have cand row.cands)

-- a learning keeps a note of the user's own
pub own_note_learnt : (cands : List Cand) (cand : Cand) → is_own_note (note_of cands cand.word) ≡ true
    → learnt_note cands cand ≡ note_of cands cand.word
own_note_learnt cands cand own = rw own refl
