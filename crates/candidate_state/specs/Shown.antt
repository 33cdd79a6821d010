-- Candidates as they are shown.
use Rattle.std.specs.Prelude.{◌≡◌, ℕ, zero, suc, true, false, if◌then◌else◌, List, [], ◌∷◌, ◌++◌, map}
use Rattle.numeric_entries.specs.Forms.{fill}
use Rattle.skk_calls.specs.Found.{first_of_each}
use Rattle.skk_calls.specs.Rows.{RowKey, Cand, same_text}
use Rattle.candidate_state.specs.declared.numbered.FirstTexts.{FirstTexts}
use Rattle.candidate_state.specs.declared.numbered.TextCand.{TextCand}
use Rattle.candidate_state.specs.declared.shown.BothFound.{BothFound}
use Rattle.candidate_state.specs.declared.shown.Found.{Found}
use Rattle.candidate_state.specs.declared.shown.ShownCands.{ShownCands}
use Rattle.candidate_state.specs.declared.shown.ShownCands.TheVariants.{Words, Numbered}

-- a candidate that is shown: the key that it was found under, the candidate as it was found, and the text that is shown
pub record Shown : Type 0 where
  pub key : RowKey
  pub cand : Cand
  pub text : List ℕ

-- a candidate of a key as it is shown where there are no numbers: with its word
abbrev pub shown_word : RowKey → Cand → Shown
shown_word key cand = record { key = key; cand = cand; text = cand.word }

-- a candidate of a number key as it is shown: with its word filled with the numbers, and with the first words that were
-- found for them
abbrev pub shown_filled : RowKey → List (List ℕ) → List (List ℕ) → Cand → Shown
shown_filled key numbers firsts cand = record { key = key; cand = cand; text = fill cand.word numbers firsts }

-- the first of each text that is shown
abbrev pub first_shown : List Shown → List Shown
first_shown shown = first_of_each (λ s. s.text) [] shown

-- the candidates that are shown for what was found of a key, the first of each text
abbrev pub shown_plain : Found → List Shown
shown_plain found = first_shown (map (shown_word found.key) found.cands)

-- the candidates that are shown for a reading with numbers, the first of each text: what was found of it as it is, and
-- then what was found of its number key, filled
abbrev pub shown_numbers : BothFound → List (List ℕ) → List (List ℕ) → List Shown
shown_numbers found numbers firsts =
    first_shown (map (shown_word found.plain.key) found.plain.cands
    ++ map (shown_filled found.numbered.key numbers firsts) found.numbered.cands)

-- New notes

-- a list in which the item of a place is changed
abbrev pub changed_at : {A : Type 0} → (A → A) → List A → ℕ → List A
changed_at change [] place = []
changed_at change (first ∷ items) zero = change first ∷ items
changed_at change (first ∷ items) (suc place) = first ∷ changed_at change items place

-- a candidate with another of its word in its place: that one has a new note. One of another word changes nothing
abbrev pub renewed : Cand → Cand → Cand
renewed cand found = if same_text found.word cand.word then cand else found

-- the same of a candidate that is shown, whose key and whose text stay
abbrev pub shown_renewed : Cand → Shown → Shown
shown_renewed cand shown = record shown { cand = renewed cand shown.cand }

-- the candidates that are shown, of which that of a place has another of its word in its place
abbrev pub with_cand : List Shown → ℕ → Cand → List Shown
with_cand shown place cand = changed_at (shown_renewed cand) shown place

-- Lists that are shown

-- the text that is shown for a candidate
abbrev pub text_of : TextCand → List ℕ
text_of shown = shown.text

-- a candidate with its word, which was found under the key of a reading as it is
abbrev pub with_word : Cand → TextCand
with_word cand = record { cand = cand; text = cand.word; is_numbered = false }

-- a candidate with its word filled, which was found under a number key
abbrev pub with_fill : List (List ℕ) → List (List ℕ) → Cand → TextCand
with_fill numbers firsts cand = record { cand = cand; text = fill cand.word numbers firsts; is_numbered = true }

-- the first of each text of candidates
abbrev pub first_texts : List TextCand → List TextCand
first_texts cands = first_of_each text_of [] cands

-- the texts of candidates are kept beside them
abbrev pub has_texts : FirstTexts → Type 0
has_texts first = first.texts ≡ map text_of first.cands

-- a candidate as it is shown, by the key of its reading as it is and by the number key
abbrev pub shown_with_text : RowKey → RowKey → TextCand → Shown
shown_with_text key number_key shown =
    record { key = if shown.is_numbered then number_key else key; cand = shown.cand; text = shown.text }

-- a candidate with its text, with another of its word in its place: its text and its key stay
abbrev pub text_renewed : Cand → TextCand → TextCand
text_renewed cand shown = record shown { cand = renewed cand shown.cand }

-- the candidates of a list as they are shown
abbrev pub shown_cands : ShownCands → List Shown
shown_cands (Words key cands) = map (shown_word key) cands
shown_cands (Numbered list) = map (shown_with_text list.key list.number_key) list.cands
