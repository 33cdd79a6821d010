-- Candidates that are put in the place of others.
use Rattle.std.proofs.Common.{◌≡◌, ◌∙◌, ap, ℕ, zero, suc, Bool, true, false, cond, Some, List, [], ◌∷◌, map, set}
use Rattle.std.proofs.Common.{length, slice_get, slice_index_or, refl, sym}
use Rattle.std.proofs.lemmas.Option.{get_or_from_slice_get}
use Rattle.skk_calls.specs.KeyLaws.{same_equal}
use Rattle.skk_calls.specs.Rows.{RowKey, Cand, same_text}
use Rattle.candidate_state.specs.declared.numbered.TextCand.{TextCand}
use Rattle.candidate_state.specs.Shown.{Shown, changed_at, renewed, shown_renewed, shown_word, shown_with_text}
use Rattle.candidate_state.specs.Shown.{text_renewed, with_cand}

-- an item that is put in a place is the change of the item that stood there
pub set-changed : {A : Type 0} (change : A → A) (items : List A) (place : ℕ) (item put : A)
    → slice_get items place ≡ Some item → put ≡ change item → set items place put ≡ changed_at change items place
set-changed change [] place item put found is = cc
set-changed change (first ∷ items) zero item put found is =
    let same : first ≡ item = cc in ap (λ i. i ∷ items) (is ∙ ap change (sym same))
set-changed change (first ∷ items) (suc place) item put found is =
    ap (λ is. first ∷ is) (set-changed change items place item put found is)

-- where the change is none, the items are as they were
pub same-changed : {A : Type 0} (change : A → A) (items : List A) (place : ℕ) (item : A)
    → slice_get items place ≡ Some item → item ≡ change item → items ≡ changed_at change items place
same-changed change [] place item found is = cc
same-changed change (first ∷ items) zero item found is =
    let same : first ≡ item = cc in ap (λ i. i ∷ items) (same ∙ is ∙ ap change (sym same))
same-changed change (first ∷ items) (suc place) item found is =
    ap (λ is. first ∷ is) (same-changed change items place item found is)

-- there are as many items
pub length-changed : {A : Type 0} (change : A → A) (items : List A) (place : ℕ)
    → length (changed_at change items place) ≡ length items
length-changed change [] place = refl
length-changed change (first ∷ items) zero = refl
length-changed change (first ∷ items) (suc place) = ap suc (length-changed change items place)

-- what items are shown as changes with them
map-changed : {A B : Type 0} (show : A → B) (change : A → A) (other : B → B) (items : List A) (place : ℕ)
    → ((item : A) → show (change item) ≡ other (show item))
    → map show (changed_at change items place) ≡ changed_at other (map show items) place
map-changed show change other [] place same = refl
map-changed show change other (first ∷ items) zero same = ap (λ i. i ∷ map show items) (same first)
map-changed show change other (first ∷ items) (suc place) same =
    ap (λ is. show first ∷ is) (map-changed show change other items place same)

-- a candidate with another of its word in its place is shown so with its word
word-renewed : (key : RowKey) (cand found : Cand)
    → shown_word key (renewed cand found) ≡ shown_renewed cand (shown_word key found)
word-renewed key cand found = by (same_text found.word cand.word) refl
  where
    by : (same : Bool) → same_text found.word cand.word ≡ same
        → shown_word key (cond same cand found)
        ≡ record { key = key; cand = cond same cand found; text = found.word }
    by true e =
        ap (λ text. record { key = key; cand = cand; text = text }) (sym (same_equal found.word cand.word e))
    by false e = refl

-- the candidates of a key are shown with it
pub put-words : (key : RowKey) (cand : Cand) (cands : List Cand) (place : ℕ)
    → map (shown_word key) (changed_at (renewed cand) cands place) ≡ with_cand (map (shown_word key) cands) place cand
put-words key cand cands place =
    map-changed (shown_word key) (renewed cand) (shown_renewed cand) cands place (word-renewed key cand)

-- and so are those of a list with its texts
pub put-texts : (key number_key : RowKey) (cand : Cand) (cands : List TextCand) (place : ℕ)
    → map (shown_with_text key number_key) (changed_at (text_renewed cand) cands place)
    ≡ with_cand (map (shown_with_text key number_key) cands) place cand
put-texts key number_key cand cands place =
    map-changed (shown_with_text key number_key) (text_renewed cand) (shown_renewed cand) cands place
    (λ shown. refl)

-- a candidate that is put into its place beside its text is the change of what stood there
pub set-text : (cand : Cand) (items : List TextCand) (place : ℕ) (found item : TextCand)
    → slice_get items place ≡ Some found → item ≡ slice_index_or items place item
    → same_text found.cand.word cand.word ≡ true
    → set items place (record item { cand = cand }) ≡ changed_at (text_renewed cand) items place
set-text cand items place found item is there same =
    let one : item ≡ found = there ∙ get_or_from_slice_get items place found item is in
    ap (λ (i : TextCand). set items place (record i { cand = cand })) one
    ∙ set-changed (text_renewed cand) items place found (record found { cand = cand }) is
    (ap (λ c. record found { cand = c }) (sym (put-same cand found.cand same)))
  where
    put-same : (cand found : Cand) → same_text found.word cand.word ≡ true → renewed cand found ≡ cand
    put-same cand found e = rw e refl

pub ruleset changes = (set-changed, same-changed, set-text)

pub ruleset puts = (put-words, put-texts)

pub ruleset counts = length-changed
