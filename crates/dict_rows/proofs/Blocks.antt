-- Blocks with a word at the front and without a word, and the candidate that stands first.
use Rattle.std.proofs.Common.{◌≡◌, ℕ, Bool, true, false, cond, ◌||◌, not, nat_le, None, Some, Option, List, []}
use Rattle.std.proofs.Common.{◌∷◌, length, find, refl, sym, ap, ◌∙◌, arith}
use Rattle.std.specs.List.{list_all, list_any}
use Rattle.std.proofs.lemmas.Bool.{and_from}
use Rattle.std.proofs.lemmas.Bool.Decides.{nat_tests}
use Rattle.skk_text.specs.PairsLaws.{list_all-filter, all_pairs-filter}
use Rattle.skk_text.specs.Lists.{is_empty}
use Rattle.skk_calls.specs.DifferLaws.{differ_front}
use Rattle.skk_calls.specs.Found.{note_of}
use Rattle.skk_calls.specs.KeyLaws.{same_equal}
use Rattle.skk_calls.specs.Learning.{block_without, is_own_note, learnt_note, without_text}
use Rattle.skk_calls.specs.RowLaws.{block_from_parts, block_parts, cand_word}
use Rattle.skk_calls.specs.Rows.{Cand, Block, same_text, texts_differ, is_cand, is_block, is_okuri, is_word}
use Rattle.skk_calls.specs.Rows.{words_of}

-- a list with an item at its front has one
one_more : {X : Type 0} (x : X) (xs : List X) → nat_le 1 (length (x ∷ xs)) ≡ true
one_more x xs = grind (arith, nat_tests)

-- a block with the word of a candidate at its front is one
pub chosen_is_block : (okuri : List ℕ) (cand : Cand) (words : List (List ℕ)) → is_okuri okuri ≡ true
    → is_cand cand ≡ true → list_all is_word words ≡ true
    → texts_differ words ≡ true
    → is_block (record { okuri = okuri; words = cand.word ∷ without_text cand.word words }) ≡ true
chosen_is_block okuri cand words okuri_is cand_is all differ =
    block_from_parts (record { okuri = okuri; words = cand.word ∷ without_text cand.word words })
    (record {
      okuri = okuri_is;
      has_item = one_more cand.word (without_text cand.word words);
      words =
          and_from (is_word cand.word) (list_all is_word (without_text cand.word words)) (cand_word cand cand_is)
          (list_all-filter is_word (λ other. not (same_text other cand.word)) words all);
      different = differ_front cand.word words differ;
    })

-- a block without a word is one where words are left
pub left_is_block : (word : List ℕ) (block : Block) → is_block block ≡ true
    → is_empty (without_text word block.words) ≡ false → is_block (block_without word block) ≡ true
left_is_block word block is some =
    let parts = block_parts block is in
    block_from_parts (block_without word block)
    (record {
      okuri = parts.okuri;
      has_item = by (without_text word block.words) some;
      words = list_all-filter is_word (λ other. not (same_text other word)) block.words parts.words;
      different =
          all_pairs-filter (λ text other. not (same_text text other)) (λ other. not (same_text other word)) block.words
          parts.different;
    })
  where
    by : (words : List (List ℕ)) → is_empty words ≡ false → nat_le 1 (length words) ≡ true
    by [] e = cc
    by (text ∷ words) e = one_more text words

-- a word is among those of candidates where one of these has it
pub word_among : (test : List ℕ → Bool) (cands : List Cand)
    → list_any (λ (cand : Cand). test cand.word) cands ≡ list_any test (words_of cands)
word_among test [] = refl
word_among test (cand ∷ cands) = ap (λ b. test cand.word || b) (word_among test cands)

-- the first candidate with a word is the word with its note
found_noted : (cands : List Cand) (word : List ℕ) (found : Cand)
    → find (λ other. same_text other.word word) cands ≡ Some found
    → found ≡ record { word = word; note = note_of cands word }
found_noted [] word found e = cc
found_noted (other ∷ cands) word found e =
    by (same_text other.word word) refl e (found_noted cands word found)
  where
    among : Option Cand
    among = find (λ o. same_text o.word word) cands

    by : (b : Bool) → same_text other.word word ≡ b → cond b (Some other) among ≡ Some found
        → (among ≡ Some found → found ≡ record { word = word; note = note_of cands word })
        → found ≡ record { word = word; note = cond b other.note (note_of cands word) }
    by true same is rest =
        let one : found ≡ other = cc in
        one ∙ ap (λ w. record { word = w; note = other.note }) (same_equal other.word word same)
    by false none is rest = rest is

-- where there is none, the word has no note
none_noted : (cands : List Cand) (word : List ℕ) → find (λ other. same_text other.word word) cands ≡ None
    → note_of cands word ≡ []
none_noted [] word e = refl
none_noted (other ∷ cands) word e = by (same_text other.word word) e (none_noted cands word)
  where
    among : Option Cand
    among = find (λ o. same_text o.word word) cands

    by : (b : Bool) → cond b (Some other) among ≡ None → (among ≡ None → note_of cands word ≡ [])
        → cond b other.note (note_of cands word) ≡ []
    by true is rest = cc
    by false is rest = rest is

-- the candidate that keeps its note, the one that does not, and the one whose word is new
pub first_kept : (cands : List Cand) (cand known : Cand)
    → find (λ other. same_text other.word cand.word) cands ≡ Some known
    → (is_own_note known.note || is_empty cand.note) ≡ true
    → known ≡ record { word = cand.word; note = learnt_note cands cand }
first_kept cands cand known found keeps =
    let is : known ≡ record { word = cand.word; note = note_of cands cand.word } =
    found_noted cands cand.word known found in
    is ∙ sym (ap (λ b. record { word = cand.word; note = cond b (note_of cands cand.word) cand.note })
    (sym (ap (λ (k : Cand). is_own_note k.note || is_empty cand.note) is) ∙ keeps))

pub first_taken : (cands : List Cand) (cand known : Cand)
    → find (λ other. same_text other.word cand.word) cands ≡ Some known
    → (is_own_note known.note || is_empty cand.note) ≡ false
    → cand ≡ record { word = cand.word; note = learnt_note cands cand }
first_taken cands cand known found takes =
    let is : known ≡ record { word = cand.word; note = note_of cands cand.word } =
    found_noted cands cand.word known found in
    sym (ap (λ b. record { word = cand.word; note = cond b (note_of cands cand.word) cand.note })
    (sym (ap (λ (k : Cand). is_own_note k.note || is_empty cand.note) is) ∙ takes))

pub first_new : (cands : List Cand) (cand : Cand) → find (λ other. same_text other.word cand.word) cands ≡ None
    → cand ≡ record { word = cand.word; note = learnt_note cands cand }
first_new cands cand none =
    rw (none_noted cands cand.word none) (by cand.note)
  where
    by : (note : List ℕ)
        → (◌≡◌ {A = Cand}) (record { word = cand.word; note = note })
        (record { word = cand.word; note = cond (is_own_note [] || is_empty note) [] note })
    by [] = refl
    by (c ∷ note) = refl
