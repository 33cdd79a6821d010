-- A plain list is what is written of its candidates, which are valid and differ.
use Rattle.std.proofs.Common.{◌≡◌, ◌≤◌, ◌+◌, ◌∙◌, ℕ, true, false, ◌==◌, ◌&&◌, ◌||◌, not, nat_le, Option, None, Some}
use Rattle.std.proofs.Common.{List, [], ◌∷◌, ◌++◌, length, map, refl, sym, ap, arith, append_assoc, append-nil}
use Rattle.std.specs.List.{flat_map, list_all, list_any}
use Rattle.std.proofs.lemmas.Bool.{and_from, and_parts, eqb-true, le-leb, leb-true, not-true}
use Rattle.skk_text.specs.Lists.{is_empty}
use Rattle.skk_text.specs.Text.{byte_len}
use Rattle.skk_text.specs.TextLaws.{byte_len-append}
use Rattle.exact_readers.specs.Cuts.{cut}
use Rattle.exact_readers.specs.CutLaws.{up_to-exact}
use Rattle.exact_readers.specs.Exact.{IsExact}
use Rattle.exact_readers.specs.Formats.{SpellsMany}
use Rattle.exact_readers.specs.ManyLaws.{taken-sound}
use Rattle.skk_calls.specs.declared.part.Part.{Part}
use Rattle.skk_calls.specs.declared.part.Part.TheVariants.{Nasi, Ari}
use Rattle.skk_calls.specs.Canonical.{begins_form, is_special, item, with_slash, written_word}
use Rattle.skk_calls.specs.PlainCands.{are_plain_parts, cand_of_item, cands_in, is_plain_item, is_plain_list}
use Rattle.skk_calls.specs.PlainCands.{has_plain_items, is_plain_word, items_and_rest, plain_limit, slashed_item}
use Rattle.skk_calls.specs.FoundCands.{row_with}
use Rattle.skk_calls.specs.RowLaws.{row_from_parts}
use Rattle.skk_calls.specs.Rows.{Cand, RowKey, fits_blocks, is_cand, is_note, is_row, is_row_key, texts_differ}
use Rattle.skk_calls.specs.Rows.{word_limit, words_of}

-- an item and its slash end at the first slash: no two are spelled alike
pub slashed_exact : IsExact slashed_item
slashed_exact = up_to-exact (λ c. c == 0x2F)

-- Items

-- a plain word is written as it is, and has a character
plain_word : (word : List ℕ) → is_plain_word word ≡ true
    → (written_word word ≡ word) × (nat_le 1 (length word) ≡ true)
plain_word [] plain = cc
plain_word (c ∷ word) plain =
    let none : (list_any is_special (c ∷ word) || begins_form (c ∷ word)) ≡ false = not-true _ plain in
    (rw none refl, le-leb 1 (length (c ∷ word)) (omega arith))

-- an item is what is written of a candidate, which is valid where the item is no longer than a word may be
pub record IsWritten (text : List ℕ) (cand : Cand) : Type 0 where
  pub as_is : item cand ≡ text
  pub valid : byte_len text ≤ word_limit → is_cand cand ≡ true

-- an item without a semicolon is a plain word
word_alone : (word : List ℕ) → is_plain_word word ≡ true → IsWritten word (record { word = word; note = [] })
word_alone word plain =
    let is = plain_word word plain in
    record {
      as_is = append-nil (written_word word) ∙ is.0;
      valid = λ short. and_from _ _ is.1 (le-leb (byte_len word + 0) word_limit (omega arith));
    }

-- one with a semicolon is a plain word and a note
word_with_note : (word note : List ℕ) → is_plain_word word ≡ true → (not (is_empty note) && is_note note) ≡ true
    → IsWritten (word ++ 0x3B ∷ note) (record { word = word; note = note })
word_with_note word [] plain noted = cc
word_with_note word (c ∷ note) plain noted =
    let is = plain_word word plain in
    record {
      as_is = ap (λ ys. ys ++ 0x3B ∷ c ∷ note) is.0;
      valid = λ short.
          let bytes : byte_len word + byte_len (c ∷ note) ≤ word_limit =
          omega (arith, byte_len-append word (0x3B ∷ c ∷ note), byte_len-append (0x3B ∷ []) (c ∷ note)) in
          and_from _ _ is.1 (and_from _ _ noted (le-leb _ word_limit bytes));
    }

-- a plain item is what is written of the candidate that it is
pub plain_item : (text : List ℕ) → is_plain_item text ≡ true → IsWritten text (cand_of_item text)
plain_item text plain = by (cut (λ c. c == 0x3B) text) refl plain
  where
    by : (found : Option (List ℕ × List ℕ)) → cut (λ c. c == 0x3B) text ≡ found → are_plain_parts text found ≡ true
        → IsWritten text (cand_of_item text)
    by None e plain = rw e (word_alone text plain)
    by (Some (word, note)) e plain =
        let is = (up_to-exact (λ c. c == 0x3B)).sound text word note e in
        let (end, ends, none, piece) = is.spelled in
        let split : text ≡ word ++ 0x3B ∷ note =
        is.tokens_are ∙ ap (λ ys. ys ++ note) piece ∙ append_assoc word (end ∷ []) note
        ∙ ap (λ c. word ++ c ∷ note) (eqb-true end 0x3B ends) in
        let parts = and_parts (is_plain_word word) _ plain in
        let written = word_with_note word note parts.0 parts.1 in
        rw e (record { as_is = written.as_is ∙ sym split; valid = λ short. written.valid (rw split at short) })

-- Lists of items

-- plain items are what is written of their candidates
plain_items : (texts : List (List ℕ)) → list_all is_plain_item texts ≡ true
    → flat_map with_slash (map item (map cand_of_item texts)) ≡ flat_map with_slash texts
plain_items [] plain = refl
plain_items (text ∷ texts) plain =
    let parts = and_parts (is_plain_item text) (list_all is_plain_item texts) plain in
    ap (λ ys. with_slash ys ++ flat_map with_slash (map item (map cand_of_item texts))) (plain_item text parts.0).as_is
    ∙ ap (λ ys. with_slash text ++ ys) (plain_items texts parts.1)

-- and these are valid where all of it is no longer than a word may be
valid_items : (texts : List (List ℕ)) → list_all is_plain_item texts ≡ true
    → byte_len (flat_map with_slash texts) ≤ word_limit → list_all is_cand (map cand_of_item texts) ≡ true
valid_items [] plain short = refl
valid_items (text ∷ texts) plain short =
    let parts = and_parts (is_plain_item text) (list_all is_plain_item texts) plain in
    let all = byte_len-append (with_slash text) (flat_map with_slash texts) in
    let first = byte_len-append text (0x2F ∷ []) in
    and_from _ _ ((plain_item text parts.0).valid (omega (arith, all, first)))
    (valid_items texts parts.1 (omega (arith, all, first)))

-- a text that items spell is these items, each with its slash
spelled_items : (texts : List (List ℕ)) (text : List ℕ) → SpellsMany slashed_item.Spells texts text
    → text ≡ flat_map with_slash texts
spelled_items [] text spelled = spelled
spelled_items (first ∷ texts) text (front, back, (end, ends, none, piece), more, split) =
    split
    ∙ ap (λ ys. ys ++ back) (piece ∙ ap (λ c. first ++ c ∷ []) (eqb-true end 0x2F ends))
    ∙ ap (λ ys. with_slash first ++ ys) (spelled_items texts back more)

-- where slashes end all of a text, it is its items
pub ended_items : (text : List ℕ) → is_empty (items_and_rest text).1 ≡ true
    → text ≡ flat_map with_slash (items_and_rest text).0
ended_items text ended = by (items_and_rest text).1 refl ended
  where
    by : (rest : List ℕ) → (items_and_rest text).1 ≡ rest → is_empty rest ≡ true
        → text ≡ flat_map with_slash (items_and_rest text).0
    by [] e empty =
        let is = taken-sound slashed_item slashed_exact text in
        is.tokens_are ∙ ap (λ ys. is.pieces ++ ys) e ∙ append-nil is.pieces
        ∙ spelled_items (items_and_rest text).0 is.pieces is.spelled
    by (c ∷ rest) e empty = cc

-- Rows

-- the row of a valid key with valid candidates is one where their words differ
pub row_is_valid : (key : RowKey) (cands : List Cand) → is_row_key key ≡ true → list_all is_cand cands ≡ true
    → texts_differ (words_of cands) ≡ true → is_row (row_with key cands) ≡ true
row_is_valid key cands valid all differ =
    row_from_parts (row_with key cands) (record {
      key = valid;
      cands = all;
      words = differ;
      part = no_blocks key.part;
      blocks = refl;
      okuri = refl;
      hides = refl;
    })
  where
    no_blocks : (part : Part) → fits_blocks part [] ≡ true
    no_blocks Nasi = refl
    no_blocks Ari = refl

-- Plain lists

-- what a plain list keeps
pub record PlainParts (text : List ℕ) : Type 0 where
  pub written : flat_map with_slash (map item (cands_in text)) ≡ text
  pub valid : list_all is_cand (cands_in text) ≡ true
  pub differ : texts_differ (words_of (cands_in text)) ≡ true
  pub some_cand : is_empty (cands_in text) ≡ false
  pub short : byte_len text ≤ plain_limit

-- where nothing is written, there is nothing
some_written : (text : List ℕ) (cands : List Cand) → flat_map with_slash (map item cands) ≡ text
    → not (is_empty text) ≡ true → is_empty cands ≡ false
some_written text [] written some = let empty : false ≡ true = rw (sym written) at some in cc
some_written text (cand ∷ cands) written some = refl

-- a plain list is what is written of its candidates, which are valid and differ
pub plain_parts : (text : List ℕ) → is_plain_list text ≡ true → PlainParts text
plain_parts text plain =
    let some = and_parts (not (is_empty text)) _ plain in
    let limit = and_parts (nat_le (byte_len text) plain_limit) (has_plain_items text) some.1 in
    let ended = and_parts (is_empty (items_and_rest text).1) _ limit.1 in
    let items = and_parts (list_all is_plain_item (items_and_rest text).0) _ ended.1 in
    let short = leb-true (byte_len text) plain_limit limit.0 in
    let is = ended_items text ended.0 in
    let written = plain_items (items_and_rest text).0 items.0 ∙ sym is in
    record {
      written = written;
      valid = valid_items (items_and_rest text).0 items.0 (omega (arith, ap byte_len is, short));
      differ = items.1;
      some_cand = some_written text (cands_in text) written some.0;
      short = short;
    }
