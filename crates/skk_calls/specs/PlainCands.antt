-- Candidates that lie in a text as a line of a dictionary has them: item by item, each ended by a slash.
use Rattle.std.specs.Prelude.{ℕ, Bool, ◌&&◌, ◌||◌, ◌==◌, not, nat_le, if◌then◌else◌, Option, None, Some, List, [], map}
use Rattle.std.specs.List.{list_all, list_any}
use Rattle.std.specs.Option.{unwrap_or}
use Rattle.skk_text.specs.Lists.{is_empty}
use Rattle.skk_text.specs.Text.{byte_len}
use Rattle.exact_readers.specs.Cuts.{cut, up_to}
use Rattle.exact_readers.specs.Formats.{Format, taken}
use Rattle.skk_calls.specs.Canonical.{begins_form, is_special}
use Rattle.skk_calls.specs.Rows.{Cand, is_note, texts_differ, words_of}

-- an item without a slash, and the slash that ends it
abbrev pub slashed_item : Format ℕ (List ℕ)
slashed_item = up_to (λ c. c == 0x2F)

-- the items at the front of a text, and what stands behind the last slash
abbrev pub items_and_rest : List ℕ → List (List ℕ) × List ℕ
items_and_rest text = taken slashed_item.step text

-- an item cut at its first semicolon, behind which its note stands
abbrev pub word_and_note : List ℕ → List ℕ × List ℕ
word_and_note item = unwrap_or (cut (λ c. c == 0x3B) item) (item, [])

-- the candidate that an item is as it stands
abbrev pub cand_of_item : List ℕ → Cand
cand_of_item item = record { word = (word_and_note item).0; note = (word_and_note item).1 }

-- the candidates of a text, one of each item
abbrev pub cands_in : List ℕ → List Cand
cands_in text = map cand_of_item (items_and_rest text).0

-- a word is plain: it is not empty, and is written as it is
abbrev pub is_plain_word : List ℕ → Bool
is_plain_word word = not (is_empty word) && not (list_any is_special word || begins_form word)

-- a word, and the note behind a semicolon where there is one, are those of a plain item: the word is plain, and no
-- semicolon has an empty or a bad note behind it
abbrev pub are_plain_parts : List ℕ → Option (List ℕ × List ℕ) → Bool
are_plain_parts item None = is_plain_word item
are_plain_parts item (Some (word, note)) = is_plain_word word && (not (is_empty note) && is_note note)

-- an item is plain: it is what is written of the candidate that it is
abbrev pub is_plain_item : List ℕ → Bool
is_plain_item item = are_plain_parts item (cut (λ c. c == 0x3B) item)

-- the items of a text are plain, slashes end all of it, and its words differ
abbrev pub has_plain_items : List ℕ → Bool
has_plain_items text =
    is_empty (items_and_rest text).1
    && (list_all is_plain_item (items_and_rest text).0 && texts_differ (words_of (cands_in text)))

-- the most bytes of a plain list, so that its words may be told apart two by two
abbrev pub plain_limit : ℕ
plain_limit = 512

-- a text is a plain list of candidates: it has one, and is what is written of them
abbrev pub is_plain_list : List ℕ → Bool
is_plain_list text = not (is_empty text) && (nat_le (byte_len text) plain_limit && has_plain_items text)

-- the candidates of a text that is a plain list
abbrev pub plain_cands : List ℕ → Option (List Cand)
plain_cands text = if is_plain_list text then Some (cands_in text) else None
