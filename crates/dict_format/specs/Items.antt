-- What the texts between the slashes of a line say: candidates, blocks and marks.
use Rattle.std.specs.Prelude.{◌≡◌, ℕ, Bool, false, ◌==◌, ◌||◌, not, if◌then◌else◌, Option, None, Some, List, [], ◌∷◌}
use Rattle.std.specs.Prelude.{codes, drop}
use Rattle.std.specs.List.{filter}
use Rattle.std.specs.Option.{unwrap_or}
use Rattle.skk_calls.specs.declared.part.Part.{Part}
use Rattle.skk_calls.specs.declared.part.Part.TheVariants.{Nasi, Ari}
use Rattle.skk_calls.specs.Rows.{same_text}
use Rattle.exact_readers.specs.Cuts.{cut}
use Rattle.exact_readers.specs.Formats.{Format, SpellsMany, one_by, one_as, both, mapped, either, ended_by, whole}
use Rattle.dict_format.specs.Words.{SaysWord, said, marked_words}

-- an item of a line: a candidate's word and note, the words of an okurigana, or words that are hidden
pub data Item : Type 0 where
  candidate : List ℕ → List ℕ → Item
  block : List ℕ → List (List ℕ) → Item
  mark : List (List ℕ) → Item

-- the semicolon between a word and its note
abbrev pub is_semicolon : ℕ → Bool
is_semicolon c = c == 0x3B

-- a text cut at its first semicolon, behind which its note stands
abbrev pub at_note : List ℕ → List ℕ × List ℕ
at_note text = unwrap_or (cut is_semicolon text) (text, [])

-- a text without its note
abbrev pub before_note : List ℕ → List ℕ
before_note text = (at_note text).0

-- the note of a text, without the ends of lines
abbrev pub note_of_text : List ℕ → List ℕ
note_of_text text = filter (λ c. not (c == 13 || c == 10)) (at_note text).1

-- the text begins with the bracket that opens a block, which it does in the okuri-ari part alone
abbrev pub opens_block : Part → List ℕ → Bool
opens_block Nasi text = false
opens_block Ari [] = false
opens_block Ari (c ∷ text) = c == 0x5B

-- the text is the bracket that closes a block
abbrev pub closes_block : List ℕ → Bool
closes_block text = same_text text (codes "]")

-- Texts alone

-- a text that opens no block is the item: a mark, or else a candidate
abbrev pub IsSingle : Part → Item → List ℕ → Type 0
IsSingle part (mark words) text = (opens_block part text ≡ false) × marked_words.Spells words text
IsSingle part (candidate word note) text =
    (opens_block part text ≡ false) × ((words : List (List ℕ)) → marked_words.Spells words text → ⊥)
    × SaysWord (before_note text) word × (note ≡ note_of_text text)
IsSingle part (block okuri words) text = ⊥

-- the mark of words that are marked, or else the candidate that a text is
abbrev pub mark_or_candidate : List ℕ → Option (List (List ℕ)) → Item
mark_or_candidate text None = candidate (said (before_note text)) (note_of_text text)
mark_or_candidate text (Some words) = mark words

-- the item that is read of a text alone
abbrev pub single_item : List ℕ → Item
single_item text = mark_or_candidate text (whole marked_words text)

-- where the text opens no block
abbrev pub if_single : Part → List ℕ → Option Item
if_single part text = if opens_block part text then None else Some (single_item text)

-- Blocks

-- the okurigana of a text that opens a block
abbrev pub okuri_opened : Part → List ℕ → Option (List ℕ)
okuri_opened part text = if opens_block part text then Some (drop 1 text) else None

-- a text in a block, which does not close it, says the word
abbrev pub SaysInBlock : List ℕ → List ℕ → Type 0
SaysInBlock word text = (closes_block text ≡ false) × SaysWord (before_note text) word

-- the word that is read of a text in a block
abbrev pub word_inside : List ℕ → Option (List ℕ)
word_inside text = if closes_block text then None else Some (said (before_note text))

-- the text that closes a block
abbrev pub block_end : List ℕ → Option (List ℕ)
block_end text = if closes_block text then Some text else None

-- a text in a block
abbrev pub inside_block : Format (List ℕ) (List ℕ)
inside_block = one_by SaysInBlock word_inside

-- the words of texts, and the closing bracket behind them
abbrev pub block_words : Format (List ℕ) (List (List ℕ))
block_words = ended_by (one_as block_end) inside_block

-- a bracket with its okurigana, texts that say its words, and the closing bracket
abbrev pub whole_block : Part → Format (List ℕ) Item
whole_block part = mapped (λ parts. block parts.0 parts.1) (both (one_as (okuri_opened part)) block_words)

-- Items

-- an item: a text alone, or a block
abbrev pub item_format : Part → Format (List ℕ) Item
item_format part = either (one_by (IsSingle part) (if_single part)) (whole_block part)

-- the texts spell the items, one after another
abbrev pub SpellsItems : Part → List (List ℕ) → List Item → Type 0
SpellsItems part texts items = SpellsMany (item_format part).Spells items texts
