-- An item by itself, of which nothing is known but that it stood between slashes.
use Rattle.std.specs.Prelude.{ℕ, ◌+◌, nat_lt, Bool, if◌then◌else◌, Option, None, Some, Result, Ok, Err, List}
use Rattle.skk_text.specs.Lists.{is_empty}
use Rattle.skk_text.specs.Text.{byte_len}
use Rattle.skk_calls.specs.Rows.{Cand, word_limit}
use Rattle.dict_format.specs.declared.single.ItemFault.{ItemFault}
use Rattle.dict_format.specs.declared.single.ItemFault.TheVariants.{Long}
use Rattle.dict_format.specs.Items.{before_note, note_of_text}
use Rattle.dict_format.specs.Words.{said}

-- the word and the note of an item, where a mark is plain text
abbrev pub cand_alone : List ℕ → Cand
cand_alone text = record { word = said (before_note text); note = note_of_text text }

-- a word and its note are too long together
abbrev pub is_long : Cand → Bool
is_long cand = nat_lt word_limit (byte_len cand.word + byte_len cand.note)

-- a candidate whose word is not empty
abbrev pub if_worded : Cand → Option Cand
if_worded cand = if is_empty cand.word then None else Some cand

-- what is read of an item: a candidate, or none where its word is empty, unless it is too long
unfoldable pub item_alone : List ℕ → Result (Option Cand) ItemFault
item_alone text = if is_long (cand_alone text) then Err Long else Ok (if_worded (cand_alone text))
