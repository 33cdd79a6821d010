-- What is called for a request, and what a client is sent.
use Rattle.std.specs.Prelude.{ℕ, ◌&&◌, nat_lt, if◌then◌else◌, Bool, false, Option, None, Some, List, [], ◌∷◌, ◌++◌}
use Rattle.std.specs.Prelude.{codes}
use Rattle.std.specs.Prelude.{map, encode_utf8_all}
use Rattle.std.specs.List.{filter, flat_map}
use Rattle.std.specs.Str.{chars, is_utf8}
use Rattle.skk_text.specs.Characters.{code}
use Rattle.skk_text.specs.Lines.{line_feed}
use Rattle.skk_text.specs.Text.{last_chars}
use Rattle.skk_calls.specs.declared.answer.Reply.{Reply}
use Rattle.skk_calls.specs.declared.answer.Reply.TheVariants.{Found, Readings}
use Rattle.skk_calls.specs.declared.call.Call.{Call}
use Rattle.skk_calls.specs.declared.call.Call.TheVariants as calls
use Rattle.skk_calls.specs.declared.part.Part.{Part}
use Rattle.skk_calls.specs.declared.part.Part.TheVariants.{Nasi, Ari}
use Rattle.skk_calls.specs.Canonical.{item, with_slash}
use Rattle.skk_calls.specs.Rows.{RowKey, is_row_key, is_letter}
use Rattle.exact_readers.specs.Lacking.{lacks}
use Rattle.skkserv_proto.specs.declared.request.Request.{Request}
use Rattle.skkserv_proto.specs.declared.request.Request.TheVariants.{End, Look, Version, Host, Complete}

-- Calls

-- the book that a client looks into: the shared one
abbrev pub shared_book : ℕ
shared_book = 0

-- bytes begin past ASCII
abbrev pub begins_past_ascii : List ℕ → Bool
begins_past_ascii [] = false
begins_past_ascii (byte ∷ bytes) = nat_lt 0x7F byte

-- the part of a reading, which is sent without it: a reading that begins past ASCII and ends in a letter is one with
-- an okurigana
abbrev pub part_of : List ℕ → Part
part_of bytes = if begins_past_ascii bytes && is_letter (last_chars 1 bytes) then Ari else Nasi

-- the key of a reading, which is these bytes
abbrev pub key_of : List ℕ → RowKey
key_of bytes = record { part = part_of bytes; reading = chars bytes }

-- the call for the candidates of a key, where it is valid
abbrev pub look_up : RowKey → Option Call
look_up key = if is_row_key key then Some (calls.Lookup shared_book key None) else None

-- the call that a request is: none where nothing is asked of the dictionary, where bytes are no text, or a reading is
-- not valid
abbrev pub call_of : Request → Option Call
call_of (Look bytes) = if is_utf8 bytes then look_up (key_of bytes) else None
call_of (Complete bytes) = if is_utf8 bytes then Some (calls.Complete shared_book (chars bytes)) else None
call_of request = None

-- Replies

-- what is sent where nothing is found for bytes: `4`, the bytes, a space and LF
abbrev pub not_found : List ℕ → List ℕ
not_found bytes = codes "4" ++ bytes ++ codes " " ++ line_feed ∷ []

-- the bytes of an item with its slash
abbrev pub item_bytes : List ℕ → List ℕ
item_bytes text = with_slash (encode_utf8_all text)

-- what is sent for items that are found: `1/`, each item with its slash, and LF
abbrev pub listed : List (List ℕ) → List ℕ
listed items = codes "1/" ++ flat_map item_bytes items ++ line_feed ∷ []

-- what is sent for bytes and what is found for them
abbrev pub found_or_not : List ℕ → List (List ℕ) → List ℕ
found_or_not bytes [] = not_found bytes
found_or_not bytes (item' ∷ items) = listed (item' ∷ items)

-- what is listed of a reading: nothing where it holds a slash
abbrev pub reading_bytes : List ℕ → List ℕ
reading_bytes reading = if lacks (code "/") reading then item_bytes reading else []

-- the candidates of a reply, as items of a line
abbrev pub cands_in : Option Reply → List (List ℕ)
cands_in (Some (Found cands)) = map item cands
cands_in reply = []

-- the readings of a reply that can be listed: those without a slash
abbrev pub readings_in : Option Reply → List (List ℕ)
readings_in (Some (Readings readings)) = filter (lacks (code "/")) readings
readings_in reply = []

-- what is sent for a request and the reply to its call, if it is a call
abbrev pub reply_to : Request → Option Reply → List ℕ
reply_to End reply = []
reply_to (Look bytes) reply = found_or_not bytes (cands_in reply)
reply_to Version reply = codes "skk-desk-1.0 "
reply_to Host reply = codes "localhost:127.0.0.1: "
reply_to (Complete bytes) reply = found_or_not bytes (readings_in reply)
