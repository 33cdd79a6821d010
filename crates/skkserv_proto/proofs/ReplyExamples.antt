-- What is called for requests and sent to clients, at small examples, each worked out by hand.
use Rattle.std.proofs.Common.{◌≡◌, true, false, None, Some, [], ◌∷◌, ◌++◌, codes, map, refl}
use Rattle.std.specs.Str.{chars, is_utf8}
use Rattle.skk_calls.specs.declared.answer.Reply.TheVariants.{Found, Readings, Unchanged}
use Rattle.skk_calls.specs.declared.call.Call.TheVariants as calls
use Rattle.skk_calls.specs.declared.part.Part.TheVariants.{Nasi, Ari}
use Rattle.skkserv_proto.specs.declared.request.Request.TheVariants.{End, Look, Version, Host, Complete}
use Rattle.skkserv_proto.specs.Replies.{begins_past_ascii, part_of, look_up, call_of, reply_to, not_found}

-- nothing is called for these
no_calls : map call_of (End ∷ Version ∷ Host ∷ []) ≡ None ∷ None ∷ None ∷ []
no_calls = refl

-- the last byte of ASCII, and the first past it
past_ascii : map begins_past_ascii ([] ∷ (0x7F ∷ []) ∷ (0x80 ∷ []) ∷ codes "k" ∷ []) ≡ false ∷ false ∷ true ∷ false ∷ []
past_ascii = refl

-- おk has an okurigana, and not か, ok, おK, お`, お{ and nothing
parts : map part_of ((0xE3 ∷ 0x81 ∷ 0x8A ∷ 0x6B ∷ []) ∷ (0xE3 ∷ 0x81 ∷ 0x8A ∷ 0x61 ∷ [])
    ∷ (0xE3 ∷ 0x81 ∷ 0x8A ∷ 0x7A ∷ [])
    ∷ (0xE3 ∷ 0x81 ∷ 0x8B ∷ []) ∷ codes "ok" ∷ (0xE3 ∷ 0x81 ∷ 0x8A ∷ 0x4B ∷ []) ∷ (0xE3 ∷ 0x81 ∷ 0x8A ∷ 0x60 ∷ [])
    ∷ (0xE3 ∷ 0x81 ∷ 0x8A ∷ 0x7B ∷ []) ∷ [] ∷ [])
    ≡ Ari ∷ Ari ∷ Ari ∷ Nasi ∷ Nasi ∷ Nasi ∷ Nasi ∷ Nasi ∷ Nasi ∷ []
parts = refl

-- keys of readings that are valid, empty, begin with `;`, or hold a DEL
keys : map look_up (record { part = Nasi; reading = codes "ab" } ∷ record { part = Nasi; reading = [] }
    ∷ record { part = Nasi; reading = codes ";a" } ∷ record { part = Nasi; reading = 0x61 ∷ 0x7F ∷ [] } ∷ [])
    ≡ Some (calls.Lookup 0 (record { part = Nasi; reading = codes "ab" }) None) ∷ None ∷ None ∷ None ∷ []
unfolding lib.Utf8.encode
keys = refl

-- what is called to complete か;, nothing, a text with a slash, one that is no reading, and bytes that are no text
completions : map call_of (Complete (0xE3 ∷ 0x81 ∷ 0x8B ∷ 0x3B ∷ []) ∷ Complete [] ∷ Complete (codes "a/")
    ∷ Complete (codes ";") ∷ Complete (0xE3 ∷ 0x81 ∷ []) ∷ [])
    ≡ Some (calls.Complete 0 (codes "か;")) ∷ Some (calls.Complete 0 []) ∷ Some (calls.Complete 0 (codes "a/"))
    ∷ Some (calls.Complete 0 (codes ";")) ∷ None ∷ []
unfolding chars is_utf8 lib.Utf8.encode
completions = refl

-- what is sent without a call
fixed : (reply_to End None ≡ []) × (reply_to Version None ≡ codes "skk-desk-1.0 ")
    × (reply_to Host None ≡ codes "localhost:127.0.0.1: ")
fixed = (refl, refl, refl)

-- what is sent where nothing is found: the bytes, whatever they are
none_found : (reply_to (Look (0xFF ∷ [])) None ≡ codes "4" ++ 0xFF ∷ 0x20 ∷ 10 ∷ [])
    × (reply_to (Look (codes "a")) (Some (Found [])) ≡ codes "4a " ++ 10 ∷ [])
    × (reply_to (Complete (codes "b")) (Some (Readings [])) ≡ codes "4b " ++ 10 ∷ [])
    × (reply_to (Complete []) None ≡ codes "4 " ++ 10 ∷ [])
none_found = (refl, refl, refl, refl)

-- what is sent for candidates: each as an item of a line, quoted where it must be, with its note
found : reply_to (Look (codes "a")) (Some (Found (record { word = codes "x"; note = codes "n" }
    ∷ record { word = codes "[y"; note = [] } ∷ [])))
    ≡ codes "1/x;n/(concat \"[y\")/" ++ 10 ∷ []
unfolding lib.Utf8.encode
found = refl

-- what is sent for readings: those without a slash, and where none is left as where none was found
completed : (reply_to (Complete (codes "a")) (Some (Readings (codes "ab" ∷ codes "a/" ∷ codes "ac" ∷ [])))
    ≡ codes "1/ab/ac/" ++ 10 ∷ [])
    × (reply_to (Complete (codes "a")) (Some (Readings (codes "a/" ∷ []))) ≡ codes "4a " ++ 10 ∷ [])
    × (reply_to (Complete (codes "a;")) (Some (Readings (codes "a;b" ∷ codes "a;[" ∷ [])))
    ≡ codes "1/a;b/a;[/" ++ 10 ∷ [])
    × (reply_to (Complete []) (Some (Readings (codes "a" ∷ codes "/" ∷ codes "a;" ∷ []))) ≡ codes "1/a/a;/" ++ 10 ∷ [])
unfolding lib.Utf8.encode
completed = (refl, refl, refl, refl)

-- replies of another kind find nothing
other_kinds : (reply_to (Look (codes "a")) (Some (Readings (codes "ab" ∷ []))) ≡ not_found (codes "a"))
    × (reply_to (Complete (codes "a")) (Some (Found (record { word = codes "x"; note = [] } ∷ [])))
    ≡ not_found (codes "a"))
    × (reply_to (Look (codes "a")) (Some Unchanged) ≡ not_found (codes "a"))
other_kinds = (refl, refl, refl)
