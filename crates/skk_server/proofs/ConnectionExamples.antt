-- What the bytes of a connection ask, and what is sent for them, at small examples, each worked out by hand.
use Rattle.std.proofs.Common.{◌≡◌, ℕ, true, false, None, Some, List, [], ◌∷◌, ◌++◌, codes, map, refl}
use Rattle.std.specs.Str.{chars, is_utf8}
use Rattle.exact_readers.specs.Formats.{taken}
use Rattle.skk_calls.specs.declared.answer.Answer.{Answer}
use Rattle.skk_calls.specs.declared.answer.Answer.TheVariants.{Done, Refused}
use Rattle.skk_calls.specs.declared.answer.Refusal.TheVariants as refusals
use Rattle.skk_calls.specs.declared.answer.Reply.TheVariants.{Found, Readings}
use Rattle.skk_calls.specs.declared.call.Call.{Call}
use Rattle.skk_calls.specs.declared.call.Call.TheVariants as calls
use Rattle.skk_calls.specs.declared.part.Part.TheVariants.{Nasi}
use Rattle.skk_calls.specs.Interactions.{ends, asks, prints, printed, asked, end_of}
use Rattle.typist_line.specs.declared.typing.Typist.TheVariants as typists
use Rattle.skk_server.specs.Connections.{more, over, unanswered, client, in_bytes, is_typist, Means}
use Rattle.skk_server.specs.Ends.{most_bytes, longest_piece}

-- the call for the candidates of `a`, and the one for the readings that begin with `b`
abbrev look_up : Call
look_up = calls.Lookup 0 (record { part = Nasi; reading = codes "a" }) None

abbrev complete : Call
complete = calls.Complete 0 (codes "b")

-- answers: one candidate, one reading, and want of memory
abbrev found : Answer
found = Done (Found (record { word = codes "x"; note = [] } ∷ []))

abbrev completed : Answer
completed = Done (Readings (codes "bc" ∷ []))

abbrev refused : Answer
refused = Refused refusals.Memory

-- a client that asks for everything, with an end of a line between: each is answered in its turn, and it goes on
abbrev all_kinds : List ℕ
all_kinds = codes "1a 2" ++ 13 ∷ 10 ∷ codes "34b "

all_asked : asked (client all_kinds) (found ∷ completed ∷ []) ≡ look_up ∷ complete ∷ []
unfolding chars is_utf8 lib.Utf8.encode taken
all_asked = refl

all_sent : printed (client all_kinds) (found ∷ completed ∷ [])
    ≡ codes "1/x/" ++ 10 ∷ codes "skk-desk-1.0 localhost:127.0.0.1: 1/bc/" ++ 10 ∷ []
unfolding chars is_utf8 lib.Utf8.encode taken
all_sent = refl

goes_on : end_of (client all_kinds) (found ∷ completed ∷ []) ≡ Some more
unfolding chars is_utf8 lib.Utf8.encode taken
goes_on = refl

-- a call that is refused ends a client's connection: nothing is sent for it, and nothing behind it is asked
unanswered_first : (asked (client all_kinds) (refused ∷ []) ≡ look_up ∷ [])
    × (printed (client all_kinds) (refused ∷ []) ≡ [])
    × (end_of (client all_kinds) (refused ∷ []) ≡ Some unanswered)
unfolding chars is_utf8 lib.Utf8.encode taken
unanswered_first = (refl, refl, refl)

-- a request without a call is answered at once
without_call : client (codes "1;a 2") ≡ prints (codes "4;a " ++ 10 ∷ []) (prints (codes "skk-desk-1.0 ") (ends more))
unfolding chars is_utf8 lib.Utf8.encode taken
without_call = refl

-- nothing, and a request that has not ended
nothing : (client [] ≡ ends more) × (client (codes "1a") ≡ ends more)
unfolding taken
nothing = (refl, refl)

-- the end: what stands behind it is not asked, be it good or bad
ended : (client (codes "0") ≡ ends over) × (client (codes "2029") ≡ prints (codes "skk-desk-1.0 ") (ends over))
unfolding taken
ended = (refl, refl)

-- a bad byte is refused behind all requests in front of it, and what stands behind it is not asked
bad_byte : (client (codes "92") ≡ prints (codes "0" ++ 10 ∷ []) (ends over))
    × (client (codes "292") ≡ prints (codes "skk-desk-1.0 ") (prints (codes "0" ++ 10 ∷ []) (ends over)))
unfolding taken
bad_byte = (refl, refl)

-- what a typist's lines print is sent as bytes, behind what they ask, and how the connection then stands is kept
bytes_of_text : in_bytes (prints (0x304B ∷ 10 ∷ []) (asks look_up (λ answer. prints (codes "a") (ends typists.Over))))
    ≡ prints (0xE3 ∷ 0x81 ∷ 0x8B ∷ 10 ∷ []) (asks look_up (λ answer. prints (codes "a") (ends over)))
unfolding lib.Utf8.encode
bytes_of_text = refl

stands : (in_bytes (ends typists.New) ≡ ends more) × (in_bytes (ends typists.Over) ≡ ends over)
stands = (refl, refl)

-- whose a connection is
whose : map is_typist ([] ∷ codes "T" ∷ codes "Tx" ∷ codes "t" ∷ codes "1T " ∷ (10 ∷ codes "T1 1") ∷ [])
    ≡ false ∷ true ∷ true ∷ false ∷ false ∷ false ∷ []
whose = refl

-- what bytes come to: those of a client, of a typist whose first line has not ended, and of none
means_so : Means [] (codes "2") (prints (codes "skk-desk-1.0 ") (ends more)) × Means [] (codes "T1 1") (ends more)
    × Means [] [] (ends more)
unfolding taken
means_so = (refl, (ends typists.New, refl, refl), refl)

-- the limits of a connection and of a read
limits : (most_bytes ≡ 4294967296) × (longest_piece ≡ 4096)
limits = (refl, refl)
