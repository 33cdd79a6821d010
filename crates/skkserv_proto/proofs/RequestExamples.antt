-- Requests that bytes spell, at small examples, each worked out by hand.
use Rattle.std.proofs.Common.{◌≡◌, true, false, None, Some, [], ◌∷◌, ◌++◌, codes, map, replicate, refl}
use Rattle.exact_readers.specs.Formats.{taken}
use Rattle.skkserv_proto.specs.declared.command.CommandByte.TheVariants as commands
use Rattle.skkserv_proto.specs.declared.command.Wants.TheVariants.{Candidates, Completions}
use Rattle.skkserv_proto.specs.declared.request.Request.TheVariants.{End, Look, Version, Host, Complete}
use Rattle.skkserv_proto.specs.Requests.{command_at, ends_reading, longest_reading, requests, bad_at, reading_in}

-- what each byte is in a command's place: NUL, TAB, LF, CR, space, `/`, the digits, `:`, `T`, the first byte of a か
commands_of_bytes : map command_at (0 ∷ 9 ∷ 10 ∷ 13 ∷ 32 ∷ codes "/0123456789:T" ++ 0xE3 ∷ [])
    ≡ commands.Other ∷ commands.Other ∷ commands.LineEnd ∷ commands.LineEnd ∷ commands.Other ∷ commands.Other
    ∷ commands.End ∷ commands.Reading Candidates ∷ commands.Version ∷ commands.Host ∷ commands.Reading Completions
    ∷ commands.Other ∷ commands.Other ∷ commands.Other ∷ commands.Other ∷ commands.Other ∷ commands.Other
    ∷ commands.Other ∷ commands.Other ∷ []
commands_of_bytes = refl

-- a space, a CR and an LF end a reading, and no TAB, NUL or DEL
ends_of_readings : map ends_reading (0 ∷ 9 ∷ 10 ∷ 11 ∷ 13 ∷ 32 ∷ 33 ∷ 127 ∷ 255 ∷ [])
    ≡ false ∷ false ∷ true ∷ false ∷ true ∷ true ∷ false ∷ false ∷ false ∷ []
ends_of_readings = refl

-- requests one behind another, with line ends between them
several : requests (codes "1ab 2" ++ 13 ∷ 10 ∷ codes "34x" ++ 10 ∷ 10 ∷ codes "1c" ++ 13 ∷ codes "4 ")
    ≡ Look (codes "ab") ∷ Version ∷ Host ∷ Complete (codes "x") ∷ Look (codes "c") ∷ Complete [] ∷ []
unfolding taken
several = refl

-- the end, and what stands behind it: nothing is asked there, and nothing is bad
ended : (requests (codes "0") ≡ End ∷ []) × (requests (codes "20 9") ≡ Version ∷ End ∷ [])
    × (bad_at (codes "20 9") ≡ None)
    × (requests (codes "10 0") ≡ Look (codes "0") ∷ End ∷ [])
unfolding taken
ended = (refl, refl, refl, refl)

-- bytes that end within a request, or in front of one
cut_short : map requests ([] ∷ codes "1" ∷ codes "1a" ∷ (0x31 ∷ 0xE3 ∷ []) ∷ codes "4" ∷ (10 ∷ 13 ∷ [])
    ∷ codes "24a" ∷ [])
    ≡ [] ∷ [] ∷ [] ∷ [] ∷ [] ∷ [] ∷ (Version ∷ []) ∷ []
unfolding taken
cut_short = refl

cut_short_well : map bad_at ([] ∷ codes "1" ∷ codes "1a" ∷ (0x31 ∷ 0xE3 ∷ []) ∷ codes "4" ∷ (10 ∷ 13 ∷ [])
    ∷ codes "24a" ∷ [])
    ≡ None ∷ None ∷ None ∷ None ∷ None ∷ None ∷ None ∷ []
unfolding taken
cut_short_well = refl

-- bytes that are no text are a reading too
no_text : requests (0x31 ∷ 0xFF ∷ 0x20 ∷ []) ≡ Look (0xFF ∷ []) ∷ []
unfolding taken
no_text = refl

-- a bad byte, with what stands in front of it: its place counts from the first byte of all
bad : map bad_at (codes "9" ∷ codes "1a 9" ∷ codes "2 2" ∷ codes "T1 1" ∷ (10 ∷ 13 ∷ 0 ∷ []) ∷ codes "4a b" ∷ [])
    ≡ Some 0 ∷ Some 3 ∷ Some 1 ∷ Some 0 ∷ Some 2 ∷ Some 3 ∷ []
unfolding taken
bad = refl

asked_before_bad : map requests (codes "9" ∷ codes "1a 9" ∷ codes "2 2" ∷ codes "1a 52" ∷ [])
    ≡ [] ∷ (Look (codes "a") ∷ []) ∷ (Version ∷ []) ∷ (Look (codes "a") ∷ []) ∷ []
unfolding taken
asked_before_bad = refl

-- the longest reading, and one that is too long by its last byte, with and without its end
longest : (longest_reading ≡ 255)
    × (requests (codes "1" ++ replicate 255 0x61 ++ codes " ") ≡ Look (replicate 255 0x61) ∷ [])
    × (bad_at (codes "1" ++ replicate 255 0x61 ++ codes " ") ≡ None)
    × (bad_at (codes "4" ++ replicate 255 0x61) ≡ None)
unfolding taken
longest = (refl, refl, refl, refl)

too_long : (bad_at (codes "1" ++ replicate 256 0x61) ≡ Some 256)
    × (bad_at (codes "24" ++ replicate 256 0x61 ++ codes " 2") ≡ Some 257)
    × (requests (codes "24" ++ replicate 256 0x61 ++ codes " 2") ≡ Version ∷ [])
unfolding taken
too_long = (refl, refl, refl)

-- the reading that a text begins with
readings : map reading_in ([] ∷ codes " a" ∷ codes "ab c" ∷ codes "ab" ∷ []) ≡ [] ∷ [] ∷ codes "ab" ∷ codes "ab" ∷ []
readings = refl
