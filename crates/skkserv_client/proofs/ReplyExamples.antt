-- Requests and replies at small examples, each worked out by hand.
use Rattle.std.proofs.Common.{◌≡◌, ℕ, true, false, None, Some, Result, Ok, Err, List, [], ◌∷◌, ◌++◌, codes, map, refl}
use Rattle.std.proofs.Common.{replicate}
use lib.Utf8.{encode}
use Rattle.std.specs.Str.{chars, is_utf8}
use Rattle.std.specs.Str.Lossy.{utf8_valid_len}
use Rattle.skk_calls.specs.Rows.{Cand}
use Rattle.exact_readers.specs.Formats.{taken}
use Rattle.dict_format.specs.Reading.{texts_at}
use Rattle.skkserv_client.specs.declared.question.Ask.TheVariants.{Look, Complete}
use Rattle.skkserv_client.specs.declared.told.AskFault.{AskFault}
use Rattle.skkserv_client.specs.declared.told.AskFault.TheVariants.{TooLong, Ended, Refused, BadReply}
use Rattle.skkserv_client.specs.declared.told.Told.{Told}
use Rattle.skkserv_client.specs.declared.told.Told.TheVariants.{Cands, Readings}
use Rattle.skkserv_client.specs.Gathering.{gathered, with_cand, with_reading}
use Rattle.skkserv_client.specs.Questions.{are_askable, request_of}
use Rattle.skkserv_client.specs.Replies.{cands_of, first_long, line_of, no_line, texts_of_line, told_by, told_by_line}
use Rattle.skkserv_client.specs.Replies.{told_by_list, told_by_texts}

-- Requests

-- the bytes of かんじ
abbrev kanji : List ℕ
kanji = 227 ∷ 129 ∷ 139 ∷ 227 ∷ 130 ∷ 147 ∷ 227 ∷ 129 ∷ 152 ∷ []

-- `1` or `4`, the text, and a space
requests : map request_of (Look (codes "かんじ") ∷ Complete (codes "かんじ") ∷ Look (codes "a") ∷ [])
    ≡ (49 ∷ kanji ++ 32 ∷ []) ∷ (52 ∷ kanji ++ 32 ∷ []) ∷ (49 ∷ 97 ∷ 32 ∷ []) ∷ []
unfolding encode
requests = refl

-- no byte, one, those of a text, a space, a CR and an LF wherever they stand, 255 bytes and 256
askable : map are_askable ([] ∷ (97 ∷ []) ∷ kanji ∷ (97 ∷ 32 ∷ []) ∷ (13 ∷ 97 ∷ []) ∷ (97 ∷ 10 ∷ 97 ∷ [])
    ∷ replicate 255 97 ∷ replicate 256 97 ∷ [])
    ≡ false ∷ true ∷ true ∷ false ∷ false ∷ false ∷ true ∷ false ∷ []
askable = refl

-- Lines

-- so many bytes without an LF are a line that was cut, up to 4,194,303, and too many from 4,194,304 on
no_lines : map no_line (0 ∷ 5 ∷ 4194303 ∷ 4194304 ∷ 4194305 ∷ [])
    ≡ Ended 0 ∷ Ended 5 ∷ Ended 4194303 ∷ TooLong ∷ TooLong ∷ []
no_lines = refl

-- what stands in front of the first LF, without one CR there; bytes without an LF are no line
lines : map line_of ([] ∷ codes "\n" ∷ codes "4\n1\n" ∷ codes "4\r\n" ∷ codes "4\r\r\n" ∷ codes "\r4\n"
    ∷ codes "1/a/" ∷ [])
    ≡ Err (Ended 0) ∷ Ok [] ∷ Ok (codes "4") ∷ Ok (codes "4") ∷ Ok (codes "4\r") ∷ Ok (codes "\r4") ∷ Err (Ended 4)
    ∷ []
unfolding line_of
lines = refl

-- Texts of a list

-- a candidate with a note, and one without
abbrev noted : List ℕ → List ℕ → Cand
noted word note = record { word = word; note = note }

abbrev plain : List ℕ → Cand
plain word = noted word []

-- a word that is empty goes, and one that came before; the same of readings
added : (with_cand [] (noted (codes "a") (codes "b")) ≡ noted (codes "a") (codes "b") ∷ [])
    × (with_cand (plain (codes "a") ∷ []) (noted (codes "a") (codes "b")) ≡ plain (codes "a") ∷ [])
    × (with_cand (plain (codes "a") ∷ []) (plain (codes "b")) ≡ plain (codes "a") ∷ plain (codes "b") ∷ [])
    × (with_cand (plain (codes "a") ∷ []) (noted [] (codes "b")) ≡ plain (codes "a") ∷ [])
    × (with_reading (codes "a" ∷ []) (codes "b") ≡ codes "a" ∷ codes "b" ∷ [])
    × (with_reading (codes "a" ∷ codes "b" ∷ []) (codes "a") ≡ codes "a" ∷ codes "b" ∷ [])
    × (with_reading (codes "a" ∷ []) [] ≡ codes "a" ∷ [])
unfolding encode
added = (refl, refl, refl, refl, refl, refl, refl)

-- the first of each word stays, with its note
cands_told : cands_of (codes "漢字" ∷ codes "幹事;宴会の" ∷ [] ∷ codes ";字" ∷ codes "漢字;字" ∷ [])
    ≡ plain (codes "漢字") ∷ noted (codes "幹事") (codes "宴会の") ∷ []
unfolding encode
cands_told = refl

-- word and note have 4,095 bytes together, and one more
abbrev fit : List ℕ
fit = 97 ∷ 59 ∷ replicate 4094 98

abbrev long : List ℕ
long = 97 ∷ 59 ∷ replicate 4095 98

-- the place of the first text that is too long: texts stand behind `1/`, each with its bytes and a slash
long_texts : (first_long 2 [] ≡ None)
    × (first_long 2 (codes "漢字" ∷ fit ∷ []) ≡ None)
    × (first_long 2 (long ∷ codes "a" ∷ []) ≡ Some 2)
    × (first_long 2 (codes "漢字" ∷ [] ∷ long ∷ long ∷ []) ≡ Some 10)
    × (gathered 2 [] (codes "漢字" ∷ [] ∷ long ∷ long ∷ []) ≡ Err (BadReply 10))
    × (gathered 2 [] (codes "漢字" ∷ [] ∷ codes "漢字;字" ∷ codes "a" ∷ [])
    ≡ Ok (plain (codes "漢字") ∷ plain (codes "a") ∷ []))
unfolding encode
long_texts = (refl, refl, refl, refl, refl, refl)

-- what is between the slashes behind `1`; a line that is no list has no texts
list_texts : map texts_of_line (codes "1//" ∷ codes "1/a/" ∷ codes "1/a//b/" ∷ codes "1" ∷ codes "1/" ∷ codes "1a"
    ∷ codes "1a/" ∷ codes "1/a" ∷ codes "1/a/b" ∷ codes "1 /a/" ∷ codes "/a/" ∷ [])
    ≡ Some ([] ∷ []) ∷ Some (codes "a" ∷ []) ∷ Some (codes "a" ∷ [] ∷ codes "b" ∷ []) ∷ None ∷ None ∷ None
    ∷ None ∷ None ∷ None ∷ None ∷ None ∷ []
unfolding texts_of_line texts_at chars taken
list_texts = refl

-- Replies

-- what is told of a line, for a look-up and for a completion
abbrev looked : List ℕ → Result Told AskFault
looked line = told_by_line (Look (codes "かんじ")) line

abbrev completed : List ℕ → Result Told AskFault
completed line = told_by_line (Complete (codes "かんじ")) line

-- a line of `4` tells that nothing was found, whatever stands behind it, also bytes of no text; one of `0` refuses
nothing : (map looked (codes "4" ∷ codes "4a " ∷ codes "4/a/" ∷ (52 ∷ 255 ∷ []) ∷ [])
    ≡ Ok (Cands []) ∷ Ok (Cands []) ∷ Ok (Cands []) ∷ Ok (Cands []) ∷ [])
    × (map completed (codes "4" ∷ codes "4a " ∷ codes "4/a/" ∷ (52 ∷ 255 ∷ []) ∷ [])
    ≡ Ok (Readings []) ∷ Ok (Readings []) ∷ Ok (Readings []) ∷ Ok (Readings []) ∷ [])
    × (map looked (codes "0" ∷ codes "0/a" ∷ (48 ∷ 255 ∷ []) ∷ []) ≡ Err Refused ∷ Err Refused ∷ Err Refused ∷ [])
unfolding told_by_line
nothing = (refl, refl, refl)

-- an empty line is at fault at its beginning, and so is one that begins with another byte, also with one of no text
first_byte_bad : map looked ([] ∷ codes "2" ∷ codes "/a/" ∷ codes " 1/a/" ∷ (255 ∷ 49 ∷ []) ∷ [])
    ≡ Err (BadReply 0) ∷ Err (BadReply 0) ∷ Err (BadReply 0) ∷ Err (BadReply 0) ∷ Err (BadReply 0) ∷ []
unfolding told_by_line
first_byte_bad = refl

-- a line of `1` that is no list is at fault behind the `1`: alone, with one slash, with a text that lacks a slash
no_lists : map looked (codes "1" ∷ codes "1/" ∷ codes "1a" ∷ codes "1/a" ∷ codes "1a/" ∷ codes "1 /a/" ∷ [])
    ≡ Err (BadReply 1) ∷ Err (BadReply 1) ∷ Err (BadReply 1) ∷ Err (BadReply 1) ∷ Err (BadReply 1) ∷ Err (BadReply 1)
    ∷ []
unfolding told_by_line told_by_list texts_of_line texts_at chars is_utf8 taken encode
no_lists = refl

-- the bytes of 漢 and those of 字
abbrev kan : List ℕ
kan = 230 ∷ 188 ∷ 162 ∷ []

abbrev ji : List ℕ
ji = 229 ∷ 173 ∷ 151 ∷ []

-- a reply with two candidates, of which the second has a note, as bytes
abbrev two_told : List ℕ
two_told =
    codes "1/" ++ kan ++ ji ++ 47 ∷ 229 ∷ 185 ∷ 185 ∷ 228 ∷ 186 ∷ 139 ∷ 59 ∷ 229 ∷ 174 ∷ 180 ∷ 228 ∷ 188 ∷ 154
    ∷ 227 ∷ 129 ∷ 174 ∷ 47 ∷ 10 ∷ []

-- candidates of a look-up, readings of a completion, where a note is a part of the text, which may be of any length
replies : (told_by (Look (codes "かんじ")) two_told
    ≡ Ok (Cands (plain (codes "漢字") ∷ noted (codes "幹事") (codes "宴会の") ∷ [])))
    × (told_by (Complete (codes "かんじ")) two_told ≡ Ok (Readings (codes "漢字" ∷ codes "幹事;宴会の" ∷ [])))
    × (told_by (Look (codes "a")) (codes "1/a;b//a;c/;d/e/\r\n0\n")
    ≡ Ok (Cands (noted (codes "a") (codes "b") ∷ plain (codes "e") ∷ [])))
    × (told_by (Complete (codes "a")) (codes "1/a;b//a;c/a;b/e/\n")
    ≡ Ok (Readings (codes "a;b" ∷ codes "a;c" ∷ codes "e" ∷ [])))
    × (told_by (Look (codes "a")) (codes "1//\n") ≡ Ok (Cands []))
    × (completed (codes "1/" ++ long ++ 47 ∷ []) ≡ Ok (Readings (long ∷ [])))
unfolding told_by line_of told_by_line told_by_list texts_of_line told_by_texts texts_at chars is_utf8 taken encode
replies = (refl, refl, refl, refl, refl, refl)

-- a reply to a reading that is not known, and one that is no list behind its first byte
unknown : (told_by (Look (codes "ぬ")) (52 ∷ 227 ∷ 129 ∷ 172 ∷ 32 ∷ 10 ∷ []) ≡ Ok (Cands []))
    × (told_by (Look (codes "かんじ")) (49 ∷ kan ++ 10 ∷ []) ≡ Err (BadReply 1))
unfolding told_by line_of told_by_line told_by_list texts_of_line texts_at chars is_utf8 taken encode
unknown = (refl, refl)

-- an empty reply, cut or not, and one that was cut in the middle of a line or of a character
cut_replies : map (told_by (Look (codes "かんじ")))
    ([] ∷ codes "\n" ∷ codes "\r\n" ∷ (codes "1/" ++ kan) ∷ (codes "1/" ++ kan ++ 229 ∷ 173 ∷ []) ∷ codes "4"
    ∷ codes "0" ∷ [])
    ≡ Err (Ended 0) ∷ Err (BadReply 0) ∷ Err (BadReply 0) ∷ Err (Ended 5) ∷ Err (Ended 7) ∷ Err (Ended 1)
    ∷ Err (Ended 1) ∷ []
unfolding told_by line_of told_by_line
cut_replies = refl

-- of two faults in a line the first decides. A byte that is none of a character's stands before a missing slash and
-- a text that is too long, and a missing slash before that text
two_faults : (looked (codes "1/" ++ kan ++ 255 ∷ []) ≡ Err (BadReply 5))
    × (looked (codes "1/" ++ kan ++ 229 ∷ 173 ∷ 47 ∷ []) ≡ Err (BadReply 5))
    × (looked (49 ∷ 255 ∷ 254 ∷ []) ≡ Err (BadReply 1))
    × (looked (codes "1/" ++ long ++ 47 ∷ 255 ∷ []) ≡ Err (BadReply 4100))
    × (looked (codes "1/" ++ long) ≡ Err (BadReply 1))
    × (looked (codes "1/a/" ++ long ++ 47 ∷ long ++ 47 ∷ []) ≡ Err (BadReply 4))
    × (completed (codes "1/" ++ kan ++ 255 ∷ []) ≡ Err (BadReply 5))
unfolding told_by_line told_by_list texts_of_line told_by_texts texts_at chars is_utf8 utf8_valid_len taken encode
two_faults = (refl, refl, refl, refl, refl, refl, refl)
