-- The definitions at a small rule set, each worked out by hand.
use Rattle.std.proofs.Common.{◌≡◌, ℕ, true, false, Option, None, Some, List, [], ◌∷◌, ◌++◌, refl, map, codes, replicate}
use Prim.Native.String.{String}
use Rattle.skk_text.specs.Characters.{code}
use Rattle.skk_text.specs.declared.key.Key.{Key}
use Rattle.skk_text.specs.declared.key.Key.TheVariants.{Char, Cj, Cg, Bs, Ret, Tab, Undo}
use Rattle.skk_text.specs.declared.notice.Notice.{Notice}
use Rattle.skk_text.specs.declared.notice.Notice.TheVariants as notices
use Rattle.skk_calls.specs.declared.part.Part.TheVariants.{Nasi, Ari}
use Rattle.romaji_rules.specs.declared.rule.Rule.{Rule}
use Rattle.romaji_rules.specs.Fitting.{is_rule_set}
use Rattle.romaji_rules.specs.Standard.{rule, doubled}
use Rattle.romaji_rules.specs.Typed.{extends_pending}
use Rattle.reading_state.specs.declared.reading_do.AfterConfirm.TheVariants.{Nothing, ToAscii, ToWide, OpenReading}
use Rattle.reading_state.specs.declared.reading_do.AfterConfirm.TheVariants.{Newline}
use Rattle.reading_state.specs.declared.reading_do.ReadingThen.{ReadingThen}
use Rattle.reading_state.specs.declared.reading_do.ReadingThen.TheVariants.{Stay, Convert, AskCompletions, Drop}
use Rattle.reading_state.specs.declared.reading_do.ReadingThen.TheVariants.{Confirm}
use Rattle.reading_state.specs.Keys.{key_of, okuri_of}
use Rattle.reading_state.specs.Puts.{BegunOkuri, Reading, new_reading, new_abbrev, suffix_reading, is_open}
use Rattle.reading_state.specs.Puts.{may_complete}
use Rattle.reading_state.specs.Puts.{later_notice, may_read, may_end, fits_reading}
use Rattle.reading_state.specs.Reading.{ReadingStep, reading_step, step_to, completed, is_alone, is_doubled}

-- vowels, rows of k and t, n, doubled letters, and rules with outputs that are refused here or there
abbrev rules : List Rule
rules =
    rule (codes "a") (codes "あ") ∷ rule (codes "i") (codes "い") ∷ rule (codes "u") (codes "う")
    ∷ rule (codes "o") (codes "お")
    ∷ rule (codes "ka") (codes "か") ∷ rule (codes "ku") (codes "く") ∷ rule (codes "go") (codes "ご")
    ∷ rule (codes "ta") (codes "た")
    ∷ rule (codes "n") (codes "ん") ∷ rule (codes "na") (codes "な") ∷ doubled 0x6B ∷ doubled 0x74
    ∷ rule (codes "zl") (codes "→") ∷ rule (codes "zk") (codes "か1") ∷ rule (codes "zs") (codes "か ")
    ∷ rule (codes "x") (codes ";") ∷ rule (codes "xa") (codes "ぁ")
    ∷ []

rule_set : is_rule_set rules ≡ true
rule_set = refl

-- an open reading: its text, its okurigana, and what is pending
abbrev opened : List ℕ → Option BegunOkuri → String → Reading
opened text okuri pending =
    record { text = text; is_abbrev = false; okuri = okuri; pending = codes pending; completions = None }

-- an okurigana that was begun: its letter, and its kana
abbrev okuri : String → List ℕ → Option BegunOkuri
okuri letter text = Some (record { letter = code letter; text = text })

-- readings that were just opened, of text alone, and of an okurigana too
abbrev plain : List ℕ → Reading
plain text = opened text None ""

abbrev begun : List ℕ → String → List ℕ → Reading
begun text letter kana = opened text (okuri letter kana) ""

-- an abbreviation
abbrev abbreviated : List ℕ → Reading
abbreviated text = record { text = text; is_abbrev = true; okuri = None; pending = []; completions = None }

-- the keys of characters
abbrev chars : String → List Key
chars text = map Char (codes text)

-- the step that the last of some keys makes
abbrev last_step : List Rule → ReadingStep → List Key → ReadingStep
last_step set step [] = step
last_step set step (key ∷ keys) = last_step set (reading_step set step.reading key) keys

-- what a reading is behind keys, and what the last of them gives, by a table of rules
abbrev pressed_by : List Rule → Reading → List Key → ReadingStep
pressed_by set reading keys = last_step set (step_to reading notices.Empty Stay) keys

abbrev pressed : Reading → List Key → ReadingStep
pressed = pressed_by rules

-- the last of the keys gives no notice
abbrev quiet : Reading → ReadingThen → ReadingStep
quiet reading effect = step_to reading notices.Empty effect

-- the keys make of a new reading what a table says
abbrev Types : List (String × ReadingStep) → Type 0
Types table = map (λ line. pressed new_reading (chars line.0)) table ≡ map (λ line. line.1) table

-- the keys make of a reading what a table says
abbrev Makes : List (Reading × List Key × ReadingStep) → Type 0
Makes table = map (λ line. pressed line.0 line.1) table ≡ map (λ line. line.2) table

-- a text of so many bytes, and an okurigana of so many kana, each of 3 bytes
abbrev long : ℕ → List ℕ
long bytes = replicate bytes (code "a")

abbrev long_okuri : ℕ → List ℕ
long_okuri count = replicate count (code "く")

-- Characters

-- with nothing pending, with an input pending, and with what is none
fed_characters : Types (
    ("", quiet (plain []) Stay) ∷ ("a", quiet (plain (codes "あ")) Stay) ∷ ("k", quiet (opened [] None "k") Stay)
    ∷ ("ka", quiet (plain (codes "か")) Stay) ∷ ("n", quiet (opened [] None "n") Stay)
    ∷ ("nk", quiet (opened (codes "ん") None "k") Stay)
    ∷ ("kka", quiet (plain (codes "っか")) Stay) ∷ ("kta", quiet (plain (codes "た")) Stay)
    ∷ ("n1", quiet (plain (codes "ん1")) Stay)
    ∷ ("k1", quiet (plain (codes "1")) Stay) ∷ ("a1!~", quiet (plain (codes "あ1!~")) Stay)
    ∷ ("zl", quiet (plain (codes "→")) Stay) ∷ [])
unfolding lib.Utf8.encode
fed_characters = refl

-- the space closes an empty reading, gives up an okurigana with no kana, or converts
spaces : Types (
    (" ", quiet (plain []) Drop) ∷ ("k ", quiet (plain []) Drop) ∷ ("n ", quiet (plain (codes "ん")) Convert)
    ∷ ("ka ", quiet (plain (codes "か")) Convert) ∷ ("kan ", quiet (plain (codes "かん")) Convert)
    ∷ ("kak ", quiet (plain (codes "か")) Convert)
    ∷ ("KaK ", quiet (plain (codes "か")) Stay) ∷ ("KaN ", quiet (begun (codes "か") "n" (codes "ん")) Convert)
    ∷ ("KakK ", quiet (begun (codes "か") "k" (codes "っ")) Convert)
    ∷ [])
unfolding lib.Utf8.encode
spaces = refl

-- `q`, `l`, `L` and `Q` confirm behind a flush, but where they go on with what is pending
confirmations : Types (
    ("q", quiet (plain []) (Confirm true Nothing)) ∷ ("kanq", quiet (plain (codes "かん")) (Confirm true Nothing))
    ∷ ("kakq", quiet (plain (codes "か")) (Confirm true Nothing))
    ∷ ("kanl", quiet (plain (codes "かん")) (Confirm false ToAscii))
    ∷ ("kanL", quiet (plain (codes "かん")) (Confirm false ToWide))
    ∷ ("kanQ", quiet (plain (codes "かん")) (Confirm false OpenReading)) ∷ ("kazl", quiet (plain (codes "か→")) Stay)
    ∷ ("KaNq", quiet (begun (codes "か") "n" (codes "ん")) (Confirm true Nothing))
    ∷ [])
unfolding lib.Utf8.encode
confirmations = refl

-- `>` ends a prefix behind a reading, and is read by the rules without one, or in an okurigana
prefixes : Types (
    (">", quiet (plain (codes ">")) Stay) ∷ ("k>", quiet (plain (codes ">")) Stay)
    ∷ ("n>", quiet (plain (codes "ん>")) Convert)
    ∷ ("ka>", quiet (plain (codes "か>")) Convert) ∷ ("kan>", quiet (plain (codes "かん>")) Convert)
    ∷ ("kak>", quiet (plain (codes "か>")) Convert)
    ∷ (">>", quiet (plain (codes ">>")) Convert) ∷ ("KaK>", step_to (begun (codes "か") "k" []) notices.Reading Stay)
    ∷ [])
unfolding lib.Utf8.encode
prefixes = refl

-- `>` with a reading that is full, or nearly so, and something pending
full_prefixes : Makes (
    (plain (long 253), chars ">", quiet (plain (long 253 ++ codes ">")) Convert)
    ∷ (plain (long 254), chars ">", step_to (plain (long 254)) notices.Limit Convert)
    ∷ (plain (long 252), chars "n>", step_to (plain (long 252 ++ codes ">")) notices.Limit Convert)
    ∷ (plain (long 250), chars "n>", quiet (plain (long 250 ++ codes "ん>")) Convert)
    ∷ (plain (long 251), chars "n>", step_to (plain (long 251 ++ codes "ん")) notices.Limit Convert)
    ∷ (plain [], chars "x>", step_to (plain []) notices.Reading Stay)
    ∷ [])
unfolding lib.Utf8.encode
full_prefixes = refl

-- an upper-case letter begins an okurigana behind a reading
okurigana : Types (
    ("ITta", quiet (begun (codes "い") "t" (codes "った")) Convert)
    ∷ ("ItTa", quiet (begun (codes "い") "t" (codes "った")) Convert)
    ∷ ("UgoKu", quiet (begun (codes "うご") "k" (codes "く")) Convert)
    ∷ ("OoK1", step_to (begun (codes "おお") "k" []) notices.Reading Stay)
    ∷ ("IT", quiet (opened (codes "い") (okuri "t" []) "t") Stay)
    ∷ ("ITt", quiet (opened (codes "い") (okuri "t" (codes "っ")) "t") Stay)
    ∷ ("ItT", quiet (opened (codes "い") (okuri "t" (codes "っ")) "t") Stay)
    ∷ ("KaA", quiet (begun (codes "か") "a" (codes "あ")) Convert)
    ∷ ("KakT", quiet (opened (codes "か") (okuri "t" []) "t") Stay)
    ∷ ("KanT", quiet (opened (codes "かん") (okuri "t" []) "t") Stay)
    ∷ ("KanN", quiet (opened (codes "かん") (okuri "n" []) "n") Stay)
    ∷ ("KaC", step_to (begun (codes "か") "c" []) notices.Reading Stay)
    ∷ [])
unfolding lib.Utf8.encode
okurigana = refl

-- the consonants but `n` stand doubled before an okurigana, and no vowel does
doubled_letters : map is_doubled (codes "abcdefghijklmnopqrstuvwxyz")
    ≡ false ∷ true ∷ true ∷ true ∷ false ∷ true ∷ true ∷ true ∷ false ∷ true ∷ true ∷ true ∷ true
    ∷ false ∷ false ∷ true ∷ true ∷ true ∷ true ∷ true ∷ false ∷ true ∷ true ∷ true ∷ true ∷ true ∷ []
doubled_letters = refl

-- a letter is alone where nothing else is pending, before it or behind it
letters_alone : map (λ pending. is_alone (code "k") (codes pending)) ("" ∷ "k" ∷ "t" ∷ "kk" ∷ "ky" ∷ "yk" ∷ "kkk" ∷ [])
    ≡ false ∷ true ∷ false ∷ false ∷ false ∷ false ∷ false ∷ []
letters_alone = refl

-- か with a letter pending, and the upper-case one, which doubles it: っ begins the okurigana, and the letter is pending
abbrev doubles : String → String → Reading × List Key × ReadingStep
doubles letter upper =
    (opened (codes "か") None letter, chars upper, quiet (opened (codes "か") (okuri letter (codes "っ")) letter) Stay)

-- each consonant that is pending is doubled by its upper-case letter, but for `n`, and for `l` and `q`, whose
-- upper-case letters are keys of their own
doubled_consonants : Makes (
    doubles "b" "B" ∷ doubles "c" "C" ∷ doubles "d" "D" ∷ doubles "f" "F" ∷ doubles "g" "G" ∷ doubles "h" "H"
    ∷ doubles "j" "J" ∷ doubles "k" "K" ∷ doubles "m" "M" ∷ doubles "p" "P" ∷ doubles "r" "R" ∷ doubles "s" "S"
    ∷ doubles "t" "T" ∷ doubles "v" "V" ∷ doubles "w" "W" ∷ doubles "x" "X" ∷ doubles "y" "Y" ∷ doubles "z" "Z"
    ∷ (opened (codes "か") None "n", chars "N", quiet (opened (codes "かん") (okuri "n" []) "n") Stay)
    ∷ (opened (codes "か") None "l", chars "L", quiet (plain (codes "か")) (Confirm false ToWide))
    ∷ (opened (codes "か") None "q", chars "Q", quiet (plain (codes "か")) (Confirm false OpenReading))
    ∷ [])
unfolding lib.Utf8.encode
doubled_consonants = refl

-- a vowel that is pending is flushed, as are two letters, and a letter behind an empty reading
not_doubled : Makes (
    (opened (codes "か") None "a", chars "A", quiet (begun (codes "かあ") "a" (codes "あ")) Convert)
    ∷ (opened (codes "か") None "i", chars "I", quiet (begun (codes "かい") "i" (codes "い")) Convert)
    ∷ (opened (codes "か") None "u", chars "U", quiet (begun (codes "かう") "u" (codes "う")) Convert)
    ∷ (opened (codes "か") None "o", chars "O", quiet (begun (codes "かお") "o" (codes "お")) Convert)
    ∷ (opened (codes "か") None "e", chars "E", step_to (begun (codes "か") "e" []) notices.Reading Stay)
    ∷ (opened (codes "か") None "ky", chars "K", quiet (opened (codes "か") (okuri "k" []) "k") Stay)
    ∷ (opened (codes "か") None "yk", chars "K", quiet (opened (codes "か") (okuri "k" []) "k") Stay)
    ∷ (opened (codes "か") None "tt", chars "T", quiet (opened (codes "かっ") (okuri "t" []) "t") Stay)
    ∷ (opened [] None "z", chars "Z", quiet (opened [] None "z") Stay)
    ∷ [])
unfolding lib.Utf8.encode
not_doubled = refl

-- か, and an upper-case letter whose lower-case one begins an input: it waits in the okurigana
abbrev waits : String → String → Reading × List Key × ReadingStep
waits letter upper = (plain (codes "か"), chars upper, quiet (opened (codes "か") (okuri letter []) letter) Stay)

-- か, and one whose lower-case letter is an input: its kana is the okurigana, which is whole
abbrev completes : String → String → String → Reading × List Key × ReadingStep
completes letter upper kana = (plain (codes "か"), chars upper, quiet (begun (codes "か") letter (codes kana)) Convert)

-- か, and one whose lower-case letter is no kana: it is refused in the okurigana that it begins
abbrev refuses : String → String → Reading × List Key × ReadingStep
refuses letter upper = (plain (codes "か"), chars upper, step_to (begun (codes "か") letter []) notices.Reading Stay)

-- each letter from `A` to `Z` but `L` and `Q` begins an okurigana behind a reading, and no character beside them does
upper_case_letters : Makes (
    completes "a" "A" "あ" ∷ refuses "b" "B" ∷ refuses "c" "C" ∷ refuses "d" "D" ∷ refuses "e" "E" ∷ refuses "f" "F"
    ∷ waits "g" "G" ∷ refuses "h" "H" ∷ completes "i" "I" "い" ∷ refuses "j" "J" ∷ waits "k" "K" ∷ refuses "m" "M"
    ∷ waits "n" "N" ∷ completes "o" "O" "お" ∷ refuses "p" "P" ∷ refuses "r" "R" ∷ refuses "s" "S" ∷ waits "t" "T"
    ∷ completes "u" "U" "う" ∷ refuses "v" "V" ∷ refuses "w" "W" ∷ waits "x" "X" ∷ refuses "y" "Y" ∷ waits "z" "Z"
    ∷ (plain (codes "か"), chars "L", quiet (plain (codes "か")) (Confirm false ToWide))
    ∷ (plain (codes "か"), chars "Q", quiet (plain (codes "か")) (Confirm false OpenReading))
    ∷ (plain (codes "か"), chars "@", quiet (plain (codes "か@")) Stay)
    ∷ (plain (codes "か"), chars "[", quiet (plain (codes "か[")) Stay)
    ∷ (plain (codes "か"), chars "`", quiet (plain (codes "か`")) Stay)
    ∷ [])
unfolding lib.Utf8.encode
upper_case_letters = refl

-- behind an empty reading an upper-case letter is read as the lower-case one, and in an okurigana it goes on
upper_case : Types (
    ("A", quiet (plain (codes "あ")) Stay) ∷ ("K", quiet (opened [] None "k") Stay)
    ∷ ("kK", quiet (opened [] None "k") Stay)
    ∷ ("nK", quiet (opened (codes "ん") (okuri "k" []) "k") Stay)
    ∷ ("KaKK", quiet (opened (codes "か") (okuri "k" (codes "っ")) "k") Stay)
    ∷ ("KaKA", quiet (begun (codes "か") "k" (codes "か")) Convert)
    ∷ ("KaTKu", quiet (begun (codes "か") "t" (codes "く")) Convert)
    ∷ [])
unfolding lib.Utf8.encode
upper_case = refl

-- inputs that begin with a key of the reading state, or go on with one, and a vowel that waits for more
abbrev odd_rules : List Rule
odd_rules =
    rule (codes "a") (codes "あ") ∷ rule (codes "ka") (codes "か") ∷ rule (codes "e") (codes "え")
    ∷ rule (codes "ea") (codes "えあ") ∷ rule (codes "qa") (codes "くぁ") ∷ rule (codes "la") (codes "ら")
    ∷ rule (codes "/a") (codes "さ") ∷ rule (codes ">>") (codes "》") ∷ rule (codes "zq") (codes "？")
    ∷ rule (codes "z>") (codes "≫") ∷ []

odd_rule_set : is_rule_set odd_rules ≡ true
odd_rule_set = refl

-- the keys make of a new reading what a table says, by these rules
abbrev TypesOddly : List (String × ReadingStep) → Type 0
TypesOddly table =
    map (λ line. pressed_by odd_rules new_reading (chars line.0)) table ≡ map (λ line. line.1) table

-- nothing goes on with nothing: `q` and `l` confirm, and `>` ends a prefix. Where something is pending that they go on
-- with, the rules read them, as they do a key that is none of the reading state's
with_nothing_pending : TypesOddly (
    ("q", quiet (plain []) (Confirm true Nothing)) ∷ ("aq", quiet (plain (codes "あ")) (Confirm true Nothing))
    ∷ ("al", quiet (plain (codes "あ")) (Confirm false ToAscii)) ∷ ("zq", quiet (plain (codes "？")) Stay)
    ∷ ("azq", quiet (plain (codes "あ？")) Stay) ∷ ("/", quiet (opened [] None "/") Stay)
    ∷ ("/a", quiet (plain (codes "さ")) Stay) ∷ (">", quiet (opened [] None ">") Stay)
    ∷ (">>", quiet (plain (codes "》")) Stay) ∷ (">a", quiet (plain (codes "あ")) Stay)
    ∷ ("a>", quiet (plain (codes "あ>")) Convert) ∷ ("z>", quiet (plain (codes "≫")) Stay)
    ∷ ("az>", quiet (plain (codes "あ≫")) Stay) ∷ ("KaeE", quiet (opened (codes "かえ") (okuri "e" []) "e") Stay)
    ∷ [])
unfolding lib.Utf8.encode
with_nothing_pending = refl

nothing_goes_on : map (λ c. extends_pending odd_rules [] c) (codes "akqlz/>") ≡ replicate 7 false
nothing_goes_on = refl

-- a mark `>` stays where more is typed behind it
behind_marks : Types (
    (">a", quiet (plain (codes ">あ")) Stay) ∷ (">a>", quiet (plain (codes ">あ>")) Convert)
    ∷ (">ka ", quiet (plain (codes ">か")) Convert) ∷ (">a>i", quiet (plain (codes ">あ>い")) Stay)
    ∷ (">;", quiet (plain (codes ">;")) Stay) ∷ ("a>n>", quiet (plain (codes "あ>ん>")) Convert)
    ∷ (">KaK", quiet (opened (codes ">") (okuri "k" (codes "か")) "k") Stay)
    ∷ [])
unfolding lib.Utf8.encode
behind_marks = refl

-- so it does in a reading that was opened for a suffix
suffixes : Makes (
    (suffix_reading, chars "ka", quiet (plain (codes ">か")) Stay)
    ∷ (suffix_reading, chars " ", quiet (plain (codes ">")) Convert)
    ∷ (suffix_reading, chars ">", quiet (plain (codes ">>")) Convert) ∷ (suffix_reading, Bs ∷ [], quiet (plain []) Stay)
    ∷ (suffix_reading, chars "kaKu", quiet (begun (codes ">か") "k" (codes "く")) Convert)
    ∷ [])
unfolding lib.Utf8.encode
suffixes = refl

-- Limits, and characters that are refused

-- a reading has at most 254 bytes, and what does not fit is not put
full_readings : Makes (
    (plain (long 251), chars "a", quiet (plain (long 251 ++ codes "あ")) Stay)
    ∷ (plain (long 252), chars "a", step_to (plain (long 252)) notices.Limit Stay)
    ∷ (plain (long 252), chars "n ", step_to (plain (long 252)) notices.Limit Convert)
    ∷ (plain (long 252), chars "nq", step_to (plain (long 252)) notices.Limit (Confirm true Nothing))
    ∷ (plain (long 253), chars "1", quiet (plain (long 253 ++ codes "1")) Stay)
    ∷ (plain (long 254), chars "1", step_to (plain (long 254)) notices.Limit Stay)
    ∷ (plain (long 250), chars "n1", quiet (plain (long 250 ++ codes "ん1")) Stay)
    ∷ (plain (long 251), chars "n1", step_to (plain (long 251)) notices.Limit Stay)
    ∷ [])
unfolding lib.Utf8.encode
full_readings = refl

-- an okurigana has at most 60 bytes, and is whole also where a key was refused
full_okurigana : Makes ((
  begun (codes "か") "k" (long_okuri 19),
  chars "a",
  quiet (begun (codes "か") "k" (long_okuri 19 ++ codes "あ")) Convert,
)
    ∷ (
      begun (codes "か") "k" (long_okuri 20),
      chars "a",
      step_to (begun (codes "か") "k" (long_okuri 20)) notices.Limit Convert,
    )
    ∷ (
      begun (codes "か") "k" (long_okuri 20),
      chars "1",
      step_to (begun (codes "か") "k" (long_okuri 20)) notices.Limit Convert,
    )
    ∷ (
      begun (codes "か") "k" (long_okuri 19),
      chars "na",
      quiet (begun (codes "か") "k" (long_okuri 19 ++ codes "な")) Convert,
    )
    ∷ (
      begun (codes "か") "k" (long_okuri 20),
      chars "k",
      quiet (opened (codes "か") (okuri "k" (long_okuri 20)) "k") Stay,
    )
    ∷ [])
unfolding lib.Utf8.encode
full_okurigana = refl

-- no reading begins with `;` or holds a space, and no okurigana holds what is no kana;
-- a piece is put whole or not at all
refusals : Types (
    (";", step_to (plain []) notices.Reading Stay) ∷ ("a;", quiet (plain (codes "あ;")) Stay)
    ∷ ("k;", step_to (plain []) notices.Reading Stay)
    ∷ ("n;", quiet (plain (codes "ん;")) Stay) ∷ ("x ", step_to (plain []) notices.Reading Drop)
    ∷ ("ax ", quiet (plain (codes "あ;")) Convert)
    ∷ ("zk", quiet (plain (codes "か1")) Stay) ∷ ("zs", step_to (plain []) notices.Reading Stay)
    ∷ ("azs", step_to (plain (codes "あ")) notices.Reading Stay)
    ∷ ("KaT1", step_to (begun (codes "か") "t" []) notices.Reading Stay)
    ∷ ("KaTzk", step_to (begun (codes "か") "t" []) notices.Reading Stay)
    ∷ ("KatT1", step_to (begun (codes "か") "t" (codes "っ")) notices.Reading Convert)
    ∷ ("KatTn1", step_to (begun (codes "か") "t" (codes "っ")) notices.Reading Convert)
    ∷ ("KatTzl", step_to (begun (codes "か") "t" (codes "っ")) notices.Reading Convert)
    ∷ ("xK", step_to (opened [] None "k") notices.Reading Stay) ∷ [])
unfolding lib.Utf8.encode
refusals = refl

-- of two notices in one key the last stands
two_notices : Makes (
    (plain (long 252), chars "nA", step_to (begun (long 252) "a" (codes "あ")) notices.Limit Convert)
    ∷ (plain (long 252), chars "nC", step_to (begun (long 252) "c" []) notices.Reading Stay)
    ∷ (plain (long 254), chars "n>", step_to (plain (long 254)) notices.Limit Convert)
    ∷ [])
unfolding lib.Utf8.encode
two_notices = refl

-- か with the okurigana っ, and with one that is full
abbrev sokuon : Reading
sokuon = begun (codes "か") "t" (codes "っ")

abbrev full_okuri : Reading
full_okuri = begun (codes "か") "k" (long_okuri 20)

-- what a flush tells stays where the rest of the key tells nothing: it converts or confirms the reading, begins an
-- okurigana or gives one up, or asks for completions
flushed_notices : Makes (
    (plain (long 252), chars "nK", step_to (opened (long 252) (okuri "k" []) "k") notices.Limit Stay)
    ∷ (plain (long 252), chars "nl", step_to (plain (long 252)) notices.Limit (Confirm false ToAscii))
    ∷ (plain (long 252), chars "nL", step_to (plain (long 252)) notices.Limit (Confirm false ToWide))
    ∷ (plain (long 252), chars "nQ", step_to (plain (long 252)) notices.Limit (Confirm false OpenReading))
    ∷ (plain (long 252), chars "n" ++ Ret ∷ [], step_to (plain (long 252)) notices.Limit (Confirm false Newline))
    ∷ (plain (long 252), chars "n" ++ Tab ∷ [], step_to (plain (long 252)) notices.Limit AskCompletions)
    ∷ (plain [], chars "x" ++ Tab ∷ [], step_to (plain []) notices.Reading AskCompletions)
    ∷ (plain [], chars "xQ", step_to (plain []) notices.Reading (Confirm false OpenReading))
    ∷ (plain [], chars "xq", step_to (plain []) notices.Reading (Confirm true Nothing))
    ∷ (plain (codes "か"), chars "X ", step_to (plain (codes "か")) notices.Reading Stay)
    ∷ (sokuon, chars "x ", step_to sokuon notices.Reading Convert)
    ∷ (sokuon, chars "xq", step_to sokuon notices.Reading (Confirm true Nothing))
    ∷ (full_okuri, chars "n ", step_to full_okuri notices.Limit Convert)
    ∷ [])
unfolding lib.Utf8.encode
flushed_notices = refl

notices_in_turn : map (λ (pair : Notice × Notice). later_notice pair.0 pair.1)
    ((notices.Limit, notices.Empty) ∷ (notices.Limit, notices.Reading) ∷ (notices.Empty, notices.Limit)
    ∷ (notices.Empty, notices.Empty) ∷ [])
    ≡ notices.Limit ∷ notices.Reading ∷ notices.Limit ∷ notices.Empty ∷ []
notices_in_turn = refl

-- The other keys

-- C-j, Return and Tab behind a flush, C-g and Undo
other_keys : Makes (
    (plain [], Cj ∷ [], quiet (plain []) (Confirm false Nothing))
    ∷ (plain (codes "か"), chars "n" ++ Cj ∷ [], quiet (plain (codes "かん")) (Confirm false Nothing))
    ∷ (plain (codes "か"), chars "k" ++ Cj ∷ [], quiet (plain (codes "か")) (Confirm false Nothing))
    ∷ (plain (long 252), chars "n" ++ Cj ∷ [], step_to (plain (long 252)) notices.Limit (Confirm false Nothing))
    ∷ (plain (codes "か"), chars "n" ++ Ret ∷ [], quiet (plain (codes "かん")) (Confirm false Newline))
    ∷ (
      begun (codes "か") "n" [],
      chars "n" ++ Ret ∷ [],
      quiet (begun (codes "か") "n" (codes "ん")) (Confirm false Newline),
    )
    ∷ (plain (codes "か"), chars "n" ++ Cg ∷ [], quiet (opened (codes "か") None "n") Drop)
    ∷ (plain [], Cg ∷ [], quiet (plain []) Drop)
    ∷ (plain (codes "か"), chars "n" ++ Tab ∷ [], quiet (plain (codes "かん")) AskCompletions)
    ∷ (plain [], Tab ∷ [], quiet (plain []) AskCompletions)
    ∷ (
      plain (codes "か"),
      chars "N" ++ Tab ∷ [],
      step_to (opened (codes "か") (okuri "n" []) "n") notices.NoCompletion Stay,
    )
    ∷ (plain (codes "か"), chars "n" ++ Undo ∷ [], step_to (opened (codes "か") None "n") notices.NoUndo Stay)
    ∷ [])
unfolding lib.Utf8.encode
other_keys = refl

-- backspace, in each of its cases
deletions : Makes (
    (opened (codes "かな") None "ky", Bs ∷ [], quiet (opened (codes "かな") None "k") Stay)
    ∷ (opened (codes "かな") None "k", Bs ∷ [], quiet (plain (codes "かな")) Stay)
    ∷ (plain (codes "かな"), Bs ∷ [], quiet (plain (codes "か")) Stay)
    ∷ (plain (codes "か"), Bs ∷ [], quiet (plain []) Stay) ∷ (plain [], Bs ∷ [], quiet (plain []) Drop)
    ∷ (opened (codes "い") (okuri "t" (codes "っ")) "t", Bs ∷ [], quiet (begun (codes "い") "t" (codes "っ")) Stay)
    ∷ (opened (codes "い") (okuri "k" []) "ky", Bs ∷ [], quiet (opened (codes "い") (okuri "k" []) "k") Stay)
    ∷ (opened (codes "い") (okuri "k" []) "k", Bs ∷ [], quiet (plain (codes "い")) Stay)
    ∷ (begun (codes "い") "t" (codes "った"), Bs ∷ [], quiet (begun (codes "い") "t" (codes "っ")) Stay)
    ∷ (begun (codes "い") "t" (codes "っ"), Bs ∷ [], quiet (plain (codes "い")) Stay)
    ∷ (begun (codes "いな") "t" [], Bs ∷ [], quiet (plain (codes "い")) Stay)
    ∷ (begun (codes "い") "t" [], Bs ∷ [], quiet (plain []) Stay) ∷ [])
unfolding lib.Utf8.encode
deletions = refl

-- in an abbreviation each character but the space is put as itself
abbreviations : Makes (
    (new_abbrev, chars "kaqlLQ>K-", quiet (abbreviated (codes "kaqlLQ>K-")) Stay)
    ∷ (new_abbrev, chars ";", step_to new_abbrev notices.Reading Stay)
    ∷ (new_abbrev, chars "a;", quiet (abbreviated (codes "a;")) Stay) ∷ (new_abbrev, chars " ", quiet new_abbrev Drop)
    ∷ (new_abbrev, chars "ab ", quiet (abbreviated (codes "ab")) Convert)
    ∷ (abbreviated (long 253), chars "n", quiet (abbreviated (long 253 ++ codes "n")) Stay)
    ∷ (abbreviated (long 254), chars "n", step_to (abbreviated (long 254)) notices.Limit Stay)
    ∷ (abbreviated (codes "ab"), Bs ∷ [], quiet (abbreviated (codes "a")) Stay)
    ∷ (abbreviated (codes "ab"), Tab ∷ [], quiet (abbreviated (codes "ab")) AskCompletions)
    ∷ (abbreviated (codes "n"), Cj ∷ [], quiet (abbreviated (codes "n")) (Confirm false Nothing))
    ∷ [])
unfolding lib.Utf8.encode
abbreviations = refl

-- Completions

-- か completed by three readings, of which the one of a place is shown
abbrev readings : List (List ℕ)
readings = codes "かん" ∷ codes "かんじ" ∷ codes "かき" ∷ []

abbrev completed_at : ℕ → String → Reading
completed_at place text =
    record (plain (codes text)) { completions = Some (record { readings = readings; place = place }) }

-- the first of the readings replaces the one that they complete, and all are kept, or there are none
completions : completed (opened (codes "か") None "") readings
    ≡ record { reading = completed_at 0 "かん"; notice = notices.Empty }
completions = refl

no_completion : completed (plain (codes "か")) [] ≡ record { reading = plain (codes "か"); notice = notices.NoCompletion }
no_completion = refl

-- Tab and `.` go to the next, `,` to the one before, and past either end the reading stays
completions_in_turn : Makes (
    (completed_at 0 "かん", Tab ∷ [], quiet (completed_at 1 "かんじ") Stay)
    ∷ (completed_at 0 "かん", chars ".", quiet (completed_at 1 "かんじ") Stay)
    ∷ (completed_at 1 "かんじ", Tab ∷ [], quiet (completed_at 2 "かき") Stay)
    ∷ (completed_at 1 "かんじ", chars ".", quiet (completed_at 2 "かき") Stay)
    ∷ (completed_at 2 "かき", Tab ∷ [], step_to (completed_at 2 "かき") notices.NoMore Stay)
    ∷ (completed_at 2 "かき", chars ".", step_to (completed_at 2 "かき") notices.NoMore Stay)
    ∷ (completed_at 2 "かき", chars ",", quiet (completed_at 1 "かんじ") Stay)
    ∷ (completed_at 1 "かんじ", chars ",", quiet (completed_at 0 "かん") Stay)
    ∷ (completed_at 0 "かん", chars ",", step_to (completed_at 0 "かん") notices.NoMore Stay)
    ∷ (completed_at 0 "かん", chars ".,", quiet (completed_at 0 "かん") Stay)
    ∷ [])
completions_in_turn = refl

-- any other key gives the completions up, and is read where none are kept
completions_given_up : Makes (
    (completed_at 1 "かんじ", chars "n", quiet (opened (codes "かんじ") None "n") Stay)
    ∷ (completed_at 1 "かんじ", chars "a.", quiet (plain (codes "かんじあ.")) Stay)
    ∷ (completed_at 1 "かんじ", chars " ", quiet (plain (codes "かんじ")) Convert)
    ∷ (completed_at 2 "かき", chars "q", quiet (plain (codes "かき")) (Confirm true Nothing))
    ∷ (completed_at 1 "かんじ", chars "-", quiet (plain (codes "かんじ-")) Stay)
    ∷ (completed_at 1 "かんじ", chars "/", quiet (plain (codes "かんじ/")) Stay)
    ∷ (completed_at 2 "かき", chars "K", quiet (opened (codes "かき") (okuri "k" []) "k") Stay)
    ∷ (completed_at 2 "かき", chars ">", quiet (plain (codes "かき>")) Convert)
    ∷ (completed_at 1 "かんじ", Cj ∷ [], quiet (plain (codes "かんじ")) (Confirm false Nothing))
    ∷ (completed_at 1 "かんじ", Ret ∷ [], quiet (plain (codes "かんじ")) (Confirm false Newline))
    ∷ (completed_at 1 "かんじ", Cg ∷ [], quiet (plain (codes "かんじ")) Drop)
    ∷ (completed_at 1 "かんじ", Bs ∷ [], quiet (plain (codes "かん")) Stay)
    ∷ (completed_at 1 "かんじ", Undo ∷ [], step_to (plain (codes "かんじ")) notices.NoUndo Stay)
    ∷ (
      record (completed_at 1 "ab") { is_abbrev = true },
      chars ".",
      quiet (record (completed_at 2 "かき") { is_abbrev = true }) Stay,
    )
    ∷ (record (completed_at 1 "ab") { is_abbrev = true }, chars "/", quiet (abbreviated (codes "ab/")) Stay)
    ∷ [])
unfolding lib.Utf8.encode
completions_given_up = refl

-- an abbreviation stays one where it is completed: its characters are put as themselves behind the completion
abbrev words : List (List ℕ)
words = codes "skk" ∷ codes "sky" ∷ []

abbrev abbreviated_at : ℕ → String → Reading
abbreviated_at place text =
    record (abbreviated (codes text)) { completions = Some (record { readings = words; place = place }) }

completed_abbreviations :
    (completed (abbreviated (codes "sk")) words ≡ record { reading = abbreviated_at 0 "skk"; notice = notices.Empty })
    × (completed (abbreviated (codes "sk")) []
    ≡ record { reading = abbreviated (codes "sk"); notice = notices.NoCompletion })
completed_abbreviations = (refl, refl)

-- what is kept of a reading that is completed: its okurigana and what is pending, and no completions of before
completed_readings : map (λ (reading : Reading). (completed reading (codes "かき" ∷ [])).reading)
    (opened (codes "か") (okuri "k" (codes "く")) "n" ∷ completed_at 2 "かき" ∷ [])
    ≡ map
    (λ (reading : Reading). record reading { completions = Some (record { readings = codes "かき" ∷ []; place = 0 }) })
    (opened (codes "かき") (okuri "k" (codes "く")) "n" ∷ plain (codes "かき") ∷ [])
completed_readings = refl

in_completed_abbreviations : Makes (
    (abbreviated_at 0 "skk", Tab ∷ [], quiet (abbreviated_at 1 "sky") Stay)
    ∷ (abbreviated_at 1 "sky", Tab ∷ [], step_to (abbreviated_at 1 "sky") notices.NoMore Stay)
    ∷ (abbreviated_at 1 "sky", chars ",", quiet (abbreviated_at 0 "skk") Stay)
    ∷ (abbreviated_at 0 "skk", chars ",", step_to (abbreviated_at 0 "skk") notices.NoMore Stay)
    ∷ (abbreviated_at 0 "skk", chars "a.K", quiet (abbreviated (codes "skka.K")) Stay)
    ∷ (abbreviated_at 0 "skk", chars "q", quiet (abbreviated (codes "skkq")) Stay)
    ∷ (abbreviated_at 0 "skk", chars ">", quiet (abbreviated (codes "skk>")) Stay)
    ∷ (abbreviated_at 1 "sky", chars " ", quiet (abbreviated (codes "sky")) Convert)
    ∷ (abbreviated_at 1 "sky", Cj ∷ [], quiet (abbreviated (codes "sky")) (Confirm false Nothing))
    ∷ (abbreviated_at 1 "sky", Bs ∷ [], quiet (abbreviated (codes "sk")) Stay)
    ∷ [])
unfolding lib.Utf8.encode
in_completed_abbreviations = refl

-- completions that are kept are valid readings, and the place is that of one of them
kept_completions : map may_complete (
    record { readings = readings; place = 0 } ∷ record { readings = readings; place = 2 }
    ∷ record { readings = readings; place = 3 }
    ∷ record { readings = []; place = 0 } ∷ record { readings = codes ";" ∷ []; place = 0 }
    ∷ record { readings = codes "か" ∷ [] ∷ []; place = 0 } ∷ [])
    ≡ true ∷ true ∷ false ∷ false ∷ false ∷ false ∷ []
unfolding lib.Utf8.encode
kept_completions = refl

-- What an open reading keeps, and what it is converted by

open_readings : map is_open (
    new_reading ∷ new_abbrev ∷ plain (codes "か") ∷ plain (codes ";") ∷ plain (codes "a b") ∷ plain (long 254)
    ∷ plain (long 255)
    ∷ begun (codes "か") "k" [] ∷ begun (codes "か") "k" (codes "く") ∷ begun (codes "か") "k" (codes "1") ∷ begun [] "k" []
    ∷ begun (codes "か") "K" [] ∷ begun (codes "か") "k" (long_okuri 20) ∷ begun (codes "か") "k" (long_okuri 21) ∷ [])
    ≡ true ∷ true ∷ true ∷ false ∷ false ∷ true ∷ false ∷ true ∷ true ∷ false ∷ false ∷ false ∷ true ∷ false ∷ []
unfolding lib.Utf8.encode
open_readings = refl

-- only what is opened as an abbreviation is one
new_readings : map (λ (reading : Reading). reading.is_abbrev) (new_reading ∷ new_abbrev ∷ suffix_reading ∷ [])
    ≡ false ∷ true ∷ false ∷ []
new_readings = refl

-- nothing may stand in a reading and in an okurigana, and what is valid there
texts_of_readings : map may_read ([] ∷ codes "か" ∷ codes "a" ∷ codes ";" ∷ codes "か " ∷ [])
    ≡ true ∷ true ∷ true ∷ false ∷ false ∷ []
unfolding lib.Utf8.encode
texts_of_readings = refl

texts_of_okurigana : map may_end ([] ∷ codes "く" ∷ codes "a" ∷ []) ≡ true ∷ true ∷ false ∷ []
unfolding lib.Utf8.encode
texts_of_okurigana = refl

-- an okurigana that is not begun fits any reading; one that is begun wants a small letter, kana, and a reading
okurigana_fits : map (λ (pair : List ℕ × Option BegunOkuri). fits_reading pair.0 pair.1) (
    ([], None) ∷ (codes "か", None) ∷ (codes "か", okuri "k" []) ∷ (codes "か", okuri "k" (codes "く"))
    ∷ (codes "か", okuri "k" (codes "a")) ∷ (codes "か", okuri "K" []) ∷ ([], okuri "k" []) ∷ [])
    ≡ true ∷ true ∷ true ∷ true ∷ false ∷ false ∷ false ∷ []
unfolding lib.Utf8.encode
okurigana_fits = refl

keys : map key_of
    (plain (codes "か") ∷ begun (codes "うご") "k" (codes "く") ∷ begun (codes "うご") "k" [] ∷ abbreviated (codes "ab") ∷ [])
    ≡ record { part = Nasi; reading = codes "か" } ∷ record { part = Ari; reading = codes "うごk" }
    ∷ record { part = Ari; reading = codes "うごk" } ∷ record { part = Nasi; reading = codes "ab" } ∷ []
keys = refl

okurigana_of : map okuri_of (plain (codes "か") ∷ begun (codes "うご") "k" (codes "く") ∷ begun (codes "うご") "k" [] ∷ [])
    ≡ None ∷ Some (codes "く") ∷ None ∷ []
okurigana_of = refl
