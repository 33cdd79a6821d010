-- The definitions of rule files at small files, each worked out by hand.
use Rattle.std.proofs.Common.{◌≡◌, ℕ, true, false, None, Some, Ok, Err, List, [], ◌∷◌, ◌++◌, length, map, codes, refl}
use Rattle.std.proofs.Common.{replicate}
use Rattle.std.specs.Str.{chars}
use Rattle.skk_text.specs.declared.text_file.TextFault.TheVariants.{TooLong, NotUtf8}
use Rattle.romaji_rules.specs.declared.rule.Rule.{Rule}
use Rattle.romaji_rules.specs.declared.rule_fault.RuleFault.TheVariants.{NoText, BadLine, Twice, BadNext, Memory}
use Rattle.romaji_rules.specs.Output.{nothing}
use Rattle.romaji_rules.specs.RuleFiles.{without_returns, says_rule, entries_of, is_output, rule_of_line, with_before}
use Rattle.romaji_rules.specs.RuleFiles.{fault_behind, has_bad_next, is_of_line, rules_in}
use Rattle.romaji_rules.specs.Typed.{rule_of}
use Prim.Native.String.{String}

-- a line of four fields, and a rule whose outputs are letters
abbrev line : String → String → String → String → List ℕ
line input next hira kata = codes input ++ 9 ∷ codes next ++ 9 ∷ codes hira ++ 9 ∷ codes kata

abbrev rule : String → String → String → String → Rule
rule input next hira kata =
    record { input = codes input; next = codes next; out = record { hira = codes hira; kata = codes kata } }

-- Lines

-- one CR goes, right before an LF alone
returns : map without_returns
    ((13 ∷ 10 ∷ []) ∷ (13 ∷ 13 ∷ 10 ∷ []) ∷ (13 ∷ []) ∷ (13 ∷ 0x61 ∷ 10 ∷ []) ∷ (0x61 ∷ 13 ∷ 10 ∷ 13 ∷ []) ∷ [])
    ≡ (10 ∷ []) ∷ (13 ∷ 10 ∷ []) ∷ (13 ∷ []) ∷ (13 ∷ 0x61 ∷ 10 ∷ []) ∷ (0x61 ∷ 10 ∷ 13 ∷ []) ∷ []
returns = refl

saying : map says_rule ([] ∷ codes "#" ∷ codes "#a" ∷ codes "a" ∷ codes "a#" ∷ (13 ∷ []) ∷ [])
    ≡ false ∷ false ∷ false ∷ true ∷ true ∷ true ∷ []
saying = refl

-- a comment, an empty line with CR, a line with CR LF, and a last one that keeps its CR
entries : entries_of (codes "# x" ++ 10 ∷ 13 ∷ 10 ∷ codes "a" ++ 13 ∷ 10 ∷ codes "b" ++ 13 ∷ [])
    ≡ (3, codes "a") ∷ (4, codes "b" ++ 13 ∷ []) ∷ []
entries = refl

-- a comment behind the mark U+FEFF is none
marked : entries_of (0xEF ∷ 0xBB ∷ 0xBF ∷ codes "#" ++ 10 ∷ []) ≡ (1, 0xEF ∷ 0xBB ∷ 0xBF ∷ codes "#") ∷ []
marked = refl

-- no line
nothing_there : map entries_of ([] ∷ (10 ∷ []) ∷ codes "#" ∷ []) ≡ [] ∷ [] ∷ [] ∷ []
nothing_there = refl

-- Rules

-- outputs of 0, 24 and 25 bytes, and with characters at the edges of those that may not stand there
outputs : map is_output ([] ∷ replicate 24 0x61 ∷ replicate 25 0x61 ∷ (0x20 ∷ []) ∷ (0x21 ∷ []) ∷ (0x7E ∷ [])
    ∷ (0x7F ∷ []) ∷ codes "a b" ∷ []) ≡ true ∷ true ∷ false ∷ false ∷ true ∷ true ∷ false ∷ false ∷ []
unfolding chars
outputs = refl

-- か is one character of three bytes
kana : rule_of_line (codes "ka" ++ 9 ∷ 9 ∷ 0xE3 ∷ 0x81 ∷ 0x8B ∷ 9 ∷ 0xE3 ∷ 0x82 ∷ 0xAB ∷ [])
    ≡ Some (record { input = codes "ka"; next = []; out = record { hira = codes "か"; kata = codes "カ" } })
unfolding chars
kana = refl

-- lines that spell a rule: with empty outputs, and with a next text of 8 bytes
spelling : map rule_of_line (line "a" "" "x" "y" ∷ line "a" "" "" "" ∷ line "a" "abcdefgh" "x" "y" ∷ [])
    ≡ Some (rule "a" "" "x" "y") ∷ Some (record { input = codes "a"; next = []; out = nothing })
    ∷ Some (rule "a" "abcdefgh" "x" "y") ∷ []
unfolding chars
spelling = refl

-- lines that spell none: without fields, with three and five, by the input, by a next text of 9 bytes,
-- by each output, and by a CR
spelling_none : map rule_of_line (codes "a" ∷ (codes "a" ++ 9 ∷ 9 ∷ codes "x") ∷ (line "a" "" "x" "y" ++ 9 ∷ [])
    ∷ line "" "" "x" "y" ∷ line "A" "" "x" "y" ∷ line "abcdefghi" "" "x" "y"
    ∷ line "a" "abcdefghi" "x" "y" ∷ line "a" "" "x y" "y" ∷ line "a" "" "x" "y "
    ∷ (line "a" "" "x" "y" ++ 13 ∷ []) ∷ [])
    ≡ None ∷ None ∷ None ∷ None ∷ None ∷ None ∷ None ∷ None ∷ None ∷ None ∷ []
unfolding chars
spelling_none = refl

-- Faults

befores : with_before {X = ℕ} (0 ∷ []) (1 ∷ 2 ∷ []) ≡ (0 ∷ [], 1) ∷ (0 ∷ 1 ∷ [], 2) ∷ []
befores = refl

behind : map (fault_behind (rule "a" "" "x" "y" ∷ []) 7)
    (None ∷ Some (rule "a" "" "z" "z") ∷ Some (rule "b" "" "x" "y") ∷ [])
    ≡ Some (BadLine 7) ∷ Some (Twice 7) ∷ None ∷ []
behind = refl

-- behind 4,096 rules a line is bad, whatever it spells, and behind 4,095 it is not
behind_many : (before : List Rule) (next : Rule) → length before ≡ 4096
    → fault_behind before 7 (Some next) ≡ Some (BadLine 7)
behind_many before next count = rw count refl

behind_few : (before : List Rule) (next : Rule) → length before ≡ 4095 → rule_of before next.input ≡ None
    → fault_behind before 7 (Some next) ≡ None
behind_few before next count new = rw (count, new) refl

-- n, ka and kk
abbrev rules : List Rule
rules = rule "n" "" "x" "y" ∷ rule "ka" "" "x" "y" ∷ rule "kk" "k" "x" "y" ∷ []

-- an empty next text, one that begins an input, one that is an input, one that is neither,
-- and one behind an input that begins others
nexts : map (has_bad_next rules) (rule "n" "" "x" "y" ∷ rule "kk" "k" "x" "y" ∷ rule "x" "n" "x" "y"
    ∷ rule "x" "q" "x" "y" ∷ rule "k" "k" "x" "y" ∷ rule "k" "" "x" "y" ∷ [])
    ≡ false ∷ false ∷ true ∷ true ∷ true ∷ false ∷ []
nexts = refl

-- each fault of a line, and each other one
faults_of_lines : map is_of_line (BadLine 1 ∷ Twice 2 ∷ BadNext 3 ∷ []) ≡ true ∷ true ∷ true ∷ []
faults_of_lines = refl

other_faults : map is_of_line (NoText (TooLong 1) ∷ NoText (NotUtf8 2) ∷ Memory ∷ []) ≡ false ∷ false ∷ false ∷ []
other_faults = refl

-- Files

abbrev of_lines : List (List ℕ) → List ℕ
of_lines [] = []
of_lines (l ∷ lines) = l ++ 10 ∷ of_lines lines

read : map (λ lines. rules_in (of_lines lines))
    ([] ∷ (line "kk" "k" "x" "y" ∷ []) ∷ (line "b" "" "x" "y" ∷ codes "#" ∷ [] ∷ line "a" "" "z" "w" ∷ []) ∷ [])
    ≡ Ok [] ∷ Ok (rule "kk" "k" "x" "y" ∷ []) ∷ Ok (rule "b" "" "x" "y" ∷ rule "a" "" "z" "w" ∷ []) ∷ []
unfolding chars
read = refl

-- an input twice, a line that spells no rule, a next text that begins no input,
-- and one behind an input that begins another
refused : map (λ lines. rules_in (of_lines lines))
    ((line "a" "" "x" "y" ∷ line "a" "" "x" "y" ∷ []) ∷ (codes "#" ∷ [] ∷ codes "a" ∷ []) ∷ (line "a" "b" "x" "y" ∷ [])
    ∷ (line "ka" "" "x" "y" ∷ line "k" "k" "x" "y" ∷ []) ∷ [])
    ≡ Err (Twice 2) ∷ Err (BadLine 3) ∷ Err (BadNext 1) ∷ Err (BadNext 2) ∷ []
unfolding chars
refused = refl

-- of two faults that lines have by themselves the first, in both orders
first_line : map (λ lines. rules_in (of_lines lines)) ((line "a" "" "x" "y" ∷ line "a" "" "x" "y" ∷ codes "a" ∷ [])
    ∷ (line "a" "" "x" "y" ∷ codes "a" ∷ line "a" "" "x" "y" ∷ []) ∷ []) ≡ Err (Twice 2) ∷ Err (BadLine 2) ∷ []
unfolding chars
first_line = refl

-- a fault that a line has by itself before one among all, in both orders, and of two among all the first
first_kind : map (λ lines. rules_in (of_lines lines))
    ((line "a" "b" "x" "y" ∷ line "a" "" "x" "y" ∷ []) ∷ (codes "a" ∷ line "a" "b" "x" "y" ∷ [])
    ∷ (line "c" "" "x" "y" ∷ line "a" "b" "x" "y" ∷ line "d" "e" "x" "y" ∷ []) ∷ [])
    ≡ Err (Twice 2) ∷ Err (BadLine 1) ∷ Err (BadNext 2) ∷ []
unfolding chars
first_kind = refl
