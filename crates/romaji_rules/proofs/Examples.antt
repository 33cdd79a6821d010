-- The definitions at a small rule set, each worked out by hand.
use Rattle.std.proofs.Common.{◌≡◌, ℕ, true, false, Option, None, Some, List, [], ◌∷◌, ◌++◌, refl, map, codes}
use Rattle.romaji_rules.specs.declared.rule.Rule.{Rule}
use Rattle.romaji_rules.specs.declared.rule_trie.Child.{Child}
use Rattle.romaji_rules.specs.Fitting.{is_input_char, is_input_text, is_next_text, inputs_differ, is_rule_set}
use Rattle.romaji_rules.specs.Output.{nothing}
use Rattle.romaji_rules.specs.RuleTries.{child, goes_on_at, goes_past, node_of, place_at, with_child}
use Rattle.romaji_rules.specs.Standard.{rule, row, contracted, single, doubled}
use Rattle.romaji_rules.specs.Typed.{Step, begins_input, goes_on, flushed, fed}

-- n, na, ka and kk: an input that begins another, and one that leaves a letter pending
abbrev rules : List Rule
rules =
    record { input = codes "n"; next = []; out = record { hira = codes "ん"; kata = codes "ン" } }
    ∷ record { input = codes "na"; next = []; out = record { hira = codes "な"; kata = codes "ナ" } }
    ∷ record { input = codes "ka"; next = []; out = record { hira = codes "か"; kata = codes "カ" } }
    ∷ record { input = codes "kk"; next = codes "k"; out = record { hira = codes "っ"; kata = codes "ッ" } }
    ∷ []

-- the characters beside those of an input
input_chars : map is_input_char (0x20 ∷ 0x21 ∷ 0x40 ∷ 0x41 ∷ 0x5A ∷ 0x5B ∷ 0x7E ∷ 0x7F ∷ [])
    ≡ false ∷ true ∷ true ∷ false ∷ false ∷ true ∷ true ∷ false ∷ []
input_chars = refl

-- inputs of 0, 1, 8 and 9 characters, and with one that may not stand there
input_texts : map is_input_text ([] ∷ codes "-" ∷ codes "abcdefgh" ∷ codes "abcdefghi" ∷ codes "A" ∷ codes "a b" ∷ [])
    ≡ false ∷ true ∷ true ∷ false ∷ false ∷ false ∷ []
input_texts = refl

next_texts : map (is_next_text rules) ([] ∷ codes "n" ∷ codes "k" ∷ codes "na" ∷ codes "x" ∷ [])
    ≡ true ∷ true ∷ true ∷ false ∷ false ∷ []
next_texts = refl

-- two rules with one input, first and last or last of all
differing : map inputs_differ
    ([] ∷ rules ∷ (rules ++ rule (codes "n") (codes "な") ∷ []) ∷ (rules ++ doubled 0x6B ∷ []) ∷ [])
    ≡ true ∷ true ∷ false ∷ false ∷ []
differing = refl

-- a rule set, and what is none by its input, its next text or two rules alone
rule_sets : map is_rule_set
    ([] ∷ rules ∷ (rule (codes "A") (codes "あ") ∷ rules)
    ∷ (record { input = codes "q"; next = codes "x"; out = nothing } ∷ rules)
    ∷ (rule (codes "n") (codes "ん") ∷ rules) ∷ [])
    ≡ true ∷ true ∷ false ∷ false ∷ false ∷ []
rule_sets = refl

-- texts that begin an input, that are one, and that are neither
beginnings : map (begins_input rules) ([] ∷ codes "n" ∷ codes "k" ∷ codes "na" ∷ codes "x" ∷ codes "nak" ∷ [])
    ≡ true ∷ true ∷ true ∷ false ∷ false ∷ false ∷ []
beginnings = refl

going_on : map (goes_on rules) (codes "n" ∷ codes "k" ∷ codes "na" ∷ codes "kk" ∷ codes "x" ∷ codes "nk" ∷ [])
    ≡ true ∷ true ∷ true ∷ true ∷ false ∷ false ∷ []
going_on = refl

-- what comes out of what is pending
flushes : map (flushed rules) ([] ∷ codes "n" ∷ codes "k" ∷ [])
    ≡ nothing ∷ record { hira = codes "ん"; kata = codes "ン" } ∷ nothing ∷ []
flushes = refl

-- a step as what is pending, and the two kana
abbrev shown : Step → List ℕ × List ℕ × List ℕ
shown step = (step.pending, step.out.hira, step.out.kata)

-- characters with nothing pending: one that begins an input, and one that comes out as itself
alone : map (λ c. shown (fed rules [] c)) (codes "nq") ≡ (codes "n", [], []) ∷ ([], codes "q", codes "q") ∷ []
alone = refl

-- characters after n: an input, one that begins another input, and one that comes out as itself
after_n : map (λ c. shown (fed rules (codes "n") c)) (codes "akq")
    ≡ ([], codes "な", codes "ナ") ∷ (codes "k", codes "ん", codes "ン") ∷ ([], codes "んq", codes "ンq") ∷ []
after_n = refl

-- characters after k: an input, the doubled letter, and ones before which k is lost
after_k : map (λ c. shown (fed rules (codes "k") c)) (codes "aknq")
    ≡ ([], codes "か", codes "カ") ∷ (codes "k", codes "っ", codes "ッ") ∷ (codes "n", [], [])
    ∷ ([], codes "q", codes "q") ∷ []
after_k = refl

-- of two rules with one input the first counts
first_rule : shown (fed (rule (codes "na") (codes "に") ∷ rules) (codes "n") 0x61) ≡ ([], codes "に", codes "ニ")
first_rule = refl

-- the rules of a line of each kind
row_k : row "k" "か" "き" "く" "け" "こ" ≡ rule (codes "ka") (codes "か") ∷ rule (codes "ki") (codes "き")
    ∷ rule (codes "ku") (codes "く") ∷ rule (codes "ke") (codes "け") ∷ rule (codes "ko") (codes "こ") ∷ []
row_k = refl

row_ky : contracted "ky" "き" ≡ rule (codes "kya") (codes "きゃ") ∷ rule (codes "kyi") (codes "きぃ")
    ∷ rule (codes "kyu") (codes "きゅ") ∷ rule (codes "kye") (codes "きぇ") ∷ rule (codes "kyo") (codes "きょ") ∷ []
row_ky = refl

single_n : single "n" "ん" ++ doubled 0x6B ∷ []
    ≡ record { input = codes "n"; next = []; out = record { hira = codes "ん"; kata = codes "ン" } }
    ∷ record { input = codes "kk"; next = codes "k"; out = record { hira = codes "っ"; kata = codes "ッ" } } ∷ []
single_n = refl

-- the trie of n, nn, na, ka and kya: the children of each node, and the places of these inputs
abbrev children : List (List Child)
children =
    (child 0x6E 1 ∷ child 0x6B 4 ∷ [])
    ∷ (child 0x6E 2 ∷ child 0x61 3 ∷ []) ∷ [] ∷ []
    ∷ (child 0x61 5 ∷ child 0x79 6 ∷ []) ∷ []
    ∷ (child 0x61 7 ∷ []) ∷ [] ∷ []

abbrev places : List (Option ℕ)
places = None ∷ Some 0 ∷ Some 1 ∷ Some 2 ∷ None ∷ Some 3 ∷ None ∷ Some 4 ∷ []

-- texts that are inputs, that begin one, and that are neither
abbrev walked : List (List ℕ)
walked = [] ∷ codes "n" ∷ codes "nn" ∷ codes "na" ∷ codes "k" ∷ codes "ka" ∷ codes "ky" ∷ codes "kya" ∷ codes "x"
    ∷ codes "nk" ∷ codes "kyo" ∷ codes "nna" ∷ codes "a" ∷ []

nodes : map (node_of children) walked
    ≡ Some 0 ∷ Some 1 ∷ Some 2 ∷ Some 3 ∷ Some 4 ∷ Some 5 ∷ Some 6 ∷ Some 7 ∷ None ∷ None ∷ None ∷ None ∷ None ∷ []
nodes = refl

-- n is an input and goes on, ky goes on alone
going_on_at : map (λ text. goes_on_at children (node_of children text)) walked
    ≡ true ∷ true ∷ false ∷ false ∷ true ∷ false ∷ true ∷ false ∷ false ∷ false ∷ false ∷ false ∷ false ∷ []
going_on_at = refl

noted : map (λ text. place_at places (node_of children text)) walked
    ≡ None ∷ Some 0 ∷ Some 1 ∷ Some 2 ∷ None ∷ Some 3 ∷ None ∷ Some 4 ∷ None ∷ None ∷ None ∷ None ∷ None ∷ []
noted = refl

-- a trie of no rules
no_rules : map (node_of ([] ∷ [])) ([] ∷ codes "n" ∷ []) ≡ Some 0 ∷ None ∷ []
no_rules = refl

not_going_on : goes_on_at ([] ∷ []) (Some 0) ≡ false
not_going_on = refl

-- one node more in it, and then another
first_node : with_child ([] ∷ []) 0 0x6E ≡ (child 0x6E 1 ∷ []) ∷ [] ∷ []
first_node = refl

second_node : with_child ((child 0x6E 1 ∷ []) ∷ [] ∷ []) 1 0x61 ≡ (child 0x6E 1 ∷ []) ∷ (child 0x61 2 ∷ []) ∷ [] ∷ []
second_node = refl

-- what goes past a text: not the text itself, and nothing that it does not begin
going_past : map (λ text. goes_past text (codes "nya")) ([] ∷ codes "n" ∷ codes "ny" ∷ codes "nya" ∷ codes "na" ∷ [])
    ≡ true ∷ true ∷ true ∷ false ∷ false ∷ []
going_past = refl
