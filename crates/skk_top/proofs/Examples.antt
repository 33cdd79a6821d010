-- The definitions at small examples, each worked out by hand.
use Rattle.std.proofs.Common.{◌≡◌, ℕ, None, Some, List, [], ◌∷◌, ◌++◌, refl, map}
use Rattle.std.proofs.Common.{codes}
use Rattle.std.proofs.Common.{encode_utf8_all}
use lib.Utf8.{encode}
use Prim.Native.String.{String}
use Rattle.std.specs.Fmt.{digits}
use Rattle.skk_text.specs.declared.text_file.TextFault.TheVariants as texts
use Rattle.skk_text.specs.declared.key.Key.{Key}
use Rattle.skk_text.specs.declared.key.Key.TheVariants.{Char, Ret, Undo}
use Rattle.romaji_rules.specs.declared.rule.Rule.{Rule}
use Rattle.romaji_rules.specs.declared.rule_fault.RuleFault.TheVariants as rules
use Rattle.romaji_rules.specs.Standard.{rule}
use Rattle.skk_calls.specs.declared.answer.Answer.{Answer}
use Rattle.skk_calls.specs.declared.answer.Answer.TheVariants as answers
use Rattle.skk_calls.specs.declared.answer.Refusal.TheVariants as refusals
use Rattle.skk_calls.specs.declared.answer.Reply.TheVariants.{Found, Learned}
use Rattle.skk_calls.specs.declared.call.Call.{Call}
use Rattle.skk_calls.specs.declared.call.Call.TheVariants.{Lookup, Learn}
use Rattle.skk_calls.specs.declared.part.Part.TheVariants.{Nasi}
use Rattle.skk_calls.specs.Openings.{fresh_opening}
use Rattle.skk_calls.specs.Interactions.{printed, asked, end_of, printed_alone}
use Rattle.skk_calls.specs.Rows.{RowKey, Cand, Row}
use Rattle.skk_calls.specs.States.{empty_state}
use Rattle.session_machine.specs.Session.{Session, new_session}
use Rattle.script_typing.specs.Printing.{output_line, closing_line}
use Rattle.script_typing.specs.Sessions.{session_at, session_or_new, with_session}
use Rattle.skk_top.specs.RunRules.{fault_of_rules}
use Rattle.script_typing.specs.Typed.{typing, typed_alone}
use Rattle.run_endings.specs.declared.fault.RunFault.TheVariants.{Refused}
use Rattle.run_endings.specs.declared.fault.RunFault.TheVariants.{Memory}
use Rattle.run_endings.specs.declared.run_file.Flaw.TheVariants.{TooLong, Byte, Line}
use Rattle.run_endings.specs.declared.run_file.RunFile.TheVariants.{Rules}
use Rattle.key_scripts.specs.declared.line.Line as lines
use Rattle.key_scripts.specs.declared.line.Line.TheVariants.{Keys, Opening}

-- a few rules
abbrev table : List Rule
table = rule (codes "a") (codes "あ") ∷ rule (codes "ka") (codes "か") ∷ []

-- the keys of a text
abbrev letters : String → List Key
letters text = map Char (codes text)

-- a line of four fields
abbrev fields : String → String → String → String → List ℕ
fields number mode shown notice = codes number ++ 9 ∷ codes mode ++ 9 ∷ codes shown ++ 9 ∷ codes notice ++ 10 ∷ []

-- a session with a text
abbrev with_text : String → Session
with_text text = let session = new_session 1 1 in record session { frame = record session.frame { text = codes text } }

-- an output line and a closing line
lines_printed : (output_line 12 (with_text "あ") ≡ fields "12" "かな" "あ" "")
    × (closing_line 64 (with_text "あ") ≡ codes "64=あ" ++ 10 ∷ [])
unfolding digits
lines_printed = (refl, refl)

-- sessions as they come, also one that is only opened, and closing lines ascending by number
three_sessions : printed (typing table [] (Keys 3 (letters "a") ∷ Keys 1 (letters "kak") ∷ Opening 2 7 0
    ∷ Keys 3 (Undo ∷ []) ∷ Keys 3 [] ∷ Keys 1 (letters "al") ∷ [])) []
    ≡ fields "3" "かな" "あ" "" ++ fields "1" "かな" "かk" "" ++ fields "3" "かな" "あ" "no-undo"
    ++ fields "3" "かな" "あ" "no-undo" ++ fields "1" "SKK" "かか" ""
    ++ codes "1=かか" ++ 10 ∷ codes "2=" ++ 10 ∷ codes "3=あ" ++ 10 ∷ []
unfolding encode digits
three_sessions = refl

-- of no lines nothing is printed, and lines that ask nothing end by no answer alone
without_lines : printed (typing table [] []) [] ≡ []
without_lines = refl

without_calls : map (λ (run : List lines.Line × List Answer). end_of (typing table [] run.0) run.1)
    (([], []) ∷ (Opening 1 1 0 ∷ Keys 2 (letters "aq") ∷ [], []) ∷ ([], answers.Done (Found []) ∷ []) ∷ [])
    ≡ Some tt ∷ Some tt ∷ None ∷ []
unfolding encode
without_calls = refl

-- a key
abbrev key : RowKey
key = record { part = Nasi; reading = codes "か" }

-- a script in which a conversion finds nothing: a word is typed over its lines, among those of another session, and a
-- return ends it
abbrev registering : List lines.Line
registering = Keys 1 (letters "aKa ") ∷ Keys 2 (letters "a") ∷ Keys 1 (letters "ka") ∷ Keys 1 (Ret ∷ []) ∷ []

abbrev nothing_found : Answer
nothing_found = answers.Done (Found [])

abbrev learned : Answer
learned = answers.Done (Learned (record { book = 1; key = key; stamp = 1; before = None }))

-- what is printed before the word is learnt, and the rest, by how that is answered
abbrev word_typed : List ℕ
word_typed =
    fields "1" "かな" "[辞書登録] か: " "" ++ fields "2" "かな" "あ" "" ++ fields "1" "かな" "[辞書登録] か: か" ""

abbrev word_ended : String → List ℕ
word_ended notice = fields "1" "かな" "あか" notice ++ codes "1=あか" ++ 10 ∷ codes "2=あ" ++ 10 ∷ []

registered : map (λ told_answers. printed (typing table [] registering) told_answers)
    ([] ∷ (nothing_found ∷ []) ∷ (nothing_found ∷ learned ∷ [])
    ∷ (nothing_found ∷ answers.Refused refusals.Memory ∷ []) ∷ [])
    ≡ [] ∷ word_typed ∷ (word_typed ++ word_ended "") ∷ (word_typed ++ word_ended "refused memory") ∷ []
unfolding encode digits
registered = refl

-- the look-up, and then the word, are all that it asks
registered_by : (asked (typing table [] registering) (nothing_found ∷ learned ∷ [])
    ≡ Lookup 1 key None ∷ Learn 1 key None (record { word = codes "か"; note = [] }) ∷ [])
    × (map (λ told_answers. end_of (typing table [] registering) told_answers)
    ([] ∷ (nothing_found ∷ []) ∷ (nothing_found ∷ learned ∷ []) ∷ (nothing_found ∷ learned ∷ learned ∷ []) ∷ [])
    ≡ None ∷ None ∷ Some tt ∷ None ∷ [])
unfolding encode
registered_by = (refl, refl)

-- a script that ends in a registration has its outer text at its end
left_open : printed (typing table [] (Keys 1 (letters "aKa ") ∷ Keys 1 (letters "a") ∷ [])) (nothing_found ∷ [])
    ≡ fields "1" "かな" "[辞書登録] か: " "" ++ fields "1" "かな" "[辞書登録] か: あ" "" ++ codes "1=あ" ++ 10 ∷ []
unfolding encode digits
left_open = refl

-- where the dictionary of one thread answers, a word is found once it was typed
found_again : printed_alone [] empty_state
    (typing table [] (Keys 1 (letters "Ka ") ∷ Keys 1 (letters "a" ++ Ret ∷ letters "Ka ") ∷ []))
    ≡ fields "1" "かな" "[辞書登録] か: " "" ++ fields "1" "かな" "あ▼あ" "" ++ codes "1=あ" ++ 10 ∷ []
unfolding encode digits
found_again = refl

-- two candidates of the key, in one system file
abbrev cands : List Cand
cands = record { word = codes "蚊"; note = [] } ∷ record { word = codes "可"; note = codes "能" } ∷ []

abbrev files : List (List Row)
files = (record { key = key; cands = cands; blocks = []; hides = []; stamp = 0 } ∷ []) ∷ []

-- a script that converts them, and goes on to the second
abbrev script : List lines.Line
script = Keys 1 (letters "Ka ") ∷ Keys 1 (letters " ") ∷ []

abbrev shown_both : List ℕ
shown_both = fields "1" "かな" "▼蚊" "" ++ fields "1" "かな" "▼可" ";能" ++ codes "1=" ++ 10 ∷ []

converted_alone : printed_alone files empty_state (typing table [] script) ≡ shown_both
unfolding encode digits
converted_alone = refl

-- the call that it asks, and what is printed by its answer; where it is refused the reading stays,
-- and is looked up again
abbrev call : Call
call = Lookup 1 key None

abbrev found : Answer
found = answers.Done (Found cands)

abbrev refused : Answer
refused = answers.Refused refusals.Memory

converted : map (λ told_answers. printed (typing table [] script) told_answers)
    ([] ∷ (found ∷ []) ∷ (refused ∷ []) ∷ (refused ∷ found ∷ []) ∷ [])
    ≡ [] ∷ shown_both ∷ fields "1" "かな" "▽か" "refused memory"
    ∷ (fields "1" "かな" "▽か" "refused memory" ++ fields "1" "かな" "▼蚊" "" ++ codes "1=" ++ 10 ∷ []) ∷ []
unfolding encode digits
converted = refl

called : map (λ told_answers. asked (typing table [] script) told_answers)
    ([] ∷ (found ∷ []) ∷ (refused ∷ found ∷ []) ∷ []) ≡ [] ∷ (call ∷ []) ∷ (call ∷ call ∷ []) ∷ []
unfolding encode
called = refl

came_to_its_end : map (λ told_answers. end_of (typing table [] script) told_answers)
    ([] ∷ (found ∷ []) ∷ (refused ∷ []) ∷ (refused ∷ found ∷ []) ∷ (found ∷ found ∷ []) ∷ [])
    ≡ None ∷ Some tt ∷ None ∷ Some tt ∷ None ∷ []
unfolding encode
came_to_its_end = refl

-- the same in bytes, where the dictionary of one thread answers
in_bytes : (typed_alone (fresh_opening []) table [] ≡ [])
    × (typed_alone (fresh_opening []) table (Keys 1 (letters "a") ∷ [])
    ≡ 0x31 ∷ 9 ∷ 0xE3 ∷ 0x81 ∷ 0x8B ∷ 0xE3 ∷ 0x81 ∷ 0xAA ∷ 9 ∷ 0xE3 ∷ 0x81 ∷ 0x82 ∷ 9 ∷ 10
    ∷ 0x31 ∷ 0x3D ∷ 0xE3 ∷ 0x81 ∷ 0x82 ∷ 10 ∷ [])
unfolding encode digits
in_bytes = (refl, refl)

-- over its files, and from its state
over_files : typed_alone (fresh_opening files) table script ≡ encode_utf8_all shown_both
unfolding encode digits
over_files = refl

-- a map by number: the first, one between, the last, and one anew
some_sessions : with_session
    (with_session (with_session (with_session [] 5 (with_text "a")) 2 (with_text "b")) 9 (with_text "c"))
    5 (with_text "d")
    ≡ (2, with_text "b") ∷ (5, with_text "d") ∷ (9, with_text "c") ∷ []
some_sessions = refl

sessions_found : map (session_at ((2, with_text "b") ∷ (5, with_text "d") ∷ [])) (1 ∷ 2 ∷ 3 ∷ 5 ∷ 6 ∷ [])
    ≡ None ∷ Some (with_text "b") ∷ None ∷ Some (with_text "d") ∷ None ∷ []
sessions_found = refl

sessions_or_new : map (session_or_new ((2, with_text "b") ∷ [])) (1 ∷ 2 ∷ []) ≡ new_session 1 1 ∷ with_text "b" ∷ []
sessions_or_new = refl

-- what a fault of a rule file is for the run
faults_of_rules : map fault_of_rules (rules.NoText (texts.TooLong 9) ∷ rules.NoText (texts.NotUtf8 7) ∷ rules.BadLine 3
    ∷ rules.Twice 4 ∷ rules.BadNext 5 ∷ rules.Memory ∷ [])
    ≡ Refused Rules TooLong ∷ Refused Rules (Byte 7) ∷ Refused Rules (Line 3) ∷ Refused Rules (Line 4)
    ∷ Refused Rules (Line 5) ∷ Memory ∷ []
faults_of_rules = refl
