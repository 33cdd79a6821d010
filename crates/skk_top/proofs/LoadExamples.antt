-- The summary of a load, at small examples, each worked out by hand.
use Rattle.std.proofs.Common.{◌≡◌, ℕ, List, [], ◌∷◌, ◌++◌, codes, map, refl, true, false}
use Rattle.std.specs.Fmt.{digits}
use Rattle.skk_calls.specs.Tallies.{Tally}
use Rattle.command_line.specs.declared.command.LoadOptions.{LoadOptions}
use Rattle.romaji_rules.specs.declared.rule.Rule.{Rule}
use Rattle.romaji_rules.specs.Standard.{standard}
use Rattle.romaji_rules.specs.Typed.{fed}
use Rattle.session_machine.specs.Session.{Session, new_session}
use Rattle.load_input.specs.Dictionary.{kana}
use Rattle.load_input.specs.Lines.{lines_drawn, syllables}
use Rattle.skk_top.specs.LoadCommand.{load_lines, number_line, summary, summed, text_bytes}

-- each number has its word, and a line of its own
five : summary 6 4 1 3 33
    ≡ codes "lines 6" ++ 10 ∷ codes "learned 4" ++ 10 ∷ codes "restored 1" ++ 10 ∷ codes "rows 3" ++ 10
    ∷ codes "bytes 33" ++ 10 ∷ []
unfolding digits
five = refl

one : number_line (codes "rows ") 2010 ≡ 114 ∷ 111 ∷ 119 ∷ 115 ∷ 32 ∷ 50 ∷ 48 ∷ 49 ∷ 48 ∷ 10 ∷ []
unfolding digits
one = refl

-- a session with a text
abbrev with_text : List ℕ → Session
with_text text = record (new_session 1 1) { frame = record (new_session 1 1).frame { text = text } }

-- the bytes of all texts, of which a kana has three
bytes : (text_bytes [] ≡ 0) × (text_bytes ((1, with_text (codes "か")) ∷ (2, with_text (codes "ab")) ∷ []) ≡ 5)
unfolding lib.Utf8.encode
bytes = (refl, refl)

-- the lines of all sessions, and what the calls came to
abbrev tally : Tally
tally = record { learned = 7; restored = 2; rows = 5; memory = false; disk = true; full = false }

abbrev options : LoadOptions
options = record { seed = 9; sessions = 3; lines = 4 }

all_summed : summed options tally ((1, with_text (codes "か")) ∷ [])
    ≡ codes "lines 12" ++ 10 ∷ codes "learned 7" ++ 10 ∷ codes "restored 2" ++ 10 ∷ codes "rows 5" ++ 10
    ∷ codes "bytes 3" ++ 10 ∷ []
unfolding digits lib.Utf8.encode
all_summed = refl

-- the lines are those of the seed, of each session so many
drawn : load_lines options ≡ lines_drawn 9 3 4
drawn = refl

-- what letters come to in hiragana behind those that are pending, and what is pending behind them
abbrev typed : List Rule → List ℕ → List ℕ → List ℕ
typed rules pending [] = pending
typed rules pending (letter ∷ letters) =
    let step = fed rules pending letter in
    step.out.hira ++ typed rules step.pending letters

-- the letters of each syllable are typed as its kana
syllables_typed : (map (typed standard []) syllables ≡ map (λ c. c ∷ []) kana)
    × (kana ≡ codes "かきくけこさしすせそたちつてとな")
syllables_typed = (refl, refl)
