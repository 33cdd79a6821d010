-- The lines that are drawn.
use Rattle.std.specs.Prelude.{ℕ, ◌+◌, zero, suc, ◌==◌, if◌then◌else◌, List, [], ◌∷◌, ◌++◌, codes, map, slice_index_or}
use Rattle.std.specs.Char.{to_ascii_uppercase}
use Rattle.skk_text.specs.declared.key.Key.{Key}
use Rattle.skk_text.specs.declared.key.Key.TheVariants.{Char, Cj, Cg, Undo}
use Rattle.key_scripts.specs.declared.line.Line.{Line}
use Rattle.key_scripts.specs.declared.line.Line.TheVariants.{Keys}
use Rattle.load_input.specs.Draws.{next_state, drawn}
use Rattle.load_input.specs.declared.kind.Kind.{Kind}
use Rattle.load_input.specs.declared.kind.Kind.TheVariants.{Typed, First, Second, TakenBack}

-- the letters of the syllables
abbrev pub syllables : List (List ℕ)
syllables =
    codes "ka" ∷ codes "ki" ∷ codes "ku" ∷ codes "ke" ∷ codes "ko" ∷ codes "sa" ∷ codes "shi" ∷ codes "su"
    ∷ codes "se" ∷ codes "so" ∷ codes "ta" ∷ codes "chi" ∷ codes "tsu" ∷ codes "te" ∷ codes "to" ∷ codes "na" ∷ []

-- the letters of the syllable of a number, counted from 0
abbrev pub syllable : ℕ → List ℕ
syllable number = slice_index_or syllables number []

-- the kinds of lines, by their numbers
abbrev pub kind_of : ℕ → Kind
kind_of number =
    if number == 0 then Typed else if number == 1 then First else if number == 2 then Second else TakenBack

-- letters with the first of them in upper case
abbrev pub capital : List ℕ → List ℕ
capital [] = []
capital (letter ∷ letters) = to_ascii_uppercase letter ∷ letters

-- letters as they stand at the head of a line: where they are converted, the first of them is in upper case
abbrev pub begun : Kind → List ℕ → List ℕ
begun Typed letters = letters
begun First letters = capital letters
begun Second letters = capital letters
begun TakenBack letters = capital letters

-- letters as keys
abbrev pub typed : List ℕ → List Key
typed letters = map Char letters

-- the space key
abbrev pub space : Key
space = Char 32

-- the keys behind the word of a line: its first candidate is taken, or its second one, or the first is taken and taken
-- back, and then the conversion and the reading are given up
abbrev pub keys_behind : Kind → List Key
keys_behind Typed = []
keys_behind First = space ∷ Cj ∷ []
keys_behind Second = space ∷ space ∷ Cj ∷ []
keys_behind TakenBack = space ∷ Cj ∷ Undo ∷ Cg ∷ Cg ∷ []

-- the keys of a line of a kind, with the word of two syllables
abbrev pub keys_of : Kind → ℕ → ℕ → List Key
keys_of kind first second = typed (begun kind (syllable first)) ++ typed (syllable second) ++ keys_behind kind

-- the state behind the three draws of a line
abbrev pub behind_line : ℕ → ℕ
behind_line state = next_state (next_state (next_state state))

-- the line of a session that is drawn behind a state: the first syllable, the second, and the kind
abbrev pub line_drawn : ℕ → ℕ → Line
line_drawn state session =
    let first = next_state state in
    let second = next_state first in
    Keys session (keys_of (kind_of (drawn (next_state second) 4)) (drawn first 16) (drawn second 16))

-- a line of each of so many sessions, from a session on, drawn one after another behind a state
abbrev pub round : ℕ → ℕ → ℕ → List Line
round state session zero = []
round state session (suc count) = line_drawn state session ∷ round (behind_line state) (session + 1) count

-- the state behind the lines of so many sessions
abbrev pub behind_round : ℕ → ℕ → ℕ
behind_round state zero = state
behind_round state (suc count) = behind_round (behind_line state) count

-- so many lines of each session, in turn
abbrev pub lines_drawn : ℕ → ℕ → ℕ → List Line
lines_drawn state sessions zero = []
lines_drawn state sessions (suc lines) =
    round state 1 sessions ++ lines_drawn (behind_round state sessions) sessions lines
