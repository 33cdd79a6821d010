-- Texts cut into lines.
use Rattle.std.specs.Prelude.{ℕ, ◌==◌, if◌then◌else◌, List, [], ◌∷◌}

-- the character LF, which ends a line
abbrev pub line_feed : ℕ
line_feed = 10

-- the lines with a character before the first of them, which is a line of its own where there is none
abbrev pub with_first : ℕ → List (List ℕ) → List (List ℕ)
with_first c [] = (c ∷ []) ∷ []
with_first c (line ∷ lines) = (c ∷ line) ∷ lines

-- the lines of characters or bytes, each ended by LF, which the last one may lack
abbrev pub lines_of : List ℕ → List (List ℕ)
lines_of [] = []
lines_of (c ∷ text) = if c == line_feed then [] ∷ lines_of text else with_first c (lines_of text)
