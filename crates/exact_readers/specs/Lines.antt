-- Lines that end in LF, or in CR LF.
use Rattle.std.specs.Prelude.{ℕ, ◌≡◌, ◌⊎◌, ◌==◌, ◌<◌, Bool, if◌then◌else◌, List, [], ◌∷◌, ◌++◌, length}
use Rattle.skk_text.specs.Lines.{line_feed, lines_of}

-- a character ends a line
abbrev pub is_line_feed : ℕ → Bool
is_line_feed c = c == line_feed

-- a line stands at the front of a text, and behind its LF what follows it, or nothing
abbrev pub IsCutOff : List ℕ → List ℕ → List ℕ → Type 0
IsCutOff text line behind = (text ≡ line ++ line_feed ∷ behind) ⊎ ((text ≡ line) × (behind ≡ []))

-- the first line of a text, and what follows it
abbrev pub IsFirstLine : List ℕ → List ℕ → List ℕ → Type 0
IsFirstLine text line behind =
    (lines_of text ≡ line ∷ lines_of behind) × (length behind < length text) × IsCutOff text line behind

-- a piece stands in a text behind so many of its characters or bytes
abbrev pub StandsAt : List ℕ → ℕ → List ℕ → Type 0
StandsAt text start piece =
    (front behind : List ℕ) × (text ≡ front ++ (piece ++ behind)) × (length front ≡ start)

-- a line without the CR with which it may end
abbrev pub without_return : List ℕ → List ℕ
without_return [] = []
without_return (c ∷ []) = if c == 13 then [] else c ∷ []
without_return (c ∷ d ∷ line) = c ∷ without_return (d ∷ line)

-- a line with its end
abbrev pub with_line_end : List ℕ → List ℕ
with_line_end line = line ++ line_feed ∷ []
