-- The lines of a typist's connection, and what each of them says.
use Rattle.std.specs.Prelude.{◌≡◌, ◌⊎◌, ⊤, ℕ, Bool, nat_lt, List, [], ◌∷◌, ◌++◌, length}
use Rattle.std.specs.Fmt.{decimal}
use Rattle.skk_text.specs.Characters.{code}
use Rattle.skk_text.specs.KeyText.{spelled, AreKeys, HasBadName, HasNotAscii}
use Rattle.skk_text.specs.declared.key.Key.{Key}
use Rattle.exact_readers.specs.Formats.{Format, taken}
use Rattle.exact_readers.specs.Lines.{is_line_feed}
use Rattle.cut_input.specs.Pieces.{ended_piece, begun_piece, IsBegun}
use Rattle.key_scripts.specs.Script.{IsTypist}

-- the most bytes of a line, without its LF
abbrev pub longest_line : ℕ
longest_line = 4096

-- a line that is not too long, and its LF
abbrev pub ended_line : Format ℕ (List ℕ)
ended_line = ended_piece is_line_feed longest_line

-- the lines of bytes, each without its LF, and what stands behind the last of them
abbrev pub lines_in : List ℕ → List (List ℕ) × List ℕ
lines_in bytes = taken ended_line.step bytes

-- a line that has not ended has too many bytes
abbrev pub is_too_long : List ℕ → Bool
is_too_long rest = nat_lt longest_line (length (begun_piece is_line_feed rest))

-- bytes may be those of a line that has not ended
abbrev pub IsOpen : List ℕ → Type 0
IsOpen text = IsBegun is_line_feed longest_line text

-- who types, and in which book is learnt
pub record Opening : Type 0 where
  pub typist : ℕ
  pub book : ℕ

-- a text opens a connection: it is `T`, the typist, a space and the book, which is the shared one or the typist's
abbrev pub Opens : List ℕ → Opening → Type 0
Opens text opening =
    IsTypist opening.typist × ((opening.book ≡ 0) ⊎ (opening.book ≡ opening.typist))
    × (text ≡ code "T" ∷ decimal opening.typist ++ code " " ∷ decimal opening.book)

-- what a further line says: keys, or that it is no key text by the byte of this place
pub data KeyLine : Type 0 where
  keys : List Key → KeyLine
  bad : ℕ → KeyLine

-- a text says keys where it spells them, and else its first fault
abbrev pub SaysKeys : List ℕ → KeyLine → Type 0
SaysKeys text (keys ks) = AreKeys ks × (spelled ks ≡ text)
SaysKeys text (bad at) = HasBadName text at ⊎ HasNotAscii text at

-- texts say lines, each its own
abbrev pub AllSay : List (List ℕ) → List KeyLine → Type 0
AllSay [] [] = ⊤
AllSay (text ∷ texts) (line ∷ lines) = SaysKeys text line × AllSay texts lines
AllSay [] (line ∷ lines) = ⊥
AllSay (text ∷ texts) [] = ⊥
