-- What is read of a file and of its lines: no mark at the beginning, and no spaces and TABs at the ends.
use Rattle.std.specs.Prelude.{ℕ, ◌==◌, ◌||◌, nat_eq, Bool, if◌then◌else◌, List, [], ◌∷◌, length, drop}
use Rattle.std.specs.List.{list_all, starts_with}
use Rattle.exact_readers.specs.Lines.{without_return}

-- the bytes of the mark U+FEFF
abbrev pub byte_order_mark : List ℕ
byte_order_mark = 0xEF ∷ 0xBB ∷ 0xBF ∷ []

-- the bytes of a file without the mark with which they may begin
abbrev pub without_mark : List ℕ → List ℕ
without_mark bytes = if starts_with nat_eq bytes byte_order_mark then drop (length byte_order_mark) bytes else bytes

-- a space or a TAB
abbrev pub is_blank : ℕ → Bool
is_blank c = c == 0x20 || c == 9

-- a line without the spaces and TABs with which it ends
abbrev pub without_blanks : List ℕ → List ℕ
without_blanks [] = []
without_blanks (c ∷ line) = if list_all is_blank (c ∷ line) then [] else c ∷ without_blanks line

-- what is read of a line: not the CR at its end, nor the spaces and TABs before that
abbrev pub trimmed_line : List ℕ → List ℕ
trimmed_line line = without_blanks (without_return line)
