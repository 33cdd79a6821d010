-- The characters that the definitions speak of, by their codes.
use Rattle.std.specs.Prelude.{ℕ, codes, List, [], ◌∷◌}
use Prim.Native.String.{String}

-- the code of the first character of a text
abbrev pub first_code : List ℕ → ℕ
first_code [] = 0
first_code (c ∷ cs) = c

-- the code of a character, written as the text of it alone
abbrev pub code : String → ℕ
code text = first_code (codes text)

-- the character that is part of no line
abbrev pub carriage_return : ℕ
carriage_return = 13

-- what stands between the fields of an output line
abbrev pub tab : ℕ
tab = 9

-- what begins an escape
abbrev pub backslash : ℕ
backslash = 92
