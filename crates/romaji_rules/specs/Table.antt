-- What the lines of the tables in the code stand for.
use Rattle.std.specs.Prelude.{ℕ, List, [], map, codes}
use Rattle.std.specs.Borrow.{Bor}
use Rattle.std.specs.Str.{chars}
use Rattle.romaji_rules.specs.declared.rule.Rule.{Rule}
use Rattle.romaji_rules.specs.Standard.{rule, row_rules}

-- the characters of each of the strings
abbrev pub texts : List (Bor (List ℕ)) → List (List ℕ)
texts strings = map (λ text. chars text.now) strings

-- the rules of a line that has what stands before the vowels, and the outputs
abbrev pub row_of : Bor (List ℕ) × List (Bor (List ℕ)) → List Rule
row_of line = row_rules line.0.now [] (codes "aiueo") (texts line.1)

-- the rules of a line that has what stands before the vowels, and the kana before the small ones
abbrev pub contracted_of : List (Bor (List ℕ)) → Bor (List ℕ) × Bor (List ℕ) → List Rule
contracted_of small line = row_rules line.0.now (chars line.1.now) (codes "aiueo") (texts small)

-- the rule of a line that has an input and its kana
abbrev pub single_of : Bor (List ℕ) × Bor (List ℕ) → Rule
single_of line = rule line.0.now (chars line.1.now)
