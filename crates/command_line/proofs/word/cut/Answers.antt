use Rattle.std.proofs.Common.{◌≡◌, ◌≢◌, ◌<◌, ◌++◌, ◌∷◌, ℕ, List, Option, None, Some, length, get_or, MatchOption, arith}
use Rattle.std.specs.Borrow.{Bor}
use Rattle.std.specs.Str.{chars, IsUtf8}
use Rattle.std.proofs.lemmas.Str.Pattern.{split_parts}
use Rattle.command_line.specs.Words.{cut}
use Rattle.command_line.proofs.WordTexts.{text-cut, text-uncut}
use Rattle.command_line.proofs.word.cut.Goals as goal

-- the two parts, as characters
parts-cut : (at : ℕ) (bs : List ℕ) (parts : Option (Bor (List ℕ) × Bor (List ℕ))) → at < 128 → IsUtf8 bs
    → MatchOption parts ((i : ℕ) → i < length bs → get_or bs i 0 ≢ at)
    (λ p. (bs ≡ p.0.now ++ at ∷ p.1.now) × ((i : ℕ) → i < length p.0.now → get_or p.0.now i 0 ≢ at))
    → MatchOption parts (cut at (chars bs) ≡ None) (λ p. cut at (chars bs) ≡ Some (chars p.0.now, chars p.1.now))
parts-cut at bs None small utf8 none = text-uncut at small bs utf8 none
parts-cut at bs (Some p) small utf8 known = text-cut at small bs p.0.now p.1.now utf8 known.0 known.1

pub returns : goal.returns
returns c =
    parts-cut c.args.at c.args.text.now c.split_once.result c.requires c.utf8.text
    (split_parts c.args.at c.args.text.now c.split_once.result c.split_once.ensures.cases (omega (arith, c.requires)))
