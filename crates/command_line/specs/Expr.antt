-- The words of `expr`: files, with a sign before each but the first.
use Rattle.std.specs.Prelude.{⊤, ◌<◌, ℕ, Bool, ◌&&◌, not, nat_le, if◌then◌else◌, Option, None, Some, List, [], ◌∷◌}
use Rattle.std.specs.Prelude.{◌++◌, codes, length}
use Rattle.std.specs.Option.{option_map, option_and_then}
use Rattle.std.specs.Str.{bytes_eq}
use Rattle.command_line.specs.Words.{is_name}
use Rattle.command_line.specs.declared.expr_words.ExprOptions.{ExprOptions}
use Rattle.command_line.specs.declared.expr_words.Sign.{Sign}
use Rattle.command_line.specs.declared.expr_words.Sign.TheVariants.{Plus, Minus}
use Rattle.command_line.specs.declared.expr_words.Term.{Term}

-- a word names a file there: it may be a file's name, and is no sign
abbrev pub names_file : List ℕ → Bool
names_file word = is_name word && not (bytes_eq word (codes "+"))

-- the sign that a word is
abbrev pub sign_of : List ℕ → Option Sign
sign_of word =
    if bytes_eq word (codes "+") then Some Plus else if bytes_eq word (codes "-") then Some Minus else None

-- a file with its sign, where it is named
abbrev pub signed : List ℕ → Sign → Option Term
signed word sign = if names_file word then Some (record { sign = sign; name = word }) else None

-- the file that two words are, the first its sign
abbrev pub term_of : List ℕ → List ℕ → Option Term
term_of sign word = option_and_then (signed word) (sign_of sign)

-- a file before others, where all are
abbrev pub with_term : Option Term → Option (List Term) → Option (List Term)
with_term None others = None
with_term (Some term) others = option_map (λ terms. term ∷ terms) others

-- the files that words are, each behind its sign
abbrev pub terms_of : List (List ℕ) → Option (List Term)
terms_of [] = Some []
terms_of (sign ∷ []) = None
terms_of (sign ∷ word ∷ words) = with_term (term_of sign word) (terms_of words)

-- a file and those behind it, of which there are 15 at most
abbrev pub expr_with : List ℕ → List Term → Option ExprOptions
expr_with first terms =
    if nat_le (length terms) 15 then Some (record { first = first; terms = record { items = terms } }) else None

-- the files that the words behind `expr` are
abbrev pub expr_of : List (List ℕ) → Option ExprOptions
expr_of [] = None
expr_of (first ∷ words) = if names_file first then option_and_then (expr_with first) (terms_of words) else None

-- files, and others behind them, where there are any
abbrev pub behind : List Term → Option (List Term) → Option (List Term)
behind terms others = option_map (λ more. terms ++ more) others

-- there are no files, or more than 15, which no words may have behind the first
abbrev pub AreNoneOrBeyond : Option (List Term) → Type 0
AreNoneOrBeyond None = ⊤
AreNoneOrBeyond (Some terms) = 15 < length terms
