-- What is cut off at an LF is a line.
use Rattle.std.proofs.Common.{◌≡◌, ◌≢◌, ◌<◌, ℕ, suc, true, not, ◌==◌, if◌then◌else◌, Option, None, Some, MatchOption}
use Rattle.std.proofs.Common.{Bor, List, [], ◌∷◌, ◌++◌, length, get_or, refl, sym, ap, ◌∙◌, arith, inl, inr}
use Rattle.std.proofs.Common.{length-append}
use Rattle.std.specs.List.{list_all}
use Rattle.std.specs.Option.{option_map}
use Rattle.std.proofs.lemmas.Bool.{and_parts, and_from, not-true, not_from_false, ne_eqb, eqb-true}
use Rattle.std.proofs.lemmas.Bool.Decides.{eqb_tells}
use Rattle.skk_text.specs.Lines.{lines_of, with_first}
use Rattle.exact_readers.specs.Cuts.{cut}
use Rattle.exact_readers.specs.CutLaws.{cut-at, cut-nowhere, cut-none, up_to-exact}
use Rattle.exact_readers.specs.Lines.{is_line_feed, IsFirstLine, without_return}

-- what holds no character at any place fails the test of it
pub none_of : (code : ℕ) (text : List ℕ) → ((i : ℕ) → i < length text → get_or text i 0 ≢ code)
    → list_all (λ c. not (c == code)) text ≡ true
none_of code [] none = refl
none_of code (c ∷ text) none =
    and_from (not (c == code)) _ (not_from_false (c == code) (ne_eqb c code (none 0 (omega arith))))
    (none_of code text (λ i lt. none (suc i) (omega (arith, lt))))

-- what is split at the first of a character is cut there
pub cut-split : (code : ℕ) (text : List ℕ) (found : Option (Bor (List ℕ) × Bor (List ℕ)))
    → MatchOption found ((i : ℕ) → i < length text → get_or text i 0 ≢ code)
    (λ p. (text ≡ p.0.now ++ code ∷ p.1.now) × ((i : ℕ) → i < length p.0.now → get_or p.0.now i 0 ≢ code))
    → option_map (λ parts. (parts.0.now, parts.1.now)) found ≡ cut (λ c. c == code) text
cut-split code text None none = sym (cut-nowhere (λ c. c == code) text (none_of code text none))
cut-split code text (Some p) (is, none) =
    sym (ap (cut (λ c. c == code)) is
    ∙ cut-at (λ c. c == code) p.0.now code p.1.now (none_of code p.0.now none) (same code))
  where
    same : (n : ℕ) → (n == n) ≡ true
    same n = elim (eqb_tells n n) [ inl e ↦ e.0 | inr other ↦ absurd (other.1 refl) ]

-- a line without LF and its end are the first line
pub line-ended : (line rest : List ℕ) → list_all (λ c. not (is_line_feed c)) line ≡ true
    → lines_of (line ++ 10 ∷ rest) ≡ line ∷ lines_of rest
line-ended [] rest none = refl
line-ended (c ∷ line) rest none =
    let parts = and_parts (not (is_line_feed c)) (list_all (λ d. not (is_line_feed d)) line) none in
    let later = lines_of (line ++ 10 ∷ rest) in
    ap (λ b. if b then [] ∷ later else with_first c later) (not-true (c == 10) parts.0)
    ∙ ap (with_first c) (line-ended line rest parts.1)

-- and where no LF stands, all is one line
line-last : (c : ℕ) (text : List ℕ) → list_all (λ d. not (is_line_feed d)) (c ∷ text) ≡ true
    → lines_of (c ∷ text) ≡ (c ∷ text) ∷ []
line-last c [] none =
    let parts = and_parts (not (is_line_feed c)) true none in
    ap (λ b. if b then [] ∷ [] else (c ∷ []) ∷ []) (not-true (c == 10) parts.0)
line-last c (d ∷ text) none =
    let parts = and_parts (not (is_line_feed c)) (list_all (λ e. not (is_line_feed e)) (d ∷ text)) none in
    ap (λ b. if b then [] ∷ lines_of (d ∷ text) else with_first c (lines_of (d ∷ text))) (not-true (c == 10) parts.0)
    ∙ ap (with_first c) (line-last d text parts.1)

-- so what is cut off at an LF is the first line
pub first_cut : (text line behind : List ℕ) → cut is_line_feed text ≡ Some (line, behind)
    → IsFirstLine text line behind
first_cut text line behind e =
    let is = (up_to-exact is_line_feed).sound text line behind e in
    let (end, passes, none, piece) = is.spelled in
    let all : text ≡ (line ++ end ∷ []) ++ behind = is.tokens_are ∙ ap (λ ys. ys ++ behind) piece in
    let split : text ≡ line ++ 10 ∷ behind =
    all ∙ ap (λ d. (line ++ d ∷ []) ++ behind) (eqb-true end 10 passes) ∙ simp_append line behind in (
      ap lines_of split ∙ line-ended line behind none,
      omega (arith, ap length split, length-append line (10 ∷ behind)),
      inl split,
    )
  where
    simp_append : (front back : List ℕ) → (front ++ 10 ∷ []) ++ back ≡ front ++ 10 ∷ back
    simp_append [] back = refl
    simp_append (d ∷ front) back = ap (λ ys. d ∷ ys) (simp_append front back)

-- and a text that is not cut is one line
pub last_cut : (text : List ℕ) → cut is_line_feed text ≡ None → 0 < length text → IsFirstLine text text []
last_cut [] e some = absurd (omega (arith, some))
last_cut (c ∷ text) e some = (line-last c text (cut-none is_line_feed (c ∷ text) e), some, inr (refl, refl))

-- The end of a line

-- a CR at the end goes
pub return-gone : (line : List ℕ) → without_return (line ++ 13 ∷ []) ≡ line
return-gone [] = refl
return-gone (c ∷ []) = refl
return-gone (c ∷ d ∷ line) = ap (λ l. c ∷ l) (return-gone (d ∷ line))

-- where there is none, all stays
pub return-none : (line : List ℕ) → ((front : List ℕ) → line ≢ front ++ 13 ∷ []) → without_return line ≡ line
return-none [] none = refl
return-none (c ∷ []) none =
    elim (eqb_tells c 13) [
      | inl same ↦ absurd (none [] (ap (λ d. d ∷ []) same.1))
      | inr other ↦ ap (λ b. if b then [] else c ∷ []) other.0
    ]
return-none (c ∷ d ∷ line) none =
    ap (λ l. c ∷ l) (return-none (d ∷ line) (λ front e. none (c ∷ front) (ap (λ l. c ∷ l) e)))

-- a character is cut off at the end
abbrev pub IsCutAtEnd : ℕ → List ℕ → Option (Bor (List ℕ)) → Type 0
IsCutAtEnd c line r = MatchOption r ((front : List ℕ) → line ≢ front ++ c ∷ []) (λ x. line ≡ x.now ++ c ∷ [])
