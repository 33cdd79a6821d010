-- Texts that are cut at LF and at TAB.
use Rattle.std.proofs.Common.{◌≡◌, ◌≢◌, ◌<◌, ◌==◌, ◌&&◌, ℕ, suc, false, true, cond, Option, Some, None, MatchOption}
use Rattle.std.proofs.Common.{Bor, List, [], ◌∷◌, ◌++◌, length, get_or, refl, ap, ◌∙◌, arith}
use Rattle.std.specs.List.{slice_split, onto_first}
use Rattle.std.proofs.lemmas.Bool.{and_left, and_right, ne_eqb}
use Rattle.std.proofs.lemmas.List.Splits.{slice_split-cons_no}
use Rattle.skk_text.specs.Lines.{lines_of}
use Rattle.romaji_rules.specs.RuleFiles.{begins_with_end, without_returns}
use Rattle.romaji_rules.specs.RuleLines.{IsOneLine}
use Rattle.std.proofs.lemmas.Bool.Decides.{nat_tests}

-- Lines

-- a character that is no LF, nor a CR before one, goes on with the first line
goes_on_line : (c : ℕ) (rest line : List ℕ) (lines : List (List ℕ)) → c ≢ 10 → (c == 13 && begins_with_end rest) ≡ false
    → lines_of (without_returns rest) ≡ line ∷ lines → lines_of (without_returns (c ∷ rest)) ≡ (c ∷ line) ∷ lines
goes_on_line c rest line lines other kept first = grind (arith, nat_tests, other, kept, first)

-- a line with CR LF is the first without both
pub returned : (line behind : List ℕ) → IsOneLine (line ++ 13 ∷ [])
    → lines_of (without_returns ((line ++ 13 ∷ []) ++ 10 ∷ behind)) ≡ line ∷ lines_of (without_returns behind)
returned [] behind one = refl
returned (c ∷ []) behind one =
    goes_on_line c ((13 ∷ []) ++ 10 ∷ behind) [] (lines_of (without_returns behind)) (one 0 (omega arith))
    (and_right (c == 13) false refl) (returned [] behind (λ i lt. one (suc i) (omega (arith, lt))))
returned (c ∷ d ∷ line) behind one =
    goes_on_line c (((d ∷ line) ++ 13 ∷ []) ++ 10 ∷ behind) (d ∷ line) (lines_of (without_returns behind))
    (one 0 (omega arith)) (and_right (c == 13) (d == 10) (ne_eqb d 10 (one 1 (omega arith))))
    (returned (d ∷ line) behind (λ i lt. one (suc i) (omega (arith, lt))))

-- one with LF alone is the first without it
pub unreturned : (line behind : List ℕ) → IsOneLine line → ((front : List ℕ) → line ≢ front ++ 13 ∷ [])
    → lines_of (without_returns (line ++ 10 ∷ behind)) ≡ line ∷ lines_of (without_returns behind)
unreturned [] behind one none = refl
unreturned (c ∷ []) behind one none =
    goes_on_line c (10 ∷ behind) [] (lines_of (without_returns behind)) (one 0 (omega arith))
    (and_left (c == 13) true (ne_eqb c 13 (λ same. none [] (ap (λ d. d ∷ []) same)))) refl
unreturned (c ∷ d ∷ line) behind one none =
    goes_on_line c ((d ∷ line) ++ 10 ∷ behind) (d ∷ line) (lines_of (without_returns behind)) (one 0 (omega arith))
    (and_right (c == 13) (d == 10) (ne_eqb d 10 (one 1 (omega arith))))
    (unreturned (d ∷ line) behind (λ i lt. one (suc i) (omega (arith, lt)))
    (λ front e. none (c ∷ front) (ap (λ l. c ∷ l) e)))

-- and a last line without LF is read as it stands
pub last_line : (text : List ℕ) → 0 < length text → IsOneLine text → lines_of (without_returns text) ≡ text ∷ []
last_line [] some one = absurd (omega (arith, some))
last_line (c ∷ []) some one =
    ap (λ b. lines_of (cond b [] (c ∷ []))) (and_right (c == 13) false refl)
    ∙ ap (λ b. cond b ([] ∷ []) ((c ∷ []) ∷ [])) (ne_eqb c 10 (one 0 (omega arith)))
last_line (c ∷ d ∷ text) some one =
    goes_on_line c (d ∷ text) (d ∷ text) [] (one 0 (omega arith))
    (and_right (c == 13) (d == 10) (ne_eqb d 10 (one 1 (omega arith))))
    (last_line (d ∷ text) (omega arith) (λ i lt. one (suc i) (omega (arith, lt))))

-- Fields

field_cut : (field behind : List ℕ) → ((i : ℕ) → i < length field → get_or field i 0 ≢ 9)
    → slice_split (λ c. c == 9) (field ++ 9 ∷ behind) ≡ field ∷ slice_split (λ c. c == 9) behind
field_cut [] behind none = refl
field_cut (c ∷ field) behind none =
    slice_split-cons_no (λ d. d == 9) c (field ++ 9 ∷ behind) (ne_eqb c 9 (none 0 (omega arith)))
    ∙ ap (onto_first c) (field_cut field behind (λ i lt. none (suc i) (omega (arith, lt))))

field_alone : (field : List ℕ) → ((i : ℕ) → i < length field → get_or field i 0 ≢ 9)
    → slice_split (λ c. c == 9) field ≡ field ∷ []
field_alone [] none = refl
field_alone (c ∷ field) none =
    slice_split-cons_no (λ d. d == 9) c field (ne_eqb c 9 (none 0 (omega arith)))
    ∙ ap (onto_first c) (field_alone field (λ i lt. none (suc i) (omega (arith, lt))))

-- what stands before the first TAB is the first field, and where there is none all is one field
pub first_is_field : (text : List ℕ) (parts : Option (Bor (List ℕ) × Bor (List ℕ)))
    → MatchOption parts ((i : ℕ) → i < length text → get_or text i 0 ≢ 9)
    (λ p. (text ≡ p.0.now ++ 9 ∷ p.1.now) × ((i : ℕ) → i < length p.0.now → get_or p.0.now i 0 ≢ 9))
    → MatchOption parts (slice_split (λ c. c == 9) text ≡ text ∷ [])
    (λ p. slice_split (λ c. c == 9) text ≡ p.0.now ∷ slice_split (λ c. c == 9) p.1.now)
first_is_field text None none = field_alone text none
first_is_field text (Some p) known = ap (slice_split (λ c. c == 9)) known.0 ∙ field_cut p.0.now p.1.now known.1

-- What is cut off

-- at the end a character
abbrev pub IsCutAtEnd : ℕ → List ℕ → Option (Bor (List ℕ)) → Type 0
IsCutAtEnd c line r = MatchOption r ((front : List ℕ) → line ≢ front ++ c ∷ []) (λ x. line ≡ x.now ++ c ∷ [])

-- at the first LF a line
abbrev pub IsCutAtLine : List ℕ → Option (Bor (List ℕ) × Bor (List ℕ)) → Type 0
IsCutAtLine text r = MatchOption r (IsOneLine text) (λ p. (text ≡ p.0.now ++ 10 ∷ p.1.now) × IsOneLine p.0.now)
