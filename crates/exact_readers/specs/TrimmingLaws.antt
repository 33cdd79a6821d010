-- The mark at the beginning of a file, and the spaces and TABs at the end of a line.
use Rattle.std.proofs.Common.{◌≡◌, ◌≢◌, ◌+◌, ◌==◌, ◌&&◌, ◌||◌, sym, ℕ, Bool, true, false, Option, Some, None, Bor}
use Rattle.std.proofs.Common.{MatchOption, List, [], ◌∷◌, ◌++◌, length, take, drop, nat_eq, if◌then◌else◌, refl, ap}
use Rattle.std.proofs.Common.{◌∙◌, inl, inr, append_assoc, take-append-drop}
use lib.Utf8.{encode}
use Rattle.std.specs.List.{list_all, starts_with}
use Rattle.std.proofs.lemmas.Bool.{and_parts, both_ways, cases_Bool}
use Rattle.std.proofs.lemmas.Bool.Decides.{eqb_tells, Decides-eqb}
use Rattle.std.proofs.lemmas.List.Folds.{list_all-append}
use Rattle.std.proofs.lemmas.Slice.Eq.{starts_is}
use Rattle.std.specs.Str.Pattern.{FindsCharPrefix}
use Rattle.exact_readers.specs.LineLaws.{IsCutAtEnd}
use Rattle.exact_readers.specs.Lines.{without_return}
use Rattle.exact_readers.specs.Trimming.{byte_order_mark, without_mark, is_blank, without_blanks, trimmed_line}

-- The mark

-- behind the mark
pub mark-there : (bytes rest : List ℕ) → bytes ≡ byte_order_mark ++ rest → without_mark bytes ≡ rest
mark-there bytes rest e =
    ap (λ bs. if starts_with nat_eq bs byte_order_mark then drop (length byte_order_mark) bs else bs) e ∙ begins
  where
    begins : without_mark (byte_order_mark ++ rest) ≡ rest
    begins = refl

-- where there is none, all stays
pub mark-none : (bytes : List ℕ) → ((rest : List ℕ) → bytes ≢ byte_order_mark ++ rest) → without_mark bytes ≡ bytes
mark-none bytes none =
    elim (cases_Bool (starts_with nat_eq bytes byte_order_mark)) [
      | inl begins ↦ absurd (none (drop (length byte_order_mark) bytes)
          ((starts_is Decides-eqb bytes byte_order_mark (starts_with nat_eq bytes byte_order_mark) refl).0 begins))
      | inr other ↦ ap (λ b. if b then drop (length byte_order_mark) bytes else bytes) other
    ]

-- the mark is cut off at the beginning
abbrev pub IsCutAtMark : List ℕ → Option (Bor (List ℕ)) → Type 0
IsCutAtMark bytes r =
    MatchOption r (FindsCharPrefix 0xFEFF bytes None) (λ x. (n : ℕ) × FindsCharPrefix 0xFEFF bytes (Some n)
    × (x.now ≡ drop n bytes) × (length x.now + n ≡ length bytes))

-- what is left is what stands behind it
pub mark-gone : (bytes : List ℕ) (behind : Bor (List ℕ)) → IsCutAtMark bytes (Some behind)
    → behind.now ≡ without_mark bytes
unfolding encode
mark-gone bytes behind (n, has, left, long) =
    sym (mark-there bytes behind.now (has.split ∙ ap (λ r. byte_order_mark ++ r) (sym left)))

-- The end of a line

-- a space or a TAB at the end goes
pub blank-gone : (line : List ℕ) (blank : ℕ) → is_blank blank ≡ true
    → without_blanks (line ++ blank ∷ []) ≡ without_blanks line
blank-gone [] blank is = ap (λ b. if b && true then [] else blank ∷ []) is
blank-gone (c ∷ line) blank is =
    let all : list_all is_blank ((c ∷ line) ++ blank ∷ []) ≡ list_all is_blank (c ∷ line) =
    list_all-append is_blank (c ∷ line) (blank ∷ []) ∙ ap (λ b. list_all is_blank (c ∷ line) && (b && true)) is
    ∙ and_true (list_all is_blank (c ∷ line)) in
    ap (λ b. if b then [] else c ∷ without_blanks (line ++ blank ∷ [])) all
    ∙ ap (λ l. if list_all is_blank (c ∷ line) then [] else c ∷ l) (blank-gone line blank is)
  where
    and_true : (b : Bool) → (b && true) ≡ b
    and_true true = refl
    and_true false = refl

-- a line of blanks alone ends in one
ends_blank : (c : ℕ) (line : List ℕ) → list_all is_blank (c ∷ line) ≡ true
    → (front : List ℕ) × (blank : ℕ) × (is_blank blank ≡ true) × (c ∷ line ≡ front ++ blank ∷ [])
ends_blank c [] all = ([], c, (and_parts (is_blank c) true all).0, refl)
ends_blank c (d ∷ line) all =
    let more = ends_blank d line (and_parts (is_blank c) (list_all is_blank (d ∷ line)) all).1 in
    (c ∷ more.0, more.1, more.2, ap (λ l. c ∷ l) more.3)

-- where there is none, all stays
pub blank-none : (line : List ℕ) → ((front : List ℕ) (blank : ℕ) → is_blank blank ≡ true → line ≢ front ++ blank ∷ [])
    → without_blanks line ≡ line
blank-none [] none = refl
blank-none (c ∷ line) none =
    elim (cases_Bool (list_all is_blank (c ∷ line))) [
      | inl all ↦ let ends = ends_blank c line all in absurd (none ends.0 ends.1 ends.2 ends.3)
      | inr some ↦
          ap (λ b. if b then [] else c ∷ without_blanks line) some
          ∙ ap (λ l. c ∷ l) (blank-none line (λ front blank is e. none (c ∷ front) blank is (ap (λ l. c ∷ l) e)))
    ]

-- a line that ends neither in a space nor in a TAB
pub no_blank : (line : List ℕ) → ((front : List ℕ) → line ≢ front ++ 0x20 ∷ [])
    → ((front : List ℕ) → line ≢ front ++ 9 ∷ []) → without_blanks line ≡ line
no_blank line no_space no_tab =
    blank-none line (λ front blank is e.
    elim (eqb_tells blank 0x20) [
      | inl space ↦ no_space front (e ∙ ap (λ b. front ++ b ∷ []) space.1)
      | inr other ↦
          elim (eqb_tells blank 9) [
            | inl tab ↦ no_tab front (e ∙ ap (λ b. front ++ b ∷ []) tab.1)
            | inr neither ↦ both_ways (is_blank blank) (ap (λ b. b || blank == 9) other.0 ∙ neither.0) is
          ]
    ])

-- what is left of a line behind which no space stood, by whether a TAB did
pub tab-or-none : (line : List ℕ) (r : Option (Bor (List ℕ))) → ((front : List ℕ) → line ≢ front ++ 0x20 ∷ [])
    → IsCutAtEnd 9 line r
    → MatchOption r (without_blanks line ≡ line)
    (λ shorter. (blank : ℕ) × (is_blank blank ≡ true) × (line ≡ shorter.now ++ blank ∷ []))
tab-or-none line None no_space no_tab = no_blank line no_space no_tab
tab-or-none line (Some shorter) no_space tab = (9, refl, tab)

-- of a line that ends in neither all is read
pub trimmed-kept : (front : List ℕ) (c : ℕ) → (c == 13) ≡ false → is_blank c ≡ false
    → trimmed_line (front ++ c ∷ []) ≡ front ++ c ∷ []
trimmed-kept front c no_return no_blank = ap without_blanks (returns front) ∙ blanks front
  where
    returns : (xs : List ℕ) → without_return (xs ++ c ∷ []) ≡ xs ++ c ∷ []
    returns [] = ap (λ b. if b then [] else c ∷ []) no_return
    returns (d ∷ []) = ap (λ b. d ∷ (if b then [] else c ∷ [])) no_return
    returns (d ∷ e ∷ xs) = ap (λ ys. d ∷ ys) (returns (e ∷ xs))

    and_false : (b : Bool) → (b && (false && true)) ≡ false
    and_false true = refl
    and_false false = refl

    blanks : (xs : List ℕ) → without_blanks (xs ++ c ∷ []) ≡ xs ++ c ∷ []
    blanks [] = ap (λ b. if b && true then [] else c ∷ []) no_blank
    blanks (d ∷ xs) =
        ap (λ b. if b then [] else d ∷ without_blanks (xs ++ c ∷ []))
        (list_all-append is_blank (d ∷ xs) (c ∷ []) ∙ ap (λ b. list_all is_blank (d ∷ xs) && (b && true)) no_blank
        ∙ and_false (list_all is_blank (d ∷ xs)))
        ∙ ap (λ ys. d ∷ ys) (blanks xs)

-- What is read stands at the front of the line

return-front : (line : List ℕ) → (more : List ℕ) × (line ≡ without_return line ++ more)
return-front [] = ([], refl)
return-front (c ∷ []) = by (c == 13)
  where
    by : (b : Bool) → (more : List ℕ) × (c ∷ [] ≡ (if b then [] else c ∷ []) ++ more)
    by true = (c ∷ [], refl)
    by false = ([], refl)
return-front (c ∷ d ∷ line) = let rest = return-front (d ∷ line) in (rest.0, ap (λ l. c ∷ l) rest.1)

blanks-front : (line : List ℕ) → (more : List ℕ) × (line ≡ without_blanks line ++ more)
blanks-front [] = ([], refl)
blanks-front (c ∷ line) = by (list_all is_blank (c ∷ line)) (blanks-front line)
  where
    by : (b : Bool) → (more : List ℕ) × (line ≡ without_blanks line ++ more)
        → (more : List ℕ) × (c ∷ line ≡ (if b then [] else c ∷ without_blanks line) ++ more)
    by true rest = (c ∷ line, refl)
    by false rest = (rest.0, ap (λ l. c ∷ l) rest.1)

pub trimmed-front : (line : List ℕ) → (more : List ℕ) × (line ≡ trimmed_line line ++ more)
trimmed-front line =
    let first = return-front line in
    let second = blanks-front (without_return line) in (
      second.0 ++ first.0,
      first.1 ∙ ap (λ l. l ++ first.0) second.1 ∙ append_assoc (trimmed_line line) second.0 first.0,
    )

-- and what follows the mark at the end of the file
pub mark-front : (bytes : List ℕ) → (front : List ℕ) × (bytes ≡ front ++ without_mark bytes)
mark-front bytes = by (starts_with nat_eq bytes byte_order_mark)
  where
    by : (b : Bool) → (front : List ℕ)
        × (bytes ≡ front ++ (if b then drop (length byte_order_mark) bytes else bytes))
    by true = (take (length byte_order_mark) bytes, sym (take-append-drop (length byte_order_mark) bytes))
    by false = ([], refl)
