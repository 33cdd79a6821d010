-- A line is read in one way.
use Rattle.std.proofs.Common.{◌≡◌, ◌≢◌, ◌⊎◌, ◌≤◌, sym, refl, ℕ, Option, Some, None, List, [], ◌∷◌, ◌++◌, get_or, ap}
use Rattle.std.proofs.Common.{◌∙◌, subst, arith, inl, inr, rules, Result, Ok, Err, IsErrAnd, IsErrOf}
use Rattle.std.specs.Fmt.{decimal}
use Rattle.std.specs.Int.{IsInRange}
use Rattle.std.proofs.lemmas.Fmt.{decimal_injective}
use Rattle.std.proofs.lemmas.List.{append_assoc}
use Rattle.skk_text.specs.KeyText.{spelled}
use Rattle.key_scripts.specs.Script.{IsSession, IsTypist, Spells, Follows}
use Rattle.key_scripts.specs.declared.line.Line.{Line}
use Rattle.key_scripts.specs.declared.line.Line.TheVariants.{Keys, Opening}
use Rattle.key_scripts.proofs.Numbers.{one_number}

-- `:`, `=` and `,` are no digits
pub colon_no_digit : ¬ IsInRange 48 57 58
colon_no_digit digit = omega arith

pub equals_no_digit : ¬ IsInRange 48 57 61
equals_no_digit digit = omega arith

pub comma_no_digit : ¬ IsInRange 48 57 44
comma_no_digit digit = omega arith

-- a text that is no comment and not empty says what its number, the byte behind it and the rest say
pub line-follows : (text rest : List ℕ) (said : Option Line) (number mark : ℕ) → Spells text said → text ≢ []
    → get_or text 0 0 ≢ 35 →
    number ≤ 99999 → (¬ IsInRange 48 57 mark) → text ≡ decimal number ++ mark ∷ rest
    → IsSession number × ((line : Line) × (said ≡ Some line) × Follows number mark rest line)
line-follows text rest None number mark spells some no_comment small no_digit e =
    elim spells [ inl none ↦ absurd (some none) | inr comment ↦ absurd (no_comment (ap (λ t. get_or t 0 0) comment.1)) ]
line-follows text rest (Some (Keys session ks)) number mark spells some no_comment small no_digit e =
    let one =
    one_number text (spelled ks) rest session 58 number mark (omega arith) colon_no_digit spells.2 small no_digit e in
    (subst IsSession one.0 spells.0, (Keys session ks, refl, (one.0, sym one.1, spells.1, sym one.2)))
line-follows text rest (Some (Opening session typist book)) number mark spells some no_comment small no_digit e =
    let one =
    one_number text (decimal typist ++ 44 ∷ decimal book) rest session 61 number mark (omega arith) equals_no_digit
    (spells.3 ∙ append_assoc (decimal session) (61 ∷ decimal typist) (44 ∷ decimal book)) small no_digit e in (
      subst IsSession one.0 spells.0,
      (Opening session typist book, refl, (one.0, sym one.1, spells.1, spells.2, sym one.2)),
    )

-- a typist, a byte and a book are what the number, the byte behind it and the rest say
pub owner-follows : (text rest : List ℕ) (number mark between typist book : ℕ) → number ≤ 99999
    → (¬ IsInRange 48 57 mark) → text ≡ decimal number ++ mark ∷ rest → (¬ IsInRange 48 57 between) →
    IsTypist typist → text ≡ decimal typist ++ between ∷ decimal book
    → (number ≡ typist) × (mark ≡ between) × (rest ≡ decimal book)
owner-follows text rest number mark between typist book small no_digit e other_no_digit typist_small other_e =
    one_number text rest (decimal book) number mark typist between small no_digit e (omega arith) other_no_digit other_e

pub book-small : (typist book : ℕ) → IsTypist typist → (book ≡ 0) ⊎ (book ≡ typist) → book ≤ 99999
book-small typist book small own = elim own [ inl e ↦ omega arith | inr e ↦ omega arith ]

-- so a text writes one typist and one book
pub same_opening : (between typist book other other_book : ℕ) → (¬ IsInRange 48 57 between) → IsTypist typist
    → (book ≡ 0) ⊎ (book ≡ typist) → IsTypist other → (other_book ≡ 0) ⊎ (other_book ≡ other)
    → decimal typist ++ between ∷ decimal book ≡ decimal other ++ between ∷ decimal other_book
    → (typist ≡ other) × (book ≡ other_book)
same_opening between typist book other other_book no_digit small own other_small other_own e =
    let one =
    owner-follows (decimal typist ++ between ∷ decimal book) (decimal book) typist between between other other_book
    (omega (arith, small)) no_digit refl no_digit other_small e in
    let bound = book-small typist book small own in
    let bound' = book-small other other_book other_small other_own in
    (one.0, decimal_injective book other_book (omega (arith, bound)) (omega (arith, bound')) one.2)

-- what follows a session's number and the byte behind it is what the whole line says
pub follows-line : (text rest : List ℕ) (line : Line) (number mark : ℕ) → IsSession number
    → text ≡ decimal number ++ mark ∷ rest → Follows number mark rest line → Spells text (Some line)
follows-line text rest (Keys session ks) number mark small e follows = (
  subst IsSession (sym follows.0) small,
  follows.2,
  e ∙ ap (λ n. decimal n ++ mark ∷ rest) (sym follows.0) ∙ ap (λ m. decimal session ++ m ∷ rest) follows.1
      ∙ ap (λ r. decimal session ++ 58 ∷ r) follows.3,
)
follows-line text rest (Opening session typist book) number mark small e follows = (
  subst IsSession (sym follows.0) small,
  follows.2,
  follows.3,
  e ∙ ap (λ n. decimal n ++ mark ∷ rest) (sym follows.0) ∙ ap (λ m. decimal session ++ m ∷ rest) follows.1
      ∙ ap (λ r. decimal session ++ 61 ∷ r) follows.4
      ∙ sym (append_assoc (decimal session) (61 ∷ decimal typist) (44 ∷ decimal book)),
)

-- a fault that is handed on is the same
pub same-fault : {T E : Type 0} (r : Result T E) (fault other : E) → IsErrAnd r (λ handed. handed ≡ fault)
    → IsErrOf r other → fault ≡ other
same-fault (Ok done) fault other is e = absurd (search (rules, is))
same-fault (Err handed) fault other is e = cc
