-- The words of `expr`: those that are signs and names, and files, two words at a time.
use Rattle.std.proofs.Common.{◌≡◌, ◌≢◌, ◌≤◌, ◌∙◌, ◌&&◌, sym, ap, subst, refl, ℕ, Bool, true, false}
use Rattle.std.proofs.Common.{not, if◌then◌else◌, nat_le, None, Some, Option, List, [], ◌∷◌, ◌++◌, length, inl, inr}
use Rattle.std.proofs.Common.{MatchOption, append_assoc, codes}
use Rattle.std.specs.Option.{option_and_then, option_map}
use Rattle.std.specs.Str.{chars, bytes_eq, IsUtf8}
use Rattle.std.proofs.lemmas.Bool.{cases_Bool, false_from_ne_true, le-leb, lt-leb}
use Rattle.std.proofs.lemmas.Slice.Eq.{bytes_eq-Decides}
use Rattle.command_line.specs.Command.{expr_command}
use Rattle.command_line.specs.Expr.{AreNoneOrBeyond, behind, expr_of, expr_with, names_file, sign_of, term_of, terms_of}
use Rattle.command_line.specs.Expr.{with_term}
use Rattle.command_line.specs.Words.{is_name}
use Rattle.command_line.specs.declared.command.AloneCommand.TheVariants.{Expr}
use Rattle.command_line.specs.declared.command.Command.TheVariants.{Alone}
use Rattle.command_line.specs.declared.expr_words.ExprOptions.{ExprOptions}
use Rattle.command_line.specs.declared.expr_words.Sign.TheVariants.{Plus, Minus}
use Rattle.command_line.specs.declared.expr_words.Term.{Term}
use Rattle.command_line.proofs.WordTexts.{is_ascii, spelled, not-spelled}

-- a word that is not spelled as a text is none, and bytes are tested as the word is that they spell
pub is-other : (bytes word text : List ℕ) → IsUtf8 bytes → chars bytes ≡ word → bytes ≢ text → is_ascii text ≡ true
    → bytes_eq word text ≡ false
is-other bytes word text utf8 characters differs own =
    false_from_ne_true _
    (λ is. not-spelled bytes word text utf8 characters differs own ((bytes_eq-Decides word text).0 is))

pub same-test : (bytes word text : List ℕ) → IsUtf8 bytes → chars bytes ≡ word → is_ascii text ≡ true
    → bytes_eq bytes text ≡ bytes_eq word text
same-test bytes word text utf8 characters own =
    elim (cases_Bool (bytes_eq bytes text)) [
      | inl is ↦
          is ∙ sym ((bytes_eq-Decides word text).1
          (spelled bytes word text characters ((bytes_eq-Decides bytes text).0 is) own))
      | inr other ↦
          other ∙ sym (is-other bytes word text utf8 characters
          (λ is. let same : true ≡ false = sym ((bytes_eq-Decides bytes text).1 is) ∙ other in cc (same)) own)
    ]

-- a word that is neither sign is none
pub no-sign : (word : List ℕ) → bytes_eq word (codes "+") ≡ false → bytes_eq word (codes "-") ≡ false
    → None ≡ sign_of word
no-sign word plus minus =
    sym (ap (λ b. if b then Some Plus else if bytes_eq word (codes "-") then Some Minus else None) plus
    ∙ ap (λ (b : Bool). if b then Some Minus else None) minus)

-- what is tested of a word that may be a name
pub tested-name : (bytes word : List ℕ) (named differs : Bool) → IsUtf8 bytes → chars bytes ≡ word
    → named ≡ is_name word → named ≡ true → differs ≡ not (bytes_eq bytes (codes "+")) → differs ≡ names_file word
tested-name bytes word named differs utf8 characters may is tested =
    tested ∙ ap not (same-test bytes word (codes "+") utf8 characters refl)
    ∙ sym (ap (λ b. b && not (bytes_eq word (codes "+"))) (sym may ∙ is))

-- files behind others, with a file between
behind-joined : (terms : List Term) (term : Term) (others : Option (List Term))
    → behind terms (with_term (Some term) others) ≡ behind (terms ++ term ∷ []) others
behind-joined terms term None = refl
behind-joined terms term (Some more) = ap Some (sym (append_assoc terms (term ∷ []) more))

-- the files that words are, where the first two are one that was added to those before
pub one-more : {A : Type 0} (items : A → List Term) (read : Option A) (terms front : List Term) (term : Term)
    (sign name : List ℕ) (words rest more : List (List ℕ)) → words ≡ sign ∷ rest → rest ≡ name ∷ more
    → term_of sign name ≡ Some term → front ≡ terms ++ term ∷ []
    → MatchOption read (AreNoneOrBeyond (behind front (terms_of more)))
    (λ all. behind front (terms_of more) ≡ Some (items all))
    → MatchOption read (AreNoneOrBeyond (behind terms (terms_of words)))
    (λ all. behind terms (terms_of words) ≡ Some (items all))
one-more items read terms front term sign name words rest more first second own added reads =
    let same : behind terms (terms_of words) ≡ behind front (terms_of more) =
    ap (λ ws. behind terms (terms_of ws)) (first ∙ ap (λ ws. sign ∷ ws) second)
    ∙ ap (λ file. behind terms (with_term file (terms_of more))) own
    ∙ behind-joined terms term (terms_of more)
    ∙ ap (λ files. behind files (terms_of more)) (sym added) in
    subst (λ found. MatchOption read (AreNoneOrBeyond found) (λ all. found ≡ Some (items all))) (sym same) reads

-- no files, or too many, are no options
pub no-options : (first : List ℕ) (others : Option (List Term)) → AreNoneOrBeyond (behind [] others)
    → None ≡ option_and_then (expr_with first) others
no-options first None beyond = refl
no-options first (Some terms) beyond =
    let many : nat_le (length terms) 15 ≡ false = lt-leb (length terms) 15 beyond in
    sym (ap (λ b. if b then Some (record { first = first; terms = record { items = terms } }) else None) many)

-- files are options where they are few enough
pub options : (first : List ℕ) (others : Option (List Term)) (terms : List Term) → behind [] others ≡ Some terms
    → length terms ≤ 15
    → Some (record { first = first; terms = record { items = terms } }) ≡ option_and_then (expr_with first) others
options first None terms are few = absurd (cc (are))
options first (Some more) terms are few =
    let same : more ≡ terms = cc (are) in
    let within : nat_le (length terms) 15 ≡ true = le-leb (length terms) 15 few in
    sym (ap (expr_with first) same
    ∙ ap (λ b. if b then Some (record { first = first; terms = record { items = terms } }) else None) within)

-- what words are behind a first one that names a file
pub behind-first : (first : List ℕ) (words : List (List ℕ)) → names_file first ≡ true
    → expr_of (first ∷ words) ≡ option_and_then (expr_with first) (terms_of words)
behind-first first words is = ap (λ b. if b then option_and_then (expr_with first) (terms_of words) else None) is

-- words that name the command, or another
tested-other : (own : Bool) (differs : Bool) → differs ≡ not own → differs ≡ true → own ≡ false
tested-other true differs tested is = absurd (cc)
tested-other false differs tested is = refl

tested-own : (own : Bool) (differs : Bool) → differs ≡ not own → differs ≡ false → own ≡ true
tested-own true differs tested is = refl
tested-own false differs tested is = absurd (cc)

pub other-words : (bytes first : List ℕ) (rest words : List (List ℕ)) (differs : Bool) → IsUtf8 bytes
    → chars bytes ≡ first → words ≡ first ∷ rest → differs ≡ not (bytes_eq bytes (codes "expr")) → differs ≡ true
    → None ≡ expr_command words
other-words bytes first rest words differs utf8 characters are tested is =
    let other : bytes_eq first (codes "expr") ≡ false =
    sym (same-test bytes first (codes "expr") utf8 characters refl)
    ∙ tested-other (bytes_eq bytes (codes "expr")) differs tested is in
    sym (ap expr_command are
    ∙ ap (λ b. if b then option_map (λ options. Alone (Expr options)) (expr_of rest) else None) other)

pub own-words : (bytes first : List ℕ) (rest words : List (List ℕ)) (differs : Bool) (options : ExprOptions)
    → IsUtf8 bytes → chars bytes ≡ first → words ≡ first ∷ rest → differs ≡ not (bytes_eq bytes (codes "expr"))
    → differs ≡ false → expr_of rest ≡ Some options → Some (Alone (Expr options)) ≡ expr_command words
own-words bytes first rest words differs options utf8 characters are tested is read =
    let own : bytes_eq first (codes "expr") ≡ true =
    sym (same-test bytes first (codes "expr") utf8 characters refl)
    ∙ tested-own (bytes_eq bytes (codes "expr")) differs tested is in
    sym (ap expr_command are
    ∙ ap (λ b. if b then option_map (λ options. Alone (Expr options)) (expr_of rest) else None) own
    ∙ ap (option_map (λ options. Alone (Expr options))) read)
