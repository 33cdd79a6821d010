-- Scripts line by line: there is one list of lines, and one first line that is none.
use Rattle.std.proofs.Common.{true, false, ◌==◌, ◌&&◌, ◌≡◌, ◌≢◌, ◌<◌, ◌≤◌, sym, ℕ, Option, Some, None, List, [], ◌∷◌}
use Rattle.std.proofs.Common.{suc, ◌++◌, length, get_or, drop, map, refl, ap, ◌∙◌, subst, arith, inl, inr, cond, Bool}
use Rattle.std.proofs.Common.{Contains}
use Rattle.std.specs.Fmt.{decimal}
use Rattle.std.specs.Int.{IsInRange}
use Rattle.std.proofs.lemmas.Bool.{and_from, cases_order, eq-eqb, eqb-true, or_left, or_right}
use Rattle.std.proofs.lemmas.List.{append_assoc, append-nil, length-append, get_or_append_left}
use Rattle.std.proofs.lemmas.List.Elements.{filter-append}
use Rattle.std.proofs.lemmas.List.Folds.{list_all-append}
use Rattle.std.specs.List.{list_all}
use Rattle.skk_text.specs.KeyText.{spelled, AreKeys}
use Rattle.skk_text.specs.declared.key.Key.{Key}
use Rattle.key_scripts.specs.Script.{Spells, Follows, Says, MayFollow, IsFirstBad, with_said, has_return, opens_well}
use Rattle.key_scripts.specs.Script.{session_of, gives_keys, own_lines, OpenFirst}
use Rattle.key_scripts.specs.declared.line.Line.{Line}
use Rattle.key_scripts.specs.declared.line.Line.TheVariants.{Keys, Opening}
use Rattle.key_scripts.proofs.Numbers.{decimal-digit_at, decimal-length}
use Rattle.key_scripts.proofs.LineReading.{line-follows, colon_no_digit, equals_no_digit, comma_no_digit, same_opening}

-- a text is the spelling of one list of keys at most
abbrev pub OneListOfKeys : Type 0
OneListOfKeys = (ks others : List Key) → AreKeys ks → AreKeys others → spelled ks ≡ spelled others → ks ≡ others

-- a line that begins with a session is no comment and not empty
no_comment : (session mark : ℕ) (text rest : List ℕ) → session ≤ 99999 → text ≡ decimal session ++ mark ∷ rest
    → (text ≢ []) × (get_or text 0 0 ≢ 35)
no_comment session mark text rest small e =
    let long = decimal-length session small in
    let first : get_or text 0 0 ≡ get_or (decimal session) 0 0 =
    ap (λ t. get_or t 0 0) e ∙ get_or_append_left (decimal session) (mark ∷ rest) 0 0 long.0 in
    let digit = decimal-digit_at session 0 small long.0 in (
      λ none. omega (arith, ap length (sym e ∙ none), length-append (decimal session) (mark ∷ rest)),
      λ comment. omega (arith, digit, first, comment),
    )

-- a comment with a CR is no line
pub return-no_line : (text : List ℕ) (said : Option Line) → text ≢ [] → get_or text 0 0 ≡ 35 → has_return text ≡ true
    → ¬ Spells text said
return-no_line text None some first return spells =
    elim spells [
      | inl none ↦ some none
      | inr comment ↦ let clean : has_return text ≡ false = ap has_return comment.1 ∙ comment.2 in cc
    ]
return-no_line text (Some (Keys session ks)) some first return spells =
    (no_comment session 58 text (spelled ks) (omega arith) spells.2).1 first
return-no_line text (Some (Opening session typist book)) some first return spells =
    (no_comment session 61 text (decimal typist ++ 44 ∷ decimal book) (omega arith)
    (spells.3 ∙ append_assoc (decimal session) (61 ∷ decimal typist) (44 ∷ decimal book))).1 first

-- two lines of which both say the same behind one number are one
same_follows : OneListOfKeys → (number mark : ℕ) (rest : List ℕ) (line other : Line) → Follows number mark rest line
    → Follows number mark rest other → line ≡ other
same_follows unique number mark rest (Keys session ks) (Keys session' ks') follows others =
    let same : session ≡ session' = follows.0 ∙ sym others.0 in
    let same_ks : ks ≡ ks' = unique ks ks' follows.2 others.2 (sym follows.3 ∙ others.3) in cc
same_follows unique number mark rest (Keys session ks) (Opening session' typist book) follows others =
    absurd (omega (arith, follows.1, others.1))
same_follows unique number mark rest (Opening session typist book) (Keys session' ks) follows others =
    absurd (omega (arith, follows.1, others.1))
same_follows unique number mark rest (Opening session typist book) (Opening session' typist' book') follows others =
    let same : session ≡ session' = follows.0 ∙ sym others.0 in
    let one = same_opening 44 typist book typist' book' comma_no_digit follows.2 follows.3 others.2 others.3
    (sym follows.4 ∙ others.4) in
    let same_typist : typist ≡ typist' = one.0 in
    let same_book : book ≡ book' = one.1 in cc

-- a text that begins with a session says one line
one_follows : OneListOfKeys → (text rest : List ℕ) (line : Line) (other : Option Line) (session mark : ℕ)
    → Spells text other → session ≤ 99999 → (¬ IsInRange 48 57 mark)
    → text ≡ decimal session ++ mark ∷ rest → Follows session mark rest line → Some line ≡ other
one_follows unique text rest line other session mark others small no_digit e follows =
    let no = no_comment session mark text rest small e in
    let says = line-follows text rest other session mark others no.0 no.1 small no_digit e in
    ap Some (same_follows unique session mark rest line says.1.0 follows says.1.2) ∙ sym says.1.1

-- a text that says a line says nothing else
one_line : OneListOfKeys → (text : List ℕ) (line : Line) (other : Option Line) → Spells text (Some line)
    → Spells text other → Some line ≡ other
one_line unique text (Keys session ks) other spells others =
    one_follows unique text (spelled ks) (Keys session ks) other session 58 others (omega arith) colon_no_digit spells.2
    (refl, refl, spells.1, refl)
one_line unique text (Opening session typist book) other spells others =
    one_follows unique text (decimal typist ++ 44 ∷ decimal book) (Opening session typist book) other session 61 others
    (omega arith) equals_no_digit
    (spells.3 ∙ append_assoc (decimal session) (61 ∷ decimal typist) (44 ∷ decimal book))
    (refl, refl, spells.1, spells.2, refl)

-- a text says one thing
pub one_said : OneListOfKeys → (text : List ℕ) (said other : Option Line) → Spells text said
    → Spells text other → said ≡ other
one_said unique text None None spells others = refl
one_said unique text None (Some line) spells others = sym (one_line unique text line None others spells)
one_said unique text (Some line) other spells others = one_line unique text line other spells others

-- a text more
pub says-push : (before : List Line) (texts : List (List ℕ)) (lines : List Line) (text : List ℕ) (said : Option Line) →
    Says before texts lines → Spells text said → MayFollow lines said
    → Says before (texts ++ text ∷ []) (with_said lines said)
says-push before [] lines text said says spells follows =
    (said, spells, subst (λ (ls : List Line). MayFollow ls said) says follows, ap (λ ls. with_said ls said) says)
says-push before (first ∷ texts) lines text said says spells follows =
    (says.0, says.1, says.2, says-push (with_said before says.0) texts lines text said says.3 spells follows)

-- each opening line that texts say has a book that may be
opens-spelled : (text : List ℕ) (line : Line) → Spells text (Some line) → opens_well line ≡ true
opens-spelled text (Keys session ks) spells = refl
opens-spelled text (Opening session typist book) spells =
    elim spells.2 [
      | inl shared ↦ or_left (book == 0) (book == typist) (eq-eqb book 0 shared)
      | inr own ↦ or_right (book == 0) (book == typist) (eq-eqb book typist own)
    ]

pub opens-said : (before : List Line) (text : List ℕ) (said : Option Line) → Spells text said
    → list_all opens_well before ≡ true → list_all opens_well (with_said before said) ≡ true
opens-said before text None spells well = well
opens-said before text (Some line) spells well =
    list_all-append opens_well before (line ∷ []) ∙ and_from (list_all opens_well before) (opens_well line && true) well
    (and_from (opens_well line) true (opens-spelled text line spells) refl)

-- of a session that lines do not name there is no line
none_named : (number : ℕ) (lines : List Line) → (¬ Contains (map session_of lines) number)
    → own_lines number lines ≡ []
none_named number [] not_named = refl
none_named number (line ∷ lines) not_named =
    by (session_of line == number) refl
    (none_named number lines (λ named. not_named (suc named.0, omega (arith, named.1), named.2)))
  where
    by : (b : Bool) → (session_of line == number) ≡ b → own_lines number lines ≡ []
        → cond b (line ∷ own_lines number lines) (own_lines number lines) ≡ []
    by true is rest = absurd (not_named (0, omega arith, eqb-true (session_of line) number is))
    by false is rest = rest

-- keys behind the lines of a session
keys-behind : (session : ℕ) (ks : List Key) (own : List Line) → list_all gives_keys (drop 1 own) ≡ true
    → list_all gives_keys (drop 1 (own ++ Keys session ks ∷ [])) ≡ true
keys-behind session ks [] keys = refl
keys-behind session ks (line ∷ own) keys =
    list_all-append gives_keys own (Keys session ks ∷ []) ∙ and_from (list_all gives_keys own) true keys refl

-- each opening line that texts say stands in front of all others of its session
pub first-said : (before : List Line) (said : Option Line) → MayFollow before said → OpenFirst before
    → OpenFirst (with_said before said)
first-said before None follows first number = first number
first-said before (Some line) follows first number = by (session_of line == number) refl
  where
    parts : own_lines number (before ++ line ∷ [])
        ≡ own_lines number before ++ cond (session_of line == number) (line ∷ []) []
    parts = filter-append (λ l. session_of l == number) before (line ∷ [])

    its : (l : Line) → MayFollow before (Some l) → session_of l ≡ number
        → list_all gives_keys (drop 1 (own_lines number before ++ l ∷ [])) ≡ true
    its (Keys session ks) may is = keys-behind session ks (own_lines number before) (first number)
    its (Opening session typist book) may is =
        ap (λ own. list_all gives_keys (drop 1 (own ++ Opening session typist book ∷ [])))
        (none_named number before (subst (λ n. ¬ Contains (map session_of before) n) is may))

    by : (b : Bool) → (session_of line == number) ≡ b
        → list_all gives_keys (drop 1 (own_lines number (before ++ line ∷ []))) ≡ true
    by true is =
        ap (λ own. list_all gives_keys (drop 1 own))
        (parts ∙ ap (λ b. own_lines number before ++ cond b (line ∷ []) []) is)
        ∙ its line follows (eqb-true (session_of line) number is)
    by false is =
        ap (λ own. list_all gives_keys (drop 1 own))
        (parts ∙ ap (λ b. own_lines number before ++ cond b (line ∷ []) []) is
        ∙ append-nil (own_lines number before))
        ∙ first number

-- the texts say one list of lines
pub one_list_of_lines : OneListOfKeys → (before : List Line) (texts : List (List ℕ)) (lines others : List Line)
    → Says before texts lines → Says before texts others → lines ≡ others
one_list_of_lines unique before [] lines others says also = says ∙ sym also
one_list_of_lines unique before (text ∷ texts) lines others says also =
    let same : says.0 ≡ also.0 = one_said unique text says.0 also.0 says.1 also.1 in
    one_list_of_lines unique (with_said before also.0) texts lines others
    (subst (λ (s : Option Line). Says (with_said before s) texts lines) same says.3) also.3

-- in a script each text behind those that say some lines says what may follow them
pub says-at : OneListOfKeys
    → (before : List Line) (texts behind : List (List ℕ)) (text : List ℕ) (lines all : List Line) →
    Says before texts lines → Says before (texts ++ text ∷ behind) all
    → (said : Option Line) × Spells text said × MayFollow lines said
says-at unique before [] behind text lines all says whole =
    (whole.0, whole.1, subst (λ (ls : List Line). MayFollow ls whole.0) (sym says) whole.2)
says-at unique before (first ∷ texts) behind text lines all says whole =
    let same : whole.0 ≡ says.0 = one_said unique first whole.0 says.0 whole.1 says.1 in
    says-at unique (with_said before says.0) texts behind text lines all says.3
    (subst (λ (s : Option Line). Says (with_said before s) (texts ++ text ∷ behind) all) same whole.3)

-- so a script has no line that is none
pub no_bad_line : OneListOfKeys → (texts : List (List ℕ)) (lines : List Line) (number : ℕ) → Says [] texts lines
    → ¬ IsFirstBad texts number
no_bad_line unique texts lines number says bad =
    let at = says-at unique [] bad.before bad.behind bad.bad bad.lines lines bad.said
    (subst (λ (ts : List (List ℕ)). Says [] ts lines) bad.parts says) in
    bad.none at.0 at.1 at.2

-- a shorter prefix of a list is a prefix of a longer one
prefix-of : (before others behind rest : List (List ℕ)) (bad other : List ℕ)
    → before ++ bad ∷ behind ≡ others ++ other ∷ rest → length before < length others →
    (more : List (List ℕ)) × (others ≡ before ++ bad ∷ more)
prefix-of [] [] behind rest bad other e less = absurd (omega arith)
prefix-of [] (first ∷ others) behind rest bad other e less =
    (others, let same : first ≡ bad = cc in ap (λ t. t ∷ others) same)
prefix-of (one ∷ before) [] behind rest bad other e less = absurd (omega arith)
prefix-of (one ∷ before) (first ∷ others) behind rest bad other e less =
    let same : first ≡ one = cc in
    let more = prefix-of before others behind rest bad other (cc) (omega arith) in
    (more.0, ap (λ t. t ∷ others) same ∙ ap (λ ts. one ∷ ts) more.1)

-- the first line that is none does not stand before another that is so
not_before : OneListOfKeys → (texts : List (List ℕ)) (number other : ℕ) → IsFirstBad texts number
    → IsFirstBad texts other → ¬ (number < other)
not_before unique texts number other bad also less =
    let more = prefix-of bad.before also.before bad.behind also.behind bad.bad also.bad (sym bad.parts ∙ also.parts)
    (omega (arith, bad.place, also.place)) in
    let at = says-at unique [] bad.before more.0 bad.bad bad.lines also.lines bad.said
    (subst (λ (ts : List (List ℕ)). Says [] ts also.lines) more.1 also.said) in
    bad.none at.0 at.1 at.2

pub one_first_bad : OneListOfKeys → (texts : List (List ℕ)) (number other : ℕ) → IsFirstBad texts number
    → IsFirstBad texts other → number ≡ other
one_first_bad unique texts number other bad also =
    elim (cases_order number other) [
      | inl same ↦ same
      | inr (inl less) ↦ absurd (not_before unique texts number other bad also less)
      | inr (inr more) ↦ absurd (not_before unique texts other number also bad more)
    ]
