-- Words as characters and as bytes.
use Rattle.std.proofs.Common.{◌≡◌, ◌<◌, ◌≤◌, ◌+◌, ◌^◌, ◌∙◌, ◌≢◌, ◌&&◌, ◌==◌, ◌⊎◌, sym, ap, ℕ, suc, Bool, true, false}
use Rattle.std.proofs.Common.{not, if◌then◌else◌, None, Some, List, [], ◌∷◌, ◌++◌, length, take, drop, get_or, refl}
use Rattle.std.proofs.Common.{subst, arith, inl, inr, ap₂, Decides, nat_le, nat_lt, zero, length-append}
use lib.Utf8.{encode, encodes}
use Rattle.std.specs.Fmt.{decimal}
use Rattle.std.specs.List.{AllByRecursion, list_all}
use Rattle.std.specs.Option.{option_map}
use Rattle.std.specs.Str.{chars, bytes_eq, IsUtf8, IsAscii}
use Rattle.std.specs.Str.Parse.{digits_value, IsNumeral}
use Rattle.std.proofs.lemmas.Bool.{cases_lt, and_parts, false_from_ne_true, ne_eqb, eq-eqb, ltb-true}
use Rattle.std.proofs.lemmas.Bool.{leb-true, le-leb, lt-leb, eqb-true}
use Rattle.std.proofs.lemmas.Fmt.{decimal_is_IsNumeral}
use Rattle.std.proofs.Math.Seq.{drop-append-add}
use Rattle.std.proofs.lemmas.List.{get_or-append-add, get_or_at, get_or_past, take_at}
use Rattle.std.proofs.lemmas.Slice.Eq.{bytes_eq-Decides}
use Rattle.std.proofs.lemmas.Str.{byte_from_char, char_from_byte, encode_ascii, encodes-chars, chars-IsAscii}
use Rattle.std.proofs.lemmas.Str.{encodes-IsAscii, encodes-append, length-le-encodes}
use Rattle.std.proofs.lemmas.Str.Parse.{digit_at}
use Rattle.skk_text.specs.TextLaws.{chars-split}
use Rattle.skk_calls.specs.BookLists.{is_book_list}
use Rattle.command_line.specs.Ranges.{LiesFrom}
use Rattle.command_line.specs.Words.{is_name, number_within, cut, with_character, with_commas}

-- the empty text has no characters
pub empty : chars [] ≡ []
unfolding chars
empty = refl

-- a text begins with `-` where its bytes do
first-test : (b : Bool) (c : ℕ) (bs rest : List ℕ) → bs ≡ encode c ++ rest → 0 < length bs
    → Decides b (get_or bs 0 0 ≡ 45) → not b ≡ not (c == 45)
first-test b c bs rest e some decides =
    grind (arith, decides.0, decides.1, char_from_byte bs rest c e, byte_from_char bs rest c e)

name-of : (cs bs : List ℕ) (b : Bool) → encodes cs ≡ bs → 0 < length bs → Decides b (get_or bs 0 0 ≡ 45)
    → not b ≡ is_name cs
name-of [] bs b e some decides = absurd (omega (arith, ap length e))
name-of (c ∷ cs) bs b e some decides = first-test b c bs (encodes cs) (sym e) some decides

pub text-name : (bs : List ℕ) (b : Bool) → IsUtf8 bs → 0 < length bs → Decides b (get_or bs 0 0 ≡ 45)
    → not b ≡ is_name (chars bs)
text-name bs b utf8 some decides = name-of (chars bs) bs b (encodes-chars bs utf8) some decides

pub no-name : (bs : List ℕ) → length bs ≡ 0 → is_name (chars bs) ≡ false
unfolding chars
no-name [] none = refl
no-name (b ∷ bs) none = absurd (omega (arith, none))

-- a text of ASCII, by a test that computes
abbrev pub is_ascii : List ℕ → Bool
is_ascii text = list_all (λ c. nat_lt c 128) text

pub ascii : (text : List ℕ) → is_ascii text ≡ true → IsAscii text
ascii [] all place = omega (arith, get_or_past {X = ℕ} [] place 0 (omega arith))
ascii (c ∷ cs) all zero = ltb-true c 128 (and_parts (nat_lt c 128) (is_ascii cs) all).0
ascii (c ∷ cs) all (suc place) = ascii cs (and_parts (nat_lt c 128) (is_ascii cs) all).1 place

-- a word is such a text where its bytes are
pub spelled : (bytes word text : List ℕ) → chars bytes ≡ word → bytes ≡ text → is_ascii text ≡ true → word ≡ text
spelled bytes word text characters is own = sym characters ∙ ap chars is ∙ chars-IsAscii text (ascii text own)

pub not-spelled : (bytes word text : List ℕ) → IsUtf8 bytes → chars bytes ≡ word → bytes ≢ text
    → is_ascii text ≡ true → word ≢ text
not-spelled bytes word text utf8 characters differs own =
    λ is. differs (sym (encodes-chars bytes utf8) ∙ ap encodes (characters ∙ is)
    ∙ encodes-IsAscii text (ascii text own))

-- the digits of a number are ASCII
decimal-ascii : (number : ℕ) → number < 2 ^ 64 → IsAscii (decimal number)
decimal-ascii number small place =
    let numeral = decimal_is_IsNumeral number small in
    elim (cases_lt place (length (decimal number))) [
      | inl within ↦ let digit = digit_at (decimal number) place numeral.0.1 within in omega arith
      | inr past ↦
          let e : get_or (decimal number) place 0 ≡ 0 = get_or_past (decimal number) place 0 past in omega arith
    ]

-- a number that is written is read where it is within its bounds
same-bytes : (xs : List ℕ) → bytes_eq xs xs ≡ true
same-bytes xs = (bytes_eq-Decides xs xs).1 refl

written : (least most number : ℕ) → number < 2 ^ 64 → number_within least most (chars (decimal number))
    ≡ (if nat_le least number && nat_le number most then Some number else None)
written least most number small =
    let value : digits_value 10 (decimal number) ≡ number = (decimal_is_IsNumeral number small).1 in
    ap (number_within least most) (chars-IsAscii (decimal number) (decimal-ascii number small))
    ∙ ap (λ n. if bytes_eq (decimal number) (decimal n) && (nat_le least n && nat_le n most) then Some n else None)
    value
    ∙ ap (λ b. if b && (nat_le least number && nat_le number most) then Some number else None)
    (same-bytes (decimal number))

pub number-read : (bs : List ℕ) (least most number : ℕ) → bs ≡ decimal number → number < 2 ^ 64 → least ≤ number
    → number ≤ most → Some number ≡ number_within least most (chars bs)
number-read bs least most number e small above below =
    grind (arith, written least most number small, le-leb least number, le-leb number most)

pub number-beyond : (bs : List ℕ) (least most number : ℕ) → bs ≡ decimal number → number < 2 ^ 64
    → (number < least) ⊎ (most < number) → None ≡ number_within least most (chars bs)
number-beyond bs least most number e small out =
    grind (arith, written least most number small, lt-leb least number, lt-leb number most)

-- a text that is no number's is none within bounds
pub no-number : (bs : List ℕ) (least most : ℕ) → IsUtf8 bs → most < 2 ^ 64
    → ((number : ℕ) → number < 2 ^ 64 → bs ≢ decimal number) → None ≡ number_within least most (chars bs)
no-number bs least most utf8 small none =
    let number = digits_value 10 (chars bs) in
    let told : (bytes_eq (chars bs) (decimal number) && (nat_le least number && nat_le number most)) ≡ false =
    false_from_ne_true _ (λ is.
    let parts = and_parts (bytes_eq (chars bs) (decimal number)) (nat_le least number && nat_le number most) is in
    let bounds = and_parts (nat_le least number) (nat_le number most) parts.1 in
    let below : number ≤ most = leb-true number most bounds.1 in
    let fits : number < 2 ^ 64 = omega arith in
    let same : chars bs ≡ decimal number = (bytes_eq-Decides (chars bs) (decimal number)).0 parts.0 in
    none number fits
    (sym (encodes-chars bs utf8) ∙ ap encodes same ∙ encodes-IsAscii (decimal number) (decimal-ascii number fits))) in
    sym (ap (λ b. if b then Some number else None) told)

-- characters of whose bytes none is one of ASCII are cut nowhere, and before that one where it follows them
module _ (at : ℕ) (small : at < 128) where
  differs : (c : ℕ) (cs : List ℕ)
      → ((k : ℕ) → k < length (encodes (c ∷ cs)) → get_or (encodes (c ∷ cs)) k 0 ≢ at) → (c == at) ≡ false
  differs c cs none =
      ne_eqb c at (λ is.
      let alone : encode c ≡ c ∷ [] = encode_ascii c (omega (arith, small)) in
      none 0 (omega (arith, length-append (encode c) (encodes cs), ap length alone))
      (ap (λ bs. get_or (bs ++ encodes cs) 0 0) alone ∙ is))

  behind-first : (c : ℕ) (cs : List ℕ)
      → ((k : ℕ) → k < length (encodes (c ∷ cs)) → get_or (encodes (c ∷ cs)) k 0 ≢ at)
      → (k : ℕ) → k < length (encodes cs) → get_or (encodes cs) k 0 ≢ at
  behind-first c cs none k within = λ is.
      none (length (encode c) + k) (omega (arith, length-append (encode c) (encodes cs), within))
      (get_or-append-add (encode c) (encodes cs) k 0 ∙ is)

  uncut : (cs : List ℕ) → ((k : ℕ) → k < length (encodes cs) → get_or (encodes cs) k 0 ≢ at) → cut at cs ≡ None
  uncut [] none = refl
  uncut (c ∷ cs) none = grind (arith, differs c cs none, uncut cs (behind-first c cs none))

  cut-behind : (cs rest : List ℕ) → ((k : ℕ) → k < length (encodes cs) → get_or (encodes cs) k 0 ≢ at)
      → cut at (cs ++ at ∷ rest) ≡ Some (cs, rest)
  cut-behind [] rest none = ap (λ b. if b then Some ([], rest) else option_map (with_character at) (cut at rest))
      (eq-eqb at at refl)
  cut-behind (c ∷ cs) rest none =
      grind (arith, differs c cs none, cut-behind cs rest (behind-first c cs none))

  -- so is a text
  abbrev Lacks : List ℕ → Type 0
  Lacks bs = (k : ℕ) → k < length bs → get_or bs k 0 ≢ at

  pub text-uncut : (bs : List ℕ) → IsUtf8 bs → Lacks bs → cut at (chars bs) ≡ None
  text-uncut bs utf8 none = uncut (chars bs) (subst Lacks (sym (encodes-chars bs utf8)) none)

  pub text-cut : (bs front behind : List ℕ) → IsUtf8 bs → bs ≡ front ++ at ∷ behind → Lacks front
      → cut at (chars bs) ≡ Some (chars front, chars behind)
  text-cut bs front behind utf8 e none =
      let place = length front in
      let long : length bs ≡ length front + suc (length behind) = ap length e ∙ length-append front (at ∷ behind) in
      let byte : get_or bs place 0 ≡ at = ap (λ t. get_or t place 0) e ∙ get_or_at front at behind 0 place refl in
      let parts = chars-split bs place utf8 (omega (arith, long)) (omega (arith, byte, small)) in
      let before : take place bs ≡ front = ap (take place) e ∙ take_at front (at ∷ behind) place refl in
      let after : drop (place + 1) bs ≡ behind = ap (drop (place + 1)) e ∙ drop-append-add front (at ∷ behind) 1 in
      let whole : chars bs ≡ chars front ++ at ∷ chars behind =
      parts.1 ∙ ap (λ t. chars t ++ get_or bs place 0 ∷ chars (drop (place + 1) bs)) before
      ∙ ap (λ b. chars front ++ b ∷ chars (drop (place + 1) bs)) byte
      ∙ ap (λ t. chars front ++ at ∷ chars t) after in
      let own : encodes (chars front) ≡ front = encodes-chars front (subst IsUtf8 before parts.0) in
      ap (cut at) whole ∙ cut-behind (chars front) (chars behind) (subst Lacks (sym own) none)

-- the bytes of a name are one, and so are those of a number, which are its digits
pub name-bytes : (word : List ℕ) → is_name word ≡ true → is_name (encodes word) ≡ true
name-bytes [] name = absurd (cc)
name-bytes (c ∷ cs) name = by (encodes (c ∷ cs)) refl
  where
    by : (bs : List ℕ) → encodes (c ∷ cs) ≡ bs → is_name bs ≡ true
    by [] e = absurd (omega (arith, ap length e, length-le-encodes (c ∷ cs)))
    by (b ∷ bs) e = name-of (c ∷ cs) (b ∷ bs) (b == 45) e (omega arith) (eqb-true b 45, eq-eqb b 45) ∙ name

pub decimal-bytes : (number : ℕ) → number < 2 ^ 64
    → (encodes (decimal number) ≡ decimal number) × (is_name (decimal number) ≡ true)
decimal-bytes number small =
    let numeral = (decimal_is_IsNumeral number small).0 in
    (encodes-IsAscii (decimal number) (decimal-ascii number small), by (decimal number) numeral)
  where
    by : (ds : List ℕ) → IsNumeral 10 ds → is_name ds ≡ true
    by [] numeral = absurd (omega (arith, numeral.0))
    by (d ∷ ds) numeral =
        let digit = digit_at (d ∷ ds) 0 numeral.1 (omega arith) in
        ap not (ne_eqb d 45 (λ is. omega (arith, digit, is)))

-- numbers of a list of books with a comma between are their bytes, and no flag
name-more : (word more : List ℕ) → is_name word ≡ true → is_name (word ++ more) ≡ true
name-more [] more name = absurd (cc)
name-more (c ∷ cs) more name = name

numbers-bytes : (number : ℕ) (numbers : List ℕ) → AllByRecursion (LiesFrom 0 65535) (number ∷ numbers)
    → (encodes (with_commas (number ∷ numbers)) ≡ with_commas (number ∷ numbers))
    × (is_name (with_commas (number ∷ numbers)) ≡ true)
unfolding encode
numbers-bytes number [] lie = decimal-bytes number (omega (arith, lie.0.1))
numbers-bytes number (next ∷ numbers) lie =
    let own = decimal-bytes number (omega (arith, lie.0.1)) in
    let rest = numbers-bytes next numbers lie.1 in
    let more = with_commas (next ∷ numbers) in (
      encodes-append (decimal number) (44 ∷ more)
          ∙ ap₂ (λ (front back : List ℕ). front ++ 44 ∷ back) own.0 rest.0,
      name-more (decimal number) (44 ∷ more) own.1,
    )

pub commas-bytes : (books : List ℕ) → is_book_list books ≡ true → AllByRecursion (LiesFrom 0 65535) books
    → (encodes (with_commas books) ≡ with_commas books) × (is_name (with_commas books) ≡ true)
commas-bytes [] list lie = absurd (cc)
commas-bytes (number ∷ numbers) list lie = numbers-bytes number numbers lie
