-- A word asks for a look-up where it holds `#4`.
use Rattle.std.proofs.Common.{◌≡◌, ◌∙◌, ◌<◌, ◌≤◌, ◌+◌, ℕ, Bool, true, false, Option, None, Some, List, [], ◌∷◌}
use Rattle.std.proofs.Common.{◌++◌, inl, inr, length, length-append, take, drop, get_or, refl, sym, ap, arith, add-zero}
use Rattle.std.proofs.Common.{append_assoc, encode_utf8_all}
use Rattle.std.specs.List.{list_any}
use Rattle.std.specs.Option.{option_map_or}
use Rattle.std.specs.Bool.{MatchBool}
use Rattle.std.specs.Str.{chars, IsUtf8}
use Rattle.std.specs.Str.Pattern.{FindsText, HasMatch, LacksTextAt}
use Rattle.std.proofs.Math.Seq.{drop-append_seam}
use Rattle.std.proofs.lemmas.Bool.{or_cases}
use Rattle.std.proofs.lemmas.Bool.Decides.{nat_tests}
use Rattle.std.proofs.lemmas.List.{drop_all, get_or-drop, get_or-take, length-drop, length-take-le}
use Rattle.std.proofs.lemmas.Str.{chars-nil, encodes-append}
use Rattle.skk_text.specs.TextLaws.{chars-split}
use Rattle.numeric_entries.specs.declared.form.NumberForm.{NumberForm}
use Rattle.numeric_entries.specs.declared.form.NumberForm.TheVariants.{Lookup}
use Rattle.numeric_entries.specs.Forms.{stays, stands, form_of, form_named, parts_of, is_lookup, asks_lookup, Holds}
use Rattle.numeric_entries.proofs.Parts.{form_begun}

-- the form of a look-up is named by a 4
lookup_named : (c : ℕ) → form_named c ≡ Some Lookup → c ≡ 52
lookup_named c e = grind (arith, nat_tests)

-- the part of a form of a look-up is no other form
lookup_form : (c : ℕ) (form : NumberForm) → is_lookup (stands c form) ≡ true → form ≡ Lookup
lookup_form c form e = grind arith

abbrev pub mark : List ℕ
mark = 35 ∷ 52 ∷ []

-- whether a word asks for a look-up of which the first two characters may be a form
abbrev asks : (c next : ℕ) (word : List ℕ) → Option NumberForm → Bool
asks c next word found =
    list_any is_lookup
    (option_map_or (λ form. stands next form ∷ parts_of word) found (stays c ∷ parts_of (next ∷ word)))

-- a word that asks for a look-up holds the mark
asks-holds : (word : List ℕ) → asks_lookup word ≡ true → Holds mark word
asks-holds [] e = cc
asks-holds (c ∷ []) e = cc
asks-holds (c ∷ next ∷ word) e =
    by (form_of c next) refl e (asks-holds word) (asks-holds (next ∷ word))
  where
    by : (found : Option NumberForm) → form_of c next ≡ found → asks c next word found ≡ true
        → (asks_lookup word ≡ true → Holds mark word)
        → (asks_lookup (next ∷ word) ≡ true → Holds mark (next ∷ word)) → Holds mark (c ∷ next ∷ word)
    by None is e rest others =
        let held = others e in (c ∷ held.0, held.1, ap (λ text. c ∷ text) held.2)
    by (Some form) is e rest others =
        elim (or_cases (is_lookup (stands next form)) (asks_lookup word) e) [
          | inl here ↦ ([], word, grind (arith, form_begun c next, lookup_form next, lookup_named next))
          | inr later ↦
              let held = rest later in (c ∷ next ∷ held.0, held.1, ap (λ text. c ∷ next ∷ text) held.2)
        ]

-- a word that holds the mark asks for a look-up
holds-asks : (before behind : List ℕ) → asks_lookup (before ++ (mark ++ behind)) ≡ true
holds-asks [] behind = refl
holds-asks (c ∷ []) behind = grind arith
holds-asks (c ∷ next ∷ before) behind = grind (arith, holds-asks before behind, holds-asks (next ∷ before) behind)

-- a word asks for a look-up exactly where it holds the mark
pub asks_lookup-Holds : (word : List ℕ) → (asks_lookup word ≡ true → Holds mark word)
    × (Holds mark word → asks_lookup word ≡ true)
asks_lookup-Holds word = (asks-holds word, λ held. ap asks_lookup held.2 ∙ holds-asks held.0 held.1)

-- bytes that hold the mark are those of characters that hold it
bytes-hold : (bytes : List ℕ) (from to : ℕ) → IsUtf8 bytes → drop from bytes ≡ mark ++ drop to bytes
    → Holds mark (chars bytes)
bytes-hold bytes from to utf8 is =
    let first : get_or bytes from 0 ≡ 35 =
    ap (λ n. get_or bytes n 0) (sym (add-zero from)) ∙ sym (get_or-drop from bytes 0 0) ∙ ap (λ xs. get_or xs 0 0) is in
    let second : get_or bytes (from + 1) 0 ≡ 52 = sym (get_or-drop from bytes 1 0) ∙ ap (λ xs. get_or xs 1 0) is in
    let within : from + 1 < length bytes = omega (arith, ap length is, length-drop from bytes) in
    let end = chars-split bytes (from + 1) utf8 within (rw second (omega arith)) in
    let front = take (from + 1) bytes in
    let size : length front ≡ from + 1 = length-take-le (from + 1) bytes (omega arith) in
    let here : get_or front from 0 ≡ 35 = get_or-take (from + 1) bytes from 0 (omega arith) ∙ first in
    let begin = chars-split front from end.0 (omega arith) (rw here (omega arith)) in
    let none : drop (from + 1) front ≡ [] = drop_all (from + 1) front (omega arith) in
    let behind = chars (drop (from + 1 + 1) bytes) in (
      chars (take from front),
      behind,
      end.1 ∙ ap (λ cs. cs ++ get_or bytes (from + 1) 0 ∷ behind) begin.1
          ∙ rw (here, second, none, chars-nil) (append_assoc (chars (take from front)) (35 ∷ []) (52 ∷ behind)),
    )

-- the bytes of the mark before others
encode-mark : (text : List ℕ) → encode_utf8_all (mark ++ text) ≡ mark ++ encode_utf8_all text
unfolding lib.Utf8.encode
encode-mark text = refl

-- bytes that lack the mark are those of a word that lacks it
bytes-lack : (bytes word : List ℕ) → bytes ≡ encode_utf8_all word
    → ((i : ℕ) → i ≤ length bytes → LacksTextAt mark bytes i) → Holds mark word → ⊥
bytes-lack bytes word is lacks held =
    let before = encode_utf8_all held.0 in
    let behind = encode_utf8_all held.1 in
    let cut : bytes ≡ before ++ (mark ++ behind) =
    is ∙ ap encode_utf8_all held.2 ∙ encodes-append held.0 (mark ++ held.1)
    ∙ ap (λ bs. before ++ bs) (encode-mark held.1) in
    lacks (length before) (omega (arith, ap length cut, length-append before (mark ++ behind))) behind
    (ap (drop (length before)) cut ∙ drop-append_seam before (mark ++ behind))

-- a search for the mark in the bytes of a word tells whether the word holds it
pub found-Holds : (found : Bool) (bytes word : List ℕ) → IsUtf8 bytes → bytes ≡ encode_utf8_all word
    → chars bytes ≡ word → MatchBool found (HasMatch (FindsText mark) bytes) (FindsText mark bytes None)
    → (found ≡ true → Holds mark word) × (Holds mark word → found ≡ true)
found-Holds true bytes word utf8 is is_word match =
    let held = bytes-hold bytes match.0 match.1 utf8 match.2.1.split in
    (λ e. (held.0, held.1, sym is_word ∙ held.2), λ held. refl)
found-Holds false bytes word utf8 is is_word match = (λ e. cc, λ held. absurd (bytes-lack bytes word is match held))

-- a search for the mark tells whether the word asks for a look-up
pub found-asks_lookup : (found : Bool) (word : List ℕ)
    → ((found ≡ true → Holds mark word) × (Holds mark word → found ≡ true)) → found ≡ asks_lookup word
found-asks_lookup true word told = sym ((asks_lookup-Holds word).1 (told.0 refl))
found-asks_lookup false word told = by (asks_lookup word) refl
  where
    by : (asks : Bool) → asks_lookup word ≡ asks → false ≡ asks
    by true is = told.1 ((asks_lookup-Holds word).0 is)
    by false is = refl
