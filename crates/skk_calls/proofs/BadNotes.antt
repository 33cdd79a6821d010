-- The first character of a note that no note has, and where it stands.
use Rattle.std.proofs.Common.{◌≡◌, ℕ, Bool, true, false, not, List, [], ◌∷◌, ◌++◌, ◌∙◌, Option, Some, None, MatchOption}
use Rattle.std.proofs.Common.{sym, ap, refl, length, take, drop, arith}
use Rattle.std.specs.Str.{chars, IsUtf8, IsCharBoundary, NonePass, NoCharPasses}
use Rattle.std.specs.Str.Pattern.{HasPassingCharAt, FindsBy, MatchBeginsAt}
use Rattle.std.specs.Char.{char_set_contains}
use Rattle.std.proofs.lemmas.Bool.{and_from}
use Rattle.std.proofs.lemmas.Bool.Decides.{nat_tests}
use Rattle.std.proofs.lemmas.List.{take-append-drop, length-take-le, nil_from_length}
use Rattle.std.proofs.lemmas.Str.{IsUtf8-take, IsUtf8-drop, chars-append, chars_past_char, chars_from_encodes}
use Rattle.std.proofs.lemmas.Str.{encodes-chars, length-le-encodes}
use Rattle.skk_text.specs.Text.{byte_len}
use Rattle.skk_calls.specs.Rows.{is_note, is_note_char, IsBadNote}

-- the characters that no note has
abbrev pub bad_chars : List ℕ
bad_chars = 0x2F ∷ 13 ∷ 10 ∷ []

-- a character is one of them where it is no note's
bad_char : (c : ℕ) → is_note_char c ≡ not (char_set_contains bad_chars c)
bad_char c = ap not (grind (arith, nat_tests))

-- a character that is none of them may stand in a note
good_char : (c : ℕ) → char_set_contains bad_chars c ≡ false → is_note_char c ≡ true
good_char c h = bad_char c ∙ ap not h

-- characters of which none is bad are a note
none_bad : (text : List ℕ) → NonePass (char_set_contains bad_chars) text → is_note text ≡ true
none_bad [] h = refl
none_bad (c ∷ text) h = and_from (is_note_char c) (is_note text) (good_char c h.0) (none_bad text h.1)

-- the characters of bytes where none is found are a note
pub note-not_found : (bytes : List ℕ) → IsUtf8 bytes → NoCharPasses (char_set_contains bad_chars) bytes
    → is_note (chars bytes) ≡ true
note-not_found bytes utf8 (text, e, none) =
    ap is_note (sym (chars_from_encodes text bytes utf8 e)) ∙ none_bad text none

-- the first that is found is a fault at that byte
pub bad_note-found : (bytes : List ℕ) (at past : ℕ) → IsUtf8 bytes
    → NoCharPasses (char_set_contains bad_chars) (take at bytes)
    → HasPassingCharAt (char_set_contains bad_chars) bytes at past → IsCharBoundary bytes at
    → IsBadNote (chars bytes) at
bad_note-found bytes at past utf8 none (c, bad, here) cut =
    let front : IsUtf8 (take at bytes) = IsUtf8-take bytes at utf8 cut in
    let split : chars bytes ≡ chars (take at bytes) ++ c ∷ chars (drop past bytes) =
    ap chars (sym (take-append-drop at bytes)) ∙ chars-append (take at bytes) (drop at bytes) front
    ∙ ap (λ cs. chars (take at bytes) ++ cs)
    (chars_past_char (drop at bytes) (drop past bytes) c (IsUtf8-drop bytes at utf8 cut) here.split) in
    let place : at ≡ byte_len (chars (take at bytes)) =
    sym (length-take-le at bytes cut.0) ∙ ap length (sym (encodes-chars (take at bytes) front)) in (
      chars (take at bytes),
      c,
      chars (drop past bytes),
      split,
      note-not_found (take at bytes) front none,
      bad_char c ∙ ap not bad,
      place,
    )

-- what a search for these characters gives
abbrev pub Searched : List ℕ → Option (ℕ × ℕ) → Type 0
Searched bytes r = (test : ℕ → Bool) → ((c : ℕ) → char_set_contains bad_chars c ≡ test c) → FindsBy test bytes r

-- a search gives the place of the first fault, or there is none
pub bad_note-searched : (bytes : List ℕ) → IsUtf8 bytes → (r : Option ℕ)
    → MatchOption r (Searched bytes None) (MatchBeginsAt Searched bytes)
    → MatchOption r (is_note (chars bytes) ≡ true) (IsBadNote (chars bytes))
bad_note-searched bytes utf8 None h = note-not_found bytes utf8 (h (char_set_contains bad_chars) (λ c. refl))
bad_note-searched bytes utf8 (Some at) (past, h, order, cut, cut_past) =
    let found = h (char_set_contains bad_chars) (λ c. refl) in
    bad_note-found bytes at past utf8 found.0 found.1 cut

-- a text is empty where it has no bytes
pub no_bytes : (text : List ℕ) → byte_len text ≡ 0 → text ≡ []
no_bytes text e = nil_from_length text (omega (arith, length-le-encodes text))

-- what comes before the first fault is one text
same_front : (front other back rest : List ℕ) (c d : ℕ) → is_note front ≡ true → is_note other ≡ true
    → is_note_char c ≡ false → is_note_char d ≡ false → front ++ c ∷ back ≡ other ++ d ∷ rest → front ≡ other
same_front [] [] back rest c d f o b g e = refl
same_front [] (x ∷ other) back rest c d f o b g e = grind arith
same_front (x ∷ front) [] back rest c d f o b g e = grind arith
same_front (x ∷ front) (y ∷ other) back rest c d f o b g e = grind (arith, same_front front other back rest c d)

-- so the first fault is at one place
pub fault-one_place : (note : List ℕ) (at place : ℕ) → IsBadNote note at → IsBadNote note place → at ≡ place
fault-one_place note at place (front, c, back, e, good, bad, is) (other, d, rest, f, fine, worse, too) =
    is ∙ ap byte_len (same_front front other back rest c d good fine bad worse (sym e ∙ f)) ∙ sym too
