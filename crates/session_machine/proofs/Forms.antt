-- How parts of what is shown are printed.
use Rattle.std.proofs.Common.{◌≡◌, ◌<◌, ◌≤◌, ◌+◌, ◌%◌, ◌^◌, ◌∙◌, sym, ap, ℕ, true, false, Some, Result, Ok, Err, List}
use Rattle.std.proofs.Common.{◌++◌, ◌∷◌, [], length, drop, get_or, refl, arith, append_assoc, zero, suc}
use Rattle.std.proofs.Transfers.{starts_with_of_append, starts_with_of_eq, starts_with_trans}
use Rattle.std.specs.Fmt.{decimal}
use Rattle.std.specs.Io.{StartsWith}
use Rattle.std.specs.List.{repeat, slice_get}
use Rattle.std.specs.Result.{OnErr, OnOk}
use Rattle.std.specs.Str.{IsUtf8, chars}
use Rattle.std.proofs.lemmas.Bool.Decides.{nat_tests}
use Rattle.std.proofs.lemmas.Fmt.{decimal_by_steps}
use Rattle.std.proofs.lemmas.List.{drop_more, drop_all}
use Rattle.std.proofs.lemmas.List.Concat.{flat_map-append}
use Rattle.std.proofs.lemmas.List.Folds.{list_any_at}
use Rattle.std.proofs.lemmas.Option.{slice_get_within, get_or_from_slice_get}
use Rattle.std.proofs.lemmas.Str.{chars-append, chars-IsAscii, chars-nil}
use Rattle.skk_text.specs.Characters.{code}
use Rattle.skk_text.specs.Lists.{is_empty}
use Rattle.candidate_state.specs.Shown.{Shown}
use Rattle.session_machine.specs.Display.{escaped, has_escape, printed_form, first_text, first_note, lettered}
use Rattle.session_machine.specs.Display.{page_letters}
use Rattle.session_machine.proofs.Escapes.{plain}

-- parts are printed one behind the other
pub form-append : (text behind : List ℕ) → printed_form (text ++ behind) ≡ printed_form text ++ printed_form behind
form-append text behind = flat_map-append escaped text behind

-- a text that is put behind a page, and more behind it, are put there together
pub more : (page text behind : List ℕ) {one two : List ℕ} → one ≡ page ++ printed_form text
    → two ≡ one ++ printed_form behind → two ≡ page ++ printed_form (text ++ behind)
more page text behind e f =
    f ∙ ap (λ cs. cs ++ printed_form behind) e ∙ append_assoc page (printed_form text) (printed_form behind)
    ∙ ap (λ cs. page ++ cs) (sym (form-append text behind))

-- the characters of a text that stands several times
pub chars_repeat : (text : List ℕ) → IsUtf8 text → (times : ℕ) → chars (repeat times text) ≡ repeat times (chars text)
chars_repeat text valid zero = chars-nil
chars_repeat text valid (suc times) =
    chars-append text (repeat times text) valid ∙ ap (λ cs. chars text ++ cs) (chars_repeat text valid times)

-- a digit is printed as it is
digit-plain : (n : ℕ) → n < 10 → printed_form ((48 + n) ∷ []) ≡ (48 + n) ∷ []
digit-plain n small = ap (λ cs. cs ++ []) (plain (48 + n) (grind (arith, nat_tests)))

-- a number is printed as it is
pub decimal-plain : (n : ℕ) → n < 2 ^ 64 → printed_form (decimal n) ≡ decimal n
decimal-plain = decimal_by_steps (λ n ds. printed_form ds ≡ ds) digit-plain
    (λ n ds many shorter. form-append ds ((48 + n % 10) ∷ [])
    ∙ ap (λ cs. cs ++ printed_form ((48 + n % 10) ∷ [])) shorter
    ∙ ap (λ cs. ds ++ cs) (digit-plain (n % 10) (omega arith)))

-- the digits of a number are printed as they are
pub decimal-printed : (n : ℕ) → n < 2 ^ 64 → decimal n ≡ printed_form (decimal n)
decimal-printed n fits = sym (decimal-plain n fits)

-- the candidate of a place is the first of those from it on
pub first_text-at : (shown : List Shown) (place : ℕ) (cand : Shown) → slice_get shown place ≡ Some cand
    → first_text (drop place shown) ≡ cand.text
first_text-at shown place cand found =
    ap first_text (drop_more shown place cand (slice_get_within shown place cand found))
    ∙ ap (λ s. s.text) (get_or_from_slice_get shown place cand cand found)

-- so is its note
pub first_note-at : (shown : List Shown) (place : ℕ) (cand : Shown) → slice_get shown place ≡ Some cand
    → first_note (drop place shown) ≡ cand.cand.note
first_note-at shown place cand found =
    ap first_note (drop_more shown place cand (slice_get_within shown place cand found))
    ∙ ap (λ s. s.cand.note) (get_or_from_slice_get shown place cand cand found)

-- a text without a character is empty
pub empty-none : (text : List ℕ) → is_empty text ≡ true → text ≡ []
empty-none [] e = refl
empty-none (c ∷ text) e = cc

-- the letters of a page are printed as they are
letter-plain : (count : ℕ) → count < 7 → has_escape (get_or page_letters count 0) ≡ false
letter-plain count within = grind (arith, list_any_at has_escape page_letters count 0 within)

-- candidates behind their letters are printed as the first of them behind its letter, and the others behind theirs
lettered-some : (shown : List Shown) (count place : ℕ) (cand : Shown) → count < 7 → slice_get shown place ≡ Some cand
    → printed_form (lettered (drop count page_letters) (drop place shown))
    ≡ get_or page_letters count 0 ∷ code ":" ∷ printed_form cand.text ++ code " "
    ∷ printed_form (lettered (drop (count + 1) page_letters) (drop (place + 1) shown))
lettered-some shown count place cand within found =
    let letter = get_or page_letters count 0 in
    let others = lettered (drop (count + 1) page_letters) (drop (place + 1) shown) in
    ap (λ ls. printed_form (lettered ls (drop place shown))) (drop_more page_letters count 0 within)
    ∙ ap (λ cs. printed_form (lettered (letter ∷ drop (count + 1) page_letters) cs))
    (drop_more shown place cand (slice_get_within shown place cand found))
    ∙ ap (λ c. printed_form (letter ∷ code ":" ∷ c.text ++ code " " ∷ others))
    (get_or_from_slice_get shown place cand cand found)
    ∙ ap (λ cs. cs ++ code ":" ∷ printed_form (cand.text ++ code " " ∷ others))
    (plain letter (letter-plain count within))
    ∙ ap (λ cs. letter ∷ code ":" ∷ cs) (form-append cand.text (code " " ∷ others))

-- a page with the candidate of a place behind its letter, and with the others,
-- is the page before with that one and the others
pub lettered-next : (page next whole : List ℕ) (shown : List Shown) (count first : ℕ) (cand : Shown)
    → count < 7 → slice_get shown (first + count) ≡ Some cand
    → next ≡ page ++ get_or page_letters count 0 ∷ code ":" ∷ printed_form cand.text ++ code " " ∷ []
    → page ++ printed_form (lettered (drop count page_letters) (drop (first + count) shown)) ≡ whole
    → next ++ printed_form (lettered (drop (count + 1) page_letters) (drop (first + (count + 1)) shown)) ≡ whole
lettered-next page next whole shown count first cand within found added all =
    let one = get_or page_letters count 0 ∷ code ":" ∷ printed_form cand.text in
    let others = printed_form (lettered (drop (count + 1) page_letters) (drop (first + count + 1) shown)) in
    let place : first + (count + 1) ≡ first + count + 1 = omega arith in
    ap (λ place. next ++ printed_form (lettered (drop (count + 1) page_letters) (drop place shown))) place
    ∙ ap (λ cs. cs ++ others) added ∙ append_assoc (page ++ one) (code " " ∷ []) others
    ∙ append_assoc page one (code " " ∷ others)
    ∙ ap (λ cs. page ++ cs) (sym (lettered-some shown count (first + count) cand within found)) ∙ all

-- where no candidate is left, nothing is printed
pub lettered-none : (letters : List ℕ) (shown : List Shown) (place : ℕ) → length shown ≤ place
    → printed_form (lettered letters (drop place shown)) ≡ []
lettered-none letters shown place past =
    ap (λ cs. printed_form (lettered letters cs)) (drop_all place shown past) ∙ none letters
  where
    none : (letters : List ℕ) → printed_form (lettered letters []) ≡ []
    none [] = refl
    none (letter ∷ letters) = refl

pub ruleset numbers = decimal-printed

pub ruleset first_shown = (first_text-at, first_note-at)

pub ruleset ascii = chars-IsAscii

-- a page begins with what it was, whether a text was put behind it or memory was out
pub kept-put : {T E : Type 0} (result : Result T E) (page added after : List ℕ)
    → OnOk result (after ≡ page ++ added) → OnErr result (after ≡ page) → StartsWith after page
kept-put (Ok value) page added after ok err = starts_with_of_append after page added ok
kept-put (Err fault) page added after ok err = starts_with_of_eq after page err

pub ruleset kept = (starts_with_trans, starts_with_of_append, starts_with_of_eq, kept-put)
