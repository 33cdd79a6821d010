-- The definitions at small texts, each worked out by hand.
use Rattle.std.proofs.Common.{◌≡◌, ℕ, ◌==◌, Bool, true, false, ◌&&◌, nat_le, cond, inl, inr, Option, None, Some}
use Rattle.std.proofs.Common.{suc, List, [], ◌∷◌, ◌++◌, codes, map, refl, ap, ◌∙◌, arith}
use Rattle.std.specs.Int.{w16, w32, w64}
use Rattle.exact_readers.specs.Cuts.{cut, up_to, without_spaces}
use Rattle.exact_readers.specs.Exact.{AreAll, IsWhole}
use Rattle.exact_readers.specs.Formats.{Format, SpellsMany, all, before, behind, both, checked, either, ended_by}
use Rattle.exact_readers.specs.Formats.{literal, mapped, one_as, one_whole, past, taken, whole}
use Rattle.exact_readers.specs.Lacking.{lacks}
use Rattle.exact_readers.specs.Lines.{IsCutOff, IsFirstLine, StandsAt, is_line_feed, with_line_end, without_return}
use Rattle.exact_readers.specs.Numbers.{number, number_bytes, number_of, number_step}
use Rattle.exact_readers.specs.Trimming.{is_blank, trimmed_line, without_blanks, without_mark}

-- a function gives what a table says of each argument
abbrev Gives : {X Y : Type 0} → (X → Y) → List (X × Y) → Type 0
Gives f table = map (λ line. f line.0) table ≡ map (λ line. line.1) table

-- Cuts

abbrev is_slash : ℕ → Bool
is_slash c = c == 0x2F

-- a text is cut at its first slash, wherever that stands, and not where it has none
cuts : Gives (cut is_slash) (
    (codes "ab/cd/e", Some (codes "ab", codes "cd/e")) ∷ (codes "/a", Some ([], codes "a"))
    ∷ (codes "a/", Some (codes "a", [])) ∷ (codes "/", Some ([], [])) ∷ (codes "ab", None) ∷ ([], None)
    ∷ [])
cuts = refl

up_to_slash : (up_to is_slash).Spells (codes "ab") (codes "ab/")
up_to_slash = (0x2F, refl, refl, refl)

reads_up_to : Gives (up_to is_slash).step ((codes "ab/c", Some (codes "ab", codes "c")) ∷ (codes "ab", None) ∷ [])
reads_up_to = refl

spaces_before : Gives without_spaces (
    (codes "  a b ", codes "a b ") ∷ (codes "a", codes "a") ∷ (codes "   ", []) ∷ ([], [])
    ∷ (9 ∷ 0x20 ∷ [], 9 ∷ 0x20 ∷ []) ∷ (codes "!a", codes "!a")
    ∷ [])
spaces_before = refl

slashes_lack : Gives (lacks 0x2F) (
    ([], true) ∷ (codes "ab", true) ∷ (codes "/ab", false) ∷ (codes "ab/", false) ∷ (codes ".0", true)
    ∷ [])
slashes_lack = refl

-- Formats

-- a letter from `a` to `z`
abbrev letter_of : ℕ → Option ℕ
letter_of c = cond (nat_le 0x61 c && nat_le c 0x7A) (Some c) None

abbrev letter : Format ℕ ℕ
letter = one_as letter_of

-- a digit as its value, and the value of a digit that is less than 5
abbrev digit : Format ℕ ℕ
digit = one_as (λ c. cond (c == 0x31) (Some 1) (cond (c == 0x37) (Some 7) None))

abbrev small : ℕ → Option ℕ
small n = cond (nat_le n 4) (Some n) None

one_letter : Gives letter.step (
    (codes "ab", Some (0x61, codes "b")) ∷ (codes "z", Some (0x7A, [])) ∷ (codes "1a", None) ∷ ([], None)
    ∷ [])
one_letter = refl

words_past : Gives (past (codes "ab")) (
    (codes "abc", Some (codes "c")) ∷ (codes "ab", Some []) ∷ (codes "a", None) ∷ (codes "acb", None)
    ∷ (codes "bab", None) ∷ ([], None)
    ∷ [])
words_past = refl

nothing_past : Gives (past []) ((codes "ab", Some (codes "ab")) ∷ ([], Some []) ∷ [])
nothing_past = refl

one_word : Gives (literal (codes "ab")).step ((codes "abc", Some (codes "ab", codes "c")) ∷ (codes "b", None) ∷ [])
one_word = refl

letter_behind : Gives (behind (codes "12") letter).step (
    (codes "12ab", Some (0x61, codes "b")) ∷ (codes "a12", None) ∷ (codes "12", None) ∷ (codes "1a", None)
    ∷ (codes "a", None)
    ∷ [])
letter_behind = refl

letter_before : Gives (before letter (codes "12")).step (
    (codes "a12b", Some (0x61, codes "b")) ∷ (codes "12a", None) ∷ (codes "a1", None) ∷ (codes "a", None) ∷ ([], None)
    ∷ [])
letter_before = refl

letter_and_digit : Gives (both letter digit).step (
    (codes "a7b", Some ((0x61, 7), codes "b")) ∷ (codes "7a", None) ∷ (codes "ab", None) ∷ (codes "a", None)
    ∷ ([], None)
    ∷ [])
letter_and_digit = refl

-- what both formats read is read in the first
letter_or_digit : Gives (either letter digit).step (
    (codes "a7", Some (0x61, codes "7")) ∷ (codes "7a", Some (7, codes "a")) ∷ (codes "/", None) ∷ ([], None)
    ∷ [])
letter_or_digit = refl

first_of_either : (either digit (one_as (λ c. Some c))).step (codes "7") ≡ Some (7, [])
first_of_either = refl

next_of_digit : Gives (mapped suc digit).step ((codes "7a", Some (8, codes "a")) ∷ (codes "a", None) ∷ [])
next_of_digit = refl

small_digit : Gives (checked small digit).step
    ((codes "1a", Some (1, codes "a")) ∷ (codes "7a", None) ∷ (codes "a", None) ∷ [])
small_digit = refl

-- numbers of each width: the least byte first, of enough tokens that are bytes
numbers_of_two : Gives (number w16).step (
    (1 ∷ 2 ∷ 7 ∷ [], Some (513, 7 ∷ [])) ∷ (255 ∷ 255 ∷ [], Some (65535, [])) ∷ (1 ∷ [], None) ∷ ([], None)
    ∷ (256 ∷ 0 ∷ [], None) ∷ (0 ∷ 256 ∷ [], None) ∷ (0 ∷ 1 ∷ 256 ∷ [], Some (256, 256 ∷ []))
    ∷ [])
unfolding number_of number_step
numbers_of_two = refl

numbers_of_four : Gives (number w32).step (
    (1 ∷ 2 ∷ 3 ∷ 4 ∷ 5 ∷ [], Some (67305985, 5 ∷ [])) ∷ (0 ∷ 0 ∷ 0 ∷ 1 ∷ [], Some (16777216, []))
    ∷ (1 ∷ 2 ∷ 3 ∷ [], None)
    ∷ [])
unfolding number_of number_step
numbers_of_four = refl

numbers_of_eight : Gives (number w64).step (
    (0 ∷ 1 ∷ 0 ∷ 0 ∷ 0 ∷ 0 ∷ 0 ∷ 1 ∷ 9 ∷ [], Some (72057594037928192, 9 ∷ []))
    ∷ (1 ∷ 2 ∷ 3 ∷ 4 ∷ 5 ∷ 6 ∷ 7 ∷ [], None)
    ∷ [])
unfolding number_of number_step
numbers_of_eight = refl

two_bytes : map (number_bytes w16) (513 ∷ 0 ∷ 65535 ∷ []) ≡ (1 ∷ 2 ∷ []) ∷ (0 ∷ 0 ∷ []) ∷ (255 ∷ 255 ∷ []) ∷ []
unfolding number_bytes
two_bytes = refl

-- what is spelled
word_spelled : (literal (codes "ab")).Spells (codes "ab") (codes "ab")
word_spelled = (refl, refl)

behind_spelled : (behind (codes "12") letter).Spells 0x61 (codes "12a")
behind_spelled = (codes "a", (0x61, refl, refl), refl)

before_spelled : (before letter (codes "12")).Spells 0x61 (codes "a12")
before_spelled = (codes "a", (0x61, refl, refl), refl)

both_spelled : (both letter digit).Spells (0x61, 7) (codes "a7")
both_spelled = (codes "a", codes "7", (0x61, refl, refl), (0x37, refl, refl), refl)

first_spelled : (either letter digit).Spells 0x61 (codes "a")
first_spelled = inl (0x61, refl, refl)

second_spelled : (either letter digit).Spells 7 (codes "7")
second_spelled = inr (0x37, refl, refl)

made_spelled : (mapped suc digit).Spells 8 (codes "7")
made_spelled = (7, (0x37, refl, refl), refl)

checked_spelled : (checked small digit).Spells 1 (codes "1")
checked_spelled = (1, (0x31, refl, refl), refl)

-- Many values

letters_taken : Gives (taken letter.step) (
    (codes "ab1c", (codes "ab", codes "1c")) ∷ (codes "ab", (codes "ab", [])) ∷ (codes "1ab", ([], codes "1ab"))
    ∷ ([], ([], []))
    ∷ [])
unfolding taken
letters_taken = refl

letters_ended : Gives (ended_by (literal (codes "12")) letter).step (
    (codes "ab12c", Some (codes "ab", codes "c")) ∷ (codes "12", Some ([], [])) ∷ (codes "ab1", None)
    ∷ (codes "ab", None)
    ∷ [])
unfolding taken
letters_ended = refl

many_spelled : SpellsMany letter.Spells (codes "ab") (codes "ab")
many_spelled = (codes "a", codes "b", (0x61, refl, refl), (codes "b", [], (0x62, refl, refl), refl, refl), refl)

ended_spelled : (ended_by (literal (codes "12")) letter).Spells (codes "a") (codes "a12")
ended_spelled =
    (codes "a", codes "12", codes "12", (codes "a", [], (0x61, refl, refl), refl, refl), (refl, refl), refl)

-- Whole texts

whole_letter : Gives (whole letter) ((codes "a", Some 0x61) ∷ (codes "ab", None) ∷ (codes "1", None) ∷ ([], None) ∷ [])
whole_letter = refl

whole_texts : Gives (one_whole letter).step (
    (codes "a" ∷ codes "bc" ∷ [], Some (0x61, codes "bc" ∷ [])) ∷ (codes "bc" ∷ codes "a" ∷ [], None) ∷ ([], None)
    ∷ [])
whole_texts = refl

all_letters : Gives (all letter) (
    (codes "ab", Some (codes "ab")) ∷ ([], Some []) ∷ (codes "ab1", None) ∷ (codes "1ab", None)
    ∷ [])
unfolding taken
all_letters = refl

letter_whole : IsWhole letter (codes "a") (Some 0x61)
letter_whole = (0x61, refl, refl)

letters_all : AreAll letter (codes "a") (Some (codes "a"))
letters_all = (codes "a", [], (0x61, refl, refl), refl, refl)

-- what spells no value
no_letter_whole : IsWhole letter (codes "1") None
no_letter_whole a (x, made, refl) = cc

no_letters_all : AreAll letter (codes "1") None
no_letters_all [] is = cc
no_letters_all (a ∷ more) (front, back, (x, made, here), rest, is) =
    by x back made (is ∙ ap (λ tokens. tokens ++ back) here)
  where
    by : (x : ℕ) (back : List ℕ) → letter_of x ≡ Some a → codes "1" ≡ x ∷ back → ⊥
    by x back made refl = cc

-- Lines

-- a line with its end, and a last one without
line_cut_off : IsCutOff (0x61 ∷ 10 ∷ 0x62 ∷ []) (codes "a") (codes "b")
line_cut_off = inl refl

last_line_cut_off : IsCutOff (codes "ab") (codes "ab") []
last_line_cut_off = inr (refl, refl)

first_line : IsFirstLine (0x61 ∷ 10 ∷ 0x62 ∷ []) (codes "a") (codes "b")
first_line = (refl, omega arith, inl refl)

stands_at : StandsAt (codes "abcd") 1 (codes "bc")
stands_at = (codes "a", codes "d", refl, refl)

line_feeds : Gives is_line_feed ((10, true) ∷ (13, false) ∷ (9, false) ∷ (11, false) ∷ [])
line_feeds = refl

-- one CR goes, at the end alone
returns_gone : Gives without_return (
    (0x61 ∷ 13 ∷ [], codes "a") ∷ (0x61 ∷ 13 ∷ 13 ∷ [], 0x61 ∷ 13 ∷ []) ∷ (13 ∷ 0x61 ∷ [], 13 ∷ 0x61 ∷ [])
    ∷ (13 ∷ [], []) ∷ ([], []) ∷ (codes "a", codes "a") ∷ (0x61 ∷ 10 ∷ [], 0x61 ∷ 10 ∷ []) ∷ (14 ∷ [], 14 ∷ [])
    ∷ [])
returns_gone = refl

lines_ended : Gives with_line_end ((codes "ab", 0x61 ∷ 0x62 ∷ 10 ∷ []) ∷ ([], 10 ∷ []) ∷ [])
lines_ended = refl

-- the mark goes once, and whole at the front alone
marks_gone : Gives without_mark (
    (0xEF ∷ 0xBB ∷ 0xBF ∷ 0x61 ∷ [], codes "a") ∷ (0xEF ∷ 0xBB ∷ 0xBF ∷ [], []) ∷ (codes "abcd", codes "abcd")
    ∷ ([], [])
    ∷ (0xEF ∷ 0xBB ∷ [], 0xEF ∷ 0xBB ∷ []) ∷ (0xEF ∷ 0xBB ∷ 0xBE ∷ [], 0xEF ∷ 0xBB ∷ 0xBE ∷ [])
    ∷ (0x61 ∷ 0xEF ∷ 0xBB ∷ 0xBF ∷ [], 0x61 ∷ 0xEF ∷ 0xBB ∷ 0xBF ∷ [])
    ∷ (0xEF ∷ 0xBB ∷ 0xBF ∷ 0xEF ∷ 0xBB ∷ 0xBF ∷ [], 0xEF ∷ 0xBB ∷ 0xBF ∷ [])
    ∷ [])
marks_gone = refl

blanks : Gives is_blank
    ((0x20, true) ∷ (9, true) ∷ (0x21, false) ∷ (8, false) ∷ (10, false) ∷ (13, false) ∷ (0x61, false) ∷ [])
blanks = refl

blanks_gone : Gives without_blanks (
    (0x61 ∷ 0x20 ∷ 9 ∷ 0x20 ∷ [], codes "a") ∷ (codes " a b", codes " a b") ∷ (0x20 ∷ 9 ∷ [], []) ∷ ([], [])
    ∷ (codes "a", codes "a") ∷ (0x61 ∷ 0x20 ∷ 13 ∷ [], 0x61 ∷ 0x20 ∷ 13 ∷ [])
    ∷ [])
blanks_gone = refl

-- the CR at the end goes first, and then what is blank before it
lines_trimmed : Gives trimmed_line (
    (0x61 ∷ 0x20 ∷ 9 ∷ 13 ∷ [], codes "a") ∷ (0x61 ∷ 13 ∷ 0x20 ∷ [], 0x61 ∷ 13 ∷ [])
    ∷ (0x61 ∷ 13 ∷ 13 ∷ [], 0x61 ∷ 13 ∷ []) ∷ (codes " a ", codes " a") ∷ (13 ∷ [], []) ∷ ([], [])
    ∷ [])
lines_trimmed = refl
