-- What is printed of a word says the word.
use Rattle.std.proofs.Common.{◌≡◌, ℕ, Bool, true, false, not, ◌||◌, ◌==◌, nat_eq, inl, inr}
use Rattle.std.proofs.Common.{Some, List, [], ◌∷◌, ◌++◌, codes, refl, sym, ap, ◌∙◌, arith, append-nil}
use Rattle.std.specs.List.{flat_map, filter, list_all, list_any, starts_with}
use Rattle.std.proofs.lemmas.Bool.{cond_both, or_parts, both_ways}
use Rattle.std.proofs.lemmas.List.Folds.{list_all-append}
use Rattle.skk_text.specs.FilterLaws.{filter_all}
use Rattle.skk_text.specs.PairsLaws.{list_all-weaker}
use Rattle.skk_calls.specs.Canonical.{char_in_string, quoted, is_special, begins_form, written_word, written_note}
use Rattle.skk_calls.specs.Rows.{is_note, is_note_char}
use Rattle.exact_readers.specs.Exact.{IsPrinted}
use Rattle.exact_readers.specs.ExactLaws.{spelled-read}
use Rattle.exact_readers.specs.LackLaws.{each_passes}
use Rattle.exact_readers.specs.ManyLaws.{many-printed}
use Rattle.dict_format.specs.Items.{at_note, before_note, note_of_text}
use Rattle.dict_format.specs.Words.{string_character, string_behind, quoted_word, marked_string, marked_words, SaysWord}
use Rattle.dict_format.proofs.Exactness.{character_exact}

-- Strings

character_again : (c : ℕ) → string_character.step (char_in_string c) ≡ Some (c, [])
character_again c = grind arith

any : {X : Type 0} (xs : List X) → list_all (λ x. true) xs ≡ true
any [] = refl
any (x ∷ xs) = any xs

-- what stands for the characters of a word in a string, and its double quote, spells the word
string_again : (word : List ℕ) → string_behind.Spells word (flat_map char_in_string word ++ codes "\"")
string_again word =
    let each : IsPrinted string_character (λ c. true) char_in_string =
    record {
      spells = λ c e. spelled-read string_character character_exact (char_in_string c) c (character_again c);
    } in
    let all = many-printed string_character (λ c. true) char_in_string each word (any word) in
    (flat_map char_in_string word, codes "\"", codes "\"", all, (refl, refl), refl)

quoted_again : (word : List ℕ) → quoted_word.Spells word (codes "(concat " ++ quoted word ++ codes ")")
quoted_again word =
    let string = flat_map char_in_string word ++ codes "\"" in
    (string ++ codes ")", (string, string_again word, refl), refl)

-- and the strings of words, one or more, in a mark spell them
pub marked_again : (w : List ℕ) (words : List (List ℕ)) → marked_words.Spells (w ∷ words)
    (codes "(skk-ignore-dic-word" ++ flat_map (λ v. 0x20 ∷ quoted v) (w ∷ words) ++ codes ")")
marked_again w words =
    let each : IsPrinted marked_string (λ v. true) (λ v. 0x20 ∷ quoted v) =
    record { spells = λ v e. (flat_map char_in_string v ++ codes "\"", string_again v, refl) } in
    let strings = flat_map (λ v. 0x20 ∷ quoted v) (w ∷ words) in
    let all = many-printed marked_string (λ v. true) (λ v. 0x20 ∷ quoted v) each (w ∷ words) (any (w ∷ words)) in
    (strings ++ codes ")", (w ∷ words, (strings, codes ")", codes ")", all, (refl, refl), refl), refl), refl)

-- what holds of the form of a word, and of the word where it is written as it is, holds of what is written of it
pub written_case : (word : List ℕ) (P : List ℕ → Type 0) → P (codes "(concat " ++ quoted word ++ codes ")")
    → (list_any is_special word ≡ false → begins_form word ≡ false → P word) → P (written_word word)
written_case word P form plain =
    cond_both (list_any is_special word || begins_form word) _ _ P (λ e. form)
    (λ e. let parts = or_parts (list_any is_special word) (begins_form word) e in plain parts.0 parts.1)

-- what is written of a word says it
pub written_says : (word : List ℕ) → SaysWord (written_word word) word
written_says word =
    written_case word (λ text. SaysWord text word) (inl (quoted_again word))
    (λ e f. inr (refl, λ other (piece, spelled, is). both_ways (begins_form word) f (ap begins_form is)))

-- What no word holds

-- a character that is neither a slash, a semicolon, CR nor LF
abbrev pub is_plain : ℕ → Bool
is_plain c = not (c == 0x2F || (c == 0x3B || (c == 13 || c == 10)))

string_plain : (c : ℕ) → true ≡ true → list_all is_plain (char_in_string c) ≡ true
string_plain c e = grind arith

quoted_plain : (word : List ℕ) → list_all is_plain (quoted word) ≡ true
quoted_plain word =
    simp (list_all-append, each_passes (λ c. true) is_plain char_in_string string_plain word (any word))

plain_word : (word : List ℕ) → list_any is_special word ≡ false → list_all is_plain word ≡ true
plain_word [] e = refl
plain_word (c ∷ word) e = grind (arith, plain_word word)

-- what is written of a word holds such characters alone
pub written_plain : (word : List ℕ) → list_all is_plain (written_word word) ≡ true
written_plain word =
    written_case word (λ text. list_all is_plain text ≡ true) (simp (list_all-append, quoted_plain word))
    (λ e f. plain_word word e)

-- and so does a mark
pub marked_plain : (words : List (List ℕ))
    → list_all is_plain (codes "(skk-ignore-dic-word" ++ flat_map (λ v. 0x20 ∷ quoted v) words ++ codes ")") ≡ true
marked_plain words =
    simp (
      list_all-append,
      each_passes (λ v. true) is_plain (λ v. 0x20 ∷ quoted v) (λ v e. quoted_plain v) words (any words),
    )

-- Notes

-- a text is cut at its note behind such characters
note_behind : (front text : List ℕ) → list_all is_plain front ≡ true
    → at_note (front ++ text) ≡ (front ++ (at_note text).0, (at_note text).1)
note_behind [] text plain = refl
note_behind (c ∷ front) text plain = grind (arith, note_behind front text)

-- a written word and its note are cut apart
note_cut : (word note : List ℕ) → at_note (written_word word ++ written_note note) ≡ (written_word word, note)
note_cut word [] = note_behind (written_word word) [] (written_plain word) ∙ ap (λ w. (w, [])) (append-nil _)
note_cut word (c ∷ note) =
    note_behind (written_word word) (0x3B ∷ c ∷ note) (written_plain word) ∙ ap (λ w. (w, c ∷ note)) (append-nil _)

pub item_word : (word note : List ℕ) → before_note (written_word word ++ written_note note) ≡ written_word word
item_word word note = ap (λ parts. parts.0) (note_cut word note)

pub item_note : (word note : List ℕ) → is_note note ≡ true
    → note_of_text (written_word word ++ written_note note) ≡ note
item_note word note good =
    ap (λ parts. filter (λ c. not (c == 13 || c == 10)) parts.1) (note_cut word note)
    ∙ filter_all (λ c. not (c == 13 || c == 10)) note
    (list_all-weaker is_note_char (λ c. not (c == 13 || c == 10)) (λ c e. grind arith) note good)

-- Marks

-- a mark begins with its name, a space and a double quote
mark_begins : (words : List (List ℕ)) (text : List ℕ) → marked_words.Spells words text
    → (more : List ℕ) × (text ≡ codes "(skk-ignore-dic-word \"" ++ more)
mark_begins words text (piece, ([], spelled, made), is) = cc
mark_begins words text (
  piece,
  (v ∷ vs, (front, back, b, (first, later, (string, said, one), rest, both), ends, whole), made),
  is,
) = (
  (string ++ later) ++ back,
  is ∙ ap (λ ys. codes "(skk-ignore-dic-word" ++ ys)
      (whole ∙ ap (λ ys. ys ++ back) (both ∙ ap (λ ys. ys ++ later) one)),
)

-- what is written of a word is no mark, whatever note stands behind it
pub no_mark : (word note : List ℕ) (words : List (List ℕ))
    → marked_words.Spells words (written_word word ++ written_note note) → ⊥
no_mark word note words is =
    let (more, begins) = mark_begins words (written_word word ++ written_note note) is in
    let text = codes "(skk-ignore-dic-word \"" in
    written_case word (λ t. t ≡ text ++ before_note more → ⊥)
    (λ e. both_ways true (sym (ap (λ t. starts_with nat_eq t (codes "(s")) e)) refl)
    (λ e f is. both_ways (begins_form word) f (ap begins_form is))
    (sym (item_word word note) ∙ ap before_note begins ∙ ap (λ parts. parts.0) (note_behind text more refl))
