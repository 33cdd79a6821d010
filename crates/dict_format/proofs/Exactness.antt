-- The formats of words and items are exact: what is read is what is spelled.
use Rattle.std.proofs.Common.{◌≡◌, ℕ, false, Option, None, Some, List, [], ◌∷◌, ◌++◌, codes, inl, inr, refl, sym, ap}
use Rattle.std.proofs.Common.{◌∙◌, subst, arith}
use Rattle.std.specs.Option.{option_map, unwrap_or}
use Rattle.std.proofs.lemmas.Option.{none-some, same_Some}
use Rattle.skk_calls.specs.declared.part.Part.{Part}
use Rattle.skk_calls.specs.declared.part.Part.TheVariants.{Nasi, Ari}
use Rattle.exact_readers.specs.Exact.{IsExact, Finds, IsWhole}
use Rattle.exact_readers.specs.ExactLaws.{chosen, one_as-exact, one_by-exact, literal-exact, behind-exact, before-exact}
use Rattle.exact_readers.specs.ExactLaws.{both-exact, either-exact, mapped-exact, checked-exact, whole-is}
use Rattle.exact_readers.specs.ExactLaws.{whole-complete}
use Rattle.exact_readers.specs.Formats.{first_by, taken, if_whole, whole, all}
use Rattle.exact_readers.specs.ManyLaws.{ended_by-exact, taken-sound}
use Rattle.dict_format.specs.Items.{Item, before_note, note_of_text, opens_block, closes_block, IsSingle, if_single}
use Rattle.dict_format.specs.Items.{single_item, mark_or_candidate, okuri_opened, SaysInBlock, word_inside, block_end}
use Rattle.dict_format.specs.Items.{inside_block, whole_block, item_format}
use Rattle.dict_format.specs.Items.Item.{candidate, block, mark}
use Rattle.dict_format.specs.Words.{plain, escape, digit_below, octal_number, octal, escaped, string_character}
use Rattle.dict_format.specs.Words.{string_behind, quoted_word, marked_string, if_some, marked_words, SaysWord, said}

-- Words

octal_exact : IsExact octal
octal_exact =
    let digit = one_as-exact (digit_below 8) in
    mapped-exact _ (both-exact _ _ (one_as-exact (digit_below 2)) (both-exact _ _ digit digit)) octal_number

-- a digit below two is none of the characters that stand behind a backslash alone
no_escape : (c k : ℕ) → digit_below 2 c ≡ Some k → escape c ≡ None
no_escape c k e = grind arith

escaped_exact : IsExact escaped
escaped_exact =
    either-exact _ _ (one_as-exact escape) octal_exact
    (λ piece a rest ((first, digits), (front, back, (c, found, one), later, is), value).
    ap (λ ys. first_by escape (ys ++ rest)) (is ∙ ap (λ ys. ys ++ back) one)
    ∙ ap (option_map (λ d. (d, back ++ rest))) (no_escape c first found))

pub character_exact : IsExact string_character
character_exact =
    either-exact _ _ (one_as-exact plain) (behind-exact _ escaped_exact (codes "\\"))
    (λ piece a rest (back, spelled, is). ap (λ ys. first_by plain (ys ++ rest)) is)

string_exact : IsExact string_behind
string_exact =
    ended_by-exact _ character_exact _ (literal-exact (codes "\"") (omega arith))
    (λ back b rest (same, is). ap (λ ys. string_character.step (ys ++ rest)) is)

pub quoted_exact : IsExact quoted_word
quoted_exact = behind-exact _ (before-exact _ string_exact (codes ")")) (codes "(concat \"")

pub marked_string_exact : IsExact marked_string
marked_string_exact = behind-exact _ string_exact (codes " \"")

pub marked_exact : IsExact marked_words
marked_exact =
    let strings = ended_by-exact _ marked_string_exact _ (literal-exact (codes ")") (omega arith))
    (λ back b rest (same, is). ap (λ ys. marked_string.step (ys ++ rest)) is) in
    behind-exact _ (checked-exact _ strings if_some) (codes "(skk-ignore-dic-word")

-- a text says the word that is read, and no other
said-says : (text : List ℕ) → SaysWord text (said text)
said-says text = by (whole quoted_word text) (whole-is _ quoted_exact text _ refl)
  where
    by : (o : Option (List ℕ)) → IsWhole quoted_word text o → SaysWord text (unwrap_or o text)
    by None none = inr (refl, none)
    by (Some word) is = inl is

pub said-only : (text word : List ℕ) → SaysWord text word → said text ≡ word
said-only text word (inl is) = ap (λ o. unwrap_or o text) (whole-complete _ quoted_exact text word is)
said-only text word (inr alone) = by (whole quoted_word text) (whole-is _ quoted_exact text _ refl)
  where
    by : (o : Option (List ℕ)) → IsWhole quoted_word text o → unwrap_or o text ≡ word
    by None none = sym alone.0
    by (Some other) is = absurd (alone.1 other is)

-- Texts alone

single_finds : (part : Part) → Finds (IsSingle part) (if_single part)
single_finds part = record { sound = sound; complete = complete }
  where
    is_read : (text : List ℕ) → opens_block part text ≡ false → IsSingle part (single_item text) text
    is_read text closed = by (whole marked_words text) (whole-is _ marked_exact text _ refl)
      where
        by : (o : Option (List (List ℕ))) → IsWhole marked_words text o → IsSingle part (mark_or_candidate text o) text
        by None none = (closed, none, said-says (before_note text), refl)
        by (Some words) is = (closed, is)

    sound : (text : List ℕ) (item : Item) → if_single part text ≡ Some item → IsSingle part item text
    sound text item e =
        elim (chosen (opens_block part text) _ _ _ e) [
          | inl opens ↦ absurd (none-some item opens.1)
          | inr closed ↦
              subst (λ (i : Item). IsSingle part i text) (same_Some (single_item text) item closed.1)
              (is_read text closed.0)
        ]

    complete : (text : List ℕ) (item : Item) → IsSingle part item text → if_single part text ≡ Some item
    complete text (mark words) (closed, is) =
        rw closed (ap (λ o. Some (mark_or_candidate text o)) (whole-complete _ marked_exact text words is))
    complete text (block okuri words) is = absurd is
    complete text (candidate word note) (closed, none, says, same) =
        rw closed (by (whole marked_words text) (whole-is _ marked_exact text _ refl))
      where
        by : (o : Option (List (List ℕ))) → IsWhole marked_words text o
            → ◌≡◌ {A = Option Item} (Some (mark_or_candidate text o)) (Some (candidate word note))
        by None not_marked =
            ap (λ w. Some (candidate w (note_of_text text))) (said-only (before_note text) word says)
            ∙ ap (λ n. Some (candidate word n)) (sym same)
        by (Some words) is = absurd (none words is)

-- Blocks

inside_finds : Finds SaysInBlock word_inside
inside_finds = record {
  sound = λ text word e.
      elim (chosen (closes_block text) _ _ _ e) [
        | inl closes ↦ absurd (none-some word closes.1)
        | inr inside ↦ (
          inside.0,
          subst (SaysWord (before_note text)) (same_Some (said (before_note text)) word inside.1)
              (said-says (before_note text)),
        )
      ];
  complete = λ text word (inside, says). rw inside (ap Some (said-only (before_note text) word says));
}

pub inside_exact : IsExact inside_block
inside_exact = one_by-exact SaysInBlock word_inside inside_finds

-- what closes a block is no text in it
closed : (text end : List ℕ) → block_end text ≡ Some end → word_inside text ≡ None
closed text end e = grind arith

-- and what opens one is no text alone
opened : (part : Part) (text okuri : List ℕ) → okuri_opened part text ≡ Some okuri → if_single part text ≡ None
opened part text okuri e = grind arith

block_exact : (part : Part) → IsExact (whole_block part)
block_exact part =
    let words = ended_by-exact _ inside_exact _ (one_as-exact block_end)
    (λ back b rest (text, found, is). ap (λ ys. first_by word_inside (ys ++ rest)) is
    ∙ ap (option_map (λ a. (a, rest))) (closed text b found)) in
    mapped-exact _ (both-exact _ _ (one_as-exact (okuri_opened part)) words) (λ parts. block parts.0 parts.1)

-- Items

pub item_exact : (part : Part) → IsExact (item_format part)
item_exact part =
    either-exact _ _ (one_by-exact _ _ (single_finds part)) (block_exact part)
    (λ piece a rest (parts, (front, back, (first, found, one), later, is), value).
    ap (λ ys. first_by (if_single part) (ys ++ rest)) (is ∙ ap (λ ys. ys ++ back) one)
    ∙ ap (option_map (λ i. (i, back ++ rest))) (opened part first parts.0 found))

-- all texts of the okuri-nasi part are read
pub items-none : (part : Part) (texts : List (List ℕ)) → all (item_format part) texts ≡ None → part ≡ Ari
items-none Ari texts e = refl
items-none Nasi texts e =
    let is = taken-sound (item_format Nasi) (item_exact Nasi) texts in
    absurd (by (taken (item_format Nasi).step texts).0 (taken (item_format Nasi).step texts).1 is.ends e)
  where
    by : (items : List Item) (rest : List (List ℕ)) → (item_format Nasi).step rest ≡ None
        → if_whole (items, rest) ≡ None → ⊥
    by items [] ends e = none-some items (sym e)
    by items (text ∷ rest) ends e = none-some (single_item text, rest) (sym ends)
