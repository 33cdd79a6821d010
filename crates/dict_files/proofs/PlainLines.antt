-- A line that plainly spells a row: its texts are words and notes, the first of which is not empty.
use Rattle.std.proofs.Common.{◌≡◌, ◌≢◌, ◌∙◌, ◌+◌, ◌≤◌, ◌==◌, ◌||◌, not, ℕ, Bool, true, false, Option, None, Some}
use Rattle.std.proofs.Common.{◌∷◌, ◌++◌, All, map, refl, sym, ap, append_assoc, arith, inl, inr, subst, if◌then◌else◌}
use Rattle.std.proofs.Common.{List, [], nat_le, leb-true, rules, encode_utf8_all}
use lib.Utf8.{encode}
use Rattle.std.proofs.lemmas.Grind.{common_steps}
use Rattle.std.specs.List.{filter, list_all}
use Rattle.std.specs.Option.{option_map, unwrap_or}
use Rattle.std.proofs.lemmas.Bool.{and_from, and_parts, cases_Bool, eqb-true}
use Rattle.std.proofs.lemmas.List.Elements.{All-cons, All-head, All-nil, All-tail}
use Rattle.std.proofs.lemmas.List.Folds.{list_all-append}
use Rattle.std.proofs.lemmas.Str.{chars-IsAscii, chars-append, encodes-append, encodes-chars}
use Rattle.std.specs.Str.{IsAscii, IsUtf8, chars}
use Rattle.simdutf8.proofs.StepsLemmas.{IsUtf8-append_ascii}
use Rattle.skk_text.specs.Lists.{is_empty}
use Rattle.skk_text.specs.Text.{byte_len}
use Rattle.skk_text.specs.TextLaws.{byte_len-append}
use Rattle.skk_calls.specs.declared.part.Part.TheVariants.{Nasi}
use Rattle.skk_calls.specs.Rows.{Row, RowKey, word_limit, is_row_key}
use Rattle.exact_readers.specs.Cuts.{cut}
use Rattle.exact_readers.specs.CutLaws.{up_to-exact}
use Rattle.exact_readers.specs.Formats.{SpellsMany, past}
use Rattle.exact_readers.specs.ExactLaws.{past-sound}
use Rattle.exact_readers.specs.Lacking.{lacks}
use Rattle.dict_format.specs.Items.{Item, SpellsItems, IsSingle, at_note, before_note, is_semicolon}
use Rattle.dict_format.specs.Items.{note_of_text}
use Rattle.dict_format.specs.Items.Item.{candidate}
use Rattle.dict_format.specs.Lines.{SpellsRow, is_slash, slashed_text}
use Rattle.dict_format.specs.Reading.{is_space}
use Rattle.dict_format.specs.Reasons.{ends_in_slash}
use Rattle.dict_format.specs.RowOfItems.{item_fits, row_of_items}
use Rattle.dict_files.specs.PlainLines.{begins_word, is_plain}
use Rattle.dict_files.specs.Walked.{walked_reading}

-- Texts

-- a text may be a word with its note: it holds no parenthesis, and has so many bytes at most
pub record IsPlain (limit : ℕ) (text : List ℕ) : Type 0 where
  pub lacks_forms : lacks 0x28 text ≡ true
  pub fits : byte_len text ≤ limit

-- the texts that stand behind the first slash of a body, each ended by a slash
pub record HasPieces (limit : ℕ) (behind first : List ℕ) (texts : List (List ℕ)) : Type 0 where
  pub spelled : SpellsMany slashed_text.Spells (first ∷ texts) behind
  pub lacks_forms : lacks 0x28 first ≡ true
  pub within : byte_len first ≤ byte_len behind
  pub others : All (IsPlain limit) texts

pieces : (limit : ℕ) (behind : List ℕ) → IsPlain limit behind → ends_in_slash behind ≡ true
    → (first : List ℕ) × (texts : List (List ℕ)) × HasPieces limit behind first texts
pieces limit [] plain ends = cc
pieces limit (c ∷ []) plain ends = (
  [],
  [],
  record {
    spelled = (c ∷ [], [], (c, ends, refl, refl), refl, refl);
    lacks_forms = refl;
    within = omega arith;
    others = All-nil (IsPlain limit);
  },
)
pieces limit (c ∷ d ∷ text) plain ends =
    let parts = and_parts (not (c == 0x28)) (lacks 0x28 (d ∷ text)) plain.lacks_forms in
    let bytes = byte_len-append (c ∷ []) (d ∷ text) in
    let rest : IsPlain limit (d ∷ text) =
    record { lacks_forms = parts.1; fits = omega (arith, bytes, plain.fits) } in
    let (first, texts, has) = pieces limit (d ∷ text) rest ends in
    elim (cases_Bool (is_slash c)) [
      | inl slash ↦ (
        [],
        first ∷ texts,
        record {
          spelled = (c ∷ [], d ∷ text, (c, slash, refl, refl), has.spelled, refl);
          lacks_forms = refl;
          within = omega arith;
          others = All-cons (IsPlain limit) first texts
              (record { lacks_forms = has.lacks_forms; fits = omega (arith, has.within, rest.fits) }) has.others;
        },
      )
      | inr other ↦
          let (front, back, (end, ends_it, none, is), more, split) = has.spelled in (
            c ∷ first,
            texts,
            record {
              spelled = (
                c ∷ front,
                back,
                (end, ends_it, and_from (not (is_slash c)) _ (ap not other) none, ap (λ ys. c ∷ ys) is),
                more,
                ap (λ ys. c ∷ ys) split,
              );
              lacks_forms = and_from (not (c == 0x28)) (lacks 0x28 first) parts.0 has.lacks_forms;
              within = omega (arith, bytes, byte_len-append (c ∷ []) first, has.within);
              others = has.others;
            },
          )
    ]

-- Items

-- a text as a candidate: its word and its note
abbrev pub item_of : List ℕ → Item
item_of text = candidate (before_note text) (note_of_text text)

-- characters that are left out take no bytes more
filtered : (test : ℕ → Bool) (text : List ℕ) → byte_len (filter test text) ≤ byte_len text
filtered test [] = omega arith
filtered test (c ∷ text) =
    grind (arith, byte_len-append (c ∷ []) text, byte_len-append (c ∷ []) (filter test text), filtered test text)

-- the word of a text and its note lie within the text
pub record IsCut (text : List ℕ) (parts : List ℕ × List ℕ) : Type 0 where
  pub lacks_forms : lacks 0x28 text ≡ true → lacks 0x28 parts.0 ≡ true
  pub within : byte_len parts.0 + byte_len (filter (λ c. not (c == 13 || c == 10)) parts.1) ≤ byte_len text

cut_text : (text : List ℕ) → IsCut text (at_note text)
cut_text text = by (cut is_semicolon text) refl
  where
    by : (found : Option (List ℕ × List ℕ)) → cut is_semicolon text ≡ found
        → IsCut text (unwrap_or found (text, []))
    by None e = record { lacks_forms = λ lack. lack; within = omega arith }
    by (Some (word, note)) e =
        let is = (up_to-exact is_semicolon).sound text word note e in
        let (end, ends, none, piece) = is.spelled in
        let front : text ≡ word ++ end ∷ note =
        is.tokens_are ∙ ap (λ ys. ys ++ note) piece ∙ append_assoc word (end ∷ []) note in
        record {
          lacks_forms = λ lack. (and_parts (lacks 0x28 word) _ (sym (list_all-append (λ c. not (c == 0x28)) word
              (end ∷ note)) ∙ subst (λ t. lacks 0x28 t ≡ true) front lack)).0;
          within = omega (
            arith,
            ap byte_len front,
            byte_len-append word (end ∷ note),
            byte_len-append (end ∷ []) note,
            filtered (λ c. not (c == 13 || c == 10)) note,
          );
        }

-- no text without a parenthesis begins with one
no_form : (text more : List ℕ) → text ≡ 0x28 ∷ more → lacks 0x28 text ≡ true → ⊥
no_form text more is lack = let lacked : false ≡ true = subst (λ t. lacks 0x28 t ≡ true) is lack in cc

single : (text : List ℕ) → lacks 0x28 text ≡ true → IsSingle Nasi (item_of text) text
single text lack = (
  refl,
  λ words form. no_form text _ form.2 lack,
  inr (refl, λ other form. no_form (before_note text) _ form.2 ((cut_text text).lacks_forms lack)),
  refl,
)

spelled : (limit : ℕ) (texts : List (List ℕ)) → All (IsPlain limit) texts → SpellsItems Nasi texts (map item_of texts)
spelled limit [] plain = refl
spelled limit (text ∷ texts) plain =
    let first = All-head (IsPlain limit) text texts plain in (
      text ∷ [],
      texts,
      inl (text, single text first.lacks_forms, refl),
      spelled limit texts (All-tail (IsPlain limit) text texts plain),
      refl,
    )

fit : (texts : List (List ℕ)) → All (IsPlain word_limit) texts → list_all item_fits (map item_of texts) ≡ true
fit [] plain = refl
fit (text ∷ texts) plain =
    let first = All-head (IsPlain word_limit) text texts plain in
    let rest = fit texts (All-tail (IsPlain word_limit) text texts plain) in
    grind (arith, first.fits, (cut_text text).within, rest)

-- a text that does not begin with a semicolon has a word
has_word : (c : ℕ) (text : List ℕ) → is_semicolon c ≡ false → is_empty (before_note (c ∷ text)) ≡ false
has_word c text other = grind arith

-- so the row of such texts has a candidate
has_cand : (key : RowKey) (c : ℕ) (text : List ℕ) (texts : List (List ℕ)) → is_semicolon c ≡ false
    → is_empty (row_of_items key (map item_of ((c ∷ text) ∷ texts))).cands ≡ false
has_cand key c text texts other = rw (has_word c text other) refl

-- Lines

-- a first text that begins with a word
begun : (behind first : List ℕ) (texts : List (List ℕ)) → SpellsMany slashed_text.Spells (first ∷ texts) behind
    → begins_word behind ≡ true → (c : ℕ) × (text : List ℕ) × (first ≡ c ∷ text) × (is_semicolon c ≡ false)
begun behind [] texts (front, back, (end, ends, none, is), more, split) begins =
    absurd (grind (arith, ends, begins, split, is))
begun behind (c ∷ text) texts (front, back, (end, ends, none, is), more, split) begins =
    (c, text, refl, grind (arith, begins, split, is))

-- a line that is plain spells a row with a candidate
pub plain_row : (line reading rest behind : List ℕ) → cut is_space line ≡ Some (reading, rest)
    → past (0x2F ∷ []) rest ≡ Some behind → is_plain line reading behind ≡ true
    → (row : Row) × SpellsRow Nasi line row × (walked_reading (Some row) ≡ Some reading)
plain_row line reading rest behind cut_is past_is plain =
    let short = and_parts (nat_le (byte_len line) word_limit) _ plain in
    let lacking = and_parts (lacks 0x28 line) _ short.1 in
    let valid = and_parts (is_row_key (record { part = Nasi; reading = reading })) _ lacking.1 in
    let shape = and_parts (begins_word behind) (ends_in_slash behind) valid.1 in
    let is = (up_to-exact is_space).sound line reading rest cut_is in
    let (end, space, none, piece) = is.spelled in
    let body : rest ≡ 0x2F ∷ behind = past-sound (0x2F ∷ []) rest behind past_is in
    let split : line ≡ reading ++ 0x20 ∷ 0x2F ∷ behind =
    is.tokens_are ∙ ap (λ ys. ys ++ rest) piece ∙ append_assoc reading (end ∷ []) rest
    ∙ ap (λ c. reading ++ c ∷ rest) (eqb-true end 0x20 space) ∙ ap (λ ys. reading ++ 0x20 ∷ ys) body in
    let kept : lacks 0x28 behind ≡ true =
    (and_parts (lacks 0x28 reading) _ (sym (list_all-append (λ c. not (c == 0x28)) reading (0x20 ∷ 0x2F ∷ behind))
    ∙ subst (λ t. lacks 0x28 t ≡ true) split lacking.0)).1 in
    let bytes : byte_len behind ≤ word_limit =
    omega (
      arith,
      ap byte_len split,
      byte_len-append reading (0x20 ∷ 0x2F ∷ behind),
      byte_len-append (0x20 ∷ 0x2F ∷ []) behind,
      leb-true (byte_len line) word_limit short.0,
    ) in
    let (first, texts, has) = pieces word_limit behind (record { lacks_forms = kept; fits = bytes }) shape.1 in
    let (c, text, first_is, other) = begun behind first texts has.spelled shape.0 in
    let all : All (IsPlain word_limit) (first ∷ texts) =
    All-cons (IsPlain word_limit) first texts
    (record { lacks_forms = has.lacks_forms; fits = omega (arith, has.within, bytes) }) has.others in
    let key : RowKey = record { part = Nasi; reading = reading } in
    let items = map item_of (first ∷ texts) in
    let cand : is_empty (row_of_items key items).cands ≡ false =
    subst (λ t. is_empty (row_of_items key (map item_of (t ∷ texts))).cands ≡ false) (sym first_is)
    (has_cand key c text texts other) in (
      row_of_items key items,
      record {
        reading = reading;
        body = 0x2F ∷ behind;
        texts = first ∷ texts;
        items = items;
        not_long = omega (arith, leb-true (byte_len line) word_limit short.0);
        has_body = record {
          spaces = 1;
          some_space = omega arith;
          line_is = split ∙ sym (append_assoc reading (0x20 ∷ []) (0x2F ∷ behind));
          before = none;
          behind = refl;
        };
        valid = valid.0;
        has_texts = record { some_text = λ e. cc; behind = behind; body_is = refl; spelled = has.spelled };
        has_items = spelled word_limit (first ∷ texts) all;
        fit = fit (first ∷ texts) all;
        row_is = refl;
        something = rw cand refl;
      },
      rw cand refl,
    )

-- a text ends in a slash where its last character is one
pub ends-is : (front : List ℕ) (c : ℕ) → ends_in_slash (front ++ c ∷ []) ≡ (c == 0x2F)
ends-is [] c = refl
ends-is (d ∷ []) c = refl
ends-is (d ∷ e ∷ front) c = ends-is (e ∷ front) c

-- a text that a slash ends, by its bytes
pub ends-slashed : (text front : List ℕ) → IsUtf8 text → text ≡ front ++ 0x2F ∷ [] → ends_in_slash (chars text) ≡ true
ends-slashed text front valid is =
    let ascii : IsAscii (0x2F ∷ []) = search rules in
    let front_valid = (IsUtf8-append_ascii front (0x2F ∷ []) ascii).0 (subst IsUtf8 is valid) in
    ap (λ t. ends_in_slash (chars t)) is ∙ ap ends_in_slash (chars-append front (0x2F ∷ []) front_valid)
    ∙ ap (λ ys. ends_in_slash (chars front ++ ys)) (chars-IsAscii (0x2F ∷ []) ascii)
    ∙ ends-is (chars front) 0x2F

-- a text that ends in a slash, without it
before_slash : (text : List ℕ) → ends_in_slash text ≡ true → (front : List ℕ) × (text ≡ front ++ 0x2F ∷ [])
before_slash [] ends = cc
before_slash (c ∷ []) ends = ([], ap (λ d. d ∷ []) (eqb-true c 0x2F ends))
before_slash (c ∷ d ∷ text) ends =
    let (front, is) = before_slash (d ∷ text) ends in (c ∷ front, ap (λ ys. c ∷ ys) is)

-- a text that no slash ends, by its bytes
pub ends-other : (text : List ℕ) → IsUtf8 text → ((front : List ℕ) → text ≢ front ++ 0x2F ∷ [])
    → ends_in_slash (chars text) ≡ false
unfolding encode
ends-other text valid other =
    elim (cases_Bool (ends_in_slash (chars text))) [
      | inl ends ↦
          let (front, is) = before_slash (chars text) ends in
          absurd
          (other (encode_utf8_all front)
          (sym (encodes-chars text valid) ∙ ap encode_utf8_all is ∙ encodes-append front (0x2F ∷ [])))
      | inr fails ↦ fails
    ]

-- the bytes of characters
pub ruleset bytes = (common_steps, encodes-chars)
