-- What is read of a payload is what it says, and what may be written is read again: so a payload says one thing.
use Rattle.std.proofs.Common.{◌≡◌, ◌^◌, ◌<◌, ◌≤◌, ◌&&◌, ◌==◌, ℕ, nat_le, true, false, inl, inr, Option, None, Some}
use Rattle.std.proofs.Common.{List, [], ◌∷◌}
use Rattle.std.proofs.Common.{◌++◌, append-nil, append_assoc, refl, sym, ap, ◌∙◌, subst, arith}
use Rattle.std.specs.Int.{w16, w64}
use Rattle.std.specs.Option.{IfSome, option_map}
use Rattle.std.proofs.lemmas.Bool.{and_parts, both_ways, eqb-true, le-leb}
use Rattle.std.proofs.lemmas.Bool.Decides.{nat_tests}
use Rattle.std.proofs.lemmas.Option.{none-some, same_Some}
use Rattle.exact_readers.specs.Exact.{IsExact}
use Rattle.exact_readers.specs.ExactLaws.{both-exact, chosen, one_as-exact, option_map-some, then_at-some}
use Rattle.exact_readers.specs.Formats.{both, one_as, then_at}
use Rattle.exact_readers.specs.NumberLaws.{number-exact, told_16, told_64}
use Rattle.exact_readers.specs.Numbers.{number}
use Rattle.skk_text.specs.Counts.{last_count}
use Rattle.skk_text.specs.Lists.{is_empty}
use Rattle.skk_calls.specs.Rows.{RowKey, Cand, Row}
use Rattle.skk_calls.specs.States.{State}
use Rattle.learned_store.specs.declared.form.PayloadForm.{PayloadForm}
use Rattle.learned_store.specs.declared.form.PayloadForm.TheVariants.{Put, Drop, SetCount, Note, SetList}
use Rattle.learned_store.specs.Payloads.{CountsOn, Says, SaysNothing, book_number, wide_number, are_held}
use Rattle.learned_store.specs.Payloads.{counted_by, first_version, is_held, is_sound, may_follow}
use Rattle.learned_store.specs.Payloads.{payload_of}
use Rattle.learned_store.specs.Reading.{payload_with, put_with, fields, counted_form, form_behind, form_of}
use Rattle.learned_store.specs.Reading.{key_of, row_of, noted_of}
use Rattle.learned_store.proofs.ReadLists.{list_sound, list_complete}
use Rattle.learned_store.proofs.NotedParts.{noted_sound, noted_complete}
use Rattle.learned_store.proofs.ReadParts.{key_sound, key_complete, row_sound, row_complete}
use Rattle.learned_store.proofs.ReadRows.{LinesAreRead, LinesAreRows}
use Rattle.learned_store.proofs.SoundForms.{put_parts, drop_parts, list_parts, note_parts}

-- Fields

pub number_held : (number : ℕ) → number < 2 ^ 16 → is_held number ≡ true
number_held number low = grind (arith, nat_tests)

pub held : (book count : ℕ) → book < 2 ^ 16 → count < 2 ^ 64 → are_held book count ≡ true
held book count low least = grind (arith, nat_tests)

numbers_exact : IsExact (both (number w16) (number w64))
numbers_exact = both-exact (number w16) (number w64) (number-exact w16 told_16) (number-exact w64 told_64)

fields_exact : IsExact fields
fields_exact = both-exact (one_as (λ kind. Some kind)) (both (number w16) (number w64)) (one_as-exact _) numbers_exact

-- the fields that are read of a payload are held, and begin it
pub record AreFields (payload : List ℕ) (kind book count : ℕ) (rest : List ℕ) : Type 0 where
  pub held : are_held book count ≡ true
  pub is : payload ≡ payload_with kind book count rest

pub fields_sound : (payload : List ℕ) (kind book count : ℕ) (rest : List ℕ)
    → fields.step payload ≡ Some ((kind, (book, count)), rest) → AreFields payload kind book count rest
fields_sound payload kind book count rest e =
    let begins = fields_exact.sound payload (kind, (book, count)) rest e in
    by begins.spelled begins.tokens_are
  where
    by : {piece : List ℕ} → fields.Spells (kind, (book, count)) piece → payload ≡ piece ++ rest
        → AreFields payload kind book count rest
    by (front, back, (x, same, one), (two, eight, (low, book_is), (least, count_is), numbers), is) whole = record {
      held = held book count low least;
      is =
          whole ∙ ap (λ l. l ++ rest) (is ∙ ap (λ l. l ++ back) (one ∙ ap (λ n. n ∷ []) (same_Some x kind same)))
          ∙ ap (λ l. kind ∷ (l ++ rest)) (numbers ∙ ap (λ l. l ++ eight) book_is
          ∙ ap (λ l. book_number book ++ l) count_is)
          ∙ ap (λ l. kind ∷ l) (append_assoc (book_number book) (wide_number count) rest);
    }

-- and a stamp behind them begins what puts a row
pub put_is : (payload : List ℕ) (kind book count : ℕ) (rest : List ℕ) (stamp : ℕ) (row : List ℕ) → kind ≡ 1
    → Some ((kind, (book, count)), rest) ≡ fields.step payload → Some (stamp, row) ≡ (number w64).step rest
    → payload ≡ put_with book count stamp row
put_is payload kind book count rest stamp row put read stamped =
    let begins = (number-exact w64 told_64).sound rest stamp row (sym stamped) in
    (fields_sound payload kind book count rest (sym read)).is
    ∙ ap (λ k. payload_with k book count rest) put
    ∙ ap (payload_with 1 book count) (begins.tokens_are ∙ ap (λ l. l ++ row) begins.spelled.1)

fields_complete : (kind book count : ℕ) (rest : List ℕ) → are_held book count ≡ true
    → fields.step (payload_with kind book count rest) ≡ Some ((kind, (book, count)), rest)
fields_complete kind book count rest is =
    ap (λ l. fields.step (kind ∷ l)) (sym (append_assoc (book_number book) (wide_number count) rest))
    ∙ fields_exact.complete (kind ∷ (book_number book ++ wide_number count)) (kind, (book, count)) rest (
      kind ∷ [],
      book_number book ++ wide_number count,
      (kind, refl, refl),
      (
        book_number book,
        wide_number count,
        ((let low : book < 256 ^ 2 = grind (arith, nat_tests, is) in low), refl),
        ((let least : count < 256 ^ 8 = grind (arith, nat_tests, is) in least), refl),
        refl,
      ),
      refl,
    )

-- Forms

-- what is read of a payload may be written, and is written so
pub record IsRead (payload : List ℕ) (form : PayloadForm) : Type 0 where
  pub sound : is_sound form ≡ true
  pub is : payload ≡ payload_of form

module _ (lines : LinesAreRows) (book count : ℕ) (rest : List ℕ) (is_held : are_held book count ≡ true) where
  put_sound : (row : Row) → row_of count rest ≡ Some row → IsRead (payload_with 1 book count rest) (Put book count row)
  put_sound row e =
      let read = row_sound lines count rest row e in
      record { sound = grind (arith, read.written); is = ap (payload_with 1 book count) read.is }

  drop_sound : (key : RowKey) → key_of rest ≡ Some key → IsRead (payload_with 2 book count rest) (Drop book count key)
  drop_sound key e =
      let read = key_sound rest key e in
      record { sound = grind (arith, read.valid, read.text); is = ap (payload_with 2 book count) read.is }

  count_sound : is_empty rest ≡ true → IsRead (payload_with 3 book count rest) (SetCount book count)
  count_sound none = record {
    sound = is_held;
    is = ap (λ l. 3 ∷ (book_number book ++ l)) (shorter rest none);
  }
    where
      shorter : (rest : List ℕ) → is_empty rest ≡ true → wide_number count ++ rest ≡ wide_number count
      shorter [] none = append-nil (wide_number count)
      shorter (b ∷ rest) none = cc

  note_sound : nat_le 1 count ≡ true → (noted : RowKey × Cand) → noted_of rest ≡ Some noted
      → IsRead (payload_with 4 book count rest) (Note book count noted.0 noted.1)
  note_sound some noted e =
      let read = noted_sound lines rest noted e in
      record {
        sound = grind (arith, some, read.valid, read.cand_is, read.reading, read.item);
        is = ap (payload_with 4 book count) read.is;
      }

  behind_sound : (kind : ℕ) (form : PayloadForm) → form_behind kind book count rest ≡ Some form
      → IsRead (payload_with kind book count rest) form
  behind_sound kind form e =
      elim (chosen (kind == 1) _ _ _ e) [
        | inl put ↦
            let row = option_map-some (row_of count rest) (Put book count) form put.1 in
            subst (λ k. IsRead (payload_with k book count rest) form) (sym (eqb-true kind 1 put.0))
            (subst (IsRead (payload_with 1 book count rest)) row.2 (put_sound row.0 row.1))
        | inr other ↦ elim (chosen (kind == 2) _ _ _ other.1) [
          | inl drop ↦
              let key = option_map-some (key_of rest) (Drop book count) form drop.1 in
              subst (λ k. IsRead (payload_with k book count rest) form) (sym (eqb-true kind 2 drop.0))
              (subst (IsRead (payload_with 2 book count rest)) key.2 (drop_sound key.0 key.1))
          | inr last ↦ elim (chosen (kind == 3 && is_empty rest) _ _ _ last.1) [
            | inl set ↦
                let tests = and_parts (kind == 3) (is_empty rest) set.0 in
                subst (λ k. IsRead (payload_with k book count rest) form) (sym (eqb-true kind 3 tests.0))
                (subst (IsRead (payload_with 3 book count rest)) (same_Some (SetCount book count) form set.1)
                (count_sound tests.1))
            | inr note ↦ elim (chosen (kind == 4 && nat_le 1 count) _ _ _ note.1) [
              | inl told ↦
                  let tests = and_parts (kind == 4) (nat_le 1 count) told.0 in
                  let read = option_map-some (noted_of rest) (λ noted. Note book count noted.0 noted.1) form told.1 in
                  subst (λ k. IsRead (payload_with k book count rest) form) (sym (eqb-true kind 4 tests.0))
                  (subst (IsRead (payload_with 4 book count rest)) read.2 (note_sound tests.1 read.0 read.1))
              | inr none ↦ absurd (none-some form none.1)
            ]
          ]
        ]
      ]

-- what is read of a payload that speaks of a book
counted_sound : LinesAreRows → (payload : List ℕ) (form : PayloadForm) → counted_form payload ≡ Some form
    → IsRead payload form
counted_sound lines payload form e =
    let read = then_at-some (fields.step payload) _ form e in
    let begins = fields_sound payload read.0.0.0 read.0.0.1.0 read.0.0.1.1 read.0.1 read.1 in
    subst (λ l. IsRead l form) (sym begins.is)
    (behind_sound lines read.0.0.1.0 read.0.0.1.1 read.0.1 begins.held read.0.0.0 form read.2)

pub form_sound : LinesAreRows → (payload : List ℕ) (form : PayloadForm) → form_of payload ≡ Some form
    → IsRead payload form
form_sound lines [] form e = absurd (none-some form e)
form_sound lines (kind ∷ bytes) form e =
    elim (chosen (kind == 5) _ _ _ e) [
      | inl list ↦
          let read = list_sound bytes form list.1 in
          record { sound = read.sound; is = ap (λ k. k ∷ bytes) (eqb-true kind 5 list.0) ∙ read.is }
      | inr other ↦ counted_sound lines (kind ∷ bytes) form other.1
    ]

-- what code reads of a payload is that
pub form_read : LinesAreRows → (payload : List ℕ) (found : Option PayloadForm) → found ≡ form_of payload
    → IfSome found (λ form. (is_sound form ≡ true) × (payload ≡ payload_of form))
form_read lines payload None is = tt
form_read lines payload (Some form) is = let read = form_sound lines payload form (sym is) in (read.sound, read.is)

module _ (lines : LinesAreRead) where
  form_complete : (form : PayloadForm) → is_sound form ≡ true → form_of (payload_of form) ≡ Some form
  form_complete (Put book count row) sound =
      let parts = put_parts book count row sound in
      let last : count ≤ last_count = grind (arith, nat_tests, parts.held) in
      ap (λ o. then_at o (λ read. form_behind read.0.0 read.0.1.0 read.0.1.1 read.1))
      (fields_complete 1 book count _ parts.held)
      ∙ ap (option_map (Put book count)) (row_complete lines count row last (grind (arith, sound)))
  form_complete (Drop book count key) sound =
      let parts = drop_parts book count key sound in
      ap (λ o. then_at o (λ read. form_behind read.0.0 read.0.1.0 read.0.1.1 read.1))
      (fields_complete 2 book count _ parts.held)
      ∙ ap (option_map (Drop book count)) (key_complete key parts.valid parts.text)
  form_complete (SetCount book count) sound =
      ap (λ l. form_of (3 ∷ (book_number book ++ l))) (sym (append-nil (wide_number count)))
      ∙ ap (λ o. then_at o (λ read. form_behind read.0.0 read.0.1.0 read.0.1.1 read.1))
      (fields_complete 3 book count [] sound)
  form_complete (Note book count key cand) sound =
      let parts = note_parts book count key cand sound in
      ap (λ o. then_at o (λ read. form_behind read.0.0 read.0.1.0 read.0.1.1 read.1))
      (fields_complete 4 book count _ parts.held)
      ∙ rw (le-leb 1 count parts.some)
      (ap (option_map (λ noted. Note book count noted.0 noted.1))
      (noted_complete lines key cand parts.valid parts.cand_is parts.reading parts.item))
  form_complete (SetList typist books) sound =
      let parts = list_parts typist books sound in list_complete typist books parts.held parts.valid parts.numbers

  -- what a payload says is read of it
  pub said : (version : ℕ) (state : State) (payload : List ℕ) (form : PayloadForm) → Says version state payload form
      → form_of payload ≡ Some form
  said version state payload form says = ap form_of says.is ∙ form_complete form says.sound

  -- so a payload says one thing, in files of whatever versions and at whatever states
  pub one_form : (version other_version : ℕ) (state later : State) (payload : List ℕ) (form other : PayloadForm)
      → Says version state payload form → Says other_version later payload other → form ≡ other
  one_form version other_version state later payload form other says also =
      same_Some form other
      (sym (said version state payload form says) ∙ said other_version later payload other also)

  -- and nothing where nothing is read of it
  pub nothing_said : (version : ℕ) (state : State) (payload : List ℕ) → form_of payload ≡ None
      → SaysNothing version state payload
  nothing_said version state payload none form says =
      none-some form (sym none ∙ said version state payload form says)

  -- or something that the version has not
  pub unknown_said : (version : ℕ) (state : State) (payload : List ℕ) (form : PayloadForm)
      → form_of payload ≡ Some form → nat_le (first_version form) version ≡ false → SaysNothing version state payload
  unknown_said version state payload form is unknown other says =
      let same = same_Some form other (sym is ∙ said version state payload other says) in
      both_ways (nat_le (first_version form) version) unknown
      (ap (λ (f : PayloadForm). nat_le (first_version f) version) same ∙ says.known)

  -- or that may not follow there
  pub unfit_said : (version : ℕ) (state : State) (payload : List ℕ) (form : PayloadForm)
      → form_of payload ≡ Some form → may_follow state form ≡ false → SaysNothing version state payload
  unfit_said version state payload form is unfit other says =
      let same = same_Some form other (sym is ∙ said version state payload other says) in
      both_ways (may_follow state form) unfit (ap (may_follow state) same ∙ says.follows)

  -- or something of a count below that of its book
  pub below_said : (version : ℕ) (state : State) (payload : List ℕ) (form : PayloadForm) → form_of payload ≡ Some form
      → (CountsOn state (counted_by form) → ⊥) → SaysNothing version state payload
  below_said version state payload form is below other says =
      let same = same_Some form other (sym is ∙ said version state payload other says) in
      below (subst (λ (f : PayloadForm). CountsOn state (counted_by f)) (sym same) says.counted)

  -- and code reads it
  pub form_found : (payload : List ℕ) (found : Option PayloadForm) → found ≡ form_of payload
      → (form : PayloadForm) → is_sound form ≡ true → payload ≡ payload_of form → found ≡ Some form
  form_found payload found is form sound same = is ∙ ap form_of same ∙ form_complete form sound
