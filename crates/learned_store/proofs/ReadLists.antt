-- What is read of a typist's list is what its bytes spell, and what may be written is read again.
use Rattle.std.proofs.Common.{◌≡◌, ◌^◌, ◌<◌, ◌&&◌, ◌==◌, cond, ℕ, true, inl, inr, None, Some, List, []}
use Rattle.std.proofs.Common.{◌∷◌, ◌++◌, length, refl, sym, ap, ◌∙◌, subst, arith}
use Rattle.std.specs.Int.{w16}
use Rattle.std.specs.List.{flat_map, list_all}
use Rattle.std.specs.Option.{option_map}
use Rattle.std.proofs.lemmas.Bool.{and_from, eq-eqb, eqb-true}
use Rattle.std.proofs.lemmas.Bool.Decides.{nat_tests}
use Rattle.std.proofs.lemmas.Option.{none-some, same_Some}
use Rattle.exact_readers.specs.Exact.{AreAll, IsPrinted}
use Rattle.exact_readers.specs.ExactLaws.{chosen, option_map-some, then_at-some}
use Rattle.exact_readers.specs.Formats.{SpellsMany, all, then_at}
use Rattle.exact_readers.specs.ManyLaws.{all-are, all-complete, many-printed}
use Rattle.exact_readers.specs.NumberLaws.{number-exact, told_16}
use Rattle.exact_readers.specs.Numbers.{number}
use Rattle.skk_calls.specs.BookLists.{is_book_list}
use Rattle.learned_store.specs.declared.form.PayloadForm.{PayloadForm}
use Rattle.learned_store.specs.declared.form.PayloadForm.TheVariants.{SetList}
use Rattle.learned_store.specs.Payloads.{book_number, is_held, is_sound, payload_of, typist_number}
use Rattle.learned_store.specs.Reading.{books_of, list_of, typist_list, valid_list}

-- numbers that two bytes can hold are spelled by them
held_spelled : IsPrinted (number w16) is_held book_number
held_spelled = record {
  spells = λ book held. ((let low : book < 256 ^ 2 = grind (arith, nat_tests, held) in low), refl);
}

-- what spells numbers, one behind another, is their bytes, which hold them
spelled_held : (books bytes : List ℕ) → SpellsMany (number w16).Spells books bytes
    → (list_all is_held books ≡ true) × (bytes ≡ flat_map book_number books)
spelled_held [] bytes spelled = (refl, spelled)
spelled_held (book ∷ books) bytes (front, back, (low, one), more, is) =
    let rest = spelled_held books back more in
    let held : is_held book ≡ true = grind (arith, nat_tests, low) in (
      and_from (is_held book) (list_all is_held books) held rest.0,
      is ∙ ap (λ l. l ++ back) one ∙ ap (λ l. book_number book ++ l) rest.1,
    )

-- numbers that are read of all bytes
read_all : (bytes books : List ℕ) → all (number w16) bytes ≡ Some books
    → (list_all is_held books ≡ true) × (bytes ≡ flat_map book_number books)
read_all bytes books e =
    spelled_held books bytes
    (subst (AreAll (number w16) bytes) e (all-are (number w16) (number-exact w16 told_16) bytes))

-- what is read of a payload behind its kind may be written, and is written so
pub record IsListRead (bytes : List ℕ) (form : PayloadForm) : Type 0 where
  pub sound : is_sound form ≡ true
  pub is : 5 ∷ bytes ≡ payload_of form

-- the parts of a list that is read
books_sound : (size : ℕ) (bytes books : List ℕ) → books_of size bytes ≡ Some books
    → (length books ≡ size) × (is_book_list books ≡ true) × (list_all is_held books ≡ true)
    × (bytes ≡ flat_map book_number books)
books_sound size bytes books e =
    let read = then_at-some (all (number w16) bytes) _ books e in
    elim (chosen (length read.0 == size) _ _ _ read.2) [
      | inl long ↦ elim (chosen (is_book_list read.0) _ _ _ long.1) [
        | inl valid ↦
            let same : read.0 ≡ books = same_Some read.0 books valid.1 in
            let are = read_all bytes read.0 read.1 in
            subst (λ (l : List ℕ). (length l ≡ size) × (is_book_list l ≡ true) × (list_all is_held l ≡ true)
            × (bytes ≡ flat_map book_number l)) same
            (eqb-true (length read.0) size long.0, valid.0, are.0, are.1)
        | inr none ↦ absurd (none-some books none.1)
      ]
      | inr none ↦ absurd (none-some books none.1)
    ]

typist_sound : (typist : ℕ) (rest : List ℕ) (form : PayloadForm) → is_held typist ≡ true
    → typist_list (typist, rest) ≡ Some form → IsListRead (typist_number typist ++ rest) form
typist_sound typist [] form held e = absurd (none-some form e)
typist_sound typist (size ∷ bytes) form held e =
    let read = option_map-some (books_of size bytes) (SetList typist) form e in
    let are = books_sound size bytes read.0 read.1 in
    subst (IsListRead (typist_number typist ++ size ∷ bytes)) read.2 (record {
      sound =
          and_from (is_held typist) (is_book_list read.0 && list_all is_held read.0) held
          (and_from (is_book_list read.0) (list_all is_held read.0) are.1 are.2);
      is =
          ap (λ n. 5 ∷ (typist_number typist ++ n ∷ bytes)) (sym are.0)
          ∙ ap (λ l. 5 ∷ (typist_number typist ++ length read.0 ∷ l)) are.3;
    })

pub list_sound : (bytes : List ℕ) (form : PayloadForm) → list_of bytes ≡ Some form → IsListRead bytes form
list_sound bytes form e =
    let read = then_at-some ((number w16).step bytes) typist_list form e in
    let begins = (number-exact w16 told_16).sound bytes read.0.0 read.0.1 read.1 in
    let low = begins.spelled.0 in
    let held : is_held read.0.0 ≡ true = grind (arith, nat_tests, low) in
    subst (λ (l : List ℕ). IsListRead l form)
    (sym (begins.tokens_are ∙ ap (λ l. l ++ read.0.1) begins.spelled.1))
    (typist_sound read.0.0 read.0.1 form held read.2)

-- Reading again

pub list_complete : (typist : ℕ) (books : List ℕ) → is_held typist ≡ true → is_book_list books ≡ true
    → list_all is_held books ≡ true
    → list_of (typist_number typist ++ length books ∷ flat_map book_number books) ≡ Some (SetList typist books)
list_complete typist books held valid numbers =
    let bytes = flat_map book_number books in
    let low : typist < 256 ^ 2 = grind (arith, nat_tests, held) in
    let read : all (number w16) bytes ≡ Some books =
    all-complete (number w16) (number-exact w16 told_16) books bytes
    (many-printed (number w16) is_held book_number held_spelled books numbers) in
    ap (λ o. then_at o typist_list)
    ((number-exact w16 told_16).complete (typist_number typist) typist (length books ∷ bytes) (low, refl))
    ∙ ap (option_map (SetList typist))
    (ap (λ o. then_at o (λ found. cond (length found == length books) (valid_list found) None)) read
    ∙ ap (λ b. cond b (valid_list books) None) (eq-eqb (length books) (length books) refl)
    ∙ ap (λ b. cond b (Some books) None) valid)
