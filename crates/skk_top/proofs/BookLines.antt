-- Numbers of books with a comma between, added one by one.
use Rattle.std.proofs.Common.{◌≡◌, ◌≤◌, ◌<◌, ◌+◌, ◌∙◌, sym, ap, refl, arith, true, ℕ, List, [], ◌∷◌, ◌++◌, append_assoc}
use Rattle.std.proofs.Common.{get_or, length, map, take}
use Rattle.std.specs.Fmt.{decimal}
use Rattle.std.proofs.lemmas.List.{length-map, length-take-le, map-append, take_more}
use Rattle.skk_calls.specs.BookLists.{is_book_list}
use Rattle.command_line.specs.Words.{joined_parts, with_commas}

-- one part more
joined-more : (parts : List (List ℕ)) (last : List ℕ) → 1 ≤ length parts
    → joined_parts (parts ++ last ∷ []) ≡ joined_parts parts ++ 44 ∷ last
joined-more [] last some = absurd (omega (arith, some))
joined-more (part ∷ []) last some = refl
joined-more (part ∷ next ∷ parts) last some =
    ap (λ rest. part ++ 44 ∷ rest) (joined-more (next ∷ parts) last (omega arith))
    ∙ sym (append_assoc part (44 ∷ joined_parts (next ∷ parts)) (44 ∷ last))

-- a list of books has a first one, and one more stands behind a comma
pub some-books : (books : List ℕ) → is_book_list books ≡ true → 1 ≤ length books
some-books [] list = absurd (cc)
some-books (book ∷ books) list = omega arith

pub commas-one : (books : List ℕ) → 1 ≤ length books → with_commas (take 1 books) ≡ decimal (get_or books 0 0)
commas-one [] some = absurd (omega (arith, some))
commas-one (book ∷ books) some = refl

pub commas-more : (books : List ℕ) (place : ℕ) → 1 ≤ place → place < length books
    → with_commas (take (place + 1) books) ≡ with_commas (take place books) ++ 44 ∷ decimal (get_or books place 0)
commas-more books place from within =
    ap with_commas (take_more books place 0 within)
    ∙ ap joined_parts (map-append decimal (take place books) (get_or books place 0 ∷ []))
    ∙ joined-more (map decimal (take place books)) (decimal (get_or books place 0))
    (omega (
      arith,
      from,
      within,
      length-map (take place books) decimal,
      length-take-le place books (omega (arith, within)),
    ))
