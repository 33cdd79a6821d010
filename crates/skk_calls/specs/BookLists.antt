-- Lists of books that typists read.
use Rattle.std.specs.Prelude.{ℕ, Bool, ◌&&◌, ◌==◌, nat_le, if◌then◌else◌, Option, None, Some, List, [], ◌∷◌, ◌++◌}
use Rattle.std.specs.Prelude.{length}
use Rattle.std.specs.List.{list_any}
use Rattle.std.specs.Option.{is_none}
use Rattle.std.specs.Str.{bytes_eq}

-- a number stands among numbers
abbrev pub has_number : List ℕ → ℕ → Bool
has_number numbers number = list_any (λ other. other == number) numbers

-- the place of the first number that stands before it too, where numbers come behind these
abbrev pub twice_behind : List ℕ → List ℕ → Option ℕ
twice_behind before [] = None
twice_behind before (number ∷ numbers) =
    if has_number before number then Some (length before) else twice_behind (before ++ number ∷ []) numbers

-- the place of the first number that stands before it too
abbrev pub twice_at : List ℕ → Option ℕ
twice_at numbers = twice_behind [] numbers

-- the most books of a list
abbrev pub book_limit : ℕ
book_limit = 8

-- there are some numbers, and no more than the most
abbrev pub has_count : List ℕ → Bool
has_count numbers = nat_le 1 (length numbers) && nat_le (length numbers) book_limit

-- numbers are a list of books: there are some, no more than the most, and none stands twice
abbrev pub is_book_list : List ℕ → Bool
is_book_list numbers = has_count numbers && is_none (twice_at numbers)

-- numbers are the same, one by one
abbrev pub same_numbers : List ℕ → List ℕ → Bool
same_numbers numbers others = bytes_eq numbers others

-- the list of the shared book alone, which is that of a typist without another
abbrev pub shared_alone : List ℕ
shared_alone = 0 ∷ []
