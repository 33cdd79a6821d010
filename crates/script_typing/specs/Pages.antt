-- Output lines that wait to be printed, each a page of its own.
use Rattle.std.specs.Prelude.{ℕ, Option, None, Some, List, [], ◌∷◌, unwrap_or}
use Rattle.std.specs.BTreeMap.{is_at}
use Rattle.std.specs.List.{flat_map}
use Rattle.std.specs.Map.{lookup, set_value}
use Rattle.std.specs.Ordering.{nat_cmp}

-- pages, in order
abbrev pub PageList : Type 0
PageList = List (List ℕ)

-- the first of pages, where there is one
abbrev pub first_page : PageList → Option (List ℕ)
first_page [] = None
first_page (page ∷ pages) = Some page

-- pages without the first one
abbrev pub behind_first : PageList → PageList
behind_first [] = []
behind_first (page ∷ pages) = pages

-- the pages of sessions, by their numbers
abbrev pub PageMap : Type 0
PageMap = List (ℕ × PageList)

-- the pages of the session of a number
abbrev pub pages_at : PageMap → ℕ → PageList
pages_at pages number = unwrap_or (lookup (is_at (nat_cmp number)) pages) []

-- the pages of each session without the first one of the session of a number
abbrev pub without_first : PageMap → ℕ → PageMap
without_first pages number = set_value (is_at (nat_cmp number)) pages (behind_first (pages_at pages number))

-- the pages in the order of these numbers, up to the first number whose session has none left
abbrev pub woven_pages : List ℕ → PageMap → PageList
woven_pages [] pages = []
woven_pages (number ∷ order) pages =
    elim (first_page (pages_at pages number)) [
      | None ↦ []
      | Some page ↦ page ∷ woven_pages order (without_first pages number)
    ]

-- the text of pages
abbrev pub text_of_pages : PageList → List ℕ
text_of_pages pages = flat_map (λ page. page) pages
