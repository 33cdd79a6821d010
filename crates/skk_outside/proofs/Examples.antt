-- The definitions at small examples, each worked out by hand.
use Rattle.std.proofs.Common.{◌≡◌, ℕ, ◌^◌, ◌-◌, true, false, Option, None, Some, Result, Ok, Err, List, [], ◌∷◌, refl}
use Rattle.std.proofs.Common.{map, codes, arith, lit≤, lit<}
use Rattle.skk_text.specs.Counts.{one_more}
use Rattle.skk_outside.specs.declared.outside.Outside.{Ghosts}
use Rattle.skk_outside.specs.declared.shelf.Shelf.{Ghosts as ShelfGhosts}
use Rattle.skk_outside.specs.Listeners.{Accepts, Dials, out_after}
use Rattle.skk_outside.specs.Memory.{CallCount, no_call_yet, after_success, after_failure, with_fault, bytes_of_pieces}
use Rattle.skk_outside.specs.Memory.{first_nonempty_piece, without_first_bytes, names_differ, file_named}
use Rattle.skk_outside.specs.Moved.{moved_source, moved_sink, moved_shelf}
use Rattle.skk_outside.specs.Pieces.{pieces_left}
use Rattle.skk_outside.specs.Shelves.{StandsAt, EndsBy, ReadsFrom}
use Rattle.skk_outside.specs.Written.{IsPrefix}

-- a count from the first, and at its end
counts : map one_more (0 ∷ 1 ∷ (2 ^ 64 - 2) ∷ (2 ^ 64 - 1) ∷ [])
    ≡ 1 ∷ 2 ∷ 0xFFFF_FFFF_FFFF_FFFF ∷ 0xFFFF_FFFF_FFFF_FFFF ∷ []
counts = refl

-- how many calls there were, how many of them failed, and which are to fail
abbrev numbers : CallCount → List ℕ
numbers count = count.calls ∷ count.faults ∷ count.fails

calls :
    map numbers (
    no_call_yet (7 ∷ []) ∷ after_success (no_call_yet []) ∷ after_failure (no_call_yet [])
    ∷ with_fault (no_call_yet []) ∷ after_failure (after_success (no_call_yet (1 ∷ 2 ∷ []))) ∷ [])
    ≡ (0 ∷ 0 ∷ 7 ∷ []) ∷ (1 ∷ 0 ∷ []) ∷ (1 ∷ 1 ∷ []) ∷ (0 ∷ 1 ∷ []) ∷ (2 ∷ 1 ∷ 1 ∷ 2 ∷ []) ∷ []
calls = refl

-- two pieces round an empty one, and what is left of them
abbrev pieces : List (List ℕ)
pieces = codes "ab" ∷ [] ∷ codes "c" ∷ []

bytes : map bytes_of_pieces
    ([] ∷ pieces ∷ pieces_left 0 1 pieces ∷ pieces_left 1 0 pieces ∷ pieces_left 2 1 pieces ∷ [])
    ≡ [] ∷ codes "abc" ∷ codes "bc" ∷ codes "c" ∷ [] ∷ []
bytes = refl

first : map first_nonempty_piece ([] ∷ pieces ∷ pieces_left 1 0 pieces ∷ pieces_left 2 1 pieces ∷ [])
    ≡ [] ∷ codes "ab" ∷ codes "c" ∷ [] ∷ []
first = refl

without : map (λ taken. without_first_bytes taken pieces) (0 ∷ 1 ∷ 2 ∷ [])
    ≡ pieces ∷ (codes "b" ∷ [] ∷ codes "c" ∷ []) ∷ ([] ∷ [] ∷ codes "c" ∷ []) ∷ []
without = refl

-- a prefix stands at the head
prefix : IsPrefix (codes "ab") (codes "abc")
prefix = (codes "c", refl)

-- two files of one content, and an empty one
abbrev files : List (List ℕ × List ℕ)
files = (codes "one", codes "abc") ∷ (codes "two", codes "abc") ∷ (codes "none", []) ∷ []

named : map (file_named files) (codes "one" ∷ codes "two" ∷ codes "none" ∷ codes "on" ∷ codes "ones" ∷ [] ∷ [])
    ≡ Some (codes "abc") ∷ Some (codes "abc") ∷ Some [] ∷ None ∷ None ∷ None ∷ []
named = refl

last_named : file_named ((codes "one", codes "abc") ∷ (codes "two", codes "de") ∷ []) (codes "two") ≡ Some (codes "de")
last_named = refl

-- names that differ, though their files hold the same, and names that do not, though their files differ
differ : map names_differ
    ([] ∷ files ∷ ((codes "none", codes "d") ∷ files) ∷ ((codes "one", []) ∷ (codes "one", codes "a") ∷ []) ∷ [])
    ≡ true ∷ true ∷ false ∷ false ∷ []
differ = refl

-- a file of four bytes
abbrev file : Option (List ℕ)
file = Some (1 ∷ 2 ∷ 3 ∷ 4 ∷ [])

-- bytes stand at their place alone, and whole; no bytes stand anywhere, and any in a file that is not told
stands : StandsAt file 0 (1 ∷ 2 ∷ 3 ∷ 4 ∷ []) × StandsAt file 1 (2 ∷ 3 ∷ []) × StandsAt file 4 [] × StandsAt file 9 []
    × StandsAt None 3 (7 ∷ [])
    × (¬ StandsAt file 0 (2 ∷ 3 ∷ [])) × (¬ StandsAt file 2 (3 ∷ 4 ∷ 5 ∷ [])) × (¬ StandsAt file 4 (4 ∷ []))
stands = (refl, refl, refl, refl, tt, λ is. cc, λ is. cc, λ is. cc)

-- a file ends at its length
ends : EndsBy file 4 × EndsBy file 5 × EndsBy (Some []) 0 × EndsBy None 0 × (¬ EndsBy file 3)
ends = (lit≤ tt, lit≤ tt, lit≤ tt, tt, λ is. omega (arith, is))

-- what was read from a place, with the answer
abbrev Reads : Option (List ℕ) → ℕ → Result ℕ ℕ → List ℕ → Type 0
Reads told place result into = ReadsFrom told place result into

-- a read gives some of the bytes at its place; none at the end, or where there is no room; and it may give any where it
-- fails, or where the file is not told
reads : Reads file 1 (Ok 2) (2 ∷ 3 ∷ 0 ∷ []) × Reads file 4 (Ok 0) (0 ∷ []) × Reads file 1 (Ok 0) []
    × Reads file 1 (Err 7) (0 ∷ []) × Reads None 1 (Ok 0) (0 ∷ [])
    × (¬ Reads file 1 (Ok 2) (1 ∷ 2 ∷ 0 ∷ [])) × (¬ Reads file 3 (Ok 2) (4 ∷ 0 ∷ [])) × (¬ Reads file 3 (Ok 0) (0 ∷ []))
reads = (
  (refl, λ none room. absurd (omega (arith, none))),
  (refl, λ none room. lit≤ tt),
  (refl, λ none room. absurd (omega (arith, room))),
  tt,
  (tt, λ none room. tt),
  λ is. let first = is.0 in cc,
  λ is. let first = is.0 in cc,
  λ is. omega (arith, is.1 refl (lit< tt)),
)

-- what a call of a listener that accepts may leave: the first link comes and the rest is left, none comes only where
-- none is left, and never from a listener that does not tell, and a call that fails leaves all
abbrev Leaves : Option (List ℕ) → Option (List ℕ) → Result (Option ℕ) ℕ → Type 0
Leaves coming coming' result = Accepts coming coming' result

accepts : Leaves (Some (7 ∷ 8 ∷ [])) (Some (8 ∷ [])) (Ok (Some 7)) × Leaves (Some []) (Some []) (Ok None)
    × Leaves None None (Ok (Some 7)) × Leaves (Some (7 ∷ [])) (Some (7 ∷ [])) (Err 1) × Leaves None None (Err 1)
    × (¬ Leaves (Some (7 ∷ 8 ∷ [])) (Some (8 ∷ [])) (Ok (Some 8)))
    × (¬ Leaves (Some (7 ∷ 8 ∷ [])) (Some (7 ∷ 8 ∷ [])) (Ok (Some 7)))
    × (¬ Leaves (Some (7 ∷ [])) (Some (7 ∷ [])) (Ok None)) × (¬ Leaves (Some []) (Some []) (Ok (Some 7)))
    × (¬ Leaves (Some []) None (Ok None)) × (¬ Leaves None None (Ok None))
    × (¬ Leaves None (Some []) (Ok (Some 7))) × (¬ Leaves (Some (7 ∷ [])) (Some []) (Err 1))
accepts = (
  (refl, refl),
  refl,
  refl,
  refl,
  refl,
  λ is. let first = is.0 in cc,
  λ is. let rest = is.1 in cc,
  λ is. is,
  λ is. is,
  λ is. cc,
  λ is. is,
  λ is. cc,
  λ is. cc,
)

-- what a call of a listener that dials may leave: the first link is given and the rest is left, none is given where
-- none is left, and a call that fails leaves all
abbrev Gives : Option (List ℕ) → Option (List ℕ) → Result ℕ ℕ → Type 0
Gives coming coming' result = Dials coming coming' result

dials : Gives (Some (7 ∷ 8 ∷ [])) (Some (8 ∷ [])) (Ok 7) × Gives None None (Ok 7)
    × Gives (Some []) (Some []) (Err 1) × Gives (Some (7 ∷ [])) (Some (7 ∷ [])) (Err 1) × Gives None None (Err 1)
    × (¬ Gives (Some (7 ∷ 8 ∷ [])) (Some (8 ∷ [])) (Ok 8))
    × (¬ Gives (Some (7 ∷ 8 ∷ [])) (Some (7 ∷ 8 ∷ [])) (Ok 7))
    × (¬ Gives (Some []) (Some []) (Ok 7)) × (¬ Gives None (Some []) (Ok 7))
    × (¬ Gives (Some (7 ∷ [])) (Some []) (Err 1))
dials = (
  (refl, refl),
  refl,
  refl,
  refl,
  refl,
  λ is. let first = is.0 in cc,
  λ is. let rest = is.1 in cc,
  λ is. is,
  λ is. cc,
  λ is. cc,
)

-- one link more is out where one came
abbrev results : List (Result (Option ℕ) ℕ)
results = Ok (Some 7) ∷ Ok None ∷ Err 1 ∷ []

out : map (out_after 3) results ≡ 4 ∷ 3 ∷ 3 ∷ []
out = refl

-- things whose states are numbers, which hold their own number and have one fault less: before and after
abbrev numbered_source : Ghosts ℕ
numbered_source = record { faults = λ s. s - 1; left = λ s. Some (s ∷ []); written = λ s. None; closed = λ s. false }

abbrev numbered_sink : Ghosts ℕ
numbered_sink = record { faults = λ s. s - 1; left = λ s. None; written = λ s. Some (s ∷ []); closed = λ s. false }

source_moved : moved_source numbered_source 7 9
    ≡ record { left = Some (7 ∷ []); left' = Some (9 ∷ []); faults = 6; faults' = 8 }
source_moved = refl

sink_moved : moved_sink numbered_sink 7 9
    ≡ record { written = Some (7 ∷ []); written' = Some (9 ∷ []); faults = 6; faults' = 8 }
sink_moved = refl

abbrev numbered_shelf : ShelfGhosts ℕ
numbered_shelf = record { faults = λ s. s - 1; file = λ s name. Some (s ∷ name) }

shelf_moved : moved_shelf numbered_shelf 7 9
    ≡ record { file = λ name. Some (7 ∷ name); faults = 6; faults' = 8 }
shelf_moved = refl
