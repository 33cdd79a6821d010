-- An import level by level, and what it leaves of its calls.
use Rattle.std.proofs.Common.{◌≡◌, ◌∙◌, ℕ, ◌+◌, ◌<◌, ◌≤◌, nat_le, zero, suc}
use Rattle.std.proofs.Common.{arith, Bool, false, true, inl, inr, refl, sym, ap, subst}
use Rattle.std.proofs.Common.{Result, List, [], ◌∷◌, ◌++◌, length, map}
use Rattle.std.proofs.lemmas.List.{append-nil, append_assoc, append_cancel_left, length-append, length-map, map-append}
use Rattle.std.proofs.lemmas.Bool.Decides.{nat_tests}
use Rattle.std.proofs.lemmas.List.Concat.{flat_map-append}
use Rattle.std.specs.List.{filter, flat_map, list_all}
use Rattle.skk_calls.specs.declared.call.Call.{Call}
use Rattle.skk_calls.specs.declared.chronicle.Noted.{Noted}
use Rattle.skk_calls.specs.Histories.{after_calls}
use Rattle.skk_calls.specs.Rows.{Row}
use Rattle.skk_calls.specs.States.{State}
use Rattle.skk_disk.specs.declared.disk.Disk.{Ghosts}
use Rattle.learned_store.specs.Stands.{NotedStore}
use Rattle.batch_store.specs.declared.group_fault.GroupFault.{GroupFault}
use Rattle.batch_store.specs.Imports.{ImportsRows}
use Rattle.batch_store.specs.Learnings.{groups_below, import_groups, in_groups, learnings_at, learnings_below}
use Rattle.batch_store.specs.Levels.{has_rank, levels_below}
use Rattle.batch_store.specs.Pieces.{AreCommittedIn, CommitsGroups, calls_in}
use Rattle.batch_store.proofs.GroupPieces.{alone-all}
use Rattle.batch_store.proofs.LearningLaws.{import_joined, in_groups_joined, learnings_ranked, length-learnings}
use Rattle.batch_store.proofs.PieceLaws.{all_of}

-- What an import leaves of its calls

-- pieces of groups have the calls of these
pieces-all : (limit : ℕ) (state : State) (groups pieces : List (List Call)) → AreCommittedIn limit state groups pieces
    → all_of pieces ≡ all_of groups
pieces-all limit state [] pieces cut = ap all_of cut
pieces-all limit state (calls ∷ groups) pieces cut =
    let rest : all_of cut.0 ≡ all_of groups = pieces-all limit (after_calls state calls) groups cut.0 cut.1 in
    elim cut.2 [
      | inl is ↦ ap all_of is ∙ ap (λ (l : List Call). calls ++ l) rest
      | inr is ↦
          ap all_of is.1 ∙ flat_map-append (λ (g : List Call). g) (map (λ call. call ∷ []) calls) cut.0
          ∙ ap (λ (l : List Call). l ++ all_of cut.0) (alone-all calls ∙ append-nil calls)
          ∙ ap (λ (l : List Call). calls ++ l) rest
    ]

all-noted : (lists : List (List Noted)) → all_of (map calls_in lists) ≡ flat_map calls_in lists
all-noted [] = refl
all-noted (notes ∷ lists) = ap (λ (l : List Call). calls_in notes ++ l) (all-noted lists)

module _ {D : Type 0} (disk : Ghosts D) (old new : NotedStore D) (book : ℕ) (rows : List Row) where
  -- the notes of an import have its first calls, and all of them where none was refused
  pub imports-rows : (result : Result (Unit {0}) GroupFault)
      → CommitsGroups disk old new (import_groups book rows) result → ImportsRows disk old new book rows result
  imports-rows result groups =
      let left = groups.noted.0 in
      record {
        groups = groups;
        calls = (
          all_of left,
          sym (import_joined book rows)
              ∙ sym (pieces-all old.store.limit old.store.state (import_groups book rows) groups.pieces groups.cut)
              ∙ ap all_of groups.noted.1
              ∙ flat_map-append (λ (g : List Call). g) (map calls_in groups.lists) left
              ∙ ap (λ (l : List Call). l ++ all_of left) (all-noted groups.lists),
          λ ok. ap all_of (sym (append_cancel_left (map calls_in groups.lists) [] left
              (append-nil (map calls_in groups.lists) ∙ sym (groups.all ok) ∙ groups.noted.1))),
        );
      }

-- Counts

-- what a test of two numbers says of them
pub within : (a b : ℕ) → true ≡ nat_le a b → a ≤ b
within a b fits = grind (arith, nat_tests, fits)

pub beyond : (a b : ℕ) → false ≡ nat_le a b → b < a
beyond a b fits = grind (arith, nat_tests, fits)

levels-many : (rows : List Row) (ranks : ℕ) → length (levels_below rows ranks) ≡ ranks
levels-many rows zero = refl
levels-many rows (suc ranks) =
    let rest = levels-many rows ranks in
    omega (arith, rest, length-append (levels_below rows ranks) (filter (has_rank ranks) rows ∷ []))

-- there is a level for each rank
pub as-many : {V : Type 0} (rows_in : V → List Row) (levels : List V) (rows : List Row) (ranks : ℕ)
    → map rows_in levels ≡ levels_below rows ranks → length levels ≡ ranks
as-many rows_in levels rows ranks are =
    sym (length-map levels rows_in) ∙ ap length are ∙ levels-many rows ranks

-- The last of the levels

snoc-same : {A : Type 0} (xs ys : List A) (x y : A) → xs ++ x ∷ [] ≡ ys ++ y ∷ [] → (xs ≡ ys) × (x ≡ y)
snoc-same [] [] x y e = (refl, cc e)
snoc-same [] (b ∷ ys) x y e = absurd (omega (arith, ap length e, length-append ys (y ∷ [])))
snoc-same (a ∷ xs) [] x y e = absurd (omega (arith, ap length e, length-append xs (x ∷ [])))
snoc-same (a ∷ xs) (b ∷ ys) x y e =
    let first : a ≡ b = cc e in
    let rest = snoc-same xs ys x y (cc e) in
    (λ i. first i ∷ rest.0 i, rest.1)

-- the rows that a filter keeps pass its test
kept-pass : (test : Row → Bool) (rows : List Row) → list_all test (filter test rows) ≡ true
kept-pass test [] = refl
kept-pass test (row ∷ rows) = grind (arith, kept-pass test rows)

module _ {V : Type 0} (rows_in : V → List Row) (printed : List Row) (items front : List V) (level : V)
    (popped : items ≡ front ++ level ∷ []) (levels : map rows_in items ≡ levels_below printed (length items)) where
  -- there is one level more
  pub one-more : length items ≡ suc (length front)
  one-more = omega (arith, ap length popped, length-append front (level ∷ []))

  both : map rows_in front ++ rows_in level ∷ []
      ≡ levels_below printed (length front) ++ filter (has_rank (length front)) printed ∷ []
  both =
      sym (map-append rows_in front (level ∷ [])) ∙ sym (ap (map rows_in) popped) ∙ levels
      ∙ ap (levels_below printed) one-more

  -- the others are the levels below, and it has the rows of its rank
  pub others-below : map rows_in front ≡ levels_below printed (length front)
  others-below = (snoc-same (map rows_in front) (levels_below printed (length front)) (rows_in level)
      (filter (has_rank (length front)) printed) both).0

  pub level-is : rows_in level ≡ filter (has_rank (length front)) printed
  level-is = (snoc-same (map rows_in front) (levels_below printed (length front)) (rows_in level)
      (filter (has_rank (length front)) printed) both).1

  module _ (book : ℕ) where
    -- its learnings are those of the rank
    pub learnings-are : learnings_at book (rows_in level) (length front) ≡ learnings_at book printed (length front)
    learnings-are =
        ap (λ (rows : List Row). learnings_at book rows (length front)) level-is
        ∙ learnings_ranked book (length front) printed

    -- as many as it has rows
    pub learnings-many : length (learnings_at book printed (length front)) ≡ length (rows_in level)
    learnings-many =
        ap length (sym (learnings_ranked book (length front) printed))
        ∙ length-learnings book (length front) (filter (has_rank (length front)) printed)
        (kept-pass (has_rank (length front)) printed)
        ∙ ap length (sym level-is)

    pub groups-are : groups_below book printed (length items)
        ≡ in_groups (learnings_at book (rows_in level) (length front)) ++ groups_below book printed (length front)
    groups-are =
        ap (groups_below book printed) one-more
        ∙ ap (λ (calls : List Call). in_groups calls ++ groups_below book printed (length front)) (sym learnings-are)

    pub calls-are : length (learnings_below book printed (length items))
        ≡ length (rows_in level) + length (learnings_below book printed (length front))
    calls-are =
        ap (λ (n : ℕ). length (learnings_below book printed n)) one-more
        ∙ length-append (learnings_at book printed (length front)) (learnings_below book printed (length front))
        ∙ ap (λ (n : ℕ). n + length (learnings_below book printed (length front))) learnings-many

  -- each of its rows has the rank
  pub level-ranked : list_all (has_rank (length front)) (rows_in level) ≡ true
  level-ranked = subst (λ (rows : List Row). list_all (has_rank (length front)) rows ≡ true) (sym level-is)
      (kept-pass (has_rank (length front)) printed)

  module _ (book : ℕ) (groups : List (List Call))
      (are : groups ≡ in_groups (learnings_at book (rows_in level) (length front))) where
    -- behind those so far its groups and those of the levels below are all of them
    pub level-behind : (done all : List (List Call)) → done ++ groups_below book printed (length items) ≡ all
        → (done ++ groups) ++ groups_below book printed (length front) ≡ all
    level-behind done all left =
        append_assoc done groups (groups_below book printed (length front))
        ∙ ap (λ (l : List (List Call)). done ++ l)
        (ap (λ (l : List (List Call)). l ++ groups_below book printed (length front)) are ∙ sym (groups-are book))
        ∙ left

    -- and as many calls
    pub level-calls : (done : List (List Call)) (most : ℕ)
        → length (all_of done) + length (learnings_below book printed (length items)) ≤ most
        → length (all_of (done ++ groups)) + length (learnings_below book printed (length front)) ≤ most
    level-calls done most few =
        let own : length (all_of groups) ≡ length (rows_in level) =
        ap (λ (l : List (List Call)). length (all_of l)) are
        ∙ ap length (in_groups_joined (learnings_at book (rows_in level) (length front)) ∙ learnings-are book)
        ∙ learnings-many book in
        omega (
          arith,
          few,
          own,
          calls-are book,
          ap length (flat_map-append (λ (group : List Call). group) done groups),
          length-append (all_of done) (all_of groups),
        )
