-- The groups of a level, one behind another.
use Rattle.std.proofs.Common.{◌≡◌, ◌∙◌, ◌⊎◌, ℕ, ◌+◌, ◌-◌, ◌<◌, ◌≤◌, zero, suc, arith, Bool, true, refl, sym, ap, subst}
use Rattle.std.proofs.Common.{List, [], ◌∷◌, ◌++◌, length, map, min, take, drop, inl, inr}
use Rattle.std.proofs.lemmas.Bool.{and_from, and_parts, cases_lt}
use Rattle.std.proofs.lemmas.List.{drop-drop, drop-map, length-append, length-drop, length-map, length-take-le}
use Rattle.std.proofs.lemmas.List.{append-nil, append_assoc, take-map}
use Rattle.std.proofs.lemmas.List.Concat.{flat_map-append}
use Rattle.std.specs.List.{flat_map, list_all}
use Rattle.skk_text.specs.Counts.{last_count}
use Rattle.skk_text.specs.PairsLaws.{list_all-take}
use Rattle.skk_calls.specs.declared.call.Call.{Call}
use Rattle.skk_calls.specs.Rows.{Row, keys_differ}
use Rattle.skk_calls.specs.States.{State, count_of}
use Rattle.learn_index.specs.Groups.{IsGroup, book_of_group, group_limit, learns_in}
use Rattle.batch_store.specs.Learnings.{in_groups, learnings_at}
use Rattle.batch_store.specs.Levels.{has_rank}
use Rattle.batch_store.specs.Pieces.{HasStampsFor}
use Rattle.batch_store.proofs.GroupLaws.{learning}
use Rattle.batch_store.proofs.LearningLaws.{are_group, in_groups_some, keys_left}
use Rattle.batch_store.proofs.LearningLaws.{keys_taken, learnings-drop, learnings-take}
use Rattle.batch_store.proofs.LearningLaws.{all_learn, length-learnings, list_all-drop}

-- the first ones of a list that has no more are all of it, and behind them is nothing
taken-all : {X : Type 0} (xs : List X) (most : ℕ) → length xs ≤ most
    → (take most xs ≡ take (length xs) xs) × (drop most xs ≡ drop (length xs) xs)
taken-all [] zero few = (refl, refl)
taken-all [] (suc most) few = (refl, refl)
taken-all (x ∷ xs) zero few = absurd (omega (arith, few))
taken-all (x ∷ xs) (suc most) few =
    let rest = taken-all xs most (omega (arith, few)) in
    (ap (λ l. x ∷ l) rest.0, rest.1)

-- as many of the first ones as a group may have, or all
abbrev pub IsNext : {X : Type 0} → List X → ℕ → Type 0
IsNext xs size = (size ≡ group_limit) ⊎ ((size ≡ length xs) × (length xs ≤ group_limit))

-- so is the less of how many there are and of how many a group may have
pub next-size : {X : Type 0} (xs : List X) (size : ℕ) → size ≡ min (length xs) group_limit → IsNext xs size
next-size xs size is =
    elim (cases_lt size group_limit) [
      | inl less ↦ inr (omega (arith, is, less), omega (arith, is, less))
      | inr most ↦ inl (omega (arith, is, most))
    ]

taken-next : {X : Type 0} (xs : List X) (size : ℕ) → IsNext xs size
    → (take group_limit xs ≡ take size xs) × (drop group_limit xs ≡ drop size xs)
taken-next xs size (inl is) = (ap (λ n. take n xs) (sym is), ap (λ n. drop n xs) (sym is))
taken-next xs size (inr (is, few)) =
    let all = taken-all xs group_limit few in
    (all.0 ∙ ap (λ n. take n xs) (sym is), all.1 ∙ ap (λ n. drop n xs) (sym is))

module _ (book rank : ℕ) where
  -- the learnings of rows in groups are those of the next rows, and the groups of the others
  pub groups-next : (rows : List Row) → list_all (has_rank rank) rows ≡ true → 0 < length rows → (size : ℕ)
      → IsNext rows size
      → in_groups (learnings_at book rows rank)
      ≡ learnings_at book (take size rows) rank ∷ in_groups (learnings_at book (drop size rows) rank)
  groups-next rows ranked some size next =
      let calls = learnings_at book rows rank in
      let long = length-learnings book rank rows ranked in
      let fits : IsNext calls size = subst (λ (n : ℕ). (size ≡ group_limit) ⊎ ((size ≡ n) × (n ≤ group_limit)))
      (sym long) next in
      let cut = taken-next calls size fits in
      in_groups_some calls (omega (arith, long, some))
      ∙ ap (λ (l : List Call). l ∷ in_groups (drop group_limit calls))
      (cut.0 ∙ sym (learnings-take book rank size rows ranked))
      ∙ ap (λ (l : List Call). learnings_at book (take size rows) rank ∷ in_groups l)
      (cut.1 ∙ sym (learnings-drop book rank size rows ranked))

  -- calls that learn in a book are a group of this book
  own-book : (calls : List Call) → 0 < length calls → list_all (learns_in book) calls ≡ true
      → book_of_group calls ≡ book
  own-book [] some learn = absurd (omega (arith, some))
  own-book (call ∷ calls) some learn =
      ap (λ (one : Call). book_of_group (one ∷ calls))
      (learning book call (and_parts (learns_in book call) (list_all (learns_in book) calls) learn).0).3

  module _ (rows : List Row) (size : ℕ) (ranked : list_all (has_rank rank) rows ≡ true)
      (differ : keys_differ rows ≡ true) (some : 0 < size) (few : size ≤ group_limit) (low : size ≤ length rows) where
    next-ranked : list_all (has_rank rank) (take size rows) ≡ true
    next-ranked = list_all-take (has_rank rank) size rows ranked

    next-length : length (learnings_at book (take size rows) rank) ≡ size
    next-length = length-learnings book rank (take size rows) next-ranked ∙ length-take-le size rows low

    -- the learnings of the next rows are a group, where the book has the stamps
    pub next-group : (state : State) → count_of state book + group_limit ≤ last_count
        → IsGroup state (learnings_at book (take size rows) rank)
    next-group state stamps =
        let long = length-take-le size rows low in
        are_group book rank state (take size rows) next-ranked (keys_taken size rows differ)
        (omega (arith, long, some)) (omega (arith, long, few)) stamps

    pub next-stamps : (state : State) → count_of state book + size + group_limit ≤ last_count
        → HasStampsFor state (learnings_at book (take size rows) rank)
    next-stamps state stamps =
        let calls = learnings_at book (take size rows) rank in
        let own = own-book calls (omega (arith, next-length, some)) (all_learn book rank (take size rows)) in
        subst (λ (n : ℕ). count_of state n + length calls + group_limit ≤ last_count) (sym own)
        (omega (arith, stamps, next-length))

-- Rows as they are borrowed

module _ {X : Type 0} (f : X → Row) where
  -- what holds of all rows holds of them as they are
  pub all-lent : (test : Row → Bool) (xs : List X) → list_all (λ (x : X). test (f x)) xs ≡ true
      → list_all test (map f xs) ≡ true
  all-lent test [] all = refl
  all-lent test (x ∷ xs) all =
      let parts = and_parts (test (f x)) (list_all (λ (other : X). test (f other)) xs) all in
      and_from (test (f x)) (list_all test (map f xs)) parts.0 (all-lent test xs parts.1)

module _ {X : Type 0} (f : X → Row) (book rank : ℕ) (xs : List X) (place size : ℕ)
    (ranked : list_all (λ (x : X). has_rank rank (f x)) xs ≡ true) (differ : keys_differ (map f xs) ≡ true)
    (low : place < length xs) (sized : size ≡ min (length xs - place) group_limit) where
  -- the rows from a place on
  abbrev pub rest : List Row
  rest = map f (drop place xs)

  rest-length : length rest ≡ length xs - place
  rest-length = length-map (drop place xs) f ∙ length-drop place xs

  rest-ranked : list_all (has_rank rank) rest ≡ true
  rest-ranked =
      all-lent f (has_rank rank) (drop place xs) (list_all-drop (λ (x : X). has_rank rank (f x)) place xs ranked)

  rest-differ : keys_differ rest ≡ true
  rest-differ = subst (λ (rows : List Row). keys_differ rows ≡ true) (drop-map f place xs)
      (keys_left place (map f xs) differ)

  -- the next ones of them, and those behind these
  pub next-lent : (count : ℕ) → count ≡ size → map f (take count (drop place xs)) ≡ take size rest
  next-lent count is =
      ap (λ (n : ℕ). map f (take n (drop place xs))) is ∙ sym (take-map f size (drop place xs))

  behind-lent : map f (drop (place + size) xs) ≡ drop size rest
  behind-lent = ap (map f) (sym (drop-drop size place xs)) ∙ sym (drop-map f size (drop place xs))

  -- the next ones are a group, where the book has the stamps
  pub group-at : (state : State) → count_of state book + (length xs - place) + group_limit ≤ last_count
      → IsGroup state (learnings_at book (take size rest) rank)
      × HasStampsFor state (learnings_at book (take size rest) rank)
  group-at state stamps = (
    next-group book rank rest size rest-ranked rest-differ (omega (arith, sized, low)) (omega (arith, sized))
        (omega (arith, sized, rest-length)) state (omega (arith, stamps)),
    next-stamps book rank rest size rest-ranked rest-differ (omega (arith, sized, low)) (omega (arith, sized))
        (omega (arith, sized, rest-length)) state (omega (arith, sized, stamps)),
  )

  -- and the first of the groups of the rows from the place on
  pub groups-at : in_groups (learnings_at book rest rank)
      ≡ learnings_at book (take size rest) rank ∷ in_groups (learnings_at book (map f (drop (place + size) xs)) rank)
  groups-at =
      groups-next book rank rest rest-ranked (omega (arith, rest-length, low)) size
      (next-size rest size (sized ∙ ap (λ (n : ℕ). min n group_limit) (sym rest-length)))
      ∙ ap (λ (rows : List Row). learnings_at book (take size rest) rank ∷ in_groups (learnings_at book rows rank))
      (sym behind-lent)

  module _ (calls : List Call) (are : calls ≡ learnings_at book (take size rest) rank) where
    -- behind those so far the first group and the others are all of them
    pub groups-behind : (done all : List (List Call)) → done ++ in_groups (learnings_at book rest rank) ≡ all
        → (done ++ calls ∷ []) ++ in_groups (learnings_at book (map f (drop (place + size) xs)) rank) ≡ all
    groups-behind done all left =
        let others = in_groups (learnings_at book (map f (drop (place + size) xs)) rank) in
        append_assoc done (calls ∷ []) others
        ∙ ap (λ (groups : List (List Call)). done ++ groups)
        (ap (λ (group : List Call). group ∷ others) are ∙ sym groups-at)
        ∙ left

    -- it has as many calls as there are next rows
    pub calls-behind : (done : List (List Call)) → length (flat_map (λ group. group) done) ≤ place
        → length (flat_map (λ group. group) (done ++ calls ∷ [])) ≤ place + size
    calls-behind done few =
        let long : length calls ≡ size =
        ap length are
        ∙ next-length book rank rest size rest-ranked rest-differ (omega (arith, sized, low)) (omega (arith, sized))
        (omega (arith, sized, rest-length)) in
        omega (
          arith,
          ap length (flat_map-append (λ group. group) done (calls ∷ [])),
          length-append (flat_map (λ group. group) done) (calls ++ []),
          ap length (append-nil calls),
          long,
          few,
        )
