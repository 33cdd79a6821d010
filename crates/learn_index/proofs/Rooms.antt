-- Vectors that may be there, and the room of one and of another where there is one.
use Rattle.std.proofs.Common.{◌≡◌, ℕ, ◌+◌, ◌<◌, ◌≤◌, Option, None, Some, Vec, refl, sym, ap, arith}
use Rattle.std.specs.Option.{ForSome}
use Rattle.std.specs.Vec.{vec_len, vec_capacity}
use Rattle.learn_index.specs.Kept.{free_in, room_in}

-- a vector that is there is that one
pub some_items : {X A : Type 0} (one other : Vec X A) → Some one ≡ Some other → other.items ≡ one.items
some_items {X} {A} one other e = let same : one ≡ other = cc in ap (λ (v : Vec X A). v.items) (sym same)

module _ {X Y A : Type 0} (rows : Vec X A) where
  -- where both have room for so many items there is room for them
  pub room_from : (by_stamp : Option (Vec Y A)) (items : ℕ) → vec_len rows + items ≤ vec_capacity rows
      → ForSome by_stamp (λ stamps. vec_len stamps + items ≤ vec_capacity stamps) → items ≤ room_in rows by_stamp
  room_from None items room other = omega (arith, room)
  room_from (Some stamps) items room other = omega (arith, room, other stamps refl)

  -- where both take the room of one item at most, so they do together
  pub room_one : (after : Vec X A) → free_in rows ≤ free_in after + 1 → (stamps : Vec Y A)
      (those : Option (Vec Y A)) → ForSome those (λ other. free_in stamps ≤ free_in other + 1)
      → room_in rows (Some stamps) ≤ room_in after those + 1
  room_one after room stamps None each = omega (arith, room)
  room_one after room stamps (Some those) each = omega (arith, room, each those refl)

  -- and where there is room both have it
  pub room_first : (by_stamp : Option (Vec Y A)) → 0 < room_in rows by_stamp → vec_len rows < vec_capacity rows
  room_first None room = omega (arith, room)
  room_first (Some stamps) room = omega (arith, room)

  pub room_second : (by_stamp : Option (Vec Y A)) → 0 < room_in rows by_stamp
      → ForSome by_stamp (λ stamps. vec_len stamps < vec_capacity stamps)
  room_second None room stamps is = cc
  room_second (Some those) room stamps is = rooms those stamps room is
    where
      rooms : (one other : Vec Y A) → 0 < room_in rows (Some one) → Some one ≡ Some other
          → vec_len other < vec_capacity other
      rooms one other low same = rw (the_same one other same) at (here one low)
        where
          the_same : (v w : Vec Y A) → Some v ≡ Some w → v ≡ w
          the_same v w e = cc

          here : (v : Vec Y A) → 0 < room_in rows (Some v) → vec_len v < vec_capacity v
          here v e = omega (arith, e)
