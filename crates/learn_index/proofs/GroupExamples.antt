-- Examples of groups: which calls are one, what is planned of them, and what they are answered and leave.
use Rattle.std.proofs.Common.{◌≡◌, ℕ, zero, suc, true, false, List, [], ◌∷◌, map, codes, refl, None, Some, arith}
use Rattle.std.proofs.lemmas.Bool.{false≢true}
use Rattle.skk_text.specs.Pairs.{all_pairs}
use Rattle.skk_calls.specs.declared.answer.Reply.TheVariants as replies
use Rattle.skk_calls.specs.declared.call.Call.{Call}
use Rattle.skk_calls.specs.declared.call.Call.TheVariants.{Lookup, Learn, Purge}
use Rattle.skk_calls.specs.declared.part.Part.TheVariants.{Nasi, Ari}
use Rattle.skk_calls.specs.Histories.{after_calls}
use Rattle.skk_calls.specs.Rows.{RowKey, Cand, Row}
use Rattle.skk_calls.specs.States.{State}
use Rattle.learn_index.specs.declared.plan.Plan.{Plan}
use Rattle.learn_index.specs.declared.plan.Plan.TheVariants.{Still, Move, Lists}
use Rattle.learn_index.specs.Groups.{AreMade, ArePlanned, HasRoomFor, HaveRoom, IsGroup, IsLikeFor, book_of_group}
use Rattle.learn_index.specs.Groups.{count_left, learn_apart, learns_in, learns_under, may_plan, replies_to}
use Rattle.learn_index.specs.Index.{Index}

-- a key without okurigana, a candidate without a note, a row with these, and a learning
abbrev key : List ℕ → RowKey
key reading = record { part = Nasi; reading = reading }

abbrev cand : List ℕ → Cand
cand word = record { word = word; note = [] }

abbrev row : List ℕ → List Cand → ℕ → Row
row reading cands stamp = record { key = key reading; cands = cands; blocks = []; hides = []; stamp = stamp }

abbrev learn : ℕ → List ℕ → List ℕ → Call
learn book reading word = Learn book (key reading) None (cand word)

-- a learning under a key with okurigana
abbrev learn_ari : Call
learn_ari = Learn 7 (record { part = Ari; reading = codes "ab" }) None (cand (codes "x"))

-- Which calls are a group

learning_books : map (learns_in 7) (learn 7 (codes "a") (codes "x") ∷ learn 1 (codes "a") (codes "x")
    ∷ Purge 7 (key (codes "a")) (codes "x") ∷ Lookup 7 (key (codes "a")) None ∷ []) ≡ true ∷ false ∷ false ∷ false ∷ []
learning_books = refl

-- a key is one part and one reading
learning_keys : map (learns_under (key (codes "ab")))
    (learn 7 (codes "ab") (codes "x") ∷ learn 1 (codes "ab") (codes "y") ∷ learn 7 (codes "a") (codes "x")
    ∷ learn_ari ∷ Purge 7 (key (codes "ab")) (codes "x") ∷ []) ≡ true ∷ true ∷ false ∷ false ∷ false ∷ []
learning_keys = refl

-- the same word under two keys is no matter, and one key with two words is
learnings_apart : map (all_pairs learn_apart)
    ((learn 7 (codes "a") (codes "x") ∷ learn 7 (codes "ab") (codes "x") ∷ learn_ari ∷ [])
    ∷ (learn 7 (codes "a") (codes "x") ∷ learn 7 (codes "a") (codes "y") ∷ [])
    ∷ (learn 7 (codes "a") (codes "x") ∷ learn 7 (codes "b") (codes "x") ∷ learn 7 (codes "a") (codes "x") ∷ []) ∷ [])
    ≡ true ∷ false ∷ false ∷ []
learnings_apart = refl

books_of_groups : map book_of_group
    ((learn 7 (codes "a") (codes "x") ∷ learn 1 (codes "b") (codes "x") ∷ []) ∷ []
    ∷ (Purge 7 (key (codes "a")) (codes "x") ∷ learn 1 (codes "b") (codes "x") ∷ []) ∷ []) ≡ 7 ∷ 0 ∷ 0 ∷ []
books_of_groups = refl

-- a book that was changed five times, with one row
abbrev one_row : State
one_row =
    record {
      books = record { number = 1; count = 5; rows = row (codes "b") (cand (codes "u") ∷ []) 5 ∷ [] } ∷ [];
      lists = [];
    }

-- a group of two, of which the second finds the row that is there
abbrev two : List Call
two = learn 1 (codes "c") (codes "x") ∷ learn 1 (codes "b") (codes "y") ∷ []

two_are_a_group : IsGroup one_row two
two_are_a_group = record {
  some = omega arith;
  few = omega arith;
  learn = refl;
  apart = refl;
  stamps = omega arith;
}

-- no call is no group, nor are learnings in two books
none_is_no_group : IsGroup one_row [] → ⊥
none_is_no_group group = absurd (omega (arith, group.some))

two_books_are_no_group : IsGroup one_row (learn 1 (codes "c") (codes "x") ∷ learn 2 (codes "b") (codes "y") ∷ []) → ⊥
two_books_are_no_group group = false≢true group.learn

-- a book with this count, and nothing else
abbrev counted : ℕ → State
counted count = record { books = record { number = 1; count = count; rows = [] } ∷ []; lists = [] }

-- 256 stamps are left, and one less
stamps_left : IsGroup (counted 18446744073709551359) two
stamps_left = record {
  some = omega arith;
  few = omega arith;
  learn = refl;
  apart = refl;
  stamps = omega arith;
}

stamps_wanted : IsGroup (counted 18446744073709551360) two → ⊥
stamps_wanted group = absurd (omega (arith, group.stamps))

-- What is planned of them

-- each learning has the stamp behind that of the one before it, and the second keeps what its row has
abbrev two_plans : List Plan
two_plans =
    Move 1 6 (key (codes "c")) (Some (row (codes "c") (cand (codes "x") ∷ []) 6))
    (replies.Learned (record { book = 1; key = key (codes "c"); stamp = 6; before = None }))
    ∷ Move 1 7 (key (codes "b")) (Some (row (codes "b") (cand (codes "y") ∷ cand (codes "u") ∷ []) 7))
    (replies.Learned (record {
      book = 1;
      key = key (codes "b");
      stamp = 7;
      before = Some (row (codes "b") (cand (codes "u") ∷ []) 5);
    })) ∷ []

two_planned : ArePlanned one_row two two_plans
unfolding lib.Utf8.encode
two_planned = ((refl, refl, refl, refl, refl), ((refl, refl, refl, refl, refl), tt))

-- one plan for each, no more and no less
one_planned : ArePlanned one_row two (Still replies.StampsEnd ∷ []) → ⊥
one_planned planned = absurd planned.1

more_planned : ArePlanned one_row [] (Still replies.StampsEnd ∷ []) → ⊥
more_planned planned = absurd planned

two_made : AreMade one_row two_plans
unfolding lib.Utf8.encode
two_made = (two, refl, two_planned)

-- a question is not planned
plans_may_be : map may_plan (learn 1 (codes "c") (codes "x") ∷ Lookup 1 (key (codes "c")) None ∷ []) ≡ true ∷ false ∷ []
unfolding lib.Utf8.encode
plans_may_be = refl

counts_left : map (count_left 4) (Still replies.StampsEnd ∷ Move 1 6 (key (codes "c")) None replies.Restored ∷ [])
    ≡ 4 ∷ 6 ∷ []
counts_left = refl

-- a state is like another one for a learning where its own key has the same row, whatever the others have
abbrev later : State
later =
    record {
      books = record {
        number = 1;
        count = 6;
        rows = row (codes "b") (cand (codes "u") ∷ []) 5 ∷ row (codes "c") (cand (codes "x") ∷ []) 6 ∷ [];
      } ∷ [];
      lists = [];
    }

like_for_b : IsLikeFor (learn 1 (codes "b") (codes "y")) 6 later one_row
like_for_b = (refl, refl)

unlike_for_c : IsLikeFor (learn 1 (codes "c") (codes "y")) 6 later one_row → ⊥
unlike_for_c like = none like.1
  where
    none : Some (row (codes "c") (cand (codes "x") ∷ []) 6) ≡ None → ⊥
    none e = cc

-- What they are answered and leave

two_answered : replies_to [] one_row two
    ≡ replies.Learned (record { book = 1; key = key (codes "c"); stamp = 6; before = None })
    ∷ replies.Learned (record {
      book = 1;
      key = key (codes "b");
      stamp = 7;
      before = Some (row (codes "b") (cand (codes "u") ∷ []) 5);
    }) ∷ []
unfolding lib.Utf8.encode
two_answered = refl

two_leave : after_calls one_row two ≡ record {
  books = record {
    number = 1;
    count = 7;
    rows =
        row (codes "b") (cand (codes "y") ∷ cand (codes "u") ∷ []) 7
        ∷ row (codes "c") (cand (codes "x") ∷ []) 6 ∷ [];
  } ∷ [];
  lists = [];
}
unfolding lib.Utf8.encode
two_leave = refl

-- The room of a group

-- a book with room for two changes, and one without
abbrev room_for_two : Index
room_for_two =
    record {
      state = one_row;
      spare = record { number = 1; changes = 2 } ∷ record { number = 2; changes = 0 } ∷ [];
      spare_lists = 9;
    }

last_room : HasRoomFor room_for_two 2 (Move 1 6 (key (codes "c")) None replies.Restored)
last_room = omega arith

no_room : HasRoomFor room_for_two 3 (Move 1 6 (key (codes "c")) None replies.Restored) → ⊥
no_room room = absurd (omega (arith, room))

other_room : HasRoomFor room_for_two 2 (Move 2 6 (key (codes "c")) None replies.Restored) → ⊥
other_room room = absurd (omega (arith, room))

-- what is only answered needs none, and no group gives a list, whatever room there is
still_room : HasRoomFor room_for_two 3 (Still replies.StampsEnd)
still_room = tt

no_list : HasRoomFor room_for_two 1 (Lists 1 (7 ∷ []) replies.Shared) → ⊥
no_list room = absurd room

-- each plan asks for the room of all
two_have_room : HaveRoom room_for_two two_plans
two_have_room zero d low = omega arith
two_have_room (suc zero) d low = omega arith
two_have_room (suc (suc k)) d low = absurd (omega (arith, low))

three_have_none : HaveRoom room_for_two (Still replies.StampsEnd ∷ two_plans) → ⊥
three_have_none room = absurd (omega (arith, room 1 (Still replies.StampsEnd) (omega arith)))
