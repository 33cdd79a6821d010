-- Groups of learnings, which are planned together and applied together.
use Rattle.std.specs.Prelude.{◌≡◌, ℕ, ◌+◌, ◌<◌, ◌≤◌, Bool, true, false, ◌&&◌, ◌==◌, not, ⊤, List, [], ◌∷◌, length}
use Rattle.std.specs.List.{All, list_all}
use Rattle.skk_text.specs.Counts.{last_count}
use Rattle.skk_text.specs.Pairs.{all_pairs}
use Rattle.skk_calls.specs.declared.answer.Reply.{Reply}
use Rattle.skk_calls.specs.declared.call.Call.{Call}
use Rattle.skk_calls.specs.declared.call.Call.TheVariants.{Learn}
use Rattle.skk_calls.specs.Dictionary.{answer, after, is_call, is_fit}
use Rattle.skk_calls.specs.Rows.{RowKey, Row, same_key}
use Rattle.skk_calls.specs.States.{State, count_of, row_at}
use Rattle.learn_index.specs.declared.plan.Plan.{Plan}
use Rattle.learn_index.specs.declared.plan.Plan.TheVariants.{Still, Move, Lists}
use Rattle.learn_index.specs.Index.{Index, spare_of}
use Rattle.learn_index.specs.Plans.{is_question, IsPlanned}

-- What a group is

-- a call learns in the book of a number
abbrev pub learns_in : ℕ → Call → Bool
learns_in number (Learn book key okuri cand) = book == number
learns_in number call = false

-- a call learns under a key
abbrev pub learns_under : RowKey → Call → Bool
learns_under key (Learn book own okuri cand) = same_key own key
learns_under key call = false

-- the first of two calls does not learn under the key under which the second does
abbrev pub learn_apart : Call → Call → Bool
learn_apart call (Learn book key okuri cand) = not (learns_under key call)
learn_apart call other = true

-- the book in which the first of some calls learns
abbrev pub book_of_group : List Call → ℕ
book_of_group (Learn book key okuri cand ∷ calls) = book
book_of_group calls = 0

-- the most calls of a group
abbrev pub group_limit : ℕ
group_limit = 256

-- calls are a group at a state: from one to 256 learnings, all in one book, no two of them under one key, and the book
-- has a stamp for each of 256 changes
pub record IsGroup (state : State) (calls : List Call) : Type 0 where
  pub some : 0 < length calls
  pub few : length calls ≤ group_limit
  pub learn : list_all (learns_in (book_of_group calls)) calls ≡ true
  pub apart : all_pairs learn_apart calls ≡ true
  pub stamps : count_of state (book_of_group calls) + group_limit ≤ last_count

-- What is planned of it

-- plans are those of calls, one for each in order, at the state after the calls before it
abbrev pub ArePlanned : State → List Call → List Plan → Type 0
ArePlanned state [] [] = ⊤
ArePlanned state [] (plan ∷ plans) = ⊥
ArePlanned state (call ∷ calls) [] = ⊥
ArePlanned state (call ∷ calls) (plan ∷ plans) =
    IsPlanned state call plan × ArePlanned (after state call) calls plans

-- a call may be planned: it is one, it is fit, and it is no question
abbrev pub may_plan : Call → Bool
may_plan call = is_call call && (is_fit call && not (is_question call))

-- plans were made for some calls that may be planned
abbrev pub AreMade : State → List Plan → Type 0
AreMade state plans = (calls : List Call) × (list_all may_plan calls ≡ true) × ArePlanned state calls plans

-- a plan changes nothing, or a row of a book that has room for so many changes
abbrev pub HasRoomFor : Index → ℕ → Plan → Type 0
HasRoomFor index changes (Still reply) = ⊤
HasRoomFor index changes (Move book count key row reply) = changes ≤ spare_of index book
HasRoomFor index changes (Lists who list reply) = ⊥

-- plans change rows of books alone, and each of these books has room for as many changes as there are plans
abbrev pub HaveRoom : Index → List Plan → Type 0
HaveRoom index plans = All (HasRoomFor index (length plans)) plans

-- what calls are answered, one after another
abbrev pub replies_to : List (List Row) → State → List Call → List Reply
replies_to files state [] = []
replies_to files state (call ∷ calls) = answer files state call ∷ replies_to files (after state call) calls

-- How one learning is planned before those in front of it are applied

-- the count that a plan leaves a book that has this one
abbrev pub count_left : ℕ → Plan → ℕ
count_left before (Move book count key row reply) = count
count_left before plan = before

-- where a call learns, a later state has this count of its book, and under its key the row of an earlier state
abbrev pub IsLikeFor : Call → ℕ → State → State → Type 0
IsLikeFor (Learn book key okuri cand) count later state =
    (count_of later book ≡ count) × (row_at later book key ≡ row_at state book key)
IsLikeFor call count later state = ⊤
