-- Whose calls are a typist's own, which states look alike, and which interactions ask own calls alone.
use Rattle.std.proofs.Common.{◌≡◌, ℕ, true, false, List, [], ◌∷◌, ◌==◌, All, ap, codes, refl, map, None, zero, suc}
use Rattle.std.proofs.lemmas.Bool.{false≢true}
use Rattle.std.proofs.lemmas.List.Elements.{All-cons, All-head, All-nil, All-tail}
use Rattle.skk_calls.specs.declared.answer.Answer.{Answer}
use Rattle.skk_calls.specs.declared.answer.Answer.TheVariants.{Done, Refused}
use Rattle.skk_calls.specs.declared.answer.Refusal.TheVariants.{Memory}
use Rattle.skk_calls.specs.declared.answer.Reply.TheVariants as replies
use Rattle.skk_calls.specs.declared.call.Call.{Call}
use Rattle.skk_calls.specs.declared.call.Call.TheVariants.{Lookup, Complete, Learn, Purge, Annotate, Share, Unlearn}
use Rattle.skk_calls.specs.declared.part.Part.TheVariants.{Nasi}
use Rattle.skk_calls.specs.declared.entry.Entry.{Entry}
use Rattle.skk_calls.specs.BookLists.{same_numbers}
use Rattle.skk_calls.specs.Interactions.{Interaction, ends, asks, prints}
use Rattle.skk_calls.specs.Rows.{RowKey, Cand, Row, Learned}
use Rattle.skk_calls.specs.States.{State}
use Rattle.dict_laws.specs.ReadBooks.{SameRows}
use Rattle.dict_laws.specs.OwnBooks.{owner, is_own, LookAlike, is_own_entry, is_apart, gives_own, GivesOwn, AsksOwn}

-- Calls

abbrev key : RowKey
key = record { part = Nasi; reading = codes "a" }

abbrev cand : Cand
cand = record { word = codes "b"; note = [] }

-- what was learnt in a book
abbrev learned : ℕ → Learned
learned book = record { book = book; key = key; stamp = 7; before = None }

-- a call of each kind of a typist
abbrev calls : ℕ → List Call
calls typist =
    Lookup typist key None ∷ Complete typist [] ∷ Learn typist key None cand ∷ Purge typist key []
    ∷ Annotate typist key cand ∷ Unlearn (learned typist)
    ∷ []

-- a list of books is the typist's, and no call of its own gives it
list_of_books : map (λ typist. is_own typist (Share 3 (7 ∷ 0 ∷ []))) (3 ∷ 7 ∷ 0 ∷ []) ≡ false ∷ false ∷ false ∷ []
list_of_books = refl

owner_of_list : owner (Share 3 (7 ∷ 0 ∷ [])) ≡ 3
owner_of_list = refl

owners_of_calls : map owner (calls 3) ≡ 3 ∷ 3 ∷ 3 ∷ 3 ∷ 3 ∷ 3 ∷ []
owners_of_calls = refl

own_calls : map (is_own 3) (calls 3) ≡ true ∷ true ∷ true ∷ true ∷ true ∷ true ∷ []
own_calls = refl

-- those of another typist, and those on the shared book, are not the typist's own
other_calls : map (is_own 2) (calls 3) ≡ false ∷ false ∷ false ∷ false ∷ false ∷ false ∷ []
other_calls = refl

shared_calls : map (is_own 2) (calls 0) ≡ false ∷ false ∷ false ∷ false ∷ false ∷ false ∷ []
shared_calls = refl

-- States

abbrev row : Row
row = record { key = key; cands = cand ∷ []; blocks = []; hides = []; stamp = 1 }

-- the shared book with its count and its rows, and a book of another number
abbrev with_books : ℕ → List Row → ℕ → ℕ → List Row → State
with_books shared_count shared number count rows =
    record {
      books =
          record { number = 0; count = shared_count; rows = shared }
          ∷ record { number = number; count = count; rows = rows } ∷ [];
      lists = [];
    }

-- the same where the typist of a number has a list of books
abbrev with_books_listed : ℕ → List ℕ → State → State
with_books_listed typist books st = record st { lists = record { typist = typist; books = books } ∷ [] }

-- what two books have
alike_in : (P : ℕ → Type 0) → (number other : ℕ) → P number → P other → All P (number ∷ other ∷ [])
alike_in P number other one two =
    All-cons P number (other ∷ []) one (All-cons P other [] two (All-nil P))

abbrev state : State
state = with_books 4 (row ∷ []) 1 2 (row ∷ [])

-- the count of the shared book makes no difference
other_shared_count : LookAlike 1 state (with_books 5 (row ∷ []) 1 2 (row ∷ []))
other_shared_count = (refl, refl, alike_in (SameRows state (with_books 5 (row ∷ []) 1 2 (row ∷ []))) 1 0 refl refl)

-- nor do books of others
other_book : LookAlike 2 state (with_books 4 (row ∷ []) 3 1 [])
other_book = (refl, refl, alike_in (SameRows state (with_books 4 (row ∷ []) 3 1 [])) 2 0 refl refl)

-- the count of the typist's book does, and so do its rows and those of the shared book
other_count : LookAlike 1 state (with_books 4 (row ∷ []) 1 3 (row ∷ [])) → ⊥
other_count alike = false≢true (ap (λ n. n == 2) alike.0)

other_rows : LookAlike 1 state (with_books 4 (row ∷ []) 1 2 []) → ⊥
other_rows alike =
    let e : [] ≡ row ∷ [] = All-head (SameRows state (with_books 4 (row ∷ []) 1 2 [])) 1 (0 ∷ []) alike.2 in absurd (cc)

other_shared : LookAlike 1 state (with_books 4 [] 1 2 (row ∷ [])) → ⊥
other_shared alike =
    let same = SameRows state (with_books 4 [] 1 2 (row ∷ [])) in
    let e : [] ≡ row ∷ [] = All-head same 0 [] (All-tail same 1 (0 ∷ []) alike.2) in absurd (cc)

-- where the typist's list lacks the shared book its rows make none
unread_shared : LookAlike 1 (with_books_listed 1 (7 ∷ []) state)
    (with_books_listed 1 (7 ∷ []) (with_books 4 [] 1 2 (row ∷ [])))
unread_shared = (
  refl,
  refl,
  alike_in (SameRows (with_books_listed 1 (7 ∷ []) state)
      (with_books_listed 1 (7 ∷ []) (with_books 4 [] 1 2 (row ∷ [])))) 1 7 refl refl,
)

-- but another list makes one
other_list : LookAlike 1 state (with_books_listed 1 (7 ∷ []) state) → ⊥
other_list alike = false≢true (ap (λ books. same_numbers books (0 ∷ [])) alike.1)

-- to the typist of the shared book its count makes a difference too
shared_typist : LookAlike 0 state (with_books 5 (row ∷ []) 1 2 (row ∷ [])) → ⊥
shared_typist alike = false≢true (ap (λ n. n == 4) alike.0)

-- Histories

-- callers from 0 on: of the typists 1 and 2, of the first again, and one with the shared book
abbrev typist_of : ℕ → ℕ
typist_of zero = 1
typist_of (suc zero) = 2
typist_of (suc (suc zero)) = 1
typist_of number = 0

-- a call of a caller for a typist
abbrev asking : ℕ → ℕ → Entry
asking number typist = record { number = number; call = Complete typist []; answer = Refused Memory }

own_entries : map (is_own_entry typist_of) (asking 0 1 ∷ asking 1 2 ∷ asking 0 2 ∷ asking 1 1 ∷ asking 3 0 ∷ [])
    ≡ true ∷ true ∷ false ∷ false ∷ true ∷ []
own_entries = refl

apart_entries : map (is_apart state typist_of 0) (asking 0 1 ∷ asking 1 2 ∷ asking 2 1 ∷ asking 3 0 ∷ [])
    ≡ true ∷ true ∷ false ∷ false ∷ []
apart_entries = refl

-- where the first typist reads the book of the second, and not the shared one
apart_by_lists : map (is_apart (with_books_listed 1 (2 ∷ []) state) typist_of 0)
    (asking 0 1 ∷ asking 1 2 ∷ asking 2 1 ∷ asking 3 0 ∷ [])
    ≡ true ∷ false ∷ false ∷ true ∷ []
apart_by_lists = refl

-- Interactions

given_own : map (gives_own 3) (
    Done (replies.Learned (learned 3)) ∷ Done (replies.Learned (learned 2)) ∷ Done replies.Purged ∷ Refused Memory
    ∷ [])
    ≡ true ∷ false ∷ true ∷ true ∷ []
given_own = refl

-- a dialog gives own learnings where each own call is given one of the own book, whatever another's call is given
own_dialog : GivesOwn 3 (
    (Learn 3 key None cand, Done (replies.Learned (learned 3)))
    ∷ (Learn 2 key None cand, Done (replies.Learned (learned 2))) ∷ [])
own_dialog = (λ own. refl, (λ own. absurd (false≢true own), tt))

other_dialog : GivesOwn 3 ((Learn 3 key None cand, Done (replies.Learned (learned 2))) ∷ []) → ⊥
other_dialog gives = false≢true (gives.0 refl)

-- what was learnt is taken back, where anything was
abbrev taking_back : Answer → Interaction ℕ
taking_back (Done (replies.Learned what)) = asks (Unlearn what) (λ given. ends 9)
taking_back given = ends 9

-- a typist learns, and takes back what was given: these calls are the typist's own, and the end is 9
asks_own : AsksOwn 3 (λ end. end ≡ 9) (prints (codes "a") (asks (Learn 3 key None cand) taking_back))
asks_own = (refl, by)
  where
    by : (given : Answer) → gives_own 3 given ≡ true → AsksOwn 3 (λ end. end ≡ 9) (taking_back given)
    by (Done (replies.Learned what)) own = (own, λ given gives. refl)
    by (Done reply) own = refl
    by (Refused refusal) own = refl

-- to another typist they are not, and no other end is given
asks_others : AsksOwn 2 (λ end. end ≡ 9) (asks (Learn 3 key None cand) taking_back) → ⊥
asks_others own = false≢true own.0

ends_otherwise : AsksOwn 3 (λ (end : ℕ). end ≡ 9) (ends 8) → ⊥
ends_otherwise e = false≢true (ap (λ n. n == 9) e)
