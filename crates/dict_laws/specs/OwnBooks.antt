-- Which calls are a typist's own, and which states look alike to a typist.
use Rattle.std.specs.Prelude.{◌≡◌, ⊤, ℕ, Bool, true, ◌&&◌, ◌||◌, ◌==◌, not, All, [], ◌∷◌}
use Rattle.skk_calls.specs.declared.answer.Answer.{Answer}
use Rattle.skk_calls.specs.declared.answer.Answer.TheVariants.{Done}
use Rattle.skk_calls.specs.declared.answer.Reply.TheVariants as replies
use Rattle.skk_calls.specs.declared.call.Call.{Call}
use Rattle.skk_calls.specs.declared.call.Call.TheVariants.{Lookup, Complete, Learn, Purge, Annotate, Share, Unlearn}
use Rattle.skk_calls.specs.declared.entry.Entry.{Entry}
use Rattle.skk_calls.specs.Interactions.{Interaction, ends, asks, prints, Dialog}
use Rattle.skk_calls.specs.BookLists.{has_number}
use Rattle.skk_calls.specs.Dictionary.{is_share}
use Rattle.skk_calls.specs.States.{State, books_read, count_of, shared_books}
use Rattle.dict_laws.specs.ReadBooks.{SameRows}

-- whose call a call is: the typist's that it is made for, or whose book it changes; a list of books is the typist's
abbrev pub owner : Call → ℕ
owner (Lookup who key okuri) = who
owner (Complete who prefix) = who
owner (Learn book key okuri cand) = book
owner (Purge book key word) = book
owner (Annotate book key cand) = book
owner (Share who books) = who
owner (Unlearn learned) = learned.book

-- a call is a typist's own: it is made for the typist, or it changes the typist's book, and it gives no list of books
abbrev pub is_own : ℕ → Call → Bool
is_own typist call = not (is_share call) && owner call == typist

-- two states look alike to a typist: the typist's book has the same count in both, the typist has the same list of
-- books, and each book that the typist reads has the same rows
abbrev pub LookAlike : ℕ → State → State → Type 0
LookAlike typist state other =
    (count_of other typist ≡ count_of state typist)
    × (shared_books other typist ≡ shared_books state typist)
    × All (SameRows state other) (books_read state typist)

-- Histories, where each caller's number has a typist

-- the call of an entry is its typist's own
abbrev pub is_own_entry : (ℕ → ℕ) → Entry → Bool
is_own_entry typist_of entry = is_own (typist_of entry.number) entry.call

-- an entry is of the caller of a number, or its typist has a book that this caller's typist does not read in a state
abbrev pub is_apart : State → (ℕ → ℕ) → ℕ → Entry → Bool
is_apart state typist_of number entry =
    entry.number == number || not (has_number (books_read state (typist_of number)) (typist_of entry.number))

-- Interactions

-- an answer gives a typist a learning of the typist's own book, where it gives one
abbrev pub gives_own : ℕ → Answer → Bool
gives_own typist (Done (replies.Learned learned)) = learned.book == typist
gives_own typist given = true

-- each own call of a dialog is given own learnings alone
abbrev pub GivesOwn : ℕ → Dialog → Type 0
GivesOwn typist [] = ⊤
GivesOwn typist (pair ∷ dialog) =
    (is_own typist pair.0 ≡ true → gives_own typist pair.1 ≡ true) × GivesOwn typist dialog

-- each call of an interaction has a property, and so has the value of its end, where each answer has one
abbrev pub AsksOnly : {S : Type 0} → (Call → Type 0) → (Answer → Type 0) → (S → Type 0) → Interaction S → Type 0
AsksOnly Asked Given Ended (ends value) = Ended value
AsksOnly Asked Given Ended (asks call next) =
    Asked call × ((given : Answer) → Given given → AsksOnly Asked Given Ended (next given))
AsksOnly Asked Given Ended (prints text rest) = AsksOnly Asked Given Ended rest

-- whatever is answered that gives a typist own learnings alone, each call of an interaction is the typist's own, and
-- the value of its end has a property
abbrev pub AsksOwn : {S : Type 0} → ℕ → (S → Type 0) → Interaction S → Type 0
AsksOwn typist Ended interaction =
    AsksOnly (λ call. is_own typist call ≡ true) (λ given. gives_own typist given ≡ true) Ended interaction
