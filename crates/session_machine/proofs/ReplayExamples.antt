-- The readings of a key behind answers, and callers that give answers, as the definitions compute them.
use Rattle.std.proofs.Common.{◌≡◌, refl, ℕ, true, false, map, Some, None, [], ◌∷◌, codes}
use lib.Utf8.{encode}
use Rattle.skk_calls.specs.declared.answer.Answer.{Answer}
use Rattle.skk_calls.specs.declared.answer.Answer.TheVariants.{Done, Refused}
use Rattle.skk_calls.specs.declared.answer.Refusal.TheVariants as refusals
use Rattle.skk_calls.specs.declared.answer.Reply.TheVariants as replies
use Rattle.skk_calls.specs.declared.call.Call.{Call}
use Rattle.skk_calls.specs.declared.call.Call.TheVariants.{Lookup, Purge}
use Rattle.skk_calls.specs.declared.part.Part.TheVariants.{Nasi}
use Rattle.skk_calls.specs.Interactions.{Interaction, ends, asks, prints}
use Rattle.session_machine.specs.declared.known_answers.Stage.TheVariants.{Giving, Kept, Failed}
use Rattle.session_machine.specs.NextAsked.{next_asked, may_answer_all}
use Rattle.session_machine.specs.Replayed.{Keeps, Replays, end_behind}
use Rattle.session_machine.specs.Session.{new_session}

abbrev looks : Call
looks = Lookup 1 (record { part = Nasi; reading = codes "a" }) None

abbrev purges : Call
purges = Purge 1 (record { part = Nasi; reading = codes "a" }) (codes "b")

abbrev found : Answer
found = Done (replies.Found [])

abbrev purged : Answer
purged = Done replies.Purged

abbrev lacking : Answer
lacking = Refused refusals.Memory

abbrev no_disk : Answer
no_disk = Refused refusals.Disk

-- a look-up is asked, and behind what it finds a purge; a refusal of it ends the interaction
abbrev behind : Answer → Interaction ℕ
behind (Done reply) = prints (codes "x") (asks purges (λ answer. ends 2))
behind (Refused refusal) = ends 1

abbrev tree : Interaction ℕ
tree = prints (codes "y") (asks looks behind)

-- The call that is asked next

-- the first call behind no answer, the second behind one, and none behind the end, also behind more answers
next_calls : map (next_asked tree) (
    [] ∷ (found ∷ []) ∷ (found ∷ purged ∷ []) ∷ (found ∷ purged ∷ found ∷ []) ∷ (lacking ∷ [])
    ∷ (lacking ∷ purged ∷ [])
    ∷ [])
    ≡ Some looks ∷ Some purges ∷ None ∷ None ∷ None ∷ None ∷ []
unfolding encode
next_calls = refl

-- Which answers may be given

-- each call may get its answer, and no more is asked of answers behind the end
given : map (may_answer_all tree) (
    [] ∷ (found ∷ []) ∷ (found ∷ purged ∷ []) ∷ (found ∷ no_disk ∷ []) ∷ (lacking ∷ []) ∷ (lacking ∷ found ∷ [])
    ∷ (found ∷ purged ∷ found ∷ [])
    ∷ [])
    ≡ true ∷ true ∷ true ∷ true ∷ true ∷ true ∷ true ∷ []
unfolding encode
given = refl

-- a look-up is not purged and not refused for the disk, and a purge finds nothing
not_given : map (may_answer_all tree) (
    (purged ∷ []) ∷ (no_disk ∷ []) ∷ (found ∷ found ∷ []) ∷ (purged ∷ purged ∷ [])
    ∷ [])
    ≡ false ∷ false ∷ false ∷ false ∷ []
unfolding encode
not_given = refl

-- Callers that give answers

-- of two answers one was given, and the other one is left
gives_one : Replays (found ∷ purged ∷ []) ((looks, found) ∷ []) (purged ∷ []) Giving
gives_one = refl

-- no other one is left then, and none that was given stays
gives_that : Replays (found ∷ purged ∷ []) ((looks, found) ∷ []) [] Giving → ⊥
gives_that e = absurd (cc)

gives_it_once : Replays (found ∷ purged ∷ []) ((looks, found) ∷ []) (found ∷ purged ∷ []) Giving → ⊥
gives_it_once e = absurd (cc)

-- behind both the next call is kept and refused, and so is the one behind it
keeps_one : Replays (found ∷ []) ((looks, found) ∷ (purges, lacking) ∷ (looks, lacking) ∷ []) [] (Kept purges)
unfolding encode
keeps_one = (refl, (looks, found) ∷ [], (looks, lacking) ∷ [], refl, refl)

-- one that failed says nothing of what it gave
fails : Replays (found ∷ []) ((looks, purged) ∷ []) [] Failed
fails = tt

-- a call is kept as it is, or its copy failed; the giving does not go on
keeps_call : Keeps looks (Kept looks) × Keeps looks Failed
keeps_call = (refl, tt)

keeps_no_other : Keeps looks (Kept purges) → ⊥
keeps_no_other e = absurd (cc)

gives_on_not : Keeps looks Giving → ⊥
gives_on_not e = e

-- a key ends where no answer is left
ended : map (λ left. end_behind left (new_session 1 1)) ([] ∷ (found ∷ []) ∷ [])
    ≡ Some (new_session 1 1) ∷ None ∷ []
ended = refl
