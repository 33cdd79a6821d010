-- What is asked and printed, one thing after another.
use Rattle.std.proofs.Common.{◌≡◌, ℕ, Some, None, List, [], ◌∷◌, codes, refl, map}
use lib.Utf8.{encode}
use Rattle.skk_calls.specs.declared.answer.Answer.{Answer}
use Rattle.skk_calls.specs.declared.answer.Answer.TheVariants.{Done, Refused}
use Rattle.skk_calls.specs.declared.answer.Refusal.TheVariants.{Memory}
use Rattle.skk_calls.specs.declared.answer.Reply.TheVariants as replies
use Rattle.skk_calls.specs.declared.call.Call.{Call}
use Rattle.skk_calls.specs.declared.call.Call.TheVariants.{Lookup, Learn, Purge}
use Rattle.skk_calls.specs.Interactions.{Interaction, ends, asks, prints, followed_by, printed, asked, end_of, Dialog}
use Rattle.skk_calls.specs.Interactions.{Comes, Begins, calls_of, answers_of, IsAnsweredAlone, printed_alone}
use Rattle.skk_calls.specs.States.{empty_state}
use Rattle.skk_calls.proofs.Samples.{plain, kanji_key, files, a}

-- two calls
abbrev first : Call
first = Lookup 1 kanji_key None

abbrev second : Call
second = Purge 1 kanji_key a

-- an answer as a text
abbrev named : Answer → List ℕ
named (Done (replies.Found cands)) = map (λ cand. 0x3A) cands
named (Done reply) = codes "done"
named (Refused refusal) = codes "refused"

-- x is printed, a call made, its answer printed, another call made, and its answer is the end
abbrev talk : Interaction (List ℕ)
talk = prints (codes "x") (asks first (λ answer. prints (named answer) (asks second (λ other. ends (named other)))))

abbrev refused : Answer
refused = Refused Memory

abbrev done : Answer
done = Done replies.Purged

by_no_answer : (printed talk [] ≡ codes "x") × (asked talk [] ≡ []) × (end_of talk [] ≡ None)
by_no_answer = (refl, refl, refl)

by_one : (printed talk (done ∷ []) ≡ codes "xdone") × (asked talk (done ∷ []) ≡ first ∷ [])
    × (end_of talk (done ∷ []) ≡ None)
by_one = (refl, refl, refl)

by_two : (printed talk (refused ∷ done ∷ []) ≡ codes "xrefused")
    × (asked talk (refused ∷ done ∷ []) ≡ first ∷ second ∷ [])
    × (end_of talk (refused ∷ done ∷ []) ≡ Some (codes "done"))
by_two = (refl, refl, refl)

by_three : (printed talk (done ∷ refused ∷ done ∷ []) ≡ codes "xdone")
    × (asked talk (done ∷ refused ∷ done ∷ []) ≡ first ∷ second ∷ [])
    × (end_of talk (done ∷ refused ∷ done ∷ []) ≡ None)
by_three = (refl, refl, refl)

-- another behind its end, which prints what it ended with
abbrev longer : Interaction ℕ
longer = followed_by talk (λ text. prints text (asks second (λ other. ends 7)))

behind : (printed longer (done ∷ refused ∷ []) ≡ codes "xdonerefused")
    × (asked longer (done ∷ refused ∷ done ∷ []) ≡ first ∷ second ∷ second ∷ [])
    × (end_of longer (done ∷ refused ∷ done ∷ []) ≡ Some 7)
behind = (refl, refl, refl)

-- the dictionary of one thread answers each call at the state that those before it leave
abbrev learning : Interaction ℕ
learning =
    asks first (λ found. prints (named found) (asks (Learn 1 kanji_key None (plain a))
    (λ learnt. prints (codes "|") (asks first (λ again. prints (named again) (ends 0))))))

alone : (printed_alone files empty_state learning ≡ codes ":::|::::")
    × (printed_alone [] empty_state learning ≡ codes "|:")
unfolding encode
alone = (refl, refl)

-- dialogs that an interaction without prints asks, whole and begun
abbrev quiet : Interaction ℕ
quiet = asks first (λ answer. asks second (λ other. ends 7))

abbrev whole : Dialog
whole = (first, done) ∷ (second, refused) ∷ []

parts : (calls_of whole ≡ first ∷ second ∷ []) × (answers_of whole ≡ done ∷ refused ∷ [])
parts = (refl, refl)

comes : Comes quiet whole 7
comes = (refl, (refl, refl))

not_half : Comes quiet ((first, done) ∷ []) 7 → ⊥
not_half is = is.1

not_more : Comes quiet ((first, done) ∷ (second, refused) ∷ (first, done) ∷ []) 7 → ⊥
not_more is = is.1.1

not_printing : (Comes {S = ℕ} (prints a (ends 7)) [] 7 → ⊥) × (Begins (prints a quiet) whole → ⊥)
not_printing = (λ is. is, λ is. is)

begins : Begins quiet [] × Begins quiet ((first, done) ∷ []) × Begins quiet whole
begins = (tt, (refl, tt), (refl, (refl, tt)))

not_beyond : Begins quiet ((first, done) ∷ (second, refused) ∷ (first, done) ∷ []) → ⊥
not_beyond is = is.1.1

-- each answer is that of the state before its call
answered_alone : IsAnsweredAlone [] empty_state
    ((first, Done (replies.Found [])) ∷ (second, done) ∷ (second, Done replies.Unchanged) ∷ [])
unfolding encode
answered_alone = (refl, (refl, (refl, tt)))
