-- Laws: the replies to changes are of their kinds.
use Rattle.std.proofs.Common.{◌≡◌, refl, arith, ℕ, ◌+◌, true, false, List}
use Rattle.skk_calls.specs.declared.answer.Reply.{Reply}
use Rattle.skk_calls.specs.declared.answer.Reply.TheVariants as replies
use Rattle.skk_calls.specs.declared.call.Call.{Call}
use Rattle.skk_calls.specs.declared.call.Call.TheVariants.{Lookup, Complete, Learn, Purge, Annotate, Share, Unlearn}
use Rattle.skk_calls.specs.Dictionary.{answer, change_reply, line_length, may_reply}
use Rattle.skk_calls.specs.Learning.{learnt, purged, annotated}
use Rattle.skk_calls.specs.Rows.{Row}
use Rattle.skk_calls.specs.States.{State, count_of, row_at}
use Rattle.learn_index.specs.Plans.{is_question}

-- a reply to a change is one of its kind where the one that tells of the change is
may-told : (call : Call) (count : ℕ) (after : Row) (reply : Reply)
    → ((n : ℕ) → may_reply call (replies.TooBig n) ≡ true) → may_reply call replies.StampsEnd ≡ true
    → may_reply call reply ≡ true → may_reply call (change_reply count after reply) ≡ true
may-told call count after reply big ended told = grind (arith, big (line_length after))

-- what the dictionary replies to a change is one of its kind
pub may-change : (files : List (List Row)) (state : State) (call : Call) → is_question call ≡ false
    → may_reply call (answer files state call) ≡ true
may-change files state (Lookup who key okuri) other = absurd (cc)
may-change files state (Complete who prefix) other = absurd (cc)
may-change files state (Learn book key okuri cand) other =
    may-told (Learn book key okuri cand) (count_of state book)
    (learnt (row_at state book key) key okuri cand (count_of state book + 1)) _ (λ n. refl) refl refl
may-change files state (Purge book key word) other =
    grind (
      arith,
      may-told (Purge book key word) (count_of state book)
          (purged (row_at state book key) key word (count_of state book + 1)) replies.Purged (λ n. refl) refl refl,
    )
may-change files state (Annotate book key cand) other =
    grind (
      arith,
      may-told (Annotate book key cand) (count_of state book)
          (annotated (row_at state book key) key cand (count_of state book + 1)) replies.Annotated (λ n. refl) refl
          refl,
    )
may-change files state (Share who books) other = grind arith
may-change files state (Unlearn learned) other = grind arith
