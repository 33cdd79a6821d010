-- The records of the plans of a group, written one after another.
use Rattle.std.proofs.Common.{◌≡◌, ℕ, ◌+◌, ◌<◌, List, [], ◌∷◌, ◌++◌, length, get_or, take, sym, ap}
use Rattle.std.proofs.Common.{◌∙◌, subst}
use Rattle.std.specs.List.{All}
use Rattle.std.proofs.lemmas.List.{take_more}
use Rattle.std.proofs.lemmas.List.Elements.{All-more, filter_map-append}
use Rattle.skk_journal.specs.RecordLaws.{framed-append}
use Rattle.skk_journal.specs.Records.{framed}
use Rattle.learn_index.specs.declared.plan.Plan.{Plan}
use Rattle.batch_store.specs.Groups.{put_payload, put_payloads}

-- the record of one more plan behind those of the plans before it
pub pushed : (plans : List Plan) (i : ℕ) (plan : Plan) (before after : List ℕ) → i < length plans
    → plan ≡ get_or plans i plan → before ≡ framed (put_payloads (take i plans))
    → after ≡ before ++ framed (put_payloads (plan ∷ [])) → after ≡ framed (put_payloads (take (i + 1) plans))
pushed plans i plan before after low at so_far made =
    made ∙ ap (λ (l : List ℕ). l ++ framed (put_payloads (plan ∷ []))) so_far
    ∙ sym (framed-append (put_payloads (take i plans)) (put_payloads (plan ∷ [])))
    ∙ ap framed (sym more)
  where
    more : put_payloads (take (i + 1) plans) ≡ put_payloads (take i plans) ++ put_payloads (plan ∷ [])
    more =
        ap put_payloads (take_more plans i plan low ∙ ap (λ (p : Plan). take i plans ++ p ∷ []) (sym at))
        ∙ filter_map-append put_payload (take i plans) (plan ∷ [])

-- what holds of plans and of one more
pub more_put : (P : Plan → Type 0) (plans : List Plan) (i : ℕ) (plan : Plan) → i < length plans
    → plan ≡ get_or plans i plan → All P (take i plans) → P plan → All P (take (i + 1) plans)
more_put P plans i plan low at so_far one =
    All-more P plans i plan low so_far (subst (λ (p : Plan). P p) at one)
