use Rattle.std.proofs.Common.{◌≡◌, ◌⊎◌, ◌∙◌, ℕ, List, Option, Some, true, inl, ap, sym, ◌++◌, ◌∷◌, []}
use Rattle.std.specs.Prelude.{Result, Ok, Err, OnOk, OnErr}
use Rattle.skk_calls.specs.declared.part.Part.{Part}
use Rattle.skk_calls.specs.Rows.{Cand}
use Rattle.learned_store.specs.declared.kept_answer.KeptAnswer.{KeptAnswer}
use Rattle.learned_store.specs.KeptLookUps.{cands_in, is_of}
use Rattle.learned_store.proofs.KeptReadings.{pushed}
use Rattle.learned_store.proofs.kept_answers.with_answer.Goals as goal

-- an answer that is pushed, or that there is no memory for
push : {X E : Type 0} (old new : List KeptAnswer) (answer : KeptAnswer) (result : Result X E)
    → OnOk result (new ≡ old ++ answer ∷ []) → OnErr result (new ≡ old)
    → (part : Part) (who : ℕ) (okuri : Option (List ℕ)) (found : List Cand) → cands_in part who okuri new ≡ Some found
    → (cands_in part who okuri old ≡ Some found) ⊎ ((is_of part who okuri answer ≡ true) × (answer.cands ≡ found))
push old new answer (Ok x) ok err part who okuri found is =
    pushed part who okuri answer found old (sym (ap (λ (l : List KeptAnswer). cands_in part who okuri l) ok) ∙ is)
push old new answer (Err x) ok err part who okuri found is =
    inl (sym (ap (λ (l : List KeptAnswer). cands_in part who okuri l) err) ∙ is)

pub returns : goal.returns
returns c = push c.args.answers c.push.new.self c.args.kept c.push.result c.push.ensures.ok c.push.ensures.err
