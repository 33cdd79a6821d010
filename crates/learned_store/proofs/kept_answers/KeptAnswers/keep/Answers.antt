use Rattle.std.proofs.Common.{◌≡◌, ◌∙◌, ℕ, List, Option, ap, encode_utf8_all, inl, inr, option_copied, string_bytes}
use Rattle.std.proofs.Common.{subst, sym, ⊎_elim}
use Rattle.std.specs.Prelude.{IfOk}
use Rattle.skk_calls.specs.declared.part.Part.{Part}
use Rattle.learned_store.specs.declared.kept_answer.KeptAnswer.{KeptAnswer}
use Rattle.learned_store.specs.KeptLookUps.{IsAnswerOf}
use Rattle.learned_store.proofs.KeptReadings.{same_call}
use Rattle.learned_store.proofs.kept_answers.KeptAnswers.keep.Goals as goal

pub returns-in-Ok-Ok : goal.returns-in-Ok-Ok
returns-in-Ok-Ok c call found is =
    let who = c.in-Lookup.who in
    let key = c.in-Lookup.key in
    let okuri = c.in-Lookup.okuri in
    let cands = c.args.cands.now in
    let copied = option_copied c.as_ref.result in
    let bytes = string_bytes c.in-Ok-Ok.reading in
    let spells : bytes ≡ encode_utf8_all key.reading =
    subst (λ r. IfOk r (λ s. string_bytes s ≡ c.as_str.result.now)) c.in-Ok-Ok.is-1 c.from_str-reading.ensures.ok
    ∙ c.as_str.ensures.value ∙ ap encode_utf8_all c.reading.ensures.value in
    let made : c.in-Ok-Ok.kept ≡ record { part = key.part; who = who; okuri = okuri; cands = cands } =
    subst (λ r. IfOk r (λ (k : KeptAnswer). k
    ≡ record { part = c.part.result; who = who; okuri = copied; cands = cands })) c.in-Ok-Ok.is-0
    c.copied-kept.ensures
    ∙ ap (λ (p : Part). record { part = p; who = who; okuri = copied; cands = cands }) c.part.ensures.value
    ∙ ap (λ (o : Option (List ℕ)). record { part = key.part; who = who; okuri = o; cands = cands })
    c.as_ref.ensures.value in
    ⊎_elim
    (λ there. inl there)
    (λ new.
    let same =
    same_call who key okuri cands bytes spells call found
    (subst (λ (k : KeptAnswer). IsAnswerOf bytes k call found) made new) in
    inr (same.0 ∙ sym c.in-Lookup.is, same.1))
    (c.put.ensures call found is)
