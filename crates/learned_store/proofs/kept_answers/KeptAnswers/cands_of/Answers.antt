use Rattle.std.proofs.Common.{◌≡◌, ◌∙◌, ℕ, List, Option, ap, encode_utf8_all, option_copied, string_bytes, String, sym}
use Rattle.std.specs.declared.alloc.Global.{Global}
use Rattle.std.specs.Map.{lookup}
use Rattle.std.specs.Str.{bytes_eq}
use Rattle.skk_calls.specs.declared.call.Call.TheVariants.{Lookup}
use Rattle.skk_calls.specs.declared.part.Part.{Part}
use Rattle.learned_store.specs.KeptLookUps.{KeptReadings, cands_among, cands_in, kept_cands}
use Rattle.learned_store.proofs.kept_answers.KeptAnswers.cands_of.Goals as goal

pub returns-in_ok-answers-in-Lookup : goal.returns-in_ok-answers-in-Lookup
returns-in_ok-answers-in-Lookup c =
    let who = c.in-Lookup.who in
    let key = c.in-Lookup.key in
    let okuri = c.in-Lookup.okuri in
    let slice = c.as_slice.result.now in
    let kept : KeptReadings = c.self.inside.readings.entries in
    let bytes : c.as_str.result.now ≡ encode_utf8_all key.reading =
    c.as_str.ensures.value ∙ ap encode_utf8_all c.reading.ensures.value in
    c.cands_in.ensures
    ∙ ap (λ (part : Part). cands_in part who (option_copied c.as_ref.result) slice) c.part.ensures.value
    ∙ ap (λ (o : Option (List ℕ)). cands_in key.part who o slice) c.as_ref.ensures.value
    ∙ ap (cands_in key.part who okuri) c.as_slice.ensures
    ∙ ap (cands_among key.part who okuri) (sym (ap option_copied c.in_ok-answers-in-Lookup.was) ∙ c.peek.ensures
    ∙ ap (λ (b : List ℕ). lookup (λ (s : String Global). bytes_eq b (string_bytes s)) kept) bytes)
    ∙ ap (λ (k : KeptReadings). kept_cands k (Lookup who key okuri)) c.self.view_is
    ∙ sym (ap (kept_cands c.args.self.now) c.in-Lookup.is)
