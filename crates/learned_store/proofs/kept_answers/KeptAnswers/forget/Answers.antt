use Rattle.std.proofs.Common.{◌≡◌, ◌∙◌, ℕ, List, None, ap, cond, encode_utf8_all, string_bytes, String}
use Rattle.std.specs.declared.alloc.Global.{Global}
use Rattle.std.specs.Map.{remove_entry}
use Rattle.std.specs.Str.{bytes_eq}
use Rattle.skk_calls.specs.declared.call.Call.TheVariants.{Lookup}
use Rattle.skk_calls.specs.Rows.{same_text}
use Rattle.learned_store.specs.KeptLookUps.{KeptReadings, kept_cands}
use Rattle.learned_store.proofs.KeptReadings.{forgotten}
use Rattle.learned_store.proofs.kept_answers.KeptAnswers.forget.Goals as goal

pub returns : goal.returns
returns c who other okuri =
    let reading = c.args.key.now.reading in
    let kept : KeptReadings = c.self.inside.readings.entries in
    let call = Lookup who other okuri in
    let bytes : c.as_str.result.now ≡ encode_utf8_all reading =
    c.as_str.ensures.value ∙ ap encode_utf8_all c.reading.ensures.value in
    ap (λ cache. kept_cands cache.entries call) c.pop.ensures.entries
    ∙ ap (λ (b : List ℕ). kept_cands (remove_entry (λ (s : String Global). bytes_eq b (string_bytes s)) kept) call)
    bytes
    ∙ forgotten reading kept c.len-differ.ensures.valid.0 who other okuri
    ∙ ap (λ (k : KeptReadings). cond (same_text other.reading reading) None (kept_cands k call)) c.self.view_is
