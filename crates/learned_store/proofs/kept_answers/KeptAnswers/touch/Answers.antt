use Rattle.std.proofs.Common.{◌≡◌, ◌∙◌, ℕ, List, ap, encode_utf8_all, string_bytes, String}
use Rattle.std.specs.declared.alloc.Global.{Global}
use Rattle.std.specs.Str.{bytes_eq}
use Rattle.lru.specs.LruCache.{promoted}
use Rattle.learned_store.specs.KeptLookUps.{KeptReadings, kept_cands}
use Rattle.learned_store.proofs.KeptReadings.{touched}
use Rattle.learned_store.proofs.kept_answers.KeptAnswers.touch.Goals as goal

pub returns-in-Lookup : goal.returns-in-Lookup
returns-in-Lookup c other =
    let kept : KeptReadings = c.self.inside.readings.entries in
    let bytes : c.as_str.result.now ≡ encode_utf8_all c.in-Lookup.key.reading =
    c.as_str.ensures.value ∙ ap encode_utf8_all c.reading.ensures.value in
    ap (λ cache. kept_cands cache.entries other) c.promote.ensures.entries
    ∙ ap (λ (b : List ℕ). kept_cands (promoted (λ (s : String Global). bytes_eq b (string_bytes s)) kept) other) bytes
    ∙ touched c.in-Lookup.key.reading kept other
    ∙ ap (λ (k : KeptReadings). kept_cands k other) c.self.view_is
