use Rattle.std.proofs.Common.{◌≡◌, ◌⊎◌, ◌∙◌, ℕ, List, Some, ap, encode_utf8_all, string_bytes, String, subst}
use Rattle.std.specs.Prelude.{OnOk, OnErr}
use Rattle.std.specs.declared.alloc.Global.{Global}
use Rattle.std.specs.Map.{lookup, remove_entry}
use Rattle.std.specs.Str.{bytes_eq}
use Rattle.std.specs.String.{string_eq}
use Rattle.lru.specs.LruCache.{LruCache, lru_cache, put_entries}
use Rattle.learned_store.specs.declared.kept_answer.KeptAnswer.{KeptAnswer}
use Rattle.learned_store.specs.KeptLookUps.{KeptReadings, kept_cands, is_reading, IsAnswerOf}
use Rattle.learned_store.proofs.KeptReadings.{after_put, one_more, without}
use Rattle.learned_store.proofs.kept_answers.KeptAnswers.put.Goals as goal

pub returns : goal.returns
returns c call found is =
    let reading = c.args.key.now.reading in
    let kept : KeptReadings = c.self.inside.readings.entries in
    let cap = c.self.inside.readings.cap in
    let distinct = c.len-differ.ensures.valid.0 in
    let answers = c.with_answer-answers.result in
    let bytes : c.as_str.result.now ≡ encode_utf8_all reading =
    c.as_str.ensures.value ∙ ap encode_utf8_all c.reading.ensures.value in
    let left : c.pop.new.self ≡ lru_cache (without reading kept) cap =
    c.pop.ensures.entries
    ∙ ap (λ (b : List ℕ). lru_cache (remove_entry (λ (s : String Global). bytes_eq b (string_bytes s)) kept) cap)
    bytes in
    let popped : c.pop.result ≡ lookup (is_reading reading) kept =
    c.pop.ensures.value ∙ ap (λ (b : List ℕ). lookup (λ (s : String Global). bytes_eq b (string_bytes s)) kept) bytes in
    let ok =
    subst (λ (m : LruCache (String Global) (List KeptAnswer)). OnOk c.put.result
    (c.put.new.self ≡ lru_cache (put_entries string_eq m c.args.reading answers) m.cap)) left c.put.ensures.entries in
    let err =
    subst (λ (m : LruCache (String Global) (List KeptAnswer)). OnErr c.put.result (c.put.new.self ≡ m)) left
    c.put.ensures.err in
    subst (λ (k : KeptReadings). (kept_cands k call ≡ Some found)
    ⊎ IsAnswerOf (string_bytes c.args.reading) c.args.kept call found) c.self.view_is
    (one_more reading kept distinct c.args.reading c.requires cap answers c.pop.result popped
    c.with_room-answers.result c.args.kept c.with_room-answers.ensures c.with_answer-answers.ensures call found
    (after_put reading kept distinct c.args.reading c.requires cap answers c.put.new.self c.put.result ok err call
    found is))
