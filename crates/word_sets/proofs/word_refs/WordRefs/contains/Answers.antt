use Rattle.std.proofs.Common.{◌∙◌, ap, Bor, List, ℕ}
use Rattle.std.specs.List.{list_any}
use Rattle.std.specs.Str.{bytes_eq}
use Rattle.skk_calls.specs.Rows.{has_text}
use Rattle.word_sets.proofs.RefSets.{has_at}
use Rattle.word_sets.proofs.word_refs.WordRefs.contains.Goals as goal

pub returns-then-not-is_empty : goal.returns-then-not-is_empty
returns-then-not-is_empty c =
    let keys = c.self.inside.words.keys in
    c.contains.ensures
    ∙ ap (λ bytes. list_any (λ (key : Bor (List ℕ)). bytes_eq bytes key.now) keys) c.as_str.ensures.value
    ∙ has_at c.args.word.now keys c.self.invariant
    ∙ ap (λ texts. has_text texts c.args.word.now) c.self.view_is
