use Rattle.std.proofs.Common.{◌∙◌, ap, position, Bor, List, ℕ}
use Rattle.std.specs.Str.{bytes_eq}
use Rattle.skk_calls.specs.Rows.{same_text}
use Rattle.word_sets.proofs.RefSets.{found_at}
use Rattle.word_sets.proofs.word_refs.WordRefs.place.Goals as goal

pub returns : goal.returns
returns c =
    let keys = c.self.inside.words.keys in
    c.get_index_of.ensures.index
    ∙ ap (λ bytes. position (λ (key : Bor (List ℕ)). bytes_eq bytes key.now) keys) c.as_str.ensures.value
    ∙ found_at c.args.word.now keys c.self.invariant
    ∙ ap (position (same_text c.args.word.now)) c.self.view_is
