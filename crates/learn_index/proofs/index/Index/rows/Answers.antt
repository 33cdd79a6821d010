use Rattle.std.proofs.Common.{◌∙◌, ap, sym, min}
use Rattle.skk_calls.specs.Tallies.{count_rows}
use Rattle.skk_text.specs.Counts.{last_count}
use Rattle.learn_index.specs.Index.{Index}
use Rattle.learn_index.specs.Kept.{kept}
use Rattle.learn_index.proofs.Books.{all_counted}
use Rattle.learn_index.proofs.index.Index.rows.Goals as goal

pub returns : goal.returns
returns c =
    let counted = sym (all_counted (kept c.self.inside.books.items c.self.inside.lists.items) c.self.inside.rows
    c.self.invariant)
    ∙ ap (λ (index : Index). count_rows index.state) c.self.view_is in
    c.min.ensures ∙ ap (λ last. min c.self.inside.rows last) c.from.ensures ∙ ap (λ n. min n last_count) counted
