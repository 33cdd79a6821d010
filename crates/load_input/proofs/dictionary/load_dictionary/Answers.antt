use Rattle.std.proofs.Common.{◌≡◌, ◌∙◌, ◌++◌, ap, sym, subst, true, List}
use Rattle.skk_calls.specs.Rows.{Row, keys_differ}
use Rattle.load_input.specs.Dictionary.{dictionary_rows}
use Rattle.load_input.proofs.Rows.{all_rows, rows_differ}
use Rattle.load_input.proofs.dictionary.load_dictionary.Goals as goal

pub push_all-requires : goal.push_all-requires
push_all-requires c = all_rows

pub new-requires : goal.new-requires
new-requires c =
    subst (λ (rows : List Row). keys_differ rows ≡ true)
    (sym (c.in_ok-push_all.ensures ∙ ap (λ (rows : List Row). rows ++ dictionary_rows) c.new-rows.ensures)) rows_differ

pub returns : goal.returns
returns c =
    c.new.ensures ∙ c.in_ok-push_all.ensures ∙ ap (λ (rows : List Row). rows ++ dictionary_rows) c.new-rows.ensures
