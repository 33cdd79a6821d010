use Rattle.std.proofs.Common.{◌∙◌, sym}
use Rattle.ordered_lists.specs.PlaceLaws.{left_out, not_there}
use Rattle.skk_calls.specs.OrderLaws.{row_keys}
use Rattle.skk_calls.specs.Rows.{Row}
use Rattle.learn_index.proofs.FoundPlaces.{found_there, none_there}
use Rattle.learn_index.proofs.kept_rows.take_row.Goals as goal

pub returns-then-has_key_at-clause-rows : goal.returns-then-has_key_at-clause-rows
returns-then-has_key_at-clause-rows c =
    let point = rw c.deref.ensures.value at c.place_of-place.ensures.place in
    let there = rw c.deref-2.ensures.value at (sym c.has_key_at.ensures ∙ c.if-has_key_at.true) in
    c.remove.ensures.items
    ∙ sym (left_out (λ (row : Row). row.key) row_keys c.args.key.now c.args.rows.now.items c.place_of-place.result
    c.requires point there)

pub returns-then-has_key_at-clause-before : goal.returns-then-has_key_at-clause-before
returns-then-has_key_at-clause-before c =
    let point = rw c.deref.ensures.value at c.place_of-place.ensures.place in
    let there = rw c.deref-2.ensures.value at (sym c.has_key_at.ensures ∙ c.if-has_key_at.true) in
    found_there (λ (row : Row). row.key) row_keys c.args.key.now c.args.rows.now.items c.place_of-place.result
    c.requires point c.remove.result there c.remove.ensures.value

pub returns-else-has_key_at-clause-rows : goal.returns-else-has_key_at-clause-rows
returns-else-has_key_at-clause-rows c =
    let point = rw c.deref.ensures.value at c.place_of-place.ensures.place in
    let missing = rw c.deref-2.ensures.value at (sym c.has_key_at.ensures ∙ c.if-has_key_at.false) in
    sym (not_there (λ (row : Row). row.key) row_keys c.args.key.now c.args.rows.now.items c.place_of-place.result
    c.requires point missing)

pub returns-else-has_key_at-clause-before : goal.returns-else-has_key_at-clause-before
returns-else-has_key_at-clause-before c =
    let point = rw c.deref.ensures.value at c.place_of-place.ensures.place in
    let missing = rw c.deref-2.ensures.value at (sym c.has_key_at.ensures ∙ c.if-has_key_at.false) in
    none_there (λ (row : Row). row.key) row_keys c.args.key.now c.args.rows.now.items c.place_of-place.result
    c.requires point missing
