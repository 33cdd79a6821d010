use Rattle.std.proofs.Common.{◌≡◌, ◌∙◌, Some, ap, set, sym}
use Rattle.ordered_lists.specs.PlaceLaws.{put_insert, put_set}
use Rattle.skk_calls.specs.OrderLaws.{row_keys}
use Rattle.skk_calls.specs.Rows.{Row}
use Rattle.learn_index.proofs.FoundPlaces.{found_there, none_there}
use Rattle.learn_index.proofs.kept_rows.put_row.Goals as goal

pub returns-then-has_key_at-clause-rows : goal.returns-then-has_key_at-clause-rows
returns-then-has_key_at-clause-rows c =
    let row = c.args.row in
    let own : c.key-key.result.now ≡ row.key = c.key-key.ensures.value ∙ ap (λ (r : Row). r.key) c.row.ensures.value in
    let point = rw (c.deref.ensures.value, own) at c.place_among-place.ensures.place in
    let there = rw (c.deref-2.ensures.value, own) at (sym c.has_key_at.ensures ∙ c.if-has_key_at.true) in
    ap (set c.args.rows.now.items c.place_among-place.result) c.replace.ensures.after
    ∙ sym (put_set (λ (r : Row). r.key) row_keys row c.args.rows.now.items c.place_among-place.result
    c.requires.ascend point there)

pub returns-then-has_key_at-clause-before : goal.returns-then-has_key_at-clause-before
returns-then-has_key_at-clause-before c =
    let row = c.args.row in
    let own : c.key-key.result.now ≡ row.key = c.key-key.ensures.value ∙ ap (λ (r : Row). r.key) c.row.ensures.value in
    let point = rw (c.deref.ensures.value, own) at c.place_among-place.ensures.place in
    let there = rw (c.deref-2.ensures.value, own) at (sym c.has_key_at.ensures ∙ c.if-has_key_at.true) in
    ap (λ (r : Row). Some r) c.replace.ensures.value
    ∙ found_there (λ (r : Row). r.key) row_keys row.key c.args.rows.now.items c.place_among-place.result
    c.requires.ascend point c.index_mut.result.now there c.index_mut.ensures.value

pub returns-else-has_key_at-clause-rows : goal.returns-else-has_key_at-clause-rows
returns-else-has_key_at-clause-rows c =
    let row = c.args.row in
    let own : c.key-key.result.now ≡ row.key = c.key-key.ensures.value ∙ ap (λ (r : Row). r.key) c.row.ensures.value in
    let bound = rw c.deref.ensures.value at c.place_among-place.ensures.bound in
    let point = rw (c.deref.ensures.value, own) at c.place_among-place.ensures.place in
    let missing = rw (c.deref-2.ensures.value, own) at (sym c.has_key_at.ensures ∙ c.if-has_key_at.false) in
    let fits = c.insert-fits.ensures.succeeds c.requires.room in
    rw (c.insert-fits.ensures.items, fits)
    (sym (put_insert (λ (r : Row). r.key) row_keys row c.args.rows.now.items c.place_among-place.result bound
    c.requires.ascend point missing))

pub returns-else-has_key_at-clause-before : goal.returns-else-has_key_at-clause-before
returns-else-has_key_at-clause-before c =
    let row = c.args.row in
    let own : c.key-key.result.now ≡ row.key = c.key-key.ensures.value ∙ ap (λ (r : Row). r.key) c.row.ensures.value in
    let point = rw (c.deref.ensures.value, own) at c.place_among-place.ensures.place in
    let missing = rw (c.deref-2.ensures.value, own) at (sym c.has_key_at.ensures ∙ c.if-has_key_at.false) in
    none_there (λ (r : Row). r.key) row_keys row.key c.args.rows.now.items c.place_among-place.result
    c.requires.ascend point missing
