use Rattle.std.proofs.Common.{◌∙◌, sym}
use Rattle.ordered_lists.specs.KeyOrders.{number_keys}
use Rattle.ordered_lists.specs.PlaceLaws.{left_out, not_there}
use Rattle.skk_calls.specs.declared.book_list.TypistList.{TypistList}
use Rattle.learn_index.proofs.kept_lists.take_list.Goals as goal

pub returns-then-has_key_at : goal.returns-then-has_key_at
returns-then-has_key_at c =
    let point = rw c.deref.ensures.value at c.place_of-place.ensures.place in
    let there = rw c.deref-2.ensures.value at (sym c.has_key_at.ensures ∙ c.if-has_key_at.true) in
    c.remove-taken.ensures.items
    ∙ sym (left_out (λ (list : TypistList). list.typist) number_keys c.args.typist c.args.lists.now.items
    c.place_of-place.result c.requires point there)

pub returns-else-has_key_at : goal.returns-else-has_key_at
returns-else-has_key_at c =
    let point = rw c.deref.ensures.value at c.place_of-place.ensures.place in
    let missing = rw c.deref-2.ensures.value at (sym c.has_key_at.ensures ∙ c.if-has_key_at.false) in
    sym (not_there (λ (list : TypistList). list.typist) number_keys c.args.typist c.args.lists.now.items
    c.place_of-place.result c.requires point missing)
