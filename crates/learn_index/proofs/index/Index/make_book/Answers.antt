use Rattle.std.specs.Vec.{vec_capacity, vec_len}
use Rattle.std.proofs.Common.{◌≡◌, ◌==◌, ◌-◌, ◌≤◌, ◌∙◌, false, length, ap, sym, subst, slice_get, arith}
use Rattle.std.specs.List.{insert}
use Rattle.ordered_lists.specs.Orders.{passes}
use Rattle.learn_index.specs.declared.book.LearnedBook.{LearnedBook}
use Rattle.learn_index.specs.Index.{Index}
use Rattle.learn_index.specs.Kept.{changed, keeps_book, kept, IsKept}
use Rattle.learn_index.proofs.Changes.{kept_new, new_there, state_insert, there_by}
use Rattle.learn_index.proofs.index.Index.make_book.Goals as goal
use Rattle.learn_index.proofs.index.Index.make_book.Goals.{In_ok-insert}

-- the place is one of the books
within : (c : In_ok-insert) → c.place_of-place.result ≤ length c.self.inside.books.items
within c = omega (arith, c.place_of-place.ensures.bound, ap length c.deref.ensures.value)

-- no book of the number stands there
missing : (c : In_ok-insert) → passes (λ (book : LearnedBook). book.number == c.args.number)
    (slice_get c.self.inside.books.items c.place_of-place.result) ≡ false
missing c =
    ap
    (λ books. passes (λ (book : LearnedBook). book.number == c.args.number) (slice_get books c.place_of-place.result))
    (sym c.deref-2.ensures.value)
    ∙ sym c.has_key_at.ensures ∙ c.if-not-has_key_at.true

pub invariant_of-self : goal.invariant_of-self
invariant_of-self c =
    let items = c.self.inside.books.items in
    let point = rw c.deref.ensures.value at c.place_of-place.ensures.point in
    subst (λ items. IsKept (kept items c.self.inside.lists.items) c.self.inside.rows) (sym c.in_ok-insert.ensures.items)
    (kept_new items c.self.inside.lists.items c.args.number c.place_of-place.result c.self.invariant.ascend point
    c.self.inside.rows
    c.self.invariant c.new.result c.new.ensures.number c.new.ensures.count c.new.ensures.rows
    (within c) (missing c) (omega (arith, c.ranges.number.fits)))

pub returns-in_ok-insert-clause-state : goal.returns-in_ok-insert-clause-state
returns-in_ok-insert-clause-state c =
    let items = c.self.inside.books.items in
    let point = rw c.deref.ensures.value at c.place_of-place.ensures.point in
    ap (λ items. changed (kept items c.self.inside.lists.items)) c.in_ok-insert.ensures.items
    ∙ state_insert items c.self.inside.lists.items c.args.number c.place_of-place.result c.self.invariant.ascend point
    c.self.inside.rows
    c.self.invariant c.new.result c.new.ensures.number c.new.ensures.count c.new.ensures.rows
    (within c) (missing c)
    ∙ ap (λ (index : Index). index.state) c.self.view_is

pub returns-in_ok-insert-clause-there : goal.returns-in_ok-insert-clause-there
returns-in_ok-insert-clause-there c =
    let items = c.self.inside.books.items in
    let point = rw c.deref.ensures.value at c.place_of-place.ensures.point in
    rw c.in_ok-insert.ensures.items
    (new_there items c.self.inside.lists.items c.args.number c.place_of-place.result c.self.invariant.ascend point
    c.self.inside.rows
    c.self.invariant c.new.result c.new.ensures.number c.new.ensures.count c.new.ensures.rows
    (within c) (missing c) (changed (kept (insert items c.place_of-place.result c.new.result)
    c.self.inside.lists.items)) (vec_capacity c.self.inside.lists - vec_len c.self.inside.lists))

pub returns-else-not-has_key_at-clause-there : goal.returns-else-not-has_key_at-clause-there
returns-else-not-has_key_at-clause-there c =
    let items = c.self.inside.books.items in
    let point = rw c.deref.ensures.value at c.place_of-place.ensures.point in
    ap (λ (index : Index). keeps_book index c.args.number) (sym c.self.view_is)
    ∙ there_by items c.self.inside.lists.items c.args.number c.place_of-place.result c.self.invariant.ascend point
    (changed (kept items c.self.inside.lists.items))
    (vec_capacity c.self.inside.lists - vec_len c.self.inside.lists)
    (ap
    (λ books. passes (λ (book : LearnedBook). book.number == c.args.number) (slice_get books c.place_of-place.result))
    (sym c.deref-2.ensures.value)
    ∙ sym c.has_key_at.ensures ∙ c.if-not-has_key_at.false)
