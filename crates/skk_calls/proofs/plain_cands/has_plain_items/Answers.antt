use Rattle.std.proofs.Common.{◌∙◌, ◌&&◌, sym, ap, rules}
use Rattle.std.specs.Str.{chars}
use Rattle.exact_readers.specs.ExactLaws.{shrinks}
use Rattle.skk_calls.specs.PlainCands.{has_plain_items, slashed_item}
use Rattle.skk_calls.specs.PlainLaws.{slashed_exact}
use Rattle.skk_calls.proofs.FirstItems.{first_plain, no_plain}
use Rattle.skk_calls.proofs.plain_cands.has_plain_items.Goals as goal

pub returns-then-not-is_new_item : goal.returns-then-not-is_new_item
returns-then-not-is_new_item c =
    let behind = chars c.in-Some.behind.now in
    sym (c.loop-item.invariant.left
    ∙ first_plain (chars c.loop-item.rest.now) (chars c.in-Some.item.now) behind (sym c.in-Some.ensures)
    ∙ ap (λ new. new && has_plain_items behind) (sym c.is_new_item.ensures ∙ c.if-not-is_new_item.true))

pub loop-item-smaller : goal.loop-item-smaller
loop-item-smaller c =
    shrinks slashed_item slashed_exact (chars c.loop-item.rest.now) (chars c.in-Some.item.now)
    (chars c.in-Some.behind.now) (sym c.in-Some.ensures)

pub loop-item-preserved : goal.loop-item-preserved
loop-item-preserved c =
    let behind = chars c.in-Some.behind.now in
    record {
      text = search rules;
      left =
          c.loop-item.invariant.left
          ∙ first_plain (chars c.loop-item.rest.now) (chars c.in-Some.item.now) behind (sym c.in-Some.ensures)
          ∙ ap (λ new. new && has_plain_items behind) (sym c.is_new_item.ensures ∙ c.if-not-is_new_item.false);
    }

pub returns : goal.returns
returns c =
    c.is_empty.ensures
    ∙ sym (c.loop-item.invariant.left ∙ no_plain (chars c.loop-item.rest.now) (sym c.in_default.ensures))
