use Rattle.std.proofs.Common.{◌∙◌, ◌++◌, ◌∷◌, [], sym, ap, append_assoc, append-nil, rules}
use Rattle.std.specs.List.{list_all}
use Rattle.std.specs.Str.{chars}
use Rattle.std.proofs.lemmas.Bool.{and_parts}
use Rattle.exact_readers.specs.ExactLaws.{shrinks}
use Rattle.skk_calls.specs.PlainCands.{cand_of_item, cands_in, slashed_item}
use Rattle.skk_calls.specs.PlainLaws.{slashed_exact}
use Rattle.skk_calls.specs.Rows.{is_cand}
use Rattle.skk_calls.proofs.FirstItems.{first_cand, no_cand}
use Rattle.skk_calls.proofs.plain_cands.cands_in.Goals as goal

pub cand_of_item-requires : goal.cand_of_item-requires
cand_of_item-requires c =
    let item = chars c.in-Some.item.now in
    let behind = chars c.in-Some.behind.now in
    (and_parts (is_cand (cand_of_item item)) (list_all is_cand (cands_in behind))
    (sym (ap (list_all is_cand) (first_cand (chars c.loop-item.rest.now) item behind (sym c.in-Some.ensures)))
    ∙ c.loop-item.invariant.valid)).0

pub loop-item-smaller : goal.loop-item-smaller
loop-item-smaller c =
    shrinks slashed_item slashed_exact (chars c.loop-item.rest.now) (chars c.in-Some.item.now)
    (chars c.in-Some.behind.now) (sym c.in-Some.ensures)

pub loop-item-preserved : goal.loop-item-preserved
loop-item-preserved c =
    let item = chars c.in-Some.item.now in
    let behind = chars c.in-Some.behind.now in
    let first = first_cand (chars c.loop-item.rest.now) item behind (sym c.in-Some.ensures) in
    record {
      text = search rules;
      cands =
          ap (λ ys. ys ++ cands_in behind) c.in_ok-push.ensures.ok
          ∙ append_assoc c.loop-item.cands (c.in_ok-cand_of_item.field-0 ∷ []) (cands_in behind)
          ∙ ap (λ cand. c.loop-item.cands ++ cand ∷ cands_in behind) c.in_ok-cand_of_item.ensures
          ∙ ap (λ ys. c.loop-item.cands ++ ys) (sym first)
          ∙ c.loop-item.invariant.cands;
      valid = (and_parts (is_cand (cand_of_item item)) (list_all is_cand (cands_in behind))
          (sym (ap (list_all is_cand) first) ∙ c.loop-item.invariant.valid)).1;
    }

pub returns : goal.returns
returns c =
    sym (append-nil c.loop-item.cands)
    ∙ ap (λ ys. c.loop-item.cands ++ ys) (sym (no_cand (chars c.loop-item.rest.now) (sym c.in_default.ensures)))
    ∙ c.loop-item.invariant.cands
