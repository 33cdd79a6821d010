use Rattle.std.proofs.Common.{◌≡◌, ◌∙◌, ◌++◌, ◌∷◌, [], false, List, ap, sym}
use Rattle.skk_calls.specs.Rows.{Cand, has_text, words_of}
use Rattle.dict_format.specs.Building.{with_item}
use Rattle.dict_format.specs.declared.items.Item.{Item as MadeItem}
use Rattle.dict_format.specs.Views.{item_said}
use Rattle.dict_format.proofs.FewCands.{with_empty, with_known, with_other}
use Rattle.dict_format.proofs.few_cands.add_item.Goals as goal
use Rattle.dict_format.proofs.few_cands.add_item.Goals.{else-not-is_empty-via-then-not-is_empty+else-not-has_cand}
use Rattle.dict_format.proofs.few_cands.add_item.Goals.{else-not-is_empty-via-else-not-is_empty}

-- what comes of a candidate comes of the item that it is
of_item : (cands after : List Cand) (item said : MadeItem) → item ≡ said → after ≡ with_item cands (item_said said)
    → after ≡ with_item cands (item_said item)
of_item cands after item said is comes = comes ∙ ap (λ (i : MadeItem). with_item cands (item_said i)) (sym is)

pub returns-in_ok-push : goal.returns-in_ok-push
returns-in_ok-push c =
    let cands = c.args.cands.now in
    let word = c.in-Candidate.word in
    let other : has_text (words_of cands) word ≡ false =
    ap (λ (all : List Cand). has_text (words_of all) word) (sym c.as_slice.ensures) ∙ sym c.has_cand.ensures
    ∙ c.if-not-has_cand.true in
    of_item cands c.push.new.self c.args.item _ c.in-Candidate.is
    (c.in_ok-push.ensures.ok ∙ ap (λ (cand : Cand). cands ++ cand ∷ []) c.of_parts.ensures
    ∙ sym (with_other cands word c.in-Candidate.note (sym c.is_empty.ensures ∙ c.if-not-is_empty.true) other))

pub returns-else-not-is_empty : goal.returns-else-not-is_empty
returns-else-not-is_empty c =
    let cands = c.args.cands.now in
    let word = c.in-Candidate.word in
    let note = c.in-Candidate.note in
    of_item cands cands c.args.item _ c.in-Candidate.is
    (elim c.else-not-is_empty.branch [
      | else-not-is_empty-via-then-not-is_empty+else-not-has_cand w ↦
          sym (with_known cands word note
          (ap (λ (all : List Cand). has_text (words_of all) word) (sym w.as_slice.ensures) ∙ sym w.has_cand.ensures
          ∙ w.if-not-has_cand.false))
      | else-not-is_empty-via-else-not-is_empty w ↦
          sym (with_empty cands word note (sym c.is_empty.ensures ∙ w.if-not-is_empty.false))
    ])
