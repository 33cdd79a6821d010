use Rattle.std.proofs.Common.{◌≡◌, ◌∙◌, ap, sym, subst, refl, true, All, Option, None, Some, [], ◌∷◌, ◌++◌}
use Rattle.std.proofs.Common.{append_assoc}
use Rattle.std.proofs.lemmas.Bool.{and_parts}
use Rattle.std.proofs.lemmas.List.Elements.{filter_map-append}
use Rattle.std.proofs.lemmas.List.Folds.{list_all-append}
use Rattle.std.proofs.lemmas.List.Sums.{fold-append}
use Rattle.std.specs.List.{cons_option, list_all}
use Rattle.std.specs.Map.{values_of}
use Rattle.std.specs.Option.{option_to_list}
use Rattle.key_scripts.specs.Script.{opens_well}
use Rattle.script_typing.specs.MapLaws.{Ascend, ascend-few}
use Rattle.script_typing.specs.Woven.{Tasks, with_line, number_printed, numbers_printed}
use Rattle.script_typing.proofs.Tasks.{ascend-tasks, tasks-open_well}
use Rattle.script_typing.proofs.cutting.cut_lines.Goals as goal

-- the list of what may be there
one : {A : Type 0} (o : Option A) → option_to_list o ≡ cons_option o []
one None = refl
one (Some x) = refl

pub loop-line-preserved : goal.loop-line-preserved
loop-line-preserved c =
    let kept = c.loop-line.invariant in
    let line = c.in-Some.line in
    let yielded = c.loop-line.yielded in (
      c.in_ok-push_line.ensures.put ∙ ap (λ tasks. with_line tasks line) kept.0
          ∙ sym (fold-append with_line [] yielded (line ∷ [])),
      c.in_ok-push_number.ensures ∙ ap (λ order. order ++ option_to_list (number_printed line)) kept.1
          ∙ ap (λ more. numbers_printed yielded ++ more) (one (number_printed line))
          ∙ sym (filter_map-append number_printed yielded (line ∷ [])),
      append_assoc yielded (line ∷ []) c.next.new.self.rest.items
          ∙ ap (λ rest. yielded ++ rest) (sym c.in-Some.ensures.steps.0) ∙ kept.2,
      c.in_ok-push_line.ensures.below kept.3,
    )

-- the numbers of sessions ascend
pub returns-clause-ascend : goal.returns-clause-ascend
returns-clause-ascend c =
    let kept = c.loop-line.invariant in subst Ascend (sym kept.0) (ascend-tasks [] c.loop-line.yielded tt)

pub returns-clause-few : goal.returns-clause-few
returns-clause-few c =
    let kept = c.loop-line.invariant in
    ascend-few 256 c.loop-line.tasks.entries
    (subst Ascend (sym kept.0) (ascend-tasks [] c.loop-line.yielded tt)) kept.3

pub returns-clause-opens : goal.returns-clause-opens
returns-clause-opens c =
    let kept = c.loop-line.invariant in
    let yielded = c.loop-line.yielded in
    let rest = c.loop-line.line-iterator.rest.items in
    let all : list_all opens_well (yielded ++ rest) ≡ true =
    ap (list_all opens_well) kept.2 ∙ c.requires in
    subst (λ (tasks : Tasks). All (λ lines. list_all opens_well lines ≡ true) (values_of tasks)) (sym kept.0)
    (tasks-open_well yielded
    (and_parts (list_all opens_well yielded) (list_all opens_well rest)
    (sym (list_all-append opens_well yielded rest) ∙ all)).0)
