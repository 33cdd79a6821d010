use Rattle.std.proofs.Common.{◌==◌, ◌∙◌, ◌∷◌, ap}
use Rattle.std.specs.List.{slice_split}
use Rattle.romaji_rules.proofs.FileRules.{too_many}
use Rattle.romaji_rules.proofs.rule_line.four_fields.Goals as goal

pub returns-in-Some : goal.returns-in-Some
returns-in-Some c =
    let input = c.in_ok-input.input.now in
    let next = c.in_ok-next.next.now in
    let hira = c.in_ok-hira.hira.now in
    too_many input next hira c.in-Some.field-0.0.now c.in-Some.field-0.1.now (slice_split (λ b. b == 9) c.args.line.now)
    (c.in_ok-input.ensures ∙ ap (λ fields. input ∷ fields) (c.in_ok-next.ensures
    ∙ ap (λ fields. next ∷ fields) (c.in_ok-hira.ensures ∙ ap (λ fields. hira ∷ fields) c.in-Some.ensures)))
