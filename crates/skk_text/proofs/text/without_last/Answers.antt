use Rattle.std.proofs.Common.{◌≡◌, ◌∙◌, ◌-◌, sym, ap, length, take, []}
use Rattle.std.specs.Str.{chars}
use Rattle.std.proofs.lemmas.List.{nil_from_length}
use Rattle.std.proofs.lemmas.Str.{chars-nil}
use Rattle.skk_text.proofs.Characters.{take-chars_last}
use Rattle.skk_text.proofs.text.without_last.Goals as goal

pub returns-in-Some : goal.returns-in-Some
returns-in-Some c =
    take-chars_last c.args.text.now c.as_str.result.now c.in-Some.field-0 c.utf8.text c.as_str.utf8
    (sym c.chars-characters.ensures.rest ∙ (rw (← c.as_str.ensures) at c.in-Some.ensures.steps))

pub returns-in-None : goal.returns-in-None
returns-in-None c =
    let text : c.args.text.now ≡ [] =
    nil_from_length c.args.text.now (ap length (sym c.chars-characters.ensures.rest) ∙ c.in-None.ensures.steps.0) in
    ap chars text ∙ chars-nil
    ∙ sym (ap (λ bs. take (length (chars bs) - 1) (chars bs)) text ∙ ap (λ cs. take (length cs - 1) cs) chars-nil)
