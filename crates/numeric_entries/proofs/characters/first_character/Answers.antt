use Rattle.std.proofs.Common.{◌≡◌, ◌∙◌, sym, ap, [], length}
use Rattle.std.specs.Str.{chars}
use Rattle.std.proofs.lemmas.List.{nil_from_length}
use Rattle.std.proofs.lemmas.Str.{chars-nil, chars_past_char}
use Rattle.numeric_entries.proofs.characters.first_character.Goals as goal

pub returns-in-Some : goal.returns-in-Some
returns-in-Some c =
    chars_past_char c.args.text.now c.as_str.result.now c.in-Some.c c.utf8.text
    (sym c.chars-characters.ensures.rest ∙ (rw (← c.as_str.ensures) at c.in-Some.ensures.steps.0))

pub returns-in-None : goal.returns-in-None
returns-in-None c =
    let text : c.args.text.now ≡ [] =
    nil_from_length c.args.text.now (ap length (sym c.chars-characters.ensures.rest) ∙ c.in-None.ensures.steps.0.0) in
    ap chars text ∙ chars-nil
