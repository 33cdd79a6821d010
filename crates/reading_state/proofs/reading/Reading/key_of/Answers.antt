use Rattle.std.proofs.Common.{◌∙◌, Some, sym, ap}
use Rattle.std.proofs.lemmas.Bool.{both_ways}
use Rattle.reading_state.proofs.Steps.{kept, ok_unless}
use Rattle.reading_state.proofs.Texts.{with_letter_valid}
use Rattle.reading_state.proofs.reading.Reading.key_of.Goals as goal

pub unwrap-requires : goal.unwrap-requires
unwrap-requires c =
    let k = kept c.self.inside.text c.self.inside.okuri _ c.self.invariant
    (c.in-Some.is ∙ ap (λ b. Some b) (sym c.begun.view_is)) in
    ok_unless c.new.result (λ fault. both_ways _ (c.new.ensures.invalid.0 fault)
    (rw c.in_ok-push-in-Some.ensures.ok
    (with_letter_valid c.args.text c.begun.inside.letter c.requires k.letter)))
