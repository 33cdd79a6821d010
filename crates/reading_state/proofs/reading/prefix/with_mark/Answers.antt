use Rattle.std.proofs.Common.{◌≡◌, ◌∙◌, sym, ap, ◌++◌, ◌∷◌, [], append_assoc, arith}
use Rattle.skk_text.specs.TextLaws.{byte_len-append}
use Rattle.reading_state.proofs.Texts.{mark_read}
use Rattle.reading_state.proofs.reading.prefix.with_mark.Goals as goal

pub returns-clause-may : goal.returns-clause-may
returns-clause-may c =
    let whole : c.args.text.now ++ c.push.new.self ≡ (c.args.text.now ++ c.args.piece.text) ++ 0x3E ∷ [] =
    ap (λ p. c.args.text.now ++ p) c.in_ok-push.ensures.ok
    ∙ sym (append_assoc c.args.text.now c.args.piece.text (0x3E ∷ [])) in
    rw whole
    (mark_read _ c.requires.may c.requires.some (omega (arith, byte_len-append c.args.text.now c.args.piece.text)))
