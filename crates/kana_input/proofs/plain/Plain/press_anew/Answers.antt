use Rattle.std.proofs.Common.{arith}
use Rattle.kana_input.proofs.PlainKeys.{kana_char-upper}
use Rattle.kana_input.proofs.plain.Plain.press_anew.Goals as goal

pub returns-in-65-to-90 : goal.returns-in-65-to-90
returns-in-65-to-90 c =
    rw (
      kana_char-upper c.args.rules.now c.args.self.now c.args.c c.requires (omega arith) (omega arith)
          (λ e. omega (arith, e)) (λ e. omega (arith, e)),
      ← c.to_ascii_lowercase-letter.ensures.value,
    )
    c.flush-in-65-to-90.ensures
