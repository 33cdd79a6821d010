use Rattle.std.proofs.Common.{◌≡◌, ◌<◌, ◌==◌, false, not, length, sym, ap, ◌∙◌, arith, inl, inr}
use Rattle.std.proofs.lemmas.Bool.{cases_eq, eqb-true, eq-eqb}
use Rattle.std.proofs.lemmas.Str.Pattern.{starts_char}
use Rattle.command_line.proofs.WordTexts.{text-name, no-name}
use Rattle.command_line.proofs.word.is_name.Goals as goal

pub returns-then-not-is_empty : goal.returns-then-not-is_empty
returns-then-not-is_empty c =
    let test : (length c.args.text.now == 0) ≡ false = sym c.is_empty.ensures ∙ c.if-not-is_empty.true in
    let some : 0 < length c.args.text.now = elim (cases_eq (length c.args.text.now) 0) [
      | inl e ↦ let told = eq-eqb (length c.args.text.now) 0 e in absurd (cc)
      | inr other ↦ omega arith
    ] in
    text-name c.args.text.now c.starts_with.result c.utf8.text some
    (starts_char 45 c.args.text.now c.starts_with.result c.starts_with.ensures.cases (omega arith) (omega arith))

pub returns-else-not-is_empty : goal.returns-else-not-is_empty
returns-else-not-is_empty c =
    ap not c.if-not-is_empty.false ∙ sym
    (no-name c.args.text.now (eqb-true (length c.args.text.now) 0 (sym c.is_empty.ensures ∙ c.if-not-is_empty.false)))
