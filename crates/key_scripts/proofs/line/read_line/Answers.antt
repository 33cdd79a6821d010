use Rattle.std.proofs.Common.{Err, ◌≢◌, ◌∙◌, [], length, sym, ap, arith}
use Rattle.key_scripts.specs.declared.line.ScriptLineFault.TheVariants.{NoLine}
use Rattle.key_scripts.proofs.LineReading.{line-follows, same-fault}
use Rattle.key_scripts.proofs.Scripts.{return-no_line}
use Rattle.key_scripts.proofs.line.read_line.Goals as goal
use Rattle.key_scripts.proofs.line.read_line.Goals.{then-session-lt1-via-then-session-lt1}
use Rattle.key_scripts.proofs.line.read_line.Goals.{then-session-lt1-via-else-session-lt1+then-session-gt-SESSIONS}

pub returns-then-contains-clause-none : goal.returns-then-contains-clause-none
returns-then-contains-clause-none c none said =
    let some : c.args.text.now ≢ [] = λ e. grind (arith, ap length e) in
    return-no_line c.args.text.now said some c.if-text-eq35.true (sym c.contains.ensures.value ∙ c.if-contains.true)

pub returns-then-session-lt1-clause-none : goal.returns-then-session-lt1-clause-none
returns-then-session-lt1-clause-none c = λ none line spells.
    let found = c.in-Some.ensures.some in
    let some : c.args.text.now ≢ [] = λ e. grind (arith, ap length e) in
    let says = line-follows c.args.text.now c.in-Some.rest.now line c.in-Some.session c.in-Some.mark spells some
    c.if-text-eq35.false found.0 found.1 found.2 in
    elim c.then-session-lt1.branch [
      | then-session-lt1-via-then-session-lt1 w ↦ omega arith
      | then-session-lt1-via-else-session-lt1+then-session-gt-SESSIONS w ↦ omega arith
    ]

pub returns-in_err-line-clause-none : goal.returns-in_err-line-clause-none
returns-in_err-line-clause-none c = λ none said spells.
    let found = c.in-Some.ensures.some in
    let some : c.args.text.now ≢ [] = λ e. grind (arith, ap length e) in
    let says = line-follows c.args.text.now c.in-Some.rest.now said c.in-Some.session c.in-Some.mark spells some
    c.if-text-eq35.false found.0 found.1 found.2 in
    c.in_err-line.ensures.none
    (ap Err (same-fault c.from_residual.result c.in_err-line.field-0.0 NoLine c.from_residual.ensures.1 none))
    says.1.0 says.1.2
