use Rattle.skk_top.proofs.RunFiles.{refuses-ruled}
use Rattle.skk_top.proofs.rule_file.rules_of.Goals as goal

pub returns-in-Err-clause-refused : goal.returns-in-Err-clause-refused
returns-in-Err-clause-refused c =
    rw c.fault_of_rules.ensures (refuses-ruled c.args.bytes.now c.in-Err.fault
    (λ text e. (c.in-Err.ensures.no_text text).0 e) c.in-Err.ensures.only_lines)
