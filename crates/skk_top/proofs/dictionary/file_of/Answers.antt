use Rattle.skk_top.proofs.RunFiles.{refuses-listed}
use Rattle.skk_top.proofs.dictionary.file_of.Goals as goal

pub returns-in-Err-clause-refused : goal.returns-in-Err-clause-refused
returns-in-Err-clause-refused c =
    rw c.fault_of_file.ensures
    (refuses-listed c.args.number c.args.bytes c.in-Err.fault (λ text e. (c.in-Err.ensures.no_text text).0 e))
