use Rattle.run_endings.specs.Status.{file_words, flaw_words}
use Rattle.run_endings.specs.PageLaws.{writes-stopped, writes-then}
use Rattle.run_endings.proofs.fault.tell_refused.Goals as goal

pub returns-in_err-tell_file : goal.returns-in_err-tell_file
returns-in_err-tell_file g c =
    writes-stopped (file_words c.args.file c.args.flaw) (flaw_words c.args.flaw) c.from_residual.result
    c.in_err-tell_file.field-0.0 _ c.from_residual.ensures.1 c.in_err-tell_file.ensures

pub returns : goal.returns
returns g c =
    writes-then (file_words c.args.file c.args.flaw) (flaw_words c.args.flaw) c.tell_flaw.result
    c.in_ok-tell_file.ensures c.tell_flaw.ensures
