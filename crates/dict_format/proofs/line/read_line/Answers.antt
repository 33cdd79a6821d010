use Rattle.std.proofs.Common.{ℕ, List, subst}
use Rattle.dict_format.specs.Reading.{line_reading}
use Rattle.dict_format.specs.Views.{Gives}
use Rattle.dict_format.proofs.LineReading.{answers_ok, answers_only, answers_reason, answers_only_reason}
use Rattle.dict_format.proofs.line.read_line.Goals as goal

pub returns : goal.returns
returns c =
    let part = c.args.part in
    let line = c.args.line.now in
    let gives = subst (λ (text : List ℕ). Gives (λ row. row) c.read.result (line_reading part text))
    c.as_str.ensures.characters c.read.ensures in
    record {
      ok = answers_ok part line c.read.result gives;
      only = answers_only part line c.read.result gives;
      reason = answers_reason part line c.read.result gives;
      only_reason = answers_only_reason part line c.read.result gives;
    }
