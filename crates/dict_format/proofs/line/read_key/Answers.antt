use Rattle.std.specs.Str.{chars}
use Rattle.dict_format.proofs.LineReading.{key_answers, key_answers_reason}
use Rattle.dict_format.proofs.line.read_key.Goals as goal

pub returns : goal.returns
returns c =
    let line = chars c.args.line.now in
    record {
      row = key_answers c.args.part line c.key_before_space.result c.key_before_space.ensures;
      reason = key_answers_reason c.args.part line c.key_before_space.result c.key_before_space.ensures;
    }
