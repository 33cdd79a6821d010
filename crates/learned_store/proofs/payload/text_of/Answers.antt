use Rattle.std.proofs.Common.{◌∙◌, ap}
use Rattle.std.specs.Str.{chars}
use Rattle.learned_store.proofs.ReadParts.{text_there, text_absent}
use Rattle.learned_store.proofs.payload.text_of.Goals as goal

pub returns-in_ok-from_str-in-Ok : goal.returns-in_ok-from_str-in-Ok
returns-in_ok-from_str-in-Ok c =
    let read = c.in-Ok.ensures.cases in
    text_there c.args.bytes.now c.in_ok-from_str-in-Ok.field-0 read.1
    (c.in_ok-from_str-in-Ok.ensures ∙ ap chars read.0)

pub returns-in-Err : goal.returns-in-Err
returns-in-Err c = text_absent c.args.bytes.now c.in-Err.ensures.cases.0
