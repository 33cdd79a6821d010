use Rattle.std.proofs.Common.{◌∙◌, ap, encode_utf8_all}
use Rattle.std.specs.Str.{bytes_eq}
use Rattle.skk_calls.specs.KeyLaws.{same_encoded}
use Rattle.skk_calls.proofs.row_key.text_order.Goals as goal

pub returns-clause-equal : goal.returns-clause-equal
returns-clause-equal c =
    c.order_bytes.ensures.same ∙ ap (bytes_eq c.bytes_of.result.now) c.bytes_of-2.ensures
    ∙ ap (λ bytes. bytes_eq bytes (encode_utf8_all c.args.other.now)) c.bytes_of.ensures
    ∙ same_encoded c.args.text.now c.args.other.now
