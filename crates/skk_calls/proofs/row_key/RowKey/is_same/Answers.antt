use Rattle.std.proofs.Common.{◌≡◌, ◌∙◌, ◌&&◌, true, ap, sym, rules, encode_utf8_all}
use Rattle.std.specs.Str.{bytes_eq}
use Rattle.skk_calls.specs.KeyLaws.{same_encoded}
use Rattle.skk_calls.specs.Rows.{same_part, same_text}
use Rattle.skk_calls.proofs.row_key.RowKey.is_same.Goals as goal

pub returns-then-eq : goal.returns-then-eq
returns-then-eq c =
    let key = c.args.self.now in
    let other = c.args.other.now in
    let part : same_part key.part other.part ≡ true = search rules in
    c.eq-then-eq.ensures
    ∙ ap (λ bytes. bytes_eq bytes c.bytes_of-then-eq.result.now)
    (c.bytes_of.ensures ∙ ap encode_utf8_all c.reading.ensures.value)
    ∙ ap (bytes_eq (encode_utf8_all key.reading))
    (c.bytes_of-then-eq.ensures ∙ ap encode_utf8_all c.reading-then-eq.ensures.value)
    ∙ same_encoded key.reading other.reading
    ∙ ap (λ b. b && same_text key.reading other.reading) (sym part)
