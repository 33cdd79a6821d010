use Rattle.std.proofs.Common.{◌≡◌, ◌∙◌, sym, ap, subst, List, ℕ, true, false, nat_lt, refl, arith}
use Rattle.std.proofs.lemmas.Bool.{not-false, le-ltb}
use Rattle.std.specs.Str.{chars}
use Rattle.skk_text.specs.Text.{byte_len}
use Rattle.skk_calls.specs.Rows.{is_row_key, reading_limit}
use Rattle.dict_format.specs.Reading.{key_at}
use Rattle.dict_format.specs.Reasons.{is_bad_reading, lacks_letter}
use Rattle.dict_format.proofs.KeyReading.{key_is}
use Rattle.dict_format.proofs.line.key_of.Goals as goal

pub returns-in-Err-clause-gives : goal.returns-in-Err-clause-gives
unfolding key_at
returns-in-Err-clause-gives c =
    let part = c.args.part in
    let reading = chars c.args.reading.now in
    let same : c.in_ok-text.text ≡ reading = c.in_ok-text.ensures in
    let good : is_bad_reading reading ≡ false = sym c.is_bad_reading.ensures ∙ c.if-is_bad_reading.false in
    let bytes : c.byte_len.result ≡ byte_len reading = c.byte_len.ensures ∙ ap byte_len same in
    let short : nat_lt (reading_limit part) (byte_len reading) ≡ false =
    le-ltb (reading_limit part) (byte_len reading)
    (omega (arith, bytes, c.reading_limit.ensures, c.if-byte_len-reading_limit.false)) in
    let invalid : is_row_key (record { part = part; reading = reading }) ≡ false =
    subst (λ (r : List ℕ). is_row_key (record { part = part; reading = r }) ≡ false) same
    (c.in-Err.ensures.invalid.0 refl) in
    let letter : lacks_letter part reading ≡ true =
    not-false (lacks_letter part reading)
    (sym (key_is part reading c.requires false false _ good short refl) ∙ invalid) in
    rw (good, short, letter) refl
