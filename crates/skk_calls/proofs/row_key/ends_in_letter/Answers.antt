use Rattle.std.proofs.Common.{◌≡◌, ◌∙◌, ap, sym, arith, true, false, nat_le, length}
use Rattle.std.proofs.lemmas.Bool.{lt-ltb, le-ltb}
use Rattle.skk_text.specs.Text.{byte_len, last_chars}
use Rattle.skk_calls.specs.Rows.{is_letter}
use Rattle.skk_calls.proofs.LastLetter.{last-shorter, letter-encoded}
use Rattle.skk_calls.proofs.row_key.ends_in_letter.Goals as goal

pub returns-then-last-byte_len : goal.returns-then-last-byte_len
returns-then-last-byte_len c =
    let text = c.args.text.now in
    let two : nat_le 2 (length text) ≡ true =
    sym (last-shorter text)
    ∙ lt-ltb (byte_len (last_chars 1 text)) (byte_len text) (omega (arith, ap length c.last-last.ensures.value)) in
    let letter : c.is_letter.result ≡ is_letter (last_chars 1 text) =
    c.is_letter.ensures ∙ ap is_letter (c.as_bytes.ensures.value ∙ c.last-last.ensures.value)
    ∙ letter-encoded (last_chars 1 text) in
    rw two letter

pub returns-else-last-byte_len : goal.returns-else-last-byte_len
returns-else-last-byte_len c =
    let text = c.args.text.now in
    let none : nat_le 2 (length text) ≡ false =
    sym (last-shorter text)
    ∙ le-ltb (byte_len (last_chars 1 text)) (byte_len text) (omega (arith, ap length c.last-last.ensures.value)) in
    rw none (le-ltb _ _ c.if-last-byte_len.false)
