use Rattle.std.proofs.Common.{◌≡◌, ◌∙◌, ◌+◌, ◌≤◌, true, false, nat_le, length, arith, ap, sym}
use Rattle.std.specs.Str.{chars}
use Rattle.std.proofs.lemmas.Bool.{and_from, le-leb}
use Rattle.skk_text.specs.Lists.{is_empty}
use Rattle.skk_text.specs.Text.{byte_len}
use Rattle.skk_calls.specs.Rows.{is_note, word_limit}
use Rattle.exact_readers.specs.Lacking.{lacks}
use Rattle.dict_format.proofs.RowParts.{some-longer}
use Rattle.dict_format.proofs.RowsRead.{note_valid}
use Rattle.dict_format.proofs.single.read_item.Goals as goal

pub of_parts-requires : goal.of_parts-requires
of_parts-requires c =
    let word = c.in_ok-word.word in
    let note = c.in_ok-word.note in
    let noted : is_note note ≡ true =
    ap is_note c.in_ok-word.ensures.note
    ∙ note_valid (chars c.as_str.result.now) (ap (lacks 0x2F) c.as_str.ensures.characters ∙ c.requires) in
    let some : is_empty word ≡ false = sym c.is_empty.ensures ∙ c.if-is_empty.false in
    let fits : byte_len word + byte_len note ≤ word_limit = grind arith in
    let long : nat_le 1 (length word) ≡ true = some-longer word (grind arith) in
    and_from (nat_le 1 (length word)) _ long
    (and_from (is_note note) _ noted (le-leb (byte_len word + byte_len note) word_limit fits))
