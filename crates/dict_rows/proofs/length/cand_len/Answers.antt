use Rattle.std.proofs.Common.{ap, arith}
use Rattle.skk_text.specs.Text.{byte_len}
use Rattle.skk_text.specs.TextLaws.{byte_len-append}
use Rattle.skk_calls.specs.Canonical.{written_note, written_word}
use Rattle.dict_rows.proofs.length.cand_len.Goals as goal

pub returns : goal.returns
returns c =
    let cand = c.args.cand.now in
    omega (
      arith,
      byte_len-append (written_word cand.word) (written_note cand.note),
      c.word_len.ensures,
      c.note_len.ensures,
      ap (λ word. byte_len (written_word word)) c.word.ensures.value,
      ap (λ note. byte_len (written_note note)) c.note.ensures.value,
      c.saturating_add.ensures,
    )
