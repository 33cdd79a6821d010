use Rattle.std.proofs.Common.{length}
use denote.Shadow.{shadow}
use denote.Text.{Utf8}
use Rattle.std.specs.Str.{chars}
use Rattle.dict_format.specs.Lines.{slashed_text}
use Rattle.dict_format.specs.Views.{texts_seen}
use Rattle.exact_readers.specs.LoopLaws.{HasTaken}
use Rattle.dict_format.proofs.line.all_texts.Given as goal

-- the texts so far and those of what is left are those of the body
abbrev pub invariant-loop-text : goal.invariant-loop-text
invariant-loop-text l = record {
  text : shadow (Utf8 l.rest);
  taken : HasTaken slashed_text (chars l.text) (texts_seen l.texts.items) (chars l.rest);
}

abbrev pub decreases-loop-text : goal.decreases-loop-text
decreases-loop-text l = length (chars l.rest)
