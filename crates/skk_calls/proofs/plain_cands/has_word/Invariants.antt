use Rattle.std.proofs.Common.{◌≡◌, length}
use denote.Shadow.{shadow}
use denote.Text.{Utf8}
use Rattle.std.specs.Str.{chars}
use Rattle.skk_calls.specs.PlainCands.{cands_in}
use Rattle.skk_calls.specs.Rows.{has_text, words_of}
use Rattle.skk_calls.proofs.plain_cands.has_word.Given as goal

-- no item so far has the word
abbrev pub invariant-loop-item : goal.invariant-loop-item
invariant-loop-item l = record {
  text : shadow (Utf8 l.rest);
  left : has_text (words_of (cands_in (chars l.text))) (chars l.word)
      ≡ has_text (words_of (cands_in (chars l.rest))) (chars l.word);
}

abbrev pub decreases-loop-item : goal.decreases-loop-item
decreases-loop-item l = length (chars l.rest)
