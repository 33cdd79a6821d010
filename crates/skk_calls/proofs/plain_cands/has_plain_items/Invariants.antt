use Rattle.std.proofs.Common.{◌≡◌, length}
use denote.Shadow.{shadow}
use denote.Text.{Utf8}
use Rattle.std.specs.Str.{chars}
use Rattle.skk_calls.specs.PlainCands.{has_plain_items}
use Rattle.skk_calls.proofs.plain_cands.has_plain_items.Given as goal

-- the items so far are plain, and none behind one has its word: what is left decides
abbrev pub invariant-loop-item : goal.invariant-loop-item
invariant-loop-item l = record {
  text : shadow (Utf8 l.rest);
  left : has_plain_items (chars l.text) ≡ has_plain_items (chars l.rest);
}

abbrev pub decreases-loop-item : goal.decreases-loop-item
decreases-loop-item l = length (chars l.rest)
