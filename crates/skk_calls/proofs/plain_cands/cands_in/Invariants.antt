use Rattle.std.proofs.Common.{◌≡◌, ◌++◌, true, length}
use denote.Shadow.{shadow}
use denote.Text.{Utf8}
use Rattle.std.specs.List.{list_all}
use Rattle.std.specs.Str.{chars}
use Rattle.skk_calls.specs.PlainCands.{cands_in}
use Rattle.skk_calls.specs.Rows.{is_cand}
use Rattle.skk_calls.proofs.plain_cands.cands_in.Given as goal

-- the candidates so far, and those of what is left, are those of the text
abbrev pub invariant-loop-item : goal.invariant-loop-item
invariant-loop-item l = record {
  text : shadow (Utf8 l.rest);
  cands : l.cands ++ cands_in (chars l.rest) ≡ cands_in (chars l.text);
  valid : list_all is_cand (cands_in (chars l.rest)) ≡ true;
}

abbrev pub decreases-loop-item : goal.decreases-loop-item
decreases-loop-item l = length (chars l.rest)
