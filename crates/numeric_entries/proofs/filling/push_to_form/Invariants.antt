use Rattle.std.proofs.Common.{◌≡◌, ◌++◌, ℕ, List, length}
use denote.Shadow.{shadow}
use denote.Text.{Utf8}
use Rattle.std.specs.Str.{chars}
use Rattle.numeric_entries.specs.Forms.{fill}
use Rattle.numeric_entries.proofs.filling.push_to_form.Given as goal

-- what was added, with what is left as it is filled, is the word as it is filled
abbrev pub invariant-loop-c : goal.invariant-loop-c
invariant-loop-c l = record {
  rest : shadow (Utf8 l.rest);
  pushed :
      (numbers firsts : List (List ℕ)) →
      l.text ++ fill (chars l.rest) numbers firsts ≡ l.fn.text ++ fill (chars l.word) numbers firsts;
}

abbrev pub decreases-loop-c : goal.decreases-loop-c
decreases-loop-c l = length (chars l.rest)
