use Rattle.std.proofs.Common.{◌≡◌, ◌++◌, [], drop, length}
use Rattle.skk_calls.specs.Interactions.{Dialog}
use Rattle.session_machine.specs.Converted.{first_words}
use Rattle.session_machine.proofs.Saying.{Goes}
use Rattle.session_machine.proofs.first_words.look_numbers_up.Given as goal

-- what was said so far leads from all numbers to those that are left
abbrev pub invariant-loop-number : goal.invariant-loop-number
invariant-loop-number g l = record {
  dialog : Dialog;
  grows : g.C.Caller.said l.caller ≡ g.C.Caller.said l.fn.caller ++ dialog;
  number : g.C.Caller.number l.caller ≡ g.C.Caller.number l.fn.caller;
  goes : Goes (first_words l.typist [] l.numbers) dialog
      (first_words l.typist l.words (drop l.number-index l.numbers));
  count : length l.words ≡ l.number-index;
}
