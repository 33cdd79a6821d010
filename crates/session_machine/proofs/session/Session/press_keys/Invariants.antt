use Rattle.std.proofs.Common.{◌≡◌, ◌++◌, drop}
use Rattle.skk_calls.specs.Interactions.{Dialog}
use Rattle.session_machine.specs.Pressed.{all_pressed}
use Rattle.session_machine.proofs.Saying.{Goes}
use Rattle.session_machine.proofs.session.Session.press_keys.Given as goal

-- what was said so far leads from all keys to those that are left
abbrev pub invariant-loop-key : goal.invariant-loop-key
invariant-loop-key g l = record {
  dialog : Dialog;
  grows : g.C.Caller.said l.caller ≡ g.C.Caller.said l.fn.caller ++ dialog;
  goes : Goes (all_pressed l.rules l.fn.self l.keys) dialog (all_pressed l.rules l.self (drop l.key-index l.keys));
  number : g.C.Caller.number l.caller ≡ g.C.Caller.number l.fn.caller;
}
