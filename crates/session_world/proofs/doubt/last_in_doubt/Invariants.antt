use Rattle.std.proofs.Common.{◌≡◌, None, true, take, IfSome}
use Rattle.std.specs.List.{fold}
use Rattle.std.specs.Option.{option_copied}
use Rattle.skk_calls.specs.Dictionary.{is_fit}
use Rattle.session_world.specs.Doubts.{doubt_after}
use Rattle.session_world.proofs.doubt.last_in_doubt.Given as goal

-- the change in doubt is that of the entries so far, and may be made
abbrev pub invariant-loop-entry : goal.invariant-loop-entry
invariant-loop-entry l = record {
  last : option_copied l.doubt ≡ fold doubt_after None (take l.entry-index l.history);
  fit : IfSome (option_copied l.doubt) (λ call. is_fit call ≡ true);
}
