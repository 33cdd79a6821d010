-- The change in doubt of a history is found entry by entry.
use Rattle.std.proofs.Common.{◌≡◌, ◌∙◌, ap, refl, Some, List, [], ◌∷◌, ◌++◌}
use Rattle.std.proofs.Common.{arith}
use Rattle.std.specs.List.{fold}
use Rattle.skk_calls.specs.declared.answer.Answer.{Answer}
use Rattle.skk_calls.specs.declared.call.Call.{Call}
use Rattle.skk_calls.specs.declared.entry.Entry.{Entry}
use Rattle.skk_calls.specs.Histories.{in_doubt, in_doubt_after}
use Rattle.session_world.specs.Doubts.{doubt_after, doubt_behind}
use Rattle.session_world.specs.Worlds.{last_of}

-- the last of calls with one more is that one
last-more : (calls : List Call) (call : Call) → last_of (calls ++ call ∷ []) ≡ Some call
last-more [] call = refl
last-more (first ∷ []) call = refl
last-more (first ∷ second ∷ calls) call = last-more (second ∷ calls) call

-- the last of the calls in doubt behind an answer
last-behind : (calls : List Call) (call : Call) (answer : Answer)
    → last_of (in_doubt_after calls call answer) ≡ doubt_behind (last_of calls) call answer
last-behind calls call answer = grind (arith, last-more calls call)

-- and behind a history
pub last-in-doubt : (calls : List Call) (history : List Entry)
    → last_of (in_doubt calls history) ≡ fold doubt_after (last_of calls) history
last-in-doubt calls [] = refl
last-in-doubt calls (entry ∷ history) =
    last-in-doubt (in_doubt_after calls entry.call entry.answer) history
    ∙ ap (λ doubt. fold doubt_after doubt history) (last-behind calls entry.call entry.answer)
