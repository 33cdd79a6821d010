-- The call that is asked behind answers, and which answers it may be asked behind.
use Rattle.std.specs.Prelude.{Bool, true, ◌&&◌, Option, None, Some, List, [], ◌∷◌}
use Rattle.skk_calls.specs.declared.answer.Answer.{Answer}
use Rattle.skk_calls.specs.declared.call.Call.{Call}
use Rattle.skk_calls.specs.Dictionary.{may_answer}
use Rattle.skk_calls.specs.Interactions.{Interaction, ends, asks, prints}

-- the call that is asked next where the calls before it got these answers, one after another
abbrev pub next_asked : {S : Type 0} → Interaction S → List Answer → Option Call
next_asked (ends value) answers = None
next_asked (asks call next) [] = Some call
next_asked (asks call next) (answer ∷ answers) = next_asked (next answer) answers
next_asked (prints text rest) answers = next_asked rest answers

-- each answer is one that the call may get which is asked there
abbrev pub may_answer_all : {S : Type 0} → Interaction S → List Answer → Bool
may_answer_all (ends value) answers = true
may_answer_all (asks call next) [] = true
may_answer_all (asks call next) (answer ∷ answers) = may_answer call answer && may_answer_all (next answer) answers
may_answer_all (prints text rest) answers = may_answer_all rest answers
