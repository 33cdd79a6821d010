-- What a caller has said that gives answers which are known.
use Rattle.std.specs.Prelude.{◌≡◌, ◌⊎◌, ⊤, true, Option, Some, None, List, [], ◌∷◌, ◌++◌}
use Rattle.session_machine.specs.Session.{Session}
use Rattle.skk_calls.specs.declared.answer.Answer.{Answer}
use Rattle.skk_calls.specs.declared.answer.Answer.TheVariants.{Refused}
use Rattle.skk_calls.specs.declared.answer.Refusal.TheVariants.{Memory}
use Rattle.skk_calls.specs.declared.call.Call.{Call}
use Rattle.skk_calls.specs.Dictionary.{is_fit}
use Rattle.skk_calls.specs.Interactions.{Dialog, answers_of}
use Rattle.session_machine.specs.declared.known_answers.KnownAnswers.{KnownAnswers}
use Rattle.session_machine.specs.declared.known_answers.Stage.{Stage}
use Rattle.session_machine.specs.declared.known_answers.Stage.TheVariants.{Giving, Kept, Failed}

-- a caller that gives known answers: what it has said, the answers that are left, and where it stands
pub record Replaying : Type 0 where
  pub said : Dialog
  pub left : List Answer
  pub stage : Stage

-- of these answers a caller gave those of its dialog, and the rest are left; or it gave all of them, kept the call
-- that came behind them, and refused that; or it failed
abbrev pub Replays : List Answer → Dialog → List Answer → Stage → Type 0
Replays answers said left Giving = answers ≡ answers_of said ++ left
Replays answers said left (Kept call) =
    (is_fit call ≡ true)
    × (first : Dialog) × (rest : Dialog) × (answers ≡ answers_of first)
    × (said ≡ first ++ (call, Refused Memory) ∷ rest)
Replays answers said left Failed = ⊤

-- a caller that gives these answers has said this
abbrev pub IsReplay : List Answer → KnownAnswers → Dialog → Type 0
IsReplay answers known said = Replays answers said known.left.now known.stage

-- the session that a key left, where no answer is left behind it
abbrev pub end_behind : List Answer → Session → Option Session
end_behind [] end = Some end
end_behind (answer ∷ left) end = None

-- a call is kept, unless its copy failed
abbrev pub Keeps : Call → Stage → Type 0
Keeps call Giving = ⊥
Keeps call (Kept kept) = kept ≡ call
Keeps call Failed = ⊤

-- of known answers the next was given, unless that failed
abbrev pub Gives : KnownAnswers → Answer → KnownAnswers → Type 0
Gives known answer after =
    (after ≡ record known { stage = Failed })
    ⊎ ((known.left.now ≡ answer ∷ after.left.now) × (after.stage ≡ known.stage))
