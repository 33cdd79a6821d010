-- What is asked for lines where nothing is printed, and the sessions behind them.
use Rattle.std.specs.Prelude.{ℕ, ◌+◌, unwrap_or, List, [], ◌∷◌}
use Rattle.romaji_rules.specs.declared.rule.Rule.{Rule}
use Rattle.skk_calls.specs.declared.answer.Answer.{Answer}
use Rattle.skk_calls.specs.declared.answer.Answer.TheVariants.{Done}
use Rattle.skk_calls.specs.declared.entry.Entry.{Entry}
use Rattle.skk_calls.specs.Dictionary.{answer, after}
use Rattle.skk_calls.specs.Interactions.{Interaction, ends, asks, prints, followed_by, end_of, Dialog, answers_of}
use Rattle.skk_calls.specs.Rows.{Row}
use Rattle.skk_calls.specs.States.{State}
use Rattle.key_scripts.specs.declared.line.Line.{Line}
use Rattle.key_scripts.specs.declared.line.Line.TheVariants.{Keys, Opening}
use Rattle.session_machine.specs.Pressed.{all_pressed}
use Rattle.session_machine.specs.Session.{new_session}
use Rattle.script_typing.specs.Sessions.{SessionMap, session_or_new, with_session}
use Rattle.script_typing.specs.Woven.{Tasks, task_typing}

-- what lines ask from these sessions on, one after another; it ends with the sessions behind them
abbrev pub playing : List Rule → SessionMap → List Line → Interaction SessionMap
playing rules sessions [] = ends sessions
playing rules sessions (Keys number ks ∷ lines) =
    followed_by (all_pressed rules (session_or_new sessions number) ks)
    (λ session. playing rules (with_session sessions number session) lines)
playing rules sessions (Opening number typist book ∷ lines) =
    playing rules (with_session sessions number (new_session typist book)) lines

-- the sessions behind lines, where just these answers lead to their end
abbrev pub sessions_behind : List Rule → List Line → List Answer → SessionMap
sessions_behind rules lines answers = unwrap_or (end_of (playing rules [] lines) answers) []

-- the sessions behind the lines of tasks, where what the caller of each place has said leads to their end
abbrev pub sessions_from : List Rule → (ℕ → Dialog) → ℕ → Tasks → SessionMap
sessions_from rules said place [] = []
sessions_from rules said place (task ∷ tasks) =
    (task.0, unwrap_or (end_of (task_typing rules task) (answers_of (said place))) (new_session task.0 task.0))
    ∷ sessions_from rules said (place + 1) tasks

-- Where the dictionary of one thread answers

-- the value that an interaction ends with, from a state on
abbrev pub end_alone : {S : Type 0} → List (List Row) → State → Interaction S → S
end_alone files state (ends value) = value
end_alone files state (asks call next) = end_alone files (after state call) (next (Done (answer files state call)))
end_alone files state (prints text rest) = end_alone files state rest

-- the history of one caller that makes its calls
abbrev pub history_alone : {S : Type 0} → List (List Row) → State → Interaction S → List Entry
history_alone files state (ends value) = []
history_alone files state (asks call next) =
    let given = Done (answer files state call) in
    record { number = 0; call = call; answer = given } ∷ history_alone files (after state call) (next given)
history_alone files state (prints text rest) = history_alone files state rest
