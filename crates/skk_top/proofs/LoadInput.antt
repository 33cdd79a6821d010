-- The lines of a load open no session, and name none by 0.
use Rattle.std.proofs.Common.{◌≡◌, ◌∙◌, refl, arith, ℕ, ◌+◌, ◌≤◌, ◌==◌, zero, suc, Bool, true, not}
use Rattle.std.proofs.lemmas.Bool.{and_from, ne_eqb, not_from_false}
use Rattle.std.proofs.lemmas.List.Folds.{list_all-append}
use Rattle.std.specs.List.{list_all}
use Rattle.key_scripts.specs.Script.{gives_keys, opens_well, session_of}
use Rattle.key_scripts.specs.declared.line.Line.{Line}
use Rattle.load_input.specs.Lines.{behind_line, behind_round, line_drawn, lines_drawn, round}
use Rattle.command_line.specs.declared.command.LoadOptions.{LoadOptions}
use Rattle.skk_top.specs.LoadCommand.{load_lines}

-- what each line passes that is drawn for a session from 1 on, all lines pass
module _ (test : Line → Bool) (passes : (state session : ℕ) → 1 ≤ session → test (line_drawn state session) ≡ true)
  where
    round-passes : (state session count : ℕ) → 1 ≤ session → list_all test (round state session count) ≡ true
    round-passes state session zero from = refl
    round-passes state session (suc count) from =
        and_from (test (line_drawn state session)) (list_all test (round (behind_line state) (session + 1) count))
        (passes state session from) (round-passes (behind_line state) (session + 1) count (omega (arith, from)))

    all-pass : (state sessions lines : ℕ) → list_all test (lines_drawn state sessions lines) ≡ true
    all-pass state sessions zero = refl
    all-pass state sessions (suc lines) =
        list_all-append test (round state 1 sessions) (lines_drawn (behind_round state sessions) sessions lines)
        ∙ and_from (list_all test (round state 1 sessions))
        (list_all test (lines_drawn (behind_round state sessions) sessions lines))
        (round-passes state 1 sessions (omega arith)) (all-pass (behind_round state sessions) sessions lines)

    drawn-pass : (options : LoadOptions) → list_all test (load_lines options) ≡ true
    drawn-pass options = all-pass options.seed options.sessions options.lines

pub drawn-open_well : (options : LoadOptions) → list_all opens_well (load_lines options) ≡ true
drawn-open_well = drawn-pass opens_well (λ state session from. refl)

pub drawn-give_keys : (options : LoadOptions) → list_all gives_keys (load_lines options) ≡ true
drawn-give_keys = drawn-pass gives_keys (λ state session from. refl)

pub drawn-numbered : (options : LoadOptions)
    → list_all (λ line. not (session_of line == 0)) (load_lines options) ≡ true
drawn-numbered =
    drawn-pass (λ line. not (session_of line == 0))
    (λ state session from. not_from_false (session == 0)
    (ne_eqb session 0 (λ none. absurd (omega (arith, from, none)))))
