use Rattle.std.proofs.Common.{◌≡◌, ◌∙◌, sym, ap, None}
use Rattle.command_line.specs.Command.{settings_command}
use Rattle.command_line.proofs.Commands.{no_command}
use Rattle.command_line.proofs.command_words.name_and_settings.Goals as goal

pub returns-in_err-settings : goal.returns-in_err-settings
returns-in_err-settings c =
    let none : settings_command c.args.words.now ≡ None =
    ap settings_command c.in_ok-first.ensures.cases.0
    ∙ no_command c.in_ok-first.first.now c.in_ok-first.rest.now c.in_ok-name.name
    (sym c.command_named.ensures ∙ c.in_ok-name.was) c.in_err-settings.ensures in
    rw c.from_residual-in_err-settings.ensures none
