use Rattle.std.proofs.Common.{◌≡◌, ◌∙◌, sym, ap, Some}
use Rattle.std.specs.Option.{option_map}
use Rattle.command_line.specs.Command.{command, dump_options}
use Rattle.command_line.specs.OptionWords.{settings_asked}
use Rattle.command_line.specs.RangeLaws.{numbers_in_range}
use Rattle.command_line.specs.declared.command.AloneCommand.TheVariants as alone
use Rattle.command_line.specs.declared.command.Command.TheVariants.{Alone, Waiting}
use Rattle.command_line.specs.declared.command.AskOptions.{AskOptions}
use Rattle.command_line.specs.declared.command.DumpOptions.{DumpOptions}
use Rattle.command_line.specs.declared.command.ImportOptions.{ImportOptions}
use Rattle.command_line.specs.declared.command.ShareOptions.{ShareOptions}
use Rattle.command_line.specs.declared.command.WaitingCommand.TheVariants as waiting
use Rattle.command_line.specs.declared.command_name.CommandName.{CommandName}
use Rattle.command_line.proofs.command_words.read_command.Goals as goal

pub returns-in-TypeScript-clause-ranges : goal.returns-in-TypeScript-clause-ranges
returns-in-TypeScript-clause-ranges c =
    numbers_in_range c.args.words.now c.type_command.result
    (c.type_command.ensures
    ∙ ap (λ (name : CommandName). Some (command name c.in-Some.settings)) (sym c.in-TypeScript.is)
    ∙ sym c.in-Some.ensures.0)

pub returns-in-Serve-clause-ranges : goal.returns-in-Serve-clause-ranges
returns-in-Serve-clause-ranges c =
    numbers_in_range c.args.words.now c.serve_command.result
    (c.serve_command.ensures ∙ ap (λ (name : CommandName). Some (command name c.in-Some.settings)) (sym c.in-Serve.is)
    ∙ sym c.in-Some.ensures.0)

pub returns-in_ok-dump_options-in-Dump-clause-ranges : goal.returns-in_ok-dump_options-in-Dump-clause-ranges
returns-in_ok-dump_options-in-Dump-clause-ranges c =
    let words = c.args.words.now in
    let options = c.in_ok-dump_options-in-Dump.field-0 in
    let settings = c.in-Some.settings in
    let made : Some options ≡ Some (dump_options settings) =
    sym c.in_ok-dump_options-in-Dump.ensures
    ∙ ap (λ (name : CommandName). option_map dump_options (settings_asked name words)) (sym c.in-Dump.is)
    ∙ ap (option_map dump_options) c.in-Some.ensures.1 in
    numbers_in_range words (Some (Alone (alone.Dump options)))
    (ap (option_map (λ (o : DumpOptions). Alone (alone.Dump o))) made
    ∙ ap (λ (name : CommandName). Some (command name settings)) (sym c.in-Dump.is) ∙ sym c.in-Some.ensures.0)

pub returns-in-Share-clause-ranges : goal.returns-in-Share-clause-ranges
returns-in-Share-clause-ranges c =
    numbers_in_range c.args.words.now (Some (Alone (alone.Share c.of.result)))
    (ap (λ (o : ShareOptions). Some (Alone (alone.Share o))) c.of.ensures
    ∙ ap (λ (name : CommandName). Some (command name c.in-Some.settings)) (sym c.in-Share.is)
    ∙ sym c.in-Some.ensures.0)

pub returns-in-Ask-clause-ranges : goal.returns-in-Ask-clause-ranges
returns-in-Ask-clause-ranges c =
    numbers_in_range c.args.words.now (Some (Waiting (waiting.Ask c.of-in-Ask.result)))
    (ap (λ (o : AskOptions). Some (Waiting (waiting.Ask o))) c.of-in-Ask.ensures
    ∙ ap (λ (name : CommandName). Some (command name c.in-Some.settings)) (sym c.in-Ask.is)
    ∙ sym c.in-Some.ensures.0)

pub returns-in-Import-clause-ranges : goal.returns-in-Import-clause-ranges
returns-in-Import-clause-ranges c =
    numbers_in_range c.args.words.now (Some (Alone (alone.Import c.of-in-Import.result)))
    (ap (λ (o : ImportOptions). Some (Alone (alone.Import o))) c.of-in-Import.ensures
    ∙ ap (λ (name : CommandName). Some (command name c.in-Some.settings)) (sym c.in-Import.is)
    ∙ sym c.in-Some.ensures.0)

pub returns-in_ok-load_options-in-Load-clause-ranges : goal.returns-in_ok-load_options-in-Load-clause-ranges
returns-in_ok-load_options-in-Load-clause-ranges c =
    numbers_in_range c.args.words.now (Some c.load_command.result)
    (ap Some c.load_command.ensures
    ∙ ap (λ (name : CommandName). Some (command name c.in-Some.settings)) (sym c.in-Load.is)
    ∙ sym c.in-Some.ensures.0)
