use Rattle.std.proofs.Common.{◌∙◌, sym, subst, arith, Some}
use Rattle.std.specs.Option.{IfSome}
use Rattle.command_line.specs.Command.{load_options}
use Rattle.command_line.specs.OptionWords.{settings_asked, GivesOptions}
use Rattle.command_line.specs.Settings.{number_given}
use Rattle.command_line.specs.declared.argument.Argument.TheVariants.{Seed, Sessions, Lines}
use Rattle.command_line.specs.declared.command_name.CommandName.TheVariants.{Load}
use Rattle.command_line.proofs.OptionsAsked.{are_made, same_number}
use Rattle.command_line.proofs.option_words.load_options.Goals as goal

pub returns : goal.returns
returns c =
    let asked = are_made load_options (settings_asked Load c.args.words.now) c.requires in
    let settings = asked.settings in
    let gives =
    subst (λ o. IfSome o (λ s. GivesOptions Load s c.in-Ok.matches)) asked.is c.in-Ok.ensures.ok in
    let seed = same_number 0 18446744073709551615 (number_given Seed settings) _ c.number_of.result (omega arith)
    gives.0 c.number_of.ensures in
    let sessions = same_number 1 64 (number_given Sessions settings) _ c.number_of-2.result (omega arith) gives.1.0
    c.number_of-2.ensures in
    let lines = same_number 1 20000 (number_given Lines settings) _ c.number_of-3.result (omega arith) gives.1.1.0
    c.number_of-3.ensures in
    asked.made ∙ sym (λ i. Some (record { seed = seed i; sessions = sessions i; lines = lines i }))
