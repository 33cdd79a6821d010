use Rattle.std.proofs.Common.{◌∙◌, sym, ap₂, subst, arith, Some, List, ℕ}
use Rattle.std.specs.Option.{IfSome}
use Rattle.command_line.specs.Command.{dump_options}
use Rattle.command_line.specs.OptionWords.{settings_asked, GivesOptions}
use Rattle.command_line.specs.Settings.{number_given, text_given}
use Rattle.command_line.specs.declared.argument.Argument.TheVariants.{Learned, Book}
use Rattle.command_line.specs.declared.command_name.CommandName.TheVariants.{Dump}
use Rattle.command_line.proofs.OptionsAsked.{are_made, same_number, same_text}
use Rattle.command_line.proofs.option_words.dump_options.Goals as goal

pub returns : goal.returns
returns c =
    let asked = are_made dump_options (settings_asked Dump c.args.words.now) c.requires in
    let settings = asked.settings in
    let gives =
    subst (λ o. IfSome o (λ s. GivesOptions Dump s c.in-Ok.matches)) asked.is c.in-Ok.ensures.ok in
    asked.made
    ∙ sym (ap₂ (λ (l : List ℕ) (b : ℕ). Some (record { learned = l; book = b }))
    (same_text (text_given Learned settings) _ c.text_of.result gives.0 c.text_of.ensures)
    (same_number 0 65535 (number_given Book settings) _ c.number_of.result (omega arith) gives.1.0
    c.number_of.ensures))
