use Rattle.std.proofs.Common.{◌∙◌, sym, ap, ap₂, List, [], ◌∷◌, get_or, take}
use Rattle.std.proofs.lemmas.List.{map-append, take_more}
use Rattle.clap.specs.Simple.{new_shape}
use Rattle.clap.specs.Words.{App, Rule, with_rule}
use Rattle.command_line.specs.Command.{title}
use Rattle.command_line.specs.OptionWords.{app_with, row_rule}
use Rattle.command_line.specs.Settings.{Row}
use Rattle.command_line.specs.declared.argument.Argument.TheVariants.{File}
use Rattle.command_line.proofs.option_words.command_of.Goals as goal

pub loop-argument-preserved : goal.loop-argument-preserved
loop-argument-preserved c =
    let name = c.args.name in
    let place = c.loop-argument.argument-index in
    let rows : List Row = c.takes-argument-items.result.now in
    let row : Row = get_or rows place (File, 0, 0) in
    let shape = new_shape (title name) in
    c.in_ok-command.ensures.shape c.option_of.ensures.own
    ∙ ap₂ with_rule c.loop-argument.invariant c.option_of.ensures.rule
    ∙ ap {B = App} (λ (rules : List Rule). record { top = record shape { rules = rules }; subs = [] })
    (sym (map-append row_rule (take place rows) (row ∷ [])))
    ∙ ap (app_with name) (sym (take_more rows place (File, 0, 0) c.loop-argument-test.true))
