-- Commands read from words.
use Rattle.std.proofs.Common.{◌≡◌, ◌≤◌, ◌∙◌, ap, ℕ, Option, None, Some, true, List, ◌∷◌, length, refl, arith}
use Rattle.std.specs.Option.{option_and_then}
use Rattle.command_line.specs.Settings.{settings_of, fits, AreNoneOrMany}
use Rattle.command_line.specs.Command.{takes, command_with, command_named, settings_command}
use Rattle.command_line.specs.declared.command_name.CommandName.{CommandName}
use Rattle.command_line.specs.declared.command_name.CommandName.TheVariants.{TypeScript, Serve, Check, Dump, Share}
use Rattle.command_line.specs.declared.command_name.CommandName.TheVariants.{Load, Ask, Import}
use Rattle.command_line.specs.declared.setting.Setting.{Setting}
use Rattle.command_line.proofs.SettingLists.{fits-few}

-- no command takes more than 32 settings
most : (name : CommandName) (settings : List Setting) → fits (takes name) settings ≡ true → length settings ≤ 32
most TypeScript settings fit = omega (arith, fits-few (takes TypeScript) settings fit)
most Serve settings fit = omega (arith, fits-few (takes Serve) settings fit)
most Check settings fit = omega (arith, fits-few (takes Check) settings fit)
most Dump settings fit = omega (arith, fits-few (takes Dump) settings fit)
most Share settings fit = omega (arith, fits-few (takes Share) settings fit)
most Load settings fit = omega (arith, fits-few (takes Load) settings fit)
most Ask settings fit = omega (arith, fits-few (takes Ask) settings fit)
most Import settings fit = omega (arith, fits-few (takes Import) settings fit)

with-none : (name : CommandName) (given : Option (List Setting)) → AreNoneOrMany given
    → option_and_then (command_with name) given ≡ None
with-none name None many = refl
with-none name (Some settings) many = grind (arith, many, most name settings)

pub no_command : (word : List ℕ) (words : List (List ℕ)) (name : CommandName) → command_named word ≡ Some name
    → AreNoneOrMany (settings_of words) → settings_command (word ∷ words) ≡ None
no_command word words name named many =
    ap (option_and_then (λ n. option_and_then (command_with n) (settings_of words))) named
    ∙ with-none name (settings_of words) many
