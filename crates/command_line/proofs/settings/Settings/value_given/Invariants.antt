use Rattle.std.proofs.Common.{◌≡◌, drop}
use Rattle.command_line.specs.Settings.{value_given}
use Rattle.command_line.proofs.settings.Settings.value_given.Given as goal

-- the value is that of the settings that are left
abbrev pub invariant-loop-setting : goal.invariant-loop-setting
invariant-loop-setting l =
    value_given l.argument (drop l.setting-index l.setting-items) ≡ value_given l.argument l.setting-items
