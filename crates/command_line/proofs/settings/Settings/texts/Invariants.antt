use Rattle.std.proofs.Common.{◌≡◌, take}
use Rattle.command_line.specs.Settings.{texts_of}
use Rattle.command_line.proofs.settings.Settings.texts.Given as goal

-- the texts of the settings so far
abbrev pub invariant-loop-setting : goal.invariant-loop-setting
invariant-loop-setting l = l.texts.items ≡ texts_of l.argument (take l.setting-index l.setting-items)
