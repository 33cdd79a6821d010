use Rattle.std.proofs.Common.{◌≤◌, ◌*◌, take}
use Rattle.command_line.proofs.SettingLists.{AreKept}
use Rattle.command_line.proofs.settings.Settings.fits.Given as goal

-- the rows so far are kept, and count the settings
abbrev pub invariant-loop-argument : goal.invariant-loop-argument
invariant-loop-argument l = record {
  kept : AreKept l.self (take l.argument-index l.rows) l.counted;
  small : l.counted ≤ 32 * l.argument-index;
}
