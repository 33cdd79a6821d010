-- How what is known of an idle file changes until its first byte is 0.
use Rattle.skk_journal.specs.declared.live.Idle.{Idle}
use Rattle.skk_journal.specs.declared.live.Idle.TheVariants.{Blank, Loose, Stray}

-- what is known of an idle file one step later: a stray one gives way, one that gave way is blank, a blank one stays
abbrev pub nearer : Idle → Idle
nearer Blank = Blank
nearer Loose = Blank
nearer Stray = Loose
