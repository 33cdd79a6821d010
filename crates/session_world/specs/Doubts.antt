-- The change in doubt of a history, by its last entry.
use Rattle.std.specs.Prelude.{Option, None, Some, if◌then◌else◌}
use Rattle.skk_calls.specs.declared.answer.Answer.TheVariants.{Done, Refused}
use Rattle.skk_calls.specs.declared.answer.Answer.{Answer}
use Rattle.skk_calls.specs.declared.answer.Refusal.TheVariants.{Disk}
use Rattle.skk_calls.specs.declared.call.Call.{Call}
use Rattle.skk_calls.specs.declared.entry.Entry.{Entry}
use Rattle.skk_calls.specs.Dictionary.{is_change}

-- the change in doubt behind a call and its answer: none behind a change, and this call where a disk failed it
abbrev pub doubt_behind : Option Call → Call → Answer → Option Call
doubt_behind doubt call (Done reply) = if is_change reply then None else doubt
doubt_behind doubt call (Refused Disk) = Some call
doubt_behind doubt call (Refused refusal) = doubt

-- the change in doubt behind an entry
abbrev pub doubt_after : Option Call → Entry → Option Call
doubt_after doubt entry = doubt_behind doubt entry.call entry.answer
