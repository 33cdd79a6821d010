use Rattle.std.proofs.Common.{◌≡◌, [], take}
use Rattle.std.specs.List.{fold}
use Rattle.dict_format.specs.Views.{texts_seen}
use Rattle.skkserv_client.specs.Gathering.{with_reading}
use Rattle.skkserv_client.proofs.gathering.readings_of.Given as goal

-- the readings so far are those of the texts that were gone through
abbrev pub invariant-loop-text : goal.invariant-loop-text
invariant-loop-text l = l.readings ≡ fold with_reading [] (texts_seen (take l.text-index l.texts))
