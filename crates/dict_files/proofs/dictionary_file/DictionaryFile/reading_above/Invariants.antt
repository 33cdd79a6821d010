use Rattle.std.proofs.Common.{length}
use Rattle.dict_files.proofs.FileWalk.{WalksOn}
use Rattle.dict_files.proofs.dictionary_file.DictionaryFile.reading_above.Given as goal

-- the walk goes on among the entries that are left
abbrev pub invariant-loop-place : goal.invariant-loop-place
invariant-loop-place l = WalksOn l.self l.bytes l.low l.places

abbrev pub decreases-loop-place : goal.decreases-loop-place
decreases-loop-place l = length l.places
