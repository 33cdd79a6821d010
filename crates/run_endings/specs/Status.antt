-- How a run ends: its status, and its line on standard error.
use Rattle.std.specs.Prelude.{◌⊎◌, ◌||◌, ◌==◌, ℕ, Bool, if◌then◌else◌, Result, Ok, Err, List, ◌++◌, [], ◌∷◌, codes}
use Rattle.std.specs.Fmt.{decimal}
use Rattle.std.specs.Io.KnownBytes.{Appends}
use Rattle.skk_calls.specs.Tallies.{Tally}
use Rattle.skk_outside.specs.Faults.{Rose}
use Rattle.skk_outside.specs.Moved.{MovedSink}
use Rattle.skk_outside.specs.Written.{AppendsPrefix}
use Rattle.skk_outside.specs.declared.source.ReadFault.{ReadFault}
use Rattle.skk_outside.specs.declared.source.ReadFault.TheVariants as reading
use Rattle.skk_journal.specs.declared.fault.OpenFault.{OpenFault}
use Rattle.skk_journal.specs.declared.fault.OpenFault.TheVariants as opening
use Rattle.skk_text.specs.Lines.{line_feed}
use Rattle.skk_text.specs.declared.text_file.TextFault.{TextFault}
use Rattle.skk_text.specs.declared.text_file.TextFault.TheVariants as texts
use Rattle.key_scripts.specs.declared.script.ScriptFault.{ScriptFault}
use Rattle.key_scripts.specs.declared.script.ScriptFault.TheVariants as scripts
use Rattle.run_endings.specs.declared.run_file.RunFile.{RunFile}
use Rattle.run_endings.specs.declared.run_file.RunFile.TheVariants.{Script, Rules, Dictionary}
use Rattle.run_endings.specs.declared.run_file.Flaw.{Flaw}
use Rattle.run_endings.specs.declared.run_file.Flaw.TheVariants.{TooLong, Byte, Line}
use Rattle.run_endings.specs.declared.fault.RunFault.{RunFault}
use Rattle.run_endings.specs.declared.fault.RunFault.TheVariants.{Words, Refused, NotJournal, BadRecord}
use Rattle.run_endings.specs.declared.fault.RunFault.TheVariants.{RowTooBig, Outside, Memory}
use Rattle.run_endings.specs.declared.fault.RunFault.TheVariants.{JournalFull, Reply, StampsEnd}
use Rattle.run_endings.specs.declared.reply_flaw.ReplyFlaw.{ReplyFlaw}
use Rattle.run_endings.specs.declared.reply_flaw.ReplyFlaw.TheVariants as flaws
use Rattle.skkserv_client.specs.declared.told.AskFault.{AskFault}
use Rattle.skkserv_client.specs.declared.told.AskFault.TheVariants as asks

-- how a run ends: done, or with a fault
abbrev pub Ended : Type 0
Ended = Result (Unit {0}) RunFault

-- the status of a run that refuses a file
abbrev pub status_of_file : RunFile → ℕ
status_of_file Script = 2
status_of_file Rules = 3
status_of_file (Dictionary number) = 3

-- the status of a fault
abbrev pub status_of : RunFault → ℕ
status_of Words = 1
status_of (Refused file flaw) = status_of_file file
status_of (NotJournal file first) = 5
status_of (BadRecord file at) = 5
status_of (RowTooBig bytes) = 3
status_of Outside = 4
status_of Memory = 6
status_of JournalFull = 7
status_of (Reply flaw) = 9
status_of StampsEnd = 10

-- the status of a run by how it ends
abbrev pub run_status : Ended → ℕ
run_status (Ok done) = 0
run_status (Err fault) = status_of fault

-- a tally with a want of memory beside that of the calls, where there was one
abbrev pub with_want : Bool → Tally → Tally
with_want wanted tally = record tally { memory = wanted || tally.memory }

-- how a run ends by how its typing or serving ended and what its calls came to: where it was done whole, a change that
-- the disk failed is a failure of the outside; else a call was refused as out of memory; else the learned file was full
abbrev pub ended_by : Ended → Tally → Ended
ended_by (Ok done) tally =
    if tally.disk then Err Outside else if tally.memory then Err Memory else if tally.full then Err JournalFull
    else Ok done
ended_by (Err fault) tally = Err fault

-- the words in front of a flaw that name the file: a line that is at fault is the script's where no file is named
abbrev pub file_words : RunFile → Flaw → List ℕ
file_words Script (Line number) = []
file_words Script flaw = codes "script "
file_words Rules flaw = codes "rules "
file_words (Dictionary number) flaw = codes "dictionary " ++ decimal number ++ codes " "

-- the words of a flaw
abbrev pub flaw_words : Flaw → List ℕ
flaw_words TooLong = codes "too long"
flaw_words (Byte at) = codes "byte " ++ decimal at
flaw_words (Line number) = codes "line " ++ decimal number

-- the words that name a file of the learned dictionary by its number
abbrev pub learned_words : ℕ → List ℕ
learned_words file = if file == 0 then codes "learned file " else codes "learned file 2 "

-- the words of what is wrong with the reply of a server
abbrev pub reply_words : ReplyFlaw → List ℕ
reply_words flaws.TooLong = codes "reply too long"
reply_words (flaws.Ended read) = codes "reply ended at " ++ decimal read
reply_words flaws.Refused = codes "reply refused"
reply_words (flaws.Bad at) = codes "reply bad at " ++ decimal at

-- the words of a fault
abbrev pub fault_words : RunFault → List ℕ
fault_words Words = codes "words"
fault_words (Refused file flaw) = file_words file flaw ++ flaw_words flaw
fault_words (NotJournal file first) = learned_words file ++ (codes "byte " ++ decimal first)
fault_words (BadRecord file at) = learned_words file ++ (codes "record at " ++ decimal at)
fault_words (RowTooBig bytes) = codes "row too big " ++ decimal bytes
fault_words Outside = codes "outside"
fault_words Memory = codes "memory"
fault_words JournalFull = codes "journal full"
fault_words (Reply flaw) = reply_words flaw
fault_words StampsEnd = codes "stamps end"

-- the line of a fault on standard error, with its LF
abbrev pub message_of : RunFault → List ℕ
message_of fault = codes "skk: " ++ fault_words fault ++ line_feed ∷ []

-- what a run tells on standard error by how it ends
abbrev pub run_message : Ended → List ℕ
run_message (Ok done) = []
run_message (Err fault) = message_of fault

-- a message was written whole, or a prefix of it where a write failed
abbrev pub Tells : List ℕ → MovedSink → Type 0
Tells message err =
    Appends err.written err.written' message
    ⊎ (AppendsPrefix err.written err.written' message × Rose err.faults err.faults')

-- what a fault of reading a file is for the run
abbrev pub fault_of_read : RunFile → ReadFault → RunFault
fault_of_read file reading.TooLong = Refused file TooLong
fault_of_read file reading.Failed = Outside
fault_of_read file reading.Memory = Memory

-- what it is for the run that a file is no text
abbrev pub fault_of_text : RunFile → TextFault → RunFault
fault_of_text file (texts.TooLong bytes) = Refused file TooLong
fault_of_text file (texts.NotUtf8 at) = Refused file (Byte at)

-- what a fault of the lines of a script is for the run
abbrev pub fault_of_script : ScriptFault → RunFault
fault_of_script (scripts.BadLine number) = Refused Script (Line number)
fault_of_script scripts.Memory = Memory

-- what it is for the run that its learned dictionary was not opened
abbrev pub fault_of_opening : OpenFault → RunFault
fault_of_opening opening.Disk = Outside
fault_of_opening (opening.NotJournal file first) = NotJournal file first
fault_of_opening (opening.BadRecord file at version before) = BadRecord file at
fault_of_opening opening.Memory = Memory

-- what it is for the run that a server told nothing
abbrev pub fault_of_asking : AskFault → RunFault
fault_of_asking asks.LinkFault = Outside
fault_of_asking asks.TooLong = Reply flaws.TooLong
fault_of_asking (asks.Ended read) = Reply (flaws.Ended read)
fault_of_asking asks.Refused = Reply flaws.Refused
fault_of_asking (asks.BadReply at) = Reply (flaws.Bad at)
fault_of_asking asks.Memory = Memory
