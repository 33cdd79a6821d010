-- The statuses, the lines and the ends of runs at small examples, each worked out by hand.
use Rattle.std.proofs.Common.{◌≡◌, Bool, Ok, Err, true, false, ℕ, List, [], ◌∷◌, ◌++◌, refl, map, codes}
use Prim.Native.String.{String}
use Rattle.std.specs.Fmt.{digits}
use Rattle.skk_outside.specs.declared.source.ReadFault.TheVariants as reading
use Rattle.skk_text.specs.declared.text_file.TextFault.TheVariants as texts
use Rattle.skk_calls.specs.Tallies.{Tally, empty_tally}
use Rattle.skk_journal.specs.declared.fault.OpenFault.TheVariants as opening
use Rattle.key_scripts.specs.declared.script.ScriptFault.TheVariants as scripts
use Rattle.run_endings.specs.Status.{message_of, status_of, fault_words, run_status, run_message, ended_by}
use Rattle.run_endings.specs.Status.{fault_of_opening, fault_of_read, fault_of_text, fault_of_script, fault_of_asking}
use Rattle.run_endings.specs.declared.fault.RunFault.TheVariants.{Words, Refused, NotJournal, BadRecord}
use Rattle.run_endings.specs.declared.fault.RunFault.TheVariants.{RowTooBig, Outside, Memory}
use Rattle.run_endings.specs.declared.fault.RunFault.TheVariants.{JournalFull, Reply, StampsEnd}
use Rattle.run_endings.specs.declared.reply_flaw.ReplyFlaw.TheVariants as flaws
use Rattle.skkserv_client.specs.declared.told.AskFault.TheVariants as asks
use Rattle.run_endings.specs.declared.run_file.Flaw.TheVariants.{TooLong, Byte, Line}
use Rattle.run_endings.specs.declared.run_file.RunFile.TheVariants.{Script, Rules, Dictionary}

-- each fault with its status and its line
statuses : map run_status
    (Ok tt ∷ Err Words ∷ Err (Refused Script TooLong) ∷ Err (Refused Script (Line 3)) ∷ Err (Refused Rules TooLong)
    ∷ Err (Refused (Dictionary 1) (Byte 0)) ∷ Err (RowTooBig 65536) ∷ Err Outside ∷ Err Memory ∷ Err JournalFull
    ∷ Err StampsEnd ∷ [])
    ≡ 0 ∷ 1 ∷ 2 ∷ 2 ∷ 3 ∷ 3 ∷ 3 ∷ 4 ∷ 6 ∷ 7 ∷ 10 ∷ []
statuses = refl

-- a line of a message
abbrev told : String → List ℕ
told text = codes text ++ 10 ∷ []

messages : map run_message (Ok tt ∷ Err Words ∷ Err Outside ∷ Err Memory ∷ Err JournalFull ∷ Err StampsEnd ∷ [])
    ≡ [] ∷ told "skk: words" ∷ told "skk: outside" ∷ told "skk: memory" ∷ told "skk: journal full"
    ∷ told "skk: stamps end" ∷ []
messages = refl

refusals_told : map message_of
    (Refused Script TooLong ∷ Refused Script (Line 1048577) ∷ Refused Rules TooLong ∷ Refused Rules (Byte 1048575)
    ∷ Refused Rules (Line 12) ∷ Refused (Dictionary 1) TooLong ∷ Refused (Dictionary 16) (Byte 67108863)
    ∷ RowTooBig 65536 ∷ RowTooBig 18446744073709551615 ∷ [])
    ≡ told "skk: script too long" ∷ told "skk: line 1048577" ∷ told "skk: rules too long"
    ∷ told "skk: rules byte 1048575"
    ∷ told "skk: rules line 12" ∷ told "skk: dictionary 1 too long" ∷ told "skk: dictionary 16 byte 67108863"
    ∷ told "skk: row too big 65536" ∷ told "skk: row too big 18446744073709551615" ∷ []
unfolding digits
refusals_told = refl

replies_told : map message_of
    (Reply flaws.TooLong ∷ Reply (flaws.Ended 0) ∷ Reply (flaws.Ended 4194303) ∷ Reply flaws.Refused
    ∷ Reply (flaws.Bad 0) ∷ Reply (flaws.Bad 12) ∷ [])
    ≡ told "skk: reply too long" ∷ told "skk: reply ended at 0" ∷ told "skk: reply ended at 4194303"
    ∷ told "skk: reply refused" ∷ told "skk: reply bad at 0" ∷ told "skk: reply bad at 12" ∷ []
unfolding digits
replies_told = refl

reply_statuses : map status_of (Reply flaws.TooLong ∷ Reply (flaws.Ended 5) ∷ Reply flaws.Refused ∷ Reply (flaws.Bad 1)
    ∷ []) ≡ 9 ∷ 9 ∷ 9 ∷ 9 ∷ []
reply_statuses = refl

unanswered : map fault_of_asking
    (asks.LinkFault ∷ asks.TooLong ∷ asks.Ended 5 ∷ asks.Refused ∷ asks.BadReply 1 ∷ asks.Memory ∷ [])
    ≡ Outside ∷ Reply flaws.TooLong ∷ Reply (flaws.Ended 5) ∷ Reply flaws.Refused ∷ Reply (flaws.Bad 1) ∷ Memory ∷ []
unanswered = refl

-- what a run's calls came to, with a refusal for the disk, for memory and for a full file
abbrev came_to : Bool → Bool → Bool → Tally
came_to disk memory full = record empty_tally { disk = disk; memory = memory; full = full }

ended_with_refusals : (map (ended_by (Ok tt)) (came_to false false false ∷ came_to true true true
    ∷ came_to true false false ∷ came_to false true true ∷ came_to false true false ∷ came_to false false true ∷ [])
    ≡ Ok tt ∷ Err Outside ∷ Err Outside ∷ Err Memory ∷ Err Memory ∷ Err JournalFull ∷ [])
    × (map (ended_by (Err Words)) (came_to false false false ∷ came_to true true true ∷ [])
    ≡ Err Words ∷ Err Words ∷ [])
ended_with_refusals = (refl, refl)

-- what it is for the run that its learned dictionary was not opened, its status and its words
unopened : map fault_of_opening (opening.Disk ∷ opening.NotJournal 0 80 ∷ opening.NotJournal 1 80
    ∷ opening.BadRecord 0 17 1 [] ∷ opening.BadRecord 1 17 2 [] ∷ opening.Memory ∷ [])
    ≡ Outside ∷ NotJournal 0 80 ∷ NotJournal 1 80 ∷ BadRecord 0 17 ∷ BadRecord 1 17 ∷ Memory ∷ []
unopened = refl

learned_statuses : map status_of (NotJournal 0 80 ∷ BadRecord 1 17 ∷ JournalFull ∷ []) ≡ 5 ∷ 5 ∷ 7 ∷ []
learned_statuses = refl

learned_told : map fault_words (NotJournal 0 80 ∷ NotJournal 1 80 ∷ BadRecord 0 17 ∷ BadRecord 1 17 ∷ JournalFull ∷ [])
    ≡ codes "learned file byte 80" ∷ codes "learned file 2 byte 80" ∷ codes "learned file record at 17"
    ∷ codes "learned file 2 record at 17" ∷ codes "journal full" ∷ []
unfolding digits
learned_told = refl

handed_faults : (map (fault_of_read Rules) (reading.TooLong ∷ reading.Failed ∷ reading.Memory ∷ [])
    ≡ Refused Rules TooLong ∷ Outside ∷ Memory ∷ [])
    × (map (fault_of_text (Dictionary 2)) (texts.TooLong 9 ∷ texts.NotUtf8 7 ∷ [])
    ≡ Refused (Dictionary 2) TooLong ∷ Refused (Dictionary 2) (Byte 7) ∷ [])
    × (map fault_of_script (scripts.BadLine 5 ∷ scripts.Memory ∷ []) ≡ Refused Script (Line 5) ∷ Memory ∷ [])
handed_faults = (refl, refl, refl)
