-- Whatever fault a run ends with had its cause.
use Rattle.std.proofs.Common.{◌≡◌, ◌∙◌, inl, inr, sym, ap, refl, subst}
use Rattle.std.proofs.Common.{arith, ℕ, ◌+◌, ◌<◌, ◌≤◌, Bool, true, false, ◌||◌}
use Rattle.std.proofs.Common.{Option, None, Some, IsSome, Result, Ok, Err, IfErr, IfSome, IsErrAnd, IsErrOf}
use Rattle.std.proofs.Common.{List, [], ◌∷◌, ◌++◌}
use Rattle.std.proofs.lemmas.Bool.{cases_Bool, or_right}
use Rattle.std.specs.List.{list_any}
use Rattle.skk_calls.specs.declared.answer.Answer.{Answer}
use Rattle.skk_calls.specs.declared.answer.Answer.TheVariants.{Done, Refused}
use Rattle.skk_calls.specs.declared.answer.Refusal.TheVariants as refusals
use Rattle.skk_calls.specs.declared.call.Call.{Call}
use Rattle.skk_calls.specs.declared.chronicle.Noted.{Noted}
use Rattle.skk_calls.specs.declared.chronicle.Noted.TheVariants.{Opened, Entered}
use Rattle.skk_calls.specs.declared.entry.Entry.{Entry}
use Rattle.skk_calls.specs.Chronicles.{history_of}
use Rattle.skk_calls.specs.Dictionary.{moves}
use Rattle.skk_calls.specs.Histories.{Opening, LacksRoom, IsLegalAnswer, tight, need}
use Rattle.skk_calls.specs.Openings.{IsLegalOver}
use Rattle.skk_calls.specs.Rows.{Row}
use Rattle.skk_calls.specs.States.{State}
use Rattle.skk_calls.specs.Tallies.{tally_of, has_answer, lacks_disk, lacks_memory, lacks_room}
use Rattle.skk_outside.specs.Faults.{Rose}
use Rattle.skk_outside.specs.Moved.{Told, MovedShelf, MovedSource, MovedSink}
use Rattle.skk_server.specs.Ends.{moved_link}
use Rattle.skk_server.specs.Visits.{Visit}
use Rattle.learned_store.specs.Stands.{GoOn}
use Rattle.batch_store.specs.declared.group_fault.GroupFault.TheVariants as groups
use Rattle.batch_store.specs.declared.import_fault.ImportFault.{ImportFault}
use Rattle.batch_store.specs.declared.import_fault.ImportFault.TheVariants as imports
use Rattle.batch_store.specs.Pieces.{EndSo}
use Rattle.romaji_rules.specs.declared.rule.Rule.{Rule}
use Rattle.romaji_rules.specs.Standard.{standard}
use Rattle.key_scripts.specs.declared.line.Line.{Line}
use Rattle.command_line.specs.Command.{limit_of}
use Rattle.command_line.specs.declared.command.AloneCommand.{AloneCommand}
use Rattle.command_line.specs.declared.command.AloneCommand.TheVariants as alone
use Rattle.command_line.specs.declared.command.AskOptions.{AskOptions}
use Rattle.command_line.specs.declared.command.Command.TheVariants.{Alone, Waiting}
use Rattle.command_line.specs.declared.command.DumpOptions.{DumpOptions}
use Rattle.command_line.specs.declared.command.ImportOptions.{ImportOptions}
use Rattle.command_line.specs.declared.command.LoadOptions.{LoadOptions}
use Rattle.command_line.specs.declared.command.ServeOptions.{ServeOptions}
use Rattle.command_line.specs.declared.command.TypeOptions.{TypeOptions}
use Rattle.command_line.specs.declared.command.WaitingCommand.{WaitingCommand}
use Rattle.command_line.specs.declared.command.WaitingCommand.TheVariants as waiting
use Rattle.command_line.specs.declared.expr_words.ExprOptions.{ExprOptions}
use Rattle.command_line.specs.declared.expr_words.Sign.{Sign}
use Rattle.run_endings.specs.Page.{StopsPrinting}
use Rattle.run_endings.specs.Status.{Ended, ended_by, with_want}
use Rattle.run_endings.specs.declared.fault.RunFault.{RunFault}
use Rattle.run_endings.specs.declared.fault.RunFault.TheVariants as faults
use Rattle.run_endings.specs.declared.finish.Run.{Run}
use Rattle.run_endings.specs.declared.run_file.Flaw.{Flaw}
use Rattle.run_endings.specs.declared.run_file.RunFile.{RunFile}
use Rattle.run_endings.specs.declared.run_file.RunFile.TheVariants.{Script, Rules, Dictionary}
use Rattle.skk_top.specs.Causes.{CommandFiles, typed_files, served_files, checked_file, learned_alone, learned_within}
use Rattle.skk_top.specs.Causes.{ComeToRowTooBig, expr_files, files_of, imported_file}
use Rattle.skk_top.specs.ShareCommand.{LeavesShared}
use Rattle.command_line.specs.declared.command.ShareOptions.{ShareOptions}
use Rattle.skk_top.specs.AskCommand.{Dialled, DialledFailed, LeavesAsked, StopsAsking, StopsDialling, asked_of}
use Rattle.skk_top.specs.AskCommand.{fault_of_flaw, reply_of}
use Rattle.skk_top.specs.Causes.{LackedRoom, HasRunCause, asked_server}
use Rattle.skk_top.specs.CheckCommand.{LeavesChecked}
use Rattle.skk_top.specs.Commands.{LeavesAlone, LeavesWaiting}
use Rattle.skk_top.specs.Dictionaries.{AreRowsOf, HasDictionaryFlaw}
use Rattle.skk_top.specs.Disks.{MovedDisk, RefusesLearned}
use Rattle.skk_top.specs.DumpCommand.{LeavesDumped}
use Rattle.skk_top.specs.ExprCommand.{ComeTo, LeavesExpr, RefusesRows, signs_of}
use Rattle.skk_top.specs.Failures.{HasFailed, HasLinkFailed}
use Rattle.skk_top.specs.ImportCommand.{LearnsRows, LearnsSo, LeavesImported, TellsCount, TellsImport}
use Rattle.skk_top.specs.LoadCommand.{LeavesLoaded, Loading, LoadsLines, LoadsTasks}
use Rattle.skk_top.specs.NamedFiles.{RefusesFiles}
use Rattle.skk_top.specs.RunFiles.{RefusesFile}
use Rattle.skk_top.specs.ServeCommand.{MovedListener, StopsServing, LeavesPort, wants_memory, LeavesServed}
use Rattle.skk_top.specs.TypeCommand.{HasScriptFlaw, LeavesTyped, Manner, TypesLines}
use Rattle.skk_top.specs.WeaveCommand.{WeavesLines}
use Rattle.skk_top.specs.declared.serving.Service.{Service}
use Rattle.skk_top.proofs.Asks.{heard-first}
use Rattle.skk_top.proofs.Dictionaries.{are_dictionaries}
use Rattle.caller_work.specs.DiskLaws.{counted-on}
use Rattle.skk_top.proofs.RunFiles.{each_fault, refuses-dictionaries}

-- Why calls were refused

-- a refusal for the disk had its cause
refused-rose : (time faults : ℕ) (notes : List Noted) (last_time last_faults : ℕ)
    → GoOn time faults notes last_time last_faults → has_answer lacks_disk (history_of notes) ≡ true
    → Rose faults last_faults
refused-rose time faults [] last_time last_faults on refused = absurd (cc)
refused-rose time faults (Opened files state end limit at count ∷ notes) last_time last_faults on refused =
    let rest = refused-rose at count notes last_time last_faults on.3 refused in omega (arith, on.1, rest)
refused-rose time faults (Entered number call (Refused refusals.Disk) at count ∷ notes) last_time last_faults on
    refused =
    let rest = counted-on at count notes last_time last_faults on.3 in omega (arith, on.2, rest)
refused-rose time faults (Entered number call (Refused refusals.Memory) at count ∷ notes) last_time last_faults on
    refused =
    let rest = refused-rose at count notes last_time last_faults on.3 refused in omega (arith, on.1, rest)
refused-rose time faults (Entered number call (Refused (refusals.JournalFull end need limit)) at count ∷ notes)
    last_time last_faults on refused =
    let rest = refused-rose at count notes last_time last_faults on.3 refused in omega (arith, on.1, rest)
refused-rose time faults (Entered number call (Done reply) at count ∷ notes) last_time last_faults on refused =
    let rest = refused-rose at count notes last_time last_faults on.3 refused in omega (arith, on.1, rest)

-- of a history with an answer that passes a test, an entry that has one, with those before it and behind it
record Has (test : Answer → Bool) (history : List Entry) : Type 0 where
  before : List Entry
  entry : Entry
  behind : List Entry
  parts : history ≡ before ++ entry ∷ behind
  passes : test entry.answer ≡ true

entry-with : (test : Answer → Bool) (history : List Entry) → has_answer test history ≡ true → Has test history
entry-with test [] some = absurd (cc)
entry-with test (entry ∷ history) some =
    elim (cases_Bool (test entry.answer)) [
      | inl own ↦ record { before = []; entry = entry; behind = history; parts = refl; passes = own }
      | inr none ↦
          let rest = entry-with test history
          (subst (λ (passes : Bool). (passes || has_answer test history) ≡ true) none some) in
          record {
            before = entry ∷ rest.before;
            entry = rest.entry;
            behind = rest.behind;
            parts = ap (λ h. entry ∷ h) rest.parts;
            passes = rest.passes;
          }
    ]

-- where a call was refused for want of room it was to change something, and lacked the room
lacked-at : (opening : Opening) (state : State) (call : Call) (given : Answer) → lacks_room given ≡ true
    → IsLegalAnswer LacksRoom opening state call given
    → (moves state call ≡ true) × (opening.limit < tight state + need state call)
lacked-at opening state call (Done reply) full legal = absurd (cc)
lacked-at opening state call (Refused refusals.Memory) full legal = absurd (cc)
lacked-at opening state call (Refused refusals.Disk) full legal = absurd (cc)
lacked-at opening state call (Refused (refusals.JournalFull end need limit)) full legal = (legal.0, legal.1.3)

lacked : (most : Option ℕ) (opening : Opening) (chronicle : List Noted) → IsLegalOver opening chronicle
    → most ≡ Some opening.limit → has_answer lacks_room (history_of chronicle) ≡ true → LackedRoom most chronicle
lacked most opening chronicle legal limit full =
    let has = entry-with lacks_room (history_of chronicle) full in
    let at = lacked-at opening _ has.entry.call has.entry.answer has.passes
    (legal.1 has.before has.entry has.behind has.parts) in
    record {
      opening = opening;
      opened = legal.0;
      limit = limit;
      before = has.before;
      entry = has.entry;
      behind = has.behind;
      parts = has.parts;
      change = at.0;
      lacks = at.1;
    }

-- where the last call of a history was refused for want of room, one was
full-last : (end needs limit : ℕ) (history : List Entry) → EndSo (Err (groups.Full end needs limit)) history
    → has_answer lacks_room history ≡ true
full-last end needs limit history (front, call, served, is) = ap (has_answer lacks_room) is ∙ behind front
  where
    last : Entry
    last = record { number = 0; call = call; answer = Refused (refusals.JournalFull end needs limit) }

    behind : (before : List Entry) → has_answer lacks_room (before ++ last ∷ []) ≡ true
    behind [] = refl
    behind (entry ∷ before) =
        or_right (lacks_room entry.answer) (has_answer lacks_room (before ++ last ∷ [])) (behind before)

-- The causes, fault by fault

-- what ends a run has what follows of its cause
by-cause : {P Q : RunFault → Type 0} (ended : Ended) → ((fault : RunFault) → P fault → Q fault) → IsErrAnd ended P
    → IfErr ended Q
by-cause (Ok done) follows cause = tt
by-cause (Err fault) follows cause = follows fault cause

module _ (files : CommandFiles) (disk : MovedDisk) (Failed : Type 0) (chronicle : List Noted) where
  abbrev Cause : RunFault → Type 0
  Cause = HasRunCause files disk Failed chronicle

  -- files that a command names are not had
  of-files : (count count' : ℕ) → (Rose count count' → Failed) → (fault : RunFault)
      → RefusesFiles files.rules files.dictionaries count count' fault → Cause fault
  of-files count count' failed (faults.Refused Rules flaw) cause = cause
  of-files count count' failed (faults.Refused (Dictionary number) flaw) cause = cause
  of-files count count' failed (faults.Refused Script flaw) cause = absurd cause
  of-files count count' failed faults.Outside cause = failed cause
  of-files count count' failed faults.Memory cause = tt
  of-files count count' failed faults.Words cause = absurd cause
  of-files count count' failed (faults.NotJournal file first) cause = absurd cause
  of-files count count' failed (faults.BadRecord file at) cause = absurd cause
  of-files count count' failed (faults.RowTooBig bytes) cause = absurd cause
  of-files count count' failed faults.JournalFull cause = absurd cause
  of-files count count' failed (faults.Reply flaw) cause = absurd cause
  of-files count count' failed faults.StampsEnd cause = absurd cause

  -- one file is not had
  of-file : (file : RunFile) (HasFlaw : Flaw → List ℕ → Type 0) (told : Told) (count count' : ℕ)
      → (Rose count count' → Failed)
      → ((flaw : Flaw) → IfSome told (HasFlaw flaw) → Cause (faults.Refused file flaw)) → (fault : RunFault)
      → RefusesFile file HasFlaw told count count' fault → Cause fault
  of-file file HasFlaw told count count' failed refuses (faults.Refused other flaw) cause =
      subst (λ (f : RunFile). Cause (faults.Refused f flaw)) (sym cause.0) (refuses flaw cause.1)
  of-file file HasFlaw told count count' failed refuses faults.Outside cause = failed cause
  of-file file HasFlaw told count count' failed refuses faults.Memory cause = tt
  of-file file HasFlaw told count count' failed refuses faults.Words cause = absurd cause
  of-file file HasFlaw told count count' failed refuses (faults.NotJournal number first) cause = absurd cause
  of-file file HasFlaw told count count' failed refuses (faults.BadRecord number at) cause = absurd cause
  of-file file HasFlaw told count count' failed refuses (faults.RowTooBig bytes) cause = absurd cause
  of-file file HasFlaw told count count' failed refuses faults.JournalFull cause = absurd cause
  of-file file HasFlaw told count count' failed refuses (faults.Reply flaw) cause = absurd cause
  of-file file HasFlaw told count count' failed refuses faults.StampsEnd cause = absurd cause

  -- the learned file is not had
  of-learned : IsSome files.learned → (Rose disk.before.faults disk.after.faults → Failed) → (fault : RunFault)
      → RefusesLearned disk fault → Cause fault
  of-learned some failed (faults.NotJournal file first) cause = (some, λ tells. (cause tells).0)
  of-learned some failed (faults.BadRecord file at) cause = (some, λ tells. (cause tells).0)
  of-learned some failed faults.Outside cause = failed cause
  of-learned some failed faults.Memory cause = tt
  of-learned some failed faults.Words cause = absurd cause
  of-learned some failed (faults.Refused file flaw) cause = absurd cause
  of-learned some failed (faults.RowTooBig bytes) cause = absurd cause
  of-learned some failed faults.JournalFull cause = absurd cause
  of-learned some failed (faults.Reply flaw) cause = absurd cause
  of-learned some failed faults.StampsEnd cause = absurd cause

  -- memory lacks
  of-memory : (fault : RunFault) → fault ≡ faults.Memory → Cause fault
  of-memory fault is = subst Cause (sym is) tt

  -- printing stops
  of-printing : (out : MovedSink) → (Rose out.faults out.faults' → Failed) → (fault : RunFault)
      → StopsPrinting out fault → Cause fault
  of-printing out failed faults.Outside cause = failed cause
  of-printing out failed faults.Memory cause = tt
  of-printing out failed faults.Words cause = absurd cause
  of-printing out failed (faults.Refused file flaw) cause = absurd cause
  of-printing out failed (faults.NotJournal file first) cause = absurd cause
  of-printing out failed (faults.BadRecord file at) cause = absurd cause
  of-printing out failed (faults.RowTooBig bytes) cause = absurd cause
  of-printing out failed faults.JournalFull cause = absurd cause
  of-printing out failed (faults.Reply flaw) cause = absurd cause
  of-printing out failed faults.StampsEnd cause = absurd cause

  -- what dictionaries come to is not printed
  of-rows : (signs : List Sign) (rows : List Row) → files.signs ≡ Some signs → ComeTo signs files.dictionaries rows
      → (fault : RunFault) → RefusesRows rows fault → Cause fault
  of-rows signs rows are come (faults.RowTooBig bytes) cause =
      subst (λ (s : Option (List Sign)). ComeToRowTooBig s files.dictionaries bytes) (sym are) (rows, come, cause)
  of-rows signs rows are come faults.Memory cause = tt
  of-rows signs rows are come faults.Outside cause = absurd cause
  of-rows signs rows are come faults.Words cause = absurd cause
  of-rows signs rows are come (faults.Refused file flaw) cause = absurd cause
  of-rows signs rows are come (faults.NotJournal file first) cause = absurd cause
  of-rows signs rows are come (faults.BadRecord file at) cause = absurd cause
  of-rows signs rows are come faults.JournalFull cause = absurd cause
  of-rows signs rows are come (faults.Reply flaw) cause = absurd cause
  of-rows signs rows are come faults.StampsEnd cause = absurd cause

  -- what was typed or served decides how a run ends, and else what its calls came to
  of-calls : (wanted : Bool) (opening : Opening) → IsLegalOver opening chronicle
      → files.learned ≡ Some opening.limit → disk.before.faults ≤ opening.faults
      → GoOn opening.time opening.faults chronicle disk.after.time disk.after.faults
      → (Rose disk.before.faults disk.after.faults → Failed) → (ended typed : Ended) → IfErr typed Cause
      → ended ≡ ended_by typed (with_want wanted (tally_of opening.state (history_of chronicle)))
      → IfErr ended Cause
  of-calls wanted opening legal limit counted on failed ended (Err fault) stopped is = rw is stopped
  of-calls wanted opening legal limit counted on failed ended (Ok done) stopped is =
      rw is
      (by (has_answer lacks_disk (history_of chronicle))
      (wanted || has_answer lacks_memory (history_of chronicle)) (has_answer lacks_room (history_of chronicle))
      (λ refused. failed (let rose = refused-rose opening.time opening.faults chronicle disk.after.time
      disk.after.faults on refused in omega (arith, counted, rose)))
      (lacked files.learned opening chronicle legal limit))
    where
      by : (disk_failed wants full : Bool) → (disk_failed ≡ true → Failed)
          → (full ≡ true → LackedRoom files.learned chronicle)
          → IfErr (ended_by (Ok done) (record (tally_of opening.state (history_of chronicle)) {
            disk = disk_failed;
            memory = wants;
            full = full;
          })) Cause
      by true wants full failed lacked = failed refl
      by false true full failed lacked = tt
      by false false true failed lacked = lacked refl
      by false false false failed lacked = tt

-- The causes of what each command leaves

module _ {D : Type 0} (run : Run D) (shelf : MovedShelf) (input : MovedSource) (out : MovedSink) (disk : MovedDisk)
    (Failed : Type 0) (fails : HasFailed shelf input out disk → Failed) where
  -- how it ended has its cause, by these files
  abbrev CausedBy : CommandFiles → Type 0
  CausedBy files = IfErr run.ended (HasRunCause files disk Failed run.chronicle)

  shelf-failed : Rose shelf.faults shelf.faults' → Failed
  shelf-failed rose = fails (inl rose)

  input-failed : Rose input.faults input.faults' → Failed
  input-failed rose = fails (inr (inl rose))

  out-failed : Rose out.faults out.faults' → Failed
  out-failed rose = fails (inr (inr (inl rose)))

  disk-failed : Rose disk.before.faults disk.after.faults → Failed
  disk-failed rose = fails (inr (inr (inr rose)))

  -- the learned file is not had
  unopened : (files : CommandFiles) → IsSome files.learned → IsErrAnd run.ended (RefusesLearned disk) → CausedBy files
  unopened files some = by-cause run.ended (of-learned files disk Failed run.chronicle some disk-failed)

  -- there is no memory to begin
  without-memory : (files : CommandFiles) → IsErrAnd run.ended (λ fault. fault ≡ faults.Memory) → CausedBy files
  without-memory files = by-cause run.ended (of-memory files disk Failed run.chronicle)

  -- files that are named are not had
  unread : (files : CommandFiles)
      → IsErrAnd run.ended (RefusesFiles files.rules files.dictionaries shelf.faults shelf.faults') → CausedBy files
  unread files =
      by-cause run.ended (of-files files disk Failed run.chronicle shelf.faults shelf.faults' shelf-failed)

  -- calls over an opening
  called : (files : CommandFiles) (wanted : Bool) (opening : Opening) → IsLegalOver opening run.chronicle
      → files.learned ≡ Some opening.limit → disk.before.faults ≤ opening.faults
      → GoOn opening.time opening.faults run.chronicle disk.after.time disk.after.faults
      → (typed : Ended)
      → run.ended ≡ ended_by typed (with_want wanted (tally_of opening.state (history_of run.chronicle)))
      → IfErr typed (HasRunCause files disk Failed run.chronicle) → CausedBy files
  called files wanted opening legal limit counted on typed ends stopped =
      of-calls files disk Failed run.chronicle wanted opening legal limit counted on disk-failed run.ended typed
      stopped ends

  printed : (files : CommandFiles) (typed : Ended) → IfErr typed (StopsPrinting out)
      → IfErr typed (HasRunCause files disk Failed run.chronicle)
  printed files typed = each_fault typed (of-printing files disk Failed run.chronicle out out-failed)

  -- the typing of a script
  script-caused : (Lines : Manner D) (options : TypeOptions)
      → ((opening : Opening) (rules : List Rule) (lines : List Line) → limit_of options.limit ≡ opening.limit
      → disk.before.faults ≤ opening.faults → Lines opening rules lines run out disk.after
      → CausedBy (typed_files shelf input options))
      → LeavesTyped Lines options run shelf input out disk
      → CausedBy (typed_files shelf input options)
  script-caused Lines options by leaves =
      let files = typed_files shelf input options in
      elim leaves [
        | inl ends ↦ unread files ends.0.cause
        | inr named ↦ elim named.typed [
          | inl refused ↦ unopened files refl refused.0.cause
          | inr opened ↦ elim opened.typed [
            | inl ends ↦ by-cause run.ended
                (of-file files disk Failed run.chronicle Script HasScriptFlaw input.left input.faults
                input.faults' input-failed (λ flaw has. has)) ends.cause
            | inr script ↦ elim script.typed [
              | inl none ↦ without-memory files none.cause
              | inr lines ↦ by opened.opening named.rules script.lines (sym opened.opened.limit)
                  opened.opened.counted lines
            ]
          ]
        ]
      ]

  -- by one caller, and by a caller for each session
  caused-typed : (options : TypeOptions) → LeavesTyped TypesLines options run shelf input out disk
      → CausedBy (typed_files shelf input options)
  caused-typed options =
      let files = typed_files shelf input options in
      script-caused TypesLines options (λ opening rules lines limit counted left.
      called files false opening left.chronicle.legal (ap Some limit) counted left.kept.goes_on left.ended left.ends
      (printed files left.ended left.prints.stopped))

  caused-woven : (options : TypeOptions) → LeavesTyped WeavesLines options run shelf input out disk
      → CausedBy (typed_files shelf input options)
  caused-woven options =
      let files = typed_files shelf input options in
      script-caused WeavesLines options (λ opening rules lines limit counted left.
      called files false opening left.chronicle.legal (ap Some limit) counted left.kept.goes_on left.ended left.ends
      (printed files left.ended left.prints.stopped))

  -- the file of `check`
  caused-checked : (name : List ℕ) → LeavesChecked name run shelf out → CausedBy (checked_file shelf name)
  caused-checked name leaves =
      let files = checked_file shelf name in
      elim leaves [
        | inl ends ↦ by-cause run.ended
            (of-file files disk Failed run.chronicle (Dictionary 1) HasDictionaryFlaw (shelf.file name)
            shelf.faults shelf.faults' shelf-failed (λ flaw has. (
              (standard, refl),
              ([], [], shelf.file name, refl, refl, are_dictionaries [] [] tt, has),
            ))) ends.cause
        | inr prints ↦ printed files run.ended prints.printed.stopped
      ]

  -- the dictionaries that are put together
  caused-put : (options : ExprOptions) → LeavesExpr options run shelf out → CausedBy (expr_files shelf options)
  caused-put options leaves =
      let files = expr_files shelf options in
      elim leaves [
        | inl ends ↦ by-cause run.ended (λ fault refused.
            of-files files disk Failed run.chronicle shelf.faults shelf.faults' shelf-failed fault
            (refuses-dictionaries None files.dictionaries standard shelf.faults shelf.faults shelf.faults' fault refl
            (omega arith) refused)) ends.cause
        | inr put ↦ elim put.left [
          | inl refused ↦ by-cause run.ended
              (of-rows files disk Failed run.chronicle (signs_of options) put.rows refl put.come_to) refused.cause
          | inr prints ↦ printed files run.ended prints.printed.stopped
        ]
      ]

  -- the book that is printed
  caused-dumped : (options : DumpOptions) → LeavesDumped options run out disk → CausedBy learned_alone
  caused-dumped options leaves =
      elim leaves [
        | inl refused ↦ unopened learned_alone refl refused.cause
        | inr prints ↦ printed learned_alone run.ended prints.printed.stopped
      ]

  -- the list of books that is given
  caused-given : (options : ShareOptions) → LeavesShared options run out disk
      → CausedBy (learned_within options.limit)
  caused-given options leaves =
      let files = learned_within options.limit in
      elim leaves [
        | inl refused ↦ unopened files refl refused.cause
        | inr opened ↦ elim opened.shared [
          | inl none ↦ without-memory files none.cause
          | inr left ↦
              called files false opened.opening left.chronicle.legal (ap Some (sym opened.opened.limit))
              opened.opened.counted left.kept.goes_on left.ended left.ends
              (printed files left.ended left.prints.stopped)
        ]
      ]

  -- the count of the candidates that were learnt, which is printed or was to be
  counted-caused : (files : CommandFiles) (count : ℕ) (left : Ended)
      → IfErr left (HasRunCause files disk Failed run.chronicle) → TellsCount count left run.ended out → CausedBy files
  counted-caused files count left caused (Ok done, prints, is) =
      subst (λ (ended : Ended). IfErr ended (HasRunCause files disk Failed run.chronicle)) (sym is) caused
  counted-caused files count left caused (Err fault, stops, is) =
      subst (λ (ended : Ended). IfErr ended (HasRunCause files disk Failed run.chronicle)) (sym is)
      (printed files (Err fault) stops.stopped)

  -- the candidates of a dictionary that are learnt
  learns-caused : (options : ImportOptions) (rows : List Row) (opening : Opening)
      → AreRowsOf (rows ∷ []) (shelf.file options.file ∷ []) → limit_of options.limit ≡ opening.limit
      → disk.before.faults ≤ opening.faults → LearnsRows options.book rows opening run out disk.after
      → CausedBy (imported_file shelf options)
  learns-caused options rows opening read limit counted learns = by learns.done learns.learns learns.failed learns.tells
    where
      files : CommandFiles
      files = imported_file shelf options

      Cause : RunFault → Type 0
      Cause = HasRunCause files disk Failed run.chronicle

      count : ℕ
      count = (tally_of opening.state (history_of run.chronicle)).learned

      by : (done : Result (Unit {0}) ImportFault) → LearnsSo options.book rows opening run.chronicle done
          → (done ≡ Err (imports.Refused groups.Disk) → Rose opening.faults disk.after.faults)
          → TellsImport done count run.ended out → CausedBy files
      by (Ok all) learnt failed tells = counted-caused files count (Ok tt) tt tells
      by (Err imports.StampsEnd) learnt failed tells =
          subst (λ (ended : Ended). IfErr ended Cause) (sym tells.0) (opening, learns.legal.0, rows, read, learnt.0)
      by (Err (imports.Refused groups.Memory)) learnt failed tells =
          subst (λ (ended : Ended). IfErr ended Cause) (sym tells.0) tt
      by (Err (imports.Refused groups.Disk)) learnt failed tells =
          subst (λ (ended : Ended). IfErr ended Cause) (sym tells.0)
          (disk-failed (let rose = failed refl in omega (arith, counted, rose)))
      by (Err (imports.Refused (groups.Full end need most))) learnt failed tells =
          counted-caused files count (Err faults.JournalFull)
          (lacked files.learned opening run.chronicle learns.legal (ap Some limit)
          (full-last end need most (history_of run.chronicle) learnt.2)) tells

  -- what a run of `import` leaves
  caused-imported : (options : ImportOptions) → LeavesImported options run shelf out disk
      → CausedBy (imported_file shelf options)
  caused-imported options leaves =
      let files = imported_file shelf options in
      elim leaves [
        | inl ends ↦ by-cause run.ended (λ fault refused.
            of-files files disk Failed run.chronicle shelf.faults shelf.faults' shelf-failed fault
            (refuses-dictionaries None files.dictionaries standard shelf.faults shelf.faults shelf.faults' fault refl
            (omega arith) refused)) ends.cause
        | inr read ↦ elim read.imported [
          | inl refused ↦ unopened files refl refused.cause
          | inr opened ↦ elim opened.learnt [
            | inl none ↦ without-memory files none.cause
            | inr learns ↦
                learns-caused options read.rows opened.opening read.read (sym opened.opened.limit)
                opened.opened.counted learns
          ]
        ]
      ]

  -- the lines of a load
  load-caused : (Lines : Loading D)
      → ((opening : Opening) → learned_alone.learned ≡ Some opening.limit → disk.before.faults ≤ opening.faults
      → Lines opening run out disk.after → CausedBy learned_alone)
      → LeavesLoaded Lines run out disk → CausedBy learned_alone
  load-caused Lines by leaves =
      elim leaves [
        | inl refused ↦ unopened learned_alone refl refused.cause
        | inr opened ↦ elim opened.played [
          | inl none ↦ without-memory learned_alone none.cause
          | inr left ↦ by opened.opening (ap Some (sym opened.opened.limit)) opened.opened.counted left
        ]
      ]

  -- by one caller, and by a caller for each session
  caused-loaded : (options : LoadOptions) → LeavesLoaded (LoadsLines options) run out disk
      → CausedBy learned_alone
  caused-loaded options =
      load-caused (LoadsLines options) (λ opening limit counted left.
      called learned_alone false opening left.chronicle.legal limit counted left.kept.goes_on left.ended left.ends
      (printed learned_alone left.ended left.prints.stopped))

  caused-shared : (options : LoadOptions) → LeavesLoaded (LoadsTasks options) run out disk
      → CausedBy learned_alone
  caused-shared options =
      load-caused (LoadsTasks options) (λ opening limit counted left.
      called learned_alone false opening left.chronicle.legal limit counted left.kept.goes_on left.ended left.ends
      (printed learned_alone left.ended left.prints.stopped))

  -- the connections of a port, where a call on the listener may have failed too
  module _ {L : Type 0} (net : MovedListener L) (net-failed : Rose net.faults net.faults' → Failed) where
    serving-stopped : (fault : RunFault) → StopsServing out net fault → (files : CommandFiles)
        → HasRunCause files disk Failed run.chronicle fault
    serving-stopped faults.Outside (inl rose) files = out-failed rose
    serving-stopped faults.Outside (inr rose) files = net-failed rose
    serving-stopped faults.Memory cause files = tt
    serving-stopped faults.Words cause files = absurd cause
    serving-stopped (faults.Refused file flaw) cause files = absurd cause
    serving-stopped (faults.NotJournal file first) cause files = absurd cause
    serving-stopped (faults.BadRecord file at) cause files = absurd cause
    serving-stopped (faults.RowTooBig bytes) cause files = absurd cause
    serving-stopped faults.JournalFull cause files = absurd cause
    serving-stopped (faults.Reply flaw) cause files = absurd cause
    serving-stopped faults.StampsEnd cause files = absurd cause

    port-stopped : (service : Service) (visits : List (Visit L)) (served : Ended) (files : CommandFiles)
        → LeavesPort service visits served out net → IfErr served (HasRunCause files disk Failed run.chronicle)
    port-stopped service visits served files (inl lacks) =
        subst (λ (ended : Ended). IfErr ended (HasRunCause files disk Failed run.chronicle)) (sym lacks.ends)
        (net-failed lacks.failed)
    port-stopped service visits served files (inr serves) =
        each_fault served (λ fault cause. serving-stopped fault cause files) serves.stopped

    caused-served : (options : ServeOptions) → LeavesServed options run shelf out net disk
        → CausedBy (served_files shelf options)
    caused-served options leaves =
        let files = served_files shelf options in
        let service : Service = record { port = options.port; connections = options.connections } in
        elim leaves [
          | inl ends ↦ unread files ends.0.0.cause
          | inr named ↦ elim named.served [
            | inl refused ↦ unopened files refl refused.0.cause
            | inr opened ↦ elim opened.served [
              | inl none ↦ without-memory files none.0.cause
              | inr left ↦
                  called files (list_any (λ (visit : Visit L). wants_memory visit.end) left.visits) opened.opening
                  left.chronicle.legal (ap Some (sym opened.opened.limit)) opened.opened.counted left.kept.goes_on
                  left.served left.ends (port-stopped service left.visits left.served files left.port)
            ]
          ]
        ]

    -- a server that is asked, where a call on its link may have failed too
    dialling-stopped : (files : CommandFiles) (fault : RunFault) → StopsDialling net fault
        → HasRunCause files disk Failed run.chronicle fault
    dialling-stopped files faults.Outside cause = net-failed cause
    dialling-stopped files faults.Memory cause = tt
    dialling-stopped files faults.Words cause = absurd cause
    dialling-stopped files (faults.Refused file flaw) cause = absurd cause
    dialling-stopped files (faults.NotJournal file first) cause = absurd cause
    dialling-stopped files (faults.BadRecord file at) cause = absurd cause
    dialling-stopped files (faults.RowTooBig bytes) cause = absurd cause
    dialling-stopped files faults.JournalFull cause = absurd cause
    dialling-stopped files (faults.Reply flaw) cause = absurd cause
    dialling-stopped files faults.StampsEnd cause = absurd cause

    asking-stopped : (options : AskOptions) (link link' : L) → Dialled link link' net → (DialledFailed net → Failed)
        → (fault : RunFault)
        → StopsAsking (asked_of options.question) (moved_link net.links link link') out fault
        → HasRunCause (asked_server (reply_of net) options) disk Failed run.chronicle fault
    asking-stopped options link link' dialled failed faults.Outside (inl rose) =
        failed (record { link = link; link' = link'; dialled = dialled; failed = rose })
    asking-stopped options link link' dialled failed faults.Outside (inr rose) = out-failed rose
    asking-stopped options link link' dialled failed faults.Memory cause = tt
    asking-stopped options link link' dialled failed (faults.Reply flaw) cause =
        heard-first net.links net.coming net.coming' link (asked_of options.question) (Err (fault_of_flaw flaw))
        dialled.comes cause
    asking-stopped options link link' dialled failed faults.Words cause = absurd cause
    asking-stopped options link link' dialled failed (faults.Refused file flaw) cause = absurd cause
    asking-stopped options link link' dialled failed (faults.NotJournal file first) cause = absurd cause
    asking-stopped options link link' dialled failed (faults.BadRecord file at) cause = absurd cause
    asking-stopped options link link' dialled failed (faults.RowTooBig bytes) cause = absurd cause
    asking-stopped options link link' dialled failed faults.JournalFull cause = absurd cause
    asking-stopped options link link' dialled failed faults.StampsEnd cause = absurd cause

    caused-asked : (options : AskOptions) → (DialledFailed net → Failed) → LeavesAsked options run.ended out net
        → CausedBy (asked_server (reply_of net) options)
    caused-asked options failed leaves =
        elim leaves [
          | inl lacks ↦ by-cause run.ended (dialling-stopped (asked_server (reply_of net) options)) lacks.cause
          | inr asks ↦
              each_fault run.ended (asking-stopped options asks.link asks.link' asks.dialled failed) asks.asks.stopped
        ]

    -- each command that may wait
    pub caused-waiting : (command : WaitingCommand) → (HasLinkFailed command net → Failed)
        → LeavesWaiting command run shelf input out net disk
        → CausedBy (files_of shelf input (reply_of net) (Waiting command))
    caused-waiting (waiting.TypeScript options) failed leaves = caused-woven options leaves.0
    caused-waiting (waiting.Serve options) failed leaves = caused-served options leaves.0
    caused-waiting (waiting.Load options) failed leaves = caused-shared options leaves.0
    caused-waiting (waiting.Ask options) failed leaves = caused-asked options failed leaves.0

  -- each command that waits for nobody
  pub caused-alone : (command : AloneCommand) → LeavesAlone command run shelf input out disk
      → CausedBy (files_of shelf input None (Alone command))
  caused-alone (alone.TypeScript options) leaves = caused-typed options leaves
  caused-alone (alone.Check name) leaves = caused-checked name leaves.0
  caused-alone (alone.Dump options) leaves = caused-dumped options leaves.0
  caused-alone (alone.Share options) leaves = caused-given options leaves.0
  caused-alone (alone.Load options) leaves = caused-loaded options leaves.0
  caused-alone (alone.Expr options) leaves = caused-put options leaves.0
  caused-alone (alone.Import options) leaves = caused-imported options leaves.0

-- a run that ended since a call on the outside failed, with its cause, had one that failed
pub caused-outside : (Cause : RunFault → Type 0) (ended : Ended) → IsErrOf ended faults.Outside → IfErr ended Cause
    → Cause faults.Outside
caused-outside Cause ended is caused = subst (λ (e : Ended). IfErr e Cause) is caused
