-- Why runs end: each fault that a run may end with, and its cause.
use Rattle.std.specs.Prelude.{◌≡◌, ⊤, ◌+◌, ◌<◌, ℕ, true, Option, None, Some, IsSome, Err, List, [], ◌∷◌, ◌++◌}
use Rattle.skk_outside.specs.Moved.{Told, MovedShelf, MovedSource}
use Rattle.skk_text.specs.Counts.{last_count}
use Rattle.skk_calls.specs.Rows.{Row}
use Rattle.skk_calls.specs.States.{count_of}
use Rattle.romaji_rules.specs.declared.rule.Rule.{Rule}
use Rattle.skk_calls.specs.declared.chronicle.Noted.{Noted}
use Rattle.skk_calls.specs.declared.entry.Entry.{Entry}
use Rattle.skk_calls.specs.Chronicles.{opening_of, history_of}
use Rattle.skk_calls.specs.Dictionary.{moves}
use Rattle.skk_calls.specs.Histories.{Opening, state_after, tight, need}
use Rattle.skk_journal.specs.declared.fault.OpenFault.TheVariants as opens
use Rattle.learned_store.specs.Payloads.{newest_version}
use Rattle.learned_store.specs.Recovered.{IsRefused}
use Rattle.batch_store.specs.Imports.{stamps_taken}
use Rattle.command_line.specs.Command.{limit_of}
use Rattle.command_line.specs.declared.command.AloneCommand.TheVariants as alone
use Rattle.command_line.specs.declared.command.AskOptions.{AskOptions}
use Rattle.command_line.specs.declared.command.Command.{Command}
use Rattle.command_line.specs.declared.command.Command.TheVariants.{Alone, Waiting}
use Rattle.command_line.specs.declared.command.ImportOptions.{ImportOptions}
use Rattle.command_line.specs.declared.command.ServeOptions.{ServeOptions}
use Rattle.command_line.specs.declared.command.TypeOptions.{TypeOptions}
use Rattle.command_line.specs.declared.command.WaitingCommand.TheVariants as waiting
use Rattle.command_line.specs.declared.expr_words.ExprOptions.{ExprOptions}
use Rattle.command_line.specs.declared.expr_words.Sign.{Sign}
use Rattle.run_endings.specs.declared.fault.RunFault.{RunFault}
use Rattle.run_endings.specs.declared.fault.RunFault.TheVariants as faults
use Rattle.run_endings.specs.declared.run_file.RunFile.TheVariants.{Script, Rules, Dictionary}
use Rattle.run_endings.specs.declared.reply_flaw.ReplyFlaw.{ReplyFlaw}
use Rattle.skkserv_client.specs.declared.question.Ask.{Ask}
use Rattle.skkserv_client.specs.Hearing.{HearsReply}
use Rattle.skk_top.specs.AskCommand.{asked_of, fault_of_flaw}
use Rattle.skk_top.specs.Dictionaries.{AreRowsOf, HasDictionaryFlaw, IsFirst}
use Rattle.skk_top.specs.Disks.{MovedDisk}
use Rattle.skk_top.specs.ExprCommand.{ComeTo, HasRowTooBig, names_of, signs_of}
use Rattle.skk_top.specs.NamedFiles.{rules_named, dictionaries_named}
use Rattle.skk_top.specs.RunRules.{AreRules, HasRulesFlaw, IsNamed}
use Rattle.skk_top.specs.TypeCommand.{HasScriptFlaw}

-- the files of a command: the script, the rules and the dictionaries, as far as they are told, the signs of the
-- dictionaries behind the first, where the command puts them together, and the most bytes of a learned file, where it
-- opens one; what it asks a server for, with the reply; and the book into which it learns the dictionary
pub record CommandFiles : Type 0 where
  pub script : Option Told
  pub rules : Option Told
  pub dictionaries : List Told
  pub signs : Option (List Sign)
  pub learned : Option ℕ
  pub server : Option (Ask × Told)
  pub into : Option ℕ

-- the files of a script that is typed by some options: the input is the script
abbrev pub typed_files : MovedShelf → MovedSource → TypeOptions → CommandFiles
typed_files shelf input options = record {
  script = Some input.left;
  rules = rules_named options.rules shelf;
  dictionaries = dictionaries_named options.dictionaries.items shelf;
  signs = None;
  learned = Some (limit_of options.limit);
  server = None;
  into = None;
}

-- the files of a port that is served by some options
abbrev pub served_files : MovedShelf → ServeOptions → CommandFiles
served_files shelf options = record {
  script = None;
  rules = rules_named options.rules shelf;
  dictionaries = dictionaries_named options.dictionaries.items shelf;
  signs = None;
  learned = Some (limit_of options.limit);
  server = None;
  into = None;
}

-- no file but the one that is checked, which is the first dictionary
abbrev pub checked_file : MovedShelf → List ℕ → CommandFiles
checked_file shelf name =
    record {
      script = None;
      rules = None;
      dictionaries = shelf.file name ∷ [];
      signs = None;
      learned = None;
      server = None;
      into = None;
    }

-- the dictionaries that are put together by some options
abbrev pub expr_files : MovedShelf → ExprOptions → CommandFiles
expr_files shelf options = record {
  script = None;
  rules = None;
  dictionaries = dictionaries_named (names_of options) shelf;
  signs = Some (signs_of options);
  learned = None;
  server = None;
  into = None;
}

-- no file but the learned one, of this limit, or of the greatest where none is given
abbrev pub learned_within : Option ℕ → CommandFiles
learned_within limit =
    record {
      script = None;
      rules = None;
      dictionaries = [];
      signs = None;
      learned = Some (limit_of limit);
      server = None;
      into = None;
    }

-- no file but the learned one, of the greatest limit
abbrev pub learned_alone : CommandFiles
learned_alone = learned_within None

-- the dictionary that is learnt by some options, and the learned file
abbrev pub imported_file : MovedShelf → ImportOptions → CommandFiles
imported_file shelf options = record {
  script = None;
  rules = None;
  dictionaries = shelf.file options.file ∷ [];
  signs = None;
  learned = Some (limit_of options.limit);
  server = None;
  into = Some options.book;
}

-- no file, but a server that is asked and sends this
abbrev pub asked_server : Told → AskOptions → CommandFiles
asked_server reply options = record {
  script = None;
  rules = None;
  dictionaries = [];
  signs = None;
  learned = None;
  server = Some (asked_of options.question, reply);
  into = None;
}

-- the files of a command, or the server that it asks, which sends this reply
abbrev pub files_of : MovedShelf → MovedSource → Told → Command → CommandFiles
files_of shelf input reply (Alone (alone.TypeScript options)) = typed_files shelf input options
files_of shelf input reply (Alone (alone.Check name)) = checked_file shelf name
files_of shelf input reply (Alone (alone.Dump options)) = learned_alone
files_of shelf input reply (Alone (alone.Share options)) = learned_within options.limit
files_of shelf input reply (Alone (alone.Load options)) = learned_alone
files_of shelf input reply (Alone (alone.Expr options)) = expr_files shelf options
files_of shelf input reply (Alone (alone.Import options)) = imported_file shelf options
files_of shelf input reply (Waiting (waiting.TypeScript options)) = typed_files shelf input options
files_of shelf input reply (Waiting (waiting.Serve options)) = served_files shelf options
files_of shelf input reply (Waiting (waiting.Load options)) = learned_alone
files_of shelf input reply (Waiting (waiting.Ask options)) = asked_server reply options

-- some call of a chronicle was to change something, and at its place the learned file, which may have so many bytes,
-- had no room for that, also where it held nothing but the state
pub record LackedRoom (most : Option ℕ) (chronicle : List Noted) : Type 0 where
  pub opening : Opening
  pub opened : opening_of chronicle ≡ Some opening
  pub limit : most ≡ Some opening.limit
  pub before : List Entry
  pub entry : Entry
  pub behind : List Entry
  pub parts : history_of chronicle ≡ before ++ entry ∷ behind
  pub change : moves (state_after opening.state before) entry.call ≡ true
  pub lacks : opening.limit
      < tight (state_after opening.state before) + need (state_after opening.state before) entry.call

-- what dictionaries come to by these signs, where there are such, has a row too big, the first of so many bytes
abbrev pub ComeToRowTooBig : Option (List Sign) → List Told → ℕ → Type 0
ComeToRowTooBig None files bytes = ⊥
ComeToRowTooBig (Some signs) files bytes = (rows : List Row) × ComeTo signs files rows × HasRowTooBig rows bytes

-- the reply of a server that is asked has a flaw, as far as it is told
abbrev pub HasReplyFlaw : ReplyFlaw → Option (Ask × Told) → Type 0
HasReplyFlaw flaw None = ⊥
HasReplyFlaw flaw (Some (what, reply)) = HearsReply reply what (Err (fault_of_flaw flaw))

-- a book, where there is one, had not as many stamps left at the opening of a chronicle as the candidates of the
-- dictionaries need that are learnt into it
abbrev pub LackedStamps : Option ℕ → List Told → List Noted → Type 0
LackedStamps None files chronicle = ⊥
LackedStamps (Some book) files chronicle =
    (opening : Opening) × (opening_of chronicle ≡ Some opening)
    × (rows : List Row) × AreRowsOf (rows ∷ []) files
    × (last_count < stamps_taken (count_of opening.state book) book rows)

-- the cause of a fault that a run of a command ended with, over these files and this disk, by whether a call on the
-- outside failed, and by its chronicle; what is not told may have any flaw, and for want of memory no cause is asked
abbrev pub HasRunCause : CommandFiles → MovedDisk → Type 0 → List Noted → RunFault → Type 0
HasRunCause files disk Failed chronicle faults.Words = ⊥
HasRunCause files disk Failed chronicle (faults.Refused Script flaw) = IsNamed files.script (HasScriptFlaw flaw)
HasRunCause files disk Failed chronicle (faults.Refused Rules flaw) = IsNamed files.rules (HasRulesFlaw flaw)
HasRunCause files disk Failed chronicle (faults.Refused (Dictionary number) flaw) =
    ((rules : List Rule) × AreRules files.rules rules) × IsFirst (HasDictionaryFlaw flaw) number files.dictionaries
HasRunCause files disk Failed chronicle (faults.NotJournal file first) =
    IsSome files.learned × (disk.tells → IsRefused disk.seen (opens.NotJournal file first))
HasRunCause files disk Failed chronicle (faults.BadRecord file at) =
    IsSome files.learned × (disk.tells → IsRefused disk.seen (opens.BadRecord file at newest_version []))
HasRunCause files disk Failed chronicle (faults.RowTooBig bytes) =
    ComeToRowTooBig files.signs files.dictionaries bytes
HasRunCause files disk Failed chronicle faults.Outside = Failed
HasRunCause files disk Failed chronicle faults.Memory = ⊤
HasRunCause files disk Failed chronicle faults.JournalFull = LackedRoom files.learned chronicle
HasRunCause files disk Failed chronicle (faults.Reply flaw) = HasReplyFlaw flaw files.server
HasRunCause files disk Failed chronicle faults.StampsEnd = LackedStamps files.into files.dictionaries chronicle
