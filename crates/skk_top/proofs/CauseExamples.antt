-- The causes of faults at small examples, each worked out by hand: of each fault one cause, and beside it what is none.
use Rattle.std.proofs.Common.{◌≡◌, ◌<◌, ℕ, ◌+◌, true, Option, None, Some, List, [], ◌∷◌, ◌++◌, codes, inl, inr, refl}
use Rattle.std.proofs.Common.{◌∙◌, ap, sym, subst, length, map, replicate, arith, lit≤, IfSome}
use Rattle.std.specs.Prelude.{unwrap_or}
use Rattle.std.specs.Option.{option_map}
use lib.Utf8.{encode}
use Rattle.std.proofs.lemmas.Bool.{false≢true}
use Rattle.std.specs.Str.{IsUtf8, is_utf8, chars}
use Rattle.std.specs.Str.Lossy.{utf8_valid_len}
use Rattle.std.proofs.lemmas.Str.{is_utf8-from_IsUtf8}
use Rattle.skk_text.specs.TextFiles.{IsTextFault}
use Rattle.skk_text.specs.declared.text_file.TextFault.TheVariants as texts
use Rattle.skk_outside.specs.Moved.{Told, MovedShelf, MovedSource}
use Rattle.romaji_rules.specs.Standard.{standard}
use Rattle.skk_calls.specs.declared.answer.Answer.TheVariants.{Refused}
use Rattle.skk_calls.specs.declared.answer.Refusal.TheVariants as refusals
use Rattle.skk_calls.specs.declared.call.Call.{Call}
use Rattle.skk_calls.specs.declared.call.Call.TheVariants.{Learn, Lookup}
use Rattle.skk_calls.specs.declared.chronicle.Noted.{Noted}
use Rattle.skk_calls.specs.declared.chronicle.Noted.TheVariants.{Opened, Entered}
use Rattle.skk_calls.specs.declared.entry.Entry.{Entry}
use Rattle.skk_calls.specs.declared.part.Part.TheVariants.{Nasi}
use Rattle.skk_calls.specs.Dictionary.{line_length, moves}
use Rattle.skk_calls.specs.Histories.{Opening, state_after, tight, need}
use Rattle.skk_calls.specs.Rows.{Row, RowKey}
use Rattle.skk_calls.specs.States.{State, empty_state}
use Rattle.skk_disk.specs.Image.{Image}
use Rattle.skk_disk.specs.declared.which.Which.TheVariants.{A}
use Rattle.skk_journal.specs.declared.fault.OpenFault.TheVariants as opens
use Rattle.learned_store.specs.Recovered.{IsRefused}
use Rattle.dict_format.specs.FileLines.{Lists, none_listed}
use Rattle.dict_format.specs.declared.file.Listed.{Listed}
use Rattle.dict_expr.specs.Books.{first_too_big}
use Rattle.skk_text.specs.Lines.{lines_of}
use Rattle.key_scripts.specs.Script.{Spells, IsFirstBad}
use Rattle.key_scripts.specs.declared.line.Line as script_line
use Rattle.key_scripts.specs.declared.line.Line.TheVariants as lines
use Rattle.command_line.specs.declared.command.AloneCommand.TheVariants as alone
use Rattle.command_line.specs.declared.command.AskOptions.{AskOptions}
use Rattle.command_line.specs.declared.command.Question.TheVariants as questions
use Rattle.command_line.specs.declared.command.Command.TheVariants.{Alone, Waiting}
use Rattle.command_line.specs.declared.command.LoadOptions.{LoadOptions}
use Rattle.command_line.specs.declared.command.TypeOptions.{TypeOptions}
use Rattle.command_line.specs.declared.command.WaitingCommand.TheVariants as waiting
use Rattle.command_line.specs.declared.expr_words.Sign.{Sign}
use Rattle.command_line.specs.declared.expr_words.Sign.TheVariants.{Plus, Minus}
use Rattle.run_endings.specs.declared.fault.RunFault.{RunFault}
use Rattle.run_endings.specs.declared.fault.RunFault.TheVariants as faults
use Rattle.run_endings.specs.declared.run_file.Flaw.TheVariants.{TooLong, Byte, Line}
use Rattle.run_endings.specs.declared.run_file.RunFile.TheVariants.{Script, Rules, Dictionary}
use Rattle.run_endings.specs.declared.reply_flaw.ReplyFlaw.TheVariants as flaws
use Rattle.skkserv_client.specs.declared.question.Ask.TheVariants.{Look, Complete}
use Rattle.skkserv_client.specs.Replies.{line_of, told_by, told_by_line}
use Rattle.skk_top.specs.Causes.{CommandFiles, asked_server, files_of, LackedRoom, HasRunCause}
use Rattle.skk_top.specs.Disks.{MovedDisk}
use Rattle.skk_top.proofs.Dictionaries.{are_dictionaries}

-- The files of commands

-- each file holds its name, and the input another text
abbrev shelf : MovedShelf
shelf = record { file = λ name. Some name; faults = 3; faults' = 3 }

abbrev input : MovedSource
input = record { left = Some (codes "input"); left' = Some []; faults = 3; faults' = 3 }

-- and a server sends this
abbrev reply : Told
reply = Some (codes "reply")

abbrev two_names : List (List ℕ)
two_names = codes "first" ∷ codes "second" ∷ []

-- the files of a script are the same in threads, and so are those of a load
abbrev typing : TypeOptions
typing = record {
  dictionaries = record { items = two_names };
  rules = Some (codes "rules");
  learned = Some (codes "learned");
  limit = Some 64;
}

typed : map (files_of shelf input reply) (Alone (alone.TypeScript typing) ∷ Waiting (waiting.TypeScript typing) ∷ [])
    ≡ replicate 2 (record {
      script = Some (Some (codes "input"));
      rules = Some (Some (codes "rules"));
      dictionaries = Some (codes "first") ∷ Some (codes "second") ∷ [];
      signs = None;
      learned = Some 64;
      server = None;
      into = None;
    })
typed = refl

served : files_of shelf input reply (Waiting (waiting.Serve (record {
  learned = codes "learned";
  dictionaries = record { items = two_names };
  rules = None;
  limit = None;
  port = 1178;
  connections = 1;
}))) ≡ record {
  script = None;
  rules = None;
  dictionaries = Some (codes "first") ∷ Some (codes "second") ∷ [];
  signs = None;
  learned = Some 268435456;
  server = None;
  into = None;
}
served = refl

checked : files_of shelf input reply (Alone (alone.Check (codes "first")))
    ≡ record {
      script = None;
      rules = None;
      dictionaries = Some (codes "first") ∷ [];
      signs = None;
      learned = None;
      server = None;
      into = None;
    }
checked = refl

-- of dictionaries that are put together, the first has no sign
put_together : files_of shelf input reply (Alone (alone.Expr (record {
  first = codes "first";
  terms = record {
    items = record { sign = Minus; name = codes "second" } ∷ record { sign = Plus; name = codes "third" } ∷ [];
  };
}))) ≡ record {
  script = None;
  rules = None;
  dictionaries = Some (codes "first") ∷ Some (codes "second") ∷ Some (codes "third") ∷ [];
  signs = Some (Minus ∷ Plus ∷ []);
  learned = None;
  server = None;
  into = None;
}
put_together = refl

abbrev drawn : LoadOptions
drawn = record { seed = 1; sessions = 2; lines = 3 }

dumped_and_loaded : map (files_of shelf input reply)
    (Alone (alone.Dump (record { learned = codes "learned"; book = 0 })) ∷ Alone (alone.Load drawn)
    ∷ Waiting (waiting.Load drawn) ∷ [])
    ≡ replicate 3 (
    record {
      script = None;
      rules = None;
      dictionaries = [];
      signs = None;
      learned = Some 268435456;
      server = None;
      into = None;
    })
dumped_and_loaded = refl

shared : map (files_of shelf input reply) (map (λ limit.
    Alone (alone.Share (record { learned = codes "learned"; typist = 1; books = 7 ∷ []; limit = limit })))
    (None ∷ Some 64 ∷ []))
    ≡ map {B = CommandFiles} (λ most.
    record {
      script = None;
      rules = None;
      dictionaries = [];
      signs = None;
      learned = Some most;
      server = None;
      into = None;
    })
    (268435456 ∷ 64 ∷ [])
shared = refl

abbrev asking : AskOptions
asking = record { port = 1178; question = questions.Look (codes "か") }

asked_for : map (λ question.
    (files_of shelf input reply (Waiting (waiting.Ask (record asking { question = question })))).server)
    (questions.Look (codes "か") ∷ questions.Complete (codes "き") ∷ [])
    ≡ Some (Look (codes "か"), reply) ∷ Some (Complete (codes "き"), reply) ∷ []
asked_for = refl

asks_no_file : files_of shelf input reply (Waiting (waiting.Ask asking))
    ≡ record (asked_server reply asking) { script = None; rules = None; dictionaries = []; learned = None }
asks_no_file = refl

-- Files that are refused

-- a disk that tells two files, to which nothing happened
abbrev disk : Image → MovedDisk
disk seen = record {
  tells = Unit {0};
  seen = seen;
  seen' = seen;
  before = record { time = 2; faults = 3; left_since = λ time image. image ≡ seen };
  after = record { time = 2; faults = 3; left_since = λ time image. image ≡ seen };
  is_untouched = Unit {0};
}

abbrev no_learned : Image
no_learned = record { a = []; b = [] }

-- the causes of a run over these files in which no call failed
abbrev Causes : CommandFiles → RunFault → Type 0
Causes files = HasRunCause files (disk no_learned) ⊥ []

-- no files but a learned one of so many bytes, where there is one
abbrev only_learned : Option ℕ → CommandFiles
only_learned most =
    record { script = None; rules = None; dictionaries = []; signs = None; learned = most; server = None; into = None }

-- a run of a command doesn't end since its words are none
words : ¬ Causes (only_learned None) faults.Words
words none = none

-- an item of a list of one
not_behind : {X : Type 0} (before : List X) (item : X) (behind : List X) → ¬ ([] ≡ before ++ item ∷ behind)
not_behind [] item behind is = cc (is)
not_behind (first ∷ before) item behind is = cc (is)

only : {X : Type 0} (one : X) (before : List X) (item : X) (behind : List X) → one ∷ [] ≡ before ++ item ∷ behind
    → (before ≡ []) × (item ≡ one)
only one [] item behind is = (refl, cc (is))
only one (first ∷ before) item behind is =
    let rest : [] ≡ before ++ item ∷ behind = cc (is) in absurd (not_behind before item behind rest)

-- a script
abbrev script : List ℕ → CommandFiles
script bytes = record (only_learned (Some 64)) { script = Some (Some bytes) }

-- `x` says nothing, be it keys or an opening: no number and mark are in a text of one character
not_of_line : (number rest : List ℕ) (mark : ℕ) → codes "x" ≡ number ++ mark ∷ rest → mark ≡ 120
not_of_line number rest mark is = (only 120 number mark rest is).1

says_nothing : (said : Option script_line.Line) → ¬ Spells (codes "x") said
says_nothing None (inl empty) = cc (empty)
says_nothing None (inr (comment, is, without)) = let first : ◌≡◌ {A = ℕ} 120 35 = cc (is) in omega (arith, first)
says_nothing (Some (lines.Keys session ks)) (own, keys, is) =
    let mark : 58 ≡ 120 = not_of_line _ _ _ is in omega (arith, mark)
says_nothing (Some (lines.Opening session typist book)) (own, typists, books, is) =
    let mark : 44 ≡ 120 = not_of_line _ _ _ is in omega (arith, mark)

-- the first line of a script is bad, and no second one; a comment is not bad; and `check` has no script
bad_lines : Causes (script (codes "x")) (faults.Refused Script (Line 1))
    × (¬ Causes (script (codes "x")) (faults.Refused Script (Line 2)))
    × (¬ Causes (script (codes "#")) (faults.Refused Script (Line 1)))
    × (¬ Causes (only_learned None) (faults.Refused Script (Line 1)))
bad_lines = (
  (
    lit≤ tt,
    record {
      before = [];
      bad = codes "x";
      behind = [];
      lines = [];
      parts = refl;
      said = refl;
      none = λ said spells may. says_nothing said spells;
      place = refl;
    },
  ),
  λ is. not_second is.1,
  λ is. not_first is.1,
  λ none. none,
)
  where
    not_second : ¬ IsFirstBad (lines_of (codes "x")) 2
    not_second is =
        let before = (only (codes "x") is.before is.bad is.behind is.parts).0 in
        let place : 2 ≡ 0 + 1 = subst (λ (texts : List (List ℕ)). 2 ≡ length texts + 1) before is.place in
        omega (arith, place)

    not_first : ¬ IsFirstBad (lines_of (codes "#")) 1
    not_first is =
        let bad = (only (codes "#") is.before is.bad is.behind is.parts).1 in
        is.none None (subst (λ (text : List ℕ). Spells text None) (sym bad) (inr ([], refl, refl))) tt

-- one byte that is no text
not_text : ¬ IsUtf8 (255 ∷ [])
unfolding is_utf8 chars encode
not_text is = let test : is_utf8 (255 ∷ []) ≡ true = is_utf8-from_IsUtf8 (255 ∷ []) is in cc (test)

-- rules and dictionaries
abbrev named : Option Told → List Told → CommandFiles
named rules dictionaries =
    record {
      script = None;
      rules = rules;
      dictionaries = dictionaries;
      signs = None;
      learned = Some 64;
      server = None;
      into = None;
    }

-- a rule file that is no text, up to byte 0; without one none is refused
bad_rules : Causes (named (Some (Some (255 ∷ []))) []) (faults.Refused Rules (Byte 0))
    × (¬ Causes (named (Some (Some (255 ∷ []))) []) (faults.Refused Rules (Byte 1)))
    × (¬ Causes (named (Some (Some [])) []) (faults.Refused Rules (Byte 0)))
    × (¬ Causes (named None (Some (255 ∷ []) ∷ [])) (faults.Refused Rules (Byte 0)))
unfolding utf8_valid_len is_utf8 chars encode
bad_rules = (
  (lit≤ tt, not_text, refl),
  λ is. let at : 1 ≡ 0 = is.2 in omega (arith, at),
  λ is. is.1 ([], (refl, refl)),
  λ none. none,
)

-- an empty file is a dictionary
lists_nothing : Lists [] none_listed
lists_nothing = record { not_long = lit≤ tt; valid = ([], (refl, refl)); entries = refl }

-- of two dictionaries the second is no text: it is refused as number 2, and not where the rules are no text
abbrev two : List Told
two = Some [] ∷ Some (255 ∷ []) ∷ []

bad_dictionaries : Causes (named None two) (faults.Refused (Dictionary 2) (Byte 0))
    × (¬ Causes (named None two) (faults.Refused (Dictionary 1) (Byte 0)))
    × (¬ Causes (named (Some (Some (255 ∷ []))) two) (faults.Refused (Dictionary 2) (Byte 0)))
    × (¬ Causes (named None []) (faults.Refused (Dictionary 1) TooLong))
unfolding utf8_valid_len is_utf8 chars encode
bad_dictionaries = (
  (
    (standard, refl),
    (
      Some [] ∷ [],
      [],
      Some (255 ∷ []),
      refl,
      refl,
      are_dictionaries ([] ∷ []) (Some [] ∷ []) ((none_listed, lists_nothing, refl), tt),
      (lit≤ tt, not_text, refl),
    ),
  ),
  λ is. first is.1.0 is.1.1 is.1.2 is.1.3 is.1.4 is.1.6,
  λ is. not_text is.0.1.0.1,
  λ is. not_behind is.1.0 is.1.2 is.1.1 is.1.3,
)
  where
    first : (before after : List Told) (file : Told) → two ≡ before ++ file ∷ after → 1 ≡ length before + 1
        → ¬ IfSome file (λ bytes. IsTextFault 67108864 bytes (texts.NotUtf8 0))
    first [] after file parts number has =
        let same : Some [] ≡ file = cc (parts) in
        (subst (λ (told : Told). IfSome told (λ bytes. IsTextFault 67108864 bytes (texts.NotUtf8 0))) (sym same) has).1
        ([], (refl, refl))
    first (other ∷ before) after file parts number has = omega (arith, number)

-- Dictionaries that are put together

-- an empty dictionary comes to no row that is too big, and without signs nothing does
abbrev put : Option (List Sign) → CommandFiles
put signs =
    record {
      script = None;
      rules = None;
      dictionaries = Some [] ∷ [];
      signs = signs;
      learned = None;
      server = None;
      into = None;
    }

no_row_too_big : (¬ Causes (put (Some [])) (faults.RowTooBig 65536)) × (¬ Causes (put None) (faults.RowTooBig 65536))
no_row_too_big = (none, λ is. is)
  where
    none : ¬ Causes (put (Some [])) (faults.RowTooBig 65536)
    none (rows, (first, others, lists, are), big) =
        let empty : first ≡ [] = sym lists.0.2 ∙ ap (λ (listed : Listed). listed.book) lists.0.1.entries in
        let none : ◌≡◌ {A = Option ℕ} None (Some 65536) =
        subst (λ (all : List Row). option_map line_length (first_too_big all) ≡ Some 65536) (are ∙ empty) big in
        cc (none)

-- Learned files that are refused

-- the causes of a run over learned files that a command opens, or does not
abbrev CausesOf : Option ℕ → Image → RunFault → Type 0
CausesOf most files = HasRunCause (only_learned most) (disk files) ⊥ []

-- a file of two bytes, neither of them 0
abbrev foreign : Image
foreign = record { a = 80 ∷ 83 ∷ []; b = [] }

-- the first byte of a learned file that is none is told, and nothing of files that are empty, or that no command opens
not_journals : CausesOf (Some 64) foreign (faults.NotJournal 0 80)
    × (¬ CausesOf (Some 64) foreign (faults.NotJournal 0 81))
    × (¬ CausesOf (Some 64) no_learned (faults.NotJournal 0 80))
    × (¬ CausesOf None foreign (faults.NotJournal 0 80))
not_journals = (
  (refl, λ tells. (A, refl, refl)),
  λ is. let first : ◌≡◌ {A = ℕ} 80 81 = cc ((is.1 tt).2) in omega (arith, first),
  λ is. cc ((is.1 tt).2),
  λ is. cc (is.0),
)

-- a bad place is told of the files that are refused for it, not for another, nor of files that are empty
bad_records : (files : Image) → IsRefused files (opens.BadRecord 0 9 2 [])
    → CausesOf (Some 64) files (faults.BadRecord 0 9) × (¬ CausesOf None files (faults.BadRecord 0 9))
    × (¬ CausesOf (Some 64) no_learned (faults.BadRecord 0 9))
bad_records files refused = ((refl, λ tells. refused), λ is. cc (is.0), λ is. none (is.1 tt))
  where
    none : ¬ IsRefused no_learned (opens.BadRecord 0 9 2 [])
    none (file, number, inl breaks, before) = cc (breaks.chosen)
    none (file, number, inr (inl (records, frame, opened, breaks)), before) = opened
    none (file, number, inr (inr (records, state, opened, leave)), before) = opened

-- Replies

-- the bytes of a reply tell its flaw, and no other one; a reply that is not told may have any, and where no server is
-- asked none has
flaws_of_replies : Causes (asked_server (Some (codes "9" ++ 10 ∷ [])) asking) (faults.Reply (flaws.Bad 0))
    × (¬ Causes (asked_server (Some (codes "9" ++ 10 ∷ [])) asking) (faults.Reply (flaws.Bad 1)))
    × Causes (asked_server (Some (codes "0" ++ 10 ∷ [])) asking) (faults.Reply flaws.Refused)
    × Causes (asked_server (Some (codes "04")) asking) (faults.Reply (flaws.Ended 2))
    × (¬ Causes (asked_server (Some (codes "4" ++ 10 ∷ [])) asking) (faults.Reply (flaws.Bad 0)))
    × Causes (asked_server None asking) (faults.Reply flaws.TooLong)
    × (¬ Causes (only_learned None) (faults.Reply flaws.TooLong))
unfolding told_by line_of told_by_line
flaws_of_replies = (
  refl,
  λ is. let at : ◌≡◌ {A = ℕ} 1 0 = cc (is) in omega (arith, at),
  refl,
  refl,
  λ is. cc (is),
  tt,
  λ none. none,
)

-- Calls that failed, and memory

outside : HasRunCause (only_learned None) (disk no_learned) (Unit {0}) [] faults.Outside
    × (¬ Causes (only_learned None) faults.Outside)
outside = (tt, λ none. none)

memory : Causes (only_learned None) faults.Memory
memory = tt

-- Room

-- learning 蚊 under か needs 34 bytes, which behind the 18 of a file without records are 52
abbrev key : RowKey
key = record { part = Nasi; reading = codes "か" }

abbrev learning : Call
learning = Learn 1 key None (record { word = codes "蚊"; note = [] })

-- a chronicle of one call over nothing, of which a learned file may have so many bytes
abbrev asked : Call → ℕ → List Noted
asked call limit =
    Opened [] empty_state 18 limit 0 0 ∷ Entered 0 call (Refused (refusals.JournalFull 18 34 limit)) 0 0 ∷ []

lacked : LackedRoom (Some 51) (asked learning 51)
unfolding encode
lacked = record {
  opening = record { files = []; state = empty_state; end = 18; limit = 51; time = 0; faults = 0 };
  opened = refl;
  limit = refl;
  before = [];
  entry = record { number = 0; call = learning; answer = Refused (refusals.JournalFull 18 34 51) };
  behind = [];
  parts = refl;
  change = refl;
  lacks = omega arith;
}

-- the same opening and entry, with a limit
abbrev opened_with : ℕ → Opening
opened_with limit = record { files = []; state = empty_state; end = 18; limit = limit; time = 0; faults = 0 }

abbrev entered : Call → ℕ → Entry
entered call limit = record { number = 0; call = call; answer = Refused (refusals.JournalFull 18 34 limit) }

-- what lacks room at its place, where that is over this state
abbrev Lacks : ℕ → State → Call → Type 0
Lacks limit state call = (moves state call ≡ true) × (limit < tight state + need state call)

-- what lacked room there is the one call over nothing
lacked-only : (most : Option ℕ) (call : Call) (limit : ℕ) → LackedRoom most (asked call limit)
    → (most ≡ Some limit) × Lacks limit empty_state call
lacked-only most call limit is =
    let known : opened_with limit ≡ is.opening =
    ap (λ (o : Option Opening). unwrap_or o (opened_with limit)) is.opened in
    let one = only (entered call limit) is.before is.entry is.behind is.parts in
    let there = subst (λ (o : Opening). Lacks o.limit (state_after o.state is.before) is.entry.call) (sym known)
    (is.change, is.lacks) in
    let first = subst (λ (before : List Entry). Lacks limit (state_after empty_state before) is.entry.call) one.0
    there in (
      subst (λ (o : Opening). most ≡ Some o.limit) (sym known) is.limit,
      subst (λ (entry : Entry). Lacks limit empty_state entry.call) one.1 first,
    )

-- one byte more is just enough; a limit that is not the opening's lacks nothing, and so does no learned file
had : ¬ LackedRoom (Some 52) (asked learning 52)
unfolding encode
had is = let lacks : 52 < 18 + 34 = (lacked-only (Some 52) learning 52 is).1.1 in omega (arith, lacks)

other_limit : ¬ LackedRoom (Some 50) (asked learning 51)
other_limit is =
    let most : 50 ≡ 51 = ap (λ (most : Option ℕ). unwrap_or most 0) (lacked-only (Some 50) learning 51 is).0 in
    omega (arith, most)

not_opened : ¬ LackedRoom None (asked learning 51)
not_opened is = cc ((lacked-only None learning 51 is).0)

-- a look-up lacks no room, whatever the limit
no_change : ¬ LackedRoom (Some 17) (asked (Lookup 1 key None) 17)
no_change is = false≢true (lacked-only (Some 17) (Lookup 1 key None) 17 is).1.0

-- and of no call is the learned file full
not_called_at_all : ¬ Causes (only_learned (Some 17)) faults.JournalFull
not_called_at_all is = cc (is.opened)
