-- What a run of `ask` leaves.
use Rattle.std.specs.Prelude.{◌≡◌, ◌⊎◌, ◌≤◌, ⊤, true, Option, None, Some, Err, Ok, List, [], ◌∷◌, ◌++◌, ℕ, IsErr}
use Rattle.std.specs.Prelude.{IsErrAnd, OnOk, IfErr, codes, encode_utf8_all, option_map}
use Rattle.std.specs.Io.KnownBytes.{Appends, Keeps}
use Rattle.std.specs.List.{flat_map}
use Rattle.skk_text.specs.Lines.{line_feed}
use Rattle.skk_outside.specs.declared.outside.Failed.{Failed}
use Rattle.skk_outside.specs.declared.outside.Outside.{Ghosts as OutsideGhosts}
use Rattle.skk_outside.specs.Faults.{Rose}
use Rattle.skk_outside.specs.Listeners.{Dials}
use Rattle.skk_outside.specs.Moved.{MovedSink}
use Rattle.skk_outside.specs.Moved as moved
use Rattle.skk_outside.specs.Written.{AppendsPrefix}
use Rattle.skk_calls.specs.Canonical.{item}
use Rattle.skk_server.specs.Ends.{MovedLink, moved_link}
use Rattle.skkserv_client.specs.declared.question.Ask.{Ask}
use Rattle.skkserv_client.specs.declared.question.Ask.TheVariants.{Look, Complete}
use Rattle.skkserv_client.specs.declared.told.AskFault.{AskFault}
use Rattle.skkserv_client.specs.declared.told.AskFault.TheVariants as asks
use Rattle.skkserv_client.specs.declared.told.Told.{Told}
use Rattle.skkserv_client.specs.declared.told.Told.TheVariants.{Cands, Readings}
use Rattle.skkserv_client.specs.Hearing.{HearsReply}
use Rattle.skkserv_client.specs.Questions.{request_of}
use Rattle.command_line.specs.declared.command.AskOptions.{AskOptions}
use Rattle.command_line.specs.declared.command.Question.{Question}
use Rattle.command_line.specs.declared.command.Question.TheVariants as questions
use Rattle.run_endings.specs.declared.fault.RunFault.{RunFault}
use Rattle.run_endings.specs.declared.fault.RunFault.TheVariants.{Outside, Memory, Reply}
use Rattle.run_endings.specs.declared.reply_flaw.ReplyFlaw.{ReplyFlaw}
use Rattle.run_endings.specs.declared.reply_flaw.ReplyFlaw.TheVariants as flaws
use Rattle.run_endings.specs.Status.{Ended}
use Rattle.skk_top.specs.ServeCommand.{MovedListener}

-- What is asked and told

-- what a server is asked for, by the words
abbrev pub asked_of : Question → Ask
asked_of (questions.Look reading) = Look reading
asked_of (questions.Complete prefix) = Complete prefix

-- a text as a line
abbrev pub as_line : List ℕ → List ℕ
as_line text = text ++ line_feed ∷ []

-- the lines of what a server tells: its candidates, each as an item of a dictionary line, or its readings
abbrev pub told_lines : Told → List ℕ
told_lines (Cands cands) = flat_map (λ cand. as_line (item cand)) cands
told_lines (Readings readings) = flat_map as_line readings

-- the byte by which a client ends its connection
abbrev pub farewell : List ℕ
farewell = codes "0"

-- all that is sent to a server which tells something
abbrev pub sent_for : Ask → List ℕ
sent_for what = request_of what ++ farewell

-- the fault for which a server told nothing, by what was wrong with its reply
abbrev pub fault_of_flaw : ReplyFlaw → AskFault
fault_of_flaw flaws.TooLong = asks.TooLong
fault_of_flaw (flaws.Ended read) = asks.Ended read
fault_of_flaw flaws.Refused = asks.Refused
fault_of_flaw (flaws.Bad at) = asks.BadReply at

-- Asking

-- why asking over a link stops: its reply has a flaw, as far as its bytes are told, or a call on the link or on the
-- sink failed, or memory is out
abbrev pub StopsAsking : Ask → MovedLink → MovedSink → RunFault → Type 0
StopsAsking what link out (Reply flaw) = HearsReply link.left what (Err (fault_of_flaw flaw))
StopsAsking what link out Outside = Rose link.faults link.faults' ⊎ Rose out.faults out.faults'
StopsAsking what link out Memory = ⊤
StopsAsking what link out fault = ⊥

-- nothing was printed, of a reply that told nothing
pub record PrintsNothing (ended : Ended) (out : MovedSink) : Type 0 where
  pub fails : IsErr ended
  pub unwritten : Keeps out.written out.written'

-- what the bytes of a link tell was printed, all of it or a prefix
pub record PrintsTold (what : Ask) (link : MovedLink) (ended : Ended) (out : MovedSink) : Type 0 where
  pub told : Told
  pub hears : HearsReply link.left what (Ok told)
  pub whole : OnOk ended (Appends out.written out.written' (encode_utf8_all (told_lines told)))
  pub prefix : AppendsPrefix out.written out.written' (encode_utf8_all (told_lines told))

-- what asking over a link leaves, by how it ends: where it is done all was sent to the server, and what it tells was
-- printed; else a prefix of that was, with the cause
pub record AsksOver (what : Ask) (ended : Ended) (link : MovedLink) (out : MovedSink) : Type 0 where
  pub sent : OnOk ended (Appends link.written link.written' (sent_for what))
  pub begun : AppendsPrefix link.written link.written' (sent_for what)
  pub printed : PrintsNothing ended out ⊎ PrintsTold what link ended out
  pub stopped : IfErr ended (StopsAsking what link out)
  pub counted : link.faults ≤ link.faults'

-- The run

-- why there is no link: the listener failed, or memory is out
abbrev pub StopsDialling : {L : Type 0} → MovedListener L → RunFault → Type 0
StopsDialling net Outside = Rose net.faults net.faults'
StopsDialling net Memory = ⊤
StopsDialling net fault = ⊥

-- there was no link to a server: nothing was printed, and the listener gave none
pub record LacksServer {L : Type 0} (ended : Ended) (out : MovedSink) (net : MovedListener L) : Type 0 where
  pub cause : IsErrAnd ended (StopsDialling net)
  pub unwritten : Keeps out.written out.written'
  pub coming_is : net.coming' ≡ net.coming
  pub over_is : net.over' ≡ net.over
  pub out_is : net.out' ≡ net.out
  pub opened_is : net.opened' ≡ net.opened

-- a link was dialled, the first that was to come, and given back, closed; so it is the last of those that are over
pub record Dialled {L : Type 0} (link link' : L) (net : MovedListener L) : Type 0 where
  pub comes : Dials {E = Failed} net.coming net.coming' (Ok link)
  pub gives_back : net.over' ≡ option_map (λ before. before ++ link' ∷ []) net.over
  pub none_out : net.out' ≡ net.out
  pub opened_is : net.opened' ≡ net.opened
  pub is_closed : net.links.closed link' ≡ true

-- a server was asked over a link that was dialled
pub record AsksServer {L : Type 0} (what : Ask) (ended : Ended) (out : MovedSink) (net : MovedListener L)
    : Type 0 where
  pub link : L
  pub link' : L
  pub dialled : Dialled link link' net
  pub asks : AsksOver what ended (moved_link net.links link link') out

-- what a run of `ask` leaves: there was no link to a server, or it was asked
abbrev pub LeavesAsked : {L : Type 0} → AskOptions → Ended → MovedSink → MovedListener L → Type 0
LeavesAsked options ended out net =
    LacksServer ended out net ⊎ AsksServer (asked_of options.question) ended out net

-- The reply

-- the bytes that the first of such links has left, where these are told
abbrev pub left_of_first : {L : Type 0} → OutsideGhosts L → Option (List L) → moved.Told
left_of_first links None = None
left_of_first links (Some []) = None
left_of_first links (Some (link ∷ more)) = links.left link

-- the bytes that the server sends which is dialled next, where these are told
abbrev pub reply_of : {L : Type 0} → MovedListener L → moved.Told
reply_of net = left_of_first net.links net.coming

-- a call failed on a link that was dialled
pub record DialledFailed {L : Type 0} (net : MovedListener L) : Type 0 where
  pub link : L
  pub link' : L
  pub dialled : Dialled link link' net
  pub failed : Rose (net.links.faults link) (net.links.faults link')
