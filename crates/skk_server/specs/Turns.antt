-- How a connection stands between its turns, and what a turn leaves.
use Rattle.std.specs.Prelude.{◌≡◌, ◌⊎◌, ◌<◌, ◌≤◌, ℕ, ◌+◌, ◌==◌, Bool, false, true, None, Some, List, [], ◌∷◌, ◌++◌}
use Rattle.std.specs.Prelude.{length}
use Rattle.std.specs.Prelude.{encode_utf8_all}
use Rattle.std.specs.Prelude.{vec_len}
use Rattle.std.specs.Io.KnownBytes.{Appends, Consumes, IsAtEnd}
use Rattle.skk_text.specs.Characters.{code}
use Rattle.skk_outside.specs.Faults.{Rose}
use Rattle.skk_outside.specs.Moved.{Told}
use Rattle.skk_outside.specs.Written.{IsPrefix}
use Rattle.romaji_rules.specs.declared.rule.Rule.{Rule}
use Rattle.skk_calls.specs.declared.call.Call.{Call}
use Rattle.skk_calls.specs.Interactions.{ends, asks, Dialog, Leads}
use Rattle.skk_calls.specs.Runs.{Runs, at, anywhere}
use Rattle.skkserv_proto.specs.declared.request.Request.{Request}
use Rattle.skkserv_proto.specs.Feeding.{Feeding, Fed}
use Rattle.skkserv_proto.specs.Replies.{call_of}
use Rattle.skkserv_proto.specs.Requests.{requests, first_bad}
use Rattle.typist_line.specs.declared.typing.Going.{Going}
use Rattle.typist_line.specs.declared.typing.Going.TheVariants.{More, Over}
use Rattle.typist_line.specs.declared.typing.Typist.{Typist}
use Rattle.typist_line.specs.Typings.{Heard, Stands, TypingView, is_over}
use Rattle.skk_server.specs.declared.connection.Connection.{Connection}
use Rattle.skk_server.specs.declared.end.End.{End}
use Rattle.skk_server.specs.declared.end.End.TheVariants.{Closed, LinkFault, Limit, Memory}
use Rattle.skk_server.specs.declared.talk.Talk.{Talk}
use Rattle.skk_server.specs.declared.talk.Talk.TheVariants.{New, Client, Typist as TypistTalk}
use Rattle.skk_server.specs.Connections.{Exchange, over, served, replied, answered, client}
use Rattle.skk_server.specs.Ends.{MovedLink, EndsBy, AnswersAll, AnswersSome, most_bytes, longest_piece}

-- What follows

-- how a connection stands behind bytes, with what was said and sent for them
abbrev pub Standing : Type 1
Standing = List ℕ → Dialog → List ℕ → Type 0

-- where a connection stood so, it stands so behind the next bytes, with what was said and sent for them
abbrev pub Carries : Standing → Standing → List ℕ → Dialog → List ℕ → Type 0
Carries Stood Stands piece dialog sent =
    (bytes : List ℕ) (known : Dialog) (known_sent : List ℕ) → Stood bytes known known_sent
    → Stands (bytes ++ piece) (known ++ dialog) (known_sent ++ sent)

-- a dialog was said more, and bytes added that are to be sent
abbrev pub Adds : Heard → Heard → Dialog → List ℕ → Type 0
Adds before after dialog sent = (after.said ≡ before.said ++ dialog) × (after.out ≡ before.out ++ sent)

-- with what was added for them the next bytes carried a connection on
abbrev pub Follows : Standing → Standing → List ℕ → Heard → Heard → Type 0
Follows Stood Stands piece before after =
    (dialog : Dialog) × (sent : List ℕ) × Adds before after dialog sent × Carries Stood Stands piece dialog sent

-- Requests

-- bytes were added that are to be sent
abbrev pub Sends : Heard → Heard → List ℕ → Type 0
Sends before after sent = after.out ≡ before.out ++ sent

-- none were
abbrev pub SendsNone : Heard → Heard → List ℕ → Type 0
SendsNone before after sent = (sent ≡ []) × (after.out ≡ before.out)

-- an exchange ran on, whatever stands behind it
abbrev pub RunsOn : {I : Type 0} → (I → Exchange) → (I → Exchange → Type 0) → Heard → Heard → Type 0
RunsOn from To before after = Runs from To before.said after.said (Sends before after)

-- or broke off, and nothing was added that is to be sent
abbrev pub BreaksOff : {I : Type 0} → (I → Exchange) → Heard → Heard → Type 0
BreaksOff from before after = Runs from anywhere before.said after.said (SendsNone before after)

-- a request's call, with what comes behind the request
abbrev pub asking_of : Request → Call → Exchange → Exchange
asking_of request call rest = asks call (answered request rest)

-- it was asked, and the reply added
abbrev pub AnswersCall : Request → Call → Heard → Heard → Type 0
AnswersCall request call before after = RunsOn (asking_of request call) (at (λ rest. rest)) before after

-- or it alone was asked
abbrev pub BreaksCall : Request → Call → Heard → Heard → Type 0
BreaksCall request call before after = BreaksOff (asking_of request call) before after

-- a request that is not the end, with what comes behind it
abbrev pub replying_to : Request → Exchange → Exchange
replying_to request rest = replied request rest (call_of request)

-- it was answered
abbrev pub AnswersRequest : Request → Heard → Heard → Type 0
AnswersRequest request before after = RunsOn (replying_to request) (at (λ rest. rest)) before after

-- or its call alone was asked, or nothing
abbrev pub BreaksRequest : Request → Heard → Heard → Type 0
BreaksRequest request before after = BreaksOff (replying_to request) before after

-- what comes behind requests: others, and whether a bad byte stands behind those
abbrev pub Behind : Type 0
Behind = List Request × Bool

-- requests, with what comes behind them
abbrev pub with_behind : List Request → Behind → Exchange
with_behind asked behind = served (asked ++ behind.0) behind.1

-- where requests lead, by how the connection goes on: to what comes behind them, or to its end
abbrev pub stood : Going → Behind → Exchange
stood More behind = with_behind [] behind
stood Over behind = ends over

-- requests were answered, up to the end
abbrev pub AnswersRequests : List Request → Heard → Heard → Going → Type 0
AnswersRequests asked before after going = RunsOn (with_behind asked) (at (stood going)) before after

-- or the first of them, as far as memory was there
abbrev pub BreaksRequests : List Request → Heard → Heard → Type 0
BreaksRequests asked before after = RunsOn (with_behind asked) anywhere before after

-- or they were answered, and the bad byte behind them refused
abbrev pub RefusesBehind : List Request → Heard → Heard → Going → Type 0
RefusesBehind asked before after going =
    (going ≡ Over) × RunsOn (λ (behind : Unit {0}). served asked true) (at (λ behind. ends over)) before after

-- Clients

-- requests lead on to what comes behind them, or to the end of the connection
abbrev pub RequestsLead : List Request → Dialog → List ℕ → Going → Type 0
RequestsLead asked dialog sent going =
    (behind : Behind) → Leads (with_behind asked behind) dialog sent (stood going behind)

-- a client's connection goes on behind bytes, with what was said and sent for them
abbrev pub ClientStands : Feeding → List ℕ → Dialog → List ℕ → Type 0
ClientStands feeder bytes dialog sent =
    Fed bytes feeder × (first_bad bytes ≡ None) × RequestsLead (requests bytes) dialog sent More

-- a client's connection behind bytes, by whether it goes on; where it is over it is, whatever comes behind them
abbrev pub ClientGoes : Feeding → Going → List ℕ → Dialog → List ℕ → Type 0
ClientGoes feeder More bytes dialog sent = ClientStands feeder bytes dialog sent
ClientGoes feeder Over bytes dialog sent = (later : List ℕ) → Leads (client (bytes ++ later)) dialog sent (ends over)

-- so much of a client's bytes as a front of them was answered, as far as memory was there
abbrev pub ClientBreaks : List ℕ → Dialog → List ℕ → Type 0
ClientBreaks bytes dialog sent =
    (front : List ℕ) × (rest : List ℕ) × (bytes ≡ front ++ rest)
    × (to : Exchange) × Leads (client front) dialog sent to

-- whatever a client sent before, its next bytes were answered
abbrev pub AnswersBytes : List ℕ → Feeding → Feeding → Heard → Heard → Going → Type 0
AnswersBytes bytes feeder feeder' before after going =
    Follows (ClientStands feeder) (ClientGoes feeder' going) bytes before after

-- or some of them, as far as memory was there
abbrev pub BreaksBytes : List ℕ → Feeding → Heard → Heard → Type 0
BreaksBytes bytes feeder before after = Follows (ClientStands feeder) ClientBreaks bytes before after

-- Connections

-- bytes are those of a connection of whose it is
abbrev pub Suits : Talk → List ℕ → Type 0
Suits New bytes = bytes ≡ []
Suits (Client feeder) bytes =
    (byte : ℕ) × (behind : List ℕ) × (bytes ≡ byte ∷ behind) × ((byte == code "T") ≡ false)
Suits (TypistTalk typing) bytes = (behind : List ℕ) × (bytes ≡ code "T" ∷ behind)

-- a typist's connection goes on behind bytes, with what was said and sent for them
abbrev pub TypistStands : List Rule → TypingView → List ℕ → Dialog → List ℕ → Type 0
TypistStands rules typing bytes dialog sent =
    (text : List ℕ) × (typist : Typist) × (typing.typist ≡ Some typist) × (is_over typist ≡ false)
    × Stands rules bytes (record { dialog = dialog; text = text }) typing × (sent ≡ encode_utf8_all text)

-- a connection goes on behind bytes, by whose it is
abbrev pub StandsOf : List Rule → Talk → List ℕ → Dialog → List ℕ → Type 0
StandsOf rules New bytes dialog sent = (bytes ≡ []) × (dialog ≡ []) × (sent ≡ [])
StandsOf rules (Client feeder) bytes dialog sent = ClientStands feeder bytes dialog sent
StandsOf rules (TypistTalk typing) bytes dialog sent = TypistStands rules typing bytes dialog sent

-- a connection goes on behind its bytes, with what was said and sent for them
abbrev pub StandsAt : List Rule → Talk → List ℕ → Dialog → List ℕ → Type 0
StandsAt rules talk bytes dialog sent = Suits talk bytes × StandsOf rules talk bytes dialog sent

-- so it does, and it is known whose it is by the next bytes
abbrev pub BegunAt : List Rule → List ℕ → Talk → Standing
BegunAt rules piece talk bytes dialog sent = Suits talk (bytes ++ piece) × StandsOf rules talk bytes dialog sent

-- it is known whose a connection is that goes on with these bytes
abbrev pub Begins : List ℕ → Talk → Talk → Type 0
Begins piece talk talk' =
    (rules : List Rule) (bytes : List ℕ) (dialog : Dialog) (sent : List ℕ) → StandsAt rules talk bytes dialog sent
    → BegunAt rules piece talk' bytes dialog sent

-- a connection behind its bytes, by whether it goes on; where it is over it is, whatever comes behind them
abbrev pub Goes : List Rule → Talk → Going → List ℕ → Dialog → List ℕ → Type 0
Goes rules talk More bytes dialog sent = StandsAt rules talk bytes dialog sent
Goes rules talk Over bytes dialog sent = (later : List ℕ) → AnswersAll rules (bytes ++ later) dialog sent over

-- whatever came before, the next bytes of a connection were answered
abbrev pub Answers : List Rule → List ℕ → Talk → Talk → Heard → Heard → Going → Type 0
Answers rules piece talk talk' before after going =
    Follows (StandsAt rules talk) (Goes rules talk' going) piece before after

-- or some of them, as far as memory was there
abbrev pub Breaks : List Rule → List ℕ → Talk → Heard → Heard → Type 0
Breaks rules piece talk before after = Follows (StandsAt rules talk) (AnswersSome rules) piece before after

-- the same where it is known whose the connection is
abbrev pub AnswersOf : List Rule → List ℕ → Talk → Talk → Heard → Heard → Going → Type 0
AnswersOf rules piece talk talk' before after going =
    Follows (BegunAt rules piece talk) (Goes rules talk' going) piece before after

-- or some of them, as far as memory was there
abbrev pub BreaksOf : List Rule → List ℕ → Talk → Heard → Heard → Type 0
BreaksOf rules piece talk before after = Follows (BegunAt rules piece talk) (AnswersSome rules) piece before after

-- What was read

-- a connection goes on behind the next bytes, with what was said for them, and these replies
abbrev pub GoesOn : List Rule → Talk → Talk → List ℕ → Dialog → List ℕ → Type 0
GoesOn rules talk talk' piece dialog replies =
    Carries (StandsAt rules talk) (StandsAt rules talk') piece dialog replies

-- so much was sent of replies at an end: all of them where the connection is over, and else the first of them
abbrev pub IsSent : List ℕ → List ℕ → End → Type 0
IsSent sent replies Closed = sent ≡ replies
IsSent sent replies end = IsPrefix sent replies

-- how far a connection was answered at an end, where no more was read
abbrev pub EndsIn : List Rule → End → List ℕ → Dialog → List ℕ → Type 0
EndsIn rules Closed bytes dialog sent = AnswersAll rules bytes dialog sent over
EndsIn rules LinkFault bytes dialog sent = AnswersSome rules bytes dialog sent
EndsIn rules Limit bytes dialog sent = ⊥
EndsIn rules Memory bytes dialog sent = AnswersSome rules bytes dialog sent

-- and where more may have been read, and so much was sent of what there was to send
abbrev pub EndsWith : List Rule → End → List ℕ → Dialog → List ℕ → Type 0
EndsWith rules end bytes dialog replies =
    (later sent : List ℕ) → IsSent sent replies end → EndsIn rules end (bytes ++ later) dialog sent

-- a part of what was read was answered: its replies are kept behind those that were kept before, or all were sent
pub record AnswersPart (rules : List Rule) (written written' : Told) (said said' : Dialog) (talk talk' : Talk)
    (kept kept' : List ℕ) (part : List ℕ) : Type 0 where
  pub dialog : Dialog
  pub replies : List ℕ
  pub says : said' ≡ said ++ dialog
  pub stands : GoesOn rules talk talk' part dialog replies
  pub kept_so : ((written' ≡ written) × (kept' ≡ kept ++ replies))
      ⊎ (Appends written written' (kept ++ replies) × (kept' ≡ []))

-- or the connection ends behind it, whatever bytes stand there
pub record EndsPart (rules : List Rule) (link : MovedLink) (said said' : Dialog) (talk : Talk) (kept part : List ℕ)
    (end : End) : Type 0 where
  pub dialog : Dialog
  pub replies : List ℕ
  pub sent : List ℕ
  pub says : said' ≡ said ++ dialog
  pub writes : Appends link.written link.written' sent
  pub sent_so : IsSent sent (kept ++ replies) end
  pub rose : end ≡ LinkFault → Rose link.faults link.faults'
  pub ends_so : Carries (StandsAt rules talk) (EndsWith rules end) part dialog replies

-- what was read was answered so far, where nothing was kept before: what was sent, and what is kept now
pub record AnswersRead (rules : List Rule) (written written' : Told) (said said' : Dialog) (talk talk' : Talk)
    (kept' : List ℕ) (piece : List ℕ) : Type 0 where
  pub dialog : Dialog
  pub sent : List ℕ
  pub says : said' ≡ said ++ dialog
  pub writes : Appends written written' sent
  pub stands : GoesOn rules talk talk' piece dialog (sent ++ kept')

-- or the connection ends with it
pub record EndsRead (rules : List Rule) (link : MovedLink) (said said' : Dialog) (talk : Talk) (piece : List ℕ)
    (end : End) : Type 0 where
  pub dialog : Dialog
  pub sent : List ℕ
  pub says : said' ≡ said ++ dialog
  pub writes : Appends link.written link.written' sent
  pub rose : end ≡ LinkFault → Rose link.faults link.faults'
  pub ends_so : Carries (StandsAt rules talk) (EndsIn rules end) piece dialog sent

-- Turns

-- there is room for bytes that are read at once
abbrev pub HasRoom : Connection → Type 0
HasRoom connection = (0 < vec_len connection.room) × (vec_len connection.room ≤ longest_piece)

-- a connection is ready to read: there is room, and no reply is kept
abbrev pub IsReady : Connection → Type 0
IsReady connection = HasRoom connection × (connection.responder.page.bytes.items ≡ [])

-- nothing was read, and this is the end: the input ended, or a read failed
abbrev pub StopsReading : MovedLink → End → Type 0
StopsReading link Closed = Consumes link.left link.left' [] × IsAtEnd link.left'
StopsReading link LinkFault = Consumes link.left link.left' [] × Rose link.faults link.faults'
StopsReading link end = ⊥

-- a turn after which a connection goes on: which bytes were read, what was said, and what was sent
pub record TakesTurn (rules : List Rule) (link : MovedLink) (said said' : Dialog) (talk talk' : Talk)
    (taken taken' : ℕ) : Type 0 where
  pub piece : List ℕ
  pub dialog : Dialog
  pub sent : List ℕ
  pub takes : Consumes link.left link.left' piece
  pub writes : Appends link.written link.written' sent
  pub says : said' ≡ said ++ dialog
  pub counted : taken' ≡ taken + length piece
  pub some : 0 < length piece
  pub few : taken' ≤ most_bytes
  pub stands : GoesOn rules talk talk' piece dialog sent

-- a turn that ends a connection
pub record EndsTurn (rules : List Rule) (link : MovedLink) (said said' : Dialog) (talk : Talk) (taken : ℕ)
    (end : End) : Type 0 where
  pub piece : List ℕ
  pub dialog : Dialog
  pub sent : List ℕ
  pub takes : Consumes link.left link.left' piece
  pub writes : Appends link.written link.written' sent
  pub says : said' ≡ said ++ dialog
  pub few : taken + length piece ≤ most_bytes
  pub ends_so : Carries (StandsAt rules talk) (λ bytes' dialog' sent'. EndsBy rules link bytes' dialog' sent' end)
      piece dialog sent

-- a connection that was served so far
pub record ServesSoFar (rules : List Rule) (link : MovedLink) (said said' : Dialog) (talk : Talk) (taken : ℕ) : Type 0
  where
    pub bytes : List ℕ
    pub dialog : Dialog
    pub sent : List ℕ
    pub takes : Consumes link.left link.left' bytes
    pub writes : Appends link.written link.written' sent
    pub says : said' ≡ said ++ dialog
    pub counted : taken ≡ length bytes
    pub few : taken ≤ most_bytes
    pub stands : StandsAt rules talk bytes dialog sent
    pub faults : link.faults ≤ link.faults'
