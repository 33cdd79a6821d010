-- How the requests of a client lead on.
use Rattle.std.proofs.Common.{◌≡◌, ◌≢◌, ◌≤◌, ◌<◌, ℕ, ◌+◌, min, Bool, true, false, Option, None, Some, List}
use Rattle.std.proofs.Common.{[], ◌∷◌, ◌++◌, length, drop, get_or, refl, sym, ap, ◌∙◌, subst, append_assoc, append-nil}
use Rattle.std.specs.Option.{option_map, is_some}
use Rattle.std.proofs.lemmas.List.{drop_all, drop_more}
use Rattle.std.proofs.lemmas.Option.{none-some}
use Rattle.skk_text.specs.Counts.{last_count}
use Rattle.exact_readers.specs.Formats.{taken}
use Rattle.skk_calls.specs.declared.answer.Answer.{Answer}
use Rattle.skk_calls.specs.declared.answer.Answer.TheVariants.{Done}
use Rattle.skk_calls.specs.declared.answer.Reply.{Reply}
use Rattle.skk_calls.specs.declared.call.Call.{Call}
use Rattle.skk_calls.specs.Interactions.{ends, Dialog, Leads, here}
use Rattle.skk_calls.specs.InteractionLaws.{leads-on}
use Rattle.skk_calls.specs.Runs.{Runs, at, anywhere}
use Rattle.skk_calls.specs.RunLaws.{runs-nothing, runs-ask, runs-print, runs-from, runs-to, runs-begun, runs-along}
use Rattle.skk_calls.specs.RunLaws.{runs-then}
use Rattle.skkserv_proto.specs.declared.request.Request.{Request}
use Rattle.skkserv_proto.specs.declared.request.Request.TheVariants.{End, Look, Version, Host, Complete}
use Rattle.skkserv_proto.specs.Feeding.{Feeding, Fed, Feeds, Reads}
use Rattle.skkserv_proto.specs.Replies.{reply_to, call_of}
use Rattle.skkserv_proto.specs.Requests.{requests, first_bad, bad_at}
use Rattle.typist_line.specs.declared.typing.Going.{Going}
use Rattle.typist_line.specs.declared.typing.Going.TheVariants.{More, Over}
use Rattle.typist_line.specs.Conversations.{refusal}
use Rattle.typist_line.specs.Typings.{Heard}
use Rattle.skk_server.specs.Connections.{Exchange, more, over, answered, replied, served, client}
use Rattle.skk_server.specs.Turns.{Sends, SendsNone, RunsOn, asking_of, replying_to, Behind, with_behind, stood}
use Rattle.skk_server.specs.Turns.{AnswersCall, BreaksCall, AnswersRequest, BreaksRequest, AnswersRequests}
use Rattle.skk_server.specs.Turns.{BreaksRequests, RefusesBehind, RequestsLead, ClientStands, ClientGoes}
use Rattle.skk_server.specs.Turns.{Carries, ClientBreaks, AnswersBytes, BreaksBytes}

-- Fronts

-- a front asks the first requests of all
abbrev pub RequestsMore : Type 0
RequestsMore = (front rest : List ℕ) → (later : List Request) × (requests (front ++ rest) ≡ requests front ++ later)

-- and no more where a byte of it is bad
abbrev pub RequestsStay : Type 0
RequestsStay =
    (front rest : List ℕ) (at : ℕ) → first_bad front ≡ Some at
    → (requests (front ++ rest) ≡ requests front) × (first_bad (front ++ rest) ≡ Some at)

-- What is sent

-- what was sent, and then more
sends-on : (before middle after : Heard) (one two : List ℕ) → Sends before middle one → Sends middle after two
    → Sends before after (one ++ two)
sends-on before middle after one two e f = f ∙ ap (λ o. o ++ two) e ∙ append_assoc before.out one two

-- and then no more
sends-none : (before middle after : Heard) (one two : List ℕ) → Sends before middle one → SendsNone middle after two
    → Sends before after (one ++ two)
sends-none before middle after one two e (none, kept) =
    kept ∙ e ∙ ap (λ o. before.out ++ o) (sym (append-nil one) ∙ ap (λ o. one ++ o) (sym none))

-- Single requests

-- a call was asked alone, whatever its answer
pub call-breaks : (request : Request) (call : Call) (answer : Answer) (before after : Heard)
    → after.said ≡ before.said ++ (call, answer) ∷ [] → after.out ≡ before.out → BreaksCall request call before after
call-breaks request call answer before after said kept =
    runs-begun (runs-ask call (answered request) answer said (refl, kept))

-- a call was asked, and its reply sent
pub call-answers : (request : Request) (call : Call) (answer : Answer) (reply : Reply) (before middle after : Heard)
    → answer ≡ Done reply → middle.said ≡ before.said ++ (call, answer) ∷ [] → middle.out ≡ before.out
    → after.said ≡ middle.said → Sends middle after (reply_to request (Some reply))
    → AnswersCall request call before after
call-answers request call answer reply before middle after e said kept quiet sent =
    runs-then (sends-on before middle after)
    (runs-to (λ rest. ap (answered request rest) e)
    (runs-ask call (answered request) answer said (kept ∙ sym (append-nil before.out))))
    (runs-print (reply_to request (Some reply)) (λ rest. rest) quiet sent)

-- a call is that of its request
pub call-asked : (request : Request) (call : Call) (To : Exchange → Exchange → Type 0) (said said' : Dialog)
    (Put : List ℕ → Type 0) → call_of request ≡ Some call → Runs (asking_of request call) To said said' Put
    → Runs (replying_to request) To said said' Put
call-asked request call To said said' Put e = runs-from (λ rest. ap (replied request rest) e)

-- a request that is no call was answered
pub reply-answers : (request : Request) (before after : Heard) → call_of request ≡ None → after.said ≡ before.said
    → Sends before after (reply_to request None) → AnswersRequest request before after
reply-answers request before after e quiet sent =
    runs-from (λ rest. ap (replied request rest) e) (runs-print (reply_to request None) (λ rest. rest) quiet sent)

-- nothing was said of a request, and nothing sent
pub silent-breaks : (request : Request) (before after : Heard) → after.said ≡ before.said → after.out ≡ before.out
    → BreaksRequest request before after
silent-breaks request before after quiet kept = runs-begun (runs-nothing (replying_to request) quiet (refl, kept))

-- a request that is not the end is answered, and then come the others
served-next : (request : Request) (others : List Request) (bad : Bool) → request ≢ End
    → served (request ∷ others) bad ≡ replied request (served others bad) (call_of request)
served-next End others bad other = absurd (other refl)
served-next (Look bytes) others bad other = refl
served-next Version others bad other = refl
served-next Host others bad other = refl
served-next (Complete bytes) others bad other = refl

-- Requests one after another

-- of requests the first so many were answered
abbrev pub AnswersFirst : List Request → ℕ → Heard → Heard → Type 0
AnswersFirst asked count before after = RunsOn (with_behind asked) (at (with_behind (drop count asked))) before after

-- none was
pub first-none : (asked : List Request) (heard : Heard) → AnswersFirst asked 0 heard heard
first-none asked heard = runs-nothing (with_behind asked) refl (sym (append-nil heard.out))

-- the request at a place, and what comes behind
pub at-place : (asked : List Request) (count : ℕ) (request : Request) → count < length asked
    → request ≡ get_or asked count request → drop count asked ≡ request ∷ drop (count + 1) asked
at-place asked count request within is =
    drop_more asked count request within ∙ ap (λ r. r ∷ drop (count + 1) asked) (sym is)

-- the next one ran on so
first-then : (asked : List Request) (count : ℕ) (request : Request) (To : Exchange → Exchange → Type 0)
    (Put : List ℕ → Type 0) (before middle after : Heard)
    → ((one two : List ℕ) → Sends before middle one → Put two → Sends before after (one ++ two))
    → drop count asked ≡ request ∷ drop (count + 1) asked → request ≢ End
    → AnswersFirst asked count before middle → Runs (replying_to request) To middle.said after.said Put
    → RunsOn (with_behind asked) (λ behind. To (with_behind (drop (count + 1) asked) behind)) before after
first-then asked count request To Put before middle after puts e other first next =
    runs-then puts first
    (runs-from (λ behind. ap (λ (some : List Request). served (some ++ behind.0) behind.1) e
    ∙ served-next request (drop (count + 1) asked ++ behind.0) behind.1 other)
    (runs-along (with_behind (drop (count + 1) asked)) next))

-- one more was answered
pub first-next : (asked : List Request) (count : ℕ) (request : Request) (before middle after : Heard)
    → drop count asked ≡ request ∷ drop (count + 1) asked → request ≢ End → AnswersFirst asked count before middle
    → AnswersRequest request middle after → AnswersFirst asked (count + 1) before after
first-next asked count request before middle after =
    first-then asked count request (at (λ rest. rest)) (Sends middle after) before middle after
    (sends-on before middle after)

-- or not whole
pub first-broken : (asked : List Request) (count : ℕ) (request : Request) (before middle after : Heard)
    → drop count asked ≡ request ∷ drop (count + 1) asked → request ≢ End → AnswersFirst asked count before middle
    → BreaksRequest request middle after → BreaksRequests asked before after
first-broken asked count request before middle after =
    first-then asked count request anywhere (SendsNone middle after) before middle after
    (sends-none before middle after)

-- the next one is the end
pub first-ended : (asked : List Request) (count : ℕ) (before after : Heard)
    → drop count asked ≡ End ∷ drop (count + 1) asked → AnswersFirst asked count before after
    → AnswersRequests asked before after Over
first-ended asked count before after e =
    runs-to (λ behind. ap (λ (some : List Request). served (some ++ behind.0) behind.1) e)

-- all were answered
pub first-all : (asked : List Request) (count : ℕ) (before after : Heard) → length asked ≤ count
    → AnswersFirst asked count before after → AnswersRequests asked before after More
first-all asked count before after all =
    runs-to (λ behind. ap (λ (some : List Request). served (some ++ behind.0) behind.1) (drop_all count asked all))

-- with nothing behind them but a bad byte
alone : (asked : List Request) (before after : Heard) (going : Going) → AnswersRequests asked before after going
    → RunsOn (λ (behind : Unit {0}). served asked true) (at (λ behind. stood going ([], true))) before after
alone asked before after going answers =
    runs-from (λ behind. ap (λ (some : List Request). served some true) (sym (append-nil asked)))
    (runs-along (λ behind. ([], true)) answers)

-- all were answered, and the byte behind them refused
pub all-refused : (asked : List Request) (before middle after : Heard) → AnswersRequests asked before middle More
    → after.said ≡ middle.said → Sends middle after refusal → RefusesBehind asked before after Over
all-refused asked before middle after answers quiet refused = (
  refl,
  runs-then (sends-on before middle after) (alone asked before middle More answers)
      (runs-print refusal (λ behind. ends over) quiet refused),
)

-- the end came before
pub all-ended : (asked : List Request) (before after : Heard) → AnswersRequests asked before after Over
    → RefusesBehind asked before after Over
all-ended asked before after answers = (refl, alone asked before after Over answers)

-- all were answered, and memory was out then
pub all-broken : (asked : List Request) (before middle after : Heard) (going : Going)
    → AnswersRequests asked before middle going → after.said ≡ middle.said → after.out ≡ middle.out
    → BreaksRequests asked before after
all-broken asked before middle after going answers quiet kept =
    runs-begun (runs-then (sends-on before middle after) answers
    (runs-nothing (stood going) quiet (kept ∙ sym (append-nil middle.out))))

-- Clients

-- the place to which an exchange ran on
led-to : {I : Type 0} {from to : I → Exchange} {said said' : Dialog} {Put : List ℕ → Type 0}
    → (runs : Runs from (at to) said said' Put) → (i : I) → Leads (from i) runs.dialog runs.text (to i)
led-to {from = from} runs i =
    let (there, is, way) = runs.led i in subst (λ end. Leads (from i) runs.dialog runs.text end) is way

-- what was answered, and then more
requests-on : (first then : List Request) (dialog dialog' : Dialog) (sent sent' : List ℕ) (going : Going)
    → RequestsLead first dialog sent More → RequestsLead then dialog' sent' going
    → RequestsLead (first ++ then) (dialog ++ dialog') (sent ++ sent') going
requests-on first then dialog dialog' sent sent' going led on behind =
    subst (λ (all : List Request). Leads (served all behind.1) (dialog ++ dialog') (sent ++ sent') (stood going behind))
    (sym (append_assoc first then behind.0)) (leads-on (led (then ++ behind.0, behind.1)) (on behind))

-- where no place of a bad byte is told, none is bad
pub none-bad : (bytes : List ℕ) → bad_at bytes ≡ None → first_bad bytes ≡ None
none-bad bytes none = by (first_bad bytes) none
  where
    by : (found : Option ℕ) → option_map (λ at. min at last_count) found ≡ None → found ≡ None
    by None e = refl
    by (Some at) e = absurd (none-some (min at last_count) (sym e))

-- and where one is told, one is bad
pub one-bad : (bytes : List ℕ) (at : ℕ) → bad_at bytes ≡ Some at → (place : ℕ) × (first_bad bytes ≡ Some place)
one-bad bytes at some = by (first_bad bytes) some
  where
    by : (found : Option ℕ) → option_map (λ place. min place last_count) found ≡ Some at
        → (place : ℕ) × (found ≡ Some place)
    by None e = absurd (none-some at e)
    by (Some place) e = (place, refl)

-- no byte asks nothing, and none is bad
pub nothing-asked : (requests [] ≡ []) × (first_bad [] ≡ None)
unfolding taken
nothing-asked = (refl, refl)

-- a client of which nothing was read
pub client-new : (feeder : Feeding) → Fed [] feeder → ClientStands feeder [] [] []
client-new feeder fed = (
  fed,
  nothing-asked.1,
  subst (λ (asked : List Request). RequestsLead asked [] [] More) (sym nothing-asked.0)
      (λ behind. here (with_behind [] behind)),
)

-- what a client's bytes come to, by their requests and whether a byte is bad
pub client-by : (bytes : List ℕ) (asked : List Request) (bad : Bool) (dialog : Dialog) (sent : List ℕ) (to : Exchange)
    → requests bytes ≡ asked → is_some (first_bad bytes) ≡ bad → Leads (served asked bad) dialog sent to
    → Leads (client bytes) dialog sent to
client-by bytes asked bad dialog sent to e f led =
    subst (λ (all : List Request). Leads (served all (is_some (first_bad bytes))) dialog sent to) (sym e)
    (subst (λ b. Leads (served asked b) dialog sent to) (sym f) led)

-- a client's connection that goes on has answered all
pub client-all : (bytes : List ℕ) (dialog : Dialog) (sent : List ℕ) (feeder : Feeding)
    → ClientStands feeder bytes dialog sent → Leads (client bytes) dialog sent (ends more)
client-all bytes dialog sent feeder stands =
    client-by bytes (requests bytes ++ []) false dialog sent (ends more) (sym (append-nil (requests bytes)))
    (ap is_some stands.1) (stands.2 ([], false))

-- its next bytes were answered
pub client-on : (bytes : List ℕ) (feeder feeder' : Feeding) (asked : List Request) (dialog : Dialog) (sent : List ℕ)
    (going : Going) → RequestsMore → Reads feeder bytes feeder' asked
    → ((before : List ℕ) → Fed before feeder → bad_at (before ++ bytes) ≡ None)
    → RequestsLead asked dialog sent going
    → Carries (ClientStands feeder) (ClientGoes feeder' going) bytes dialog sent
client-on bytes feeder feeder' asked dialog sent More more' reads good led earlier known known_sent stands =
    let read = reads earlier stands.0 in (
      read.0,
      none-bad (earlier ++ bytes) (good earlier stands.0),
      subst (λ (all : List Request). RequestsLead all (known ++ dialog) (known_sent ++ sent) More) (sym read.1)
          (requests-on (requests earlier) asked known dialog known_sent sent More stands.2 led),
    )
client-on bytes feeder feeder' asked dialog sent Over more' reads good led earlier known known_sent stands = λ later.
    let read = reads earlier stands.0 in
    let all = (earlier ++ bytes) ++ later in
    let behind = more' (earlier ++ bytes) later in
    client-by all ((requests earlier ++ asked) ++ behind.0) (is_some (first_bad all)) (known ++ dialog)
    (known_sent ++ sent) (ends over) (behind.1 ∙ ap (λ some. some ++ behind.0) read.1) refl
    (requests-on (requests earlier) asked known dialog known_sent sent Over stands.2 led
    (behind.0, is_some (first_bad all)))

-- they were answered, and a bad byte behind them refused
pub client-refused : (bytes : List ℕ) (feeder feeder' : Feeding) (asked : List Request) (dialog : Dialog)
    (sent : List ℕ) (at : ℕ) → RequestsStay → Reads feeder bytes feeder' asked
    → ((before : List ℕ) → Fed before feeder → bad_at (before ++ bytes) ≡ Some at)
    → Leads (served asked true) dialog sent (ends over)
    → Carries (ClientStands feeder) (ClientGoes feeder' Over) bytes dialog sent
client-refused bytes feeder feeder' asked dialog sent at stay reads bad led earlier known known_sent stands later =
    let there = one-bad (earlier ++ bytes) at (bad earlier stands.0) in
    let still = stay (earlier ++ bytes) later there.0 there.1 in
    client-by ((earlier ++ bytes) ++ later) (requests earlier ++ asked) true (known ++ dialog) (known_sent ++ sent)
    (ends over) (still.0 ∙ (reads earlier stands.0).1) (ap is_some still.1) (leads-on (stands.2 (asked, true)) led)

-- or some of them were
pub client-broken : (bytes : List ℕ) (feeder feeder' : Feeding) (asked : List Request) (dialog : Dialog)
    (sent : List ℕ) → Reads feeder bytes feeder' asked
    → ((behind : Behind) → (to : Exchange) × Leads (with_behind asked behind) dialog sent to)
    → Carries (ClientStands feeder) ClientBreaks bytes dialog sent
client-broken bytes feeder feeder' asked dialog sent reads led earlier known known_sent stands =
    let bad = is_some (first_bad (earlier ++ bytes)) in
    let broken = led ([], bad) in (
      earlier ++ bytes,
      [],
      sym (append-nil (earlier ++ bytes)),
      broken.0,
      client-by (earlier ++ bytes) (requests earlier ++ (asked ++ [])) bad (known ++ dialog) (known_sent ++ sent)
          broken.0
          ((reads earlier stands.0).1 ∙ ap (λ more. requests earlier ++ more) (sym (append-nil asked))) refl
          (leads-on (stands.2 (asked ++ [], bad)) broken.1),
    )

-- or none
pub client-unread : (bytes : List ℕ) (feeder : Feeding) → Carries (ClientStands feeder) ClientBreaks bytes [] []
client-unread bytes feeder earlier known known_sent stands = (
  earlier,
  bytes,
  refl,
  ends more,
  subst (λ (d : Dialog). Leads (client earlier) d (known_sent ++ []) (ends more)) (sym (append-nil known))
      (subst (λ (s : List ℕ). Leads (client earlier) known s (ends more)) (sym (append-nil known_sent))
      (client-all earlier known known_sent feeder stands)),
)

-- What a feeder read

-- what was added to no request was read
pub feeds-reads : (feeder feeder' : Feeding) (bytes : List ℕ) (into into' : List Request) → into ≡ []
    → Feeds feeder bytes feeder' into into' → Reads feeder bytes feeder' into'
feeds-reads feeder feeder' bytes into into' none (read, e, reads) =
    subst (Reads feeder bytes feeder') (sym (e ∙ ap (λ (first : List Request). first ++ read) none)) reads

-- what was read was answered
pub read-answers : (bytes : List ℕ) (feeder feeder' : Feeding) (asked : List Request) (before after : Heard)
    (going : Going) → RequestsMore → Reads feeder bytes feeder' asked
    → ((earlier : List ℕ) → Fed earlier feeder → bad_at (earlier ++ bytes) ≡ None)
    → AnswersRequests asked before after going → AnswersBytes bytes feeder feeder' before after going
read-answers bytes feeder feeder' asked before after going more' reads good runs = (
  runs.dialog,
  runs.text,
  (runs.grows, runs.put),
  client-on bytes feeder feeder' asked runs.dialog runs.text going more' reads good (led-to runs),
)

-- and the bad byte behind it refused
pub read-refuses : (bytes : List ℕ) (feeder feeder' : Feeding) (asked : List Request) (before after : Heard)
    (going : Going) (place : ℕ) → RequestsStay → Reads feeder bytes feeder' asked
    → ((earlier : List ℕ) → Fed earlier feeder → bad_at (earlier ++ bytes) ≡ Some place)
    → RefusesBehind asked before after going → AnswersBytes bytes feeder feeder' before after going
read-refuses bytes feeder feeder' asked before after going place stay reads bad (over', runs) =
    subst (AnswersBytes bytes feeder feeder' before after) (sym over') (
      runs.dialog,
      runs.text,
      (runs.grows, runs.put),
      client-refused bytes feeder feeder' asked runs.dialog runs.text place stay reads bad (led-to runs tt),
    )

-- or some of it was answered
pub read-breaks : (bytes : List ℕ) (feeder feeder' : Feeding) (asked : List Request) (before after : Heard)
    → Reads feeder bytes feeder' asked → BreaksRequests asked before after → BreaksBytes bytes feeder before after
read-breaks bytes feeder feeder' asked before after reads runs = (
  runs.dialog,
  runs.text,
  (runs.grows, runs.put),
  client-broken bytes feeder feeder' asked runs.dialog runs.text reads
      (λ behind. let (there, any, way) = runs.led behind in (there, way)),
)

-- or nothing was read
pub unread-breaks : (bytes : List ℕ) (feeder : Feeding) (heard : Heard) → BreaksBytes bytes feeder heard heard
unread-breaks bytes feeder heard =
    ([], [], (sym (append-nil heard.said), sym (append-nil heard.out)), client-unread bytes feeder)
