-- What a front of the bytes of a connection comes to is the first of what all of them come to.
use Rattle.std.proofs.Common.{◌≡◌, ℕ, ◌==◌, Bool, true, false, Option, None, Some, List, [], ◌∷◌, ◌++◌, refl, sym, ap}
use Rattle.std.proofs.Common.{◌∙◌, subst, encode_utf8_all}
use Rattle.std.specs.Option.{is_some}
use Rattle.skk_text.specs.Characters.{code}
use Rattle.romaji_rules.specs.declared.rule.Rule.{Rule}
use Rattle.skk_outside.specs.Written.{IsPrefix}
use Rattle.skk_calls.specs.declared.answer.Answer.{Answer}
use Rattle.skk_calls.specs.declared.answer.Answer.TheVariants.{Done, Refused}
use Rattle.skk_calls.specs.declared.call.Call.{Call}
use Rattle.skk_calls.specs.Interactions.{ends, asks, prints, Dialog, Leads}
use Rattle.skkserv_proto.specs.declared.request.Request.{Request}
use Rattle.skkserv_proto.specs.declared.request.Request.TheVariants.{End, Look, Version, Host, Complete}
use Rattle.skkserv_proto.specs.Replies.{call_of}
use Rattle.skkserv_proto.specs.Requests.{requests, first_bad}
use Rattle.typist_line.specs.Conversations.{Conversation, Converses}
use Rattle.typist_line.specs.FirstLaws.{leads-first, first-itself}
use Rattle.typist_line.specs.Firsts.{IsFirstOf}
use Rattle.skk_server.specs.Connections.{Exchange, more, answered, replied, served, client, in_bytes, Means, MeansOf}
use Rattle.skk_server.specs.Ends.{AnswersSome}
use Rattle.skk_server.proofs.Requests.{RequestsMore, RequestsStay, nothing-asked}

-- Clients

-- a request is answered alike, whatever comes behind it
replied-first : (request : Request) (rest other : Exchange) (call : Option Call) → IsFirstOf rest other
    → IsFirstOf (replied request rest call) (replied request other call)
replied-first request rest other None first = (refl, first)
replied-first request rest other (Some call) first = (refl, by)
  where
    by : (answer : Answer) → IsFirstOf (answered request rest answer) (answered request other answer)
    by (Done reply) = (refl, first)
    by (Refused why) = tt

-- requests are answered alike, whatever comes behind them
served-first : (asked later : List Request) (bad : Bool) → IsFirstOf (served asked false) (served (asked ++ later) bad)
served-first [] later bad = tt
served-first (End ∷ asked) later bad = tt
served-first (Look bytes ∷ asked) later bad =
    replied-first (Look bytes) (served asked false) (served (asked ++ later) bad) (call_of (Look bytes))
    (served-first asked later bad)
served-first (Version ∷ asked) later bad =
    replied-first Version (served asked false) (served (asked ++ later) bad) (call_of Version)
    (served-first asked later bad)
served-first (Host ∷ asked) later bad =
    replied-first Host (served asked false) (served (asked ++ later) bad) (call_of Host)
    (served-first asked later bad)
served-first (Complete bytes ∷ asked) later bad =
    replied-first (Complete bytes) (served asked false) (served (asked ++ later) bad) (call_of (Complete bytes))
    (served-first asked later bad)

client-first : RequestsMore → RequestsStay → (front rest : List ℕ) → IsFirstOf (client front) (client (front ++ rest))
client-first later stay front rest = by (first_bad front) refl
  where
    by : (found : Option ℕ) → first_bad front ≡ found → IsFirstOf (client front) (client (front ++ rest))
    by None e =
        let (asked, all) = later front rest in
        let bad = is_some (first_bad (front ++ rest)) in
        subst (λ b. IsFirstOf (served (requests front) b) (client (front ++ rest))) (sym (ap is_some e))
        (subst (λ (some : List Request). IsFirstOf (served (requests front) false) (served some bad)) (sym all)
        (served-first (requests front) asked bad))
    by (Some at) e =
        let (same, still) = stay front rest at e in
        subst (λ (some : List Request). IsFirstOf (client front) (served some (is_some (first_bad (front ++ rest)))))
        (sym same)
        (subst (λ (found : Option ℕ). IsFirstOf (client front) (served (requests front) (is_some found)))
        (e ∙ sym still) (first-itself (client front)))

-- no byte comes to nothing
client-none : client [] ≡ ends more
client-none =
    ap (λ (asked : List Request). served asked (is_some (first_bad []))) nothing-asked.0
    ∙ ap (λ (found : Option ℕ). served [] (is_some found)) nothing-asked.1

-- Typists

-- a conversation is the first of another in bytes too
in-bytes-first : (from other : Conversation) → IsFirstOf from other → IsFirstOf (in_bytes from) (in_bytes other)
in-bytes-first (ends typist) other first = tt
in-bytes-first (asks call next) (asks call' next') first =
    (first.0, λ answer. in-bytes-first (next answer) (next' answer) (first.1 answer))
in-bytes-first (prints text rest) (prints text' rest') first =
    (ap encode_utf8_all first.0, in-bytes-first rest rest' first.1)
in-bytes-first (asks call next) (ends typist) first = absurd first
in-bytes-first (asks call next) (prints text rest) first = absurd first
in-bytes-first (prints text rest) (ends typist) first = absurd first
in-bytes-first (prints text rest) (asks call next) first = absurd first

-- what a front of a typist's bytes comes to is the first of what all of them come to
abbrev pub ConversesFirst : Type 0
ConversesFirst =
    (rules : List Rule) (front rest : List ℕ) (meaning whole : Conversation) → Converses rules front meaning
    → Converses rules (front ++ rest) whole → IsFirstOf meaning whole

-- Connections

-- what a front of a connection's bytes comes to is the first of what all of them come to
abbrev pub FrontsFirst : Type 0
FrontsFirst =
    (rules : List Rule) (front rest : List ℕ) (exchange whole : Exchange) → Means rules front exchange
    → Means rules (front ++ rest) whole → IsFirstOf exchange whole

pub exchange-first : ConversesFirst → RequestsMore → RequestsStay → FrontsFirst
exchange-first typists later stay rules [] rest exchange whole is all =
    subst (λ (e : Exchange). IsFirstOf e whole) (sym (is ∙ client-none)) tt
exchange-first typists later stay rules (byte ∷ front) rest exchange whole is all = by (byte == code "T") is all
  where
    by : (b : Bool) → MeansOf b rules (byte ∷ front) exchange → MeansOf b rules (byte ∷ front ++ rest) whole
        → IsFirstOf exchange whole
    by true (first, converses, e) (conversation, all_converse, f) =
        subst (λ (x : Exchange). IsFirstOf x whole) (sym e)
        (subst (IsFirstOf (in_bytes first)) (sym f)
        (in-bytes-first first conversation
        (typists rules (byte ∷ front) rest first conversation converses all_converse)))
    by false e f =
        subst (λ (x : Exchange). IsFirstOf x whole) (sym e)
        (subst (IsFirstOf (client (byte ∷ front))) (sym f) (client-first later stay (byte ∷ front) rest))

-- what a front came to was asked and sent in part, and so was what all bytes come to
pub answers-some : (rules : List Rule) (bytes front rest : List ℕ) (dialog : Dialog) (sent replies : List ℕ)
    (exchange to : Exchange) → FrontsFirst → bytes ≡ front ++ rest → Means rules front exchange
    → Leads exchange dialog replies to → IsPrefix sent replies → AnswersSome rules bytes dialog sent
answers-some rules bytes front rest dialog sent replies exchange to fronts e means led begun =
    record {
      front = front;
      rest = rest;
      bytes_are = e;
      exchange = exchange;
      means = means;
      replies = replies;
      to = to;
      led = led;
      begun = begun;
      first_of_all = λ whole all.
          leads-first led whole
          (fronts rules front rest exchange whole means (subst (λ (b : List ℕ). Means rules b whole) e all));
    }
