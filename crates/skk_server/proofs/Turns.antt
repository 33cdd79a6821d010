-- How a connection is served, turn by turn.
use Rattle.std.proofs.Common.{◌≡◌, ◌≤◌, ℕ, ◌+◌, List, [], ◌++◌, length, refl, sym, ap, ◌∙◌, subst, arith}
use Rattle.std.proofs.Common.{append-nil, append_assoc, length-append, ◌⊎◌, inl, inr}
use Rattle.std.proofs.KnownBytes.{Appends-nil, Appends-trans, Consumes-nil, Consumes-trans}
use Rattle.std.specs.Io.KnownBytes.{Appends, Consumes}
use Rattle.romaji_rules.specs.declared.rule.Rule.{Rule}
use Rattle.skk_outside.specs.declared.outside.Outside.{Ghosts as OutsideGhosts}
use Rattle.skk_outside.specs.Faults.{Rose}
use Rattle.skk_outside.specs.Moved.{Told}
use Rattle.skk_outside.specs.Written.{IsPrefix}
use Rattle.skk_calls.specs.Interactions.{ends, Dialog, here}
use Rattle.typist_line.specs.declared.typing.Going.{Going}
use Rattle.typist_line.specs.declared.typing.Going.TheVariants.{More, Over}
use Rattle.skk_server.specs.declared.end.End.{End}
use Rattle.skk_server.specs.declared.end.End.TheVariants.{Closed, LinkFault, Limit, Memory}
use Rattle.skk_server.specs.declared.talk.Talk.{Talk}
use Rattle.skk_server.specs.declared.talk.Talk.TheVariants.{New}
use Rattle.skk_server.specs.Connections.{more, over}
use Rattle.skk_server.specs.Ends.{MovedLink, AnswersAll, AnswersSome, AnswersFront, EndsBy, Serves, longest_piece}
use Rattle.skk_server.specs.Ends.{most_bytes, moved_link}
use Rattle.skk_server.specs.Turns.{Standing, Carries, StandsAt, Goes, Answers, Breaks, GoesOn, IsSent, EndsIn, EndsWith}
use Rattle.skk_server.specs.Turns.{AnswersPart, EndsPart, AnswersRead, EndsRead, StopsReading, TakesTurn, EndsTurn}
use Rattle.skk_server.specs.Turns.{ServesSoFar}
use Rattle.skk_server.proofs.Fronts.{FrontsFirst}
use Rattle.skk_server.proofs.Standing.{answers-all, all-some, some-less, some-wider, prefix-behind, nothing-means}
use Rattle.skk_server.proofs.Typists.{LeadsThere}

-- Faults

-- a count that rose did so also from before
pub rose-before : (first before after : ℕ) → first ≤ before → Rose before after → Rose first after
rose-before first before after few rose = omega (arith, few, rose)

-- Ends of a turn

-- bytes are all but none of them
front-all : (rules : List Rule) (bytes : List ℕ) (dialog : Dialog) (sent : List ℕ)
    → AnswersAll rules bytes dialog sent more → AnswersFront rules bytes dialog sent
front-all rules bytes dialog sent all =
    record {
      front = bytes;
      rest = [];
      bytes_are = sym (append-nil bytes);
      few = omega (arith);
      asked = dialog;
      asked_then = [];
      dialog_is = sym (append-nil dialog);
      replies = sent;
      replies_then = [];
      sent_is = sym (append-nil sent);
      answers = all;
    }

-- a property of bytes, a dialog and what is sent is one of them with nothing more
with-nothing : (P : List ℕ → Dialog → List ℕ → Type 0) (bytes : List ℕ) (dialog : Dialog) (sent nothing : List ℕ)
    → nothing ≡ [] → P bytes dialog sent → P (bytes ++ []) (dialog ++ []) (sent ++ nothing)
with-nothing P bytes dialog sent nothing none p =
    subst (λ (n : List ℕ). P (bytes ++ []) (dialog ++ []) (sent ++ n)) (sym none)
    (subst (λ (b : List ℕ). P b (dialog ++ []) (sent ++ [])) (sym (append-nil bytes))
    (subst (λ (d : Dialog). P bytes d (sent ++ [])) (sym (append-nil dialog))
    (subst (λ (s : List ℕ). P bytes dialog s) (sym (append-nil sent)) p)))

-- nothing was read
pub ends-unread : (rules : List Rule) (link : MovedLink) (said : Dialog) (talk : Talk) (taken : ℕ) (end : End)
    → LeadsThere → FrontsFirst → StopsReading link end → link.written' ≡ link.written → taken ≤ most_bytes
    → EndsTurn rules link said said talk taken end
ends-unread rules link said talk taken end there fronts stops kept few =
    record {
      piece = [];
      dialog = [];
      sent = [];
      takes = taken-none end stops;
      writes = subst (λ w. Appends link.written w []) (sym kept) (Appends-nil link.written);
      says = sym (append-nil said);
      few = omega (arith, few);
      ends_so = λ bytes known known_sent at.
          with-nothing (λ b d s. EndsBy rules link b d s end) bytes known known_sent [] refl
          (ends bytes known known_sent end stops (answers-all rules talk bytes known known_sent there at));
    }
  where
    taken-none : (end' : End) → StopsReading link end' → Consumes link.left link.left' []
    taken-none Closed stops' = stops'.0
    taken-none LinkFault stops' = stops'.0
    taken-none Limit stops' = absurd stops'
    taken-none Memory stops' = absurd stops'

    ends : (bytes : List ℕ) (known : Dialog) (known_sent : List ℕ) (end' : End) → StopsReading link end'
        → AnswersAll rules bytes known known_sent more → EndsBy rules link bytes known known_sent end'
    ends bytes known known_sent Closed stops' all = inr (all, stops'.1)
    ends bytes known known_sent LinkFault stops' all = (
      all-some rules bytes known known_sent known_sent more fronts all ([], sym (append-nil known_sent)),
      front-all rules bytes known known_sent all,
      stops'.1,
    )
    ends bytes known known_sent Limit stops' all = absurd stops'
    ends bytes known known_sent Memory stops' all = absurd stops'

-- what goes on or is over was answered, also where more bytes stand behind
goes-some : (rules : List Rule) (talk : Talk) (bytes later : List ℕ) (dialog : Dialog) (sent less : List ℕ)
    (going : Going) → LeadsThere → FrontsFirst → Goes rules talk going bytes dialog sent → IsPrefix less sent
    → AnswersSome rules (bytes ++ later) dialog less
goes-some rules talk bytes later dialog sent less More there fronts goes begun =
    some-wider rules bytes later dialog less fronts
    (all-some rules bytes dialog less sent more fronts (answers-all rules talk bytes dialog sent there goes) begun)
goes-some rules talk bytes later dialog sent less Over there fronts goes begun =
    all-some rules (bytes ++ later) dialog less sent over fronts (goes later) begun

-- Parts of what was read

-- the replies of a part were kept
pub part-kept : (rules : List Rule) (written : Told) (said said' : Dialog) (talk talk' : Talk) (part : List ℕ)
    (out out' : List ℕ)
    → Answers rules part talk talk' (record { said = said; out = out }) (record { said = said'; out = out' }) More
    → AnswersPart rules written written said said' talk talk' out out' part
part-kept rules written said said' talk talk' part out out' (dialog, sent, adds, goes) =
    record { dialog = dialog; replies = sent; says = adds.0; stands = goes; kept_so = inl (refl, adds.1) }

-- or sent
pub part-sent : (rules : List Rule) (written written' : Told) (said said' : Dialog) (talk talk' : Talk)
    (part : List ℕ) (out out' : List ℕ)
    → Answers rules part talk talk' (record { said = said; out = out }) (record { said = said'; out = out' }) More
    → Appends written written' out' → AnswersPart rules written written' said said' talk talk' out [] part
part-sent rules written written' said said' talk talk' part out out' (dialog, sent, adds, goes) writes =
    record {
      dialog = dialog;
      replies = sent;
      says = adds.0;
      stands = goes;
      kept_so = inr (subst (Appends written written') adds.1 writes, refl);
    }

-- they were sent, and the connection is over
pub part-over : (rules : List Rule) (link : MovedLink) (said said' : Dialog) (talk talk' : Talk) (part : List ℕ)
    (out out' : List ℕ)
    → Answers rules part talk talk' (record { said = said; out = out }) (record { said = said'; out = out' }) Over
    → Appends link.written link.written' out' → EndsPart rules link said said' talk out part Closed
part-over rules link said said' talk talk' part out out' (dialog, sent, adds, goes) writes =
    record {
      dialog = dialog;
      replies = sent;
      sent = out';
      says = adds.0;
      writes = writes;
      sent_so = adds.1;
      rose = λ other. cc (other);
      ends_so = λ bytes known known_sent at later less all.
          subst (λ (s : List ℕ). AnswersAll rules ((bytes ++ part) ++ later) (known ++ dialog) s over) (sym all)
          (goes bytes known known_sent at later);
    }

-- the first of them were sent, and then a write failed
pub part-unsent : (rules : List Rule) (link : MovedLink) (said said' : Dialog) (talk talk' : Talk) (part : List ℕ)
    (out out' less : List ℕ) (going : Going) → LeadsThere → FrontsFirst
    → Answers rules part talk talk' (record { said = said; out = out }) (record { said = said'; out = out' }) going
    → IsPrefix less out' → Appends link.written link.written' less → Rose link.faults link.faults'
    → EndsPart rules link said said' talk out part LinkFault
part-unsent rules link said said' talk talk' part out out' less going there fronts (dialog, sent, adds, goes) begun
    writes rose =
    record {
      dialog = dialog;
      replies = sent;
      sent = less;
      says = adds.0;
      writes = writes;
      sent_so = (begun.0, sym adds.1 ∙ begun.1);
      rose = λ same. rose;
      ends_so = λ bytes known known_sent at later few first.
          goes-some rules talk' (bytes ++ part) later (known ++ dialog) (known_sent ++ sent) few going there fronts
          (goes bytes known known_sent at) first;
    }

-- memory was out, and what there was of them was sent, or the first of it
pub part-broken : (rules : List Rule) (link : MovedLink) (said said' : Dialog) (talk : Talk) (part : List ℕ)
    (out out' less : List ℕ) → FrontsFirst
    → Breaks rules part talk (record { said = said; out = out }) (record { said = said'; out = out' })
    → IsPrefix less out' → Appends link.written link.written' less
    → EndsPart rules link said said' talk out part Memory
part-broken rules link said said' talk part out out' less fronts (dialog, sent, adds, breaks) begun writes =
    record {
      dialog = dialog;
      replies = sent;
      sent = less;
      says = adds.0;
      writes = writes;
      sent_so = (begun.0, sym adds.1 ∙ begun.1);
      rose = λ other. cc (other);
      ends_so = λ bytes known known_sent at later few first.
          some-wider rules (bytes ++ part) later (known ++ dialog) few fronts
          (some-less rules (bytes ++ part) (known ++ dialog) (known_sent ++ sent) few (breaks bytes known known_sent at)
          first);
    }

-- All that was read

-- no part yet
pub read-none : (rules : List Rule) (written : Told) (said : Dialog) (talk : Talk) (kept : List ℕ) → kept ≡ []
    → AnswersRead rules written written said said talk talk kept []
read-none rules written said talk kept none =
    record {
      dialog = [];
      sent = [];
      says = sym (append-nil said);
      writes = Appends-nil written;
      stands = λ bytes known known_sent at.
          with-nothing (StandsAt rules talk) bytes known known_sent kept none at;
    }

-- what is sent behind what was kept, where a part was answered: what is kept then, or nothing
kept-on : (written middle written' : Told) (sent kept kept' replies : List ℕ) → Appends written middle sent
    → ((written' ≡ middle) × (kept' ≡ kept ++ replies)) ⊎ (Appends middle written' (kept ++ replies) × (kept' ≡ []))
    → (sent' : List ℕ) × Appends written written' sent' × ((sent ++ kept) ++ replies ≡ sent' ++ kept')
kept-on written middle written' sent kept kept' replies writes (inl (same, kept_is)) = (
  sent,
  subst (λ w. Appends written w sent) (sym same) writes,
  append_assoc sent kept replies ∙ ap (λ k. sent ++ k) (sym kept_is),
)
kept-on written middle written' sent kept kept' replies writes (inr (further, none)) = (
  sent ++ (kept ++ replies),
  Appends-trans written middle written' sent (kept ++ replies) writes further,
  append_assoc sent kept replies ∙ (sym (append-nil (sent ++ (kept ++ replies)))
      ∙ ap (λ k. (sent ++ (kept ++ replies)) ++ k) (sym none)),
)

-- a connection is carried on, and then further
carries-on : (Stood Middle Stands : Standing) (front part : List ℕ) (dialog dialog' : Dialog) (sent sent' : List ℕ)
    → Carries Stood Middle front dialog sent → Carries Middle Stands part dialog' sent'
    → Carries Stood Stands (front ++ part) (dialog ++ dialog') (sent ++ sent')
carries-on Stood Middle Stands front part dialog dialog' sent sent' first then bytes known known_sent at =
    subst (λ (b : List ℕ). Stands b (known ++ (dialog ++ dialog')) (known_sent ++ (sent ++ sent')))
    (append_assoc bytes front part)
    (subst (λ (d : Dialog). Stands ((bytes ++ front) ++ part) d (known_sent ++ (sent ++ sent')))
    (append_assoc known dialog dialog')
    (subst (λ (s : List ℕ). Stands ((bytes ++ front) ++ part) ((known ++ dialog) ++ dialog') s)
    (append_assoc known_sent sent sent')
    (then (bytes ++ front) (known ++ dialog) (known_sent ++ sent) (first bytes known known_sent at))))

-- a part more
pub read-on : (rules : List Rule) (written middle written' : Told) (said said' said'' : Dialog)
    (talk talk' talk'' : Talk) (kept kept' front part : List ℕ)
    → AnswersRead rules written middle said said' talk talk' kept front
    → AnswersPart rules middle written' said' said'' talk' talk'' kept kept' part
    → AnswersRead rules written written' said said'' talk talk'' kept' (front ++ part)
read-on rules written middle written' said said' said'' talk talk' talk'' kept kept' front part read more' =
    let sent = kept-on written middle written' read.sent kept kept' more'.replies read.writes more'.kept_so in
    record {
      dialog = read.dialog ++ more'.dialog;
      sent = sent.0;
      says = more'.says ∙ ap (λ d. d ++ more'.dialog) read.says ∙ append_assoc said read.dialog more'.dialog;
      writes = sent.1;
      stands = subst (GoesOn rules talk talk'' (front ++ part) (read.dialog ++ more'.dialog)) sent.2
          (carries-on (StandsAt rules talk) (StandsAt rules talk') (StandsAt rules talk'') front part read.dialog
          more'.dialog (read.sent ++ kept) more'.replies read.stands more'.stands);
    }

-- so much more was sent where it was sent behind other replies
sent-more : (known less replies : List ℕ) (end : End) → IsSent less replies end
    → IsSent (known ++ less) (known ++ replies) end
sent-more known less replies Closed is = ap (λ l. known ++ l) is
sent-more known less replies LinkFault is = prefix-behind known replies less is
sent-more known less replies Limit is = prefix-behind known replies less is
sent-more known less replies Memory is = prefix-behind known replies less is

-- so much of all replies was sent, where so much of those of a part and those before it was
sent-behind : (known sent kept replies less : List ℕ) (end : End) → IsSent less (kept ++ replies) end
    → IsSent (known ++ (sent ++ less)) (known ++ ((sent ++ kept) ++ replies)) end
sent-behind known sent kept replies less end is =
    subst (λ all. IsSent (known ++ (sent ++ less)) (known ++ all) end) (sym (append_assoc sent kept replies))
    (sent-more known (sent ++ less) (sent ++ (kept ++ replies)) end
    (sent-more sent less (kept ++ replies) end is))

-- the connection ends with a part, behind which other bytes may have been read
pub read-ends : {L : Type 0} (rules : List Rule) (links : OutsideGhosts L) (first middle last : L)
    (said said' said'' : Dialog) (talk talk' : Talk) (kept front part later piece : List ℕ) (end : End)
    → AnswersRead rules (links.written first) (links.written middle) said said' talk talk' kept front
    → links.faults first ≤ links.faults middle
    → EndsPart rules (moved_link links middle last) said' said'' talk' kept part end
    → front ++ (part ++ later) ≡ piece
    → EndsRead rules (moved_link links first last) said said'' talk piece end
read-ends rules links first middle last said said' said'' talk talk' kept front part later piece end read
    few ends' is =
    record {
      dialog = read.dialog ++ ends'.dialog;
      sent = read.sent ++ ends'.sent;
      says = ends'.says ∙ ap (λ d. d ++ ends'.dialog) read.says ∙ append_assoc said read.dialog ends'.dialog;
      writes = Appends-trans (links.written first) (links.written middle) (links.written last) read.sent ends'.sent
          read.writes
          ends'.writes;
      rose = λ same. rose-before (links.faults first) (links.faults middle) (links.faults last) few (ends'.rose same);
      ends_so = λ bytes known known_sent at.
          subst (λ (b : List ℕ). EndsIn rules end b (known ++ (read.dialog ++ ends'.dialog))
          (known_sent ++ (read.sent ++ ends'.sent)))
          (append_assoc bytes (front ++ part) later ∙ ap (λ b. bytes ++ b) (append_assoc front part later ∙ is))
          (carries-on (StandsAt rules talk) (StandsAt rules talk') (EndsWith rules end) front part read.dialog
          ends'.dialog (read.sent ++ kept) ends'.replies read.stands ends'.ends_so bytes known known_sent at later
          (known_sent ++ (read.sent ++ ends'.sent))
          (sent-behind known_sent read.sent kept ends'.replies ends'.sent end ends'.sent_so));
    }

-- what was kept was sent
pub read-sent : (rules : List Rule) (written middle written' : Told) (said said' : Dialog) (talk talk' : Talk)
    (kept piece : List ℕ) → AnswersRead rules written middle said said' talk talk' kept piece
    → Appends middle written' kept → AnswersRead rules written written' said said' talk talk' [] piece
read-sent rules written middle written' said said' talk talk' kept piece read writes =
    record {
      dialog = read.dialog;
      sent = read.sent ++ kept;
      says = read.says;
      writes = Appends-trans written middle written' read.sent kept read.writes writes;
      stands = λ bytes known known_sent at.
          subst (λ (s : List ℕ). StandsAt rules talk' (bytes ++ piece) (known ++ read.dialog) (known_sent ++ s))
          (sym (append-nil (read.sent ++ kept))) (read.stands bytes known known_sent at);
    }

-- or the first of it, and then a write failed
pub read-unsent : (rules : List Rule) (link : MovedLink) (middle : Told) (faults : ℕ) (said said' : Dialog)
    (talk talk' : Talk) (kept less piece : List ℕ) → LeadsThere → FrontsFirst
    → AnswersRead rules link.written middle said said' talk talk' kept piece → IsPrefix less kept
    → Appends middle link.written' less → link.faults ≤ faults → Rose faults link.faults'
    → EndsRead rules link said said' talk piece LinkFault
read-unsent rules link middle faults said said' talk talk' kept less piece there fronts read begun writes few rose =
    record {
      dialog = read.dialog;
      sent = read.sent ++ less;
      says = read.says;
      writes = Appends-trans link.written middle link.written' read.sent less read.writes writes;
      rose = λ same. rose-before link.faults faults link.faults' few rose;
      ends_so = λ bytes known known_sent at.
          all-some rules (bytes ++ piece) (known ++ read.dialog) (known_sent ++ (read.sent ++ less))
          (known_sent ++ (read.sent ++ kept)) more fronts
          (answers-all rules talk' (bytes ++ piece) (known ++ read.dialog) (known_sent ++ (read.sent ++ kept)) there
          (read.stands bytes known known_sent at))
          (prefix-behind known_sent (read.sent ++ kept) (read.sent ++ less)
          (prefix-behind read.sent kept less begun));
    }

-- Turns

-- a connection ends in a turn
pub turn-ends : {L : Type 0} (rules : List Rule) (links : OutsideGhosts L) (first middle last : L)
    (said said' : Dialog) (talk : Talk) (taken : ℕ) (piece : List ℕ) (end : End) → LeadsThere
    → EndsRead rules (moved_link links middle last) said said' talk piece end
    → links.written middle ≡ links.written first → links.faults first ≤ links.faults middle → Consumes
    (links.left first) (links.left last) piece
    → length piece ≤ longest_piece → taken + length piece ≤ most_bytes
    → EndsTurn rules (moved_link links first last) said said' talk taken end
turn-ends rules links first middle last said said' talk taken piece end there ends' kept fewer takes short
    few =
    record {
      piece = piece;
      dialog = ends'.dialog;
      sent = ends'.sent;
      takes = takes;
      writes = subst (λ w. Appends w (links.written last) ends'.sent) kept ends'.writes;
      says = ends'.says;
      few = few;
      ends_so = λ bytes known known_sent at.
          ends-by end bytes known known_sent at
          (λ same. rose-before (links.faults first) (links.faults middle) (links.faults last) fewer (ends'.rose same))
          (ends'.ends_so bytes known known_sent at);
    }
  where
    ends-by : (end' : End) (bytes : List ℕ) (known : Dialog) (known_sent : List ℕ)
        → StandsAt rules talk bytes known known_sent → (end' ≡ LinkFault → Rose (links.faults first)
        (links.faults last))
        → EndsIn rules end' (bytes ++ piece) (known ++ ends'.dialog) (known_sent ++ ends'.sent)
        → EndsBy rules (moved_link links first last) (bytes ++ piece) (known ++ ends'.dialog)
        (known_sent ++ ends'.sent) end'
    ends-by Closed bytes known known_sent at rose ends_in = inl ends_in
    ends-by LinkFault bytes known known_sent at rose ends_in = (
      ends_in,
      record {
        front = bytes;
        rest = piece;
        bytes_are = refl;
        few = short;
        asked = known;
        asked_then = ends'.dialog;
        dialog_is = refl;
        replies = known_sent;
        replies_then = ends'.sent;
        sent_is = refl;
        answers = answers-all rules talk bytes known known_sent there at;
      },
      rose refl,
    )
    ends-by Limit bytes known known_sent at rose ends_in = absurd ends_in
    ends-by Memory bytes known known_sent at rose ends_in = ends_in

-- All turns

-- nothing was read yet
pub so-far-new : {L : Type 0} (rules : List Rule) (links : OutsideGhosts L) (link : L) (said : Dialog)
    (talk : Talk) (taken : ℕ) → talk ≡ New → taken ≡ 0
    → ServesSoFar rules (moved_link links link link) said said talk taken
so-far-new rules links link said talk taken new zero =
    record {
      bytes = [];
      dialog = [];
      sent = [];
      takes = Consumes-nil (links.left link);
      writes = Appends-nil (links.written link);
      says = sym (append-nil said);
      counted = zero;
      few = omega (arith, zero);
      stands = subst (λ t. StandsAt rules t [] [] []) (sym new) (refl, (refl, refl, refl));
      faults = omega (arith);
    }

-- a turn more
pub so-far-on : {L : Type 0} (rules : List Rule) (links : OutsideGhosts L) (first middle last : L)
    (said said' said'' : Dialog) (talk talk' : Talk) (taken taken' : ℕ)
    → ServesSoFar rules (moved_link links first middle) said said' talk taken
    → TakesTurn rules (moved_link links middle last) said' said'' talk talk' taken taken'
    → links.faults middle ≤ links.faults last
    → ServesSoFar rules (moved_link links first last) said said'' talk' taken'
so-far-on rules links first middle last said said' said'' talk talk' taken taken' so_far turn rose =
    record {
      bytes = so_far.bytes ++ turn.piece;
      dialog = so_far.dialog ++ turn.dialog;
      sent = so_far.sent ++ turn.sent;
      takes = Consumes-trans (links.left first) (links.left middle) (links.left last) so_far.bytes turn.piece
          so_far.takes turn.takes;
      writes = Appends-trans (links.written first) (links.written middle) (links.written last) so_far.sent turn.sent
          so_far.writes
          turn.writes;
      says = turn.says ∙ ap (λ d. d ++ turn.dialog) so_far.says ∙ append_assoc said so_far.dialog turn.dialog;
      counted = omega (arith, turn.counted, so_far.counted, length-append so_far.bytes turn.piece);
      few = turn.few;
      stands = turn.stands so_far.bytes so_far.dialog so_far.sent so_far.stands;
      faults = omega (arith, so_far.faults, rose);
    }

-- an end is one of all calls of a link where it is one of the last
ends-through : {L : Type 0} (rules : List Rule) (links : OutsideGhosts L) (first middle last : L)
    (bytes : List ℕ) (dialog : Dialog) (sent : List ℕ) (end : End) → links.faults first ≤ links.faults middle
    → EndsBy rules (moved_link links middle last) bytes dialog sent end
    → EndsBy rules (moved_link links first last) bytes dialog sent end
ends-through rules links first middle last bytes dialog sent Closed rose ends_so = ends_so
ends-through rules links first middle last bytes dialog sent LinkFault rose (some, front, rise) =
    (some, front, rose-before (links.faults first) (links.faults middle) (links.faults last) rose rise)
ends-through rules links first middle last bytes dialog sent Limit rose ends_so = ends_so
ends-through rules links first middle last bytes dialog sent Memory rose ends_so = ends_so

-- a turn that ends it
pub so-far-ends : {L : Type 0} (rules : List Rule) (links : OutsideGhosts L) (first middle last : L)
    (said said' said'' : Dialog) (talk : Talk) (taken : ℕ) (end : End)
    → ServesSoFar rules (moved_link links first middle) said said' talk taken
    → EndsTurn rules (moved_link links middle last) said' said'' talk taken end
    → Serves rules (moved_link links first last) said said'' end
so-far-ends rules links first middle last said said' said'' talk taken end so_far turn =
    record {
      bytes = so_far.bytes ++ turn.piece;
      dialog = so_far.dialog ++ turn.dialog;
      sent = so_far.sent ++ turn.sent;
      takes = Consumes-trans (links.left first) (links.left middle) (links.left last) so_far.bytes turn.piece
          so_far.takes turn.takes;
      few = omega (arith, turn.few, so_far.counted, length-append so_far.bytes turn.piece);
      says = turn.says ∙ ap (λ d. d ++ turn.dialog) so_far.says ∙ append_assoc said so_far.dialog turn.dialog;
      writes = Appends-trans (links.written first) (links.written middle) (links.written last) so_far.sent turn.sent
          so_far.writes
          turn.writes;
      ends_so = ends-through rules links first middle last (so_far.bytes ++ turn.piece)
          (so_far.dialog ++ turn.dialog) (so_far.sent ++ turn.sent) end so_far.faults
          (turn.ends_so so_far.bytes so_far.dialog so_far.sent so_far.stands);
    }

-- as many bytes were read as a connection may have
pub so-far-limit : (rules : List Rule) (link : MovedLink) (said said' : Dialog) (talk : Talk) (taken : ℕ)
    → LeadsThere → ServesSoFar rules link said said' talk taken → most_bytes ≤ taken
    → Serves rules link said said' Limit
so-far-limit rules link said said' talk taken there so_far full =
    record {
      bytes = so_far.bytes;
      dialog = so_far.dialog;
      sent = so_far.sent;
      takes = so_far.takes;
      few = omega (arith, so_far.few, so_far.counted);
      says = so_far.says;
      writes = so_far.writes;
      ends_so = (
        answers-all rules talk so_far.bytes so_far.dialog so_far.sent there so_far.stands,
        omega (arith, full, so_far.few, so_far.counted),
      );
    }

-- memory was out before anything was read
pub unserved : {L : Type 0} (rules : List Rule) (links : OutsideGhosts L) (link : L) (said : Dialog)
    → Serves rules (moved_link links link link) said said Memory
unserved rules links link said =
    let nothing = nothing-means rules in
    record {
      bytes = [];
      dialog = [];
      sent = [];
      takes = Consumes-nil (links.left link);
      few = omega (arith);
      says = sym (append-nil said);
      writes = Appends-nil (links.written link);
      ends_so = record {
        front = [];
        rest = [];
        bytes_are = refl;
        exchange = nothing.0;
        means = nothing.1;
        replies = [];
        to = ends more;
        led = nothing.2;
        begun = ([], refl);
        first_of_all = λ whole means. (whole, here whole);
      };
    }
