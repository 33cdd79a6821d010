-- What runs leave, of what their parts leave.
use Rattle.std.proofs.Common.{◌≡◌, ◌∙◌, sym, ap, subst, refl, rules, ℕ, Some, None, List, [], append-nil}
use Rattle.std.proofs.Common.{Ok, Err, OnOk, IfSome, true, encode_utf8_all, arith}
use Rattle.std.specs.Io.KnownBytes.{Appends, Keeps}
use Rattle.std.proofs.KnownBytes.{Consumes-nil}
use Rattle.std.proofs.lemmas.Str.{encodes-append}
use Rattle.skk_outside.specs.Taken.{TakesAtMost}
use Rattle.skk_outside.specs.Written.{AppendsPrefix}
use Rattle.romaji_rules.specs.declared.rule.Rule.{Rule}
use Rattle.skk_outside.specs.Moved.{Told, MovedSink}
use Rattle.skk_calls.specs.declared.chronicle.Noted.{Noted}
use Rattle.skk_calls.specs.Chronicles.{history_of}
use Rattle.skk_calls.specs.Histories.{Opening}
use Rattle.skk_calls.specs.InteractionLaws.{led-asked, led-end, led-printed, printed-answered_alone}
use Rattle.skk_calls.specs.Interactions.{Dialog, Leads, ends, asked, printed, end_of, answers_of, calls_of}
use Rattle.skk_calls.specs.Runs.{Runs}
use Rattle.skk_calls.specs.Openings.{IsLegalOver, said_in, are_of_one, are_served}
use Rattle.skk_calls.specs.Tallies.{Tally, tally_of}
use Rattle.caller_work.specs.Disks.{DiskNow, KeepsDisk}
use Rattle.run_endings.specs.Status.{Ended, ended_by}
use Rattle.run_endings.specs.Page.{LeavesPrinted}
use Rattle.run_endings.specs.PageLaws.{AppendsPrefix-more, printed-fault}
use Rattle.skk_top.specs.TypeCommand.{KeepsChronicle, TypesLines}
use Rattle.script_typing.specs.Lines.{at_if_done}
use Rattle.script_typing.specs.Typed.{Asking, typing, typed_alone}
use Rattle.skk_top.specs.Typing.{TypesOut}
use Rattle.key_scripts.specs.declared.line.Line.{Line}
use Rattle.skk_top.proofs.LinesWork.{work-closed}
use Rattle.skk_top.proofs.Served.{answered_alone}

-- what is known of bytes that are told
pub each_some : {P Q : List ℕ → Type 0} (known : Told) → ((bytes : List ℕ) → P bytes → Q bytes) → IfSome known P
    → IfSome known Q
each_some None q p = search rules
each_some (Some bytes) q p = q bytes p

-- what is not touched is as it was
pub Keeps-self : (known : Told) → Keeps known known
Keeps-self None = search rules
Keeps-self (Some bytes) = refl

pub takes-none : (known : Told) (most : ℕ) → TakesAtMost known known most
takes-none known most = ([], omega arith, Consumes-nil known)

pub ruleset untouched = (Keeps-self, takes-none)

-- what the typing of what asks and prints has asked, whether that is all of it, and what it has printed
pub out-told : (asking : Asking) (ended : Ended) {said : Dialog} {out : MovedSink}
    → Runs (λ (all : Unit {0}). asking) (at_if_done ended (λ all. ends tt)) [] said
    (λ text. LeavesPrinted (encode_utf8_all text) ended out)
    → (asked asking (answers_of said) ≡ calls_of said) × OnOk ended (end_of asking (answers_of said) ≡ Some tt)
    × LeavesPrinted (encode_utf8_all (printed asking (answers_of said))) ended out
out-told asking ended {said = said} {out = out} ran =
    subst (λ (d : Dialog). (asked asking (answers_of d) ≡ calls_of d)
    × OnOk ended (end_of asking (answers_of d) ≡ Some tt)
    × LeavesPrinted (encode_utf8_all (printed asking (answers_of d))) ended out) (sym ran.grows) (by ended ran)
  where
    by : (ended : Ended) (ran : Runs (λ (all : Unit {0}). asking) (at_if_done ended (λ all. ends tt)) [] said
        (λ text. LeavesPrinted (encode_utf8_all text) ended out))
        → (asked asking (answers_of ran.dialog) ≡ calls_of ran.dialog)
        × OnOk ended (end_of asking (answers_of ran.dialog) ≡ Some tt)
        × LeavesPrinted (encode_utf8_all (printed asking (answers_of ran.dialog))) ended out
    by (Ok done) ran =
        let (to, is, way) = ran.led tt in
        let led = subst (λ i. Leads asking ran.dialog ran.text i) is way in (
          led-asked led,
          led-end led,
          subst (λ t. LeavesPrinted (encode_utf8_all t) (Ok tt) out) (sym (led-printed led ∙ append-nil ran.text))
              ran.put,
        )
    by (Err fault) ran =
        let (to, any, way) = ran.led tt in
        let rest = encode_utf8_all (printed to []) in (
          led-asked way,
          tt,
          printed-fault (encode_utf8_all (printed asking (answers_of ran.dialog))) (Err fault) fault out refl
              (subst (AppendsPrefix out.written out.written')
              (sym (ap encode_utf8_all (led-printed way) ∙ encodes-append ran.text (printed to [])))
              (AppendsPrefix-more out.written out.written' (encode_utf8_all ran.text) rest ran.put.prefix))
              ran.put.stopped ran.put.counted,
        )

-- lines that were typed by a caller, which is closed then: what was printed where every call was answered as by the
-- dictionary of one thread is what is printed where that answers
pub types-closed : {D : Type 0} (opening : Opening) (rules : List Rule) (lines : List Line) (ended : Ended)
    (chronicle : List Noted) (left : D) (tally : Tally) (out : MovedSink) (disk : DiskNow)
    → TypesOut rules lines ended [] (said_in chronicle 0) out → IsLegalOver opening chronicle
    → are_of_one chronicle ≡ true → KeepsDisk opening chronicle disk
    → tally ≡ tally_of opening.state (history_of chronicle)
    → TypesLines opening rules lines
    (record { ended = ended_by ended tally; chronicle = chronicle; disk = left }) out disk
types-closed opening rules lines ended chronicle left tally out disk types legal one keeps counts =
    let asking = typing rules [] lines in
    let said = said_in chronicle 0 in
    let told = out-told asking ended types in
    work-closed opening chronicle left tally out disk keeps counts (KeepsChronicle opening asking chronicle)
    (end_of asking (answers_of said) ≡ Some tt) (printed asking (answers_of said))
    (Appends out.written out.written' (typed_alone opening rules lines)) ended
    (record { legal = legal; one = one; asks = told.0 }) told.1 told.2 (alone ended told.1 told.0 told.2)
  where
    alone : (ended : Ended)
        → OnOk ended (end_of (typing rules [] lines) (answers_of (said_in chronicle 0)) ≡ Some tt)
        → asked (typing rules [] lines) (answers_of (said_in chronicle 0)) ≡ calls_of (said_in chronicle 0)
        → LeavesPrinted (encode_utf8_all (printed (typing rules [] lines) (answers_of (said_in chronicle 0)))) ended out
        → OnOk ended (are_served chronicle ≡ true
        → Appends out.written out.written' (typed_alone opening rules lines))
    alone (Ok done) taken asks prints = λ all.
        subst (λ text. Appends out.written out.written' (encode_utf8_all text))
        (printed-answered_alone (typing rules [] lines) (said_in chronicle 0) tt opening.files opening.state asks taken
        (answered_alone opening (history_of chronicle) legal.1 all one)) prints.whole
    alone (Err fault) taken asks prints = tt
