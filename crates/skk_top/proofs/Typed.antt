-- What the typing of lines prints, and what it leaves then.
use Rattle.std.proofs.Common.{◌≡◌, ◌≤◌, sym, subst, refl, rules, arith, ℕ, List, [], ◌++◌, append_assoc}
use Rattle.std.proofs.Common.{Ok, Err, IfSome, IsErrAnd, encode_utf8_all}
use Rattle.skk_outside.specs.Moved.{Told, MovedSink}
use Rattle.skk_outside.specs.Written.{AppendsPrefix}
use Rattle.skk_outside.specs.declared.outside.Failed.{Failed}
use Rattle.romaji_rules.specs.declared.rule.Rule.{Rule}
use Rattle.skk_calls.specs.Interactions.{ends, Dialog}
use Rattle.skk_calls.specs.Runs.{Runs, at}
use Rattle.skk_calls.specs.RunLaws.{runs-print, runs-then}
use Rattle.key_scripts.specs.Script.{session_of}
use Rattle.key_scripts.specs.declared.line.Line.{Line}
use Rattle.session_machine.specs.Session.{Session}
use Rattle.script_typing.specs.LineLaws.{runs-alone, runs-put}
use Rattle.script_typing.specs.Lines.{at_if_done, line_printed, RunsThrough}
use Rattle.script_typing.specs.MapLaws.{there-put}
use Rattle.script_typing.specs.Sessions.{SessionMap, session_at, with_session}
use Rattle.script_typing.specs.Typed.{Asking, typing, closing_lines}
use Rattle.run_endings.specs.Page.{LeavesPrinted, Printed, StopsPrinting, Writes}
use Rattle.run_endings.specs.PageLaws.{Appends-none, Printed-prefix_of_page, Printed-whole, Printed-written}
use Rattle.run_endings.specs.PageLaws.{printed-fault}
use Rattle.run_endings.specs.Status.{Ended}
use Rattle.run_endings.specs.declared.fault.RunFault.{RunFault}
use Rattle.run_endings.specs.declared.fault.RunFault.TheVariants.{Memory, Outside}
use Rattle.skk_top.specs.Typing.{PrintsPage}
use Rattle.skk_top.proofs.PrintedChecks.{Printed-longer, stops-behind}

-- a sink that was written this before and that by now, with its counts of faults
abbrev pub sink : Told → Told → ℕ → ℕ → MovedSink
sink old new faults faults' = record { written = old; written' = new; faults = faults; faults' = faults' }

-- Pages

-- nothing was printed yet
pub page-start : (page : List ℕ) {old : Told} {faults : ℕ}
    → PrintsPage (page ++ []) page (Ok tt) (sink old old faults faults)
page-start page {old = old} =
    record { ok = ([], Appends-none old, refl); err = tt; stopped = tt; counted = omega arith }

-- a prefix was written, with the cause
pub page-stopped : (text page : List ℕ) (ended : Ended) (fault : RunFault) {out : MovedSink}
    → IsErrAnd ended (λ handed. handed ≡ fault) → AppendsPrefix out.written out.written' (encode_utf8_all text)
    → StopsPrinting out fault → out.faults ≤ out.faults' → PrintsPage text page ended out
page-stopped text page (Ok done) fault is front stops counted = absurd (search (rules, is))
page-stopped text page (Err handed) fault {out = out} is front stops counted =
    record { ok = tt; err = front; stopped = subst (StopsPrinting out) (sym is) stops; counted = counted }

-- the same where the fault is handed on
pub page-handed : (text page page' : List ℕ) (ended : Ended) (fault : RunFault) {out : MovedSink}
    → IsErrAnd ended (λ handed. handed ≡ fault) → PrintsPage text page (Err fault) out → PrintsPage text page' ended out
page-handed text page page' ended fault is prints =
    page-stopped text page' ended fault is prints.err prints.stopped prints.counted

-- nothing was, for want of memory
pub page-kept : (text page : List ℕ) (ended : Ended) {old : Told} {faults : ℕ}
    → IsErrAnd ended (λ handed. handed ≡ Memory) → PrintsPage text page ended (sink old old faults faults)
page-kept text page ended {old = old} is =
    page-stopped text page ended Memory is ([], (encode_utf8_all text, refl), Appends-none old) tt (omega arith)

-- a page that was full was written
pub page-full : (text page left : List ℕ) {out : MovedSink} → page ≡ text
    → Printed out.written out.written' left [] page → out.faults ≤ out.faults' → PrintsPage text left (Ok tt) out
page-full text page left {out = out} is printed counted = record {
  ok = subst (Printed out.written out.written' left []) is printed;
  err = tt;
  stopped = tt;
  counted = counted;
}

-- more was printed behind a page
pub page-then : (front one two page page' : List ℕ) (ended : Ended) {old mid new : Told} {faults middle faults' : ℕ}
    → PrintsPage (front ++ one) page (Ok tt) (sink old mid faults middle)
    → PrintsPage (page ++ two) page' ended (sink mid new middle faults')
    → PrintsPage (front ++ (one ++ two)) page' ended (sink old new faults faults')
page-then front one two page page' ended {old = old} {mid = mid} {new = new} {faults = faults} {middle = middle}
    {faults' = faults'} first then =
    subst (λ text. PrintsPage text page' ended (sink old new faults faults')) (append_assoc front one two)
    (by ended then)
  where
    longer : Printed old mid (page ++ two) [] ((front ++ one) ++ two)
    longer = Printed-longer old mid page (front ++ one) two (page ++ two) refl first.ok

    by : (ended : Ended) → PrintsPage (page ++ two) page' ended (sink mid new middle faults')
        → PrintsPage ((front ++ one) ++ two) page' ended (sink old new faults faults')
    by (Ok done) then = record {
      ok = Printed-written old mid new (page ++ two) page' [] ((front ++ one) ++ two) longer then.ok;
      err = tt;
      stopped = tt;
      counted = omega (arith, first.counted, then.counted);
    }
    by (Err fault) then = record {
      ok = tt;
      err = Printed-prefix_of_page old mid new (page ++ two) [] ((front ++ one) ++ two) longer then.err;
      stopped = stops-behind fault old mid new faults middle faults' first.counted then.stopped;
      counted = omega (arith, first.counted, then.counted);
    }

-- the page was written
pub page-written : (text page : List ℕ) {old mid new : Told} {faults middle faults' : ℕ}
    → PrintsPage text page (Ok tt) (sink old mid faults middle)
    → Writes (encode_utf8_all page) (Ok tt) (sink mid new middle faults')
    → LeavesPrinted (encode_utf8_all text) (Ok tt) (sink old new faults faults')
page-written text page {old = old} {mid = mid} {new = new} prints writes = record {
  whole = Printed-whole old mid new page text prints.ok writes.whole;
  prefix = tt;
  stopped = tt;
  counted = omega (arith, prints.counted, writes.counted);
}

-- or a write failed
pub page-unwritten : (text page : List ℕ) (ended : Ended) (failed : Failed) {old mid new : Told}
    {faults middle faults' : ℕ} → IsErrAnd ended (λ handed. handed ≡ Outside)
    → PrintsPage text page (Ok tt) (sink old mid faults middle)
    → Writes (encode_utf8_all page) (Err failed) (sink mid new middle faults')
    → LeavesPrinted (encode_utf8_all text) ended (sink old new faults faults')
page-unwritten text page ended failed {old = old} {mid = mid} {new = new} {faults = faults} {faults' = faults'} is
    prints writes =
    printed-fault (encode_utf8_all text) ended Outside (sink old new faults faults') is
    (Printed-prefix_of_page old mid new page [] text prints.ok writes.prefix)
    (omega (arith, prints.counted, writes.failed)) (omega (arith, prints.counted, writes.counted))

-- printing ended with a fault
pub page-lost : (text page : List ℕ) (ended : Ended) (fault : RunFault) (out : MovedSink)
    → IsErrAnd ended (λ handed. handed ≡ fault) → PrintsPage text page (Err fault) out
    → LeavesPrinted (encode_utf8_all text) ended out
page-lost text page ended fault out is prints =
    printed-fault (encode_utf8_all text) ended fault out is prints.err prints.stopped prints.counted

-- Lines

-- the output line of a line that was played went to the page
pub line-pushed : (line : Line) (sessions sessions' : SessionMap) (session : Session) (page page' : List ℕ)
    → sessions' ≡ with_session sessions (session_of line) session
    → IfSome (session_at sessions' (session_of line)) (λ found. page' ≡ page ++ line_printed line found)
    → page' ≡ page ++ line_printed line session
line-pushed line sessions sessions' session page page' put pushed =
    rw (put, there-put sessions (session_of line) session) at pushed

-- what was typed from the start on
pub typed-start : (table : List Rule) (lines : List Line) (ended : Ended) {sessions : SessionMap}
    (sessions' : SessionMap) {page : List ℕ} (page' : List ℕ) {said said' : Dialog} (out : MovedSink)
    → sessions ≡ [] → page ≡ []
    → RunsThrough (typing table) lines ended sessions sessions' said said'
    (λ text. PrintsPage (page ++ text) page' ended out)
    → Runs (λ (all : Unit {0}). typing table [] lines) (λ all. at_if_done ended (typing table sessions') []) said said'
    (λ text. PrintsPage text page' ended out)
typed-start table lines ended {sessions = sessions} sessions' page' {said = said} {said' = said'} out none bare types =
    subst (λ (map : SessionMap). Runs (λ (all : Unit {0}). typing table map lines)
    (λ all. at_if_done ended (typing table sessions') []) said said' (λ text. PrintsPage text page' ended out)) none
    (runs-put (λ text prints. subst (λ p. PrintsPage (p ++ text) page' ended out) bare prints)
    (runs-alone (typing table) lines ended sessions sessions' types))

-- and the closing lines come behind it
pub typed-closed : (table : List Rule) (sessions : SessionMap) {from : Unit {0} → Asking} {said said' : Dialog}
    {First Both : List ℕ → Type 0} → ((one : List ℕ) → First one → Both (one ++ closing_lines sessions))
    → Runs from (at (λ all. typing table sessions [])) said said' First
    → Runs from (at (λ all. ends tt)) said said' Both
typed-closed table sessions {Both = Both} puts ran =
    runs-then (λ one two first is. subst (λ text. Both (one ++ text)) (sym is) (puts one first)) ran
    (runs-print (closing_lines sessions) (λ all. ends tt) refl refl)
