-- What asking a server leaves, of what its parts leave.
use Rattle.std.proofs.Common.{◌≡◌, ◌≤◌, ◌∷◌, sym, subst, refl, rules, arith, inl, inr, List, [], ℕ, Option}
use Rattle.std.proofs.Common.{None, Some, Ok, Err, IsErrAnd, IsErrOf, Result, encode_utf8_all}
use Rattle.std.specs.Io.KnownBytes.{Appends, Keeps}
use Rattle.std.proofs.KnownBytes.{Appends-trans}
use Rattle.skk_outside.specs.declared.outside.Failed.{Failed}
use Rattle.skk_outside.specs.declared.outside.Outside.{Ghosts as OutsideGhosts}
use Rattle.skk_outside.specs.Faults.{Rose}
use Rattle.skk_outside.specs.Listeners.{Dials}
use Rattle.skk_outside.specs.Moved.{MovedSink}
use Rattle.skk_outside.specs.Moved as moved
use Rattle.skk_outside.specs.Written.{AppendsPrefix}
use Rattle.skk_server.specs.Ends.{MovedLink}
use Rattle.skkserv_client.specs.declared.question.Ask.{Ask}
use Rattle.skkserv_client.specs.declared.told.AskFault.{AskFault}
use Rattle.skkserv_client.specs.declared.told.AskFault.TheVariants as asks
use Rattle.skkserv_client.specs.declared.told.Told.{Told}
use Rattle.skkserv_client.specs.Hearing.{HearsReply}
use Rattle.skkserv_client.specs.Questions.{request_of}
use Rattle.run_endings.specs.declared.fault.RunFault.{RunFault}
use Rattle.run_endings.specs.declared.fault.RunFault.TheVariants as faults
use Rattle.run_endings.specs.Page.{LeavesPrinted, StopsPrinting, Writes}
use Rattle.run_endings.specs.PageLaws.{AppendsPrefix-behind, AppendsPrefix-more, AppendsPrefix-whole}
use Rattle.run_endings.specs.Status.{Ended, fault_of_asking}
use Rattle.skk_top.specs.AskCommand.{AsksOver, StopsAsking, farewell, left_of_first, sent_for}
use Rattle.skk_top.specs.AskCommand.{told_lines}

-- A link

-- a server told nothing
module _ (what : Ask) (link : MovedLink) (out : MovedSink) where
  why-lost : (fault : AskFault) → HearsReply link.left what (Err fault)
      → (IsErrOf {T = Told} (Err fault) asks.LinkFault → Rose link.faults link.faults')
      → StopsAsking what link out (fault_of_asking fault)
  why-lost asks.LinkFault hears failed = inl (failed refl)
  why-lost asks.TooLong hears failed = hears
  why-lost (asks.Ended read) hears failed = hears
  why-lost asks.Refused hears failed = hears
  why-lost (asks.BadReply at) hears failed = hears
  why-lost asks.Memory hears failed = tt

  pub asks-lost : (ended : Ended) (fault : AskFault) → IsErrAnd ended (λ handed. handed ≡ fault_of_asking fault)
      → HearsReply link.left what (Err fault) → AppendsPrefix link.written link.written' (request_of what)
      → (IsErrOf {T = Told} (Err fault) asks.LinkFault → Rose link.faults link.faults')
      → link.faults ≤ link.faults' → Keeps out.written out.written' → AsksOver what ended link out
  asks-lost (Ok done) fault is hears begun failed counted keeps = absurd (search (rules, is))
  asks-lost (Err handed) fault is hears begun failed counted keeps = record {
    sent = tt;
    begun = AppendsPrefix-more link.written link.written' (request_of what) farewell begun;
    printed = inl (record { fails = refl; unwritten = keeps });
    stopped = subst (StopsAsking what link out) (sym is) (why-lost fault hears failed);
    counted = counted;
  }

  -- what it told was not printed whole
  why-unprinted : (fault : RunFault) → StopsPrinting out fault → StopsAsking what link out fault
  why-unprinted faults.Outside stops = inr stops
  why-unprinted faults.Memory stops = tt
  why-unprinted faults.Words stops = absurd stops
  why-unprinted (faults.Refused file flaw) stops = absurd stops
  why-unprinted (faults.NotJournal file first) stops = absurd stops
  why-unprinted (faults.BadRecord file at) stops = absurd stops
  why-unprinted (faults.RowTooBig bytes) stops = absurd stops
  why-unprinted faults.JournalFull stops = absurd stops
  why-unprinted (faults.Reply flaw) stops = absurd stops
  why-unprinted faults.StampsEnd stops = absurd stops

  pub asks-unprinted : (ended : Ended) (fault : RunFault) (told : Told) → IsErrAnd ended (λ handed. handed ≡ fault)
      → HearsReply link.left what (Ok told) → Appends link.written link.written' (request_of what)
      → link.faults ≤ link.faults' → LeavesPrinted (encode_utf8_all (told_lines told)) (Err fault) out
      → AsksOver what ended link out
  asks-unprinted (Ok done) fault told is hears sent counted printed = absurd (search (rules, is))
  asks-unprinted (Err handed) fault told is hears sent counted printed = record {
    sent = tt;
    begun = (request_of what, (farewell, refl), sent);
    printed = inr (record { told = told; hears = hears; whole = tt; prefix = printed.prefix });
    stopped = subst (StopsAsking what link out) (sym is) (why-unprinted fault printed.stopped);
    counted = counted;
  }

-- all was printed, and the connection could not be ended
pub asks-unended : (what : Ask) (ended : Ended) (told : Told) (left left' : moved.Told) {old mid new : moved.Told}
    {count middle count' : ℕ} (failed : Failed) (out : MovedSink) → IsErrAnd ended (λ handed. handed ≡ faults.Outside)
    → HearsReply left what (Ok told) → Appends old mid (request_of what) → count ≤ middle
    → LeavesPrinted (encode_utf8_all (told_lines told)) (Ok tt) out
    → Writes farewell (Err failed) (record { written = mid; written' = new; faults = middle; faults' = count' })
    → AsksOver what ended (record {
      left = left;
      left' = left';
      written = old;
      written' = new;
      faults = count;
      faults' = count';
    }) out
asks-unended what (Ok done) told left left' failed out is hears sent counted printed writes =
    absurd (search (rules, is))
asks-unended what (Err handed) told left left' {old = old} {mid = mid} {new = new} failed out is hears sent counted
    printed writes = record {
      sent = tt;
      begun = AppendsPrefix-behind old mid new (request_of what) farewell sent writes.prefix;
      printed = inr (record {
        told = told;
        hears = hears;
        whole = tt;
        prefix = AppendsPrefix-whole out.written out.written' (encode_utf8_all (told_lines told)) printed.whole;
      });
      stopped = subst (StopsAsking what (record {
        left = left;
        left' = left';
        written = old;
        written' = new;
        faults = _;
        faults' = _;
      }) out) (sym is) (inl (omega (arith, counted, writes.failed)));
      counted = omega (arith, counted, writes.counted);
    }

-- and was
pub asks-told : (what : Ask) (told : Told) (left left' : moved.Told) {old mid new : moved.Told}
    {count middle count' : ℕ} (out : MovedSink) → HearsReply left what (Ok told) → Appends old mid (request_of what)
    → count ≤ middle → LeavesPrinted (encode_utf8_all (told_lines told)) (Ok tt) out
    → Writes farewell (Ok tt) (record { written = mid; written' = new; faults = middle; faults' = count' })
    → AsksOver what (Ok tt) (record {
      left = left;
      left' = left';
      written = old;
      written' = new;
      faults = count;
      faults' = count';
    }) out
asks-told what told left left' {old = old} {mid = mid} {new = new} out hears sent counted printed writes =
    let whole = Appends-trans old mid new (request_of what) farewell sent writes.whole in
    record {
      sent = whole;
      begun = AppendsPrefix-whole old new (sent_for what) whole;
      printed = inr (record {
        told = told;
        hears = hears;
        whole = printed.whole;
        prefix = AppendsPrefix-whole out.written out.written' (encode_utf8_all (told_lines told)) printed.whole;
      });
      stopped = tt;
      counted = omega (arith, counted, writes.counted);
    }

-- The listener

-- what a link that was dialled told is what the first of those that were to come told
pub heard-first : {L : Type 0} (links : OutsideGhosts L) (coming coming' : Option (List L)) (link : L) (what : Ask)
    (result : Result Told AskFault) → Dials {E = Failed} coming coming' (Ok link)
    → HearsReply (links.left link) what result → HearsReply (left_of_first links coming) what result
heard-first links None coming' link what result dials hears = tt
heard-first links (Some []) coming' link what result dials hears = tt
heard-first links (Some (first ∷ more)) coming' link what result dials hears =
    subst (λ l. HearsReply (links.left l) what result) dials.0 hears
