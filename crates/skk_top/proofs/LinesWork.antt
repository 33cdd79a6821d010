-- What is left of work on lines, of how it ended.
use Rattle.std.proofs.Common.{◌≡◌, ◌≤◌, ap, sym, subst, refl, ℕ, true, Ok, Err, OnOk, List, [], encode_utf8_all}
use Rattle.std.proofs.lemmas.Result.{on_ok_weaker}
use Rattle.std.specs.Io.KnownBytes.{Keeps}
use Rattle.skk_outside.specs.Moved.{MovedSink}
use Rattle.skk_calls.specs.declared.chronicle.Noted.{Noted}
use Rattle.skk_calls.specs.Chronicles.{history_of}
use Rattle.skk_calls.specs.Histories.{Opening}
use Rattle.skk_calls.specs.Openings.{are_served}
use Rattle.skk_calls.specs.Tallies.{Tally, tally_of}
use Rattle.caller_work.specs.Disks.{DiskNow, KeepsDisk}
use Rattle.run_endings.specs.Page.{LeavesPrinted}
use Rattle.run_endings.specs.PageLaws.{Appends-kept, Appends-none, printed-fault}
use Rattle.run_endings.specs.Status.{Ended, ended_by}
use Rattle.run_endings.specs.declared.fault.RunFault.TheVariants.{Memory}
use Rattle.skk_top.specs.LinesWork.{LeavesWork}
use Rattle.skk_top.proofs.Served.{where_done}

-- what holds, holds where a run is done
pub always : (ended : Ended) {P : Type 0} → P → OnOk ended P
always (Ok done) p = p
always (Err fault) p = tt

-- for want of memory nothing was printed
pub printed-none : (text : List ℕ) (out : MovedSink) → Keeps out.written out.written' → out.faults ≤ out.faults'
    → LeavesPrinted (encode_utf8_all text) (Err Memory) out
printed-none text out unwritten counted =
    printed-fault (encode_utf8_all text) (Err Memory) Memory out refl (
      [],
      (encode_utf8_all text, refl),
      Appends-kept out.written out.written out.written' [] (Appends-none out.written)
          unwritten,
    ) tt counted

module _ {D : Type 0} (opening : Opening) (chronicle : List Noted) (left : D) (tally : Tally) (out : MovedSink)
    (disk : DiskNow) (keeps : KeepsDisk opening chronicle disk)
    (counts : tally ≡ tally_of opening.state (history_of chronicle)) where
  -- the work of callers that are closed then
  pub work-closed : (IsKept IsTaken : Type 0) (text : List ℕ) (IsAlone : Type 0) (ended : Ended) → IsKept
      → OnOk ended IsTaken → LeavesPrinted (encode_utf8_all text) ended out
      → OnOk ended (are_served chronicle ≡ true → IsAlone)
      → LeavesWork opening IsKept IsTaken text IsAlone
      (record { ended = ended_by ended tally; chronicle = chronicle; disk = left }) out disk
  work-closed IsKept IsTaken text IsAlone ended kept taken prints alone = record {
    ended = ended;
    ends = ap (ended_by ended) counts;
    chronicle = kept;
    kept = keeps;
    taken = taken;
    prints = prints;
    served = subst (λ (t : Tally). OnOk (ended_by ended t) (are_served chronicle ≡ true)) (sym counts) (served ended);
    alone = subst (λ (t : Tally). OnOk (ended_by ended t) IsAlone) (sym counts) (by ended alone);
  }
    where
      served : (ended : Ended) → OnOk (ended_by ended (tally_of opening.state (history_of chronicle)))
          (are_served chronicle ≡ true)
      served (Ok done) = where_done (history_of chronicle) opening.state
      served (Err fault) = tt

      by : (ended : Ended) → OnOk ended (are_served chronicle ≡ true → IsAlone)
          → OnOk (ended_by ended (tally_of opening.state (history_of chronicle))) IsAlone
      by (Ok done) alone =
          on_ok_weaker (ended_by (Ok done) (tally_of opening.state (history_of chronicle))) alone (served (Ok done))
      by (Err fault) alone = tt

  -- the work for which memory was out, of which nothing was printed
  pub work-lost : (IsKept IsTaken : Type 0) (text : List ℕ) (IsAlone : Type 0) (ended : Ended) → IsKept
      → ended ≡ Err Memory → Keeps out.written out.written' → out.faults ≤ out.faults'
      → LeavesWork opening IsKept IsTaken text IsAlone
      (record { ended = ended_by ended tally; chronicle = chronicle; disk = left }) out disk
  work-lost IsKept IsTaken text IsAlone ended kept is unwritten counted =
      subst (λ (e : Ended). LeavesWork opening IsKept IsTaken text IsAlone
      (record { ended = ended_by e tally; chronicle = chronicle; disk = left }) out disk) (sym is)
      (work-closed IsKept IsTaken text IsAlone (Err Memory) kept tt (printed-none text out unwritten counted) tt)
