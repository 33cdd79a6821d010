-- What callers leave that work on lines, whether they type them or play them.
use Rattle.std.specs.Prelude.{◌≡◌, true, List, OnOk, encode_utf8_all, ℕ}
use Rattle.skk_outside.specs.Moved.{MovedSink}
use Rattle.skk_calls.specs.Chronicles.{history_of}
use Rattle.skk_calls.specs.Histories.{Opening}
use Rattle.skk_calls.specs.Openings.{are_served}
use Rattle.skk_calls.specs.Tallies.{tally_of}
use Rattle.caller_work.specs.Disks.{DiskNow, KeepsDisk}
use Rattle.run_endings.specs.Page.{LeavesPrinted}
use Rattle.run_endings.specs.Status.{Ended, ended_by}
use Rattle.run_endings.specs.declared.finish.Run.{Run}

-- what work on lines leaves over an opening: how it ended by itself decides what was printed of a text, and with what
-- its calls came to how the run ends; the chronicle is kept so, and where the work is done all that it asks was taken;
-- where the run is done no call was refused, and this holds of the dictionary of one thread
pub record LeavesWork {D : Type 0} (opening : Opening) (IsKept IsTaken : Type 0) (text : List ℕ) (IsAlone : Type 0)
    (run : Run D) (out : MovedSink) (disk : DiskNow) : Type 0 where
  pub ended : Ended
  pub ends : run.ended ≡ ended_by ended (tally_of opening.state (history_of run.chronicle))
  pub chronicle : IsKept
  pub kept : KeepsDisk opening run.chronicle disk
  pub taken : OnOk ended IsTaken
  pub prints : LeavesPrinted (encode_utf8_all text) ended out
  pub served : OnOk run.ended (are_served run.chronicle ≡ true)
  pub alone : OnOk run.ended IsAlone
