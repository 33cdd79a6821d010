-- What a run of `serve` leaves.
use Rattle.std.specs.Prelude.{◌≡◌, ◌⊎◌, ◌≤◌, ◌<◌, ⊤, ℕ, ◌+◌, Bool, true, false, Option, Some, Err, option_map, List}
use Rattle.std.specs.Prelude.{[], ◌∷◌, ◌++◌, length, map, codes, IfErr, OnOk}
use Rattle.std.specs.Fmt.{decimal}
use Rattle.std.specs.Io.KnownBytes.{Appends, Keeps}
use Rattle.std.specs.List.{list_any}
use Rattle.skk_outside.specs.declared.listener.Listener.{Ghosts as ListenerGhosts}
use Rattle.skk_outside.specs.declared.outside.Outside.{Ghosts as OutsideGhosts}
use Rattle.skk_outside.specs.Faults.{Rose}
use Rattle.skk_outside.specs.Moved.{MovedShelf, MovedSink}
use Rattle.skk_outside.specs.Written.{AppendsPrefix}
use Rattle.romaji_rules.specs.declared.rule.Rule.{Rule}
use Rattle.skk_calls.specs.declared.chronicle.Noted.{Noted}
use Rattle.skk_calls.specs.declared.caller.Kept.{Ghosts as KeptGhosts}
use Rattle.skk_calls.specs.Chronicles.{history_of}
use Rattle.skk_calls.specs.Histories.{Opening}
use Rattle.skk_calls.specs.Interactions.{Dialog}
use Rattle.skk_calls.specs.Openings.{IsLegalOver, said_in, are_served}
use Rattle.skk_calls.specs.Rows.{Row}
use Rattle.skk_calls.specs.Tallies.{tally_of}
use Rattle.skk_text.specs.Lines.{line_feed}
use Rattle.skk_server.specs.declared.end.End.{End}
use Rattle.skk_server.specs.declared.end.End.TheVariants as endings
use Rattle.skk_server.specs.declared.served_end.ServedEnd.{ServedEnd}
use Rattle.skk_server.specs.declared.served_end.ServedEnd.TheVariants as stages
use Rattle.skk_server.specs.Visits.{Visit, IsServed, AreServed}
use Rattle.command_line.specs.Command.{limit_of}
use Rattle.command_line.specs.declared.command.ServeOptions.{ServeOptions}
use Rattle.skk_top.specs.Dictionaries.{AreRowsOf}
use Rattle.caller_work.specs.Disks.{DiskNow, KeepsDisk}
use Rattle.skk_top.specs.Disks.{MovedDisk, RefusesLearned, IsOpening}
use Rattle.run_endings.specs.Finishes.{EndsUnbegun}
use Rattle.skk_top.specs.NamedFiles.{rules_named, dictionaries_named, RefusesNamed}
use Rattle.run_endings.specs.Page.{LeavesPrinted}
use Rattle.skk_top.specs.RunRules.{AreRules}
use Rattle.run_endings.specs.Status.{Ended, ended_by, with_want}
use Rattle.run_endings.specs.declared.fault.RunFault.{RunFault}
use Rattle.run_endings.specs.declared.fault.RunFault.TheVariants.{Outside, Memory}
use Rattle.run_endings.specs.declared.finish.Run.{Run}
use Rattle.skk_top.specs.declared.serving.Outcome.{Outcome}
use Rattle.skk_top.specs.declared.serving.Service.{Service}

-- a listener to which such links come, before and after: how its links are seen, those that are still to come, those
-- that were taken back, how many are out, the port that was opened, its counts of faults, and whether it is as it was
pub record MovedListener (L : Type 0) : Type 1 where
  pub links : OutsideGhosts L
  pub coming : Option (List L)
  pub coming' : Option (List L)
  pub over : Option (List L)
  pub over' : Option (List L)
  pub out : ℕ
  pub out' : ℕ
  pub opened : Option ℕ
  pub opened' : Option ℕ
  pub faults : ℕ
  pub faults' : ℕ
  pub is_untouched : Type 0

-- a listener by its meanings, before and after
abbrev pub moved_listener : {N L : Type 0} → ListenerGhosts N L → OutsideGhosts L → N → N → MovedListener L
moved_listener nets links old new = record {
  links = links;
  coming = nets.coming old;
  coming' = nets.coming new;
  over = nets.over old;
  over' = nets.over new;
  out = nets.out old;
  out' = nets.out new;
  opened = nets.opened old;
  opened' = nets.opened new;
  faults = nets.faults old;
  faults' = nets.faults new;
  is_untouched = new ≡ old;
}

-- What is printed

-- the line that tells that the port is open
abbrev pub ready_line : List ℕ
ready_line = codes "ready" ++ line_feed ∷ []

-- the line that tells how many connections were accepted
abbrev pub served_line : ℕ → List ℕ
served_line count = codes "served " ++ decimal count ++ line_feed ∷ []

-- all that is printed, where so many were accepted
abbrev pub serve_lines : ℕ → List ℕ
serve_lines count = ready_line ++ served_line count

-- what telling how serving ended leaves in a sink: where it is done the second line was printed, and else nothing was
abbrev pub TellsEnd : ServedEnd → ℕ → Ended → MovedSink → Type 0
TellsEnd stages.Done count ended out = LeavesPrinted (served_line count) ended out
TellsEnd stages.Fault count ended out = (ended ≡ Err Outside) × Keeps out.written out.written'
TellsEnd stages.Memory count ended out = (ended ≡ Err Memory) × Keeps out.written out.written'

-- Connections

-- a port was asked for and not had: no link was accepted, and nothing was printed
pub record LacksPort {L : Type 0} (visits : List (Visit L)) (ended : Ended) (out : MovedSink) (net : MovedListener L)
    : Type 0 where
  pub none : visits ≡ []
  pub ends : ended ≡ Err Outside
  pub failed : Rose net.faults net.faults'
  pub unwritten : Keeps out.written out.written'
  pub coming_is : net.coming' ≡ net.coming
  pub over_is : net.over' ≡ net.over
  pub out_is : net.out' ≡ net.out
  pub opened_is : net.opened' ≡ net.opened

-- why serving stops: a call on the sink or on the listener failed, or memory is out
abbrev pub StopsServing : {L : Type 0} → MovedSink → MovedListener L → RunFault → Type 0
StopsServing out net Outside = Rose out.faults out.faults' ⊎ Rose net.faults net.faults'
StopsServing out net Memory = ⊤
StopsServing out net fault = ⊥

-- the port that was asked for was opened, and connections were served, of as many as were asked for: their links came
-- in this order and were given back in it; where the serving is done, as many were as were asked for, or no more can
-- come, and both lines were written; else a prefix of them was, with the cause, and the first line where a link came
pub record ServesVisits {L : Type 0} (service : Service) (visits : List (Visit L)) (ended : Ended) (out : MovedSink)
    (net : MovedListener L) : Type 0 where
  pub opened_is : net.opened' ≡ Some service.port
  pub comes : net.coming ≡ option_map (λ rest. map (λ visit. visit.link) visits ++ rest) net.coming'
  pub gives_back : net.over' ≡ option_map (λ before. before ++ map (λ visit. visit.link') visits) net.over
  pub none_out : net.out' ≡ net.out
  pub few : length visits ≤ service.connections
  pub all : OnOk ended ((length visits ≡ service.connections) ⊎ (net.coming' ≡ Some []))
  pub whole : OnOk ended (Appends out.written out.written' (serve_lines (length visits)))
  pub prefix : AppendsPrefix out.written out.written' (serve_lines (length visits))
  pub told : 0 < length visits → (rest : List ℕ) × Appends out.written out.written' (ready_line ++ rest)
  pub stopped : IfErr ended (StopsServing out net)

-- what asking for a port and serving its connections leaves
abbrev pub LeavesPort : {L : Type 0} → Service → List (Visit L) → Ended → MovedSink → MovedListener L → Type 0
LeavesPort service visits ended out net = LacksPort visits ended out net ⊎ ServesVisits service visits ended out net

-- connections were served from a place on, each up to its end, and closed: the caller whose number is its place has
-- said what was said for it
abbrev pub AreServedFrom : {L : Type 0} → List Rule → OutsideGhosts L → (ℕ → Dialog) → ℕ → List (Visit L) → Type 0
AreServedFrom rules links said place [] = ⊤
AreServedFrom rules links said place (visit ∷ visits) =
    IsServed rules links visit × (visit.said ≡ said place) × AreServedFrom rules links said (place + 1) visits

-- a chronicle is legal over its opening; it has what was said for each connection, in their order; and no entry has
-- another number
pub record KeepsVisits {L : Type 0} (opening : Opening) (rules : List Rule) (links : OutsideGhosts L)
    (visits : List (Visit L)) (chronicle : List Noted) : Type 0 where
  pub legal : IsLegalOver opening chronicle
  pub served : AreServedFrom rules links (said_in chronicle) 0 visits
  pub strangers : (number : ℕ) → length visits ≤ number → said_in chronicle number ≡ []

-- a connection ended for want of memory
abbrev pub wants_memory : End → Bool
wants_memory endings.Closed = false
wants_memory endings.LinkFault = false
wants_memory endings.Limit = false
wants_memory endings.Memory = true

-- what the serving of connections over an opening leaves: how it ended by itself decides what was printed, and with
-- what its calls came to, and with connections that ended for want of memory, how the run ends; where that is done no
-- call was refused
pub record ServesConnections {D L : Type 0} (service : Service) (opening : Opening) (rules : List Rule) (run : Run D)
    (out : MovedSink) (net : MovedListener L) (disk : DiskNow) : Type 0 where
  pub visits : List (Visit L)
  pub served : Ended
  pub ends : run.ended ≡ ended_by served (with_want (list_any (λ visit. wants_memory visit.end) visits)
      (tally_of opening.state (history_of run.chronicle)))
  pub chronicle : KeepsVisits opening rules net.links visits run.chronicle
  pub kept : KeepsDisk opening run.chronicle disk
  pub port : LeavesPort service visits served out net
  pub answered : OnOk run.ended (are_served run.chronicle ≡ true)

-- The run

-- a run ended with such a fault before it asked for the port, made a call or printed anything
abbrev pub EndsUnasked : {D L : Type 0} → (RunFault → Type 0) → Run D → MovedSink → MovedListener L → Type 0
EndsUnasked Cause run out net = EndsUnbegun Cause run out × net.is_untouched

-- the learned file was opened, and then there was no memory to begin, or the port was asked for
pub record ServesOpened {D L : Type 0} (service : Service) (limit : ℕ) (files : List (List Row)) (rules : List Rule)
    (run : Run D)
    (out : MovedSink) (net : MovedListener L) (disk : MovedDisk) : Type 0 where
  pub opening : Opening
  pub opened : IsOpening disk files limit opening
  pub served : EndsUnasked (λ fault. fault ≡ Memory) run out net
      ⊎ ServesConnections service opening rules run out net disk.after

-- the files that the options name were read, and then the learned file was refused, or it was opened
pub record ServesNamed {D L : Type 0} (options : ServeOptions) (run : Run D) (shelf : MovedShelf) (out : MovedSink)
    (net : MovedListener L) (disk : MovedDisk) : Type 0 where
  pub rules : List Rule
  pub books : List (List Row)
  pub are_rules : AreRules (rules_named options.rules shelf) rules
  pub are_rows : AreRowsOf books (dictionaries_named options.dictionaries.items shelf)
  pub served : EndsUnasked (RefusesLearned disk) run out net
      ⊎ ServesOpened (record { port = options.port; connections = options.connections }) (limit_of options.limit) books
      rules run out net disk

-- what a run of `serve` leaves: a file that the options name is refused, and the disk is not touched, or they were read
abbrev pub LeavesServed : {D L : Type 0} → ServeOptions → Run D → MovedShelf → MovedSink → MovedListener L → MovedDisk
    → Type 0
LeavesServed options run shelf out net disk =
    (EndsUnasked (RefusesNamed options.rules options.dictionaries.items shelf) run out net × disk.is_untouched)
    ⊎ ServesNamed options run shelf out net disk

-- The office

-- what the serving of a port by callers that an office admits leaves: what is left of these tells of each connection
pub record ServesByOffice {L S : Type 0} (service : Service) (rules : List Rule) (slips : KeptGhosts S)
    (drawn drawn' : ℕ)
    (outcome : Outcome S) (out : MovedSink) (net : MovedListener L) : Type 0 where
  pub visits : List (Visit L)
  pub served : AreServed rules net.links slips drawn visits outcome.slips.items
  pub ends_are : outcome.ends.items ≡ map (λ visit. visit.end) visits
  pub drawn_is : drawn' ≡ drawn + length outcome.slips.items
  pub port : LeavesPort service visits outcome.ended out net
