-- What the serving of a port leaves, of what its parts leave.
use Rattle.std.proofs.Common.{◌≡◌, ◌∙◌, ◌⊎◌, ◌≤◌, ◌+◌, ℕ, Bool, true, false, ◌||◌, if◌then◌else◌, sym, ap, subst, refl}
use Rattle.std.proofs.Common.{inl, inr, arith, Option, None, Some, List, [], ◌∷◌, ◌++◌, append-nil, length, map, All}
use Rattle.std.proofs.Common.{Ok, Err, OnOk}
use Rattle.std.specs.Bool.{⊤}
use Rattle.std.proofs.KnownBytes.{Appends-trans}
use Rattle.std.proofs.lemmas.List.Elements.{All-head, All-tail}
use Rattle.std.specs.Io.KnownBytes.{Appends, Keeps}
use Rattle.std.specs.List.{list_all, list_any}
use Rattle.std.specs.Option.{option_map}
use Rattle.romaji_rules.specs.declared.rule.Rule.{Rule}
use Rattle.skk_outside.specs.declared.listener.Listener.{Ghosts as ListenerGhosts}
use Rattle.skk_outside.specs.declared.outside.Outside.{Ghosts as OutsideGhosts}
use Rattle.skk_outside.specs.Faults.{Rose}
use Rattle.skk_outside.specs.Moved.{Told, MovedSink}
use Rattle.skk_outside.specs.Written.{AppendsPrefix}
use Rattle.skk_calls.specs.declared.chronicle.Noted.{Noted}
use Rattle.skk_calls.specs.declared.entry.Entry.{Entry}
use Rattle.skk_calls.specs.declared.caller.Kept.{Ghosts as KeptGhosts}
use Rattle.skk_calls.specs.Chronicles.{history_of}
use Rattle.skk_calls.specs.Histories.{Opening, dialog}
use Rattle.skk_calls.specs.Openings.{IsLegalOver, said_in, are_served, is_reply}
use Rattle.skk_calls.specs.States.{State}
use Rattle.skk_calls.specs.Tallies.{Tally, tally_of, has_answer, lacks_disk}
use Rattle.skk_server.specs.declared.served.Served.{Served}
use Rattle.skk_server.specs.declared.served_end.ServedEnd.{ServedEnd}
use Rattle.skk_server.specs.declared.served_end.ServedEnd.TheVariants as stages
use Rattle.skk_server.specs.Services.{EndsServing, ServesAll}
use Rattle.skk_server.specs.Visits.{Visit, AreServed}
use Rattle.desk_history.specs.Seats.{CallerState}
use Rattle.shared_desk.specs.Told.{Stood}
use Rattle.caller_work.specs.Disks.{DiskNow, KeepsDisk}
use Rattle.run_endings.specs.Page.{StopsPrinting}
use Rattle.skk_top.specs.ServeCommand.{MovedListener, moved_listener, ready_line, served_line, serve_lines, TellsEnd}
use Rattle.skk_top.specs.ServeCommand.{StopsServing, ServesVisits, AreServedFrom, wants_memory, ServesConnections}
use Rattle.skk_top.specs.ServeCommand.{ServesByOffice}
use Rattle.run_endings.specs.Status.{Ended, ended_by, with_want}
use Rattle.run_endings.specs.declared.fault.RunFault.{RunFault}
use Rattle.run_endings.specs.declared.fault.RunFault.TheVariants.{Outside, Memory}
use Rattle.skk_top.specs.declared.serving.Outcome.{Outcome}
use Rattle.skk_top.specs.declared.serving.Service.{Service}
use Rattle.run_endings.specs.PageLaws.{AppendsPrefix-behind, AppendsPrefix-more, AppendsPrefix-whole}
use Rattle.run_endings.specs.PageLaws.{Appends-kept}
use Rattle.skk_top.proofs.PrintedChecks.{stops-behind}
use Rattle.skk_top.proofs.Served.{where_done}

-- The port

-- all is still to come, and nothing more is over
all-to-come : {L : Type 0} (known : Option (List L)) → known ≡ option_map (λ rest. [] ++ rest) known
all-to-come None = refl
all-to-come (Some rest) = refl

none-over : {L : Type 0} (known : Option (List L)) → known ≡ option_map (λ before. before ++ []) known
none-over None = refl
none-over (Some before) = ap Some (sym (append-nil before))

-- why printing stops is why serving does
stops-serving : {L : Type 0} (out : MovedSink) (net : MovedListener L) (fault : RunFault) → StopsPrinting out fault
    → StopsServing out net fault
stops-serving out net Outside rose = inl rose
stops-serving out net Memory wanted = tt
stops-serving out net fault none = absurd none

module _ {N L S : Type 0} (table : List Rule) (nets : ListenerGhosts N L) (links : OutsideGhosts L)
    (slips : KeptGhosts S) (service : Service) (drawn : ℕ) (old new : N) where
  -- the port could not be opened
  pub office-unopened : (outcome : Outcome S) (out : MovedSink) → outcome.ended ≡ Err Outside
      → outcome.slips.items ≡ [] → outcome.ends.items ≡ [] → nets.coming new ≡ nets.coming old
      → nets.over new ≡ nets.over old → nets.out new ≡ nets.out old → nets.opened new ≡ nets.opened old
      → Rose (nets.faults old) (nets.faults new) → Keeps out.written out.written'
      → ServesByOffice service table slips drawn drawn outcome out (moved_listener nets links old new)
  office-unopened outcome out ends no_slips no_ends coming over count closed rose keeps =
      record {
        visits = [];
        served = subst (λ items. AreServed table links slips drawn [] items) (sym no_slips) tt;
        ends_are = no_ends;
        drawn_is = omega (arith, ap length no_slips);
        port = inl (record {
          none = refl;
          ends = ends;
          failed = rose;
          unwritten = keeps;
          coming_is = coming;
          over_is = over;
          out_is = count;
          opened_is = closed;
        });
      }

  -- it was, which could not be told
  pub office-untold : (outcome : Outcome S) (fault : RunFault) (out : MovedSink) → outcome.ended ≡ Err fault
      → outcome.slips.items ≡ [] → outcome.ends.items ≡ [] → nets.coming new ≡ nets.coming old
      → nets.over new ≡ nets.over old → nets.out new ≡ nets.out old → nets.opened new ≡ Some service.port
      → AppendsPrefix out.written out.written' ready_line → StopsPrinting out fault
      → ServesByOffice service table slips drawn drawn outcome out (moved_listener nets links old new)
  office-untold outcome fault out ends no_slips no_ends coming over count opened prefix stops =
      let net = moved_listener nets links old new in
      record {
        visits = [];
        served = subst (λ items. AreServed table links slips drawn [] items) (sym no_slips) tt;
        ends_are = no_ends;
        drawn_is = omega (arith, ap length no_slips);
        port = inr (subst (λ (e : Ended). ServesVisits service [] e out net) (sym ends) (record {
          opened_is = opened;
          comes = sym coming ∙ all-to-come (nets.coming new);
          gives_back = none-over (nets.over new) ∙ ap (option_map (λ before. before ++ [])) over;
          none_out = count;
          few = omega arith;
          all = tt;
          whole = tt;
          prefix = AppendsPrefix-more out.written out.written' ready_line (served_line 0) prefix;
          told = λ some. absurd (omega (arith, some));
          stopped = stops-serving out net fault stops;
        }));
      }

-- why serving ended, of connections that were served
abbrev IsCause : {L : Type 0} → ℕ → List (Visit L) → MovedListener L → ServedEnd → Type 0
IsCause asked visits net stages.Done = (length visits ≡ asked) ⊎ (net.coming' ≡ Some [])
IsCause asked visits net stages.Fault = Rose net.faults net.faults'
IsCause asked visits net stages.Memory = ⊤

module _ {L : Type 0} (service : Service) (visits : List (Visit L)) (net : MovedListener L) (old mid new : Told)
    (faults middle faults' : ℕ) (ready : Appends old mid ready_line) (counted : faults ≤ middle)
    (comes : net.coming ≡ option_map (λ rest. map (λ (visit : Visit L). visit.link) visits ++ rest) net.coming')
    (gives_back : net.over' ≡ option_map (λ before. before ++ map (λ (visit : Visit L). visit.link') visits) net.over)
    (none_out : net.out' ≡ net.out) (opened : net.opened' ≡ Some service.port)
    (few : length visits ≤ service.connections) where
  abbrev all_out : MovedSink
  all_out = record { written = old; written' = new; faults = faults; faults' = faults' }

  -- the first line was written, and nothing else
  alone : Keeps mid new → Appends old new (ready_line ++ [])
  alone keeps = subst (Appends old new) (sym (append-nil ready_line)) (Appends-kept old mid new ready_line ready keeps)

  first : Keeps mid new → AppendsPrefix old new (serve_lines (length visits))
  first keeps =
      AppendsPrefix-more old new ready_line (served_line (length visits))
      (AppendsPrefix-whole old new ready_line (Appends-kept old mid new ready_line ready keeps))

  -- connections were served, and how their serving ended was told
  pub visits-served : (end : ServedEnd) (ended : Ended) → IsCause service.connections visits net end
      → TellsEnd end (length visits) ended
      (record { written = mid; written' = new; faults = middle; faults' = faults' })
      → ServesVisits service visits ended all_out net
  visits-served stages.Done (Ok done) cause tells =
      let whole = Appends-trans old mid new ready_line (served_line (length visits)) ready tells.whole in
      record {
        opened_is = opened;
        comes = comes;
        gives_back = gives_back;
        none_out = none_out;
        few = few;
        all = cause;
        whole = whole;
        prefix = AppendsPrefix-whole old new (serve_lines (length visits)) whole;
        told = λ some. (served_line (length visits), whole);
        stopped = tt;
      }
  visits-served stages.Done (Err fault) cause tells =
      record {
        opened_is = opened;
        comes = comes;
        gives_back = gives_back;
        none_out = none_out;
        few = few;
        all = tt;
        whole = tt;
        prefix = AppendsPrefix-behind old mid new ready_line (served_line (length visits)) ready tells.prefix;
        told = λ some. (tells.prefix.0, Appends-trans old mid new ready_line tells.prefix.0 ready tells.prefix.2);
        stopped = stops-serving all_out net fault
            (stops-behind fault old mid new faults middle faults' counted tells.stopped);
      }
  visits-served stages.Fault (Ok done) cause tells = absurd (cc (tells.0))
  visits-served stages.Fault (Err fault) cause tells =
      let same : fault ≡ Outside = cc (tells.0) in
      record {
        opened_is = opened;
        comes = comes;
        gives_back = gives_back;
        none_out = none_out;
        few = few;
        all = tt;
        whole = tt;
        prefix = first tells.1;
        told = λ some. ([], alone tells.1);
        stopped = subst (StopsServing all_out net) (sym same) (inr cause);
      }
  visits-served stages.Memory (Ok done) cause tells = absurd (cc (tells.0))
  visits-served stages.Memory (Err fault) cause tells =
      let same : fault ≡ Memory = cc (tells.0) in
      record {
        opened_is = opened;
        comes = comes;
        gives_back = gives_back;
        none_out = none_out;
        few = few;
        all = tt;
        whole = tt;
        prefix = first tells.1;
        told = λ some. ([], alone tells.1);
        stopped = subst (StopsServing all_out net) (sym same) tt;
      }

-- why serving ended, since the port was asked for
cause-since : {N L : Type 0} (nets : ListenerGhosts N L) (links : OutsideGhosts L) (old mid new : N) (asked passes : ℕ)
    (visits : List (Visit L)) (end : ServedEnd) → nets.faults old ≤ nets.faults mid
    → EndsServing nets mid new asked (length visits) passes end
    → IsCause asked visits (moved_listener nets links old new) end
cause-since nets links old mid new asked passes visits stages.Done counted ends = elim ends.1 [
  | inl all ↦ inl (ends.0 ∙ all)
  | inr none ↦ inr none
]
cause-since nets links old mid new asked passes visits stages.Fault counted ends = omega (arith, counted, ends.2)
cause-since nets links old mid new asked passes visits stages.Memory counted ends = tt

module _ {N L S : Type 0} (table : List Rule) (nets : ListenerGhosts N L) (links : OutsideGhosts L)
    (slips : KeptGhosts S) (service : Service) (drawn drawn' : ℕ) (old mid new : N) where
  -- the port was opened and told, and its connections were served
  pub office-served : (answered : Served S) (outcome : Outcome S) (before between after : Told)
      (faults middle faults' : ℕ)
      → ServesAll table nets links slips service.connections mid new drawn drawn' answered
      → nets.coming mid ≡ nets.coming old → nets.over mid ≡ nets.over old → nets.out mid ≡ nets.out old
      → nets.opened mid ≡ Some service.port → nets.faults old ≤ nets.faults mid
      → Appends before between ready_line → faults ≤ middle
      → TellsEnd answered.end answered.count outcome.ended
      (record { written = between; written' = after; faults = middle; faults' = faults' })
      → outcome.slips ≡ answered.passes → outcome.ends ≡ answered.ends
      → ServesByOffice service table slips drawn drawn' outcome
      (record { written = before; written' = after; faults = faults; faults' = faults' })
      (moved_listener nets links old new)
  office-served answered outcome before between after faults middle faults' serves coming over count opened counted
      ready rises tells slips_are ends_are =
      let visits = serves.visits in
      record {
        visits = visits;
        served = subst (λ left. AreServed table links slips drawn visits left.items) (sym slips_are) serves.served;
        ends_are = ap (λ ends. ends.items) ends_are ∙ serves.ends_are;
        drawn_is = serves.drawn_is ∙ ap (λ left. drawn + length left.items) (sym slips_are);
        port = inr (visits-served service visits (moved_listener nets links old new) before between after faults middle
            faults' ready rises (sym coming ∙ serves.comes)
            (serves.gives_back
            ∙ ap (option_map (λ given. given ++ map (λ (visit : Visit L). visit.link') visits)) over)
            (serves.none_out ∙ count) (serves.opened_is ∙ opened) serves.few answered.end outcome.ended
            (cause-since nets links old mid new service.connections (length answered.passes.items) visits answered.end
            counted
            serves.ends_so)
            (subst (λ n. TellsEnd answered.end n outcome.ended
            (record { written = between; written' = after; faults = middle; faults' = faults' })) serves.count_is
            tells));
      }

-- The chronicle

-- no more callers were there than connections
slips-few : {L S : Type 0} (table : List Rule) (links : OutsideGhosts L) (slips : KeptGhosts S) (first : ℕ)
    (visits : List (Visit L)) (left : List S) → AreServed table links slips first visits left
    → length left ≤ length visits
slips-few table links slips first [] [] are = omega arith
slips-few table links slips first [] (slip ∷ left) are = absurd are
slips-few table links slips first (visit ∷ visits) [] are = omega arith
slips-few table links slips first (visit ∷ visits) (slip ∷ left) are =
    let few = slips-few table links slips (first + 1) visits left are.2 in omega (arith, few)

-- how a desk sees the slips of its callers
abbrev pub desk_slips : KeptGhosts CallerState
desk_slips = record { number = λ slip. slip.number; said = λ slip. slip.mine }

-- what a history tells of connections, by what is left of their callers
served-from : {L : Type 0} (table : List Rule) (links : OutsideGhosts L) (history : List Entry) (first : ℕ)
    (visits : List (Visit L)) (left : List CallerState) → AreServed table links desk_slips first visits left
    → All (Stood history) left
    → ((number : ℕ) → first + length left ≤ number → dialog history number ≡ [])
    → AreServedFrom table links (dialog history) first visits
served-from table links history first [] [] are stood strangers = tt
served-from table links history first [] (slip ∷ left) are stood strangers = absurd are
served-from table links history first (visit ∷ visits) [] are stood strangers = (
  are.0,
  are.1.0 ∙ sym (strangers first (omega arith)),
  subst (λ others. AreServedFrom table links (dialog history) (first + 1) others) (sym are.2) tt,
)
served-from table links history first (visit ∷ visits) (slip ∷ left) are stood strangers =
    let own = All-head (Stood history) slip left stood in (
      are.0,
      sym are.1.1 ∙ (sym own.1 ∙ ap (dialog history) are.1.0),
      served-from table links history (first + 1) visits left are.2 (All-tail (Stood history) slip left stood)
          (λ number behind. strangers number (omega (arith, behind))),
    )

-- whether memory was wanting, of connections and of their ends
wants-any : {L : Type 0} (visits : List (Visit L))
    → list_any wants_memory (map (λ (visit : Visit L). visit.end) visits)
    ≡ list_any (λ (visit : Visit L). wants_memory visit.end) visits
wants-any [] = refl
wants-any (visit ∷ visits) = ap (λ b. wants_memory visit.end || b) (wants-any visits)

-- how a run ends that was done and wanted memory
abbrev ended_wanting : Bool → Ended
ended_wanting disk = if disk then Err Outside else Err Memory

not-done : (disk : Bool) (P : Type 0) → OnOk (ended_wanting disk) P
not-done true P = tt
not-done false P = tt

-- a run that is done wanted none, and no call of it was refused
where_served : (wanted : Bool) (history : List Entry) (state : State)
    → OnOk (ended_by (Ok tt) (with_want wanted (tally_of state history)))
    (list_all (λ entry. is_reply entry.answer) history ≡ true)
where_served false history state = where_done history state
where_served true history state =
    not-done (has_answer lacks_disk history) (list_all (λ entry. is_reply entry.answer) history ≡ true)

-- connections that were served by callers of a desk, which is closed then
pub serves-closed : {D L : Type 0} (service : Service) (opening : Opening) (table : List Rule) (chronicle : List Noted)
    (left : D) (tally : Tally) (wanted : Bool) (drawn' : ℕ) (outcome : Outcome CallerState) (out : MovedSink)
    (net : MovedListener L) (disk : DiskNow)
    → ServesByOffice service table desk_slips 0 drawn' outcome out net
    → All (Stood (history_of chronicle)) outcome.slips.items
    → ((number : ℕ) → drawn' ≤ number → said_in chronicle number ≡ [])
    → IsLegalOver opening chronicle → KeepsDisk opening chronicle disk
    → tally ≡ tally_of opening.state (history_of chronicle)
    → wanted ≡ list_any wants_memory outcome.ends.items
    → ServesConnections service opening table (record {
      ended = ended_by outcome.ended (with_want wanted tally);
      chronicle = chronicle;
      disk = left;
    }) out net disk
serves-closed {L = L} service opening table chronicle left tally wanted drawn' outcome out net disk serves stood
    strangers
    legal keeps counts wanted_is =
    let visits = serves.visits in
    let few = slips-few table net.links desk_slips 0 visits outcome.slips.items serves.served in
    let wants : wanted ≡ list_any (λ (visit : Visit L). wants_memory visit.end) visits =
    wanted_is ∙ ap (list_any wants_memory) serves.ends_are ∙ wants-any visits in
    record {
      visits = visits;
      served = outcome.ended;
      ends = ap (λ (w : Bool). ended_by outcome.ended (with_want w tally)) wants
          ∙ ap (λ (t : Tally). ended_by outcome.ended
          (with_want (list_any (λ (visit : Visit L). wants_memory visit.end) visits) t)) counts;
      chronicle = record {
        legal = legal;
        served = served-from table net.links (history_of chronicle) 0 visits outcome.slips.items serves.served stood
            (λ number behind. strangers number (omega (arith, behind, serves.drawn_is)));
        strangers = λ number behind. strangers number (omega (arith, behind, few, serves.drawn_is));
      };
      kept = keeps;
      port = serves.port;
      answered = subst (λ (t : Tally). OnOk (ended_by outcome.ended (with_want wanted t)) (are_served chronicle ≡ true))
          (sym counts) (answered outcome.ended);
    }
  where
    answered : (served : Ended)
        → OnOk (ended_by served (with_want wanted (tally_of opening.state (history_of chronicle))))
        (are_served chronicle ≡ true)
    answered (Ok done) = where_served wanted (history_of chronicle) opening.state
    answered (Err fault) = tt
