-- How far the serving of a listener's connections has come.
use Rattle.std.specs.Prelude.{◌≡◌, ◌<◌, ◌≤◌, ℕ, ◌+◌, Some, option_map, List, [], ◌∷◌, ◌++◌, length, map}
use Rattle.std.specs.Prelude.{vec_len, vec_capacity}
use Rattle.std.specs.VecDeque.{deque_len, deque_capacity}
use Rattle.romaji_rules.specs.declared.rule.Rule.{Rule}
use Rattle.skk_outside.specs.declared.listener.Listener.{Ghosts as ListenerGhosts}
use Rattle.skk_outside.specs.declared.outside.Outside.{Ghosts as OutsideGhosts}
use Rattle.skk_outside.specs.Faults.{Rose}
use Rattle.skk_calls.specs.declared.caller.Caller.{Ghosts as CallerGhosts}
use Rattle.skk_calls.specs.declared.caller.Kept.{Ghosts as KeptGhosts}
use Rattle.skk_server.specs.declared.hall.Hall.{Hall}
use Rattle.skk_server.specs.declared.served_end.ServedEnd.{ServedEnd}
use Rattle.skk_server.specs.declared.served_end.ServedEnd.TheVariants.{Done, Fault, Memory}
use Rattle.skk_server.specs.declared.start.Start.{Start}
use Rattle.skk_server.specs.declared.work.Accepted.{Accepted}
use Rattle.skk_server.specs.Visits.{Visit, AreServed}
use Rattle.skk_server.specs.Works.{begun, passes_of, passes_under_way, running_in, IsUnderWay, AreUnderWay, AreJoined}

-- the most workers at once
abbrev pub most_workers : ℕ
most_workers = 32

-- how many connections were accepted
abbrev pub accepted_in : {L C S : Type 0} → Hall L C S → ℕ
accepted_in hall = length hall.ends.items + length hall.works.items

-- how many passes were made
abbrev pub passes_in : {L C S : Type 0} → Hall L C S → ℕ
passes_in hall = length hall.passes.items + passes_under_way hall.works.items

-- no more workers serve than may, they are counted, and there is room for what the works leave
pub record HasPlaces {L C S : Type 0} (hall : Hall L C S) : Type 0 where
  pub few : hall.running ≤ most_workers
  pub running_is : hall.running ≡ running_in hall.works.items
  pub passes_fit : vec_len hall.passes + deque_len hall.works ≤ vec_capacity hall.passes
  pub ends_fit : vec_len hall.ends + deque_len hall.works ≤ vec_capacity hall.ends

-- there is room for one work more, and a worker may serve it
pub record HasPlace {L C S : Type 0} (hall : Hall L C S) : Type 0 where
  pub few : hall.running < most_workers
  pub running_is : hall.running ≡ running_in hall.works.items
  pub works_fit : deque_len hall.works < deque_capacity hall.works
  pub passes_fit : vec_len hall.passes + deque_len hall.works < vec_capacity hall.passes
  pub ends_fit : vec_len hall.ends + deque_len hall.works < vec_capacity hall.ends

-- the serving of connections begins, by these rules, with this listener and this number, and with an empty hall
pub record Opens {N L C S : Type 0} (rules : List Rule) (net : N) (drawn : ℕ) (start : Start N) (hall : Hall L C S)
    : Type 0 where
  pub rules_are : start.rules.value ≡ rules
  pub net_is : start.net.value ≡ net
  pub number_is : start.first ≡ drawn
  pub no_works : hall.works.items ≡ []
  pub no_passes : hall.passes.items ≡ []
  pub no_ends : hall.ends.items ≡ []
  pub places : HasPlaces hall

-- a hall has counted as many connections and passes as before
abbrev pub CountsStay : {L C S : Type 0} → Hall L C S → Hall L C S → Type 0
CountsStay hall hall' = (accepted_in hall' ≡ accepted_in hall) × (passes_in hall' ≡ passes_in hall)

-- workers that have ended were joined, and nothing else is another in a hall
pub record JoinsSome {L C S : Type 0} (links : OutsideGhosts L) (callers : CallerGhosts C)
    (hall hall' : Hall L C S) : Type 0 where
  pub joined : AreJoined links callers hall.works.items hall'.works.items
  pub passes_stay : hall'.passes ≡ hall.passes
  pub ends_stay : hall'.ends ≡ hall.ends

-- of the connections that were accepted from the start on, the first ones were served, and the others are under way
pub record Stage {N L C S : Type 0} (nets : ListenerGhosts N L) (links : OutsideGhosts L) (callers : CallerGhosts C)
    (slips : KeptGhosts S) (start : Start N) (net : N) (hall : Hall L C S) : Type 0 where
  pub visits : List (Visit L)
  pub served : AreServed start.rules.value links slips start.first visits hall.passes.items
  pub under_way : AreUnderWay start.rules.value links callers (start.first + length hall.passes.items) hall.works.items
  pub comes : nets.coming start.net.value ≡ option_map
      (λ rest. (map (λ visit. visit.link) visits ++ map begun hall.works.items) ++ rest) (nets.coming net)
  pub gives_back : nets.over net ≡ option_map (λ before. before ++ map (λ visit. visit.link') visits)
      (nets.over start.net.value)
  pub out_is : nets.out net ≡ nets.out start.net.value + length hall.works.items
  pub opened_is : nets.opened net ≡ nets.opened start.net.value
  pub counted : nets.faults start.net.value ≤ nets.faults net
  pub ends_are : hall.ends.items ≡ map (λ visit. visit.end) visits
  pub level : 0 < length hall.works.items → length hall.passes.items ≡ length visits

-- a link was accepted
pub record TakesLink {N L : Type 0} (nets : ListenerGhosts N L) (net net' : N) (link : L) : Type 0 where
  pub comes : nets.coming net ≡ option_map (λ rest. link ∷ rest) (nets.coming net')
  pub over_is : nets.over net' ≡ nets.over net
  pub out_is : nets.out net' ≡ nets.out net + 1
  pub opened_is : nets.opened net' ≡ nets.opened net
  pub counted : nets.faults net ≤ nets.faults net'

-- why no link was accepted, by the end that this is: none can come, or the listener failed
abbrev pub NoneCame : {N L : Type 0} → ListenerGhosts N L → N → N → ServedEnd → Type 0
NoneCame nets net net' Done = nets.coming net' ≡ Some []
NoneCame nets net net' Fault = Rose (nets.faults net) (nets.faults net')
NoneCame nets net net' Memory = ⊥

-- no link was accepted
pub record TakesNone {N L : Type 0} (nets : ListenerGhosts N L) (net net' : N) (end : ServedEnd) : Type 0 where
  pub coming_is : nets.coming net' ≡ nets.coming net
  pub over_is : nets.over net' ≡ nets.over net
  pub out_is : nets.out net' ≡ nets.out net
  pub opened_is : nets.opened net' ≡ nets.opened net
  pub counted : nets.faults net ≤ nets.faults net'
  pub why : NoneCame nets net net' end

-- a link was given back
pub record GivesBack {N L : Type 0} (nets : ListenerGhosts N L) (net net' : N) (link : L) : Type 0 where
  pub over_is : nets.over net' ≡ option_map (λ links. links ++ link ∷ []) (nets.over net)
  pub out_is : nets.out net' + 1 ≡ nets.out net
  pub opened_is : nets.opened net' ≡ nets.opened net
  pub coming_is : nets.coming net' ≡ nets.coming net
  pub faults_is : nets.faults net' ≡ nets.faults net

-- a link was added to the works of a hall, with the roll's next pass or with none: its count before and after
pub record AddsWork {L C S : Type 0} (rules : List Rule) (links : OutsideGhosts L) (callers : CallerGhosts C)
    (drawn drawn' : ℕ) (link : L) (hall hall' : Hall L C S) : Type 0 where
  pub work : Accepted L C
  pub works_are : hall'.works.items ≡ hall.works.items ++ work ∷ []
  pub begun_is : begun work ≡ link
  pub under_way : IsUnderWay rules links callers drawn work []
  pub drawn_is : drawn' ≡ drawn + passes_of work
  pub passes_stay : hall'.passes ≡ hall.passes
  pub ends_stay : hall'.ends ≡ hall.ends

-- how the taking of connections ended: none came and none was taken in, or memory was out, and none got a pass
abbrev pub EndsTaking : {N L C S : Type 0} → ListenerGhosts N L → N → N → Hall L C S → Hall L C S → ServedEnd → Type 0
EndsTaking nets net net' hall hall' Memory = passes_in hall' ≡ passes_in hall
EndsTaking nets net net' hall hall' end = CountsStay hall hall' × NoneCame nets net net' end
