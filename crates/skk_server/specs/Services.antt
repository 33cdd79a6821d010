-- What the serving of the connections of a listener leaves, by its end.
use Rattle.std.specs.Prelude.{◌≡◌, ◌⊎◌, ◌<◌, ◌≤◌, ℕ, ◌+◌, Option, Some, option_map, List, [], ◌++◌, length, map}
use Rattle.romaji_rules.specs.declared.rule.Rule.{Rule}
use Rattle.skk_outside.specs.declared.listener.Listener.{Ghosts as ListenerGhosts}
use Rattle.skk_outside.specs.declared.outside.Outside.{Ghosts as OutsideGhosts}
use Rattle.skk_outside.specs.Faults.{Rose}
use Rattle.skk_calls.specs.declared.caller.Kept.{Ghosts as KeptGhosts}
use Rattle.skk_server.specs.declared.served.Served.{Served}
use Rattle.skk_server.specs.declared.served_end.ServedEnd.{ServedEnd}
use Rattle.skk_server.specs.declared.served_end.ServedEnd.TheVariants.{Done, Fault, Memory}
use Rattle.skk_server.specs.Visits.{Visit, AreServed}

-- how an end came, where so many connections were asked for, so many were accepted, and so many had a pass: as many as
-- were asked for had one, or no link can come any more; the listener failed; or memory was out
abbrev pub EndsServing : {N L : Type 0} → ListenerGhosts N L → N → N → ℕ → ℕ → ℕ → ServedEnd → Type 0
EndsServing nets net net' asked accepted passes Done =
    (accepted ≡ passes) × ((passes ≡ asked) ⊎ (nets.coming net' ≡ Some []))
EndsServing nets net net' asked accepted passes Fault =
    (accepted ≡ passes) × (passes < asked) × Rose (nets.faults net) (nets.faults net')
EndsServing nets net net' asked accepted passes Memory = passes < asked

-- connections were served, of so many that were asked for: the links that were accepted were given back in their order,
-- each closed, on the port that was open, and what was answered tells of each of them
pub record ServesAll {N L S : Type 0} (rules : List Rule) (nets : ListenerGhosts N L) (links : OutsideGhosts L)
    (slips : KeptGhosts S) (asked : ℕ) (net net' : N) (drawn drawn' : ℕ) (answered : Served S) : Type 0 where
  pub visits : List (Visit L)
  pub served : AreServed rules links slips drawn visits answered.passes.items
  pub comes : nets.coming net ≡ option_map (λ rest. map (λ visit. visit.link) visits ++ rest) (nets.coming net')
  pub gives_back : nets.over net' ≡ option_map (λ before. before ++ map (λ visit. visit.link') visits) (nets.over net)
  pub none_out : nets.out net' ≡ nets.out net
  pub opened_is : nets.opened net' ≡ nets.opened net
  pub counted : nets.faults net ≤ nets.faults net'
  pub count_is : answered.count ≡ length visits
  pub few : length visits ≤ asked
  pub ends_are : answered.ends.items ≡ map (λ visit. visit.end) visits
  pub drawn_is : drawn' ≡ drawn + length answered.passes.items
  pub ends_so : EndsServing nets net net' asked (length visits) (length answered.passes.items) answered.end
