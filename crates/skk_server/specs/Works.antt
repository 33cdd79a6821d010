-- What is known of the works under way.
use Rattle.std.specs.Prelude.{◌≡◌, ◌⊎◌, ⊤, ℕ, ◌+◌, true, List, [], ◌∷◌}
use Rattle.std.specs.List.{sum_by}
use Rattle.skk_outside.specs.declared.outside.Outside.{Ghosts as OutsideGhosts}
use Rattle.romaji_rules.specs.declared.rule.Rule.{Rule}
use Rattle.skk_calls.specs.declared.caller.Caller.{Ghosts as CallerGhosts}
use Rattle.skk_server.specs.declared.promised.Promised.{Promised}
use Rattle.skk_server.specs.declared.work.Accepted.{Accepted}
use Rattle.skk_server.specs.declared.work.Accepted.TheVariants.{Running, Done, Refused}
use Rattle.skk_server.specs.Visits.{HasWorked}

-- the link that a work began with
abbrev pub begun : {L C : Type 0} → Accepted L C → L
begun (Running handle was) = was.link.value
begun (Done worked was) = was.link.value
begun (Refused link was) = was.value

-- how many passes a work has
abbrev pub passes_of : {L C : Type 0} → Accepted L C → ℕ
passes_of (Running handle was) = 1
passes_of (Done worked was) = 1
passes_of (Refused link was) = 0

-- how many passes works have
abbrev pub passes_under_way : {L C : Type 0} → List (Accepted L C) → ℕ
passes_under_way works = sum_by passes_of works

-- how many workers serve a work
abbrev pub running_of : {L C : Type 0} → Accepted L C → ℕ
running_of (Running handle was) = 1
running_of (Done worked was) = 0
running_of (Refused link was) = 0

-- how many workers serve works
abbrev pub running_in : {L C : Type 0} → List (Accepted L C) → ℕ
running_in works = sum_by running_of works

-- a work began by these rules, with a caller of this number that had said nothing
abbrev pub BeganWith : {L C : Type 0} → List Rule → CallerGhosts C → ℕ → Promised L C → Type 0
BeganWith rules callers number promise =
    (promise.rules.value ≡ rules) × (callers.number promise.pass.value ≡ number)
    × (callers.said promise.pass.value ≡ [])

-- a worker was promised what this tells
abbrev pub IsPromised : {L C : Type 0} → Promised L C → Promised L C → Type 0
IsPromised promise was =
    (promise.rules.value ≡ was.rules.value) × (promise.link.value ≡ was.link.value)
    × (promise.pass.value ≡ was.pass.value)

-- a link was closed, and nothing else was done with it
pub record IsClosed {L : Type 0} (links : OutsideGhosts L) (link link' : L) : Type 0 where
  pub closed_is : links.closed link' ≡ true
  pub left_is : links.left link' ≡ links.left link
  pub written_is : links.written link' ≡ links.written link
  pub faults_is : links.faults link' ≡ links.faults link

-- a work is under way by these rules, with a caller of this number; one without a caller is the last
abbrev pub IsUnderWay : {L C : Type 0} → List Rule → OutsideGhosts L → CallerGhosts C → ℕ → Accepted L C
    → List (Accepted L C)
    → Type 0
IsUnderWay rules links callers number (Running handle was) behind =
    BeganWith rules callers number was × IsPromised handle.promise was
IsUnderWay rules links callers number (Done worked was) behind =
    BeganWith rules callers number was
    × HasWorked links callers was.rules.value was.link.value was.pass.value worked.link worked.pass worked.end
IsUnderWay rules links callers number (Refused link was) behind = IsClosed links was.value link × (behind ≡ [])

-- works are under way, oldest first, with callers whose numbers count on from the first
abbrev pub AreUnderWay : {L C : Type 0} → List Rule → OutsideGhosts L → CallerGhosts C → ℕ → List (Accepted L C)
    → Type 0
AreUnderWay rules links callers first [] = ⊤
AreUnderWay rules links callers first (work ∷ works) =
    IsUnderWay rules links callers first work works × AreUnderWay rules links callers (first + 1) works

-- this is what a worker leaves that was joined
abbrev pub JoinsWorker : {L C : Type 0} → OutsideGhosts L → CallerGhosts C → Promised L C → Promised L C → Accepted L C
    → Type 0
JoinsWorker links callers promise was (Running handle was') = ⊥
JoinsWorker links callers promise was (Done worked was') =
    (was' ≡ was) × HasWorked links callers promise.rules.value promise.link.value promise.pass.value worked.link
    worked.pass worked.end
JoinsWorker links callers promise was (Refused link was') = ⊥

-- a work whose worker, where it had one, was joined
abbrev pub Joins : {L C : Type 0} → OutsideGhosts L → CallerGhosts C → Accepted L C → Accepted L C → Type 0
Joins links callers (Running handle was) work = JoinsWorker links callers handle.promise was work
Joins links callers (Done worked was) work = work ≡ Done worked was
Joins links callers (Refused link was) work = work ≡ Refused link was

-- works each of which is as it was, or was joined
abbrev pub AreJoined : {L C : Type 0} → OutsideGhosts L → CallerGhosts C → List (Accepted L C)
    → List (Accepted L C) → Type 0
AreJoined links callers [] [] = ⊤
AreJoined links callers [] (work ∷ works) = ⊥
AreJoined links callers (work ∷ works) [] = ⊥
AreJoined links callers (work ∷ works) (work' ∷ works') =
    ((work' ≡ work) ⊎ Joins links callers work work') × AreJoined links callers works works'
