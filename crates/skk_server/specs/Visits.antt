-- Connections that were served, each as one value.
use Rattle.std.specs.Prelude.{◌≡◌, ◌≤◌, ⊤, ℕ, ◌+◌, true, List, [], ◌∷◌}
use Rattle.romaji_rules.specs.declared.rule.Rule.{Rule}
use Rattle.skk_outside.specs.declared.outside.Outside.{Ghosts as OutsideGhosts}
use Rattle.skk_calls.specs.declared.caller.Caller.{Ghosts as CallerGhosts}
use Rattle.skk_calls.specs.declared.caller.Kept.{Ghosts as KeptGhosts}
use Rattle.skk_calls.specs.Interactions.{Dialog}
use Rattle.skk_server.specs.declared.end.End.{End}
use Rattle.skk_server.specs.declared.end.End.TheVariants.{Memory}
use Rattle.skk_server.specs.Ends.{Serves, moved_link}

-- a connection: its link as it was accepted and as it was given back, what its caller said, and its end
pub record Visit (L : Type 0) : Type 0 where
  pub link : L
  pub link' : L
  pub said : Dialog
  pub end : End

-- a connection was served up to its end and closed: its link and what its caller said, before and after
pub record ServesLink {L : Type 0} (rules : List Rule) (links : OutsideGhosts L) (link link' : L) (said said' : Dialog)
    (end : End) : Type 0 where
  pub serves : Serves rules (moved_link links link link') said said' end
  pub is_closed : links.closed link' ≡ true
  pub counted : links.faults link ≤ links.faults link'

-- what a worker hands back was made of the link and the caller that it began with
abbrev pub HasWorked : {L C : Type 0} → OutsideGhosts L → CallerGhosts C → List Rule → L → C → L → C → End → Type 0
HasWorked links callers rules link caller link' caller' end =
    ServesLink rules links link link' (callers.said caller) (callers.said caller') end
    × (callers.number caller' ≡ callers.number caller)

-- a connection was served up to its end and closed, by a caller that had said nothing before
abbrev pub IsServed : {L : Type 0} → List Rule → OutsideGhosts L → Visit L → Type 0
IsServed rules links visit = ServesLink rules links visit.link visit.link' [] visit.said visit.end

-- this is left of the caller of a connection
abbrev pub HasSlip : {L S : Type 0} → KeptGhosts S → ℕ → Visit L → S → Type 0
HasSlip slips number visit slip = (slips.number slip ≡ number) × (slips.said slip ≡ visit.said)

-- a connection had no caller, for want of memory
abbrev pub HasNoPass : {L : Type 0} → Visit L → Type 0
HasNoPass visit = (visit.said ≡ []) × (visit.end ≡ Memory)

-- connections were served, with callers whose numbers count on from the first; only the last may have had none
abbrev pub AreServed : {L S : Type 0} → List Rule → OutsideGhosts L → KeptGhosts S → ℕ → List (Visit L) → List S
    → Type 0
AreServed rules links slips first [] [] = ⊤
AreServed rules links slips first [] (slip ∷ left) = ⊥
AreServed rules links slips first (visit ∷ visits) (slip ∷ left) =
    IsServed rules links visit × HasSlip slips first visit slip
    × AreServed rules links slips (first + 1) visits left
AreServed rules links slips first (visit ∷ visits) [] =
    IsServed rules links visit × HasNoPass visit × (visits ≡ [])
