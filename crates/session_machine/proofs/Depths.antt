-- No more registrations and note lines stand in one another than may be open.
use Rattle.std.specs.Bool.{⊤}
use Rattle.std.proofs.Common.{◌≡◌, ◌≤◌, ◌-◌, ◌==◌, false, List, [], ◌∷◌, ◌++◌, length, length-append, length-take}
use Rattle.std.proofs.Common.{arith, false-eqb, sym}
use Rattle.romaji_rules.specs.declared.rule.Rule.{Rule}
use Rattle.skk_text.specs.declared.key.Key.{Key}
use Rattle.dict_laws.specs.OwnBooks.{AsksOnly}
use Rattle.session_machine.specs.declared.frame.OuterFrame.{OuterFrame}
use Rattle.session_machine.specs.Pressed.{all_pressed}
use Rattle.session_machine.specs.Registrations.{beyond, depth_limit, outside}
use Rattle.session_machine.specs.Session.{Session}
use Rattle.session_machine.proofs.Kept.{Keeps, all-kept}

-- a session is in so many registrations and note lines at most
abbrev pub Within : Session → Type 0
Within session = length session.outer ≤ depth_limit

-- one more, where there were fewer
opened-within : (frames : List OuterFrame) (frame : OuterFrame) → (length frames == depth_limit) ≡ false
    → length frames ≤ depth_limit → length (frames ++ frame ∷ []) ≤ depth_limit
opened-within frames frame room within =
    let fewer = false-eqb (length frames) depth_limit (sym room) in
    omega (arith, length-append frames (frame ∷ []), fewer)

-- those beyond the innermost are no more
beyond-within : (frames : List OuterFrame) → length frames ≤ depth_limit → length (beyond frames) ≤ depth_limit
beyond-within frames within = omega (arith, within, length-take (length frames - 1) frames)

-- each change that keys make of a session leaves it within
within-kept : Keeps (λ call. ⊤) (λ given. ⊤) Within
within-kept = record {
  looks_up = λ session key okuri within. tt;
  completes = λ session prefix within. tt;
  learns = λ session key okuri cand within. tt;
  purges = λ session key word within. tt;
  annotates = λ session key cand within. tt;
  unlearns = λ session choice learned within is was. tt;
  noticed = λ session notice within. within;
  stated = λ session state within. within;
  moded = λ session mode within. within;
  longer = λ session piece room within. within;
  shorter = λ session within. within;
  unchosen = λ session count within. within;
  chosen = λ session choice given is so within. within;
  opened = λ session waiting room within. opened-within session.outer (outside session.frame waiting) room within;
  closed = λ session frame is within. beyond-within session.outer within;
  ended = λ session frame piece is room within. beyond-within session.outer within;
}

-- whatever keys are pressed, and however they are answered
pub all-within : (rules : List Rule) (session : Session) (keys : List Key) → Within session
    → AsksOnly (λ call. ⊤) (λ given. ⊤) Within (all_pressed rules session keys)
all-within rules session keys within = all-kept within-kept rules session keys within
