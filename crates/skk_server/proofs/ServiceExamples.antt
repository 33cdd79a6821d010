-- What is said of connections that were served, and of how their serving ended, at some of them.
use Rattle.std.proofs.Common.{◌≡◌, List, [], ◌∷◌, None, Some, refl, arith, inl, inr}
use Rattle.skk_outside.specs.declared.outside.Outside.{Ghosts as OutsideGhosts}
use Rattle.skk_outside.specs.declared.listener.Listener.{Ghosts as ListenerGhosts}
use Rattle.romaji_rules.specs.declared.rule.Rule.{Rule}
use Rattle.skk_calls.specs.declared.caller.Kept.{Ghosts as KeptGhosts}
use Rattle.skk_server.specs.declared.served_end.ServedEnd.TheVariants.{Done, Fault, Memory}
use Rattle.skk_server.specs.Services.{EndsServing}
use Rattle.skk_server.specs.Visits.{Visit, AreServed}

module _ {L S : Type 0} (rules : List Rule) (links : OutsideGhosts L) (slips : KeptGhosts S) where
  -- no connection was served
  pub none-served : AreServed rules links slips 7 [] []
  none-served = tt

  -- the callers' numbers count on from the first
  pub second-caller : (visit other : Visit L) (slip last : S)
      → AreServed rules links slips 7 (visit ∷ other ∷ []) (slip ∷ last ∷ []) → slips.number last ≡ 8
  second-caller visit other slip last are = are.2.1.0

  -- behind a connection without a caller none was served
  pub last-without : (visit other : Visit L) → AreServed rules links slips 7 (visit ∷ other ∷ []) [] → ⊥
  last-without visit other are = cc are.2

  -- nothing is left of a caller without a connection
  pub no-slip-alone : (slip : S) → AreServed rules links slips 7 [] (slip ∷ []) → ⊥
  no-slip-alone slip are = are

module _ {N L : Type 0} (nets : ListenerGhosts N L) (net net' : N) where
  -- the serving of none of none is done
  pub none-of-none : EndsServing nets net net' 0 0 0 Done
  none-of-none = (refl, inl refl)

  -- where no more can come, it is done with fewer
  pub no-more-come : nets.coming net' ≡ Some [] → EndsServing nets net net' 3 2 2 Done
  no-more-come none = (refl, inr none)

  -- a listener that does not tell what is to come is done when all were served
  pub all-of-untold : nets.coming net' ≡ None → EndsServing nets net net' 3 2 2 Done → ⊥
  all-of-untold untold ends = elim ends.1 [ inl all ↦ absurd (omega (arith, all)) | inr none ↦ cc (untold, none) ]

  -- the listener did not fail where all were served
  pub no-fault-of-all : EndsServing nets net net' 3 3 3 Fault → ⊥
  no-fault-of-all ends = absurd (omega (arith, ends.1))

  -- a link without a caller is accepted by nothing but want of memory
  pub refused-by-memory : EndsServing nets net net' 3 2 1 Fault → ⊥
  refused-by-memory ends = absurd (omega (arith, ends.0))

  -- memory was not out where as many had a caller as were asked for
  pub no-want-of-all : EndsServing nets net net' 3 3 3 Memory → ⊥
  no-want-of-all ends = absurd (omega (arith, ends))
