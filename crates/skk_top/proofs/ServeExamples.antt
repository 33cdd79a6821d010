-- What a run of `serve` prints, why it stops and how it ends, at small examples, each worked out by hand.
use Rattle.std.proofs.Common.{◌≡◌, ap, ℕ, None, Some, Ok, Err, List, [], ◌∷◌, length, get_or, inl, inr, refl, Bool}
use Rattle.std.proofs.Common.{true}
use Rattle.std.proofs.Common.{false, lit≤, arith}
use Rattle.std.specs.Fmt.{digits}
use Rattle.skk_outside.specs.declared.outside.Outside.{Ghosts as OutsideGhosts}
use Rattle.skk_outside.specs.Moved.{MovedSink}
use Rattle.romaji_rules.specs.declared.rule.Rule.{Rule}
use Rattle.skk_calls.specs.Interactions.{Dialog}
use Rattle.skk_calls.specs.Tallies.{Tally}
use Rattle.skk_server.specs.declared.end.End.TheVariants as endings
use Rattle.skk_server.specs.Visits.{Visit}
use Rattle.skk_top.specs.ServeCommand.{MovedListener, ready_line, served_line, serve_lines, LacksPort, StopsServing}
use Rattle.skk_top.specs.ServeCommand.{ServesVisits, AreServedFrom, wants_memory}
use Rattle.run_endings.specs.Status.{Ended, ended_by, with_want}
use Rattle.run_endings.specs.declared.fault.RunFault.TheVariants.{Words, Outside, Memory, JournalFull}
use Rattle.skk_top.specs.declared.serving.Service.{Service}

-- both lines, with the number in decimal
lines : (ready_line ≡ 114 ∷ 101 ∷ 97 ∷ 100 ∷ 121 ∷ 10 ∷ [])
    × (served_line 12 ≡ 115 ∷ 101 ∷ 114 ∷ 118 ∷ 101 ∷ 100 ∷ 32 ∷ 49 ∷ 50 ∷ 10 ∷ [])
    × (serve_lines 0 ≡ 114 ∷ 101 ∷ 97 ∷ 100 ∷ 121 ∷ 10 ∷ 115 ∷ 101 ∷ 114 ∷ 118 ∷ 101 ∷ 100 ∷ 32 ∷ 48 ∷ 10 ∷ [])
unfolding digits
lines = (refl, refl, refl)

-- a sink that was written some bytes, with these counts of faults
abbrev sink : List ℕ → ℕ → ℕ → MovedSink
sink bytes faults faults' = record { written = Some []; written' = Some bytes; faults = faults; faults' = faults' }

-- how a connection ends is how it wants memory
wants : (wants_memory endings.Closed ≡ false) × (wants_memory endings.LinkFault ≡ false)
    × (wants_memory endings.Limit ≡ false) × (wants_memory endings.Memory ≡ true)
wants = (refl, refl, refl, refl)

-- what calls came to, with refusals for each cause
abbrev tally : Bool → Bool → Bool → Tally
tally disk memory full =
    record { learned = 0; restored = 0; rows = 0; memory = memory; disk = disk; full = full }

-- a disk that failed a change comes first, then memory, of a call or of a connection, and then a full file
abbrev done : Ended
done = Ok tt

causes : (ended_by done (with_want true (tally true true true)) ≡ Err Outside)
    × (ended_by done (with_want true (tally false false true)) ≡ Err Memory)
    × (ended_by done (with_want false (tally false true true)) ≡ Err Memory)
    × (ended_by done (with_want false (tally false false true)) ≡ Err JournalFull)
    × (ended_by done (with_want true (tally false false false)) ≡ Err Memory)
    × (ended_by done (with_want false (tally false false false)) ≡ Ok tt)
    × (ended_by (Err Memory) (with_want false (tally true false true)) ≡ Err Memory)
causes = (refl, refl, refl, refl, refl, refl, refl)

module _ {L : Type 0} (links : OutsideGhosts L) (one two one' two' : L) where
  -- a listener on port 7 of two links, of which the first came and was given back, with these counts of faults
  abbrev net : ℕ → ℕ → MovedListener L
  net faults faults' = record {
    links = links;
    coming = Some (one ∷ two ∷ []);
    coming' = Some (two ∷ []);
    over = Some [];
    over' = Some (one' ∷ []);
    out = 0;
    out' = 0;
    opened = None;
    opened' = Some 7;
    faults = faults;
    faults' = faults';
    is_untouched = ⊥;
  }

  -- serving stops for a call on the sink or the listener that failed, or for want of memory, and for nothing else
  stops : StopsServing (sink [] 2 3) (net 3 3) Outside × StopsServing (sink [] 3 3) (net 2 3) Outside
      × (¬ StopsServing (sink [] 3 3) (net 3 3) Outside) × StopsServing (sink [] 3 3) (net 3 3) Memory
      × (¬ StopsServing (sink [] 2 3) (net 2 3) Words) × (¬ StopsServing (sink [] 2 3) (net 2 3) JournalFull)
  stops =
      (inl (lit≤ tt), inr (lit≤ tt), λ rose. omega (arith, rose), tt, λ none. none, λ none. none)

  -- where the port was not had, nothing is printed
  unopened : (¬ LacksPort [] (Err Outside) (sink ready_line 3 3) (net 2 3))
      × (¬ LacksPort [] (Err Memory) (sink [] 3 3) (net 2 3)) × (¬ LacksPort [] (Err Outside) (sink [] 3 3) (net 3 3))
  unopened = (
    λ lacks. absurd (omega (arith, ap length lacks.unwritten)),
    λ lacks. cc (lacks.ends),
    λ lacks. omega (arith, lacks.failed),
  )

  -- what is asked for: so many connections of port 7, or of another
  abbrev on_seven : ℕ → Service
  on_seven connections = record { port = 7; connections = connections }

  abbrev on_eight : Service
  on_eight = record { port = 8; connections = 1 }

  -- the first of two links was served
  abbrev first : Visit L
  first = record { link = one; link' = one'; said = []; end = endings.Closed }

  served_one : ServesVisits (on_seven 1) (first ∷ []) (Ok tt) (sink (serve_lines 1) 3 3) (net 3 3)
  unfolding digits
  served_one = record {
    opened_is = refl;
    comes = refl;
    gives_back = refl;
    none_out = refl;
    few = omega arith;
    all = inl refl;
    whole = refl;
    prefix = (serve_lines 1, ([], refl), refl);
    told = λ some. (served_line 1, refl);
    stopped = tt;
  }

  -- one of two that were asked for is not all while another can come, and no more are served than were asked for, nor
  -- any before the first line was written; no other number is told
  not_all : (¬ ServesVisits (on_seven 2) (first ∷ []) (Ok tt) (sink (serve_lines 1) 3 3) (net 3 3))
      × (¬ ServesVisits (on_seven 0) (first ∷ []) (Err Memory) (sink ready_line 3 3) (net 3 3))
      × (¬ ServesVisits (on_seven 1) (first ∷ []) (Err Memory) (sink [] 3 3) (net 3 3))
  not_all = (
    fewer,
    λ serves. omega (arith, serves.few),
    untold,
  )
    where
      fewer : ¬ ServesVisits (on_seven 2) (first ∷ []) (Ok tt) (sink (serve_lines 1) 3 3) (net 3 3)
      fewer serves = elim serves.all [ inl all ↦ absurd (omega (arith, all)) | inr none ↦ cc (none) ]

      untold : ¬ ServesVisits (on_seven 1) (first ∷ []) (Err Memory) (sink [] 3 3) (net 3 3)
      untold serves = let told = serves.told (omega arith) in absurd (omega (arith, ap length told.1))

  -- and not where another port was opened
  not_eight : ¬ ServesVisits on_eight (first ∷ []) (Ok tt) (sink (serve_lines 1) 3 3) (net 3 3)
  not_eight serves = cc (serves.opened_is)

  not_another : ¬ ServesVisits (on_seven 1) (first ∷ []) (Ok tt) (sink (serve_lines 2) 3 3) (net 3 3)
  unfolding digits
  not_another serves =
      let same : 50 ≡ 49 = ap (λ (bytes : List ℕ). get_or bytes 13 0) serves.whole in absurd (omega (arith, same))

  -- a connection that ended for want of memory, without a caller, behind one that said nothing
  silent : (table : List Rule) (said : ℕ → Dialog) (visit : Visit L)
      → AreServedFrom table links said 4 (visit ∷ []) → visit.said ≡ said 4
  silent table said visit are = are.1
