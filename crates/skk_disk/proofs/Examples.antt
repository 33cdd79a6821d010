-- The definitions at small examples, each worked out by hand.
use Rattle.std.proofs.Common.{◌≡◌, ℕ, zero, suc, ◌<◌, List, [], ◌∷◌, inl, inr, map, arith, refl, lit≤, lit<}
use Rattle.std.proofs.lemmas.List.Elements.{Contains-push}
use Rattle.skk_disk.specs.declared.which.Which.TheVariants.{A, B}
use Rattle.skk_disk.specs.declared.made_call.MadeCall.{MadeCall}
use Rattle.skk_disk.specs.declared.made_call.MadeCall.TheVariants.{Write, TornWrite, Cut, TornCut, Sync}
use Rattle.skk_outside.specs.Memory.{no_call_yet, after_failure}
use Rattle.skk_disk.specs.Image.{Image, part, other, with_part}
use Rattle.skk_disk.specs.Steps.{placed, SameByte, IsOutside, InFile, Makes}
use Rattle.skk_disk.specs.FileStates.{MayLeave, IsUntouched, empty_file}
use Rattle.skk_disk.specs.MadeCalls.{MemDiskState, HasFailed, made_by, seen_after}

-- three bytes, and bytes that are placed before, in, at the end of, and behind them
placed_at : map (λ at. placed at (7 ∷ 8 ∷ []) (1 ∷ 2 ∷ 3 ∷ [])) (0 ∷ 1 ∷ 2 ∷ 3 ∷ 5 ∷ [])
    ≡ (7 ∷ 8 ∷ 3 ∷ []) ∷ (1 ∷ 7 ∷ 8 ∷ []) ∷ (1 ∷ 2 ∷ 7 ∷ 8 ∷ []) ∷ (1 ∷ 2 ∷ 3 ∷ 7 ∷ 8 ∷ [])
    ∷ (1 ∷ 2 ∷ 3 ∷ 0 ∷ 0 ∷ 7 ∷ 8 ∷ []) ∷ []
placed_at = refl

-- no bytes that are placed: only behind the end they bring zeros
nothing_placed : map (λ at. placed at [] (1 ∷ 2 ∷ [])) (0 ∷ 1 ∷ 2 ∷ 4 ∷ [])
    ≡ (1 ∷ 2 ∷ []) ∷ (1 ∷ 2 ∷ []) ∷ (1 ∷ 2 ∷ []) ∷ (1 ∷ 2 ∷ 0 ∷ 0 ∷ []) ∷ []
nothing_placed = refl

-- an image with two files
abbrev both : Image
both = record { a = 1 ∷ []; b = 2 ∷ 3 ∷ [] }

parts : map (λ file. part file both) (A ∷ B ∷ other A ∷ other B ∷ [])
    ≡ (1 ∷ []) ∷ (2 ∷ 3 ∷ []) ∷ (2 ∷ 3 ∷ []) ∷ (1 ∷ []) ∷ []
parts = refl

changed : map (λ file. with_part file (9 ∷ []) both) (A ∷ B ∷ [])
    ≡ record { a = 9 ∷ []; b = 2 ∷ 3 ∷ [] } ∷ record { a = 1 ∷ []; b = 9 ∷ [] } ∷ []
changed = refl

-- the places outside of two bytes from the third on
outside : IsOutside (record { at = 2; count = 2 }) 1 × IsOutside (record { at = 2; count = 2 }) 4
    × (¬ IsOutside (record { at = 2; count = 2 }) 2) × (¬ IsOutside (record { at = 2; count = 2 }) 3)
outside = (
  inl (lit< tt),
  inr (lit≤ tt),
  λ is. elim is [ inl front ↦ omega (arith, front) | inr behind ↦ omega (arith, behind) ],
  λ is. elim is [ inl front ↦ omega (arith, front) | inr behind ↦ omega (arith, behind) ],
)

-- a step in the second file leaves the first one: where that was empty it has a byte now
abbrev filled : List ℕ → List ℕ → Type 0
filled = Makes (λ old. old ≡ []) (λ new. new ≡ 5 ∷ [])

step : InFile B filled (record { a = 1 ∷ []; b = [] }) (record { a = 1 ∷ []; b = 5 ∷ [] })
    × (¬ InFile B filled (record { a = 1 ∷ []; b = [] }) (record { a = 2 ∷ []; b = 5 ∷ [] }))
    × (¬ InFile B filled (record { a = 1 ∷ []; b = [] }) (record { a = 1 ∷ []; b = 6 ∷ [] }))
    × InFile B filled (record { a = []; b = 9 ∷ [] }) (record { a = []; b = 6 ∷ [] })
step = (
  record { this = λ is. refl; that = refl },
  λ is. let same = is.that in cc,
  λ is. let made = is.this refl in cc,
  record { this = λ is. absurd (cc); that = refl },
)

-- a file was written and synced, written at its second byte, and written behind its end by a call that failed
abbrev calls : List MadeCall
calls = Write A 0 (1 ∷ 2 ∷ 3 ∷ []) ∷ Sync A ∷ Write A 1 (8 ∷ []) ∷ TornWrite A 3 2 ∷ []

state : (made_by calls).a ≡ record {
  seen = 1 ∷ 8 ∷ 3 ∷ [];
  smallest = 3;
  greatest = 5;
  written = record { at = 3; count = 2 } ∷ record { at = 1; count = 1 } ∷ [];
}
state = refl

-- a write that failed far behind the end takes the greatest length up to its own end, and no other one down
torn_far : (made_by (Write A 0 (1 ∷ []) ∷ Sync A ∷ TornWrite A 6 2 ∷ TornWrite A 0 1 ∷ [])).a ≡ record {
  seen = 1 ∷ [];
  smallest = 1;
  greatest = 8;
  written = record { at = 0; count = 1 } ∷ record { at = 6; count = 2 } ∷ [];
}
torn_far = refl

-- a sync takes what is read for all, also where writes and cuts had failed
torn_synced : map (λ call. (made_by (Write B 0 (1 ∷ 2 ∷ []) ∷ Sync B ∷ call ∷ Sync B ∷ [])).b)
    (TornWrite B 0 9 ∷ TornWrite B 7 3 ∷ TornCut B 0 ∷ [])
    ≡ record { seen = 1 ∷ 2 ∷ []; smallest = 2; greatest = 2; written = [] }
    ∷ record { seen = 1 ∷ 2 ∷ []; smallest = 2; greatest = 2; written = [] }
    ∷ record { seen = 1 ∷ 2 ∷ []; smallest = 2; greatest = 2; written = [] } ∷ []
torn_synced = refl

-- a sync of the other file leaves what may be torn
torn_not_synced : (made_by (Write A 0 (1 ∷ 2 ∷ []) ∷ Sync A ∷ TornWrite A 1 4 ∷ TornCut A 1 ∷ Sync B ∷ [])).a
    ≡ record { seen = 1 ∷ 2 ∷ []; smallest = 1; greatest = 5; written = record { at = 1; count = 4 } ∷ [] }
torn_not_synced = refl

-- a cut that was done and one that failed take the smallest length down, and a sync takes what is read for all
cuts : map (λ calls. (made_by calls).b) (
    (Write B 0 (1 ∷ 2 ∷ 3 ∷ []) ∷ Cut B 2 ∷ []) ∷ (Write B 0 (1 ∷ 2 ∷ []) ∷ Sync B ∷ TornCut B 1 ∷ [])
    ∷ (Write B 0 (1 ∷ 2 ∷ []) ∷ Sync B ∷ TornCut B 3 ∷ []) ∷ (Write B 0 (1 ∷ 2 ∷ 3 ∷ []) ∷ Cut B 2 ∷ Sync B ∷ []) ∷ [])
    ≡ record { seen = 1 ∷ 2 ∷ []; smallest = 0; greatest = 3; written = record { at = 0; count = 3 } ∷ [] }
    ∷ record { seen = 1 ∷ 2 ∷ []; smallest = 1; greatest = 2; written = [] }
    ∷ record { seen = 1 ∷ 2 ∷ []; smallest = 2; greatest = 2; written = [] }
    ∷ record { seen = 1 ∷ 2 ∷ []; smallest = 2; greatest = 2; written = [] } ∷ []
cuts = refl

-- a call on one file leaves the other one
other_stays : (made_by calls).b ≡ empty_file
other_stays = refl

seen : seen_after calls ≡ record { a = 1 ∷ 8 ∷ 3 ∷ []; b = [] }
seen = refl

-- of a file to which nothing was done a stop leaves no byte
nothing_left : ¬ MayLeave empty_file (0 ∷ [])
nothing_left left = omega (arith, left.at_most)

-- a stop leaves no shorter and no longer file, and no other byte than what was written
not_left : (¬ MayLeave (made_by calls).a (1 ∷ 8 ∷ [])) × (¬ MayLeave (made_by calls).a (1 ∷ 8 ∷ 3 ∷ 0 ∷ 0 ∷ 0 ∷ []))
    × (¬ MayLeave (made_by calls).a (2 ∷ 8 ∷ 3 ∷ []))
not_left = (
  λ left. omega (arith, left.at_least),
  λ left. omega (arith, left.at_most),
  λ left. let same = left.kept 0 (lit< tt) (inl (lit< tt), (inl (lit< tt), tt)) in cc,
)

-- in the ranges that were written since the sync a stop leaves any bytes, also where the write failed
torn_left : MayLeave (made_by calls).a (1 ∷ 7 ∷ 3 ∷ 5 ∷ [])
torn_left = record { at_least = lit≤ tt; at_most = lit≤ tt; kept = kept }
  where
    kept : (place : ℕ) → place < 3 → IsUntouched place (made_by calls).a.written
        → SameByte place (1 ∷ 8 ∷ 3 ∷ []) (1 ∷ 7 ∷ 3 ∷ 5 ∷ [])
    kept zero below untouched = refl
    kept (suc zero) below untouched = elim untouched.1.0 [
      | inl front ↦ omega (arith, front)
      | inr behind ↦ omega (arith, behind)
    ]
    kept (suc (suc zero)) below untouched = refl
    kept (suc (suc (suc place))) below untouched = omega (arith, below)

-- a call that was to fail, where there was room to record it, is not forgotten
abbrev before : MemDiskState
before = record { made = []; room = 1; count = no_call_yet (1 ∷ []) }

abbrev forgotten : MemDiskState
forgotten = record { made = []; room = 1; count = after_failure before.count }

not_forgotten : ¬ HasFailed (TornCut A 1 ∷ []) before forgotten
not_forgotten failed = let is = failed.recorded (Contains-push [] 1) (lit< tt) in cc
