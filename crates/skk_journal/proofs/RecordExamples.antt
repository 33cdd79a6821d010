-- Records at small examples, each worked out by hand: their bytes and sizes, and how they are read up to a closed gate.
use Rattle.std.proofs.Common.{◌≡◌, ℕ, ◌<◌, ◌^◌, true, false, None, Some, List, [], ◌∷◌, ◌++◌, length}
use Rattle.std.proofs.Common.{map, All, Bor, sym, ap, ◌∙◌, arith, refl, lit≤, lit<}
use Rattle.std.specs.Int.{w32}
use Rattle.std.specs.Option.{is_none}
use Rattle.std.proofs.lemmas.List.Elements.{All-head, All-nil, All-cons}
use Rattle.exact_readers.specs.ExactLaws.{whole-complete}
use Rattle.exact_readers.specs.Formats.{then_at, taken, whole}
use Rattle.exact_readers.specs.Numbers.{number_bytes, number_of, number_step}
use Rattle.exact_readers.specs.NumberLaws.{number-exact, told_32}
use Rattle.skk_disk.specs.declared.which.Which.{Which}
use Rattle.skk_disk.specs.declared.which.Which.TheVariants.{A, B}
use Rattle.skk_journal.specs.Records.{IsSized, payload_step, sized_payload, record_bytes, open_record}
use Rattle.skk_journal.specs.Records.{need, framed, behind_gate, IsGroup, end_of}
use Rattle.skk_journal.specs.Opening.{is_bad}
use Rattle.skk_journal.specs.FrameLaws.{sized_payload-exact, whole_is_good}
use Rattle.skk_journal.specs.declared.fault.OpenFault.TheVariants as opening
use Rattle.skk_journal.specs.declared.live.Live.{Live}
use Rattle.skk_journal.specs.Found.{found_from}
use Rattle.skk_journal.specs.Frames.{Ends, IsFrame}
use Rattle.skk_journal.specs.Reading.{Takes, StopsAt, StopsWithin, AreRead, BreakOff, TellsNoPlace, SameCause}
use Rattle.skk_journal.specs.declared.found.FoundRecord.{FoundRecord}
use Rattle.skk_journal.specs.declared.frame.RecordFrame.TheVariants as frames
use Rattle.skk_journal.specs.declared.frames.Stop.TheVariants.{End, Else}
use Rattle.skk_journal.specs.declared.records.RecordsFault.TheVariants as reading

-- the payload of the first learning of 漢字 for かんじ in book 1
abbrev pub learning : List ℕ
learning =
    1 ∷ 1 ∷ 0 ∷ 1 ∷ 0 ∷ 0 ∷ 0 ∷ 0 ∷ 0 ∷ 0 ∷ 0 ∷ 1 ∷ 0 ∷ 0 ∷ 0 ∷ 0 ∷ 0 ∷ 0 ∷ 0 ∷ 0 ∷ 227 ∷ 129 ∷ 139 ∷ 227 ∷ 130 ∷ 147
    ∷ 227 ∷ 129 ∷ 152 ∷ 32 ∷ 47 ∷ 230 ∷ 188 ∷ 162 ∷ 229 ∷ 173 ∷ 151 ∷ 47 ∷ []

-- sizes in four bytes, the least first
sizes : map (number_bytes w32) (0 ∷ 1 ∷ 38 ∷ 256 ∷ 131072 ∷ 131073 ∷ 4294967295 ∷ [])
    ≡ (0 ∷ 0 ∷ 0 ∷ 0 ∷ []) ∷ (1 ∷ 0 ∷ 0 ∷ 0 ∷ []) ∷ (38 ∷ 0 ∷ 0 ∷ 0 ∷ []) ∷ (0 ∷ 1 ∷ 0 ∷ 0 ∷ []) ∷ (0 ∷ 0 ∷ 2 ∷ 0 ∷ [])
    ∷ (1 ∷ 0 ∷ 2 ∷ 0 ∷ []) ∷ (255 ∷ 255 ∷ 255 ∷ 255 ∷ []) ∷ []
unfolding number_bytes
sizes = refl

-- the record of that payload: an open gate, its size, and itself
learning_record : record_bytes learning ≡ 1 ∷ 38 ∷ 0 ∷ 0 ∷ 0 ∷ learning
unfolding number_bytes
learning_record = refl

-- it needs 43 bytes, and takes the end of a new file from 18 to 61
learning_need : (need learning ≡ 43) × (end_of [] ≡ 18) × (end_of (learning ∷ []) ≡ 61)
unfolding need number_bytes
learning_need = (refl, refl, refl)

pub learnt_sized : IsSized learning
learnt_sized = (omega arith, omega arith)

-- two records with their places, and what stands behind the first one's gate
two_records : found_from 17 ((9 ∷ []) ∷ (7 ∷ 8 ∷ []) ∷ [])
    ≡ record { at = 17; payload = 9 ∷ [] } ∷ record { at = 23; payload = 7 ∷ 8 ∷ [] } ∷ []
unfolding need number_bytes
two_records = refl

two_framed : framed ((9 ∷ []) ∷ (7 ∷ 8 ∷ []) ∷ []) ≡ 1 ∷ 1 ∷ 0 ∷ 0 ∷ 0 ∷ 9 ∷ 1 ∷ 2 ∷ 0 ∷ 0 ∷ 0 ∷ 7 ∷ 8 ∷ []
unfolding number_bytes
two_framed = refl

two_behind : behind_gate ((9 ∷ []) ∷ (7 ∷ 8 ∷ []) ∷ []) ≡ 1 ∷ 0 ∷ 0 ∷ 0 ∷ 9 ∷ 1 ∷ 2 ∷ 0 ∷ 0 ∷ 0 ∷ 7 ∷ 8 ∷ []
unfolding number_bytes
two_behind = refl

-- they are given to be added together without the first one's gate, and with a closed gate behind them: not with an
-- open one in front or behind, or a closed one in between; none are not, nor is a record without a byte
abbrev two_payloads : List (List ℕ)
two_payloads = (9 ∷ []) ∷ (7 ∷ 8 ∷ []) ∷ []

grouped : IsGroup two_payloads (1 ∷ 0 ∷ 0 ∷ 0 ∷ 9 ∷ 1 ∷ 2 ∷ 0 ∷ 0 ∷ 0 ∷ 7 ∷ 8 ∷ 0 ∷ [])
    × (¬ IsGroup two_payloads (1 ∷ 1 ∷ 0 ∷ 0 ∷ 0 ∷ 9 ∷ 1 ∷ 2 ∷ 0 ∷ 0 ∷ 0 ∷ 7 ∷ 8 ∷ 0 ∷ []))
    × (¬ IsGroup two_payloads (1 ∷ 0 ∷ 0 ∷ 0 ∷ 9 ∷ 1 ∷ 2 ∷ 0 ∷ 0 ∷ 0 ∷ 7 ∷ 8 ∷ 1 ∷ []))
    × (¬ IsGroup two_payloads (1 ∷ 0 ∷ 0 ∷ 0 ∷ 9 ∷ 0 ∷ 2 ∷ 0 ∷ 0 ∷ 0 ∷ 7 ∷ 8 ∷ 0 ∷ []))
    × (¬ IsGroup [] (0 ∷ []))
    × (¬ IsGroup ([] ∷ []) (0 ∷ 0 ∷ 0 ∷ 0 ∷ 0 ∷ []))
unfolding number_bytes
grouped = (
  record {
    addition = record {
      some = lit< tt;
      sized =
          All-cons IsSized (9 ∷ []) ((7 ∷ 8 ∷ []) ∷ []) (omega arith, omega arith)
          (All-cons IsSized (7 ∷ 8 ∷ []) [] (omega arith, omega arith) (All-nil IsSized));
    };
    is = refl;
  },
  λ group. let is = group.is in cc,
  λ group. let is = group.is in cc,
  λ group. let is = group.is in cc,
  λ group. omega (arith, group.addition.some),
  λ group. omega (arith, All-head IsSized [] [] group.addition.sized),
)

-- what is bad at the place of a gate: no gate; no whole size; the size 0; a record that ends one byte early; the sizes
-- 131,073 and 2^32 - 1
bad_tails : map is_bad (
    [] ∷ (1 ∷ []) ∷ (1 ∷ 1 ∷ 0 ∷ 0 ∷ []) ∷ (1 ∷ 0 ∷ 0 ∷ 0 ∷ 0 ∷ 7 ∷ []) ∷ (1 ∷ 2 ∷ 0 ∷ 0 ∷ 0 ∷ 7 ∷ [])
    ∷ (1 ∷ 1 ∷ 0 ∷ 2 ∷ 0 ∷ 7 ∷ []) ∷ (1 ∷ 255 ∷ 255 ∷ 255 ∷ 255 ∷ 7 ∷ []) ∷ [])
    ≡ true ∷ true ∷ true ∷ true ∷ true ∷ true ∷ true ∷ []
unfolding number_of number_step
bad_tails = refl

-- what is not: closed gates, also with garbage behind them, and records that are whole
good_tails : map is_bad (
    (0 ∷ []) ∷ (2 ∷ []) ∷ (255 ∷ 1 ∷ 0 ∷ []) ∷ (0 ∷ 1 ∷ 0 ∷ 0 ∷ 0 ∷ 0 ∷ []) ∷ (1 ∷ 1 ∷ 0 ∷ 0 ∷ 0 ∷ 7 ∷ [])
    ∷ (1 ∷ 2 ∷ 0 ∷ 0 ∷ 0 ∷ 7 ∷ 8 ∷ 9 ∷ []) ∷ [])
    ≡ false ∷ false ∷ false ∷ false ∷ false ∷ false ∷ []
unfolding number_of number_step
good_tails = refl

-- a payload has from 1 to 131,072 bytes
at_limit : (payload : List ℕ) → length payload ≡ 131072 → IsSized payload
at_limit payload long = (omega (arith, long), omega (arith, long))

above_limit : (payload : List ℕ) → length payload ≡ 131073 → ¬ IsSized payload
above_limit payload long = λ sized. omega (arith, long, sized)

none_sized : ¬ IsSized []
none_sized = λ sized. omega (arith, sized)

-- behind a gate that is open, the sizes 0, 131,073 and 2^32 - 1 are bad, whatever follows them
bad_size : (size : ℕ) (rest : List ℕ) → size < 2 ^ 32 → payload_step (size, rest) ≡ None
    → is_bad (1 ∷ (number_bytes w32 size ++ rest)) ≡ true
bad_size size rest fits none =
    ap (λ read. is_none (then_at read payload_step))
    ((number-exact w32 told_32).complete (number_bytes w32 size) size rest (fits, refl))
    ∙ ap is_none none

bad_sizes : (rest : List ℕ) → (is_bad (1 ∷ 0 ∷ 0 ∷ 0 ∷ 0 ∷ rest) ≡ true) × (is_bad (1 ∷ 1 ∷ 0 ∷ 2 ∷ 0 ∷ rest) ≡ true)
    × (is_bad (1 ∷ 255 ∷ 255 ∷ 255 ∷ 255 ∷ rest) ≡ true)
unfolding number_bytes
bad_sizes rest = (
  bad_size 0 rest (lit< tt) refl,
  bad_size 131073 rest (lit< tt) refl,
  bad_size 4294967295 rest (lit< tt) refl,
)

-- a whole record of 131,072 bytes is not, whatever follows it
longest_good : (payload rest : List ℕ) → length payload ≡ 131072 → is_bad (record_bytes payload ++ rest) ≡ false
longest_good payload rest long = whole_is_good payload rest (at_limit payload long)

-- a closed gate ends the records; an open one and none do not
closed_gates : Ends (0 ∷ 5 ∷ []) × Ends (2 ∷ []) × (¬ Ends (1 ∷ 5 ∷ [])) × (¬ Ends [])
closed_gates = (
  (0, 5 ∷ [], refl, λ same. omega (arith, same)),
  (2, [], refl, λ same. omega (arith, same)),
  λ ends. let same = ends.2 in ends.3 cc,
  λ ends. let same = ends.2 in cc,
)

-- what stands at a gate: a record whatever follows it, a closed gate, and neither
a_record : (payload : Bor (List ℕ)) → payload.now ≡ 7 ∷ 8 ∷ []
    → IsFrame (1 ∷ 2 ∷ 0 ∷ 0 ∷ 0 ∷ 7 ∷ 8 ∷ 5 ∷ []) (frames.Record payload)
unfolding number_of number_step
a_record payload is = ap Some (sym is)

no_record : IsFrame (2 ∷ []) frames.End × IsFrame (1 ∷ 2 ∷ 0 ∷ 0 ∷ 0 ∷ 7 ∷ []) frames.Bad
    × (¬ IsFrame (2 ∷ []) frames.Bad) × (¬ IsFrame (1 ∷ 2 ∷ 0 ∷ 0 ∷ 0 ∷ 7 ∷ []) frames.End)
unfolding number_of number_step
no_record = (
  (2, [], refl, λ same. omega (arith, same)),
  refl,
  λ bad. cc,
  λ ends. let same = ends.2 in ends.3 cc,
)

-- what stands behind a size: it is 0, it is too great, or there are fewer bytes; any other is that of a payload
sizes_of : map payload_step ((0, 7 ∷ []) ∷ (131073, []) ∷ (2, 7 ∷ []) ∷ (1, 7 ∷ []) ∷ (1, 7 ∷ 8 ∷ []) ∷ [])
    ≡ None ∷ None ∷ None ∷ Some (7 ∷ [], []) ∷ Some (7 ∷ [], 8 ∷ []) ∷ []
sizes_of = refl

longest_size : (payload : List ℕ) → length payload ≡ 131072
    → whole sized_payload (number_bytes w32 131072 ++ payload) ≡ Some payload
longest_size payload long =
    ap (λ size. whole sized_payload (number_bytes w32 size ++ payload)) (sym long)
    ∙ whole-complete sized_payload sized_payload-exact (number_bytes w32 (length payload) ++ payload) payload
    (at_limit payload long, refl)

-- payloads behind their sizes, and what stands behind them: one that is whole, one that ends early, none, and no size
by_size : map sized_payload.step (
    (1 ∷ 0 ∷ 0 ∷ 0 ∷ 7 ∷ 8 ∷ []) ∷ (2 ∷ 0 ∷ 0 ∷ 0 ∷ 7 ∷ []) ∷ (0 ∷ 0 ∷ 0 ∷ 0 ∷ 7 ∷ []) ∷ (1 ∷ 0 ∷ 0 ∷ []) ∷ [])
    ≡ Some (7 ∷ [], 8 ∷ []) ∷ None ∷ None ∷ None ∷ []
unfolding number_of number_step
by_size = refl

-- two records are read again up to the closed gate behind them, and none behind that
two_again : taken open_record.step (1 ∷ 1 ∷ 0 ∷ 0 ∷ 0 ∷ 9 ∷ 1 ∷ 2 ∷ 0 ∷ 0 ∷ 0 ∷ 7 ∷ 8 ∷ 0 ∷ 1 ∷ 0 ∷ 0 ∷ 0 ∷ 5 ∷ [])
    ≡ ((9 ∷ []) ∷ (7 ∷ 8 ∷ []) ∷ [], 0 ∷ 1 ∷ 0 ∷ 0 ∷ 0 ∷ 5 ∷ [])
unfolding taken number_of number_step
two_again = refl

-- a record at 17 that was read, and one behind it, with a closed gate behind that
abbrev first : FoundRecord
first = record { at = 17; payload = 7 ∷ 8 ∷ [] }

abbrev second : FoundRecord
second = record { at = 24; payload = 9 ∷ [] }

abbrev second_tail : List ℕ
second_tail = 1 ∷ 1 ∷ 0 ∷ 0 ∷ 0 ∷ 9 ∷ 0 ∷ 5 ∷ []

second_sized : All IsSized ((9 ∷ []) ∷ [])
second_sized = All-cons IsSized (9 ∷ []) [] (omega arith, omega arith) (All-nil IsSized)

both_sized : All IsSized ((7 ∷ 8 ∷ []) ∷ (9 ∷ []) ∷ [])
both_sized = All-cons IsSized (7 ∷ 8 ∷ []) ((9 ∷ []) ∷ []) (omega arith, omega arith) second_sized

first_sized : All IsSized ((7 ∷ 8 ∷ []) ∷ [])
first_sized = All-cons IsSized (7 ∷ 8 ∷ []) [] (omega arith, omega arith) (All-nil IsSized)

-- the second one is read behind the first, in six bytes
takes_second : Takes (Unit {0}) second_tail 24 6 (first ∷ []) (first ∷ second ∷ [])
unfolding need number_bytes
takes_second =
    record { taken = (9 ∷ []) ∷ []; many = refl; sized = second_sized; found = refl; is = λ told. refl }

takes_none : (tail : List ℕ) → Takes (Unit {0}) tail 24 0 (first ∷ []) (first ∷ [])
takes_none tail =
    record { taken = []; many = refl; sized = All-nil IsSized; found = refl; is = λ told. refl }

-- reading stops at the closed gate behind it; or else anywhere behind the first byte, and there only where that is bad
stops : StopsAt (Unit {0}) second_tail 24 (first ∷ []) (first ∷ second ∷ []) (End 6)
    × StopsAt (Unit {0}) second_tail 24 (first ∷ []) (first ∷ second ∷ []) (Else 6)
    × StopsAt (Unit {0}) (1 ∷ 0 ∷ 0 ∷ 0 ∷ 0 ∷ []) 24 (first ∷ []) (first ∷ []) (Else 0)
    × (¬ StopsAt (Unit {0}) second_tail 24 (first ∷ []) (first ∷ []) (Else 0))
    × (¬ StopsAt (Unit {0}) second_tail 24 (first ∷ []) (first ∷ []) (End 0))
unfolding number_of number_step
stops = (
  (takes_second, λ told. (0, 5 ∷ [], refl, λ same. omega (arith, same))),
  (takes_second, λ told none. absurd (omega (arith, none))),
  (takes_none (1 ∷ 0 ∷ 0 ∷ 0 ∷ 0 ∷ []), λ told none. refl),
  λ is. let bad = is.1 tt refl in cc,
  λ is. let ends = is.1 tt in let same = ends.2 in ends.3 cc,
)

within : StopsWithin 6 (End 6) × StopsWithin 6 (Else 6) × (¬ StopsWithin 5 (End 6)) × (¬ StopsWithin 5 (Else 6))
within = (lit≤ tt, lit≤ tt, λ is. omega (arith, is), λ is. omega (arith, is))

-- both records, read from the place of the first one's gate on up to a closed gate
read : AreRead (1 ∷ 2 ∷ 0 ∷ 0 ∷ 0 ∷ 7 ∷ 8 ∷ second_tail) (first ∷ second ∷ [])
unfolding number_bytes
read = (0 ∷ 5 ∷ [], refl, both_sized, (0, 5 ∷ [], refl, λ same. omega (arith, same)))

-- the records break off at 24, behind the first one, and at no other place; nothing is said of other faults
breaks : BreakOff (1 ∷ 2 ∷ 0 ∷ 0 ∷ 0 ∷ 7 ∷ 8 ∷ 1 ∷ 5 ∷ 0 ∷ []) (reading.Bad 24 (first ∷ []))
    × (¬ BreakOff (1 ∷ 2 ∷ 0 ∷ 0 ∷ 0 ∷ 7 ∷ 8 ∷ 1 ∷ 5 ∷ 0 ∷ []) (reading.Bad 23 (first ∷ [])))
    × BreakOff [] reading.Disk × BreakOff [] reading.Memory
unfolding need number_bytes number_step
breaks = (
  (1 ∷ 5 ∷ 0 ∷ [], refl, first_sized, refl, refl, refl),
  λ is. let place = is.4 in cc,
  tt,
  tt,
)

place_told : TellsNoPlace reading.Disk × TellsNoPlace reading.Memory × (¬ TellsNoPlace (reading.Bad 24 (first ∷ [])))
place_told = (tt, tt, λ is. is)

-- each cause is the same one
abbrev live_in : Which → Live
live_in file = record { file = file; version = 2; generation = 7 }

causes : SameCause (live_in A) reading.Disk opening.Disk × SameCause (live_in B) reading.Memory opening.Memory
    × SameCause (live_in B) (reading.Bad 24 (first ∷ [])) (opening.BadRecord 1 24 2 (first ∷ []))
    × (¬ SameCause (live_in A) reading.Disk opening.Memory)
    × (¬ SameCause (live_in A) (reading.Bad 24 []) (opening.BadRecord 0 23 2 []))
    × (¬ SameCause (live_in A) (reading.Bad 24 []) (opening.BadRecord 1 24 2 []))
    × (¬ SameCause (live_in A) (reading.Bad 24 []) (opening.BadRecord 0 24 1 []))
causes = (refl, refl, refl, λ same. cc, λ same. cc, λ same. cc, λ same. cc)
