-- Records that are read one after another, and part by part.
use Rattle.std.proofs.Common.{◌≡◌, inl, inr, ℕ, ◌+◌, ◌-◌, ◌≤◌, true}
use Rattle.std.proofs.Common.{List, [], ◌∷◌, ◌++◌, length, take, drop, refl, sym, ◌∙◌, ap, subst, arith, append_assoc}
use Rattle.std.proofs.Common.{length-append, length-drop, take-append-drop}
use Rattle.std.proofs.lemmas.List.{append-nil, drop_at, drop_all, drop-drop, take_all}
use Rattle.std.specs.Prelude.{⊤, All, Some}
use Rattle.std.specs.Option.{option_map}
use Rattle.std.proofs.lemmas.Bool.{both_ways}
use Rattle.std.proofs.Math.Seq.{take-append-add}
use Rattle.std.proofs.lemmas.List.Elements.{All-append, All-nil, All-cons}
use Rattle.skk_journal.specs.declared.found.FoundRecord.{FoundRecord}
use Rattle.skk_journal.specs.declared.records.RecordsFault.TheVariants as reading
use Rattle.skk_journal.specs.Records.{payload_limit, IsSized, record_bytes, open_record, need, framed, first_place}
use Rattle.skk_journal.specs.Records.{end_of}
use Rattle.skk_journal.specs.RecordLaws.{length-record_bytes, need_is, framed-append}
use Rattle.skk_journal.specs.Found.{payloads, found_from}
use Rattle.skk_journal.specs.Opening.{is_bad}
use Rattle.skk_journal.specs.FrameLaws.{at_gate, record_read, whole_is_good}
use Rattle.skk_journal.specs.OpeningLaws.{shut_is_good}
use Rattle.skk_journal.specs.Frames.{Ends}
use Rattle.skk_journal.specs.declared.frames.Stop.{Stop}
use Rattle.skk_journal.specs.declared.frames.Stop.TheVariants.{End, Else}
use Rattle.skk_journal.specs.Reading.{Takes, StopsAt, AreRead, BreakOff}

-- found records have the payloads that they were found with
pub payloads-found_from : (at : ℕ) (taken : List (List ℕ)) → payloads (found_from at taken) ≡ taken
payloads-found_from at [] = refl
payloads-found_from at (payload ∷ taken) =
    ap (λ (l : List (List ℕ)). payload ∷ l) (payloads-found_from (at + need payload) taken)

-- records behind others stand at the places behind them
pub found_from-append : (at : ℕ) (records taken : List (List ℕ))
    → found_from at (records ++ taken) ≡ found_from at records ++ found_from (at + length (framed records)) taken
found_from-append at [] taken = ap (λ (n : ℕ). found_from n taken) (omega arith)
found_from-append at (payload ∷ records) taken =
    let next : at + need payload + length (framed records) ≡ at + length (framed (payload ∷ records)) =
    omega (
      arith,
      need_is payload,
      length-record_bytes payload,
      length-append (record_bytes payload) (framed records),
    ) in
    ap (λ (l : List FoundRecord). record { at = at; payload = payload } ∷ l)
    (found_from-append (at + need payload) records taken
    ∙ ap (λ (n : ℕ). found_from (at + need payload) records ++ found_from n taken) next)

-- one record was read
pub takes_one : (tail rest payload : List ℕ) (at : ℕ) (old new : List FoundRecord) → IsSized payload
    → tail ≡ record_bytes payload ++ rest → new ≡ old ++ record { at = at; payload = payload } ∷ []
    → Takes ⊤ tail at (5 + length payload) old new
takes_one tail rest payload at old new sized is found =
    let bytes = record_bytes payload in
    let long : length bytes ≡ 5 + length payload = length-record_bytes payload in
    let behind : drop (5 + length payload) tail ≡ rest =
    ap (λ (l : List ℕ). drop (5 + length payload) l) is ∙ drop_at bytes rest (5 + length payload) long in
    record {
      taken = payload ∷ [];
      many = omega (arith, long, length-append bytes []);
      sized = All-cons IsSized payload [] sized (All-nil IsSized);
      found = found;
      is = λ told.
          is ∙ ap (λ (l : List ℕ). bytes ++ l) (sym behind)
          ∙ ap (λ (l : List ℕ). l ++ drop (5 + length payload) tail) (sym (append-nil bytes));
    }

-- records were read, and then those behind them
pub takes_on : (tells : Type 0) (tail : List ℕ) (at from more : ℕ) (old mid new : List FoundRecord)
    → Takes tells tail at from old mid → Takes tells (drop from tail) (at + from) more mid new
    → Takes tells tail at (from + more) old new
takes_on tells tail at from more old mid new one two =
    let joined = framed-append one.taken two.taken in
    let places : at + from ≡ at + length (framed one.taken) = omega (arith, one.many) in
    record {
      taken = one.taken ++ two.taken;
      many = omega (
        arith,
        one.many,
        two.many,
        ap length joined,
        length-append (framed one.taken) (framed two.taken),
      );
      sized = All-append IsSized one.taken two.taken one.sized two.sized;
      found =
          two.found ∙ ap (λ (l : List FoundRecord). l ++ found_from (at + from) two.taken) one.found
          ∙ append_assoc old (found_from at one.taken) (found_from (at + from) two.taken)
          ∙ ap (λ (n : ℕ). old ++ (found_from at one.taken ++ found_from n two.taken)) places
          ∙ ap (λ (l : List FoundRecord). old ++ l) (sym (found_from-append at one.taken two.taken));
      is = λ told.
          one.is told ∙ ap (λ (l : List ℕ). framed one.taken ++ l) (two.is told)
          ∙ sym (append_assoc (framed one.taken) (framed two.taken) (drop more (drop from tail)))
          ∙ ap (λ (l : List ℕ). l ++ drop more (drop from tail)) (sym joined)
          ∙ ap (λ (l : List ℕ). framed (one.taken ++ two.taken) ++ l) (drop-drop more from tail);
    }

-- one more record was read, of those that stand in a slice of the part
pub takes_frame : (part payload : List ℕ) (at from : ℕ) (old mid new : List FoundRecord) → from ≤ length part
    → Takes ⊤ part at from old mid
    → option_map (λ read. read.0) (open_record.step (take (length part - from) (drop from part))) ≡ Some payload
    → new ≡ mid ++ record { at = at + from; payload = payload } ∷ []
    → (from + (5 + length payload) ≤ length part) × Takes ⊤ part at (from + (5 + length payload)) old new
takes_frame part payload at from old mid new within takes read found =
    let (rest, sized, starts) = record_read (take (length part - from) (drop from part)) payload read in
    let behind : drop from part ≡ record_bytes payload ++ rest =
    sym (take_all (length part - from) (drop from part) (omega (arith, length-drop from part))) ∙ starts in (
      omega (
        arith,
        length-drop from part,
        ap length behind,
        length-append (record_bytes payload) rest,
        length-record_bytes payload,
      ),
      takes_on ⊤ part at from (5 + length payload) old mid new takes
          (takes_one (drop from part) rest payload (at + from) mid new sized behind found),
    )

-- what was read of a file's part is read of all of it
module _ (tells : Type 0) (tail part : List ℕ) (count at from : ℕ) (old new : List FoundRecord)
    (is_part : tells → part ≡ take count tail) (of_part : Takes ⊤ part at from old new) where
  tail_is : tells → tail ≡ framed of_part.taken ++ (drop from part ++ drop count tail)
  tail_is told =
      sym (take-append-drop count tail) ∙ ap (λ (l : List ℕ). l ++ drop count tail) (sym (is_part told) ∙ of_part.is tt)
      ∙ append_assoc (framed of_part.taken) (drop from part) (drop count tail)

  pub behind_part : tells → drop from tail ≡ drop from part ++ drop count tail
  behind_part told =
      ap (λ (l : List ℕ). drop from l) (tail_is told)
      ∙ drop_at (framed of_part.taken) (drop from part ++ drop count tail) from (sym of_part.many)

  pub takes_of_part : Takes tells tail at from old new
  takes_of_part = record {
    taken = of_part.taken;
    many = of_part.many;
    sized = of_part.sized;
    found = of_part.found;
    is = λ told. tail_is told ∙ ap (λ (l : List ℕ). framed of_part.taken ++ l) (sym (behind_part told));
  }

-- a part of a file that is long enough begins as the file does
part_begins : (front rest tail part : List ℕ) (count : ℕ) → part ≡ take count tail → tail ≡ front ++ rest
    → length front ≤ count → part ≡ front ++ take (count - length front) rest
part_begins front rest tail part count is starts within =
    let all : count ≡ length front + (count - length front) = omega arith in
    is ∙ ap (take count) starts ∙ ap (λ n. take n (front ++ rest)) all
    ∙ take-append-add front rest (count - length front)

-- a part that is bad, and is long enough for any record, is one of a file that is
pub bad_of_part : (tail part : List ℕ) (count : ℕ) → part ≡ take count tail → payload_limit + 5 ≤ count
    → is_bad part ≡ true → is_bad tail ≡ true
bad_of_part tail part count is room bad = elim (at_gate tail) [
  | inl (inr also) ↦ also
  | inl (inl (gate, rest, starts, shut)) ↦
      let begins = part_begins (gate ∷ []) rest tail part count is starts (omega arith) in
      absurd (both_ways (is_bad part) (shut_is_good gate _ part begins shut) bad)
  | inr (payload, rest, sized, starts) ↦
      let bytes = record_bytes payload in
      let begins = part_begins bytes rest tail part count is starts
      (omega (arith, length-record_bytes payload, sized.1)) in
      absurd (both_ways (is_bad part) (ap is_bad begins ∙ whole_is_good payload _ sized) bad)
]

-- a closed gate in a part of a file is one of all of it
pub ends_of_part : (tail part rest : List ℕ) → tail ≡ part ++ rest → Ends part → Ends tail
ends_of_part tail part rest is (gate, behind, starts, shut) =
    (gate, behind ++ rest, is ∙ ap (λ (l : List ℕ). l ++ rest) starts, shut)

-- reading that stopped in a part of a file stopped so in the file
pub stops_of_part : (tells : Type 0) (tail part : List ℕ) (count at : ℕ) (old new : List FoundRecord) (stop : Stop)
    → (tells → part ≡ take count tail) → payload_limit + 5 ≤ count → StopsAt ⊤ part at old new stop
    → StopsAt tells tail at old new stop
stops_of_part tells tail part count at old new (End from) is_part room (takes, ends) = (
  takes_of_part tells tail part count at from old new is_part takes,
  λ told.
      ends_of_part (drop from tail) (drop from part) (drop count tail)
      (behind_part tells tail part count at from old new is_part takes told) (ends tt),
)
stops_of_part tells tail part count at old new (Else from) is_part room (takes, bad) = (
  takes_of_part tells tail part count at from old new is_part takes,
  λ told none. bad_of_part tail part count (is_part told) room (bad tt none),
)

-- from a place behind the head on, a file is as its bytes behind the head are
pub drop_head : (file : List ℕ) (at : ℕ) → first_place ≤ at
    → drop (at - first_place) (drop first_place file) ≡ drop at file
drop_head file at behind =
    drop-drop (at - first_place) first_place file ∙ ap (λ (n : ℕ). drop n file) (omega arith)

-- more records were read of a file, from a place behind its head on
pub takes_more : (tells : Type 0) (file : List ℕ) (at from : ℕ) (old mid new : List FoundRecord) → first_place ≤ at
    → Takes tells (drop first_place file) first_place (at - first_place) old mid
    → Takes tells (drop at file) at from mid new
    → Takes tells (drop first_place file) first_place (at + from - first_place) old new
takes_more tells file at from old mid new behind one two =
    let same = drop_head file at behind in
    let place : first_place + (at - first_place) ≡ at = omega arith in
    subst (λ (n : ℕ). Takes tells (drop first_place file) first_place n old new)
    (let sum : at - first_place + from ≡ at + from - first_place = omega arith in sum)
    (takes_on tells (drop first_place file) first_place (at - first_place) from old mid new one
    (subst (λ (n : ℕ). Takes tells (drop (at - first_place) (drop first_place file)) n from mid new) (sym place)
    (subst (λ (l : List ℕ). Takes tells l at from mid new) (sym same) two)))

-- all records that were read from the first one on
module _ (tells : Type 0) (bytes : List ℕ) (many : ℕ) (records : List FoundRecord)
    (takes : Takes tells bytes first_place many [] records) where
  pub payloads_are : payloads records ≡ takes.taken
  payloads_are = ap payloads takes.found ∙ payloads-found_from first_place takes.taken

  pub end_after : first_place + many + 1 ≡ end_of (payloads records)
  end_after = omega (arith, takes.many, ap (λ (l : List (List ℕ)). length (framed l)) payloads_are)

  pub places_are : records ≡ found_from first_place (payloads records)
  places_are = takes.found ∙ ap (found_from first_place) (sym payloads_are)

  framed_are : tells → bytes ≡ framed (payloads records) ++ drop many bytes
  framed_are told =
      takes.is told ∙ ap (λ (l : List (List ℕ)). framed l ++ drop many bytes) (sym payloads_are)

  all_sized : All IsSized (payloads records)
  all_sized = subst (λ (l : List (List ℕ)). All IsSized l) (sym payloads_are) takes.sized

  pub all_read : tells → Ends (drop many bytes) → AreRead bytes records
  all_read told ends = (drop many bytes, framed_are told, all_sized, ends)

  pub broken_off : (at : ℕ) → tells → is_bad (drop many bytes) ≡ true → at ≡ first_place + many
      → BreakOff bytes (reading.Bad at records)
  broken_off at told bad is = (
    drop many bytes,
    framed_are told,
    all_sized,
    bad,
    omega (arith, is, end_after),
    places_are,
  )

-- at the end of the records of a file that were read up to a place and behind it
module _ (tells : Type 0) (file : List ℕ) (at from : ℕ) (old new : List FoundRecord) (behind : first_place ≤ at)
    (before : Takes tells (drop first_place file) first_place (at - first_place) [] old) where
  behind_both : drop (at + from - first_place) (drop first_place file) ≡ drop from (drop at file)
  behind_both = drop_head file (at + from) (omega arith) ∙ sym (drop-drop from at file)

  module _ (stops : StopsAt tells (drop at file) at old new (End from)) where
    all_takes : Takes tells (drop first_place file) first_place (at + from - first_place) [] new
    all_takes = takes_more tells file at from [] old new behind before stops.0

    pub end_at : at + from + 1 ≡ end_of (payloads new)
    end_at = omega (arith, end_after tells (drop first_place file) (at + from - first_place) new all_takes)

    pub places_at : new ≡ found_from first_place (payloads new)
    places_at = places_are tells (drop first_place file) (at + from - first_place) new all_takes

    pub read_at : tells → AreRead (drop first_place file) new
    read_at told =
        all_read tells (drop first_place file) (at + from - first_place) new all_takes told
        (subst Ends (sym behind_both) (stops.1 told))

  pub bad_at : StopsAt tells (drop at file) at old new (Else from) → from ≡ 0 → tells
      → BreakOff (drop first_place file) (reading.Bad at new)
  bad_at stops none told =
      let still : drop from (drop at file) ≡ drop at file =
      ap (λ (n : ℕ). drop n (drop at file)) none in
      broken_off tells (drop first_place file) (at + from - first_place) new
      (takes_more tells file at from [] old new behind before stops.0) at told
      (subst (λ (l : List ℕ). is_bad l ≡ true) (sym (behind_both ∙ still)) (stops.1 told none)) (omega (arith, none))

-- at a place that is no longer in the file
pub bad_outside : (tells : Type 0) (file : List ℕ) (at : ℕ) (records : List FoundRecord) → first_place ≤ at
    → Takes tells (drop first_place file) first_place (at - first_place) [] records → length file ≤ at → tells
    → BreakOff (drop first_place file) (reading.Bad at records)
bad_outside tells file at records behind takes outside told =
    broken_off tells (drop first_place file) (at - first_place) records takes at told
    (subst (λ (l : List ℕ). is_bad l ≡ true) (sym (drop_head file at behind ∙ drop_all at file outside)) refl)
    (omega arith)
