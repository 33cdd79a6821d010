-- Records are exact formats: what is framed is read again.
use Rattle.std.specs.Prelude.{◌≡◌, ◌⊎◌, ℕ, ◌^◌, ◌<◌, ◌≤◌, true, false, ◌&&◌, nat_le, Option}
use Rattle.std.specs.Prelude.{None, Some, List, [], ◌∷◌, ◌++◌, length, take, drop, All}
use Rattle.std.proofs.Common.{inl, inr, refl, sym, ◌∙◌, ap, subst, arith, append_assoc, length-append}
use Rattle.std.proofs.Common.{take-append-drop, length-take-le}
use Rattle.std.proofs.lemmas.Bool.{cases_eq}
use Rattle.std.proofs.lemmas.Bool.Decides.{nat_tests}
use Rattle.std.proofs.lemmas.List.{take_at, drop_at}
use Rattle.std.proofs.lemmas.List.Elements.{All-head, All-tail, All-nil, All-cons}
use Rattle.std.proofs.lemmas.Option.{none-some, same_Some}
use Rattle.std.specs.Int.{w32}
use Rattle.std.specs.Option.{is_none, option_map}
use Rattle.exact_readers.specs.Exact.{Begins, IsExact}
use Rattle.exact_readers.specs.ExactLaws.{chosen, option_map-some, then_at-some, behind-exact}
use Rattle.exact_readers.specs.Formats.{SpellsMany, then_at, taken}
use Rattle.exact_readers.specs.ManyLaws.{taken-complete}
use Rattle.exact_readers.specs.Numbers.{number_bytes, number_step}
use Rattle.exact_readers.specs.NumberLaws.{told_32, number-exact}
use Rattle.skk_journal.specs.Records.{payload_limit, IsSized, body, payload_step, sized_payload, record_bytes}
use Rattle.skk_journal.specs.Records.{open_record, framed, IsGroup}
use Rattle.skk_journal.specs.RecordLaws.{group_framed}
use Rattle.skk_journal.specs.Opening.{is_bad}
use Rattle.skk_journal.specs.Frames.{Ends}

-- a payload is found behind its size, whatever stands behind it
payload_again : (payload rest : List ℕ) → IsSized payload
    → payload_step (length payload, payload ++ rest) ≡ Some (payload, rest)
payload_again payload rest sized =
    let front : take (length payload) (payload ++ rest) ≡ payload = take_at payload rest (length payload) refl in
    let back : drop (length payload) (payload ++ rest) ≡ rest = drop_at payload rest (length payload) refl in
    let long = length-append payload rest in
    rw (front, back) (grind (arith, nat_tests, sized.0, sized.1, long))

-- a size that a payload may have, of no more bytes than there are
tested : (size many : ℕ) → (nat_le 1 size && nat_le size payload_limit && nat_le size many) ≡ true
    → (1 ≤ size) × (size ≤ payload_limit) × (size ≤ many)
tested size many tests = (grind (arith, nat_tests), grind (arith, nat_tests), grind (arith, nat_tests))

-- a payload behind its size is an exact format
pub sized_payload-exact : IsExact sized_payload
sized_payload-exact = record {
  sound = λ tokens payload rest e.
      let (read, number_is, taken) = then_at-some (number_step w32 tokens) payload_step (payload, rest) e in
      sound tokens payload rest read.0 read.1 number_is taken;
  complete = λ piece payload rest (sized, is).
      let bytes = number_bytes w32 (length payload) in
      let fits : length payload < 256 ^ 4 = omega (arith, sized.1) in
      ap (λ ys. then_at (number_step w32 (ys ++ rest)) payload_step) is
      ∙ ap (λ ys. then_at (number_step w32 ys) payload_step) (append_assoc bytes payload rest)
      ∙ ap (λ o. then_at o payload_step)
      ((number-exact w32 told_32).complete bytes (length payload) (payload ++ rest) (fits, refl))
      ∙ payload_again payload rest sized;
  takes = λ piece payload (sized, is).
      omega (arith, ap length is, length-append (number_bytes w32 (length payload)) payload, sized.0);
}
  where
    sound : (tokens payload rest : List ℕ) (size : ℕ) (left : List ℕ) → number_step w32 tokens ≡ Some (size, left)
        → payload_step (size, left) ≡ Some (payload, rest) → Begins sized_payload tokens payload rest
    sound tokens payload rest size left number_is e =
        elim (chosen (nat_le 1 size && nat_le size payload_limit && nat_le size (length left)) _ _ _ e) [
          | inr none ↦ absurd (none-some (payload, rest) none.1)
          | inl read ↦
              let parts = same_Some (take size left, drop size left) (payload, rest) read.1 in
              let tests = tested size (length left) read.0 in
              let front = take size left in
              let long : length front ≡ size = length-take-le size left tests.2 in
              let is = (number-exact w32 told_32).sound tokens size left number_is in
              subst (λ (pair : List ℕ × List ℕ). Begins sized_payload tokens pair.0 pair.1) parts
              (record {
                piece = body front;
                spelled = ((omega (arith, long, tests.0), omega (arith, long, tests.1)), refl);
                tokens_are =
                    is.tokens_are
                    ∙ ap (λ ys. ys ++ left) (is.spelled.1 ∙ ap (number_bytes w32) (sym long))
                    ∙ ap (λ ys. number_bytes w32 (length front) ++ ys) (sym (take-append-drop size left))
                    ∙ sym (append_assoc (number_bytes w32 (length front)) front (drop size left));
              })
        ]

-- a record behind an open gate is one too
pub open_record-exact : IsExact open_record
open_record-exact = behind-exact sized_payload sized_payload-exact (1 ∷ [])

-- records that are framed are spelled
pub framed_spelled : (records : List (List ℕ)) → All IsSized records
    → SpellsMany open_record.Spells records (framed records)
framed_spelled [] sized = refl
framed_spelled (payload ∷ records) sized = (
  record_bytes payload,
  framed records,
  (body payload, (All-head IsSized payload records sized, refl), refl),
  framed_spelled records (All-tail IsSized payload records sized),
  refl,
)

-- bytes that spell records are those records, framed
pub spelled_framed : (records : List (List ℕ)) (bytes : List ℕ) → SpellsMany open_record.Spells records bytes
    → All IsSized records × (bytes ≡ framed records)
spelled_framed [] bytes spelled = (All-nil IsSized, spelled)
spelled_framed (payload ∷ records) bytes (front, back, (inner, (sized, inner_is), front_is), more, is) =
    let later = spelled_framed records back more in (
      All-cons IsSized payload records sized later.0,
      is ∙ ap (λ ys. front ++ ys) later.1 ∙ ap (λ ys. ys ++ framed records) (front_is ∙ ap (λ ys. 1 ∷ ys) inner_is),
    )

-- where a payload is read, its record stands in front of the rest
record_spelled : (tail payload rest : List ℕ) → open_record.step tail ≡ Some (payload, rest)
    → IsSized payload × (tail ≡ record_bytes payload ++ rest)
record_spelled tail payload rest e =
    let is = open_record-exact.sound tail payload rest e in
    let (inner, (sized, inner_is), piece_is) = is.spelled in
    (sized, is.tokens_are ∙ ap (λ ys. ys ++ rest) (piece_is ∙ ap (λ ys. 1 ∷ ys) inner_is))

-- where a payload is read, its record stands in front of some rest
pub record_read : (tail payload : List ℕ) → option_map (λ read. read.0) (open_record.step tail) ≡ Some payload
    → (rest : List ℕ) × IsSized payload × (tail ≡ record_bytes payload ++ rest)
record_read tail payload e =
    let (read, is, same) = option_map-some (open_record.step tail) (λ read. read.0) payload e in
    let spelled = record_spelled tail payload read.1 (is ∙ ap (λ front. Some (front, read.1)) same) in
    (read.1, spelled.0, spelled.1)

-- a record that stands whole is not bad
pub whole_is_good : (payload rest : List ℕ) → IsSized payload → is_bad (record_bytes payload ++ rest) ≡ false
whole_is_good payload rest sized = ap is_none (sized_payload-exact.complete (body payload) payload rest (sized, refl))

-- records stop at a tail: at a closed gate, or where it is bad
abbrev pub Stops : List ℕ → Type 0
Stops tail = Ends tail ⊎ (is_bad tail ≡ true)

-- no record is read where they stop
pub none_read : (tail : List ℕ) → Stops tail → open_record.step tail ≡ None
none_read tail (inl (gate, rest, is, shut)) = ap open_record.step is ∙ grind (arith, shut)
none_read [] (inr bad) = refl
none_read (gate ∷ bytes) (inr bad) = grind (arith, bad)

-- records stop where none is read
pub stops_at : (tail : List ℕ) → open_record.step tail ≡ None → Stops tail
stops_at [] none = inr refl
stops_at (gate ∷ bytes) none = elim (cases_eq gate 1) [
  | inr shut ↦ inl (gate, bytes, refl, shut)
  | inl is_open ↦ inr (grind (arith, none, is_open))
]

-- from the place of a gate on records stop, or one stands whole
pub at_gate : (tail : List ℕ)
    → Stops tail ⊎ ((payload rest : List ℕ) × IsSized payload × (tail ≡ record_bytes payload ++ rest))
at_gate tail = by (open_record.step tail) refl
  where
    by : (o : Option (List ℕ × List ℕ)) → open_record.step tail ≡ o
        → Stops tail ⊎ ((payload rest : List ℕ) × IsSized payload × (tail ≡ record_bytes payload ++ rest))
    by None e = inl (stops_at tail e)
    by (Some (payload, rest)) e =
        let spelled = record_spelled tail payload rest e in inr (payload, rest, spelled.0, spelled.1)

-- records that are framed one behind another are read again up to where they stop, as at a closed gate, whatever
-- follows that
pub read_again : (records : List (List ℕ)) (tail : List ℕ) → All IsSized records → Stops tail
    → taken open_record.step (framed records ++ tail) ≡ (records, tail)
read_again records tail sized stops =
    taken-complete open_record open_record-exact records (framed records) tail (framed_spelled records sized)
    (none_read tail stops)

-- bytes are one list of records and one tail where they stop
pub one_list : (xs ys : List (List ℕ)) (s t : List ℕ) → All IsSized xs → All IsSized ys → Stops s → Stops t
    → framed xs ++ s ≡ framed ys ++ t → (xs ≡ ys) × (s ≡ t)
one_list xs ys s t sized_xs sized_ys stop_s stop_t same =
    let pairs : (xs, s) ≡ (ys, t) =
    sym (read_again xs s sized_xs stop_s) ∙ ap (taken open_record.step) same ∙ read_again ys t sized_ys stop_t in
    (ap (λ pair. pair.0) pairs, ap (λ pair. pair.1) pairs)

-- bytes are the group of one list of records
pub one_group : (xs ys : List (List ℕ)) (bytes : List ℕ) → IsGroup xs bytes → IsGroup ys bytes → xs ≡ ys
one_group xs ys bytes one two =
    let shut : Stops (0 ∷ []) = inl (0, [], refl, λ same. omega (arith, same)) in
    (one_list xs ys (0 ∷ []) (0 ∷ []) one.addition.sized two.addition.sized shut shut
    (sym (group_framed xs bytes one) ∙ group_framed ys bytes two)).0
