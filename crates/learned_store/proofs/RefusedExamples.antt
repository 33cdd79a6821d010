-- Pairs of small files that are refused: which of both files is told, and at which place.
use Rattle.std.proofs.Common.{◌≡◌, ℕ, List, [], ◌∷◌, ◌++◌, inl, inr, refl, sym, ◌∙◌, ap, lit≤}
use Rattle.exact_readers.specs.Numbers.{number_bytes, number_of, number_step}
use Rattle.skk_calls.specs.States.{empty_state}
use Rattle.skk_disk.specs.declared.which.Which.TheVariants.{A, B}
use Rattle.skk_journal.specs.declared.choice.LiveChoice.TheVariants.{NoneBy}
use Rattle.skk_journal.specs.declared.fault.OpenFault.TheVariants.{Disk, NotJournal, BadRecord, Memory}
use Rattle.skk_journal.specs.declared.found.FoundRecord.{FoundRecord}
use Rattle.skk_journal.specs.Causes.{file_number}
use Rattle.skk_journal.specs.Contents.{no_records}
use Rattle.skk_journal.specs.Opening.{IsOpened, bad_record}
use Rattle.learned_store.specs.Payloads.{newest_version}
use Rattle.learned_store.specs.Recovered.{BreakAt, BreaksIn, Recovery, IsRecovered, foreign, refused, IsRefused}
use Rattle.learned_store.proofs.OneRecovery.{recovered_once}
use Rattle.learned_store.proofs.ReadRows.{LinesAreRead}
use Rattle.learned_store.proofs.SmallFiles.{row_a, row_c, first, second, nothing, old, state}
use Rattle.learned_store.proofs.SmallFiles.{pair, begun, file, has, short}
use Rattle.learned_store.proofs.SmallFiles.{nothing_says, first_leaves, two_leave, sized_one, sized_two, sized_odd}
use Rattle.learned_store.proofs.SmallFiles.{sized_odd_first}

-- a file whose second record says nothing, and one whose first record does
abbrev odd : ℕ → List ℕ
odd generation = file generation (first ∷ nothing ∷ [])

abbrev odd_first : ℕ → List ℕ
odd_first generation = file generation (nothing ∷ first ∷ [])

odd_breaks : BreakAt (old (first ∷ nothing ∷ [])) 47
unfolding number_bytes
odd_breaks = record {
  before = first ∷ [];
  payload = nothing;
  behind = [];
  state = state 1 (row_a ∷ []);
  is = refl;
  left = first_leaves;
  none = nothing_says 1 (state 1 (row_a ∷ []));
  place = refl;
}

odd_first_breaks : BreakAt (old (nothing ∷ first ∷ [])) 17
odd_first_breaks = record {
  before = [];
  payload = nothing;
  behind = first ∷ [];
  state = empty_state;
  is = refl;
  left = refl;
  none = nothing_says 1 empty_state;
  place = refl;
}

-- a live file is refused at the record that says nothing, be it the first or the second file, and whatever the records
-- of the other one say
broken : BreaksIn (pair (odd 1) []) A 47 × BreaksIn (pair [] (odd 1)) B 47
    × BreaksIn (pair (odd_first 1) (odd 2)) B 47 × BreaksIn (pair (odd_first 2) (odd 1)) A 17
unfolding number_bytes number_of number_step
broken = (
  record {
    live = record { file = A; version = 1; generation = 1 };
    chosen = refl;
    of_live = refl;
    contents = old (first ∷ nothing ∷ []);
    opened = has 1 (first ∷ nothing ∷ []) (lit≤ tt) sized_odd;
    breaks = odd_breaks;
  },
  record {
    live = record { file = B; version = 1; generation = 1 };
    chosen = refl;
    of_live = refl;
    contents = old (first ∷ nothing ∷ []);
    opened = has 1 (first ∷ nothing ∷ []) (lit≤ tt) sized_odd;
    breaks = odd_breaks;
  },
  record {
    live = record { file = B; version = 1; generation = 2 };
    chosen = refl;
    of_live = refl;
    contents = old (first ∷ nothing ∷ []);
    opened = has 2 (first ∷ nothing ∷ []) (lit≤ tt) sized_odd;
    breaks = odd_breaks;
  },
  record {
    live = record { file = A; version = 1; generation = 2 };
    chosen = refl;
    of_live = refl;
    contents = old (nothing ∷ first ∷ []);
    opened = has 2 (nothing ∷ first ∷ []) (lit≤ tt) sized_odd_first;
    breaks = odd_first_breaks;
  },
)

-- a frame is bad where the file ends behind its records, which may be good ones or not
ended_good : IsOpened newest_version (pair (begun 1 (first ∷ [])) []) (bad_record A 47 (old (first ∷ [])))
    × IsOpened newest_version (pair (file 1 (nothing ∷ [])) (begun 2 (first ∷ second ∷ [])))
    (bad_record B 77 (old (first ∷ second ∷ [])))
unfolding number_bytes number_of number_step
ended_good = (
  (refl, refl, record { tail = []; is = refl; told = lit≤ tt; sized = sized_one; bad = refl; place = refl }),
  (refl, refl, record { tail = []; is = refl; told = lit≤ tt; sized = sized_two; bad = refl; place = refl }),
)

ended_odd : IsOpened newest_version (pair (begun 1 (first ∷ nothing ∷ [])) [])
    (bad_record A 53 (old (first ∷ nothing ∷ [])))
    × IsOpened newest_version (pair [] (begun 1 (first ∷ nothing ∷ []) ++ 1 ∷ []))
    (bad_record B 53 (old (first ∷ nothing ∷ [])))
unfolding number_bytes number_of number_step
ended_odd = (
  (refl, refl, record { tail = []; is = refl; told = lit≤ tt; sized = sized_odd; bad = refl; place = refl }),
  (refl, refl, record { tail = 1 ∷ []; is = refl; told = lit≤ tt; sized = sized_odd; bad = refl; place = refl }),
)

-- no learned file, the first one, the second one, or both; the second one beside a first one without a whole
-- generation, or one that is sound; a generation that is not whole, in the first file, in both, or beside a sound one
heads_refused : IsRecovered (pair (80 ∷ 83 ∷ []) []) (foreign A 80)
    × IsRecovered (pair [] (81 ∷ 83 ∷ [])) (foreign B 81)
    × IsRecovered (pair (80 ∷ 83 ∷ []) (81 ∷ 83 ∷ [])) (foreign A 80)
    × IsRecovered (pair short (81 ∷ 83 ∷ [])) (foreign B 81)
    × IsRecovered (pair (file 1 (first ∷ [])) (81 ∷ 83 ∷ [])) (foreign B 81)
    × IsRecovered (pair short []) (refused A 9) × IsRecovered (pair short short) (refused A 9)
    × IsRecovered (pair (file 1 (first ∷ [])) short) (refused B 9)
unfolding number_bytes number_of number_step
heads_refused = (
  refl,
  refl,
  refl,
  refl,
  refl,
  inr (inr (no_records newest_version, empty_state, (refl, refl, refl), refl)),
  inr (inr (no_records newest_version, empty_state, (refl, refl, refl), refl)),
  inr (inr (no_records newest_version, empty_state, (refl, refl, refl), refl)),
)

-- records that say nothing; a bad frame behind good records; and one behind a record that says nothing, which is told
records_refused : IsRecovered (pair (odd 1) []) (refused A 47) × IsRecovered (pair [] (odd 1)) (refused B 47)
    × IsRecovered (pair (odd_first 1) (odd 2)) (refused B 47)
    × IsRecovered (pair (odd_first 2) (odd 1)) (refused A 17)
    × IsRecovered (pair (begun 1 (first ∷ [])) []) (refused A 47)
    × IsRecovered (pair (file 1 (nothing ∷ [])) (begun 2 (first ∷ second ∷ []))) (refused B 77)
    × IsRecovered (pair (begun 1 (first ∷ nothing ∷ [])) []) (refused A 47)
    × IsRecovered (pair [] (begun 1 (first ∷ nothing ∷ []) ++ 1 ∷ [])) (refused B 47)
records_refused = (
  inl broken.0,
  inl broken.1,
  inl broken.2,
  inl broken.3,
  inr (inr (old (first ∷ []), state 1 (row_a ∷ []), ended_good.0, first_leaves)),
  inr (inr (old (first ∷ second ∷ []), state 2 (row_a ∷ row_c ∷ []), ended_good.1, two_leave)),
  inr (inl (old (first ∷ nothing ∷ []), 53, ended_odd.0, odd_breaks)),
  inr (inl (old (first ∷ nothing ∷ []), 53, ended_odd.1, odd_breaks)),
)

-- each file is told by its number, and no records are
causes_told : IsRefused (pair (80 ∷ 83 ∷ []) []) (NotJournal 0 80)
    × IsRefused (pair [] (81 ∷ 83 ∷ [])) (NotJournal 1 81)
    × IsRefused (pair (odd 1) []) (BadRecord 0 47 1 []) × IsRefused (pair [] (odd 1)) (BadRecord 1 47 1 [])
    × IsRefused (pair [] []) Disk × IsRefused (pair [] []) Memory
causes_told = (
  (A, refl, heads_refused.0),
  (B, refl, heads_refused.1),
  (A, refl, records_refused.0, refl),
  (B, refl, records_refused.1, refl),
  tt,
  tt,
)

-- and in no other way: of foreign files the first one, and a foreign second one before a first one that is cut short
first_foreign : (number byte : ℕ) → IsRefused (pair (80 ∷ 83 ∷ []) (81 ∷ 83 ∷ [])) (NotJournal number byte)
    → (number ≡ 0) × (byte ≡ 80)
first_foreign number byte is =
    let same : NoneBy A 80 ≡ NoneBy is.0 byte = is.2 in
    let told : A ≡ is.0 = cc same in
    (is.1 ∙ ap file_number (sym told), cc same)

second_foreign : (number byte : ℕ) → IsRefused (pair short (81 ∷ 83 ∷ [])) (NotJournal number byte)
    → (number ≡ 1) × (byte ≡ 81)
unfolding number_bytes number_of number_step
second_foreign number byte is =
    let same : NoneBy B 81 ≡ NoneBy is.0 byte = is.2 in
    let told : B ≡ is.0 = cc same in
    (is.1 ∙ ap file_number (sym told), cc same)

-- of a live file the place that is told is the only one
module _ (read : LinesAreRead) where
  first_told : (number at version : ℕ) (before : List FoundRecord)
      → IsRefused (pair (odd 1) []) (BadRecord number at version before)
      → (number ≡ 0) × (at ≡ 47) × (before ≡ [])
  first_told number at version before is =
      let same : refused A 47 ≡ refused is.0 at =
      recovered_once read (pair (odd 1) []) (refused A 47) (refused is.0 at) records_refused.0 is.2 in
      let told : A ≡ is.0 = cc same in
      (is.1 ∙ ap file_number (sym told), cc same, is.3)

  second_told : (number at version : ℕ) (before : List FoundRecord)
      → IsRefused (pair (odd_first 1) (odd 2)) (BadRecord number at version before)
      → (number ≡ 1) × (at ≡ 47) × (before ≡ [])
  second_told number at version before is =
      let same : refused B 47 ≡ refused is.0 at =
      recovered_once read (pair (odd_first 1) (odd 2)) (refused B 47) (refused is.0 at) records_refused.2 is.2 in
      let told : B ≡ is.0 = cc same in
      (is.1 ∙ ap file_number (sym told), cc same, is.3)

  -- a record that says nothing before a bad frame is told, and the frame is not
  least_told : (other : Recovery) → IsRecovered (pair (begun 1 (first ∷ nothing ∷ [])) []) other → refused A 47 ≡ other
  least_told other is =
      recovered_once read (pair (begun 1 (first ∷ nothing ∷ [])) []) (refused A 47) other records_refused.6 is
