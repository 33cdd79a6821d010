-- What the records of small files leave, and what pairs of such files are opened as.
use Rattle.std.proofs.Common.{◌≡◌, ℕ, List, [], ◌∷◌, ◌++◌, codes, refl, ◌∙◌, ap, arith, lit≤}
use Rattle.exact_readers.specs.Numbers.{number_bytes, number_of, number_step}
use Rattle.skk_calls.specs.declared.part.Part.TheVariants.{Nasi}
use Rattle.skk_calls.specs.Rows.{Cand}
use Rattle.skk_calls.specs.States.{State, empty_state}
use Rattle.skk_journal.specs.Contents.{Contents, no_records}
use Rattle.skk_journal.specs.Opening.{IsOpened, with_contents}
use Rattle.skk_journal.specs.OpeningLaws.{one_opening}
use Rattle.skk_journal.specs.Records.{end_of}
use Rattle.learned_store.specs.declared.form.PayloadForm.TheVariants.{Put, Drop, SetCount, Note}
use Rattle.learned_store.specs.Payloads.{newest_version}
use Rattle.learned_store.specs.Recovered.{Leave, BreakAt, IsRecovered, with_state, IsOpenedWith}
use Rattle.learned_store.proofs.SmallFiles.{row_a, row_c, first, second, third, fourth, nothing, old, state}
use Rattle.learned_store.proofs.SmallFiles.{pair, begun, file, has}
use Rattle.learned_store.proofs.SmallFiles.{first_says, second_says, third_says, fourth_says, nothing_says}
use Rattle.learned_store.proofs.SmallFiles.{first_leaves, two_leave, sized_one, sized_two}

-- no record leaves nothing; two records leave both rows, the third one takes a row out, and the fourth one sets the
-- count
none_leave : Leave (old []) empty_state
none_leave = refl

four_leave : Leave (old (first ∷ second ∷ third ∷ fourth ∷ [])) (state 5 (row_c ∷ []))
unfolding lib.Utf8.encode
four_leave = (
  Put 1 1 row_a,
  first_says,
  (
    Put 1 2 row_c,
    second_says,
    (Drop 1 2 (record { part = Nasi; reading = codes "a" }), third_says, (SetCount 1 5, fourth_says, refl)),
  ),
)

-- b for a gets the note c, by the second change of its book
abbrev noted : List ℕ
noted = 4 ∷ 1 ∷ 0 ∷ 2 ∷ 0 ∷ 0 ∷ 0 ∷ 0 ∷ 0 ∷ 0 ∷ 0 ∷ 0 ∷ 1 ∷ 97 ∷ 98 ∷ 59 ∷ 99 ∷ []

abbrev note : Cand
note = record { word = codes "b"; note = codes "c" }

-- a file of version 2 has that behind the row
noted_leave : Leave (record { version = 2; records = first ∷ noted ∷ [] })
    (state 2 (record row_a { cands = note ∷ []; stamp = 2 } ∷ []))
unfolding lib.Utf8.encode number_bytes
noted_leave = (
  Put 1 1 row_a,
  record { known = refl; sound = refl; counted = lit≤ tt; follows = refl; is = refl },
  (
    Note 1 2 row_a.key note,
    record { known = refl; sound = refl; counted = lit≤ tt; follows = refl; is = refl },
    refl,
  ),
)

-- the first record may say nothing, or the one behind another, whose gate stands at 47
breaks : BreakAt (old (nothing ∷ first ∷ [])) 17 × BreakAt (old (first ∷ nothing ∷ second ∷ nothing ∷ [])) 47
unfolding number_bytes number_of number_step
breaks = (
  record {
    before = [];
    payload = nothing;
    behind = first ∷ [];
    state = empty_state;
    is = refl;
    left = refl;
    none = nothing_says 1 empty_state;
    place = refl;
  },
  record {
    before = first ∷ [];
    payload = nothing;
    behind = second ∷ nothing ∷ [];
    state = state 1 (row_a ∷ []);
    is = refl;
    left = first_leaves;
    none = nothing_says 1 (state 1 (row_a ∷ []));
    place = refl;
  },
)

-- a file with the first record, and garbage behind its closed gate
abbrev good_file : List ℕ
good_file = begun 1 (first ∷ []) ++ 0 ∷ 7 ∷ []

good_opened : IsOpened newest_version (pair good_file []) (with_contents (old (first ∷ [])))
unfolding number_bytes number_of number_step
good_opened =
    record {
      gate = 0;
      rest = 7 ∷ [];
      is = refl;
      right = (lit≤ tt, lit≤ tt);
      told = lit≤ tt;
      sized = sized_one;
      closed = λ same. omega (arith, same);
    }

-- where no file is live nothing is left; a single live file leaves its own state, be it the first or the second one
recovered : IsRecovered (pair [] []) (with_state empty_state)
    × IsRecovered (pair (0 ∷ 7 ∷ 7 ∷ []) (9 ∷ [])) (with_state empty_state)
    × IsRecovered (pair good_file []) (with_state (state 1 (row_a ∷ [])))
    × IsRecovered (pair [] (file 1 (first ∷ second ∷ []))) (with_state (state 2 (row_a ∷ row_c ∷ [])))
    × IsRecovered (pair (0 ∷ 7 ∷ 7 ∷ []) (file 1 (first ∷ []))) (with_state (state 1 (row_a ∷ [])))
unfolding number_bytes number_of number_step
recovered = (
  (no_records newest_version, refl, refl),
  (no_records newest_version, refl, refl),
  (old (first ∷ []), good_opened, first_leaves),
  (old (first ∷ second ∷ []), has 1 (first ∷ second ∷ []) (lit≤ tt) sized_two, two_leave),
  (old (first ∷ []), has 1 (first ∷ []) (lit≤ tt) sized_one, first_leaves),
)

-- of two live files that counts whose generation comes next, also behind the last one; else the greater one; else the
-- first; and the records of the other one are not judged, also where one says nothing
abbrev one_record : ℕ → List ℕ
one_record generation = file generation (first ∷ [])

abbrev two_records : ℕ → List ℕ
two_records generation = file generation (first ∷ second ∷ [])

abbrev Leaves : List ℕ → List ℕ → State → Type 0
Leaves a b left = IsRecovered (pair a b) (with_state left)

chosen : Leaves (two_records 1) (one_record 2) (state 1 (row_a ∷ []))
    × Leaves (two_records 2) (one_record 1) (state 2 (row_a ∷ row_c ∷ []))
    × Leaves (two_records 18446744073709551615) (one_record 0) (state 1 (row_a ∷ []))
    × Leaves (one_record 0) (two_records 18446744073709551615) (state 1 (row_a ∷ []))
    × Leaves (two_records 5) (one_record 3) (state 2 (row_a ∷ row_c ∷ []))
    × Leaves (one_record 3) (two_records 5) (state 2 (row_a ∷ row_c ∷ []))
    × Leaves (one_record 4) (two_records 4) (state 1 (row_a ∷ []))
    × Leaves (one_record 2) (file 1 (first ∷ nothing ∷ [])) (state 1 (row_a ∷ []))
    × Leaves (begun 1 (first ∷ nothing ∷ [])) (one_record 2) (state 1 (row_a ∷ []))
unfolding number_bytes number_of number_step
chosen = (
  (old (first ∷ []), has 2 (first ∷ []) (lit≤ tt) sized_one, first_leaves),
  (old (first ∷ second ∷ []), has 2 (first ∷ second ∷ []) (lit≤ tt) sized_two, two_leave),
  (old (first ∷ []), has 0 (first ∷ []) (lit≤ tt) sized_one, first_leaves),
  (old (first ∷ []), has 0 (first ∷ []) (lit≤ tt) sized_one, first_leaves),
  (old (first ∷ second ∷ []), has 5 (first ∷ second ∷ []) (lit≤ tt) sized_two, two_leave),
  (old (first ∷ second ∷ []), has 5 (first ∷ second ∷ []) (lit≤ tt) sized_two, two_leave),
  (old (first ∷ []), has 4 (first ∷ []) (lit≤ tt) sized_one, first_leaves),
  (old (first ∷ []), has 2 (first ∷ []) (lit≤ tt) sized_one, first_leaves),
  (old (first ∷ []), has 2 (first ∷ []) (lit≤ tt) sized_one, first_leaves),
)

-- the state and the end of files that are told are those of their own records; of those that are not, those of some
opened_with : IsOpenedWith (Unit {0}) (pair good_file []) (state 1 (row_a ∷ [])) 48
    × IsOpenedWith (Unit {0}) (pair (one_record 3) (two_records 4)) (state 2 (row_a ∷ row_c ∷ [])) 78
    × IsOpenedWith (Unit {0}) (pair [] []) empty_state 18 × IsOpenedWith ⊥ (pair good_file []) empty_state 18
unfolding number_bytes number_of number_step
opened_with = (
  record { contents = old (first ∷ []); leave = first_leaves; end_is = refl; told = λ told. good_opened },
  record {
    contents = old (first ∷ second ∷ []);
    leave = two_leave;
    end_is = refl;
    told = λ told. has 4 (first ∷ second ∷ []) (lit≤ tt) sized_two;
  },
  record { contents = no_records newest_version; leave = refl; end_is = refl; told = λ told. refl },
  record { contents = no_records newest_version; leave = refl; end_is = refl; told = λ told. absurd told },
)

told_end : (left : State) (end : ℕ) → IsOpenedWith (Unit {0}) (pair good_file []) left end → end ≡ 48
unfolding number_bytes number_of number_step
told_end left end is =
    let one =
    one_opening newest_version (pair good_file []) (with_contents is.contents) (with_contents (old (first ∷ [])))
    (is.told tt) good_opened in
    let same : is.contents ≡ old (first ∷ []) = cc one in
    is.end_is ∙ ap (λ (c : Contents). end_of c.records) same
