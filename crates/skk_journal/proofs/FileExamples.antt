-- Both files at small examples, each worked out by hand: their heads, which one counts, what is opened, and what an
-- open journal holds.
use Rattle.std.proofs.Common.{◌≡◌, ℕ, ◌+◌, ◌<◌, ◌≤◌, true, false, Option, None, Some, List, [], ◌∷◌, ◌++◌, length, take}
use Rattle.std.proofs.Common.{drop, map, inl, inr, sym, ap, subst, arith, refl, lit≤, lit<}
use Rattle.std.proofs.lemmas.List.Elements.{All-nil, All-cons}
use Rattle.exact_readers.specs.Numbers.{number_bytes, number_of, number_step}
use Rattle.skk_disk.specs.declared.disk.Disk.{Ghosts}
use Rattle.skk_disk.specs.Image.{Image}
use Rattle.skk_disk.specs.declared.which.Which.{Which}
use Rattle.skk_disk.specs.declared.which.Which.TheVariants.{A, B}
use Rattle.skk_journal.specs.Contents.{Contents, no_records, with_added, with_record}
use Rattle.skk_journal.specs.Records.{IsSized, need, front, mark, IsVersion, IsGeneration}
use Rattle.skk_journal.specs.Records.{end_of, HasContents, HasAddition}
use Rattle.skk_journal.specs.Generations.{HasGeneration, one_more, one_less, next_generation, generation_before}
use Rattle.skk_journal.specs.Generations.{counts, first_live, live_after}
use Rattle.skk_journal.specs.Heads.{is_version, version_byte, is_marked, is_fresh, is_foreign, first_byte, head_of}
use Rattle.skk_journal.specs.Heads.{HasVersion}
use Rattle.skk_journal.specs.Choice.{lives, choice, ChoosesVersion, idle_beside}
use Rattle.skk_journal.specs.Nearer.{nearer}
use Rattle.skk_journal.specs.Idle.{GivesWay, IsIdle, IsBlank, IsLoose, IsStray, IsKnown, IsFreshAs, idle_of}
use Rattle.skk_journal.specs.Idle.{OtherFirst, FirstIs}
use Rattle.skk_journal.specs.Filling.{IsAged, filled_bytes, IsReady, IsNew}
use Rattle.skk_journal.specs.Opening.{is_bad, Opening, with_contents, contents_of, not_journal, bad_record, IsOpened}
use Rattle.skk_journal.specs.OpeningLaws.{one_opening}
use Rattle.skk_journal.specs.Images.{Opens, OpensEither, OpensRecords, StillOpens}
use Rattle.skk_journal.specs.Journal.{OpenJournal, is_in_doubt, IsStagedTo, Holds, HoldsDoubt, Rests, Doubts}
use Rattle.skk_journal.specs.Causes.{file_number, IsRefused, UnlessDisk, IsNotAdded}
use Rattle.skk_journal.specs.declared.choice.LiveChoice.{LiveChoice}
use Rattle.skk_journal.specs.declared.choice.LiveChoice.TheVariants.{NoneBy, CutShortIn, NoLive, LiveIn}
use Rattle.skk_journal.specs.declared.fault.AppendFault.TheVariants.{Full, Disk}
use Rattle.skk_journal.specs.declared.fault.OpenFault.TheVariants as opening
use Rattle.skk_journal.specs.declared.live.Live.{Live}
use Rattle.skk_journal.specs.declared.live.Idle.TheVariants as idles
use Rattle.skk_journal.specs.declared.live.Doubt.TheVariants as doubts
use Rattle.skk_journal.specs.declared.head.Head.{Head}
use Rattle.skk_journal.specs.declared.head.Head.TheVariants.{Fresh, Foreign, CutShort, Headed}
use Rattle.skk_journal.proofs.RecordExamples.{learning, learnt_sized}

-- the file with the record of one learning, and a closed gate behind it
abbrev learnt_file : List ℕ
learnt_file =
    1 ∷ 83 ∷ 75 ∷ 75 ∷ 68 ∷ 69 ∷ 83 ∷ 75 ∷ 1 ∷ 1 ∷ 0 ∷ 0 ∷ 0 ∷ 0 ∷ 0 ∷ 0 ∷ 0 ∷ 1 ∷ 38 ∷ 0 ∷ 0 ∷ 0 ∷ learning ++ 0 ∷ []

-- these records in a file of version 1, and in one of version 2
abbrev in_one : List (List ℕ) → Contents
in_one records = record { version = 1; records = records }

abbrev in_two : List (List ℕ) → Contents
in_two records = record { version = 2; records = records }

learnt_is : learnt_file ≡ front 1 (in_one (learning ∷ [])) ++ 0 ∷ []
unfolding number_bytes
learnt_is = refl

learnt_long : length learnt_file ≡ 61
learnt_long = refl

learnt_has : (newest : ℕ) → 1 ≤ newest → HasContents newest 1 (in_one (learning ∷ [])) learnt_file
learnt_has newest some = record {
  gate = 0;
  rest = [];
  is = learnt_is;
  right = (lit≤ tt, some);
  told = lit≤ tt;
  sized = All-cons IsSized learning [] learnt_sized (All-nil IsSized);
  closed = λ same. omega (arith, same);
}

-- it is opened alone, as the first file or as the second one, and where 2 is the newest version too
learnt_opened : IsOpened 1 (record { a = learnt_file; b = [] }) (with_contents (in_one (learning ∷ [])))
    × IsOpened 1 (record { a = []; b = learnt_file }) (with_contents (in_one (learning ∷ [])))
    × IsOpened 2 (record { a = learnt_file; b = [] }) (with_contents (in_one (learning ∷ [])))
unfolding number_of number_step
learnt_opened = (learnt_has 1 (lit≤ tt), learnt_has 1 (lit≤ tt), learnt_has 2 (lit≤ tt))

-- and in no other way
learnt_alone : (other : Opening) → IsOpened 1 (record { a = learnt_file; b = [] }) other
    → with_contents (in_one (learning ∷ [])) ≡ other
learnt_alone other is =
    one_opening 1 (record { a = learnt_file; b = [] }) (with_contents (in_one (learning ∷ []))) other learnt_opened.0 is

-- contents with records behind the others keep the version
more_contents : (with_record (in_one ((9 ∷ []) ∷ [])) (7 ∷ []) ≡ in_one ((9 ∷ []) ∷ (7 ∷ []) ∷ []))
    × (with_added (in_two ((9 ∷ []) ∷ [])) ((7 ∷ []) ∷ (8 ∷ []) ∷ []) ≡ in_two ((9 ∷ []) ∷ (7 ∷ []) ∷ (8 ∷ []) ∷ []))
    × (no_records 2 ≡ in_two [])
    × (contents_of (record { file = B; version = 2; generation = 5 }) ((9 ∷ []) ∷ []) ≡ in_two ((9 ∷ []) ∷ []))
more_contents = (refl, refl, refl, refl)

-- SKKDESK and a version, behind a first byte
abbrev versioned_by : ℕ → ℕ → List ℕ
versioned_by version first = first ∷ 83 ∷ 75 ∷ 75 ∷ 68 ∷ 69 ∷ 83 ∷ 75 ∷ version ∷ []

-- that of version 1
abbrev marked_by : ℕ → List ℕ
marked_by first = versioned_by 1 first

-- the versions 0, 1, 2, 3 and 255, where 1, 2 and 255 are the newest ones
versions : (map (is_version 1) (0 ∷ 1 ∷ 2 ∷ 3 ∷ 255 ∷ []) ≡ false ∷ true ∷ false ∷ false ∷ false ∷ [])
    × (map (is_version 2) (0 ∷ 1 ∷ 2 ∷ 3 ∷ 255 ∷ []) ≡ false ∷ true ∷ true ∷ false ∷ false ∷ [])
    × (map (is_version 255) (0 ∷ 1 ∷ 2 ∷ 3 ∷ 255 ∷ []) ≡ false ∷ true ∷ true ∷ true ∷ true ∷ [])
versions = (refl, refl, refl)

right_versions : IsVersion 1 1 × (¬ IsVersion 1 0) × (¬ IsVersion 1 2) × IsVersion 2 1 × IsVersion 2 2
    × (¬ IsVersion 2 0) × (¬ IsVersion 2 3) × (¬ IsVersion 2 255) × IsVersion 255 255
right_versions = (
  (lit≤ tt, lit≤ tt),
  λ is. omega (arith, is.0),
  λ is. omega (arith, is.1),
  (lit≤ tt, lit≤ tt),
  (lit≤ tt, lit≤ tt),
  λ is. omega (arith, is.0),
  λ is. omega (arith, is.1),
  λ is. omega (arith, is.1),
  (lit≤ tt, lit≤ tt),
)

-- a head that is whole has one of them, and a live file that is chosen
judged_versions : HasVersion 2 (Headed 2 7) × (¬ HasVersion 1 (Headed 2 7)) × HasVersion 1 Fresh
    × ChoosesVersion 2 (lives A 2 7) × (¬ ChoosesVersion 1 (lives A 2 7)) × ChoosesVersion 1 NoLive
judged_versions = (
  (lit≤ tt, lit≤ tt),
  λ is. omega (arith, is.1),
  tt,
  (lit≤ tt, lit≤ tt),
  λ is. omega (arith, is.1),
  tt,
)

-- the mark, which is right up to the newest version, and the byte that tells it; a mark that is not whole, and another
-- name
marks : (mark 2 ≡ drop 1 (versioned_by 2 1))
    × (map version_byte ([] ∷ mark 2 ∷ take 7 (mark 2) ∷ (mark 255 ++ 9 ∷ []) ∷ []) ≡ 0 ∷ 2 ∷ 0 ∷ 255 ∷ [])
    × (map (is_marked 1) (mark 0 ∷ mark 1 ∷ mark 2 ∷ take 7 (mark 1) ∷ (83 ∷ []) ∷ [] ∷ [])
    ≡ false ∷ true ∷ false ∷ false ∷ false ∷ false ∷ [])
    × (map (is_marked 2) ((mark 1 ++ 9 ∷ []) ∷ (mark 2 ++ 9 ∷ []) ∷ (mark 3 ++ 9 ∷ []) ∷ mark 255 ∷
    (83 ∷ 75 ∷ 75 ∷ 68 ∷ 69 ∷ 83 ∷ 67 ∷ 1 ∷ []) ∷ [])
    ≡ true ∷ true ∷ false ∷ false ∷ false ∷ [])
marks = (refl, refl, refl, refl)

-- the heads of files: nothing; one byte; the first byte 0; another first byte with the mark; one without it; the mark
-- not whole; another version; an open gate and the mark alone; no whole generation; a whole one
by_head : map (head_of 1) (
    [] ∷ (80 ∷ []) ∷ (1 ∷ []) ∷ (0 ∷ 7 ∷ 7 ∷ []) ∷ marked_by 0 ∷ marked_by 2 ∷ (80 ∷ 46 ∷ [])
    ∷ (2 ∷ 83 ∷ 75 ∷ 75 ∷ 68 ∷ 69 ∷ 83 ∷ 75 ∷ []) ∷ (1 ∷ 83 ∷ 75 ∷ 75 ∷ 68 ∷ 69 ∷ 83 ∷ 75 ∷ 2 ∷ []) ∷ marked_by 1
    ∷ (marked_by 1 ++ 1 ∷ 0 ∷ 0 ∷ 0 ∷ 0 ∷ 0 ∷ 0 ∷ []) ∷ (marked_by 1 ++ 1 ∷ 0 ∷ 0 ∷ 0 ∷ 0 ∷ 0 ∷ 0 ∷ 0 ∷ []) ∷ [])
    ≡ Fresh ∷ Fresh ∷ Fresh ∷ Fresh ∷ Fresh ∷ Fresh ∷ Foreign 80
    ∷ Foreign 2 ∷ Foreign 1 ∷ CutShort
    ∷ CutShort ∷ Headed 1 1 ∷ []
unfolding number_of number_step
by_head = refl

-- heads of the versions 0, 1, 2, 3 and 255 with an open gate and a generation, and with another first byte
abbrev versioned_heads : ℕ → ℕ → List Head
versioned_heads newest first = map
    (λ version. head_of newest (versioned_by version first ++ 5 ∷ 0 ∷ 0 ∷ 0 ∷ 0 ∷ 0 ∷ 0 ∷ 0 ∷ []))
    (0 ∷ 1 ∷ 2 ∷ 3 ∷ 255 ∷ [])

by_version : (versioned_heads 1 1 ≡ Foreign 1 ∷ Headed 1 5 ∷ Foreign 1 ∷ Foreign 1 ∷ Foreign 1 ∷ [])
    × (versioned_heads 2 1 ≡ Foreign 1 ∷ Headed 1 5 ∷ Headed 2 5 ∷ Foreign 1 ∷ Foreign 1 ∷ [])
    × (versioned_heads 1 7 ≡ Foreign 7 ∷ Fresh ∷ Foreign 7 ∷ Foreign 7 ∷ Foreign 7 ∷ [])
    × (versioned_heads 2 7 ≡ Foreign 7 ∷ Fresh ∷ Fresh ∷ Foreign 7 ∷ Foreign 7 ∷ [])
    × (versioned_heads 2 0 ≡ Fresh ∷ Fresh ∷ Fresh ∷ Fresh ∷ Fresh ∷ [])
    × (map (λ newest. head_of newest (versioned_by 2 1)) (1 ∷ 2 ∷ []) ≡ Foreign 1 ∷ CutShort ∷ [])
unfolding number_of number_step
by_version = (refl, refl, refl, refl, refl, refl)

-- generations, the least byte first
by_generation : map (λ bytes. head_of 1 (marked_by 1 ++ bytes)) (
    (0 ∷ 1 ∷ 0 ∷ 0 ∷ 0 ∷ 0 ∷ 0 ∷ 0 ∷ 9 ∷ []) ∷ (255 ∷ 255 ∷ 255 ∷ 255 ∷ 255 ∷ 255 ∷ 255 ∷ 255 ∷ []) ∷ [])
    ≡ Headed 1 256 ∷ Headed 1 18446744073709551615 ∷ []
unfolding number_of number_step
by_generation = refl

-- which files are no learned ones: none of one byte at most, none whose first byte is 0, and none with a right mark
foreign_files : (map (is_foreign 1) (
    [] ∷ (80 ∷ []) ∷ (80 ∷ 46 ∷ []) ∷ (0 ∷ 46 ∷ []) ∷ (1 ∷ 83 ∷ []) ∷ marked_by 1 ∷ marked_by 2 ∷ [])
    ≡ false ∷ false ∷ true ∷ false ∷ true ∷ false ∷ false ∷ [])
    × (map (λ version. is_foreign 2 (versioned_by version 1)) (0 ∷ 1 ∷ 2 ∷ 3 ∷ [])
    ≡ true ∷ false ∷ false ∷ true ∷ [])
    × (map (λ version. is_fresh 2 (versioned_by version 2)) (0 ∷ 1 ∷ 2 ∷ 3 ∷ [])
    ≡ false ∷ true ∷ true ∷ false ∷ [])
foreign_files = (refl, refl, refl)

first_bytes : map first_byte ((80 ∷ 46 ∷ []) ∷ [] ∷ []) ≡ 80 ∷ 0 ∷ []
first_bytes = refl

-- a file whose second record ends one byte early
abbrev early : List ℕ
early = marked_by 1 ++ 1 ∷ 0 ∷ 0 ∷ 0 ∷ 0 ∷ 0 ∷ 0 ∷ 0 ∷ 1 ∷ 1 ∷ 0 ∷ 0 ∷ 0 ∷ 9 ∷ 1 ∷ 2 ∷ 0 ∷ 0 ∷ 0 ∷ 7 ∷ []

early_opened : IsOpened 1 (record { a = early; b = [] }) (bad_record A 23 (in_one ((9 ∷ []) ∷ [])))
unfolding number_bytes number_of number_step
early_opened = (
  refl,
  refl,
  record {
    tail = 1 ∷ 2 ∷ 0 ∷ 0 ∷ 0 ∷ 7 ∷ [];
    is = refl;
    told = lit≤ tt;
    sized = All-cons IsSized (9 ∷ []) [] (omega arith, omega arith) (All-nil IsSized);
    bad = refl;
    place = refl;
  },
)

-- a file that ends behind its generation
ended_opened : IsOpened 1 (record { a = 7 ∷ []; b = marked_by 1 ++ 0 ∷ 0 ∷ 0 ∷ 0 ∷ 0 ∷ 0 ∷ 0 ∷ 0 ∷ [] })
    (bad_record B 17 (in_one []))
unfolding number_bytes number_of number_step
ended_opened = (
  refl,
  refl,
  record { tail = []; is = refl; told = lit≤ tt; sized = All-nil IsSized; bad = refl; place = refl },
)

-- a gate that is neither 0 nor 1 ends the records, whatever follows it
garbage_opened : IsOpened 1 (record { a = front 1 (in_one []) ++ 2 ∷ 1 ∷ 0 ∷ 9 ∷ []; b = [] })
    (with_contents (in_one []))
unfolding number_bytes number_of number_step
garbage_opened = record {
  gate = 2;
  rest = 1 ∷ 0 ∷ 9 ∷ [];
  is = refl;
  right = (lit≤ tt, lit≤ tt);
  told = lit≤ tt;
  sized = All-nil IsSized;
  closed = λ same. omega (arith, same);
}

-- two records behind a gate, which are staged together
staged : HasAddition 1 1 (in_one ((9 ∷ []) ∷ [])) ((7 ∷ []) ∷ (8 ∷ []) ∷ []) 0
    (1 ∷ 83 ∷ 75 ∷ 75 ∷ 68 ∷ 69 ∷ 83 ∷ 75 ∷ 1 ∷ 1 ∷ 0 ∷ 0 ∷ 0 ∷ 0 ∷ 0 ∷ 0 ∷ 0
    ∷ 1 ∷ 1 ∷ 0 ∷ 0 ∷ 0 ∷ 9 ∷ 0 ∷ 1 ∷ 0 ∷ 0 ∷ 0 ∷ 7 ∷ 1 ∷ 1 ∷ 0 ∷ 0 ∷ 0 ∷ 8 ∷ 0 ∷ 5 ∷ [])
unfolding number_bytes
staged = record {
  rest = 5 ∷ [];
  is = refl;
  right = (lit≤ tt, lit≤ tt);
  told = lit≤ tt;
  sized = All-cons IsSized (9 ∷ []) [] (omega arith, omega arith) (All-nil IsSized);
  addition = record {
    some = omega arith;
    sized =
        All-cons IsSized (7 ∷ []) ((8 ∷ []) ∷ []) (omega arith, omega arith)
        (All-cons IsSized (8 ∷ []) [] (omega arith, omega arith) (All-nil IsSized));
  };
}

-- the file with one record, cut to each kind of length: its head, and from its first record's place on
cut_heads : map (λ count. head_of 1 (take count learnt_file)) (0 ∷ 1 ∷ 2 ∷ 8 ∷ 9 ∷ 16 ∷ 17 ∷ 61 ∷ [])
    ≡ Fresh ∷ Fresh ∷ Foreign 1 ∷ Foreign 1 ∷ CutShort ∷ CutShort ∷ Headed 1 1 ∷ Headed 1 1 ∷ []
unfolding number_of number_step
cut_heads = refl

cut_tails : map (λ count. is_bad (drop 17 (take count learnt_file))) (17 ∷ 18 ∷ 21 ∷ 22 ∷ 59 ∷ 60 ∷ 61 ∷ [])
    ≡ true ∷ true ∷ true ∷ true ∷ true ∷ false ∷ false ∷ []
unfolding number_of number_step
cut_tails = refl

cut_ends : map (λ count. is_bad (drop 60 (take count learnt_file))) (60 ∷ 61 ∷ []) ≡ true ∷ false ∷ []
unfolding number_of number_step
cut_ends = refl

-- the choice between two headed files of these generations
abbrev choice_by : ℕ × ℕ → LiveChoice
choice_by generations =
    choice 1 (record { a = front generations.0 (in_one []); b = front generations.1 (in_one []) })

-- the one whose generation comes next after the other's, as 0 does after the greatest one; or else the greater one; or
-- of equal ones the first
by_generations : map choice_by (
    (1, 2) ∷ (2, 1) ∷ (18446744073709551615, 0) ∷ (0, 18446744073709551615) ∷ (0, 1) ∷ (1, 0)
    ∷ (5, 3) ∷ (3, 5) ∷ (4, 4) ∷ (0, 0) ∷ (18446744073709551615, 18446744073709551615)
    ∷ (18446744073709551614, 18446744073709551615) ∷ (18446744073709551614, 0) ∷ (1, 18446744073709551615) ∷ [])
    ≡ lives B 1 2 ∷ lives A 1 2 ∷ lives B 1 0 ∷ lives A 1 0 ∷ lives B 1 1 ∷ lives A 1 1
    ∷ lives A 1 5 ∷ lives B 1 5 ∷ lives A 1 4 ∷ lives A 1 0 ∷ lives A 1 18446744073709551615
    ∷ lives B 1 18446744073709551615 ∷ lives A 1 18446744073709551614 ∷ lives B 1 18446744073709551615 ∷ []
unfolding number_bytes number_of number_step
by_generations = refl

-- the newer one counts, whatever the versions of both are: a live file of version 1 beside an idle one of version 2
-- with an older generation, and the other way round; of equal generations the first one
abbrev choice_among : (ℕ × ℕ) → (ℕ × ℕ) → LiveChoice
choice_among first second = choice 2 (record {
  a = front first.1 (record { version = first.0; records = [] });
  b = front second.1 (record { version = second.0; records = [] });
})

among_versions : (choice_among (1, 5) (2, 4) ≡ lives A 1 5) × (choice_among (2, 4) (1, 5) ≡ lives B 1 5)
    × (choice_among (2, 5) (1, 4) ≡ lives A 2 5) × (choice_among (1, 4) (2, 5) ≡ lives B 2 5)
    × (choice_among (1, 4) (2, 4) ≡ lives A 1 4) × (choice_among (2, 4) (3, 5) ≡ NoneBy B 1)
unfolding number_bytes number_of number_step
among_versions = (refl, refl, refl, refl, refl, refl)

-- a file of each kind: fresh, foreign, cut short, headed
abbrev kinds : List (List ℕ)
kinds = (0 ∷ 5 ∷ []) ∷ (80 ∷ 46 ∷ []) ∷ marked_by 1 ∷ learnt_file ∷ []

-- the first file of each kind beside a second one of each kind: foreign comes before cut short, whichever file that is
by_kinds : map (λ a. map (λ b. choice 1 (record { a = a; b = b })) kinds) kinds
    ≡ (NoLive ∷ NoneBy B 80 ∷ CutShortIn B ∷ lives B 1 1 ∷ [])
    ∷ (NoneBy A 80 ∷ NoneBy A 80 ∷ NoneBy A 80 ∷ NoneBy A 80 ∷ [])
    ∷ (CutShortIn A ∷ NoneBy B 80 ∷ CutShortIn A ∷ CutShortIn A ∷ [])
    ∷ (lives A 1 1 ∷ NoneBy B 80 ∷ CutShortIn B ∷ lives A 1 1 ∷ []) ∷ []
unfolding number_of number_step
by_kinds = refl

-- the files of three learnings under a limit of 110 bytes: the first two take the end of the first file from 18 to 61
-- and 104; for the third one the second file is filled with what counts, which with it ends at 104 too
ends : (end_of (learning ∷ learning ∷ []) ≡ 104) × (110 < 104 + need learning) × (need learning ≡ 43)
unfolding need number_bytes
ends = (refl, lit< tt, refl)

abbrev third_pair : Image
third_pair = record {
  a = front 1 (in_one (learning ∷ learning ∷ [])) ++ 0 ∷ [];
  b = front 2 (in_one (learning ∷ learning ∷ [])) ++ 0 ∷ [];
}

third_opened : IsOpened 1 third_pair (with_contents (in_one (learning ∷ learning ∷ [])))
    × (choice 1 third_pair ≡ lives B 1 2)
    × (length third_pair.b ≡ 104)
unfolding number_bytes number_of number_step
third_opened = (
  record {
    gate = 0;
    rest = [];
    is = refl;
    right = (lit≤ tt, lit≤ tt);
    told = lit≤ tt;
    sized =
        All-cons IsSized learning (learning ∷ []) learnt_sized
        (All-cons IsSized learning [] learnt_sized (All-nil IsSized));
    closed = λ same. omega (arith, same);
  },
  refl,
  refl,
)

-- no file is live; no learned file, in either; a generation that is not whole, in either, though the other one is sound
pairs_opened : IsOpened 1 (record { a = 0 ∷ 5 ∷ []; b = 7 ∷ [] }) (with_contents (in_one []))
    × IsOpened 1 (record { a = 80 ∷ 83 ∷ []; b = 81 ∷ 83 ∷ [] }) (not_journal A 80)
    × IsOpened 1 (record { a = learnt_file; b = 81 ∷ 83 ∷ [] }) (not_journal B 81)
    × IsOpened 1 (record { a = marked_by 1; b = 81 ∷ 83 ∷ [] }) (not_journal B 81)
    × IsOpened 1 (record { a = marked_by 1; b = marked_by 1 }) (bad_record A 9 (in_one []))
    × IsOpened 1 (record { a = learnt_file; b = marked_by 1 ++ 1 ∷ [] }) (bad_record B 9 (in_one []))
unfolding number_of number_step
pairs_opened = (refl, refl, refl, refl, (refl, refl, refl), (refl, refl, refl))

-- where no file is live both are opened with no records of the newest version, whatever the version of a stray one is;
-- a version above the newest one is that of no learned file
by_newest : IsOpened 2 (record { a = 0 ∷ 5 ∷ []; b = 7 ∷ [] }) (with_contents (in_two []))
    × IsOpened 2 (record { a = versioned_by 1 7; b = versioned_by 2 7 }) (with_contents (in_two []))
    × (¬ IsOpened 2 (record { a = versioned_by 1 7; b = [] }) (with_contents (in_one [])))
    × IsOpened 1 (record { a = learnt_file; b = versioned_by 2 1 }) (not_journal B 1)
    × IsOpened 1 (record { a = learnt_file; b = versioned_by 2 7 }) (not_journal B 7)
    × IsOpened 2 (record { a = learnt_file; b = versioned_by 2 7 }) (with_contents (in_one (learning ∷ [])))
unfolding number_of number_step
by_newest = (
  refl,
  refl,
  λ is. omega (arith, ap (λ (c : Contents). c.version) is),
  refl,
  refl,
  learnt_has 2 (lit≤ tt),
)

-- the records of a file that is not live are not judged
not_judged : IsOpened 1 (record { a = learnt_file; b = marked_by 1 ++ 0 ∷ 0 ∷ 0 ∷ 0 ∷ 0 ∷ 0 ∷ 0 ∷ 0 ∷ 1 ∷ 5 ∷ [] })
    (with_contents (in_one (learning ∷ [])))
unfolding number_of number_step
not_judged = learnt_has 1 (lit≤ tt)

-- contents, or others
either_opened : OpensEither 1 (in_one []) (in_one (learning ∷ [])) (record { a = learnt_file; b = [] })
    × OpensEither 1 (in_one []) (in_one (learning ∷ [])) (record { a = 5 ∷ []; b = 0 ∷ 9 ∷ [] })
unfolding number_of number_step
either_opened = (inr (learnt_has 1 (lit≤ tt)), inl refl)

-- generations around the ends of their range
steps : (map one_more (0 ∷ 1 ∷ 18446744073709551614 ∷ 18446744073709551615 ∷ [])
    ≡ 1 ∷ 2 ∷ 18446744073709551615 ∷ 0 ∷ [])
    × (map one_less (0 ∷ 1 ∷ 18446744073709551615 ∷ []) ≡ 18446744073709551615 ∷ 0 ∷ 18446744073709551614 ∷ [])
steps = (refl, refl)

abbrev live_at : Which → ℕ → Option Live
live_at file generation = Some (record { file = file; version = 1; generation = generation })

-- what is written beside a live file, and beside none
beside_live : (map next_generation (None ∷ live_at A 1 ∷ live_at B 18446744073709551615 ∷ []) ≡ 1 ∷ 2 ∷ 0 ∷ [])
    × (map generation_before (None ∷ live_at A 1 ∷ live_at B 0 ∷ []) ≡ 0 ∷ 0 ∷ 18446744073709551615 ∷ [])
    × (map first_live (1 ∷ 2 ∷ [])
    ≡ record { file = A; version = 1; generation = 1 } ∷ record { file = A; version = 2; generation = 1 } ∷ [])
    × (map (live_after 1) (first_live 1 ∷ record { file = B; version = 1; generation = 18446744073709551615 } ∷ [])
    ≡ record { file = B; version = 1; generation = 2 } ∷ record { file = A; version = 1; generation = 0 } ∷ [])
    × (live_after 2 (first_live 1) ≡ record { file = B; version = 2; generation = 2 })
beside_live = (refl, refl, refl, refl, refl)

told_generations : IsGeneration 18446744073709551615 × (¬ IsGeneration 18446744073709551616)
    × HasGeneration None × HasGeneration (live_at A 18446744073709551615)
    × (¬ HasGeneration (live_at B 18446744073709551616))
told_generations = (lit≤ tt, λ is. omega (arith, is), tt, lit≤ tt, λ is. omega (arith, is))

-- a live file counts beside the one that was live before it, and beside an equal one where it is the first
counting : map (λ (pair : Live × ℕ). counts pair.0 pair.1) (
    (record { file = A; version = 1; generation = 2 }, 1) ∷ (record { file = B; version = 1; generation = 2 }, 1)
    ∷ (record { file = A; version = 1; generation = 0 }, 18446744073709551615)
    ∷ (record { file = B; version = 1; generation = 0 }, 18446744073709551615)
    ∷ (record { file = A; version = 1; generation = 4 }, 4) ∷ (record { file = B; version = 1; generation = 4 }, 4)
    ∷ (record { file = A; version = 1; generation = 0 }, 1)
    ∷ (record { file = B; version = 1; generation = 3 }, 5) ∷ [])
    ≡ true ∷ true ∷ true ∷ true ∷ true ∷ false ∷ false ∷ false ∷ []
counting = refl

-- what is known of a file by its first two bytes: it is empty, has one byte, the first byte 0, 1, or another one
by_bytes : map idle_of ([] ∷ (0 ∷ []) ∷ (1 ∷ []) ∷ (7 ∷ []) ∷ (0 ∷ 83 ∷ []) ∷ (1 ∷ 83 ∷ []) ∷ (7 ∷ 83 ∷ []) ∷ [])
    ≡ idles.Loose ∷ idles.Blank ∷ idles.Loose ∷ idles.Loose ∷ idles.Blank ∷ idles.Loose ∷ idles.Stray ∷ []
by_bytes = refl

-- a stray file of generation 1 with a record, beside a live first file of generation 0: with its first byte torn to 1
-- it would be live, and the old record would count
abbrev stray_file : List ℕ
stray_file = marked_by 7 ++ 1 ∷ 0 ∷ 0 ∷ 0 ∷ 0 ∷ 0 ∷ 0 ∷ 0 ∷ 1 ∷ 1 ∷ 0 ∷ 0 ∷ 0 ∷ 9 ∷ 0 ∷ []

abbrev beside_old : List ℕ → LiveChoice
beside_old file = choice 1 (record { a = front 0 (in_one []) ++ 0 ∷ []; b = file })

torn_open : (beside_old stray_file ≡ lives A 1 0) × (beside_old (1 ∷ drop 1 stray_file) ≡ lives B 1 1)
unfolding number_bytes number_of number_step
torn_open = (refl, refl)

-- once it is aged it gives way, whatever its first byte is, and has no records
aged : IsAged 1 18446744073709551615 (
    marked_by 7 ++ 255 ∷ 255 ∷ 255 ∷ 255 ∷ 255 ∷ 255 ∷ 255 ∷ 255 ∷ 0 ∷ 1 ∷ 0 ∷ 0 ∷ 0 ∷ 9 ∷ 0 ∷ [])
    × (map (λ first. beside_old (
    marked_by first ++ 255 ∷ 255 ∷ 255 ∷ 255 ∷ 255 ∷ 255 ∷ 255 ∷ 255 ∷ 0 ∷ 1 ∷ 0 ∷ 0 ∷ 0 ∷ 9 ∷ 0 ∷ []))
    (0 ∷ 1 ∷ 7 ∷ []) ≡ lives A 1 0 ∷ lives A 1 0 ∷ lives A 1 0 ∷ [])
unfolding number_bytes number_of number_step
aged = ((7, 1, 1 ∷ 0 ∷ 0 ∷ 0 ∷ 9 ∷ 0 ∷ [], refl, (lit≤ tt, lit≤ tt)), refl)

-- a stray file of 9 to 16 bytes, with its first byte torn to 1, would be cut short
torn_short : map (λ count. beside_old (1 ∷ drop 1 (take count stray_file))) (9 ∷ 16 ∷ 17 ∷ [])
    ≡ CutShortIn B ∷ CutShortIn B ∷ lives B 1 1 ∷ []
unfolding number_bytes number_of number_step
torn_short = refl

-- a file of a version and a generation without records
none_has : (newest version generation : ℕ) → IsVersion newest version → IsGeneration generation
    → HasContents newest generation (no_records version) (front generation (no_records version) ++ 0 ∷ [])
none_has newest version generation right told = record {
  gate = 0;
  rest = [];
  is = refl;
  right = right;
  told = told;
  sized = All-nil IsSized;
  closed = λ same. omega (arith, same);
}

-- where no file is live, a first file of generation 0 without records gives way: it is opened with none
none_live : Opens 1 (in_one []) (record { a = front 0 (in_one []) ++ 0 ∷ []; b = [] })
    × GivesWay 1 None (front 0 (in_one []) ++ 0 ∷ [])
unfolding number_bytes number_of number_step
none_live = (
  none_has 1 1 0 (lit≤ tt, lit≤ tt) (lit≤ tt),
  (1, 0, none_has 1 1 0 (lit≤ tt, lit≤ tt) (lit≤ tt)),
)

-- beside a live file one of another version gives way by its generation alone
other_version : GivesWay 2 (live_at A 5) (front 4 (in_two []) ++ 0 ∷ [])
    × (¬ GivesWay 1 (live_at A 5) (front 4 (in_two []) ++ 0 ∷ []))
unfolding number_bytes
other_version = (
  (2, 4, record { rest = 0 ∷ []; is = refl; right = (lit≤ tt, lit≤ tt); told = lit≤ tt }, refl),
  λ gives. let same : 2 ≡ gives.0 = ap (λ (l : List ℕ). version_byte (drop 1 l)) gives.2.is in
      omega (arith, same, gives.2.right.1),
)

-- a stray first file of version 1 that was aged, beside none that is live: with its first byte torn to 1 it is opened
-- with no records of version 1, where the pair was opened with none of version 2
abbrev stray_pair : Image
stray_pair = record { a = versioned_by 1 7; b = [] }

abbrev torn_pair : Image
torn_pair = record { a = front 0 (in_one []) ++ 0 ∷ []; b = [] }

torn_version : Opens 2 (in_two []) stray_pair × Opens 2 (in_one []) torn_pair
    × OpensRecords 2 [] torn_pair × StillOpens 2 stray_pair (in_two []) torn_pair
    × (¬ Opens 2 (in_two []) torn_pair)
    × (¬ StillOpens 2 (record { a = learnt_file; b = [] }) (in_two (learning ∷ []))
    (record { a = learnt_file; b = [] }))
unfolding number_bytes number_of number_step
torn_version = (
  refl,
  none_has 2 1 0 (lit≤ tt, lit≤ tt) (lit≤ tt),
  (1, none_has 2 1 0 (lit≤ tt, lit≤ tt) (lit≤ tt)),
  record {
    records = (1, none_has 2 1 0 (lit≤ tt, lit≤ tt) (lit≤ tt));
    live = λ some. absurd (some refl);
  },
  λ has. omega (arith, ap (λ (l : List ℕ). version_byte (drop 1 l)) has.is),
  λ still.
      let has = still.live (not_none (record { file = A; version = 1; generation = 1 })) in
      omega (arith, ap (λ (l : List ℕ). version_byte (drop 1 l)) has.is),
)
  where
    not_none : (live : Live) → LiveIn live ≡ NoLive → ⊥
    not_none live is = cc

-- a blank file, one of one byte, and a stray one
idle_files : IsBlank (0 ∷ 5 ∷ []) × IsLoose 1 None (7 ∷ []) × IsStray 1 (marked_by 7) × (¬ IsStray 1 (marked_by 1))
    × (¬ IsBlank []) × IsKnown 1 None idles.Blank (0 ∷ []) × IsKnown 1 None idles.Loose []
    × IsKnown 1 None idles.Stray (marked_by 2)
    × IsFreshAs 1 idles.Blank (0 ∷ []) × IsFreshAs 1 idles.Loose [] × IsFreshAs 1 idles.Stray (marked_by 2)
    × (¬ IsFreshAs 1 idles.Loose (0 ∷ 5 ∷ [])) × IsIdle 1 None (0 ∷ 5 ∷ [])
    × IsStray 2 (versioned_by 2 7) × (¬ IsStray 1 (versioned_by 2 7))
idle_files = (
  (5 ∷ [], refl),
  inl (lit≤ tt),
  (7, 1, [], refl, (lit≤ tt, lit≤ tt), λ same. omega (arith, same), λ same. omega (arith, same)),
  λ stray. let same = stray.3 in stray.6 cc,
  λ blank. let same = blank.1 in cc,
  ([], refl),
  inl (lit≤ tt),
  (2, 1, [], refl, (lit≤ tt, lit≤ tt), λ same. omega (arith, same), λ same. omega (arith, same)),
  ([], refl),
  lit≤ tt,
  (2, 1, [], refl, (lit≤ tt, lit≤ tt), λ same. omega (arith, same), λ same. omega (arith, same)),
  λ short. omega (arith, short),
  inl refl,
  (7, 2, [], refl, (lit≤ tt, lit≤ tt), λ same. omega (arith, same), λ same. omega (arith, same)),
  λ stray. let same : 2 ≡ stray.1 = ap (λ (l : List ℕ). version_byte (drop 1 l)) stray.3 in
      omega (arith, same, stray.4.1),
)

-- another first byte of a file with one, and of one of one byte at most
first_bytes_of : OtherFirst (7 ∷ 5 ∷ []) (0 ∷ 5 ∷ []) × OtherFirst [] (7 ∷ []) × OtherFirst (7 ∷ []) []
    × (¬ OtherFirst (7 ∷ 5 ∷ []) (7 ∷ 6 ∷ []))
    × FirstIs 0 (7 ∷ 5 ∷ []) (0 ∷ 5 ∷ []) × FirstIs 1 [] (1 ∷ []) × (¬ FirstIs 1 (0 ∷ 5 ∷ []) (0 ∷ 5 ∷ []))
first_bytes_of = (
  inr (7, 0, 5 ∷ [], refl, refl),
  inl (lit≤ tt, lit≤ tt),
  inl (lit≤ tt, lit≤ tt),
  not_other,
  refl,
  refl,
  λ is. cc,
)
  where
    not_other : OtherFirst (7 ∷ 5 ∷ []) (7 ∷ 6 ∷ []) → ⊥
    not_other (inl (short, also)) = omega (arith, short)
    not_other (inr (first, next, rest, is, now)) =
        omega (
          arith,
          ap (λ (l : List ℕ). first_byte (drop 1 l)) is,
          ap (λ (l : List ℕ). first_byte (drop 1 l)) now,
        )

-- a filled file: its own gate, the mark with the version, the generation, the bytes of records, and a closed gate
filled : (filled_bytes 0 1 2 (1 ∷ 1 ∷ 0 ∷ 0 ∷ 0 ∷ 9 ∷ [])
    ≡ marked_by 0 ++ 2 ∷ 0 ∷ 0 ∷ 0 ∷ 0 ∷ 0 ∷ 0 ∷ 0 ∷ 1 ∷ 1 ∷ 0 ∷ 0 ∷ 0 ∷ 9 ∷ 0 ∷ [])
    × (filled_bytes 1 2 3 [] ≡ versioned_by 2 1 ++ 3 ∷ 0 ∷ 0 ∷ 0 ∷ 0 ∷ 0 ∷ 0 ∷ 0 ∷ 0 ∷ [])
unfolding number_bytes
filled = (refl, refl)

new_file : IsNew 1 (record { a = marked_by 1 ++ 1 ∷ 0 ∷ 0 ∷ 0 ∷ 0 ∷ 0 ∷ 0 ∷ 0 ∷ 0 ∷ []; b = 5 ∷ [] })
    × IsNew 2 (record { a = versioned_by 2 1 ++ 1 ∷ 0 ∷ 0 ∷ 0 ∷ 0 ∷ 0 ∷ 0 ∷ 0 ∷ 0 ∷ []; b = [] })
    × IsReady 1 2 [] (marked_by 0 ++ 2 ∷ 0 ∷ 0 ∷ 0 ∷ 0 ∷ 0 ∷ 0 ∷ 0 ∷ 0 ∷ [])
unfolding number_bytes
new_file = (refl, refl, refl)

abbrev new_journal : OpenJournal ℕ
new_journal = record {
  disk = 5;
  newest = 1;
  live = first_live 1;
  end = 18;
  idle = idles.Loose;
  doubt = doubts.Calm;
}

-- the same one with one learning
abbrev learnt_journal : OpenJournal ℕ
learnt_journal = record new_journal { end = 61 }

in_doubt : map is_in_doubt (doubts.Calm ∷ doubts.Record ∷ doubts.Idle ∷ []) ≡ false ∷ true ∷ true ∷ []
in_doubt = refl

-- the live file has a record, and the other one is empty; where the other one is filled without it, with the newest
-- version, one of both counts
held : Holds 2 (first_live 1) idles.Loose (in_one (learning ∷ [])) (record { a = learnt_file; b = [] })
    × HoldsDoubt 2 (first_live 1) idles.Loose doubts.Idle (in_one (learning ∷ [])) (in_two [])
    (record { a = learnt_file; b = versioned_by 2 1 ++ 2 ∷ 0 ∷ 0 ∷ 0 ∷ 0 ∷ 0 ∷ 0 ∷ 0 ∷ 0 ∷ [] })
    × (¬ HoldsDoubt 2 (first_live 1) idles.Loose doubts.Calm (in_one (learning ∷ [])) (in_two [])
    (record { a = learnt_file; b = [] }))
    × Opens 2 (in_two []) (record { a = learnt_file; b = versioned_by 2 1 ++ 2 ∷ 0 ∷ 0 ∷ 0 ∷ 0 ∷ 0 ∷ 0 ∷ 0 ∷ 0 ∷ [] })
unfolding number_bytes number_of number_step
held = (
  record { this = learnt_has 2 (lit≤ tt); that = inl (lit≤ tt) },
  record {
    this = learnt_has 2 (lit≤ tt);
    that = ((lit≤ tt, lit≤ tt), lit≤ tt, All-nil IsSized, (1, refl));
  },
  λ is. is,
  none_has 2 2 2 (lit≤ tt, lit≤ tt) (lit≤ tt),
)

-- a record behind a gate in doubt
staged_to : IsStagedTo 1 1 (in_one ((9 ∷ []) ∷ [])) (in_one ((9 ∷ []) ∷ (7 ∷ []) ∷ []))
    (marked_by 1 ++ 1 ∷ 0 ∷ 0 ∷ 0 ∷ 0 ∷ 0 ∷ 0 ∷ 0 ∷ 1 ∷ 1 ∷ 0 ∷ 0 ∷ 0 ∷ 9 ∷ 0 ∷ 1 ∷ 0 ∷ 0 ∷ 0 ∷ 7 ∷ 0 ∷ [])
unfolding number_bytes
staged_to = (
  (7 ∷ []) ∷ [],
  refl,
  (
    0,
    record {
      rest = [];
      is = refl;
      right = (lit≤ tt, lit≤ tt);
      told = lit≤ tt;
      sized = All-cons IsSized (9 ∷ []) [] (omega arith, omega arith) (All-nil IsSized);
      addition = record {
        some = omega arith;
        sized = All-cons IsSized (7 ∷ []) [] (omega arith, omega arith) (All-nil IsSized);
      };
    },
  ),
)

-- a record of 49 bytes behind the end 18 is not added under the limit 64, but under 67
told : IsNotAdded 49 64 new_journal new_journal (Full 18 49 64) × IsNotAdded 49 67 new_journal new_journal Disk
told = ((lit< tt, refl, refl, refl, refl), lit≤ tt)

not_told : (¬ IsNotAdded 49 67 new_journal new_journal (Full 18 49 67))
    × (¬ IsNotAdded 49 66 new_journal new_journal Disk)
not_told = (λ is. omega (arith, is.0), λ is. omega (arith, is))

-- a second learning behind the end 61 is not added under the limit 64; under 110 only a disk that fails keeps it away
refused_full : IsNotAdded 43 64 learnt_journal learnt_journal (Full 61 43 64)
    × (¬ IsNotAdded 43 64 learnt_journal learnt_journal Disk)
    × IsNotAdded 43 110 learnt_journal learnt_journal Disk
    × (¬ IsNotAdded 43 110 learnt_journal learnt_journal (Full 61 43 110))
refused_full = ((lit< tt, refl, refl, refl, refl), λ is. omega (arith, is), lit≤ tt, λ is. omega (arith, is.0))

-- what is known of the file that is not live, by what was read of both
beside_known : map (λ file. idle_beside file (record {
  choice = NoLive;
  first = idles.Blank;
  second = idles.Stray;
})) (A ∷ B ∷ []) ≡ idles.Stray ∷ idles.Blank ∷ []
beside_known = refl

-- a stray file is blank after two steps, one that gives way after one
steps_to_blank : map nearer (idles.Blank ∷ idles.Loose ∷ idles.Stray ∷ [])
    ≡ idles.Blank ∷ idles.Blank ∷ idles.Loose ∷ []
steps_to_blank = refl

-- a disk of which a stop leaves one image, and which tells nothing else
abbrev always : Image → Ghosts ℕ
always left = record {
  tells = ⊥;
  faults = λ n. 0;
  time = λ n. n;
  seen = λ n. left;
  left_since = λ n t image. image ≡ left;
}

-- on such a disk a new journal rests with no records: at their end alone, and only where nothing is in doubt
abbrev new_image : Image
new_image = record { a = front 1 (in_one []) ++ 0 ∷ []; b = [] }

abbrev rests_with : OpenJournal ℕ → Type 0
rests_with journal = Rests (always new_image) journal (in_one [])

rested : rests_with new_journal × rests_with (record new_journal { newest = 2 })
    × (¬ rests_with (record new_journal { end = 17 }))
    × (¬ rests_with (record new_journal { doubt = doubts.Record }))
    × (¬ rests_with (record new_journal { newest = 2; live = first_live 2 }))
rested = (
  record {
    calm = refl;
    version = refl;
    end = refl;
    images = λ image left. subst (λ (i : Image). Holds 1 (first_live 1) idles.Loose (in_one []) i) (sym left)
        (record { this = none_has 1 1 1 (lit≤ tt, lit≤ tt) (lit≤ tt); that = inl (lit≤ tt) });
  },
  record {
    calm = refl;
    version = refl;
    end = refl;
    images = λ image left. subst (λ (i : Image). Holds 2 (first_live 1) idles.Loose (in_one []) i) (sym left)
        (record { this = none_has 2 1 1 (lit≤ tt, lit≤ tt) (lit≤ tt); that = inl (lit≤ tt) });
  },
  λ rests. omega (arith, rests.end),
  λ rests. let calm = rests.calm in cc,
  λ rests. omega (arith, rests.version),
)

-- where the other file is filled and its gate may be open, the old contents are in doubt, at their end alone
abbrev turned_image : Image
turned_image = record { a = learnt_file; b = versioned_by 2 1 ++ 2 ∷ 0 ∷ 0 ∷ 0 ∷ 0 ∷ 0 ∷ 0 ∷ 0 ∷ 0 ∷ [] }

abbrev doubts_with : OpenJournal ℕ → Type 0
doubts_with journal = Doubts (always turned_image) journal (in_one (learning ∷ [])) (in_two [])

abbrev turned_journal : OpenJournal ℕ
turned_journal = record {
  disk = 5;
  newest = 2;
  live = first_live 1;
  end = 61;
  idle = idles.Blank;
  doubt = doubts.Idle;
}

in_doubt_with : doubts_with turned_journal × (¬ doubts_with (record turned_journal { end = 60 }))
    × (¬ doubts_with (record turned_journal { doubt = doubts.Calm }))
    × (¬ doubts_with (record turned_journal { live = first_live 2 }))
unfolding number_bytes
in_doubt_with = (
  record {
    doubt = refl;
    version = refl;
    end = refl;
    images = λ image left. subst (λ (i : Image).
        HoldsDoubt 2 (first_live 1) idles.Blank doubts.Idle (in_one (learning ∷ [])) (in_two []) i) (sym left)
        (record {
          this = learnt_has 2 (lit≤ tt);
          that = ((lit≤ tt, lit≤ tt), lit≤ tt, All-nil IsSized, (1, refl));
        });
  },
  λ doubts. omega (arith, doubts.end),
  λ doubts. let some = doubts.doubt in cc,
  λ doubts. omega (arith, doubts.version),
)

-- the numbers of both files
numbers : map file_number (A ∷ B ∷ []) ≡ 0 ∷ 1 ∷ []
numbers = refl

-- where an image that is refused is told, by the first byte of a file, or by the place and the records before it
refusals : IsRefused 1 (record { a = 80 ∷ 83 ∷ []; b = [] }) (opening.NotJournal 0 80)
    × IsRefused 1 (record { a = versioned_by 2 1; b = [] }) (opening.NotJournal 0 1)
    × IsRefused 1 (record { a = learnt_file; b = marked_by 1 }) (opening.BadRecord 1 9 1 [])
    × (¬ IsRefused 1 (record { a = learnt_file; b = 80 ∷ 83 ∷ [] }) (opening.NotJournal 0 80))
    × IsRefused 1 (record { a = learnt_file; b = [] }) opening.Memory
unfolding number_of number_step
refusals = (
  (A, refl, refl),
  (A, refl, refl),
  (B, refl, (refl, refl, refl), refl),
  λ is. let same = is.1 in let chosen = is.2 in not_first is.0 is.1 is.2,
  tt,
)
  where
    not_first : (file : Which) → 0 ≡ file_number file → NoneBy B 80 ≡ NoneBy file 80 → ⊥
    not_first A same chosen = cc
    not_first B same chosen = cc

-- what holds unless a disk failed
unless_disk : UnlessDisk opening.Disk ⊥ × (¬ UnlessDisk opening.Memory ⊥) × (¬ UnlessDisk (opening.NotJournal 0 7) ⊥)
unless_disk = (tt, λ is. is, λ is. is)
