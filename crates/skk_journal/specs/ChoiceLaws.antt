-- What the choice of the live file tells of both files.
use Rattle.std.specs.Prelude.{◌≡◌, ◌⊎◌, ℕ, Bool, true, false, not, ◌&&◌, ◌||◌, ◌==◌, if◌then◌else◌}
use Rattle.std.specs.Prelude.{Option, None, Some, List, [], ◌∷◌, ◌++◌, drop}
use Rattle.std.specs.Int.{w64}
use Rattle.std.proofs.Common.{inl, inr, refl, sym, ◌∙◌, ap, subst, arith}
use Rattle.std.proofs.lemmas.Bool.Decides.{nat_tests}
use Rattle.exact_readers.specs.Numbers.{number, number_bytes}
use Rattle.exact_readers.specs.NumberLaws.{told_64, number-exact}
use Rattle.skk_disk.specs.Image.{Image, part, other}
use Rattle.skk_disk.specs.declared.which.Which.{Which}
use Rattle.skk_disk.specs.declared.which.Which.TheVariants.{A, B}
use Rattle.skk_journal.specs.declared.live.Live.{Live}
use Rattle.skk_journal.specs.declared.live.Idle.{Idle}
use Rattle.skk_journal.specs.declared.live.Idle.TheVariants.{Blank, Loose, Stray}
use Rattle.skk_journal.specs.declared.head.Head.{Head}
use Rattle.skk_journal.specs.declared.head.Head.TheVariants.{Fresh, Foreign, CutShort, Headed}
use Rattle.skk_journal.specs.declared.choice.LiveChoice.TheVariants.{NoLive, LiveIn}
use Rattle.skk_journal.specs.Records.{mark, generation_place, IsVersion, Marked}
use Rattle.skk_journal.specs.Generations.{first_counts, file_counts}
use Rattle.skk_journal.specs.Heads.{version_byte, is_marked, is_fresh, is_foreign, first_byte, headed_by, head_of}
use Rattle.skk_journal.specs.HeadLaws.{mark_read}
use Rattle.skk_journal.specs.Choice.{lives, choice_of, choice}
use Rattle.skk_journal.specs.Idle.{IsKnown, IsFreshAs, idle_of}

-- the head of a file of two bytes or more, by its first byte, its mark, and what its generation makes of it
abbrev pub judged : ℕ → Bool → Head → Head
judged first marked head =
    if first == 0 || (not (first == 1) && marked) then Fresh
    else if not (first == 0) && not marked then Foreign first
    else head

-- what the tests of the first bytes of a headed file have told
record Tested (first : ℕ) (marked : Bool) (byte : ℕ) (read : Option (ℕ × List ℕ))
    (version generation : ℕ) : Type 0 where
  one : first ≡ 1
  right : marked ≡ true
  same : byte ≡ version
  rest : List ℕ
  told : read ≡ Some (generation, rest)

headed_read : (byte : ℕ) (read : Option (ℕ × List ℕ)) (version generation : ℕ)
    → headed_by byte read ≡ Headed version generation
    → (rest : List ℕ) × (byte ≡ version) × (read ≡ Some (generation, rest))
headed_read byte None version generation is = cc
headed_read byte (Some (n, rest)) version generation is = (rest, cc, cc)

tested : (first : ℕ) (marked : Bool) (byte : ℕ) (read : Option (ℕ × List ℕ)) (version generation : ℕ)
    → judged first marked (headed_by byte read) ≡ Headed version generation
    → Tested first marked byte read version generation
tested first true byte read version generation is =
    let one : first ≡ 1 = grind (arith, nat_tests) in
    let same : headed_by byte read ≡ Headed version generation = grind (arith, nat_tests, one) in
    let told = headed_read byte read version generation same in
    record { one = one; right = refl; same = told.1; rest = told.0; told = told.2 }
tested first false byte read version generation is = absurd (grind (arith, nat_tests))

-- a headed file has an open gate, a right mark and its generation
pub headed_marked : (newest : ℕ) (file : List ℕ) (version generation : ℕ)
    → head_of newest file ≡ Headed version generation → Marked newest 1 version generation file
headed_marked newest [] version generation is = cc
headed_marked newest (first ∷ []) version generation is = cc
headed_marked newest (first ∷ second ∷ rest) version generation is =
    let tail = second ∷ rest in
    let tests = tested first (is_marked newest tail) (version_byte tail) ((number w64).step (drop 8 tail)) version
    generation is in
    let marked = mark_read newest tail tests.right in
    let read = (number-exact w64 told_64).sound (drop 8 tail) generation tests.rest tests.told in
    let behind : drop 8 tail ≡ number_bytes w64 generation ++ tests.rest =
    read.tokens_are ∙ ap (λ (l : List ℕ). l ++ tests.rest) read.spelled.1 in
    record {
      rest = tests.rest;
      is =
          ap (λ (n : ℕ). n ∷ tail) tests.one
          ∙ ap (λ (l : List ℕ). 1 ∷ l) (marked.is ∙ ap (λ (n : ℕ). mark n ++ drop 8 tail) tests.same
          ∙ ap (λ (l : List ℕ). mark version ++ l) behind);
      right = subst (IsVersion newest) tests.same marked.right;
      told = omega (arith, read.spelled.0);
    }

judged_fresh : (fresh foreign : Bool) (first byte : ℕ) (read : Option (ℕ × List ℕ))
    → (if fresh then Fresh else if foreign then Foreign first else headed_by byte read) ≡ Fresh → fresh ≡ true
judged_fresh true foreign first byte read is = refl
judged_fresh false true first byte read is = cc
judged_fresh false false first byte None is = cc
judged_fresh false false first byte (Some read) is = cc

fresh_is : (newest : ℕ) (file : List ℕ) → head_of newest file ≡ Fresh → is_fresh newest file ≡ true
fresh_is newest file is =
    judged_fresh (is_fresh newest file) (is_foreign newest file) (first_byte file) (version_byte (drop 1 file))
    ((number w64).step (drop generation_place file)) is

-- where both files are fresh none is live
fresh_both : (a b : Head) → choice_of a b ≡ NoLive → (a ≡ Fresh) × (b ≡ Fresh)
fresh_both (Foreign first) b is = cc
fresh_both CutShort (Foreign first) is = cc
fresh_both CutShort CutShort is = cc
fresh_both CutShort Fresh is = cc
fresh_both CutShort (Headed version own) is = cc
fresh_both Fresh (Foreign first) is = cc
fresh_both Fresh CutShort is = cc
fresh_both Fresh Fresh is = (refl, refl)
fresh_both Fresh (Headed version own) is = cc
fresh_both (Headed version own) (Foreign first) is = cc
fresh_both (Headed version own) CutShort is = cc
fresh_both (Headed version own) Fresh is = cc
fresh_both (Headed version one) (Headed other two) is = by (first_counts one two) is
  where
    by : (b : Bool) → (if b then lives A version one else lives B other two) ≡ NoLive
        → (Headed version one ≡ Fresh) × (Headed other two ≡ Fresh)
    by true is = cc
    by false is = cc

-- where no file is live both are fresh
pub none_fresh : (newest : ℕ) (image : Image) → choice newest image ≡ NoLive
    → (is_fresh newest image.a ≡ true) × (is_fresh newest image.b ≡ true)
none_fresh newest image is =
    let both = fresh_both (head_of newest image.a) (head_of newest image.b) is in
    (fresh_is newest image.a both.0, fresh_is newest image.b both.1)

-- the heads by which a file is live: it is headed, and the other one is fresh, or headed and does not count
pub record Lives (file : Which) (live : Live) (own others : Head) : Type 0 where
  pub at : live.file ≡ file
  pub own_is : own ≡ Headed live.version live.generation
  pub others_is :
      (others ≡ Fresh)
      ⊎ ((version : ℕ) × (older : ℕ) × (others ≡ Headed version older)
      × (file_counts file live.generation older ≡ true))

-- a headed file is live
lives_is : (file : Which) (version generation : ℕ) (live : Live) → lives file version generation ≡ LiveIn live
    → (file ≡ live.file) × (version ≡ live.version) × (generation ≡ live.generation)
lives_is file version generation live is = (cc, cc, cc)

live_first : (a b : Head) (live : Live) → live.file ≡ A → choice_of a b ≡ LiveIn live → Lives A live a b
live_first (Foreign first) b live at is = cc
live_first CutShort (Foreign first) live at is = cc
live_first CutShort CutShort live at is = cc
live_first CutShort Fresh live at is = cc
live_first CutShort (Headed version own) live at is = cc
live_first Fresh (Foreign first) live at is = cc
live_first Fresh CutShort live at is = cc
live_first Fresh Fresh live at is = cc
live_first Fresh (Headed version own) live at is =
    let same : B ≡ A = (lives_is B version own live is).0 ∙ at in cc
live_first (Headed version own) (Foreign first) live at is = cc
live_first (Headed version own) CutShort live at is = cc
live_first (Headed version own) Fresh live at is =
    let same = lives_is A version own live is in
    record { at = at; own_is = λ i. Headed (same.1 i) (same.2 i); others_is = inl refl }
live_first (Headed version one) (Headed other two) live at is = by (first_counts one two) refl is
  where
    by : (b : Bool) → first_counts one two ≡ b → (if b then lives A version one else lives B other two) ≡ LiveIn live
        → Lives A live (Headed version one) (Headed other two)
    by true wins is =
        let same = lives_is A version one live is in
        record {
          at = at;
          own_is = λ i. Headed (same.1 i) (same.2 i);
          others_is = inr (other, two, refl, subst (λ (n : ℕ). first_counts n two ≡ true) same.2 wins);
        }
    by false wins is = let same : B ≡ A = (lives_is B other two live is).0 ∙ at in cc

live_second : (a b : Head) (live : Live) → live.file ≡ B → choice_of a b ≡ LiveIn live → Lives B live b a
live_second (Foreign first) b live at is = cc
live_second CutShort (Foreign first) live at is = cc
live_second CutShort CutShort live at is = cc
live_second CutShort Fresh live at is = cc
live_second CutShort (Headed version own) live at is = cc
live_second Fresh (Foreign first) live at is = cc
live_second Fresh CutShort live at is = cc
live_second Fresh Fresh live at is = cc
live_second Fresh (Headed version own) live at is =
    let same = lives_is B version own live is in
    record { at = at; own_is = λ i. Headed (same.1 i) (same.2 i); others_is = inl refl }
live_second (Headed version own) (Foreign first) live at is = cc
live_second (Headed version own) CutShort live at is = cc
live_second (Headed version own) Fresh live at is =
    let same : A ≡ B = (lives_is A version own live is).0 ∙ at in cc
live_second (Headed version one) (Headed other two) live at is = by (first_counts one two) refl is
  where
    by : (b : Bool) → first_counts one two ≡ b → (if b then lives A version one else lives B other two) ≡ LiveIn live
        → Lives B live (Headed other two) (Headed version one)
    by true wins is = let same : A ≡ B = (lives_is A version one live is).0 ∙ at in cc
    by false loses is =
        let same = lives_is B other two live is in
        record {
          at = at;
          own_is = λ i. Headed (same.1 i) (same.2 i);
          others_is =
              inr (version, one, refl, subst (λ (n : ℕ). not (first_counts one n) ≡ true) same.2 (ap not loses));
        }

one_known : (newest : ℕ) (shut : Bool) (first : ℕ) → (first == 0) ≡ shut
    → IsFreshAs newest (if shut then Blank else Loose) (first ∷ [])
one_known newest true first is = ([], ap (λ (n : ℕ). n ∷ []) (grind (arith, nat_tests)))
one_known newest false first is = omega arith

two_known : (newest : ℕ) (shut opened : Bool) (first : ℕ) (tail : List ℕ) → (first == 0) ≡ shut
    → (first == 1) ≡ opened → (shut || (not opened && is_marked newest tail)) ≡ true
    → IsFreshAs newest (if shut then Blank else if opened then Loose else Stray) (first ∷ tail)
two_known newest true opened first tail is also fresh = (tail, ap (λ (n : ℕ). n ∷ tail) (grind (arith, nat_tests)))
two_known newest false true first tail is also fresh = cc
two_known newest false false first tail is also fresh =
    let marked = mark_read newest tail fresh in (
      first,
      version_byte tail,
      drop 8 tail,
      ap (λ (l : List ℕ). first ∷ l) marked.is,
      marked.right,
      λ same. grind (arith, nat_tests),
      λ same. grind (arith, nat_tests),
    )

-- a fresh file is known by its first two bytes
pub fresh_known_as : (newest : ℕ) (file : List ℕ) → is_fresh newest file ≡ true
    → IsFreshAs newest (idle_of file) file
fresh_known_as newest [] fresh = omega arith
fresh_known_as newest (first ∷ []) fresh = one_known newest (first == 0) first refl
fresh_known_as newest (first ∷ second ∷ rest) fresh =
    two_known newest (first == 0) (first == 1) first (second ∷ rest) refl refl fresh

-- what is known of a fresh file holds of it beside any live one, and beside none
pub fresh_known : (newest : ℕ) (beside : Option Live) (idle : Idle) (file : List ℕ) → IsFreshAs newest idle file
    → IsKnown newest beside idle file
fresh_known newest beside Blank file is = is
fresh_known newest beside Loose file is = inl is
fresh_known newest beside Stray file is = is

module _ (newest : ℕ) (image : Image) (live : Live) (is : choice newest image ≡ LiveIn live) where
  -- the heads by which the live file is live
  pub live_heads : Lives live.file live (head_of newest (part live.file image))
      (head_of newest (part (other live.file) image))
  live_heads = by live.file refl
    where
      by : (file : Which) → live.file ≡ file
          → Lives file live (head_of newest (part file image)) (head_of newest (part (other file) image))
      by A at = live_first (head_of newest image.a) (head_of newest image.b) live at is
      by B at = live_second (head_of newest image.a) (head_of newest image.b) live at is

  -- the live file has its version and its generation
  pub live_marked : Marked newest 1 live.version live.generation (part live.file image)
  live_marked = headed_marked newest (part live.file image) live.version live.generation live_heads.own_is

  -- the file beside the live one is idle, as its first two bytes tell
  pub idle_is_known : IsKnown newest (Some live) (idle_of (part (other live.file) image)) (part (other live.file) image)
  idle_is_known =
      let file = part (other live.file) image in
      elim live_heads.others_is [
        | inl fresh ↦
            fresh_known newest (Some live) (idle_of file) file
            (fresh_known_as newest file (fresh_is newest file fresh))
        | inr (version, older, headed, wins) ↦
            let marked = headed_marked newest file version older headed in
            subst (λ (l : List ℕ). IsKnown newest (Some live) (idle_of l) l) (sym marked.is) (inr (
              1,
              version,
              number_bytes w64 older ++ marked.rest,
              refl,
              marked.right,
              (
                version,
                older,
                record { rest = marked.rest; is = refl; right = marked.right; told = marked.told },
                wins,
              ),
            ))
      ]
