-- Records leave one state at most, and an image is opened in one way at most.
use Rattle.std.proofs.Common.{◌≡◌, ℕ, List, [], ◌∷◌, ◌++◌, inl, inr, refl, sym, ◌∙◌, ap, subst}
use Rattle.skk_disk.specs.declared.which.Which.{Which}
use Rattle.skk_disk.specs.Image.{Image}
use Rattle.skk_calls.specs.States.{State, empty_state}
use Rattle.skk_journal.specs.declared.choice.LiveChoice.TheVariants.{LiveIn}
use Rattle.skk_journal.specs.declared.live.Live.{Live}
use Rattle.skk_journal.specs.Choice.{choice}
use Rattle.skk_journal.specs.Contents.{Contents}
use Rattle.skk_journal.specs.Opening.{with_contents, not_journal, bad_record, IsOpened}
use Rattle.skk_journal.specs.OpeningLaws.{one_opening}
use Rattle.skk_journal.specs.Records.{place_behind}
use Rattle.learned_store.specs.declared.form.PayloadForm.{PayloadForm}
use Rattle.learned_store.specs.Payloads.{Says, SaysNothing, newest_version, state_told}
use Rattle.learned_store.specs.Recovered.{Leads, Leave, BreakAt, Recovery, with_state, foreign, refused, IsRecovered}
use Rattle.learned_store.proofs.ReadForms.{one_form}
use Rattle.learned_store.proofs.ReadRows.{LinesAreRead}

parts : (a b : List ℕ) (l m : List (List ℕ)) → a ∷ l ≡ b ∷ m → (a ≡ b) × (l ≡ m)
parts a b l m same = (cc, cc)

module _ (read : LinesAreRead) where
  -- records lead from a state to one state at most
  pub leads_once : (version : ℕ) (start : State) (records : List (List ℕ)) (one two : State)
      → Leads version start records one → Leads version start records two → one ≡ two
  leads_once version start [] one two is also = is ∙ sym also
  leads_once version start (payload ∷ records) one two is also =
      leads_once version (state_told start is.0) records one two is.2
      (subst (λ (form : PayloadForm). Leads version (state_told start form) records two)
      (one_form read version version start start payload also.0 is.0 also.1 is.1) also.2)

  -- the records before the first one that says nothing are the same ones
  before_once : (version : ℕ) (start : State) (before others : List (List ℕ)) (payload other : List ℕ)
      (behind rest : List (List ℕ)) (state later : State)
      → before ++ payload ∷ behind ≡ others ++ other ∷ rest → Leads version start before state
      → SaysNothing version state payload
      → Leads version start others later → SaysNothing version later other → before ≡ others
  before_once version start [] [] payload other behind rest state later same is none also nothing = refl
  before_once version start [] (first ∷ others) payload other behind rest state later same is none also nothing =
      let heads = parts payload first behind (others ++ other ∷ rest) same in
      absurd (none also.0 (subst (λ (s : State). Says version s payload also.0) (sym is)
      (subst (λ (p : List ℕ). Says version start p also.0) (sym heads.0) also.1)))
  before_once version start (first ∷ before) [] payload other behind rest state later same is none also nothing =
      let heads = parts first other (before ++ payload ∷ behind) rest same in
      absurd (nothing is.0 (subst (λ (s : State). Says version s other is.0) (sym also)
      (subst (λ (p : List ℕ). Says version start p is.0) heads.0 is.1)))
  before_once version start (first ∷ before) (second ∷ others) payload other behind rest state later same is none also
      nothing =
      let heads = parts first second (before ++ payload ∷ behind) (others ++ other ∷ rest) same in
      let forms : also.0 ≡ is.0 =
      one_form read version version start start second also.0 is.0 also.1
      (subst (λ (p : List ℕ). Says version start p is.0) heads.0 is.1) in
      let goes_on : Leads version (state_told start is.0) others later =
      subst (λ (form : PayloadForm). Leads version (state_told start form) others later) forms also.2 in
      let tails =
      before_once version (state_told start is.0) before others payload other behind rest state later heads.1 is.2 none
      goes_on nothing in
      ap (λ (p : List ℕ). p ∷ before) heads.0 ∙ ap (λ (l : List (List ℕ)). second ∷ l) tails

  -- records that all say something have no first one that says nothing
  no_break : (version : ℕ) (start : State) (records before : List (List ℕ)) (payload : List ℕ) (behind : List (List ℕ))
      (state after : State) → records ≡ before ++ payload ∷ behind → Leads version start records after
      → Leads version start before state → SaysNothing version state payload → ⊥
  no_break version start [] [] payload behind state after same whole is none = absurd (cc)
  no_break version start [] (first ∷ before) payload behind state after same whole is none = absurd (cc)
  no_break version start (record_there ∷ records) [] payload behind state after same whole is none =
      let heads = parts record_there payload records behind same in
      none whole.0 (subst (λ (s : State). Says version s payload whole.0) (sym is)
      (subst (λ (p : List ℕ). Says version start p whole.0) heads.0 whole.1))
  no_break version start (record_there ∷ records) (first ∷ before) payload behind state after same whole is none =
      let heads = parts record_there first records (before ++ payload ∷ behind) same in
      let forms : whole.0 ≡ is.0 =
      one_form read version version start start first whole.0 is.0
      (subst (λ (p : List ℕ). Says version start p whole.0) heads.0 whole.1) is.1 in
      let goes_on : Leads version (state_told start is.0) records after =
      subst (λ (form : PayloadForm). Leads version (state_told start form) records after) forms whole.2 in
      no_break version (state_told start is.0) records before payload behind state after heads.1 goes_on is.2 none

  break_once : (contents : Contents) (at other : ℕ) → BreakAt contents at → BreakAt contents other → at ≡ other
  break_once contents at other one two =
      let same =
      before_once contents.version empty_state one.before two.before one.payload two.payload one.behind two.behind
      one.state two.state
      (sym one.is ∙ two.is) one.left one.none two.left two.none in
      one.place ∙ ap place_behind same ∙ sym two.place

  pub whole_or_break : (contents : Contents) (at : ℕ) (state : State) → Leave contents state → BreakAt contents at → ⊥
  whole_or_break contents at state whole one =
      no_break contents.version empty_state contents.records one.before one.payload one.behind one.state state one.is
      whole one.left one.none

-- what both files of an image come to
module _ (image : Image) where
  one_list : (one two : Contents) → IsOpened newest_version image (with_contents one)
      → IsOpened newest_version image (with_contents two)
      → one ≡ two
  one_list one two is also =
      let same : with_contents one ≡ with_contents two =
      one_opening newest_version image (with_contents one) (with_contents two) is also in cc

  one_bad : (file other : Which) (at place : ℕ) (one two : Contents)
      → IsOpened newest_version image (bad_record file at one)
      → IsOpened newest_version image (bad_record other place two) → (file ≡ other) × (at ≡ place) × (one ≡ two)
  one_bad file other at place one two is also =
      let same : bad_record file at one ≡ bad_record other place two =
      one_opening newest_version image (bad_record file at one) (bad_record other place two) is also in (cc, cc, cc)

  one_first : (file other : Which) (one two : ℕ) → IsOpened newest_version image (not_journal file one)
      → IsOpened newest_version image (not_journal other two) → foreign file one ≡ foreign other two
  one_first file other one two is also =
      let same : not_journal file one ≡ not_journal other two =
      one_opening newest_version image (not_journal file one) (not_journal other two) is also in cc

  whole_or_bad : (records others : Contents) (file : Which) (at : ℕ)
      → IsOpened newest_version image (with_contents records)
      → IsOpened newest_version image (bad_record file at others) → ⊥
  whole_or_bad records others file at is also =
      let same : with_contents records ≡ bad_record file at others =
      one_opening newest_version image (with_contents records) (bad_record file at others) is also in absurd (cc)

  whole_or_foreign : (records : Contents) (file : Which) (first : ℕ)
      → IsOpened newest_version image (with_contents records)
      → IsOpened newest_version image (not_journal file first) → ⊥
  whole_or_foreign records file first is also =
      let same : with_contents records ≡ not_journal file first =
      one_opening newest_version image (with_contents records) (not_journal file first) is also in absurd (cc)

  foreign_or_bad : (file other : Which) (first at : ℕ) (others : Contents)
      → IsOpened newest_version image (not_journal file first)
      → IsOpened newest_version image (bad_record other at others) → ⊥
  foreign_or_bad file other first at others is also =
      let same : not_journal file first ≡ bad_record other at others =
      one_opening newest_version image (not_journal file first) (bad_record other at others) is also in absurd (cc)

  one_live : (one two : Live) → choice newest_version image ≡ LiveIn one → choice newest_version image ≡ LiveIn two
      → one ≡ two
  one_live one two is also =
      let same : LiveIn one ≡ LiveIn two = sym is ∙ also in cc

module _ (read : LinesAreRead) (image : Image) where
  one_refusal : (file other : Which) (at place : ℕ) → file ≡ other → at ≡ place
      → refused file at ≡ refused other place
  one_refusal file other at place same also = cc

  refused_once : (file other : Which) (at place : ℕ) → IsRecovered image (refused file at)
      → IsRecovered image (refused other place) → refused file at ≡ refused other place
  refused_once file other at place (inl one) (inl two) =
      let same = one_list image one.contents two.contents one.opened two.opened in
      one_refusal file other at place
      (one.of_live ∙ ap (λ (l : Live). l.file) (one_live image one.live two.live one.chosen two.chosen)
      ∙ sym two.of_live)
      (break_once read two.contents at place (subst (λ (l : Contents). BreakAt l at) same one.breaks) two.breaks)
  refused_once file other at place (inl one) (inr (inl two)) =
      absurd (whole_or_bad image one.contents two.0 other two.1 one.opened two.2)
  refused_once file other at place (inl one) (inr (inr two)) =
      absurd (whole_or_bad image one.contents two.0 other place one.opened two.2)
  refused_once file other at place (inr (inl one)) (inl two) =
      absurd (whole_or_bad image two.contents one.0 file one.1 two.opened one.2)
  refused_once file other at place (inr (inl one)) (inr (inl two)) =
      let same = one_bad image file other one.1 two.1 one.0 two.0 one.2 two.2 in
      one_refusal file other at place same.0
      (break_once read two.0 at place (subst (λ (l : Contents). BreakAt l at) same.2 one.3) two.3)
  refused_once file other at place (inr (inl one)) (inr (inr two)) =
      let same = one_bad image file other one.1 place one.0 two.0 one.2 two.2 in
      absurd (whole_or_break read two.0 at two.1 two.3 (subst (λ (l : Contents). BreakAt l at) same.2 one.3))
  refused_once file other at place (inr (inr one)) (inl two) =
      absurd (whole_or_bad image two.contents one.0 file at two.opened one.2)
  refused_once file other at place (inr (inr one)) (inr (inl two)) =
      let same = one_bad image file other at two.1 one.0 two.0 one.2 two.2 in
      absurd (whole_or_break read two.0 place one.1 (subst (λ (l : Contents). Leave l one.1) same.2 one.3) two.3)
  refused_once file other at place (inr (inr one)) (inr (inr two)) =
      let same = one_bad image file other at place one.0 two.0 one.2 two.2 in
      one_refusal file other at place same.0 same.1

  whole_or_refused : (state : State) (file : Which) (at : ℕ) → IsRecovered image (with_state state)
      → IsRecovered image (refused file at) → ⊥
  whole_or_refused state file at whole (inl one) =
      let same = one_list image one.contents whole.0 one.opened whole.1 in
      whole_or_break read whole.0 at state whole.2 (subst (λ (l : Contents). BreakAt l at) same one.breaks)
  whole_or_refused state file at whole (inr (inl one)) = whole_or_bad image whole.0 one.0 file one.1 whole.1 one.2
  whole_or_refused state file at whole (inr (inr one)) = whole_or_bad image whole.0 one.0 file at whole.1 one.2

  foreign_or_refused : (file other : Which) (first at : ℕ) → IsRecovered image (foreign file first)
      → IsRecovered image (refused other at) → ⊥
  foreign_or_refused file other first at is (inl one) =
      whole_or_foreign image one.contents file first one.opened is
  foreign_or_refused file other first at is (inr (inl one)) =
      foreign_or_bad image file other first one.1 one.0 is one.2
  foreign_or_refused file other first at is (inr (inr one)) =
      foreign_or_bad image file other first at one.0 is one.2

  -- an image is opened in one way at most
  pub recovered_once : (one two : Recovery) → IsRecovered image one → IsRecovered image two → one ≡ two
  recovered_once (with_state one) (with_state two) is also =
      let same = one_list image is.0 also.0 is.1 also.1 in
      ap with_state (leads_once read also.0.version empty_state also.0.records one two
      (subst (λ (l : Contents). Leave l one) same is.2) also.2)
  recovered_once (with_state one) (foreign file two) is also =
      absurd (whole_or_foreign image is.0 file two is.1 also)
  recovered_once (with_state one) (refused file two) is also = absurd (whole_or_refused one file two is also)
  recovered_once (foreign file one) (with_state two) is also =
      absurd (whole_or_foreign image also.0 file one also.1 is)
  recovered_once (foreign file one) (foreign other two) is also = one_first image file other one two is also
  recovered_once (foreign file one) (refused other two) is also =
      absurd (foreign_or_refused file other one two is also)
  recovered_once (refused file one) (with_state two) is also = absurd (whole_or_refused two file one also is)
  recovered_once (refused file one) (foreign other two) is also =
      absurd (foreign_or_refused other file two one also is)
  recovered_once (refused file one) (refused other two) is also = refused_once file other one two is also
