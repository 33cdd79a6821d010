-- One group that a batch committed, as pieces behind which a store stands.
use Rattle.std.proofs.Common.{◌≡◌, ◌⊎◌, inl, inr, refl, sym, ◌∙◌, ap, subst, arith, append_assoc}
use Rattle.std.proofs.Common.{ℕ, ◌+◌, ◌<◌, ◌≤◌, ◌||◌, Bool, true, false, if◌then◌else◌, Option, None}
use Rattle.std.proofs.Common.{Result, Ok, Err, List, [], ◌∷◌, ◌++◌, All, Contains, length, map}
use Rattle.std.specs.List.{filter, list_all}
use Rattle.std.proofs.lemmas.Bool.{and_from, and_parts, cases_lt}
use Rattle.std.proofs.lemmas.List.{append-nil, length-append}
use Rattle.std.proofs.lemmas.List.Folds.{list_all-append}
use Rattle.std.proofs.lemmas.List.Elements.{All-append, All-cons, All-head, All-nil, All-tail}
use Rattle.std.proofs.lemmas.List.Elements.{Contains-append_cases, Contains-push_cases}
use Rattle.skk_calls.specs.declared.answer.Answer.{Answer}
use Rattle.skk_calls.specs.declared.answer.Answer.TheVariants.{Refused}
use Rattle.skk_calls.specs.declared.answer.Refusal.TheVariants as refusals
use Rattle.skk_calls.specs.declared.answer.Reply.{Reply}
use Rattle.skk_calls.specs.declared.call.Call.{Call}
use Rattle.skk_calls.specs.declared.chronicle.Noted.{Noted}
use Rattle.skk_calls.specs.declared.chronicle.Noted.TheVariants.{Entered}
use Rattle.skk_calls.specs.declared.entry.Entry.{Entry}
use Rattle.skk_calls.specs.Chronicles.{history_of}
use Rattle.skk_calls.specs.Dictionary.{after, moves}
use Rattle.skk_calls.specs.Histories.{after_calls, after_entry, in_doubt, in_doubt_after, state_after}
use Rattle.skk_calls.specs.Openings.{is_reply}
use Rattle.skk_calls.specs.Rows.{Row}
use Rattle.skk_calls.specs.States.{State, count_of}
use Rattle.skk_calls.specs.Tallies.{has_answer, lacks_disk}
use Rattle.skk_disk.specs.declared.disk.Disk.{Ghosts}
use Rattle.skk_disk.specs.Image.{Image}
use Rattle.skk_disk.specs.Moments.{Earlier, Passes}
use Rattle.skk_disk.specs.RunLaws.{advances_on}
use Rattle.skk_journal.specs.Images.{Each, Opens}
use Rattle.skk_journal.specs.Journal.{OpenJournal}
use Rattle.skk_journal.specs.JournalLaws.{rests_open}
use Rattle.learn_index.specs.Groups.{IsGroup, book_of_group, learns_in}
use Rattle.learned_store.specs.DoubtLaws.{first_is, second_is}
use Rattle.learned_store.specs.Stands.{NotedStore, time_of}
use Rattle.learned_store.specs.Stores.{Keeps, Recovers, RecoversOneOf}
use Rattle.batch_store.specs.declared.group_fault.GroupFault.{GroupFault}
use Rattle.batch_store.specs.declared.group_fault.GroupFault.TheVariants.{Memory, Full, Disk}
use Rattle.batch_store.specs.Batches.{Commits, some_moves}
use Rattle.batch_store.specs.Entries.{all_served, answers_of, entered, failed, served}
use Rattle.batch_store.specs.Pieces.{AreCommittedIn, CommitsGroups, EndSo, HasStampsFor, RecoversByPieces}
use Rattle.batch_store.specs.Pieces.{StandsByPieces, Stood, calls_in, left_by_pieces, notes_of}
use Rattle.batch_store.proofs.GroupLaws.{entered_calls, failed_doubt, failed_length, failed_state, group_moving}
use Rattle.batch_store.proofs.GroupLaws.{group_stamps, learning, served_doubt, served_length, served_state}
use Rattle.batch_store.proofs.GroupTold.{after_still}
use Rattle.batch_store.proofs.PieceLaws.{all_of, commits-still, history-on, notes-on}

-- States that an image is opened as

-- what a list of one has
only : {X : Type 0} (x one : X) → Contains (x ∷ []) one → x ≡ one
only x one here = elim (Contains-push_cases [] x one here) [
  | inl none ↦ absurd (omega (arith, none.1))
  | inr same ↦ same
]

-- one of a single state is that
one-state : (state : State) (image : Image) → RecoversOneOf (state ∷ []) image → Recovers state image
one-state state image is = subst (λ (s : State). Recovers s image) (sym (only state is.0 is.1)) is.2

-- one of two is the first or the second
two-states : (first second : State) (image : Image) → RecoversOneOf (first ∷ second ∷ []) image
    → Recovers first image ⊎ Recovers second image
two-states first second image is = elim (Contains-append_cases (first ∷ []) (second ∷ []) is.0 is.1) [
  | inl here ↦ inl (subst (λ (s : State). Recovers s image) (sym (only first is.0 here)) is.2)
  | inr here ↦ inr (subst (λ (s : State). Recovers s image) (sym (only second is.0 here)) is.2)
]

-- where the second counts only by a test
first-or-second : (test : Bool) (first second : State) (image : Image)
    → RecoversOneOf (if test then first ∷ second ∷ [] else first ∷ []) image
    → Recovers first image ⊎ Recovers second image
first-or-second true first second image is = two-states first second image is
first-or-second false first second image is = inl (one-state first image is)

-- each image of now is opened as the state that is kept
opened_now : {D : Type 0} (disk : Ghosts D) (journal : OpenJournal D) (state : State)
    → Keeps disk journal state None → Each (disk.left_since journal.disk (disk.time journal.disk)) (Recovers state)
opened_now disk journal state (newest, contents, leave, rests) image left = (
  contents,
  subst (λ (n : ℕ). Opens n contents image) newest (rests_open disk journal contents rests image left),
  leave,
)

-- What holds of each

all-weaker : {X : Type 0} (P Q : X → Type 0) → ((x : X) → P x → Q x) → (xs : List X) → All P xs → All Q xs
all-weaker P Q weaker [] all = All-nil Q
all-weaker P Q weaker (x ∷ xs) all =
    All-cons Q x xs (weaker x (All-head P x xs all)) (all-weaker P Q weaker xs (All-tail P x xs all))

-- what holds of each note of a time and a count of faults holds of all that are entered then
entered-all : (P : Noted → Type 0) (time faults : ℕ)
    → ((call : Call) (answer : Answer) → P (Entered 0 call answer time faults))
    → (calls : List Call) (answers : List Answer) → All P (entered time faults calls answers)
entered-all P time faults each [] [] = All-nil P
entered-all P time faults each [] (answer ∷ answers) = All-nil P
entered-all P time faults each (call ∷ calls) [] = All-nil P
entered-all P time faults each (call ∷ calls) (answer ∷ answers) =
    All-cons P (Entered 0 call answer time faults) (entered time faults calls answers) (each call answer)
    (entered-all P time faults each calls answers)

-- without answers nothing is entered
entered-none : (time faults : ℕ) (calls : List Call) → entered time faults calls [] ≡ []
entered-none time faults [] = refl
entered-none time faults (call ∷ calls) = refl

-- the calls that are served are answered by replies
served-replies : (time faults : ℕ) (files : List (List Row)) (state : State) (calls : List Call)
    → list_all (λ entry. is_reply entry.answer)
    (history_of (entered time faults calls (all_served files state calls))) ≡ true
served-replies time faults files state [] = refl
served-replies time faults files state (call ∷ calls) = served-replies time faults files (after state call) calls

-- where some calls change something, one of them is refused where the disk fails them
failed-answers : (time faults : ℕ) (files : List (List Row)) (state : State) (calls : List Call)
    → some_moves state calls ≡ true
    → has_answer lacks_disk (history_of (entered time faults calls (map (failed files state) calls))) ≡ true
failed-answers time faults files state [] some = absurd (cc)
failed-answers time faults files state (call ∷ calls) some =
    by (moves state call) refl (failed-answers time faults files state calls)
  where
    by : (b : Bool) → moves state call ≡ b
        → (some_moves state calls ≡ true
        → has_answer lacks_disk (history_of (entered time faults calls (map (failed files state) calls))) ≡ true)
        → (lacks_disk (if b then Refused refusals.Disk else served files state call)
        || has_answer lacks_disk (history_of (entered time faults calls (map (failed files state) calls)))) ≡ true
    by true e behind = refl
    by false e behind =
        let rest : some_moves (after state call) calls ≡ true =
        ap (λ b. b || some_moves (after state call) calls) (sym e) ∙ some in
        behind (subst (λ (s : State). some_moves s calls ≡ true) (after_still state call e) rest)

-- Histories with one list of notes more

state-on : (state : State) (front back : List Entry)
    → state_after state (front ++ back) ≡ state_after (state_after state front) back
state-on state [] back = refl
state-on state (entry ∷ front) back = state-on (after_entry state entry) front back

doubt-on : (calls : List Call) (front back : List Entry)
    → in_doubt calls (front ++ back) ≡ in_doubt (in_doubt calls front) back
doubt-on calls [] back = refl
doubt-on calls (entry ∷ front) back = doubt-on (in_doubt_after calls entry.call entry.answer) front back

module _ (lists : List (List Noted)) (list : List Noted) where
  history-one : history_of (notes_of (lists ++ list ∷ [])) ≡ history_of (notes_of lists) ++ history_of list
  history-one =
      ap history_of (notes-on lists (list ∷ []) ∙ ap (λ n. notes_of lists ++ n) (append-nil list))
      ∙ history-on (notes_of lists) list

  state-one : (opened now : State) → now ≡ state_after opened (history_of (notes_of lists))
      → state_after opened (history_of (notes_of (lists ++ list ∷ []))) ≡ state_after now (history_of list)
  state-one opened now is =
      ap (state_after opened) history-one
      ∙ state-on opened (history_of (notes_of lists)) (history_of list)
      ∙ ap (λ s. state_after s (history_of list)) (sym is)

  doubt-one : in_doubt [] (history_of (notes_of lists)) ≡ []
      → in_doubt [] (history_of (notes_of (lists ++ list ∷ []))) ≡ in_doubt [] (history_of list)
  doubt-one calm =
      ap (in_doubt []) history-one
      ∙ doubt-on [] (history_of (notes_of lists)) (history_of list)
      ∙ ap (λ c. in_doubt c (history_of list)) calm

-- what is opened as the state behind notes is opened as one that they leave
left-now : (opened : State) (lists : List (List Noted)) (state : State) (image : Image)
    → state ≡ state_after opened (history_of (notes_of lists)) → Recovers state image
    → RecoversOneOf (left_by_pieces opened (notes_of lists)) image
left-now opened lists state image is here = (
  state_after opened (history_of (notes_of lists)),
  first_is (state_after opened (history_of (notes_of lists)))
      (after_calls (state_after opened (history_of (notes_of lists))) (in_doubt [] (history_of (notes_of lists))) ∷ []),
  subst (λ (s : State). Recovers s image) is here,
)

-- and so is the one behind the calls in doubt
left-then : (opened : State) (lists : List (List Noted)) (state : State) (image : Image)
    → state ≡ after_calls (state_after opened (history_of (notes_of lists)))
    (in_doubt [] (history_of (notes_of lists)))
    → Recovers state image → RecoversOneOf (left_by_pieces opened (notes_of lists)) image
left-then opened lists state image is here = (
  after_calls (state_after opened (history_of (notes_of lists))) (in_doubt [] (history_of (notes_of lists))),
  second_is (state_after opened (history_of (notes_of lists)))
      (after_calls (state_after opened (history_of (notes_of lists))) (in_doubt [] (history_of (notes_of lists)))) [],
  subst (λ (s : State). Recovers s image) is here,
)

-- Moments

whole : (opened : State) (lists : List (List Noted)) (time : ℕ) (image : Image)
    → RecoversOneOf (left_by_pieces opened (notes_of lists)) image → RecoversByPieces opened lists time image
whole opened lists time image is = record {
  front = lists;
  back = [];
  is = sym (append-nil lists);
  later = All-nil (All (λ (note : Noted). time < time_of note));
  recovers = is;
}

module _ (opened : State) (old new : ℕ) (past since : ℕ → Image → Type 0) (lists : List (List Noted))
    (earlier : Earlier since) (passes : Passes old new past since) (start : ℕ)
    (stood : StandsByPieces opened lists start old past) where
  -- what stood over the disk stands where nothing was noted, and each image meanwhile is opened as one of before
  stands-still : ((image : Image) → since old image → RecoversOneOf (left_by_pieces opened (notes_of lists)) image)
      → StandsByPieces opened lists start new since
  stands-still within time image from to left = elim (cases_lt old time) [
    | inl later ↦ whole opened lists time image (within image (earlier old time image (omega arith) left))
    | inr before ↦ elim (passes.goes_on time image before left) [
      | inr here ↦ whole opened lists time image (within image here)
      | inl there ↦ stood time image from before there
    ]
  ]

  module _ (list : List Noted)
      (late : (time : ℕ) → time < new → All (λ (note : Noted). time < time_of note) list)
      (within : (image : Image) → since old image → RecoversOneOf (left_by_pieces opened (notes_of lists)) image
      ⊎ RecoversOneOf (left_by_pieces opened (notes_of (lists ++ list ∷ []))) image)
      (at_end : (image : Image) → since new image
      → RecoversOneOf (left_by_pieces opened (notes_of (lists ++ list ∷ []))) image) where
    last : (time : ℕ) → time < new → All (All (λ (note : Noted). time < time_of note)) (list ∷ [])
    last time before =
        All-cons (All (λ (note : Noted). time < time_of note)) list [] (late time before)
        (All-nil (All (λ (note : Noted). time < time_of note)))

    in_piece : (time : ℕ) (image : Image) → time < new → since old image
        → RecoversByPieces opened (lists ++ list ∷ []) time image
    in_piece time image before here = elim (within image here) [
      | inl is ↦ record { front = lists; back = list ∷ []; is = refl; later = last time before; recovers = is }
      | inr is ↦ whole opened (lists ++ list ∷ []) time image is
    ]

    one-more : (time : ℕ) (image : Image) → time < new → RecoversByPieces opened lists time image
        → RecoversByPieces opened (lists ++ list ∷ []) time image
    one-more time image before was = record {
      front = was.front;
      back = was.back ++ list ∷ [];
      is = ap (λ (l : List (List Noted)). l ++ list ∷ []) was.is ∙ append_assoc was.front was.back (list ∷ []);
      later = All-append (All (λ (note : Noted). time < time_of note)) was.back (list ∷ []) was.later
          (last time before);
      recovers = was.recovers;
    }

    -- and with the notes of one piece more
    stands-more : StandsByPieces opened (lists ++ list ∷ []) start new since
    stands-more time image from to left = elim (cases_lt time new) [
      | inr now ↦ whole opened (lists ++ list ∷ []) time image (at_end image (earlier new time image now left))
      | inl before ↦ elim (cases_lt old time) [
        | inl later ↦ in_piece time image before (earlier old time image (omega arith) left)
        | inr earlier_on ↦ elim (passes.goes_on time image earlier_on left) [
          | inr here ↦ in_piece time image before here
          | inl there ↦ one-more time image before (stood time image from earlier_on there)
        ]
      ]
    ]

-- One group

same-either : (state : Option State) (test : Bool) → (if test then state else state) ≡ state
same-either state true = refl
same-either state false = refl

module _ {D : Type 0} (disk : Ghosts D) (old new : NotedStore D)
    (earlier : Earlier (disk.left_since new.store.journal.disk)) where
  -- calls with their answers as they are noted now
  abbrev noted_now : List Call → List Answer → List Noted
  noted_now calls answers =
      entered (disk.time new.store.journal.disk) (disk.faults new.store.journal.disk) calls answers

  noted-late : (calls : List Call) (answers : List Answer) (time : ℕ) → time < disk.time new.store.journal.disk
      → All (λ (note : Noted). time < time_of note) (noted_now calls answers)
  noted-late calls answers time before =
      entered-all (λ (note : Noted). time < time_of note) (disk.time new.store.journal.disk)
      (disk.faults new.store.journal.disk) (λ call answer. before) calls answers

  -- notes that were made by then were made by now
  made-by-now : (lists : List (List Noted)) → disk.time old.store.journal.disk ≤ disk.time new.store.journal.disk
      → All (All (λ (note : Noted). time_of note ≤ disk.time old.store.journal.disk)) lists
      → All (All (λ (note : Noted). time_of note ≤ disk.time new.store.journal.disk)) lists
  made-by-now lists later made =
      all-weaker (All (λ (note : Noted). time_of note ≤ disk.time old.store.journal.disk))
      (All (λ (note : Noted). time_of note ≤ disk.time new.store.journal.disk))
      (λ list all. all-weaker (λ (note : Noted). time_of note ≤ disk.time old.store.journal.disk)
      (λ (note : Noted). time_of note ≤ disk.time new.store.journal.disk)
      (λ note by. omega (arith, by, later)) list all) lists made

  made-more : (lists : List (List Noted)) (calls : List Call) (answers : List Answer)
      → disk.time old.store.journal.disk ≤ disk.time new.store.journal.disk
      → All (All (λ (note : Noted). time_of note ≤ disk.time old.store.journal.disk)) lists
      → All (All (λ (note : Noted). time_of note ≤ disk.time new.store.journal.disk))
      (lists ++ noted_now calls answers ∷ [])
  made-more lists calls answers later made =
      All-append (All (λ (note : Noted). time_of note ≤ disk.time new.store.journal.disk)) lists
      (noted_now calls answers ∷ []) (made-by-now lists later made)
      (All-cons (All (λ (note : Noted). time_of note ≤ disk.time new.store.journal.disk)) (noted_now calls answers) []
      (entered-all (λ (note : Noted). time_of note ≤ disk.time new.store.journal.disk)
      (disk.time new.store.journal.disk) (disk.faults new.store.journal.disk) (λ call answer. omega arith) calls
      answers)
      (All-nil (All (λ (note : Noted). time_of note ≤ disk.time new.store.journal.disk))))

  -- A group that was served

  module _ (calls : List Call) (replies : List Reply) (group : IsGroup old.store.state calls)
      (commits : Commits disk old.store new.store calls (Ok replies)) where
    abbrev served_list : List Noted
    served_list = noted_now calls (all_served old.store.files old.store.state calls)

    module _ (opened : State) (start : ℕ) (before : List (List Noted))
        (stood : Stood disk opened start before old.store) where
      served-is : new.store.state ≡ state_after opened (history_of (notes_of (before ++ served_list ∷ [])))
      served-is =
          commits.state
          ∙ sym (state-one before served_list opened old.store.state stood.state
          ∙ served_state (disk.time new.store.journal.disk) (disk.faults new.store.journal.disk) old.store.files
          old.store.state calls)

      served-keeps : Keeps disk new.store.journal new.store.state None
      served-keeps =
          let later = commits.after None stood.keeps in
          subst (λ (d : Option State). Keeps disk new.store.journal new.store.state d)
          (later.1 ∙ same-either None (some_moves old.store.state calls)) later.2

      served-within : (image : Image) → disk.left_since new.store.journal.disk (disk.time old.store.journal.disk) image
          → RecoversOneOf (left_by_pieces opened (notes_of before)) image
          ⊎ RecoversOneOf (left_by_pieces opened (notes_of (before ++ served_list ∷ []))) image
      served-within image left =
          elim (first-or-second (some_moves old.store.state calls) old.store.state
          (after_calls old.store.state calls) image (commits.images None stood.keeps image left)) [
            | inl here ↦ inl (left-now opened before old.store.state image stood.state here)
            | inr here ↦ inr (left-now opened (before ++ served_list ∷ []) (after_calls old.store.state calls) image
                (sym commits.state ∙ served-is) here)
          ]

      served-moments : StandsByPieces opened (before ++ served_list ∷ []) start (disk.time new.store.journal.disk)
          (disk.left_since new.store.journal.disk)
      served-moments =
          stands-more opened (disk.time old.store.journal.disk) (disk.time new.store.journal.disk)
          (disk.left_since old.store.journal.disk) (disk.left_since new.store.journal.disk) before earlier
          commits.advances.past start stood.moments served_list
          (noted-late calls (all_served old.store.files old.store.state calls)) served-within
          (λ image left. left-now opened (before ++ served_list ∷ []) new.store.state image served-is
          (opened_now disk new.store.journal new.store.state served-keeps image left))

      served-stood : Stood disk opened start (before ++ served_list ∷ []) new.store
      served-stood = record {
        early = omega (arith, stood.early, commits.advances.past.later);
        state = served-is;
        calm = doubt-one before served_list stood.calm
            ∙ served_doubt (disk.time new.store.journal.disk) (disk.faults new.store.journal.disk) old.store.files
            old.store.state calls;
        made = made-more before calls (all_served old.store.files old.store.state calls) commits.advances.past.later
            stood.made;
        keeps = served-keeps;
        moments = served-moments;
      }

    pub group-served : new.notes ≡ old.notes ++ served_list → CommitsGroups disk old new (calls ∷ []) (Ok tt)
    group-served notes =
        let calls-are : calls_in served_list ≡ calls =
        entered_calls (disk.time new.store.journal.disk) (disk.faults new.store.journal.disk) calls
        (all_served old.store.files old.store.state calls)
        (served_length old.store.files old.store.state calls) in
        record {
          pieces = calls ∷ [];
          lists = served_list ∷ [];
          cut = ([], refl, inl refl);
          noted = ([], ap (λ c. c ∷ []) (sym calls-are));
          all = λ ok. ap (λ c. c ∷ []) (sym calls-are);
          notes = notes ∙ ap (λ n. old.notes ++ n) (sym (append-nil served_list));
          answers = subst (EndSo (Ok tt)) (ap history_of (sym (append-nil served_list)))
              (served-replies (disk.time new.store.journal.disk) (disk.faults new.store.journal.disk)
              old.store.files old.store.state calls);
          failed = λ e. absurd (cc);
          after = λ ok. commits.state ∙ ap (after_calls old.store.state) (sym (append-nil calls));
          limit = commits.limit;
          files = commits.files;
          counted = λ book. omega (
            arith,
            group_stamps old.store.state book calls group,
            ap (λ s. count_of s book) commits.state,
            ap length (append-nil calls),
          );
          stands = λ opened start before stood.
              (λ ok. served-stood opened start before stood, served-moments opened start before stood);
          advances = commits.advances;
        }

  -- A group that the disk failed

  module _ (calls : List Call) (group : IsGroup old.store.state calls)
      (commits : Commits disk old.store new.store calls (Err Disk)) where
    abbrev failed_list : List Noted
    failed_list = noted_now calls (map (failed old.store.files old.store.state) calls)

    module _ (opened : State) (start : ℕ) (before : List (List Noted))
        (stood : Stood disk opened start before old.store) where
      failed-is : state_after opened (history_of (notes_of (before ++ failed_list ∷ []))) ≡ old.store.state
      failed-is =
          state-one before failed_list opened old.store.state stood.state
          ∙ failed_state (disk.time new.store.journal.disk) (disk.faults new.store.journal.disk) old.store.files
          old.store.state calls

      failed-doubts : in_doubt [] (history_of (notes_of (before ++ failed_list ∷ [])))
          ≡ filter (moves old.store.state) calls
      failed-doubts =
          doubt-one before failed_list stood.calm
          ∙ failed_doubt (disk.time new.store.journal.disk) (disk.faults new.store.journal.disk) old.store.files
          old.store.state calls

      failed-left : (image : Image) → disk.left_since new.store.journal.disk (disk.time old.store.journal.disk) image
          → RecoversOneOf (left_by_pieces opened (notes_of (before ++ failed_list ∷ []))) image
      failed-left image left =
          elim (two-states old.store.state (after_calls old.store.state calls) image
          (commits.images None stood.keeps image left)) [
            | inl here ↦ left-now opened (before ++ failed_list ∷ []) old.store.state image (sym failed-is) here
            | inr here ↦ left-then opened (before ++ failed_list ∷ []) (after_calls old.store.state calls) image
                (sym ((λ i. after_calls (failed-is i) (failed-doubts i)) ∙ group_moving old.store.state calls group))
                here
          ]

      failed-moments : StandsByPieces opened (before ++ failed_list ∷ []) start (disk.time new.store.journal.disk)
          (disk.left_since new.store.journal.disk)
      failed-moments =
          stands-more opened (disk.time old.store.journal.disk) (disk.time new.store.journal.disk)
          (disk.left_since old.store.journal.disk) (disk.left_since new.store.journal.disk) before earlier
          commits.advances.past start stood.moments failed_list
          (noted-late calls (map (failed old.store.files old.store.state) calls))
          (λ image left. inr (failed-left image left))
          (λ image left. failed-left image (earlier (disk.time old.store.journal.disk)
          (disk.time new.store.journal.disk) image commits.advances.past.later left))

    pub group-failed : new.notes ≡ old.notes ++ failed_list → CommitsGroups disk old new (calls ∷ []) (Err Disk)
    group-failed notes =
        let calls-are : calls_in failed_list ≡ calls =
        entered_calls (disk.time new.store.journal.disk) (disk.faults new.store.journal.disk) calls
        (map (failed old.store.files old.store.state) calls)
        (failed_length old.store.files old.store.state calls) in
        record {
          pieces = calls ∷ [];
          lists = failed_list ∷ [];
          cut = ([], refl, inl refl);
          noted = ([], ap (λ c. c ∷ []) (sym calls-are));
          all = λ ok. absurd (cc);
          notes = notes ∙ ap (λ n. old.notes ++ n) (sym (append-nil failed_list));
          answers = subst (EndSo (Err Disk)) (ap history_of (sym (append-nil failed_list)))
              (failed-answers (disk.time new.store.journal.disk) (disk.faults new.store.journal.disk)
              old.store.files old.store.state calls commits.legal);
          failed = λ e. commits.failed refl;
          after = λ ok. absurd (cc);
          limit = commits.limit;
          files = commits.files;
          counted = λ book. omega (arith, ap (λ s. count_of s book) commits.state);
          stands = λ opened start before stood. (λ ok. absurd (cc), failed-moments opened start before stood);
          advances = commits.advances;
        }

  -- A call alone for which there was no room

  module _ (call : Call) (told need limit : ℕ)
      (commits : Commits disk old.store new.store (call ∷ []) (Err (Full told need limit))) where
    abbrev full_list : List Noted
    full_list = noted_now (call ∷ []) (Refused (refusals.JournalFull told need limit) ∷ [])

    module _ (opened : State) (start : ℕ) (before : List (List Noted))
        (stood : Stood disk opened start before old.store) where
      full-left : (image : Image) → disk.left_since new.store.journal.disk (disk.time old.store.journal.disk) image
          → RecoversOneOf (left_by_pieces opened (notes_of (before ++ full_list ∷ []))) image
      full-left image left =
          left-now opened (before ++ full_list ∷ []) old.store.state image
          (sym (state-one before full_list opened old.store.state stood.state))
          (one-state old.store.state image (commits.images None stood.keeps image left))

      full-moments : StandsByPieces opened (before ++ full_list ∷ []) start (disk.time new.store.journal.disk)
          (disk.left_since new.store.journal.disk)
      full-moments =
          stands-more opened (disk.time old.store.journal.disk) (disk.time new.store.journal.disk)
          (disk.left_since old.store.journal.disk) (disk.left_since new.store.journal.disk) before earlier
          commits.advances.past start stood.moments full_list
          (noted-late (call ∷ []) (Refused (refusals.JournalFull told need limit) ∷ []))
          (λ image left. inr (full-left image left))
          (λ image left. full-left image (earlier (disk.time old.store.journal.disk)
          (disk.time new.store.journal.disk) image commits.advances.past.later left))

    pub alone-full : new.notes ≡ old.notes ++ full_list
        → CommitsGroups disk old new ((call ∷ []) ∷ []) (Err (Full told need limit))
    alone-full notes = record {
      pieces = (call ∷ []) ∷ [];
      lists = full_list ∷ [];
      cut = ([], refl, inl refl);
      noted = ([], refl);
      all = λ ok. absurd (cc);
      notes = notes;
      answers = ([], call, refl, refl);
      failed = λ e. absurd (cc);
      after = λ ok. absurd (cc);
      limit = commits.limit;
      files = commits.files;
      counted = λ book. omega (arith, ap (λ s. count_of s book) commits.state);
      stands = λ opened start before stood. (λ ok. absurd (cc), full-moments opened start before stood);
      advances = commits.advances;
    }

  -- A group for which there was no memory

  -- it has no answers
  no-answers : (calls : List Call) → answers_of old.store calls (Err Memory) ≡ []
  no-answers [] = refl
  no-answers (call ∷ []) = refl
  no-answers (call ∷ other ∷ calls) = refl

  pub group-unbegun : (calls : List Call) → Commits disk old.store new.store calls (Err Memory)
      → new.notes ≡ old.notes ++ noted_now calls (answers_of old.store calls (Err Memory))
      → CommitsGroups disk old new (calls ∷ []) (Err Memory)
  group-unbegun calls commits notes =
      let none : new.notes ≡ old.notes =
      notes
      ∙ ap (λ n. old.notes ++ n) (ap (noted_now calls) (no-answers calls)
      ∙ entered-none (disk.time new.store.journal.disk) (disk.faults new.store.journal.disk) calls)
      ∙ append-nil old.notes in
      let journal = commits.memory refl in
      let same : new ≡ old = λ i. record {
        store = record {
          journal = journal i;
          state = commits.state i;
          files = commits.files i;
          limit = commits.limit i;
        };
        notes = none i;
      } in
      subst (λ (n : NotedStore D). CommitsGroups disk old n (calls ∷ []) (Err Memory)) (sym same)
      (commits-still disk old (calls ∷ []))

  -- A call alone, whatever it is answered

  alone-fault : (call : Call) (fault : GroupFault) → IsGroup old.store.state (call ∷ [])
      → Commits disk old.store new.store (call ∷ []) (Err fault)
      → new.notes ≡ old.notes ++ noted_now (call ∷ []) (answers_of old.store (call ∷ []) (Err fault))
      → CommitsGroups disk old new ((call ∷ []) ∷ []) (Err fault)
  alone-fault call Memory group commits notes = group-unbegun (call ∷ []) commits notes
  alone-fault call Disk group commits notes = group-failed (call ∷ []) group commits notes
  alone-fault call (Full told need limit) group commits notes = alone-full call told need limit commits notes

  module _ (calls : List Call) (call : Call) (only-one : calls ≡ call ∷ [])
      (group : IsGroup old.store.state (call ∷ [])) where
    pub alone-refused : (fault : GroupFault) → Commits disk old.store new.store calls (Err fault)
        → new.notes ≡ old.notes ++ noted_now calls (answers_of old.store calls (Err fault))
        → CommitsGroups disk old new ((call ∷ []) ∷ []) (Err fault)
    alone-refused fault commits notes =
        alone-fault call fault group
        (subst (λ (c : List Call). Commits disk old.store new.store c (Err fault)) only-one commits)
        (subst (λ (c : List Call). new.notes ≡ old.notes ++ noted_now c (answers_of old.store c (Err fault))) only-one
        notes)

    pub alone-served : (replies : List Reply) → Commits disk old.store new.store calls (Ok replies)
        → new.notes ≡ old.notes ++ noted_now calls (answers_of old.store calls (Ok replies))
        → CommitsGroups disk old new ((call ∷ []) ∷ []) (Ok tt)
    alone-served replies commits notes =
        group-served (call ∷ []) replies group
        (subst (λ (c : List Call). Commits disk old.store new.store c (Ok replies)) only-one commits)
        (subst (λ (c : List Call). new.notes ≡ old.notes ++ noted_now c (answers_of old.store c (Ok replies))) only-one
        notes)

-- a group that has no more than one call is a call alone
pub one-call : (calls : List Call) → 0 < length calls → length calls ≤ 1 → (call : Call) × (calls ≡ call ∷ [])
one-call [] some few = absurd (omega (arith, some))
one-call (call ∷ []) some few = (call, refl)
one-call (call ∷ other ∷ calls) some few = absurd (omega (arith, few))

-- A group for which there was no room, and then each call for itself

pub alone-all : (calls : List Call) → all_of (map (λ call. call ∷ []) calls) ≡ calls ++ []
alone-all [] = refl
alone-all (call ∷ calls) = ap (λ c. call ∷ c) (alone-all calls)

alone-cut : (limit : ℕ) (state : State) (calls : List Call) (pieces : List (List Call))
    → AreCommittedIn limit state (map (λ call. call ∷ []) calls) pieces → pieces ≡ map (λ call. call ∷ []) calls
alone-cut limit state [] pieces cut = cut
alone-cut limit state (call ∷ calls) pieces cut =
    let rest : cut.0 ≡ map (λ call. call ∷ []) calls = alone-cut limit (after state call) calls cut.0 cut.1 in
    elim cut.2 [
      | inl is ↦ is ∙ ap (λ r. (call ∷ []) ∷ r) rest
      | inr is ↦ is.1 ∙ ap (λ r. (call ∷ []) ∷ r) rest
    ]

module _ {D : Type 0} (disk : Ghosts D) (old mid new : NotedStore D) (calls : List Call) (told need limit : ℕ)
    (earlier : Earlier (disk.left_since mid.store.journal.disk))
    (earlier_new : Earlier (disk.left_since new.store.journal.disk))
    (commits : Commits disk old.store mid.store calls (Err (Full told need limit))) where
  full-stood : (opened : State) (start : ℕ) (before : List (List Noted)) → Stood disk opened start before old.store
      → Stood disk opened start before mid.store
  full-stood opened start before stood =
      let later = commits.after None stood.keeps in
      record {
        early = omega (arith, stood.early, commits.advances.past.later);
        state = commits.state ∙ stood.state;
        calm = stood.calm;
        made = made-by-now disk old mid earlier before commits.advances.past.later stood.made;
        keeps = subst (λ (d : Option State). Keeps disk mid.store.journal mid.store.state d) later.1 later.2;
        moments = stands-still opened (disk.time old.store.journal.disk) (disk.time mid.store.journal.disk)
            (disk.left_since old.store.journal.disk) (disk.left_since mid.store.journal.disk) before earlier
            commits.advances.past start stood.moments
            (λ image left. left-now opened before old.store.state image stood.state
            (one-state old.store.state image (commits.images None stood.keeps image left)));
      }

  -- several calls have no answers where there is no room for them together
  none-entered : 1 < length calls → answers_of old.store calls (Err (Full told need limit)) ≡ []
  none-entered several = by calls several
    where
      by : (those : List Call) → 1 < length those → answers_of old.store those (Err (Full told need limit)) ≡ []
      by [] more = absurd (omega (arith, more))
      by (call ∷ []) more = absurd (omega (arith, more))
      by (call ∷ other ∷ those) more = refl

  pub group-by-calls : (result : Result (Unit {0}) GroupFault) → 1 < length calls
      → mid.notes ≡ old.notes ++ entered (disk.time mid.store.journal.disk) (disk.faults mid.store.journal.disk) calls
      (answers_of old.store calls (Err (Full told need limit)))
      → CommitsGroups disk mid new (map (λ call. call ∷ []) calls) result
      → CommitsGroups disk old new (calls ∷ []) result
  group-by-calls result several notes each =
      let none : mid.notes ≡ old.notes =
      notes
      ∙ ap (λ n. old.notes ++ n) (ap (entered (disk.time mid.store.journal.disk)
      (disk.faults mid.store.journal.disk) calls) (none-entered several)
      ∙ entered-none (disk.time mid.store.journal.disk) (disk.faults mid.store.journal.disk) calls)
      ∙ append-nil old.notes in
      record {
        pieces = each.pieces;
        lists = each.lists;
        cut = (
          [],
          refl,
          inr (
            commits.legal.4,
            alone-cut mid.store.limit mid.store.state calls each.pieces each.cut
                ∙ sym (append-nil (map (λ call. call ∷ []) calls)),
          ),
        );
        noted = each.noted;
        all = each.all;
        notes = each.notes ∙ ap (λ n. n ++ notes_of each.lists) none;
        answers = each.answers;
        failed = λ e. let rose = each.failed e in omega (arith, rose, commits.advances.counted);
        after = λ ok. each.after ok ∙ (λ i. after_calls (commits.state i) (alone-all calls i));
        limit = each.limit ∙ commits.limit;
        files = each.files ∙ commits.files;
        counted = λ book. omega (
          arith,
          each.counted book,
          ap (λ s. count_of s book) commits.state,
          ap length (alone-all calls),
        );
        stands = λ opened start before stood.
            each.stands opened start before (full-stood opened start before stood);
        advances = advances_on disk old.store.journal.disk mid.store.journal.disk new.store.journal.disk
            commits.advances each.advances earlier_new;
      }

-- each call of a group is one for itself, also where those before it have taken stamps
pub alone-group : (old now : State) (calls front : List Call) (call : Call) (rest : List Call)
    → front ++ call ∷ rest ≡ calls → IsGroup old calls → HasStampsFor old calls
    → ((book : ℕ) → count_of now book ≤ count_of old book + length (all_of (map (λ call. call ∷ []) front)))
    → IsGroup now (call ∷ [])
alone-group old now calls front call rest all group stamps counted =
    let book = book_of_group calls in
    let learn : list_all (learns_in book) (front ++ call ∷ rest) ≡ true =
    subst (λ (c : List Call). list_all (learns_in book) c ≡ true) (sym all) group.learn in
    let both = and_parts (list_all (learns_in book) front) (list_all (learns_in book) (call ∷ rest))
    (sym (list_all-append (learns_in book) front (call ∷ rest)) ∙ learn) in
    let learns = and_parts (learns_in book call) (list_all (learns_in book) rest) both.1 in
    let own = learning book call learns.0 in
    let alone : list_all (learns_in book) (call ∷ []) ≡ true = and_from (learns_in book call) true learns.0 refl in
    subst (λ (one : Call). IsGroup now (one ∷ [])) (sym own.3) (record {
      some = omega arith;
      few = omega arith;
      learn = subst (λ (one : Call). list_all (learns_in book) (one ∷ []) ≡ true) own.3 alone;
      apart = refl;
      stamps = omega (
        arith,
        counted book,
        stamps,
        ap length (alone-all front),
        ap length (append-nil front),
        ap length all,
        length-append front (call ∷ rest),
      );
    })
