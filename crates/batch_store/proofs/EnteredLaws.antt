-- What the notes of a dictionary keep with those of a group more.
use Rattle.std.proofs.Common.{◌≡◌, ℕ, ◌+◌, ◌<◌, ◌≤◌, ◌==◌, Bool, true, false, ◌||◌, cond, List, [], ◌∷◌, ◌++◌}
use Rattle.std.proofs.Common.{Ok, Err, map, refl, sym, ◌∙◌, ap, subst, arith, append-nil, append_assoc}
use Rattle.std.specs.List.{list_all}
use Rattle.std.proofs.lemmas.Bool.{and_from}
use Rattle.std.proofs.lemmas.List.Folds.{list_all-append, list_any-append}
use Rattle.skk_outside.specs.Faults.{Rose}
use Rattle.skk_calls.specs.declared.answer.Answer.{Answer}
use Rattle.skk_calls.specs.declared.answer.Answer.TheVariants.{Done, Refused}
use Rattle.skk_calls.specs.declared.answer.Refusal.TheVariants as refusals
use Rattle.skk_calls.specs.declared.answer.Reply.{Reply}
use Rattle.skk_calls.specs.declared.call.Call.{Call}
use Rattle.skk_calls.specs.declared.chronicle.Noted.{Noted}
use Rattle.skk_calls.specs.declared.chronicle.Noted.TheVariants.{Opened, Entered}
use Rattle.skk_calls.specs.declared.entry.Entry.{Entry}
use Rattle.skk_calls.specs.Chronicles.{history_of, is_chronicle, is_entry, opening_of}
use Rattle.skk_calls.specs.Dictionary.{after, answer, moves}
use Rattle.skk_calls.specs.Histories.{IsLegal, IsLegalAnswer, LacksRoom, Opening, after_answer, after_calls, need}
use Rattle.skk_calls.specs.Histories.{state_after, tight}
use Rattle.skk_calls.specs.HistoryLaws.{history-more, legal-more, state-more}
use Rattle.skk_calls.specs.Openings.{IsLegalOver, are_of_one}
use Rattle.skk_calls.specs.Rows.{Row}
use Rattle.skk_calls.specs.States.{State}
use Rattle.skk_calls.specs.Tallies.{Tally, empty_tally, has_answer, lacks_disk, tally_of, tally_with}
use Rattle.skk_disk.specs.declared.disk.Disk.{Ghosts}
use Rattle.skk_disk.specs.Runs.{Advances}
use Rattle.learned_store.specs.Stands.{faults_of, opening_note, time_of}
use Rattle.learned_store.specs.Stores.{OpenStore, opening_now}
use Rattle.learn_index.specs.declared.plan.Plan.{Plan}
use Rattle.learn_index.specs.Groups.{replies_to}
use Rattle.batch_store.specs.declared.group_fault.GroupFault.{GroupFault}
use Rattle.batch_store.specs.declared.group_fault.GroupFault.TheVariants.{Memory, Full, Disk}
use Rattle.batch_store.specs.Batches.{Commits, GroupAnswer, after_group, group_need, moving_need, some_moves}
use Rattle.batch_store.specs.Entries.{AreEntered, NeverFall, all_served, answer_planned, answers_of, entered, failed}
use Rattle.batch_store.specs.Entries.{fault_answers, served, tally_behind}
use Rattle.batch_store.proofs.GroupTold.{after_still}

-- One answer more

-- a chronicle with one entry more is one, with the same opening
begun-more : (notes : List Noted) (note : Noted) → is_entry note ≡ true → is_chronicle notes ≡ true
    → is_chronicle (notes ++ note ∷ []) ≡ true
begun-more [] note entry begun = absurd (cc)
begun-more (Opened files state end limit time faults ∷ rest) note entry begun =
    grind (arith, list_all-append is_entry rest (note ∷ []))
begun-more (Entered number call answer time faults ∷ rest) note entry begun = absurd (cc)

opened-more : (notes : List Noted) (note : Noted) → is_chronicle notes ≡ true
    → opening_of (notes ++ note ∷ []) ≡ opening_of notes
opened-more [] note begun = absurd (cc)
opened-more (first ∷ rest) note begun = refl

-- all calls are still those of the caller 0
one-more : (notes : List Noted) (call : Call) (given : Answer) (time faults : ℕ) → are_of_one notes ≡ true
    → are_of_one (notes ++ Entered 0 call given time faults ∷ []) ≡ true
one-more notes call given time faults one =
    ap (list_all (λ entry. entry.number == 0)) (history-more notes (Entered 0 call given time faults))
    ∙ list_all-append (λ entry. entry.number == 0) (history_of notes)
    (history_of (Entered 0 call given time faults ∷ []))
    ∙ and_from (list_all (λ entry. entry.number == 0) (history_of notes)) true one refl

or_none : (b : Bool) → (b || false) ≡ b
or_none true = refl
or_none false = refl

-- a call was refused for the disk with one answer more where one was before, or this one is
disk-more : (notes : List Noted) (call : Call) (given : Answer) (time faults : ℕ)
    → has_answer lacks_disk (history_of (notes ++ Entered 0 call given time faults ∷ []))
    ≡ (has_answer lacks_disk (history_of notes) || lacks_disk given)
disk-more notes call given time faults =
    ap (has_answer lacks_disk) (history-more notes (Entered 0 call given time faults))
    ∙ list_any-append (λ entry. lacks_disk entry.answer) (history_of notes)
    (history_of (Entered 0 call given time faults ∷ []))
    ∙ ap (λ (b : Bool). has_answer lacks_disk (history_of notes) || b) (or_none (lacks_disk given))

either : {P : Type 0} (a b : Bool) → (a || b) ≡ true → (a ≡ true → P) → (b ≡ true → P) → P
either true b e first second = first refl
either false b e first second = second e

-- times and counts that never fall end behind where they begin
never_fall-end : (time faults : ℕ) (notes : List Noted) (last_time last_faults : ℕ)
    → NeverFall time faults notes last_time last_faults → (time ≤ last_time) × (faults ≤ last_faults)
never_fall-end time faults [] last_time last_faults on = on
never_fall-end time faults (note ∷ notes) last_time last_faults on =
    let rest = never_fall-end (time_of note) (faults_of note) notes last_time last_faults on.2 in
    (omega (arith, on.0, rest.0), omega (arith, on.1, rest.1))

-- and may end later
never_fall-later : (time faults : ℕ) (notes : List Noted) (last_time last_faults later more : ℕ)
    → NeverFall time faults notes last_time last_faults → last_time ≤ later → last_faults ≤ more
    → NeverFall time faults notes later more
never_fall-later time faults [] last_time last_faults later more on goes counts =
    (omega (arith, on.0, goes), omega (arith, on.1, counts))
never_fall-later time faults (note ∷ notes) last_time last_faults later more on goes counts = (
  on.0,
  on.1,
  never_fall-later (time_of note) (faults_of note) notes last_time last_faults later more on.2 goes counts,
)

-- with a note of that moment more
never_fall-more : (time faults : ℕ) (notes : List Noted) (note : Noted)
    → NeverFall time faults notes (time_of note) (faults_of note)
    → NeverFall time faults (notes ++ note ∷ []) (time_of note) (faults_of note)
never_fall-more time faults [] note on = (on.0, on.1, (omega arith, omega arith))
never_fall-more time faults (first ∷ notes) note on =
    (on.0, on.1, never_fall-more (time_of first) (faults_of first) notes note on.2)

-- counting comes to the tally
abbrev pub Counting : Type 0
Counting =
    (state : State) (history : List Entry) (entry : Entry)
    → tally_with (tally_of state history) entry.answer
    ≡ record (tally_of state (history ++ entry ∷ [])) { rows = (tally_of state history).rows }

-- the notes of an opening and of calls behind it, at a state, a time and a count of faults
record AreEnteredAt (opening : Opening) (notes : List Noted) (tally : Tally) (now : State) (time faults : ℕ)
    : Type 0 where
  pub begun : is_chronicle notes ≡ true
  pub legal : IsLegalOver opening notes
  pub one : are_of_one notes ≡ true
  pub state : now ≡ state_after opening.state (history_of notes)
  pub goes_on : NeverFall opening.time opening.faults notes time faults
  pub failed : has_answer lacks_disk (history_of notes) ≡ true → Rose opening.faults faults
  pub counted : tally ≡ record (tally_of opening.state (history_of notes)) { rows = 0 }

module _ (counts : Counting) (opening : Opening) (time faults : ℕ) where
  -- they are with a legal answer more, which is a refusal for the disk only where the count of faults rose
  enter_one : (notes : List Noted) (tally : Tally) (now : State) (call : Call) (given : Answer)
      → AreEnteredAt opening notes tally now time faults → IsLegalAnswer LacksRoom opening now call given
      → (lacks_disk given ≡ true → Rose opening.faults faults)
      → AreEnteredAt opening (notes ++ Entered 0 call given time faults ∷ []) (tally_with tally given)
      (after_answer now call given) time faults
  enter_one notes tally now call given at legal rose =
      let note : Noted = Entered 0 call given time faults in
      let entry : Entry = record { number = 0; call = call; answer = given } in
      let history = history_of notes in
      let more = history-more notes note in
      let legal_here : IsLegalAnswer LacksRoom opening (state_after opening.state history) call given =
      subst (λ (s : State). IsLegalAnswer LacksRoom opening s call given) at.state legal in
      record {
        begun = begun-more notes note refl at.begun;
        legal = (
          opened-more notes note at.begun ∙ at.legal.0,
          subst (IsLegal opening) (sym more) (legal-more LacksRoom opening history entry at.legal.1 legal_here),
        );
        one = one-more notes call given time faults at.one;
        state =
            ap (λ (s : State). after_answer s call given) at.state
            ∙ sym (ap (state_after opening.state) more ∙ state-more opening.state history entry);
        goes_on = never_fall-more opening.time opening.faults notes note at.goes_on;
        failed = λ has.
            either (has_answer lacks_disk history) (lacks_disk given)
            (sym (disk-more notes call given time faults) ∙ has) at.failed rose;
        counted =
            ap (λ (t : Tally). tally_with t given) at.counted
            ∙ ap (λ (t : Tally). record t { rows = 0 }) (counts opening.state history entry)
            ∙ ap (λ (h : List Entry). record (tally_of opening.state h) { rows = 0 }) (sym more);
      }

  -- answers to calls are legal, each at the state behind those before it, those for the disk have their cause, and
  -- there is this state behind them
  abbrev AreAnswered : State → List Call → List Answer → State → Type 0
  AreAnswered now [] [] later = later ≡ now
  AreAnswered now [] (given ∷ answers) later = ⊥
  AreAnswered now (call ∷ calls) [] later = ⊥
  AreAnswered now (call ∷ calls) (given ∷ answers) later =
      IsLegalAnswer LacksRoom opening now call given × (lacks_disk given ≡ true → Rose opening.faults faults)
      × AreAnswered (after_answer now call given) calls answers later

  -- they are with such answers more
  enter_all : (notes : List Noted) (tally : Tally) (now : State) (calls : List Call) (answers : List Answer)
      (later : State) → AreEnteredAt opening notes tally now time faults → AreAnswered now calls answers later
      → AreEnteredAt opening (notes ++ entered time faults calls answers) (tally_behind tally answers) later time faults
  enter_all notes tally now [] [] later at answered =
      subst (λ (those : List Noted). AreEnteredAt opening those tally later time faults) (sym (append-nil notes))
      (subst (λ (s : State). AreEnteredAt opening notes tally s time faults) (sym answered) at)
  enter_all notes tally now [] (given ∷ answers) later at answered = absurd answered
  enter_all notes tally now (call ∷ calls) [] later at answered = absurd answered
  enter_all notes tally now (call ∷ calls) (given ∷ answers) later at answered =
      let note : Noted = Entered 0 call given time faults in
      subst (λ (those : List Noted).
      AreEnteredAt opening those (tally_behind (tally_with tally given) answers) later time faults)
      (append_assoc notes (note ∷ []) (entered time faults calls answers))
      (enter_all (notes ++ note ∷ []) (tally_with tally given) (after_answer now call given) calls answers later
      (enter_one notes tally now call given at answered.0 answered.1) answered.2)

  -- Such answers are those of a group

  -- that was served
  served_answered : (state : State) (calls : List Call)
      → AreAnswered state calls (all_served opening.files state calls) (after_calls state calls)
  served_answered state [] = refl
  served_answered state (call ∷ calls) = (refl, λ same. absurd (cc), served_answered (after state call) calls)

  -- whose disk failed: its calls leave the state
  failed_legal : (state : State) (call : Call)
      → IsLegalAnswer LacksRoom opening state call (failed opening.files state call)
  failed_legal state call = by (moves state call) refl
    where
      by : (b : Bool) → moves state call ≡ b
          → IsLegalAnswer LacksRoom opening state call
          (cond b (Refused refusals.Disk) (served opening.files state call))
      by true e = e
      by false e = refl

  failed_stays : (state : State) (call : Call) → after_answer state call (failed opening.files state call) ≡ state
  failed_stays state call = by (moves state call) refl
    where
      by : (b : Bool) → moves state call ≡ b
          → after_answer state call (cond b (Refused refusals.Disk) (served opening.files state call)) ≡ state
      by true e = refl
      by false e = after_still state call e

  failed_answered : (state : State) (calls : List Call) → Rose opening.faults faults
      → AreAnswered state calls (map (failed opening.files state) calls) state
  failed_answered state [] rose = refl
  failed_answered state (call ∷ calls) rose = (
    failed_legal state call,
    λ lacks. rose,
    subst (λ (s : State). AreAnswered s calls (map (failed opening.files state) calls) state)
        (sym (failed_stays state call)) (failed_answered state calls rose),
  )

  -- or a call alone for which there was no room
  full_answered : (state : State) (call : Call) (end told_need limit : ℕ)
      → IsLegalAnswer LacksRoom opening state call (Refused (refusals.JournalFull end told_need limit))
      → AreAnswered state (call ∷ []) (Refused (refusals.JournalFull end told_need limit) ∷ []) state
  full_answered state call end told_need limit legal = (legal, λ same. absurd (cc), refl)

-- A group more

-- where a call alone needs more than there is, it may be refused so
full_legal : (opening : Opening) (state : State) (call : Call) (limit end told_need told_limit : ℕ)
    → limit ≡ opening.limit
    → (some_moves state (call ∷ []) ≡ true) × (end ≡ tight state) × (told_need ≡ group_need state (call ∷ []))
    × (told_limit ≡ limit) × (limit < tight state + group_need state (call ∷ []))
    → IsLegalAnswer LacksRoom opening state call (Refused (refusals.JournalFull end told_need told_limit))
full_legal opening state call limit end told_need told_limit same told =
    let moved : moves state call ≡ true = sym (or_none (moves state call)) ∙ told.0 in
    let needs : moving_need state call ≡ need state call = ap (λ (b : Bool). cond b (need state call) 0) moved in (
      moved,
      (told.1, omega (arith, told.2, needs), told.3 ∙ same, omega (arith, told.4, needs, same)),
    )

-- a count that rose, and then does not fall, rose
rose_later : (first before now : ℕ) → first ≤ before → Rose before now → Rose first now
rose_later first before now low rose = omega (arith, low, rose)

rose_on : (first before now : ℕ) → before ≤ now → Rose first before → Rose first now
rose_on first before now more rose = omega (arith, more, rose)

-- no answers are entered as nothing
no_entries : (time faults : ℕ) (calls : List Call) → entered time faults calls [] ≡ []
no_entries time faults [] = refl
no_entries time faults (call ∷ calls) = refl

pub nothing_entered : (notes : List Noted) (time faults : ℕ) (calls : List Call)
    → notes ≡ notes ++ entered time faults calls []
nothing_entered notes time faults calls =
    sym (ap (λ (those : List Noted). notes ++ those) (no_entries time faults calls) ∙ append-nil notes)

-- the replies to calls, as answers, are those of calls that were all served
pub done_served : (files : List (List Row)) (state : State) (calls : List Call)
    → map (λ (reply : Reply). Done reply) (replies_to files state calls) ≡ all_served files state calls
done_served files state [] = refl
done_served files state (call ∷ calls) =
    ap (λ (answers : List Answer). served files state call ∷ answers) (done_served files (after state call) calls)

-- what is entered for a fault of a group is what the group is answered in its history
pub fault_answered : {D : Type 0} (store : OpenStore D) (calls : List Call) (plans : List Plan) (fault : GroupFault)
    → map answer_planned plans ≡ map (failed store.files store.state) calls
    → fault_answers calls plans fault ≡ answers_of store calls (Err fault)
fault_answered store [] plans Memory same = refl
fault_answered store (call ∷ []) plans Memory same = refl
fault_answered store (call ∷ other ∷ calls) plans Memory same = refl
fault_answered store [] plans Disk same = same
fault_answered store (call ∷ []) plans Disk same = same
fault_answered store (call ∷ other ∷ calls) plans Disk same = same
fault_answered store [] plans (Full end told_need limit) same = refl
fault_answered store (call ∷ []) plans (Full end told_need limit) same = refl
fault_answered store (call ∷ other ∷ calls) plans (Full end told_need limit) same = refl

-- also where plans and calls are as they were borrowed
pub fault_answered_at : {D : Type 0} (store : OpenStore D) (calls borrowed : List Call) (plans lent : List Plan)
    (fault : GroupFault) → borrowed ≡ calls → lent ≡ plans
    → map answer_planned plans ≡ map (failed store.files store.state) calls
    → fault_answers borrowed lent fault ≡ answers_of store calls (Err fault)
fault_answered_at store calls borrowed plans lent fault same_calls same_plans same =
    ap (λ (b : List Call). fault_answers b lent fault) same_calls
    ∙ ap (λ (l : List Plan). fault_answers calls l fault) same_plans ∙ fault_answered store calls plans fault same

-- and where the replies are
pub served_answered_at : (files : List (List Row)) (state planned : State) (calls : List Call)
    (replies lent : List Reply) → planned ≡ state → lent ≡ replies → replies ≡ replies_to files planned calls
    → map (λ (reply : Reply). Done reply) lent ≡ all_served files state calls
served_answered_at files state planned calls replies lent same is told =
    ap (map (λ (reply : Reply). Done reply)) (is ∙ told) ∙ done_served files planned calls
    ∙ ap (λ (s : State). all_served files s calls) same

-- what was entered of the answers of a group, as it is told of a store and of notes that are the same
pub noted_at : (D : Type 0) (store other : OpenStore D) (notes others trace : List Noted) (time faults : ℕ)
    (calls borrowed : List Call) (answers : List Answer) (result : GroupAnswer) → store ≡ other → notes ≡ others
    → borrowed ≡ calls → answers ≡ answers_of store calls result
    → trace ≡ notes ++ entered time faults borrowed answers
    → trace ≡ others ++ entered time faults calls (answers_of other calls result)
noted_at D store other notes others trace time faults calls borrowed answers result same same_notes is answered made =
    made ∙ ap (λ (n : List Noted). n ++ entered time faults borrowed answers) same_notes
    ∙ ap (λ (b : List Call). others ++ entered time faults b answers) is
    ∙ ap (λ (a : List Answer). others ++ entered time faults calls a)
    (answered ∙ ap (λ (s : OpenStore D). answers_of s calls result) same)

module _ {D : Type 0} (disk : Ghosts D) where
  legal-none : (opening : Opening) → IsLegal opening []
  legal-none opening [] entry rest e = absurd (cc)
  legal-none opening (first ∷ prefix) entry rest e = absurd (cc)

  -- the note of an opening alone
  pub entered_none : (store : OpenStore D)
      → ((state : State) → record (tally_of state []) { rows = 0 } ≡ empty_tally)
      → AreEntered disk (opening_note (opening_now disk store) ∷ []) empty_tally store
  entered_none store none = record {
    opening = opening_now disk store;
    begun = refl;
    legal = (refl, legal-none (opening_now disk store));
    one = refl;
    files = refl;
    limit = refl;
    state = refl;
    goes_on = (omega arith, omega arith, (omega arith, omega arith));
    failed = λ same. absurd (cc);
    counted = sym (none store.state);
  }

  -- so are notes and a tally that are these
  pub entered_begun : (store : OpenStore D) (notes : List Noted) (tally : Tally)
      → ((state : State) → record (tally_of state []) { rows = 0 } ≡ empty_tally)
      → notes ≡ opening_note (opening_now disk store) ∷ [] → tally ≡ empty_tally
      → AreEntered disk notes tally store
  entered_begun store notes tally none noted counted =
      subst (λ (those : List Noted). AreEntered disk those tally store) (sym noted)
      (subst (λ (t : Tally). AreEntered disk (opening_note (opening_now disk store) ∷ []) t store) (sym counted)
      (entered_none store none))

  module _ (counts : Counting) (notes : List Noted) (tally : Tally) (old new : OpenStore D)
      (given : AreEntered disk notes tally old) where
    abbrev opening : Opening
    opening = given.opening

    abbrev time : ℕ
    time = disk.time new.journal.disk

    abbrev faults : ℕ
    faults = disk.faults new.journal.disk

    -- the notes stand at the disk as it is later
    entered_later : Advances disk old.journal.disk new.journal.disk
        → AreEnteredAt opening notes tally old.state time faults
    entered_later advances = record {
      begun = given.begun;
      legal = given.legal;
      one = given.one;
      state = given.state;
      goes_on =
          never_fall-later opening.time opening.faults notes (disk.time old.journal.disk)
          (disk.faults old.journal.disk) time faults given.goes_on advances.past.later advances.counted;
      failed = λ has. rose_on opening.faults (disk.faults old.journal.disk) faults advances.counted (given.failed has);
      counted = given.counted;
    }

    -- so do they with legal answers more
    entered_all : (calls : List Call) (result : GroupAnswer) (answers : List Answer)
        → Commits disk old new calls result
        → AreAnswered counts opening time faults old.state calls answers (after_group old.state calls result)
        → AreEntered disk (notes ++ entered time faults calls answers) (tally_behind tally answers) new
    entered_all calls result answers commits answered =
        let all = enter_all counts opening time faults notes tally old.state calls answers
        (after_group old.state calls result) (entered_later commits.advances) answered in
        record {
          opening = opening;
          begun = all.begun;
          legal = all.legal;
          one = all.one;
          files = commits.files ∙ given.files;
          limit = commits.limit ∙ given.limit;
          state = commits.state ∙ all.state;
          goes_on = all.goes_on;
          failed = all.failed;
          counted = all.counted;
        }

    -- and where nothing is entered
    entered_nothing : (calls : List Call) (fault : GroupFault) → Commits disk old new calls (Err fault)
        → AreEntered disk (notes ++ entered time faults calls []) tally new
    entered_nothing calls fault commits =
        let later = entered_later commits.advances in
        subst (λ (those : List Noted). AreEntered disk those tally new) (nothing_entered notes time faults calls)
        (record {
          opening = opening;
          begun = later.begun;
          legal = later.legal;
          one = later.one;
          files = commits.files ∙ given.files;
          limit = commits.limit ∙ given.limit;
          state = commits.state ∙ later.state;
          goes_on = later.goes_on;
          failed = later.failed;
          counted = later.counted;
        })

    -- a disk that failed a group had a count of faults that rose since the opening
    rose_since : Rose (disk.faults old.journal.disk) faults → Rose opening.faults faults
    rose_since rose =
        rose_later opening.faults (disk.faults old.journal.disk) faults
        (never_fall-end opening.time opening.faults notes (disk.time old.journal.disk) (disk.faults old.journal.disk)
        given.goes_on).1 rose

    -- notes behind which those of a group stand are again the notes of a dictionary
    pub group_entered : (calls : List Call) (result : GroupAnswer) → Commits disk old new calls result
        → AreEntered disk (notes ++ entered time faults calls (answers_of old calls result))
        (tally_behind tally (answers_of old calls result)) new
    group_entered calls (Ok replies) commits =
        entered_all calls (Ok replies) (all_served old.files old.state calls) commits
        (subst (λ (files : List (List Row)). AreAnswered counts opening time faults old.state calls
        (all_served files old.state calls) (after_calls old.state calls)) (sym given.files)
        (served_answered counts opening time faults old.state calls))
    group_entered calls (Err Memory) commits = entered_nothing calls Memory commits
    group_entered calls (Err Disk) commits =
        entered_all calls (Err Disk) (map (failed old.files old.state) calls) commits
        (subst (λ (files : List (List Row)). AreAnswered counts opening time faults old.state calls
        (map (failed files old.state) calls) old.state) (sym given.files)
        (failed_answered counts opening time faults old.state calls (rose_since (commits.failed refl))))
    group_entered [] (Err (Full end told_need limit)) commits = entered_nothing [] (Full end told_need limit) commits
    group_entered (call ∷ []) (Err (Full end told_need limit)) commits =
        entered_all (call ∷ []) (Err (Full end told_need limit))
        (Refused (refusals.JournalFull end told_need limit) ∷ []) commits
        (full_answered counts opening time faults old.state call end told_need limit
        (full_legal opening old.state call old.limit end told_need limit given.limit commits.legal))
    group_entered (call ∷ other ∷ calls) (Err (Full end told_need limit)) commits =
        entered_nothing (call ∷ other ∷ calls) (Full end told_need limit) commits

    -- so are notes and a tally that are these, where the calls are as they were borrowed
    pub entered_behind : (calls borrowed : List Call) (result : GroupAnswer) (answers : List Answer)
        (more : List Noted) (later : Tally) → Commits disk old new calls result → borrowed ≡ calls
        → answers ≡ answers_of old calls result → more ≡ notes ++ entered time faults borrowed answers
        → later ≡ tally_behind tally answers → AreEntered disk more later new
    entered_behind calls borrowed result answers more later commits is same noted counted =
        subst (λ (those : List Noted). AreEntered disk those later new)
        (sym (noted_at D old old notes notes more time faults calls borrowed answers result refl refl is same noted))
        (subst (λ (t : Tally).
        AreEntered disk (notes ++ entered time faults calls (answers_of old calls result)) t new)
        (sym (counted ∙ ap (tally_behind tally) same)) (group_entered calls result commits))
