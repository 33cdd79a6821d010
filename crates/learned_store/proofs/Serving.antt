-- What each way of answering a call does to a store.
use Rattle.std.proofs.Common.{◌≡◌, ℕ, ◌+◌, ◌<◌, ◌≤◌, nat_le, Bool, true, false, cond, Option, None, Some, List, [], ◌∷◌}
use Rattle.std.proofs.Common.{◌++◌, ◌⊎◌, refl, sym, ◌∙◌, ap, subst, arith}
use Rattle.std.specs.Prelude.{⊤}
use Rattle.std.proofs.lemmas.Bool.Decides.{nat_tests}
use Rattle.std.specs.Option.{option_map_or}
use Rattle.skk_outside.specs.Faults.{Rose}
use Rattle.skk_disk.specs.declared.disk.Disk.{Ghosts}
use Rattle.skk_disk.specs.RunLaws.{advances_nothing}
use Rattle.skk_disk.specs.Runs.{Advances}
use Rattle.skk_calls.specs.declared.answer.Answer.{Answer}
use Rattle.skk_calls.specs.declared.answer.Answer.TheVariants.{Done, Refused}
use Rattle.skk_calls.specs.declared.answer.Refusal.{Refusal}
use Rattle.skk_calls.specs.declared.answer.Refusal.TheVariants.{Memory, Disk, JournalFull}
use Rattle.skk_calls.specs.declared.answer.Reply.{Reply}
use Rattle.skk_calls.specs.declared.call.Call.{Call}
use Rattle.skk_calls.specs.Dictionary.{answer, after, is_change, may_answer, may_reply, moves, state_moved}
use Rattle.skk_calls.specs.Histories.{need, tight, IsLegalAnswer, LacksRoom}
use Rattle.skk_calls.specs.Rows.{Row}
use Rattle.skk_calls.specs.States.{State}
use Rattle.skk_journal.specs.Contents.{with_record}
use Rattle.skk_journal.specs.Images.{Each}
use Rattle.skk_journal.specs.Journal.{OpenJournal, is_in_doubt}
use Rattle.skk_journal.specs.Records.{need as record_need}
use Rattle.learn_index.specs.declared.plan.Plan.{Plan}
use Rattle.learn_index.specs.declared.plan.Plan.TheVariants.{Still, Move, Lists}
use Rattle.learn_index.specs.Plans.{is_question, IsPlanned}
use Rattle.learn_index.specs.ReplyLaws.{may-change}
use Rattle.learned_store.specs.Recovered.{Leave}
use Rattle.learned_store.specs.declared.form.PayloadForm.{PayloadForm}
use Rattle.learned_store.specs.declared.form.PayloadForm.TheVariants.{Put, Drop, SetCount, Note, SetList}
use Rattle.learned_store.specs.declared.writing.Record.{Record}
use Rattle.learned_store.specs.Payloads.{newest_version, first_version, change_told}
use Rattle.learned_store.specs.Rooms.{goes_behind}
use Rattle.learned_store.specs.Served.{Serves, end_added, is_added_behind, version_added}
use Rattle.learned_store.specs.Stores.{OpenStore, opening_now, Adds, Keeps, KeepsOneOf, RecoversOneOf, with_doubt}
use Rattle.learned_store.specs.Written.{IsRecordOf, Told}
use Rattle.learned_store.proofs.Kept.{leave_on, opened_now}

-- no system file has a say in whether a reply tells of a change
change_is_told : (files : List (List Row)) (state : State) (call : Call)
    → is_change (answer files state call) ≡ moves state call
change_is_told files state call = grind arith

differ : (b : Bool) → b ≡ true → b ≡ false → ⊥
differ b holds fails = let same : true ≡ false = sym holds ∙ fails in cc

-- an answer tells of no change, and of no call of a disk
abbrev pub IsQuiet : State → Call → Answer → Type 0
IsQuiet state call (Done reply) = moves state call ≡ false
IsQuiet state call (Refused Memory) = ⊤
IsQuiet state call (Refused refusal) = ⊥

-- a look-up and a completion change nothing
pub question_still : (state : State) (call : Call) → is_question call ≡ true → moves state call ≡ false
question_still state call asks = grind arith

-- a change may be refused
pub may_be_refused : (call : Call) (refusal : Refusal) → is_question call ≡ false
    → may_answer call (Refused refusal) ≡ true
may_be_refused call refusal changes = grind arith

-- a plan without a record changes nothing
pub unrecorded : (state : State) (call : Call) (plan : Plan) → IsPlanned state call plan
    → IsRecordOf state call plan None
    → moves state call ≡ false
unrecorded state call (Still reply) planned none = planned.0
unrecorded state call (Move book count key row reply) planned none = absurd none
unrecorded state call (Lists who list reply) planned none = absurd none

-- the newest version has every record
first_known : (form : PayloadForm) → nat_le (first_version form) newest_version ≡ true
first_known (Put book count row) = refl
first_known (Drop book count key) = refl
first_known (SetCount book count) = refl
first_known (Note book count key cand) = refl
first_known (SetList typist books) = refl

needed_known : (told : Option PayloadForm) → nat_le (option_map_or first_version told 1) newest_version ≡ true
needed_known None = refl
needed_known (Some form) = first_known form

pub known_newest : (state : State) (call : Call) (written : Record) → Told state call written
    → nat_le written.version newest_version ≡ true
known_newest state call written told =
    subst (λ n. nat_le n newest_version ≡ true) (sym told.version) (needed_known (change_told state call))

-- a record that goes behind those of a live file is one that its version has, and ends within the limit
pub known_behind : (limit version end first bytes : ℕ) → goes_behind limit version end first bytes ≡ true
    → nat_le first version ≡ true
known_behind limit version end first bytes goes = grind arith

pub fits_behind : (limit version end first bytes : ℕ) → goes_behind limit version end first bytes ≡ true
    → end + bytes ≤ limit
fits_behind limit version end first bytes goes = grind (arith, nat_tests)

module _ {D : Type 0} (disk : Ghosts D) where
  -- where nothing is done to a store
  pub quiet : (store : OpenStore D) (call : Call) (given : Answer)
      → IsLegalAnswer LacksRoom (opening_now disk store) store.state call given
      → may_answer call given ≡ true → IsQuiet store.state call given
      → Serves disk store store call given
  quiet store call (Done reply) legal may still =
      let none : is_change reply ≡ false = ap is_change legal ∙ change_is_told store.files store.state call ∙ still in
      record {
        legal = legal;
        may = may;
        fits = λ told. absurd (differ (is_change reply) told none);
        room = λ same. absurd (cc);
        failed = λ same. absurd (cc);
        state = sym (ap (λ (b : Bool). cond b (state_moved store.state call) store.state) still);
        end = λ told. absurd (differ (is_change reply) told none);
        version = λ told. absurd (differ (is_change reply) told none);
        files = refl;
        limit = refl;
        still = λ e. refl;
        memory = λ e. refl;
        images = λ doubt keeps image left.
            subst (λ (b : Bool). RecoversOneOf (cond b (with_doubt store.state doubt ++ after store.state call ∷ [])
            (with_doubt store.state doubt)) image)
            (sym none) (opened_now disk store.journal store.state doubt keeps image left);
        after = λ doubt keeps. (doubt, sym (ap (λ (b : Bool). cond b None doubt) none), keeps);
        advances = advances_nothing disk store.journal.disk;
      }
  quiet store call (Refused Memory) legal may still = record {
    legal = legal;
    may = may;
    fits = λ told. absurd (cc);
    room = λ same. absurd (cc);
    failed = λ same. absurd (cc);
    state = refl;
    end = λ told. absurd (cc);
    version = λ told. absurd (cc);
    files = refl;
    limit = refl;
    still = λ e. refl;
    memory = λ e. refl;
    images = λ doubt keeps. opened_now disk store.journal store.state doubt keeps;
    after = λ doubt keeps. (doubt, refl, keeps);
    advances = advances_nothing disk store.journal.disk;
  }
  quiet store call (Refused Disk) legal may still = absurd still
  quiet store call (Refused (JournalFull end told limit)) legal may still = absurd still

  -- where a plan that changes nothing was applied
  pub unchanged : (journal : OpenJournal D) (state now : State) (files : List (List Row)) (limit : ℕ) (call : Call)
      (reply : Reply) → is_question call ≡ false → moves state call ≡ false → reply ≡ answer files state call
      → now ≡ after state call
      → Serves disk (record { journal = journal; state = state; files = files; limit = limit })
      (record { journal = journal; state = now; files = files; limit = limit }) call (Done reply)
  unchanged journal state now files limit call reply changes still is leaves =
      let store : OpenStore D = record { journal = journal; state = state; files = files; limit = limit } in
      let same : now ≡ state =
      leaves ∙ ap (λ (b : Bool). cond b (state_moved state call) state) still in
      subst (λ (s : State). Serves disk store
      (record { journal = journal; state = s; files = files; limit = limit }) call (Done reply)) (sym same)
      (quiet store call (Done reply) is (ap (may_reply call) is ∙ may-change files state call changes) still)

  module _ (old new : OpenJournal D) (state : State) (files : List (List Row)) (limit : ℕ) (call : Call)
      (written : Record) (changes : is_question call ≡ false) (told : Told state call written)
      (advances : Advances disk old.disk new.disk) where
    abbrev before : OpenStore D
    before = record { journal = old; state = state; files = files; limit = limit }

    abbrev behind : State → OpenStore D
    behind now = record { journal = new; state = now; files = files; limit = limit }

    -- the record adds the change to its state in a file of a version that has it
    adds : (version : ℕ) → nat_le written.version version ≡ true
        → Adds version written.payload state (after state call)
    adds version known contents is left =
        subst (λ (s : State). Leave (with_record contents written.payload) s) told.leaves
        (leave_on contents state written.payload told.form left
        (told.says contents.version (subst (λ (n : ℕ). nat_le written.version n ≡ true) (sym is) known)))

    -- whether the record goes behind those of the live file
    abbrev goes : Bool
    goes = goes_behind limit old.live.version old.end written.version (record_need written.payload)

    same_way : is_added_behind before call ≡ goes
    same_way =
        ap (λ n. goes_behind limit old.live.version old.end n (need state call)) (sym told.version)
        ∙ ap (goes_behind limit old.live.version old.end written.version) told.needs

    -- where the live file ends behind a record that went there, and behind one that a compaction made room for, and its
    -- version then
    pub end_behind : goes ≡ true → new.end ≡ old.end + record_need written.payload → new.end ≡ end_added before call
    end_behind behind is =
        is ∙ ap (λ n. old.end + n) (sym told.needs)
        ∙ ap (λ b. cond b old.end (tight state) + need state call) (sym (same_way ∙ behind))

    pub end_compacted : goes ≡ false → new.end ≡ tight state + record_need written.payload
        → new.end ≡ end_added before call
    end_compacted apart is =
        is ∙ ap (λ n. tight state + n) (sym told.needs)
        ∙ ap (λ b. cond b old.end (tight state) + need state call) (sym (same_way ∙ apart))

    pub version_behind : goes ≡ true → new.live.version ≡ old.live.version
        → new.live.version ≡ version_added before call
    version_behind behind is = is ∙ ap (λ b. cond b old.live.version old.newest) (sym (same_way ∙ behind))

    pub version_compacted : goes ≡ false → new.live.version ≡ old.newest → new.live.version ≡ version_added before call
    version_compacted apart is = is ∙ ap (λ b. cond b old.live.version old.newest) (sym (same_way ∙ apart))

    module _ (version : ℕ) (known : nat_le written.version version ≡ true)
        (images : (doubt : Option State) → Adds version written.payload state (after state call)
        → Keeps disk old state doubt
        → Each (disk.left_since new.disk (disk.time old.disk))
        (RecoversOneOf (with_doubt state doubt ++ after state call ∷ []))) where
      -- where the record was added, and the plan was applied
      pub changed : tight state + record_need written.payload ≤ limit
          → new.end ≡ end_added before call → new.live.version ≡ version_added before call
          → ((doubt : Option State) → Adds version written.payload state (after state call)
          → Keeps disk old state doubt → Keeps disk new (after state call) None)
          → Serves disk before (behind (after state call)) call (Done (answer files state call))
      changed fits end version_is keeps_on =
          let reply = answer files state call in
          let yes : is_change reply ≡ true = change_is_told files state call ∙ told.moved in
          record {
            legal = refl;
            may = may-change files state call changes;
            fits = λ tells. omega (arith, fits, told.needs);
            room = λ same. absurd (cc);
            failed = λ same. absurd (cc);
            state = refl;
            end = λ tells. end;
            version = λ tells. version_is;
            files = refl;
            limit = refl;
            still = λ still. absurd (differ (moves state call) told.moved still);
            memory = λ same. absurd (cc);
            images = λ doubt keeps image left.
                subst (λ (b : Bool). RecoversOneOf (cond b (with_doubt state doubt ++ after state call ∷ [])
                (with_doubt state doubt)) image) (sym yes) (images doubt (adds version known) keeps image left);
            after = λ doubt keeps.
                (None, sym (ap (λ (b : Bool). cond b None doubt) yes), keeps_on doubt (adds version known) keeps);
            advances = advances;
          }

      -- where the disk failed
      pub failed : (is_in_doubt old.doubt ≡ true) ⊎ (tight state + record_need written.payload ≤ limit)
          → Rose (disk.faults old.disk) (disk.faults new.disk)
          → ((doubt : Option State) → Adds version written.payload state (after state call)
          → Keeps disk old state doubt
          → KeepsOneOf disk new state (doubt ∷ None ∷ Some state ∷ Some (after state call) ∷ []))
          → Serves disk before (behind state) call (Refused Disk)
      failed had rose stands = record {
        legal = told.moved;
        may = may_be_refused call Disk changes;
        fits = λ change. absurd (cc);
        room = λ same.
            subst (λ (n : ℕ). (is_in_doubt old.doubt ≡ true) ⊎ (tight state + n ≤ limit)) (sym told.needs) had;
        failed = λ same. rose;
        state = refl;
        end = λ change. absurd (cc);
        version = λ change. absurd (cc);
        files = refl;
        limit = refl;
        still = λ still. absurd (differ (moves state call) told.moved still);
        memory = λ same. absurd (cc);
        images = λ doubt keeps. images doubt (adds version known) keeps;
        after = λ doubt keeps. stands doubt (adds version known) keeps;
        advances = advances;
      }

    -- where no file had room for the record
    pub full : (told_end told_need : ℕ) → told_end ≡ tight state → told_need ≡ record_need written.payload
        → limit < tight state + record_need written.payload
        → ((doubt : Option State) → Keeps disk old state doubt
        → Each (disk.left_since new.disk (disk.time old.disk)) (RecoversOneOf (with_doubt state doubt)))
        → ((doubt : Option State) → Keeps disk old state doubt → Keeps disk new state None)
        → Serves disk before (behind state) call (Refused (JournalFull told_end told_need limit))
    full told_end told_need end_is need_is lacks images settled = record {
      legal = (
        told.moved,
        (
          end_is,
          need_is ∙ sym told.needs,
          refl,
          subst (λ (n : ℕ). limit < tight state + n) (sym told.needs) lacks,
        ),
      );
      may = may_be_refused call (JournalFull told_end told_need limit) changes;
      fits = λ change. absurd (cc);
      room = λ same. absurd (cc);
      failed = λ same. absurd (cc);
      state = refl;
      end = λ change. absurd (cc);
      version = λ change. absurd (cc);
      files = refl;
      limit = refl;
      still = λ still. absurd (differ (moves state call) told.moved still);
      memory = λ same. absurd (cc);
      images = images;
      after = λ doubt keeps. (None, refl, settled doubt keeps);
      advances = advances;
    }
