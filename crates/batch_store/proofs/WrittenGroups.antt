-- What each way of writing the records of a group does to a store.
use Rattle.std.proofs.Common.{◌≡◌, ℕ, ◌+◌, ◌≤◌, ◌<◌, Bool, true, false}
use Rattle.std.proofs.Common.{not, cond, Option, None, Some, List, [], ◌∷◌, ◌++◌}
use Rattle.std.proofs.Common.{◌⊎◌, Result, Ok, Err, refl, sym, ◌∙◌, ap, subst, arith, map, length, take, drop, ◌-◌}
use Rattle.std.specs.Prelude.{MatchResult}
use Rattle.std.proofs.lemmas.Bool.{and_from, and_parts}
use Rattle.std.proofs.lemmas.List.{take_rest}
use Rattle.std.specs.List.{All, list_all}
use Rattle.std.specs.Result.{IsErrAnd}
use Rattle.skk_outside.specs.Faults.{Rose}
use Rattle.skk_calls.specs.declared.answer.Reply.{Reply}
use Rattle.skk_calls.specs.declared.call.Call.{Call}
use Rattle.skk_calls.specs.declared.call.Call.TheVariants.{Lookup, Complete, Learn, Purge, Annotate, Share, Unlearn}
use Rattle.skk_calls.specs.Dictionary.{after, moves}
use Rattle.skk_calls.specs.Histories.{after_calls, need, tight}
use Rattle.skk_calls.specs.Rows.{Row}
use Rattle.skk_calls.specs.States.{State, is_valid}
use Rattle.skk_disk.specs.declared.disk.Disk.{Ghosts}
use Rattle.skk_disk.specs.RunLaws.{advances_nothing}
use Rattle.skk_disk.specs.Runs.{Advances}
use Rattle.skk_journal.specs.Contents.{Contents}
use Rattle.skk_journal.specs.Images.{Each}
use Rattle.skk_journal.specs.Journal.{OpenJournal, is_in_doubt}
use Rattle.skk_journal.specs.Records.{IsSized, end_of, first_place, framed}
use Rattle.learn_index.specs.declared.plan.Plan.{Plan}
use Rattle.learn_index.specs.Groups.{ArePlanned, learns_in, replies_to}
use Rattle.learn_index.specs.Plans.{is_question}
use Rattle.learned_store.specs.Compacted.{compacted, is_written}
use Rattle.learned_store.specs.Payloads.{newest_version, payload_of}
use Rattle.learned_store.specs.Recovered.{Leave}
use Rattle.learned_store.specs.Stores.{IsCompaction, Keeps, KeepsOneOf, OpenStore, RecoversOneOf, with_doubt}
use Rattle.batch_store.specs.declared.group_fault.GroupFault.{GroupFault}
use Rattle.batch_store.specs.declared.group_fault.GroupFault.TheVariants.{Disk, Memory}
use Rattle.batch_store.specs.Batches.{Commits, GroupAnswer, IsPieceOf, TellsGroup, group_need, moving_need, some_moves}
use Rattle.batch_store.proofs.GroupTold.{after_still, after_still_calls}

differ : (b : Bool) → b ≡ true → b ≡ false → ⊥
differ b holds fails = let same : true ≡ false = sym holds ∙ fails in cc

-- what holds of a result that has failed for this cause
pub erred : {T E : Type 0} (P : T → Type 0) (Q : E → Type 0) (result : Result T E) (cause : E)
    → IsErrAnd result (λ fault. fault ≡ cause) → Q cause → MatchResult result P Q
erred P Q (Ok x) cause is holds = absurd is
erred P Q (Err fault) cause is holds = subst Q (sym is) holds

-- The bytes that a compaction writes of a state

module _ (state : State) (bytes : List ℕ) (is : bytes ≡ framed (map payload_of (compacted state))) where
  -- a file that has just them ends at the tight end
  pub compacted_bytes : end_of (map payload_of (compacted state)) ≡ tight state
      → first_place + 1 + length bytes ≡ tight state
  compacted_bytes ends = omega (arith, ap length is, ends)

  module _ (left : (contents : Contents) → Leave contents state → (is_valid state ≡ true) × (is_written state ≡ true))
      (leave : is_valid state ≡ true → is_written state ≡ true
      → Leave (record { version = newest_version; records = map payload_of (compacted state) }) state)
      (sized : is_written state ≡ true → All IsSized (map payload_of (compacted state))) where
    left_compaction : (contents : Contents) → Leave contents state → IsCompaction state bytes
    left_compaction contents has =
        let parts = left contents has in
        (map payload_of (compacted state), sized parts.1, is, leave parts.0 parts.1)

    -- where a journal keeps the state, they are its compaction
    pub kept_compaction : {D : Type 0} (disk : Ghosts D) (journal : OpenJournal D) (doubt : Option State)
        → Keeps disk journal state doubt → IsCompaction state bytes
    kept_compaction disk journal None (newest, contents, has, rests) = left_compaction contents has
    kept_compaction disk journal (Some doubted) (newest, contents, others, has, doubted_has, doubts) =
        left_compaction contents has

-- What is written of a group

-- where there is nothing none of its calls changes anything
pub piece_none : (state : State) (calls : List Call) (bytes : List ℕ) → length bytes ≡ 0 → IsPieceOf state calls bytes
    → some_moves state calls ≡ false
piece_none state calls [] none piece = piece
piece_none state calls (byte ∷ bytes) none piece = absurd (omega (arith, none))

-- and else it tells of them
pub piece_some : (state : State) (calls : List Call) (bytes : List ℕ) → 0 < length bytes → IsPieceOf state calls bytes
    → TellsGroup state calls bytes
piece_some state calls [] some piece = absurd (omega (arith, some))
piece_some state calls (byte ∷ bytes) some piece = piece

-- each call makes the tight end of a state at most so much greater as it needs
abbrev pub KeepsTight : Type 0
KeepsTight = (state : State) (call : Call) → tight (after state call) ≤ tight state + need state call

-- where it changes something, and else not at all
call_tight : KeepsTight → (state : State) (call : Call)
    → tight (after state call) ≤ tight state + moving_need state call
call_tight keeps state call = by (moves state call) refl
  where
    by : (b : Bool) → moves state call ≡ b → tight (after state call) ≤ tight state + moving_need state call
    by true e =
        let needs : moving_need state call ≡ need state call = ap (λ (b : Bool). cond b (need state call) 0) e in
        omega (arith, keeps state call, needs)
    by false e = omega (arith, ap tight (after_still state call e))

-- so do all of them
group_tight : KeepsTight → (state : State) (calls : List Call)
    → tight (after_calls state calls) ≤ tight state + group_need state calls
group_tight keeps state [] = omega arith
group_tight keeps state (call ∷ calls) =
    omega (arith, call_tight keeps state call, group_tight keeps (after state call) calls)

-- where a file has so much more than the tight end as is written, it has the tight end after it
pub piece_tight : KeepsTight → (state : State) (calls : List Call) (bytes : List ℕ) (end : ℕ)
    → IsPieceOf state calls bytes → tight state + length bytes ≤ end → tight (after_calls state calls) ≤ end
piece_tight keeps state calls [] end piece has = omega (arith, has, ap tight (after_still_calls state calls piece))
piece_tight keeps state calls (byte ∷ bytes) end piece has =
    omega (arith, has, piece.needs, group_tight keeps state calls)

-- what is a piece of calls at a state is so at another that is the same, as it is borrowed
pub piece_at : (calls : List Call) (state planned : State) (bytes borrowed : List ℕ) → planned ≡ state
    → borrowed ≡ bytes → IsPieceOf state calls bytes → IsPieceOf planned calls borrowed
piece_at calls state planned bytes borrowed same is piece =
    subst (λ (those : List ℕ). IsPieceOf planned calls those) (sym is)
    (subst (λ (s : State). IsPieceOf s calls bytes) (sym same) piece)

-- what is borrowed of bytes but for the first one
pub behind_first : (bytes written : List ℕ) → bytes ≡ written
    → take (length bytes - 1) (drop 1 bytes) ≡ drop 1 written
behind_first bytes written is = take_rest bytes 1 ∙ ap (drop 1) is

-- Lengths

-- there is a plan for each call
pub planned_length : (state : State) (calls : List Call) (plans : List Plan) → ArePlanned state calls plans
    → length plans ≡ length calls
planned_length state [] [] planned = refl
planned_length state [] (plan ∷ plans) planned = absurd planned
planned_length state (call ∷ calls) [] planned = absurd planned
planned_length state (call ∷ calls) (plan ∷ plans) planned =
    omega (arith, planned_length (after state call) calls plans planned.1)

-- and a reply to each
pub replies_length : (files : List (List Row)) (state : State) (calls : List Call)
    → length (replies_to files state calls) ≡ length calls
replies_length files state [] = refl
replies_length files state (call ∷ calls) = omega (arith, replies_length files (after state call) calls)

-- a learning is no question
asks_nothing : (book : ℕ) (call : Call) → learns_in book call ≡ true → not (is_question call) ≡ true
asks_nothing book (Lookup who key okuri) learns = absurd (cc)
asks_nothing book (Complete who prefix) learns = absurd (cc)
asks_nothing book (Learn own key okuri cand) learns = refl
asks_nothing book (Purge own key word) learns = refl
asks_nothing book (Annotate own key cand) learns = refl
asks_nothing book (Share who books) learns = refl
asks_nothing book (Unlearn learned) learns = refl

pub no_questions : (book : ℕ) (calls : List Call) → list_all (learns_in book) calls ≡ true
    → list_all (λ (call : Call). not (is_question call)) calls ≡ true
no_questions book [] learn = refl
no_questions book (call ∷ calls) learn =
    let learns = and_parts (learns_in book call) (list_all (learns_in book) calls) learn in
    and_from (not (is_question call)) (list_all (λ (one : Call). not (is_question one)) calls)
    (asks_nothing book call learns.0) (no_questions book calls learns.1)

-- What a group does to a store

module _ {D : Type 0} (disk : Ghosts D) where
  -- it does the same to a store that is the same
  pub moved_store : (one other new : OpenStore D) (calls : List Call) (result : GroupAnswer) → one ≡ other
      → Commits disk one new calls result → Commits disk other new calls result
  moved_store one other new calls result same commits =
      subst (λ (s : OpenStore D). Commits disk s new calls result) same commits

  -- where memory was out nothing is done to it
  pub quiet : (store : OpenStore D) (calls : List Call)
      → ((doubt : Option State) → Keeps disk store.journal store.state doubt
      → Each (disk.left_since store.journal.disk (disk.time store.journal.disk))
      (RecoversOneOf (with_doubt store.state doubt)))
      → Commits disk store store calls (Err Memory)
  quiet store calls opened = record {
    legal = tt;
    fits = λ told. absurd (cc);
    room = λ same. absurd (cc);
    failed = λ same. absurd (cc);
    state = refl;
    files = refl;
    limit = refl;
    still = λ e. refl;
    memory = λ e. refl;
    images = opened;
    after = λ doubt keeps. (doubt, refl, keeps);
    advances = advances_nothing disk store.journal.disk;
  }

  module _ (old new : OpenJournal D) (files : List (List Row)) (limit : ℕ) (calls : List Call)
      (state planned : State) (same : planned ≡ state) where
    -- what was written at the state that was planned on was written at the one before it, which is the same
    pub committed : (now : State) (replies : List Reply) → now ≡ after_calls planned calls
        → replies ≡ replies_to files planned calls
        → Commits disk (record { journal = old; state = planned; files = files; limit = limit })
        (record { journal = new; state = after_calls planned calls; files = files; limit = limit }) calls
        (Ok (replies_to files planned calls))
        → Commits disk (record { journal = old; state = state; files = files; limit = limit })
        (record { journal = new; state = now; files = files; limit = limit }) calls (Ok replies)
    committed now replies leaves told commits =
        subst (λ (s : State). Commits disk (record { journal = old; state = s; files = files; limit = limit })
        (record { journal = new; state = now; files = files; limit = limit }) calls (Ok replies)) same
        (subst (λ (s : State). Commits disk (record { journal = old; state = planned; files = files; limit = limit })
        (record { journal = new; state = s; files = files; limit = limit }) calls (Ok replies)) (sym leaves)
        (subst (λ (those : List Reply). Commits disk
        (record { journal = old; state = planned; files = files; limit = limit })
        (record { journal = new; state = after_calls planned calls; files = files; limit = limit }) calls (Ok those))
        (sym told) commits))

    -- and so where it was not
    pub uncommitted : (fault : GroupFault)
        → Commits disk (record { journal = old; state = planned; files = files; limit = limit })
        (record { journal = new; state = planned; files = files; limit = limit }) calls (Err fault)
        → Commits disk (record { journal = old; state = state; files = files; limit = limit })
        (record { journal = new; state = planned; files = files; limit = limit }) calls (Err fault)
    uncommitted fault commits =
        subst (λ (s : State). Commits disk (record { journal = old; state = s; files = files; limit = limit })
        (record { journal = new; state = planned; files = files; limit = limit }) calls (Err fault)) same commits

  -- where memory was out, also where the state was planned on
  pub quiet_at : (journal : OpenJournal D) (state planned : State) (files : List (List Row)) (limit : ℕ)
      (calls : List Call) (result : GroupAnswer) → planned ≡ state → IsErrAnd result (λ fault. fault ≡ Memory)
      → ((doubt : Option State) → Keeps disk journal state doubt
      → Each (disk.left_since journal.disk (disk.time journal.disk)) (RecoversOneOf (with_doubt state doubt)))
      → Commits disk (record { journal = journal; state = state; files = files; limit = limit })
      (record { journal = journal; state = planned; files = files; limit = limit }) calls result
  quiet_at journal state planned files limit calls (Ok replies) same is opened = absurd is
  quiet_at journal state planned files limit calls (Err fault) same is opened =
      let store : OpenStore D = record { journal = journal; state = state; files = files; limit = limit } in
      subst (λ (s : State). Commits disk store
      (record { journal = journal; state = s; files = files; limit = limit }) calls (Err fault)) (sym same)
      (subst (λ (why : GroupFault). Commits disk store store calls (Err why)) (sym is) (quiet store calls opened))

  -- and where none of the calls changes anything
  pub unwritten : (journal : OpenJournal D) (state : State) (files : List (List Row)) (limit : ℕ) (calls : List Call)
      → some_moves state calls ≡ false
      → ((doubt : Option State) → Keeps disk journal state doubt
      → Each (disk.left_since journal.disk (disk.time journal.disk)) (RecoversOneOf (with_doubt state doubt)))
      → Commits disk (record { journal = journal; state = state; files = files; limit = limit })
      (record { journal = journal; state = after_calls state calls; files = files; limit = limit }) calls
      (Ok (replies_to files state calls))
  unwritten journal state files limit calls still opened =
      let store : OpenStore D = record { journal = journal; state = state; files = files; limit = limit } in
      let same : after_calls state calls ≡ state = after_still_calls state calls still in
      subst (λ (s : State). Commits disk store
      (record { journal = journal; state = s; files = files; limit = limit }) calls
      (Ok (replies_to files state calls))) (sym same) (record {
        legal = refl;
        fits = λ tells. absurd (differ (some_moves state calls) tells still);
        room = λ is. absurd (cc);
        failed = λ is. absurd (cc);
        state = sym same;
        files = refl;
        limit = refl;
        still = λ e. refl;
        memory = λ is. absurd (cc);
        images = λ doubt keeps image left.
            subst (λ (b : Bool). RecoversOneOf (cond b (with_doubt state doubt ++ after_calls state calls ∷ [])
            (with_doubt state doubt)) image) (sym still) (opened doubt keeps image left);
        after = λ doubt keeps. (doubt, sym (ap (λ (b : Bool). cond b None doubt) still), keeps);
        advances = advances_nothing disk journal.disk;
      })

  module _ (old new : OpenJournal D) (state : State) (files : List (List Row)) (limit : ℕ) (calls : List Call)
      (bytes : List ℕ) (told : TellsGroup state calls bytes) (advances : Advances disk old.disk new.disk)
      (images : (doubt : Option State) → Keeps disk old state doubt
      → Each (disk.left_since new.disk (disk.time old.disk))
      (RecoversOneOf (with_doubt state doubt ++ after_calls state calls ∷ []))) where
    abbrev before : OpenStore D
    before = record { journal = old; state = state; files = files; limit = limit }

    abbrev behind : State → OpenStore D
    behind now = record { journal = new; state = now; files = files; limit = limit }

    -- where the records were added
    pub written : tight state + length bytes ≤ limit
        → ((doubt : Option State) → Keeps disk old state doubt → Keeps disk new (after_calls state calls) None)
        → Commits disk before (behind (after_calls state calls)) calls (Ok (replies_to files state calls))
    written fits keeps_on = record {
      legal = refl;
      fits = λ tells. omega (arith, fits, told.needs);
      room = λ same. absurd (cc);
      failed = λ same. absurd (cc);
      state = refl;
      files = refl;
      limit = refl;
      still = λ still. absurd (differ (some_moves state calls) told.moved still);
      memory = λ same. absurd (cc);
      images = λ doubt keeps image left.
          subst (λ (b : Bool). RecoversOneOf (cond b (with_doubt state doubt ++ after_calls state calls ∷ [])
          (with_doubt state doubt)) image) (sym told.moved) (images doubt keeps image left);
      after = λ doubt keeps.
          (None, sym (ap (λ (b : Bool). cond b None doubt) told.moved), keeps_on doubt keeps);
      advances = advances;
    }

    -- where the disk failed
    pub failed : (is_in_doubt old.doubt ≡ true) ⊎ (tight state + length bytes ≤ limit)
        → Rose (disk.faults old.disk) (disk.faults new.disk)
        → ((doubt : Option State) → Keeps disk old state doubt
        → KeepsOneOf disk new state (doubt ∷ None ∷ Some state ∷ Some (after_calls state calls) ∷ []))
        → Commits disk before (behind state) calls (Err Disk)
    failed had rose stands = record {
      legal = told.moved;
      fits = λ tells. absurd (cc);
      room = λ same.
          subst (λ (n : ℕ). (is_in_doubt old.doubt ≡ true) ⊎ (tight state + n ≤ limit)) (sym told.needs) had;
      failed = λ same. rose;
      state = refl;
      files = refl;
      limit = refl;
      still = λ still. absurd (differ (some_moves state calls) told.moved still);
      memory = λ same. absurd (cc);
      images = images;
      after = stands;
      advances = advances;
    }
