-- What answers tell of the room in the learned file, with one entry more, and when a journal is in no doubt.
use Rattle.std.proofs.Common.{◌≡◌, ◌⊎◌, inl, inr, refl, sym, ◌∙◌, ap, subst, arith}
use Rattle.std.proofs.Common.{◌+◌, ◌≤◌, Bool, true, false, Option, None, Some, List, [], ◌∷◌, ◌++◌}
use Rattle.skk_calls.specs.declared.answer.Answer.{Answer}
use Rattle.skk_calls.specs.declared.answer.Answer.TheVariants.{Done, Refused}
use Rattle.skk_calls.specs.declared.answer.Refusal.TheVariants.{Memory, Disk, JournalFull}
use Rattle.skk_calls.specs.declared.call.Call.{Call}
use Rattle.skk_calls.specs.declared.entry.Entry.{Entry}
use Rattle.skk_calls.specs.Histories.{Opening, need, tight, state_after, tells_change, in_doubt, in_doubt_after}
use Rattle.skk_calls.specs.HistoryLaws.{split-last}
use Rattle.skk_calls.specs.States.{State}
use Rattle.skk_disk.specs.declared.disk.Disk.{Ghosts}
use Rattle.skk_journal.specs.Journal.{OpenJournal, is_in_doubt}
use Rattle.learned_store.specs.Limits.{HasRoomFor, HadRoom, AllHadRoom}
use Rattle.learned_store.specs.Stores.{OpenStore, Keeps, DoubtAfter}

differ : (b : Bool) → b ≡ true → b ≡ false → ⊥
differ b holds fails = let same : true ≡ false = sym holds ∙ fails in cc

pub had-none : (opening : Opening) → AllHadRoom opening []
had-none opening [] entry rest e = absurd (cc)
had-none opening (first ∷ prefix) entry rest e = absurd (cc)

pub had-more : (opening : Opening) (history : List Entry) (entry : Entry) → AllHadRoom opening history
    → HadRoom opening history entry.call entry.answer → AllHadRoom opening (history ++ entry ∷ [])
had-more opening history entry had last prefix one rest e =
    elim (split-last history entry prefix one rest e) [
      | inl within ↦ had prefix one within.0 within.1
      | inr end ↦ subst (λ (h : List Entry). HadRoom opening h one.call one.answer) end.0
          (subst (λ (x : Entry). HadRoom opening history x.call x.answer) end.1 last)
    ]

module _ {D : Type 0} (opening : Opening) (history : List Entry) (store : OpenStore D) (call : Call)
    (limit : store.limit ≡ opening.limit) (state : store.state ≡ state_after opening.state history)
    (calm : in_doubt [] history ≡ [] → is_in_doubt store.journal.doubt ≡ false) where
  has-room : tight store.state + need store.state call ≤ store.limit → HasRoomFor opening history call
  has-room fits =
      let same : tight store.state + need store.state call
      ≡ tight (state_after opening.state history) + need (state_after opening.state history) call =
      ap (λ (s : State). tight s + need s call) state in
      omega (arith, fits, same, limit)

  -- what the answer of a store behind a history tells of the room
  pub had-room : (given : Answer)
      → (tells_change given ≡ true → tight store.state + need store.state call ≤ store.limit)
      → (given ≡ Refused Disk
      → (is_in_doubt store.journal.doubt ≡ true) ⊎ (tight store.state + need store.state call ≤ store.limit))
      → HadRoom opening history call given
  had-room (Done reply) fits failed = λ changed. has-room (fits changed)
  had-room (Refused Memory) fits failed = tt
  had-room (Refused Disk) fits failed = elim (failed refl) [
    | inl doubts ↦ inl (λ none. differ (is_in_doubt store.journal.doubt) doubts (calm none))
    | inr fitted ↦ inr (has-room fitted)
  ]
  had-room (Refused (JournalFull told needs most)) fits failed = tt

not-empty : (calls : List Call) (call : Call) → calls ++ call ∷ [] ≡ [] → ⊥
not-empty [] call e = cc
not-empty (first ∷ calls) call e = cc

module _ {D : Type 0} (disk : Ghosts D) where
  -- a journal that keeps a state is in doubt exactly where another state is
  calm-kept : (journal : OpenJournal D) (state : State) (doubt : Option State)
      → Keeps disk journal state doubt → doubt ≡ None → is_in_doubt journal.doubt ≡ false
  calm-kept journal state None keeps none = keeps.3.calm
  calm-kept journal state (Some other) keeps none = absurd (cc)

  none-kept : (journal : OpenJournal D) (state : State) (doubt : Option State)
      → Keeps disk journal state doubt → is_in_doubt journal.doubt ≡ false → doubt ≡ None
  none-kept journal state None keeps calm = refl
  none-kept journal state (Some other) keeps calm = absurd (differ (is_in_doubt journal.doubt) keeps.5.doubt calm)

  module _ (old new : OpenJournal D) (state now : State) (calls : List Call) (call : Call) (doubt later : Option State)
      (kept : Keeps disk old state doubt) (keeps : Keeps disk new now later)
      (calm : calls ≡ [] → is_in_doubt old.doubt ≡ false) where
    -- where no call is in doubt after an answer, the journal is in no doubt then
    pub calm-more : (given : Answer) → DoubtAfter state doubt call given later
        → in_doubt_after calls call given ≡ [] → is_in_doubt new.doubt ≡ false
    calm-more (Done reply) after none =
        grind (arith, calm-kept new now later keeps, none-kept old state doubt kept, calm)
    calm-more (Refused Memory) after none =
        calm-kept new now later keeps (after ∙ none-kept old state doubt kept (calm none))
    calm-more (Refused Disk) after none = absurd (not-empty calls call none)
    calm-more (Refused (JournalFull told needs most)) after none = calm-kept new now later keeps after
