-- The notes of a store stand over its disk from the first one on, and with each call more.
use Rattle.std.proofs.Common.{◌≡◌, inl, refl, sym, ◌∙◌, ap, subst, arith}
use Rattle.std.proofs.Common.{ℕ, ◌+◌, ◌<◌, ◌≤◌, None, List, [], ◌∷◌, ◌++◌}
use Rattle.std.proofs.Common.{map, Contains}
use Rattle.std.proofs.lemmas.List.Elements.{All-nil}
use Rattle.skk_outside.specs.Faults.{Rose}
use Rattle.skk_calls.specs.declared.answer.Answer.{Answer}
use Rattle.skk_calls.specs.declared.answer.Answer.TheVariants.{Done, Refused}
use Rattle.skk_calls.specs.declared.answer.Refusal.TheVariants.{Memory, Disk, JournalFull}
use Rattle.skk_calls.specs.declared.call.Call.{Call}
use Rattle.skk_calls.specs.declared.chronicle.Noted.{Noted}
use Rattle.skk_calls.specs.declared.chronicle.Noted.TheVariants.{Entered}
use Rattle.skk_calls.specs.declared.entry.Entry.{Entry}
use Rattle.skk_calls.specs.Chronicles.{history_of}
use Rattle.skk_calls.specs.Dictionary.{answer, after}
use Rattle.skk_calls.specs.Histories.{Opening, LacksRoom, IsLegal, IsLegalAnswer, after_answer, need, tight}
use Rattle.skk_calls.specs.Histories.{in_doubt, state_after}
use Rattle.skk_calls.specs.Rows.{Row}
use Rattle.skk_calls.specs.States.{State}
use Rattle.skk_calls.specs.Tallies.{Tally, tally_of, tally_with}
use Rattle.skk_disk.specs.declared.disk.Disk.{Ghosts}
use Rattle.skk_disk.specs.Image.{Image}
use Rattle.skk_disk.specs.Moments.{SameImages, Earlier}
use Rattle.skk_disk.specs.MomentLaws.{passes_on}
use Rattle.learned_store.specs.Limits.{AllHadRoom}
use Rattle.learned_store.specs.Served.{Serves}
use Rattle.learned_store.specs.Stores.{OpenStore, opening_now, Keeps, RecoversOneOf, with_doubt, states_within}
use Rattle.learned_store.specs.Stores.{DoubtAfter}
use Rattle.learned_store.specs.Stands.{time_of, left_behind, RecoversBy, HasCause, IsOneOf, Stands, Counts}
use Rattle.learned_store.specs.Stands.{opening_note}
use Rattle.skk_calls.specs.HistoryLaws.{state-more, doubt-more, legal-more, history-more}
use Rattle.learned_store.proofs.Chronicles.{begun-more, opened-more}
use Rattle.learned_store.proofs.Kept.{opened_now}
use Rattle.learned_store.proofs.Limits.{had-none, had-more, had-room, calm-more}
use Rattle.learned_store.proofs.Moments.{goes_on-more, goes_on-start, stands_over-more}
use Rattle.learned_store.proofs.Standing.{recovers-more, doubt-among, within-left, doubt-left}

legal-none : (opening : Opening) → IsLegal opening []
legal-none opening [] entry rest e = absurd (cc)
legal-none opening (first ∷ prefix) entry rest e = absurd (cc)

module _ {D : Type 0} (disk : Ghosts D) where
  -- at a time alone, each image is opened as the state that is kept
  now : (store : OpenStore D) → Keeps disk store.journal store.state None
      → (moment : ℕ) (image : Image) → disk.time store.journal.disk ≤ moment → moment ≤ disk.time store.journal.disk
      → disk.left_since store.journal.disk moment image
      → RecoversBy store.state (opening_note (opening_now disk store) ∷ []) moment image
  now store keeps moment image from to left =
      let here : moment ≡ disk.time store.journal.disk = omega (arith, from, to) in
      record {
        front = opening_note (opening_now disk store) ∷ [];
        back = [];
        is = refl;
        later = All-nil (λ (note : Noted). moment < time_of note);
        recovers = opened_now disk store.journal store.state None keeps image
            (subst (λ m. disk.left_since store.journal.disk m image) here left);
      }

  pub stands_begun : (opening : Opening) (past : ℕ → Image → Type 0) (store : OpenStore D)
      → opening ≡ opening_now disk store → SameImages past (disk.left_since store.journal.disk)
      → Keeps disk store.journal store.state None
      → Stands disk opening past (opening_note opening ∷ []) store
  stands_begun opening past store is same keeps =
      subst (λ (o : Opening). Stands disk o past (opening_note o ∷ []) store) (sym is) (record {
        begun = refl;
        legal = (refl, legal-none (opening_now disk store));
        fits = had-none (opening_now disk store);
        files = refl;
        limit = refl;
        state = refl;
        calm = λ none. keeps.3.calm;
        keeps = (None, tt, keeps);
        moments = now store keeps;
        goes_on = (omega arith, omega arith, tt, (refl, refl));
        passes = record {
          later = omega arith;
          goes_on = λ t image le left. inl (same.no_more t image left);
          keeps = λ t image le left. same.no_fewer t image left;
        };
      })

-- a legal answer over one opening is legal over another one with the same files and the same limit
legal-over : (one other : Opening) (state : State) (call : Call) (given : Answer)
    → one.files ≡ other.files → one.limit ≡ other.limit → IsLegalAnswer LacksRoom one state call given
    → IsLegalAnswer LacksRoom other state call given
legal-over one other state call (Done reply) files limit is =
    subst (λ (f : List (List Row)). reply ≡ answer f state call) files is
legal-over one other state call (Refused Memory) files limit is = tt
legal-over one other state call (Refused Disk) files limit is = is
legal-over one other state call (Refused (JournalFull told needs most)) files limit is =
    (is.0, (is.1.0, is.1.1, is.1.2 ∙ limit, subst (λ (n : ℕ). n < tight state + need state call) limit is.1.3))

-- a refusal for the disk has its cause
cause : (before number time faults : ℕ) (call : Call) (given : Answer) → (given ≡ Refused Disk → Rose before faults)
    → HasCause before (Entered number call given time faults)
cause before number time faults call (Done reply) rose = tt
cause before number time faults call (Refused Memory) rose = tt
cause before number time faults call (Refused Disk) rose = rose refl
cause before number time faults call (Refused (JournalFull told needs most)) rose = tt

module _ {D : Type 0} (disk : Ghosts D) (opening : Opening)
    (past : ℕ → Image → Type 0) (notes : List Noted) (old new : OpenStore D) (number : ℕ) (call : Call) (given : Answer)
    (stands : Stands disk opening past notes old) where
  pub stands_more : Earlier (disk.left_since new.journal.disk)
      → Serves disk old new call given
      → Stands disk opening past
      (notes ++ Entered number call given (disk.time new.journal.disk) (disk.faults new.journal.disk) ∷ []) new
  stands_more earlier serves =
      let note : Noted = Entered number call given (disk.time new.journal.disk) (disk.faults new.journal.disk) in
      let entry : Entry = record { number = number; call = call; answer = given } in
      let history = history_of notes in
      let before : State = state_after opening.state history in
      let more = history-more notes note in
      let doubt = stands.keeps.0 in
      let kept = stands.keeps.2 in
      let later = serves.after doubt kept in
      let legal_here : IsLegalAnswer LacksRoom opening before call given =
      subst (λ (s : State). IsLegalAnswer LacksRoom opening s call given) stands.state
      (legal-over (opening_now disk old) opening old.state call given stands.files stands.limit
      serves.legal) in
      let state_here : new.state ≡ state_after opening.state (history_of (notes ++ note ∷ [])) =
      serves.state ∙ ap (λ (s : State). after_answer s call given) stands.state
      ∙ sym (ap (state_after opening.state) more ∙ state-more opening.state history entry) in
      let among : IsOneOf later.0 (left_behind opening.state (notes ++ note ∷ [])) =
      doubt-left opening notes number (disk.time new.journal.disk) (disk.faults new.journal.disk) call given doubt
      later.0
      legal_here stands.keeps.1 (subst (λ (s : State). DoubtAfter s doubt call given later.0) stands.state later.1) in
      record {
        begun = begun-more notes note refl stands.begun;
        legal = (
          opened-more notes note stands.begun ∙ stands.legal.0,
          subst (IsLegal opening) (sym more) (legal-more LacksRoom opening history entry stands.legal.1 legal_here),
        );
        fits = subst (AllHadRoom opening) (sym more)
            (had-more opening history entry stands.fits
            (had-room opening history old call stands.limit stands.state stands.calm given serves.fits
            serves.room));
        files = serves.files ∙ stands.files;
        limit = serves.limit ∙ stands.limit;
        state = state_here;
        calm = λ none.
            calm-more disk old.journal new.journal old.state new.state (in_doubt [] history) call doubt
            later.0 kept later.2 stands.calm given later.1
            (sym (ap (in_doubt []) more ∙ doubt-more [] history entry) ∙ none);
        keeps = (later.0, among, later.2);
        moments = stands_over-more opening.state (disk.time old.journal.disk) (disk.time new.journal.disk)
            (disk.left_since old.journal.disk) (disk.left_since new.journal.disk) notes note earlier
            serves.advances.past refl
            (λ image left. within-left opening notes number (disk.time new.journal.disk) (disk.faults new.journal.disk)
            call given
            doubt stands.keeps.1 image
            (subst (λ (s : State). RecoversOneOf (states_within s doubt call given) image) stands.state
            (serves.images doubt kept image left)))
            (λ image left. recovers-more (with_doubt new.state later.0) (left_behind opening.state (notes ++ note ∷ []))
            (subst (λ (s : State). (one : State) → Contains (with_doubt s later.0) one
            → Contains (left_behind opening.state (notes ++ note ∷ [])) one) (sym state_here)
            (doubt-among (state_after opening.state (history_of (notes ++ note ∷ []))) later.0
            (map (after (state_after opening.state (history_of (notes ++ note ∷ []))))
            (in_doubt [] (history_of (notes ++ note ∷ [])))) among)) image
            (opened_now disk new.journal new.state later.0 later.2 image left))
            opening.time (goes_on-start opening.time opening.faults notes _ _ stands.goes_on) stands.moments;
        goes_on = goes_on-more opening.time opening.faults notes (disk.time old.journal.disk)
            (disk.faults old.journal.disk) note
            stands.goes_on serves.advances.past.later serves.advances.counted
            (cause (disk.faults old.journal.disk) number (disk.time new.journal.disk) (disk.faults new.journal.disk)
            call given
            serves.failed);
        passes = passes_on opening.time (disk.time old.journal.disk) (disk.time new.journal.disk) past
            (disk.left_since old.journal.disk) (disk.left_since new.journal.disk) stands.passes serves.advances.past
            earlier;
      }

-- a tally counts one answer more
pub counts_more : (opening : Opening) (notes : List Noted) (number time faults : ℕ) (call : Call) (given : Answer)
    (old new : Tally)
    → ((state : State) (history : List Entry) (entry : Entry) → tally_with (tally_of state history) entry.answer
    ≡ record (tally_of state (history ++ entry ∷ [])) { rows = (tally_of state history).rows })
    → Counts opening notes old → new ≡ tally_with old given
    → Counts opening (notes ++ Entered number call given time faults ∷ []) new
counts_more opening notes number time faults call given old new more counts counted =
    counted
    ∙ ap (λ (t : Tally). tally_with t given) counts
    ∙ ap (λ (t : Tally). record t { rows = 0 })
    (more opening.state (history_of notes) (record { number = number; call = call; answer = given }))
    ∙ ap (λ (h : List Entry). record (tally_of opening.state h) { rows = 0 })
    (sym (history-more notes (Entered number call given time faults)))
