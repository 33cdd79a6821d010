-- What runs of `import` leave, of what their parts leave.
use Rattle.std.proofs.Common.{◌≡◌, ◌∙◌, ◌⊎◌, ◌<◌, ◌≤◌, ℕ, true, refl, sym, ap}
use Rattle.std.proofs.Common.{subst, IfSome, Option, None, Some, Result, Ok, Err, inl, inr}
use Rattle.std.proofs.Common.{List, [], ◌∷◌, ◌++◌, map, append-nil, min, arith}
use Rattle.std.proofs.lemmas.List.Elements.{All-nil, filter_map-append}
use Rattle.std.proofs.lemmas.List.{map-append}
use Rattle.std.specs.List.{All, flat_map}
use Rattle.skk_outside.specs.Faults.{Rose}
use Rattle.skk_outside.specs.Moved.{Told, MovedSink}
use Rattle.skk_text.specs.Counts.{last_count}
use Rattle.skk_calls.specs.declared.call.Call.{Call}
use Rattle.skk_calls.specs.declared.chronicle.Noted.{Noted}
use Rattle.skk_calls.specs.declared.entry.Entry.{Entry}
use Rattle.skk_calls.specs.Chronicles.{history_of, noted_entry}
use Rattle.skk_calls.specs.Histories.{Opening, after_calls}
use Rattle.skk_calls.specs.Openings.{IsLegalOver, are_of_one}
use Rattle.skk_calls.specs.Rows.{Row}
use Rattle.skk_calls.specs.States.{State, count_of}
use Rattle.skk_calls.specs.Tallies.{Tally, count_rows, tally_of}
use Rattle.skk_disk.specs.declared.disk.Disk.{Ghosts}
use Rattle.skk_disk.specs.Image.{Image}
use Rattle.dict_format.specs.FileLines.{Lists}
use Rattle.dict_format.specs.declared.file.Listed.{Listed}
use Rattle.learned_store.specs.declared.closed.Closed.{Closed}
use Rattle.learned_store.specs.declared.parts.Parts.{Parts}
use Rattle.learned_store.specs.Stands.{NotedStore, faults_of, opening_note, time_of}
use Rattle.learned_store.specs.Stores.{Keeps, OpenStore, Recovers, opening_now}
use Rattle.learned_store.specs.DoubtLaws.{first_is}
use Rattle.batch_store.specs.declared.group_fault.GroupFault.{GroupFault}
use Rattle.batch_store.specs.declared.group_fault.GroupFault.TheVariants as groups
use Rattle.batch_store.specs.declared.import_fault.ImportFault.{ImportFault}
use Rattle.batch_store.specs.declared.import_fault.ImportFault.TheVariants as imports
use Rattle.batch_store.specs.Entries.{AreEntered, NeverFall, store_of}
use Rattle.batch_store.specs.Imports.{HasStamps, ImportsRows, LeavesImported, stamps_taken}
use Rattle.batch_store.specs.Learnings.{import_groups}
use Rattle.batch_store.specs.Pieces.{AreCommittedIn, EndSo, StandsByPieces, Stood, calls_in, notes_of}
use Rattle.caller_work.specs.Disks.{disk_now}
use Rattle.run_endings.specs.Status.{Ended}
use Rattle.skk_top.specs.Dictionaries.{AreRowsOf}
use Rattle.skk_top.specs.ImportCommand.{LearnsInGroups, LearnsRows, LearnsSo, StandsBehind, TellsImport}
use Rattle.skk_top.proofs.Runs.{each_some}

-- the rows that a file lists are those of the one dictionary
pub rows-read : (file : Told) (listed : Listed) → IfSome file (λ bytes. Lists bytes listed)
    → AreRowsOf (listed.book ∷ []) (file ∷ [])
rows-read file listed lists = (each_some file (λ bytes is. (listed, is, refl)) lists, tt)

-- the parts that a store was taken apart into are those of that store
pub store-again : {D : Type 0} (store : OpenStore D) (parts : Parts D) → parts.index.state ≡ store.state
    → parts.system ≡ store.files → parts.journal ≡ store.journal → parts.limit ≡ store.limit → store_of parts ≡ store
store-again store parts state files journal limit =
    λ i. record { journal = journal i; state = state i; files = files i; limit = limit i }

-- and so is the opening that a batch of them has noted
pub notes-again : {D : Type 0} (ghosts : Ghosts D) (old : NotedStore D) (store : OpenStore D) (parts : Parts D)
    → old.store ≡ store_of parts → old.notes ≡ opening_note (opening_now ghosts (store_of parts)) ∷ []
    → old.store ≡ store → old.notes ≡ opening_note (opening_now ghosts store) ∷ []
notes-again {D} ghosts old store parts of_parts noted again =
    noted ∙ ap (λ (s : OpenStore D). opening_note (opening_now ghosts s) ∷ []) (sym of_parts ∙ again)

-- a history behind an opening that was noted is over this one
pub opening-noted : (opening other : Opening) (notes : List Noted) → IsLegalOver other (opening_note opening ∷ notes)
    → other ≡ opening
opening-noted opening other notes legal = cc legal.0

-- the calls of lists of notes are those of each, in order
calls-of-lists : (lists : List (List Noted)) → calls_in (notes_of lists) ≡ flat_map calls_in lists
calls-of-lists [] = refl
calls-of-lists (notes ∷ lists) =
    ap (map (λ (entry : Entry). entry.call)) (filter_map-append noted_entry notes (notes_of lists))
    ∙ map-append (λ (entry : Entry). entry.call) (history_of notes) (history_of (notes_of lists))
    ∙ ap (λ calls. calls_in notes ++ calls) (calls-of-lists lists)

-- along notes counts of faults do not fall
never-fewer : (time faults : ℕ) (notes : List Noted) (last_time last_faults : ℕ)
    → NeverFall time faults notes last_time last_faults → faults ≤ last_faults
never-fewer time faults [] last_time last_faults falls = falls.1
never-fewer time faults (note ∷ notes) last_time last_faults falls =
    let rest = never-fewer (time_of note) (faults_of note) notes last_time last_faults falls.2 in
    omega (arith, falls.1, rest)

module _ {D : Type 0} (ghosts : Ghosts D) (opening : Opening) (book : ℕ) (rows : List Row) (old new : NotedStore D)
    (begun : old.notes ≡ opening_note opening ∷ []) where
  -- behind an import the notes are those of the opening and of its lists
  pub noted-so : (result : Result (Unit {0}) GroupFault) (rows_in : ImportsRows ghosts old new book rows result)
      → new.notes ≡ opening_note opening ∷ notes_of rows_in.groups.lists
  noted-so result rows_in = rows_in.groups.notes ∙ ap (λ notes. notes ++ notes_of rows_in.groups.lists) begun

  -- so the learnings are as the import left them
  learns-so : old.store.state ≡ opening.state → (done : Result (Unit {0}) ImportFault)
      → LeavesImported ghosts old new book rows done → LearnsSo book rows opening new.notes done
  learns-so same (Ok all) leaves =
      let rows_in = leaves.1 in
      let flat = flat_map calls_in rows_in.groups.lists in
      let noted = noted-so (Ok all) rows_in in (
        subst (λ (state : State). HasStamps (count_of state book) book rows) same leaves.0,
        ap calls_in noted ∙ calls-of-lists rows_in.groups.lists
            ∙ sym (rows_in.calls.1 ∙ ap (λ left. flat ++ left) (rows_in.calls.2 refl) ∙ append-nil flat),
        subst (λ (notes : List Noted). EndSo (Ok all) (history_of notes)) (sym noted) rows_in.groups.answers,
      )
  learns-so same (Err imports.StampsEnd) leaves = (
    subst (λ (state : State). last_count < stamps_taken (count_of state book) book rows) same leaves.0,
    ap history_of (ap (λ (noted : NotedStore D). noted.notes) leaves.1 ∙ begun),
  )
  learns-so same (Err (imports.Refused fault)) leaves =
      let rows_in = leaves.1 in
      let noted = noted-so (Err fault) rows_in in (
        subst (λ (state : State). (fault ≡ groups.Memory) ⊎ HasStamps (count_of state book) book rows) same leaves.0,
        (
          rows_in.calls.0,
          rows_in.calls.1
              ∙ ap (λ calls. calls ++ rows_in.calls.0)
              (sym (ap calls_in noted ∙ calls-of-lists rows_in.groups.lists)),
        ),
        subst (λ (notes : List Noted). EndSo (Err fault) (history_of notes)) (sym noted) rows_in.groups.answers,
      )

  -- and the notes begin with the opening
  begins : (done : Result (Unit {0}) ImportFault) → LeavesImported ghosts old new book rows done
      → (rest : List Noted) × (new.notes ≡ opening_note opening ∷ rest)
  begins (Ok all) leaves = (notes_of leaves.1.groups.lists, noted-so (Ok all) leaves.1)
  begins (Err imports.StampsEnd) leaves = ([], ap (λ (noted : NotedStore D). noted.notes) leaves.1 ∙ begun)
  begins (Err (imports.Refused fault)) leaves = (notes_of leaves.1.groups.lists, noted-so (Err fault) leaves.1)

  -- where the disk is blamed its count of faults rose
  rose : (done : Result (Unit {0}) ImportFault) → LeavesImported ghosts old new book rows done
      → done ≡ Err (imports.Refused groups.Disk)
      → Rose (ghosts.faults old.store.journal.disk) (ghosts.faults new.store.journal.disk)
  rose (Ok all) leaves is = absurd (cc is)
  rose (Err imports.StampsEnd) leaves is = absurd (cc is)
  rose (Err (imports.Refused fault)) leaves is = leaves.1.groups.failed (cc is)

  -- no count of faults of the disk fell
  pub faults-counted : (done : Result (Unit {0}) ImportFault) → LeavesImported ghosts old new book rows done
      → {tally : Tally} → AreEntered ghosts new.notes tally new.store
      → opening.faults ≤ ghosts.faults new.store.journal.disk
  faults-counted done leaves entered =
      let first = begins done leaves in
      let own : entered.opening ≡ opening =
      opening-noted opening entered.opening first.0
      (subst (IsLegalOver entered.opening) first.1 entered.legal) in
      subst (λ (o : Opening). o.faults ≤ ghosts.faults new.store.journal.disk) own
      (never-fewer entered.opening.time entered.opening.faults new.notes _ _ entered.goes_on)

  -- what a closed dictionary leaves behind an import
  pub learns-closed : (closed : Closed D) (out : MovedSink) (ended : Ended) (done : Result (Unit {0}) ImportFault)
      → old.store.state ≡ opening.state → ghosts.faults old.store.journal.disk ≡ opening.faults
      → LeavesImported ghosts old new book rows done → closed.disk ≡ new.store.journal.disk
      → closed.chronicle ≡ new.notes
      → (tally : Tally) × AreEntered ghosts new.notes tally new.store
      × (closed.tally ≡ record tally { rows = min (count_rows new.store.state) last_count })
      → TellsImport done closed.tally.learned ended out
      → LearnsRows book rows opening (record { ended = ended; chronicle = closed.chronicle; disk = closed.disk }) out
      (disk_now ghosts closed.disk)
  learns-closed closed out ended done same faults leaves disk chronicle (tally, entered, counted) tells =
      let first = begins done leaves in
      let own : entered.opening ≡ opening =
      opening-noted opening entered.opening first.0
      (subst (IsLegalOver entered.opening) first.1 entered.legal) in
      let legal : IsLegalOver opening closed.chronicle =
      subst (IsLegalOver opening) (sym chronicle)
      (subst (λ (o : Opening). IsLegalOver o new.notes) own entered.legal) in
      let learned : closed.tally.learned ≡ (tally_of opening.state (history_of closed.chronicle)).learned =
      ap (λ (t : Tally). t.learned) counted ∙ ap (λ (t : Tally). t.learned) entered.counted
      ∙ ap (λ (o : Opening). (tally_of o.state (history_of new.notes)).learned) own
      ∙ ap (λ notes. (tally_of opening.state (history_of notes)).learned) (sym chronicle) in
      record {
        done = done;
        legal = legal;
        one = subst (λ (notes : List Noted). are_of_one notes ≡ true) (sym chronicle) entered.one;
        learns = subst (λ (notes : List Noted). LearnsSo book rows opening notes done) (sym chronicle)
            (learns-so same done leaves);
        failed = λ is. subst (λ (d : D). Rose opening.faults (ghosts.faults d)) (sym disk)
            (subst (λ (count : ℕ). Rose count (ghosts.faults new.store.journal.disk)) faults (rose done leaves is));
        tells = subst (λ (count : ℕ). TellsImport done count ended out) learned tells;
      }

-- What a stop leaves

-- groups may be committed each whole
whole : (limit : ℕ) (state : State) (calls : List (List Call)) → AreCommittedIn limit state calls calls
whole limit state [] = refl
whole limit state (group ∷ calls) = (calls, whole limit (after_calls state group) calls, inl refl)

module _ {D : Type 0} (ghosts : Ghosts D) (store : OpenStore D) (keeps : Keeps ghosts store.journal store.state None)
    (start : ℕ) (early : start ≤ ghosts.time store.journal.disk)
    (images : (time : ℕ) (image : Image) → start ≤ time → time ≤ ghosts.time store.journal.disk
    → ghosts.left_since store.journal.disk time image → Recovers store.state image) where
  -- behind no note a store that was opened stands
  behind-none : StandsByPieces store.state [] start (ghosts.time store.journal.disk)
      (ghosts.left_since store.journal.disk)
  behind-none time image from to left = record {
    front = [];
    back = [];
    is = refl;
    later = All-nil (All (λ (note : Noted). time < time_of note));
    recovers = (store.state, first_is store.state (store.state ∷ []), images time image from to left);
  }

  stood-begun : Stood ghosts store.state start [] store
  stood-begun = record {
    early = early;
    state = refl;
    calm = refl;
    made = All-nil (All (λ (note : Noted). time_of note ≤ ghosts.time store.journal.disk));
    keeps = keeps;
    moments = behind-none;
  }

module _ {D : Type 0} (ghosts : Ghosts D) (book : ℕ) (rows : List Row) (old new : NotedStore D)
    (begun : old.notes ≡ opening_note (opening_now ghosts old.store) ∷ [])
    (keeps : Keeps ghosts old.store.journal old.store.state None) where
  -- the learnings of an import stand in pieces, at each moment
  abbrev LearnsBehind : List Noted → D → Type 0
  LearnsBehind chronicle disk = LearnsInGroups book rows (opening_now ghosts old.store) chronicle
      (λ lists. StandsBehind old.store.state lists (disk_now ghosts old.store.journal.disk) (disk_now ghosts disk))

  rows-in-groups : (result : Result (Unit {0}) GroupFault) → ImportsRows ghosts old new book rows result
      → LearnsBehind new.notes new.store.journal.disk
  rows-in-groups result rows_in = record {
    pieces = rows_in.groups.pieces;
    lists = rows_in.groups.lists;
    cut = rows_in.groups.cut;
    noted = rows_in.groups.noted;
    is = noted-so ghosts (opening_now ghosts old.store) book rows old new begun result rows_in;
    holds = λ start early images.
        (rows_in.groups.stands old.store.state start [] (stood-begun ghosts old.store keeps start early images)).1;
  }

  pub learns-in-groups : (done : Result (Unit {0}) ImportFault) → LeavesImported ghosts old new book rows done
      → LearnsBehind new.notes new.store.journal.disk
  learns-in-groups (Ok all) leaves = rows-in-groups (Ok all) leaves.1
  learns-in-groups (Err (imports.Refused fault)) leaves = rows-in-groups (Err fault) leaves.1
  learns-in-groups (Err imports.StampsEnd) leaves =
      subst (λ (noted : NotedStore D). LearnsBehind noted.notes noted.store.journal.disk) (sym leaves.1) (record {
        pieces = import_groups book rows;
        lists = [];
        cut = whole old.store.limit old.store.state (import_groups book rows);
        noted = (import_groups book rows, refl);
        is = begun;
        holds = λ start early images. behind-none ghosts old.store keeps start early images;
      })

-- so they do over the store that the dictionary was made of, up to its closing
pub learns-over : {D : Type 0} (ghosts : Ghosts D) (book : ℕ) (rows : List Row) (old new : NotedStore D)
    (store : OpenStore D) → old.store ≡ store → old.notes ≡ opening_note (opening_now ghosts store) ∷ []
    → Keeps ghosts store.journal store.state None → (done : Result (Unit {0}) ImportFault)
    → LeavesImported ghosts old new book rows done → (closed : Closed D) → closed.disk ≡ new.store.journal.disk
    → closed.chronicle ≡ new.notes
    → LearnsInGroups book rows (opening_now ghosts store) closed.chronicle
    (λ lists. StandsBehind store.state lists (disk_now ghosts store.journal.disk) (disk_now ghosts closed.disk))
learns-over {D} ghosts book rows old new store again begun keeps done leaves closed disk chronicle =
    let before : old.notes ≡ opening_note (opening_now ghosts old.store) ∷ [] =
    subst (λ (s : OpenStore D). old.notes ≡ opening_note (opening_now ghosts s) ∷ []) (sym again) begun in
    let kept : Keeps ghosts old.store.journal old.store.state None =
    subst (λ (s : OpenStore D). Keeps ghosts s.journal s.state None) (sym again) keeps in
    subst (λ (s : OpenStore D). LearnsInGroups book rows (opening_now ghosts s) closed.chronicle
    (λ lists. StandsBehind s.state lists (disk_now ghosts s.journal.disk) (disk_now ghosts closed.disk))) again
    (subst (λ (d : D). LearnsInGroups book rows (opening_now ghosts old.store) closed.chronicle
    (λ lists. StandsBehind old.store.state lists (disk_now ghosts old.store.journal.disk) (disk_now ghosts d)))
    (sym disk)
    (subst (λ (notes : List Noted). LearnsInGroups book rows (opening_now ghosts old.store) notes
    (λ lists. StandsBehind old.store.state lists (disk_now ghosts old.store.journal.disk)
    (disk_now ghosts new.store.journal.disk))) (sym chronicle)
    (learns-in-groups ghosts book rows old new before kept done leaves)))
