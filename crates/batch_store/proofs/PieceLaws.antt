-- How groups that were committed follow one another, and what one group is that a batch committed.
use Rattle.std.proofs.Common.{◌≡◌, inl, inr, refl, sym, ◌∙◌, ap, subst, arith, append_assoc}
use Rattle.std.proofs.Common.{ℕ, ◌+◌, true, Result, Ok, Err, IsOk, List, [], ◌∷◌, ◌++◌, length, map}
use Rattle.std.specs.List.{flat_map, list_all}
use Rattle.std.proofs.lemmas.Grind.{flat_map-append}
use Rattle.std.proofs.lemmas.List.{append-nil, length-append, map-append}
use Rattle.std.proofs.lemmas.List.Elements.{filter_map-append}
use Rattle.std.proofs.lemmas.List.Folds.{list_all-append}
use Rattle.skk_calls.specs.declared.call.Call.{Call}
use Rattle.skk_calls.specs.declared.chronicle.Noted.{Noted}
use Rattle.skk_calls.specs.declared.entry.Entry.{Entry}
use Rattle.skk_calls.specs.Chronicles.{history_of, noted_entry}
use Rattle.skk_calls.specs.Histories.{after_calls}
use Rattle.skk_calls.specs.Openings.{is_reply}
use Rattle.skk_calls.specs.States.{State}
use Rattle.skk_calls.specs.Tallies.{has_answer, lacks_disk}
use Rattle.skk_calls.specs.Dictionary.{after}
use Rattle.skk_disk.specs.declared.disk.Disk.{Ghosts}
use Rattle.skk_disk.specs.Moments.{Earlier}
use Rattle.skk_disk.specs.RunLaws.{advances_nothing, advances_on}
use Rattle.learned_store.specs.Stands.{NotedStore}
use Rattle.batch_store.specs.declared.group_fault.GroupFault.{GroupFault}
use Rattle.batch_store.specs.declared.group_fault.GroupFault.TheVariants.{Memory, Full, Disk}
use Rattle.batch_store.specs.Pieces.{AreCommittedIn, CommitsGroups, EndSo, StandsByPieces, Stood}
use Rattle.batch_store.specs.Pieces.{calls_in, notes_of}

-- Calls, notes and pieces one behind another

-- the calls of groups, in order
abbrev pub all_of : List (List Call) → List Call
all_of groups = flat_map (λ group. group) groups

-- the state after calls and then others
pub after-on : (state : State) (calls more : List Call)
    → after_calls state (calls ++ more) ≡ after_calls (after_calls state calls) more
after-on state [] more = refl
after-on state (call ∷ calls) more = after-on (after state call) calls more

-- the state after groups and then others
after-groups : (state : State) (groups more : List (List Call))
    → after_calls state (all_of (groups ++ more)) ≡ after_calls (after_calls state (all_of groups)) (all_of more)
after-groups state groups more =
    ap (after_calls state) (flat_map-append (λ group. group) groups more) ∙ after-on state (all_of groups) (all_of more)

-- how many calls groups and then others have
count-groups : (groups more : List (List Call))
    → length (all_of (groups ++ more)) ≡ length (all_of groups) + length (all_of more)
count-groups groups more =
    ap length (flat_map-append (λ group. group) groups more) ∙ length-append (all_of groups) (all_of more)

-- the history of notes and then others
pub history-on : (notes more : List Noted) → history_of (notes ++ more) ≡ history_of notes ++ history_of more
history-on notes more = filter_map-append noted_entry notes more

-- the notes of lists and then others
pub notes-on : (lists more : List (List Noted)) → notes_of (lists ++ more) ≡ notes_of lists ++ notes_of more
notes-on lists more = flat_map-append (λ notes. notes) lists more

-- groups may be committed each as one
cut-whole : (limit : ℕ) (state : State) (groups : List (List Call)) → AreCommittedIn limit state groups groups
cut-whole limit state [] = refl
cut-whole limit state (calls ∷ groups) = (groups, cut-whole limit (after_calls state calls) groups, inl refl)

-- the pieces of groups and those of others behind them are pieces of all
cut-on : (limit : ℕ) (state : State) (groups pieces more rest : List (List Call))
    → AreCommittedIn limit state groups pieces
    → AreCommittedIn limit (after_calls state (all_of groups)) more rest
    → AreCommittedIn limit state (groups ++ more) (pieces ++ rest)
cut-on limit state [] pieces more rest cut behind =
    subst (λ (p : List (List Call)). AreCommittedIn limit state more (p ++ rest)) (sym cut) behind
cut-on limit state (calls ∷ groups) pieces more rest cut behind = (
  cut.0 ++ rest,
  cut-on limit (after_calls state calls) groups cut.0 more rest cut.1
      (subst (λ (s : State). AreCommittedIn limit s more rest) (after-on state calls (all_of groups)) behind),
  elim cut.2 [
    | inl is ↦ inl (ap (λ p. p ++ rest) is)
    | inr is ↦ inr (is.0, ap (λ p. p ++ rest) is.1 ∙ append_assoc (map (λ call. call ∷ []) calls) cut.0 rest)
  ],
)

-- replies and then others
served-on : (front back : List Entry) → list_all (λ entry. is_reply entry.answer) front ≡ true
    → list_all (λ entry. is_reply entry.answer) back ≡ true
    → list_all (λ entry. is_reply entry.answer) (front ++ back) ≡ true
served-on front back one other = grind (arith, list_all-append (λ entry. is_reply entry.answer) front back)

-- a history has the refusals of its last part
some-on : (front back : List Entry) → has_answer lacks_disk back ≡ true → has_answer lacks_disk (front ++ back) ≡ true
some-on [] back e = e
some-on (entry ∷ front) back e = grind (arith, some-on front back)

-- answers that are all replies, and then others, end as these do
end-on : (front back : List Entry) (result : Result (Unit {0}) GroupFault)
    → list_all (λ entry. is_reply entry.answer) front ≡ true → EndSo result back → EndSo result (front ++ back)
end-on front back (Ok done) all end = served-on front back all end
end-on front back (Err Memory) all end = served-on front back all end
end-on front back (Err Disk) all end = some-on front back end
end-on front back (Err (Full told need limit)) all end = (
  front ++ end.0,
  end.1,
  served-on front end.0 all end.2,
  ap (λ h. front ++ h) end.3 ∙ sym (append_assoc front end.0 _),
)

-- Groups one behind another

module _ {D : Type 0} (disk : Ghosts D) where
  -- of no groups, a store that stays
  pub commits-none : (store : NotedStore D) → CommitsGroups disk store store [] (Ok tt)
  commits-none store = record {
    pieces = [];
    lists = [];
    cut = refl;
    noted = ([], refl);
    all = λ ok. refl;
    notes = sym (append-nil store.notes);
    answers = refl;
    failed = λ e. absurd (cc);
    after = λ ok. refl;
    limit = refl;
    files = refl;
    counted = λ book. omega arith;
    stands = λ opened start before stood.
        subst (λ (lists : List (List Noted)). (IsOk {T = Unit {0}} {E = GroupFault} (Ok tt)
        → Stood disk opened start lists store.store)
        × StandsByPieces opened lists start (disk.time store.store.journal.disk)
        (disk.left_since store.store.journal.disk)) (sym (append-nil before)) ((λ ok. stood), stood.moments);
    advances = advances_nothing disk store.store.journal.disk;
  }

  -- of any groups, a store that stays, where there is no memory for the first one
  pub commits-still : (store : NotedStore D) (groups : List (List Call))
      → CommitsGroups disk store store groups (Err Memory)
  commits-still store groups = record {
    pieces = groups;
    lists = [];
    cut = cut-whole store.store.limit store.store.state groups;
    noted = (groups, refl);
    all = λ ok. absurd (cc);
    notes = sym (append-nil store.notes);
    answers = refl;
    failed = λ e. absurd (cc);
    after = λ ok. absurd (cc);
    limit = refl;
    files = refl;
    counted = λ book. omega arith;
    stands = λ opened start before stood. (
      λ ok. absurd (cc),
      subst (λ (lists : List (List Noted)). StandsByPieces opened lists start (disk.time store.store.journal.disk)
          (disk.left_since store.store.journal.disk)) (sym (append-nil before)) stood.moments,
    );
    advances = advances_nothing disk store.store.journal.disk;
  }

  -- where one was refused, none behind it is begun
  pub commits-refused : (old new : NotedStore D) (groups more : List (List Call)) (fault : GroupFault)
      → CommitsGroups disk old new groups (Err fault) → CommitsGroups disk old new (groups ++ more) (Err fault)
  commits-refused old new groups more fault is = record {
    pieces = is.pieces ++ more;
    lists = is.lists;
    cut = cut-on old.store.limit old.store.state groups is.pieces more more is.cut
        (cut-whole old.store.limit (after_calls old.store.state (all_of groups)) more);
    noted = (
      is.noted.0 ++ more,
      ap (λ p. p ++ more) is.noted.1 ∙ append_assoc (map calls_in is.lists) is.noted.0 more,
    );
    all = λ ok. absurd (cc);
    notes = is.notes;
    answers = is.answers;
    failed = is.failed;
    after = λ ok. absurd (cc);
    limit = is.limit;
    files = is.files;
    counted = λ book. omega (arith, is.counted book, count-groups groups more);
    stands = λ opened start before stood. (λ ok. absurd (cc), (is.stands opened start before stood).1);
    advances = is.advances;
  }

  -- groups that were all served, and others behind them, are committed as one list of groups
  pub commits-on : (old mid new : NotedStore D) (groups more : List (List Call))
      (result : Result (Unit {0}) GroupFault) → Earlier (disk.left_since new.store.journal.disk)
      → CommitsGroups disk old mid groups (Ok tt) → CommitsGroups disk mid new more result
      → CommitsGroups disk old new (groups ++ more) result
  commits-on old mid new groups more result earlier one two = record {
    pieces = one.pieces ++ two.pieces;
    lists = one.lists ++ two.lists;
    cut = cut-on old.store.limit old.store.state groups one.pieces more two.pieces one.cut
        (subst (λ (s : State). AreCommittedIn old.store.limit s more two.pieces) (one.after refl)
        (subst (λ (l : ℕ). AreCommittedIn l mid.store.state more two.pieces) one.limit two.cut));
    noted = (
      two.noted.0,
      (λ i. one.all refl i ++ two.noted.1 i)
          ∙ sym (append_assoc (map calls_in one.lists) (map calls_in two.lists) two.noted.0)
          ∙ ap (λ p. p ++ two.noted.0) (sym (map-append calls_in one.lists two.lists)),
    );
    all = λ ok. (λ i. one.all refl i ++ two.all ok i) ∙ sym (map-append calls_in one.lists two.lists);
    notes = two.notes ∙ ap (λ n. n ++ notes_of two.lists) one.notes
        ∙ append_assoc old.notes (notes_of one.lists) (notes_of two.lists)
        ∙ ap (λ n. old.notes ++ n) (sym (notes-on one.lists two.lists));
    answers = subst (EndSo result)
        (sym (ap history_of (notes-on one.lists two.lists) ∙ history-on (notes_of one.lists) (notes_of two.lists)))
        (end-on (history_of (notes_of one.lists)) (history_of (notes_of two.lists)) result one.answers two.answers);
    failed = λ e. let rose = two.failed e in omega (arith, rose, one.advances.counted);
    after = λ ok. two.after ok ∙ ap (λ s. after_calls s (all_of more)) (one.after refl)
        ∙ sym (after-groups old.store.state groups more);
    limit = two.limit ∙ one.limit;
    files = two.files ∙ one.files;
    counted = λ book. omega (arith, one.counted book, two.counted book, count-groups groups more);
    stands = λ opened start before stood.
        subst (λ (lists : List (List Noted)). (IsOk result → Stood disk opened start lists new.store)
        × StandsByPieces opened lists start (disk.time new.store.journal.disk)
        (disk.left_since new.store.journal.disk)) (append_assoc before one.lists two.lists)
        (two.stands opened start (before ++ one.lists) ((one.stands opened start before stood).0 refl));
    advances = advances_on disk old.store.journal.disk mid.store.journal.disk new.store.journal.disk one.advances
        two.advances earlier;
  }
