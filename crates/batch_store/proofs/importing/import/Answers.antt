-- An import: the levels so far, the next one, and where a group of it is refused those behind it.
use Rattle.std.proofs.Common.{◌≡◌, ◌∙◌, ℕ, true, Bor, Global, Vec, refl, inl, inr, sym, ap, subst, arith}
use Rattle.std.proofs.Common.{Result, Ok, Err, List, [], ◌++◌, length, map, append-nil}
use Rattle.std.proofs.lemmas.List.{length-map}
use Rattle.std.proofs.lemmas.List.Folds.{list_all-map}
use Rattle.std.proofs.lemmas.Result.{err_from_is_err_and}
use Rattle.std.specs.List.{flat_map, list_all}
use Rattle.skk_calls.specs.declared.call.Call.{Call}
use Rattle.skk_calls.specs.Rows.{Row, keys_differ}
use Rattle.dict_format.specs.PrintedFiles.{in_printing_order}
use Rattle.batch_store.specs.declared.group_fault.GroupFault.{GroupFault}
use Rattle.batch_store.specs.declared.group_fault.GroupFault.TheVariants.{Memory}
use Rattle.batch_store.specs.declared.import_fault.ImportFault.{ImportFault}
use Rattle.batch_store.specs.declared.import_fault.ImportFault.TheVariants.{Refused}
use Rattle.batch_store.specs.Imports.{LeavesImported}
use Rattle.batch_store.specs.Learnings.{groups_below, import_calls, import_groups, in_groups, learnings_at}
use Rattle.batch_store.specs.Learnings.{learnings_below, most_cands}
use Rattle.batch_store.specs.Levels.{has_rank, levels_below}
use Rattle.batch_store.specs.Pieces.{CommitsGroups}
use Rattle.batch_store.proofs.ImportLaws.{as-many, beyond, calls-are, imports-rows, level-behind, level-calls}
use Rattle.batch_store.proofs.ImportLaws.{level-is, level-ranked, others-below, within}
use Rattle.batch_store.proofs.LearningLaws.{keys_kept, length-learnings_below, length-levels}
use Rattle.batch_store.proofs.PieceLaws.{commits-none, commits-on, commits-refused, commits-still}
use Rattle.batch_store.proofs.importing.import.Goals as goal

-- a row as it is lent, and the rows of a level
abbrev own : Bor Row → Row
own row = row.now

abbrev rows_in : Vec (Bor Row) Global → List Row
rows_in level = map own level.items

-- memory was out for the levels
pub returns-in_err-levels : goal.returns-in_err-levels
returns-in_err-levels g c =
    let old = c.args.batch.now in
    let out = err_from_is_err_and c.from_residual.result c.from_residual.ensures.1 in
    let fault : out.0 ≡ Refused Memory = out.2 in
    subst (λ (r : Result (Unit {0}) ImportFault). LeavesImported g.D.Disk old old c.args.number c.args.book.now r)
    (sym (out.1 ∙ ap (λ (f : ImportFault). Err f) fault)) (
      inl refl,
      imports-rows g.D.Disk old old c.args.number c.args.book.now (Err Memory)
          (commits-still g.D.Disk old (import_groups c.args.number c.args.book.now)),
    )

-- all levels have as many rows as there are learnings
module _ (number : ℕ) (book : List Row) (levels : List (Vec (Bor Row) Global))
    (are : map rows_in levels ≡ levels_below (in_printing_order book) (most_cands (in_printing_order book))) where
  rows-many : length (flat_map (λ (level : Vec (Bor Row) Global). level.items) levels)
      ≡ length (import_calls number book)
  rows-many =
      length-levels (λ (level : Vec (Bor Row) Global). level.items) own levels
      ∙ ap (λ (l : List (List Row)). length (flat_map (λ level. level) l)) are
      ∙ sym (length-learnings_below number (in_printing_order book) (most_cands (in_printing_order book)))

  ranks-many : length levels ≡ most_cands (in_printing_order book)
  ranks-many = as-many rows_in levels (in_printing_order book) (most_cands (in_printing_order book)) are

-- the book has not enough stamps
pub returns-then-not-has_stamps_for : goal.returns-then-not-has_stamps_for
returns-then-not-has_stamps_for g c =
    let short = beyond _ _ c.if-not-has_stamps_for.ensures in
    let many = rows-many c.args.number c.args.book.now c.in_ok-levels.levels.items c.in_ok-levels.ensures.levels in
    let lent = ap (λ (l : List (Vec (Bor Row) Global)).
    length (flat_map (λ (level : Vec (Bor Row) Global). level.items) l)) c.deref.ensures.value in
    (omega (arith, short, many, lent, c.count.ensures), refl)

pub loop-level-init : goal.loop-level-init
loop-level-init g c =
    let printed = in_printing_order c.args.book.now in
    let are = c.in_ok-levels.ensures.levels in
    let many = ranks-many c.args.number c.args.book.now c.in_ok-levels.levels.items are in
    record {
      done = [];
      served = commits-none g.D.Disk c.args.batch.now;
      levels = are ∙ ap (levels_below printed) (sym many);
      left = ap (groups_below c.args.number printed) many;
      stamps = omega (arith, ap (λ (n : ℕ). length (learnings_below c.args.number printed n)) many);
    }

-- the next level is learnt
pub import_level-requires-clause-ranked : goal.import_level-requires-clause-ranked
import_level-requires-clause-ranked g c =
    let level = c.in-Some.level in
    let front = c.pop.new.self.items in
    let rank : c.len.result ≡ length front = omega (arith, c.len.ensures, c.pop.new.self.ok) in
    subst (λ (n : ℕ). list_all (λ (row : Bor Row). has_rank n row.now) c.deref-in-Some.result.now ≡ true) (sym rank)
    (subst (λ (rows : List (Bor Row)). list_all (λ (row : Bor Row). has_rank (length front) row.now) rows ≡ true)
    (sym c.deref-in-Some.ensures.value)
    (sym (list_all-map (has_rank (length front)) own level.items)
    ∙ level-ranked rows_in (in_printing_order c.args.book.now) c.loop-level.levels.items front level
    c.in-Some.ensures.items c.loop-level.invariant.levels))

pub import_level-requires-clause-differ : goal.import_level-requires-clause-differ
import_level-requires-clause-differ g c =
    let level = c.in-Some.level in
    let front = c.pop.new.self.items in
    let printed = in_printing_order c.args.book.now in
    subst (λ (rows : List (Bor Row)). keys_differ (map own rows) ≡ true) (sym c.deref-in-Some.ensures.value)
    (subst (λ (rows : List Row). keys_differ rows ≡ true)
    (sym (level-is rows_in printed c.loop-level.levels.items front level c.in-Some.ensures.items
    c.loop-level.invariant.levels))
    (keys_kept (has_rank (length front)) printed
    (c.printing_order_moves_rows.ensures.keys c.args.book.now c.in_ok-levels.ensures.of_book.differ)))

pub import_level-requires-clause-stamps : goal.import_level-requires-clause-stamps
import_level-requires-clause-stamps g c =
    let level = c.in-Some.level in
    let kept = c.loop-level.invariant in
    let printed = in_printing_order c.args.book.now in
    let counted = kept.served.counted c.args.number in
    let fits = within _ _ c.if-not-has_stamps_for.ensures in
    let many = rows-many c.args.number c.args.book.now c.in_ok-levels.levels.items c.in_ok-levels.ensures.levels in
    let lent = ap (λ (l : List (Vec (Bor Row) Global)).
    length (flat_map (λ (level : Vec (Bor Row) Global). level.items) l)) c.deref.ensures.value in
    let calls = calls-are rows_in printed c.loop-level.levels.items c.pop.new.self.items level c.in-Some.ensures.items
    kept.levels c.args.number in
    omega (
      arith,
      counted,
      fits,
      many,
      lent,
      c.count.ensures,
      kept.stamps,
      calls,
      length-map level.items own,
      ap length c.deref-in-Some.ensures.value,
    )

-- a group of it was refused
pub returns-in_err-import_level : goal.returns-in_err-import_level
returns-in_err-import_level g c =
    let old = c.args.batch.now in
    let mid = c.loop-level.batch in
    let new = c.import_level.new.batch in
    let level = c.in-Some.level in
    let front = c.pop.new.self.items in
    let kept = c.loop-level.invariant in
    let number = c.args.number in
    let printed = in_printing_order c.args.book.now in
    let groups = in_groups (learnings_at number (map own c.deref-in-Some.result.now) c.len.result) in
    let rank : c.len.result ≡ length front = omega (arith, c.len.ensures, c.pop.new.self.ok) in
    let are : groups ≡ in_groups (learnings_at number (rows_in level) (length front)) =
    ap (λ (rows : List (Bor Row)). in_groups (learnings_at number (map own rows) c.len.result))
    c.deref-in-Some.ensures.value
    ∙ ap (λ (n : ℕ). in_groups (learnings_at number (rows_in level) n)) rank in
    let all = level-behind rows_in printed c.loop-level.levels.items front level c.in-Some.ensures.items kept.levels
    number groups are kept.done (import_groups number c.args.book.now) kept.left in
    let fits = within _ _ c.if-not-has_stamps_for.ensures in
    let many = rows-many number c.args.book.now c.in_ok-levels.levels.items c.in_ok-levels.ensures.levels in
    let lent = ap (λ (l : List (Vec (Bor Row) Global)).
    length (flat_map (λ (level : Vec (Bor Row) Global). level.items) l)) c.deref.ensures.value in
    let fault : GroupFault = c.in_err-import_level.field-0.0 in
    let out = err_from_is_err_and c.from_residual-in_err-import_level.result
    c.from_residual-in_err-import_level.ensures.1 in
    let is : out.0 ≡ Refused fault = out.2 in
    subst (λ (r : Result (Unit {0}) ImportFault). LeavesImported g.D.Disk old new number c.args.book.now r)
    (sym (out.1 ∙ ap (λ (f : ImportFault). Err f) is)) (
      inr (omega (arith, fits, many, lent, c.count.ensures)),
      imports-rows g.D.Disk old new number c.args.book.now (Err fault)
          (subst (λ (those : List (List Call)). CommitsGroups g.D.Disk old new those (Err fault)) all
          (commits-refused g.D.Disk old new (kept.done ++ groups) (groups_below number printed (length front)) fault
          (commits-on g.D.Disk old mid new kept.done groups (Err fault) (g.met.D.Disk.earlier new.store.journal.disk)
          kept.served c.in_err-import_level.ensures))),
    )

-- it was served
pub loop-level-preserved : goal.loop-level-preserved
loop-level-preserved g c =
    let old = c.args.batch.now in
    let new = c.import_level.new.batch in
    let level = c.in-Some.level in
    let front = c.pop.new.self.items in
    let kept = c.loop-level.invariant in
    let number = c.args.number in
    let printed = in_printing_order c.args.book.now in
    let groups = in_groups (learnings_at number (map own c.deref-in-Some.result.now) c.len.result) in
    let rank : c.len.result ≡ length front = omega (arith, c.len.ensures, c.pop.new.self.ok) in
    let are : groups ≡ in_groups (learnings_at number (rows_in level) (length front)) =
    ap (λ (rows : List (Bor Row)). in_groups (learnings_at number (map own rows) c.len.result))
    c.deref-in-Some.ensures.value
    ∙ ap (λ (n : ℕ). in_groups (learnings_at number (rows_in level) n)) rank in
    let popped = c.in-Some.ensures.items in
    record {
      done = kept.done ++ groups;
      served = commits-on g.D.Disk old c.loop-level.batch new kept.done groups (Ok tt)
          (g.met.D.Disk.earlier new.store.journal.disk) kept.served c.in_ok-import_level.ensures;
      levels = others-below rows_in printed c.loop-level.levels.items front level popped kept.levels;
      left = level-behind rows_in printed c.loop-level.levels.items front level popped kept.levels number groups are
          kept.done (import_groups number c.args.book.now) kept.left;
      stamps = level-calls rows_in printed c.loop-level.levels.items front level popped kept.levels number groups are
          kept.done (length (import_calls number c.args.book.now)) kept.stamps;
    }

-- all levels were
pub returns : goal.returns
returns g c =
    let old = c.args.batch.now in
    let new = c.loop-level.batch in
    let kept = c.loop-level.invariant in
    let number = c.args.number in
    let printed = in_printing_order c.args.book.now in
    let none : length c.loop-level.levels.items ≡ 0 =
    omega (arith, c.in_default.ensures.cases, c.loop-level.levels.ok) in
    let all : kept.done ≡ import_groups number c.args.book.now =
    sym (append-nil kept.done)
    ∙ ap (λ (n : ℕ). kept.done ++ groups_below number printed n) (sym none)
    ∙ kept.left in
    let fits = within _ _ c.if-not-has_stamps_for.ensures in
    let many = rows-many number c.args.book.now c.in_ok-levels.levels.items c.in_ok-levels.ensures.levels in
    let lent = ap (λ (l : List (Vec (Bor Row) Global)).
    length (flat_map (λ (level : Vec (Bor Row) Global). level.items) l)) c.deref.ensures.value in (
      omega (arith, fits, many, lent, c.count.ensures),
      imports-rows g.D.Disk old new number c.args.book.now (Ok tt)
          (subst (λ (those : List (List Call)). CommitsGroups g.D.Disk old new those (Ok tt)) all kept.served),
    )
