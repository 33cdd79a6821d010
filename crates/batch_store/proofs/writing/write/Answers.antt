use Rattle.std.proofs.Common.{◌≡◌, ◌+◌, ◌≤◌, inr, arith, map, length, ⊎_elim}
use Rattle.std.specs.Prelude.{Option}
use Rattle.std.proofs.lemmas.Bool.Decides.{nat_tests}
use Rattle.skk_calls.specs.Histories.{after_calls, tight}
use Rattle.skk_calls.specs.States.{State}
use Rattle.skk_journal.specs.Records.{framed}
use Rattle.learned_store.specs.Compacted.{compacted}
use Rattle.learned_store.specs.Payloads.{newest_version, payload_of}
use Rattle.learned_store.specs.Stores.{IsCompaction, Keeps}
use Rattle.batch_store.specs.declared.group_fault.GroupFault.TheVariants.{Disk, Memory}
use Rattle.batch_store.proofs.WrittenGroups.{compacted_bytes, erred, failed, kept_compaction, quiet, written}
use Rattle.batch_store.proofs.writing.write.Goals as goal

-- it fits behind the records of the live file

pub returns-in_err-commit_behind-clause-commits : goal.returns-in_err-commit_behind-clause-commits
returns-in_err-commit_behind-clause-commits g c files calls told =
    let state = c.args.index.now.state in
    let old = c.args.journal.now in
    let does = c.commit_behind.ensures in
    let fails = c.in_err-commit_behind.ensures in
    let after = after_calls state calls in
    let fits : tight state + length c.args.records.now ≤ c.args.limit =
    grind (arith, nat_tests, c.fits.ensures, c.if-fits.true, c.end.ensures, c.requires.tight) in
    let version = c.version-version.ensures in
    let adds = told.adds old.live.version (omega (arith, version.live, version.right.0)) in
    erred _ _ c.from_residual.result Disk c.from_residual.ensures.1
    (failed g.D.Disk old c.commit_behind.new.journal state files c.args.limit calls c.args.records.now told
    does.advances (λ doubt keeps. does.images state after doubt told.added told.group adds keeps) (inr fits)
    fails.failed (λ doubt keeps. fails.err state after doubt told.added told.group adds keeps))

pub returns-then-fits-clause-commits : goal.returns-then-fits-clause-commits
returns-then-fits-clause-commits g c files calls told =
    let state = c.args.index.now.state in
    let old = c.args.journal.now in
    let does = c.commit_behind.ensures in
    let after = after_calls state calls in
    let fits : tight state + length c.args.records.now ≤ c.args.limit =
    grind (arith, nat_tests, c.fits.ensures, c.if-fits.true, c.end.ensures, c.requires.tight) in
    let version = c.version-version.ensures in
    let adds = told.adds old.live.version (omega (arith, version.live, version.right.0)) in
    written g.D.Disk old c.commit_behind.new.journal state files c.args.limit calls c.args.records.now told
    does.advances (λ doubt keeps. does.images state after doubt told.added told.group adds keeps) fits
    (λ doubt keeps. c.in_ok-commit_behind.ensures.ok state after doubt told.added told.group adds keeps)

-- it fits behind the records of a compaction

-- memory was out before these were made
pub returns-in_err-compacted-clause-commits : goal.returns-in_err-compacted-clause-commits
returns-in_err-compacted-clause-commits g c files calls told =
    let state = c.args.index.now.state in
    let old = c.args.journal.now in
    erred _ _ c.from_residual-in_err-compacted.result Memory c.from_residual-in_err-compacted.ensures.1
    (quiet g.D.Disk (record { journal = old; state = state; files = files; limit = c.args.limit }) calls
    (λ doubt keeps. c.kept_states_are_recovered.ensures old state doubt keeps))

pub commit_compacted-requires : goal.commit_compacted-requires
commit_compacted-requires g c =
    let state = c.args.index.now.state in
    let is : c.as_slice.result.now ≡ framed (map payload_of (compacted state)) =
    cc (c.as_slice.ensures, c.in_ok-compacted.ensures) in
    let bytes = compacted_bytes state c.as_slice.result.now is (c.the_tight_end_is_least.ensures.compacted state) in
    record {
      room =
          grind (
            arith,
            nat_tests,
            c.fits-2.ensures,
            c.if-fits-2.true,
            c.tight_end-end.ensures,
            c.requires.tight,
            c.end.ensures,
            bytes,
          );
    }

pub returns-in_err-commit_compacted-clause-commits : goal.returns-in_err-commit_compacted-clause-commits
returns-in_err-commit_compacted-clause-commits g c files calls told =
    let state = c.args.index.now.state in
    let old = c.args.journal.now in
    let does = c.commit_compacted.ensures in
    let fails = c.in_err-commit_compacted.ensures in
    let after = after_calls state calls in
    let is : c.as_slice.result.now ≡ framed (map payload_of (compacted state)) =
    cc (c.as_slice.ensures, c.in_ok-compacted.ensures) in
    let fits : tight state + length c.args.records.now ≤ c.args.limit =
    grind (
      arith,
      nat_tests,
      c.fits-2.ensures,
      c.if-fits-2.true,
      c.tight_end-end.ensures,
      c.requires.tight,
      c.end.ensures,
    ) in
    let adds = told.adds newest_version (omega arith) in
    let laws = c.compacted_records_leave_their_state.ensures in
    let compacts : (doubt : Option State) → Keeps g.D.Disk old state doubt
    → IsCompaction state c.as_slice.result.now = λ doubt keeps.
    kept_compaction state c.as_slice.result.now is (λ contents has. laws.left contents state has) (laws.leave state)
    (laws.sized state) g.D.Disk old doubt keeps in
    erred _ _ c.from_residual-in_err-commit_compacted.result Disk c.from_residual-in_err-commit_compacted.ensures.1
    (failed g.D.Disk old c.commit_compacted.new.journal state files c.args.limit calls c.args.records.now told
    does.advances
    (λ doubt keeps. does.images state after doubt told.added told.group adds (compacts doubt keeps) keeps)
    (inr fits) fails.failed
    (λ doubt keeps. fails.err state after doubt told.added told.group adds (compacts doubt keeps) keeps))

pub returns-in_err-commit_compacted-clause-tight : goal.returns-in_err-commit_compacted-clause-tight
returns-in_err-commit_compacted-clause-tight g c =
    let state = c.args.index.now.state in
    let is : c.as_slice.result.now ≡ framed (map payload_of (compacted state)) =
    cc (c.as_slice.ensures, c.in_ok-compacted.ensures) in
    let bytes = compacted_bytes state c.as_slice.result.now is (c.the_tight_end_is_least.ensures.compacted state) in
    erred _ _ c.from_residual-in_err-commit_compacted.result Disk c.from_residual-in_err-commit_compacted.ensures.1
    (⊎_elim (λ same. omega (arith, same, c.requires.tight)) (λ made. omega (arith, made, bytes))
    c.in_err-commit_compacted.ensures.end_left)

pub returns-then-fits-2-clause-commits : goal.returns-then-fits-2-clause-commits
returns-then-fits-2-clause-commits g c files calls told =
    let state = c.args.index.now.state in
    let old = c.args.journal.now in
    let does = c.commit_compacted.ensures in
    let after = after_calls state calls in
    let is : c.as_slice.result.now ≡ framed (map payload_of (compacted state)) =
    cc (c.as_slice.ensures, c.in_ok-compacted.ensures) in
    let fits : tight state + length c.args.records.now ≤ c.args.limit =
    grind (
      arith,
      nat_tests,
      c.fits-2.ensures,
      c.if-fits-2.true,
      c.tight_end-end.ensures,
      c.requires.tight,
      c.end.ensures,
    ) in
    let adds = told.adds newest_version (omega arith) in
    let laws = c.compacted_records_leave_their_state.ensures in
    let compacts : (doubt : Option State) → Keeps g.D.Disk old state doubt
    → IsCompaction state c.as_slice.result.now = λ doubt keeps.
    kept_compaction state c.as_slice.result.now is (λ contents has. laws.left contents state has) (laws.leave state)
    (laws.sized state) g.D.Disk old doubt keeps in
    written g.D.Disk old c.commit_compacted.new.journal state files c.args.limit calls c.args.records.now told
    does.advances
    (λ doubt keeps. does.images state after doubt told.added told.group adds (compacts doubt keeps) keeps) fits
    (λ doubt keeps.
    c.in_ok-commit_compacted.ensures.ok state after doubt told.added told.group adds (compacts doubt keeps) keeps)

pub returns-then-fits-2-clause-tight : goal.returns-then-fits-2-clause-tight
returns-then-fits-2-clause-tight g c =
    let state = c.args.index.now.state in
    let is : c.as_slice.result.now ≡ framed (map payload_of (compacted state)) =
    cc (c.as_slice.ensures, c.in_ok-compacted.ensures) in
    let bytes = compacted_bytes state c.as_slice.result.now is (c.the_tight_end_is_least.ensures.compacted state) in
    omega (arith, c.in_ok-commit_compacted.ensures.end, bytes)
