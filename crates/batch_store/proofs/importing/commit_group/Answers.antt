-- A group of learnings by its answer: it is one piece, or each learning of it is one.
use Rattle.std.proofs.Common.{◌≡◌, ◌++◌, ◌∷◌, [], sym, subst, arith, List, Err}
use Rattle.skk_calls.specs.declared.call.Call.{Call}
use Rattle.learn_index.specs.Groups.{IsGroup}
use Rattle.batch_store.specs.declared.group_fault.GroupFault.{GroupFault}
use Rattle.batch_store.specs.declared.group_fault.GroupFault.TheVariants.{Full}
use Rattle.batch_store.specs.Batches.{Commits}
use Rattle.batch_store.specs.Entries.{answers_of, entered}
use Rattle.batch_store.specs.Pieces.{CommitsGroups}
use Rattle.batch_store.proofs.GroupPieces.{alone-refused, group-by-calls, group-failed, group-served, group-unbegun}
use Rattle.batch_store.proofs.GroupPieces.{one-call}
use Rattle.batch_store.proofs.importing.commit_group.Goals as goal

pub returns-in-Ok : goal.returns-in-Ok
returns-in-Ok g c =
    let new = c.commit.new.self in
    group-served g.D.Disk c.args.batch.now new (g.met.D.Disk.earlier new.store.journal.disk) c.args.calls
    c.in-Ok.field-0 c.requires.group c.in-Ok.ensures.commits c.in-Ok.ensures.notes

pub returns-in-Err-Memory : goal.returns-in-Err-Memory
returns-in-Err-Memory g c =
    let old = c.args.batch.now in
    let new = c.commit.new.self in
    let is = c.in-Err-Memory.field-0-is in
    group-unbegun g.D.Disk old new (g.met.D.Disk.earlier new.store.journal.disk) c.args.calls
    (subst (λ (fault : GroupFault). Commits g.D.Disk old.store new.store c.args.calls (Err fault)) is
    c.in-Err-Memory.ensures.commits)
    (subst (λ (fault : GroupFault). new.notes ≡ old.notes ++ entered (g.D.Disk.time new.store.journal.disk)
    (g.D.Disk.faults new.store.journal.disk) c.args.calls (answers_of old.store c.args.calls (Err fault))) is
    c.in-Err-Memory.ensures.notes)

pub returns-in-Err-Disk : goal.returns-in-Err-Disk
returns-in-Err-Disk g c =
    let old = c.args.batch.now in
    let new = c.commit.new.self in
    let is = c.in-Err-Disk.field-0-is in
    group-failed g.D.Disk old new (g.met.D.Disk.earlier new.store.journal.disk) c.args.calls c.requires.group
    (subst (λ (fault : GroupFault). Commits g.D.Disk old.store new.store c.args.calls (Err fault)) is
    c.in-Err-Disk.ensures.commits)
    (subst (λ (fault : GroupFault). new.notes ≡ old.notes ++ entered (g.D.Disk.time new.store.journal.disk)
    (g.D.Disk.faults new.store.journal.disk) c.args.calls (answers_of old.store c.args.calls (Err fault))) is
    c.in-Err-Disk.ensures.notes)

pub returns-then-len-gt1 : goal.returns-then-len-gt1
returns-then-len-gt1 g c =
    let old = c.args.batch.now in
    let mid = c.commit.new.self in
    let new = c.commit_each.new.batch in
    let full = c.in-Err-Full in
    group-by-calls g.D.Disk old mid new c.args.calls full.end full.need full.limit
    (g.met.D.Disk.earlier mid.store.journal.disk) (g.met.D.Disk.earlier new.store.journal.disk)
    (subst (λ (fault : GroupFault). Commits g.D.Disk old.store mid.store c.args.calls (Err fault)) full.field-0-is
    full.ensures.commits) c.commit_each.result (omega (arith, c.if-len-gt1.true, c.len.ensures))
    (subst (λ (fault : GroupFault). mid.notes ≡ old.notes ++ entered (g.D.Disk.time mid.store.journal.disk)
    (g.D.Disk.faults mid.store.journal.disk) c.args.calls (answers_of old.store c.args.calls (Err fault)))
    full.field-0-is full.ensures.notes) c.commit_each.ensures

pub returns-else-len-gt1 : goal.returns-else-len-gt1
returns-else-len-gt1 g c =
    let old = c.args.batch.now in
    let new = c.commit.new.self in
    let full = c.in-Err-Full in
    let told : GroupFault = Full full.end full.need full.limit in
    let one = one-call c.args.calls c.requires.group.some (omega (arith, c.if-len-gt1.false, c.len.ensures)) in
    subst (λ (calls : List Call). CommitsGroups g.D.Disk old new (calls ∷ []) (Err told)) (sym one.1)
    (alone-refused g.D.Disk old new (g.met.D.Disk.earlier new.store.journal.disk) c.args.calls one.0 one.1
    (subst (λ (calls : List Call). IsGroup old.store.state calls) one.1 c.requires.group) told
    (subst (λ (fault : GroupFault). Commits g.D.Disk old.store new.store c.args.calls (Err fault)) full.field-0-is
    full.ensures.commits)
    (subst (λ (fault : GroupFault). new.notes ≡ old.notes ++ entered (g.D.Disk.time new.store.journal.disk)
    (g.D.Disk.faults new.store.journal.disk) c.args.calls (answers_of old.store c.args.calls (Err fault)))
    full.field-0-is full.ensures.notes))
