use Rattle.std.proofs.Common.{sym, subst, List}
use Rattle.skk_calls.specs.declared.chronicle.Noted.{Noted}
use Rattle.learned_store.specs.Stands.{Stands, Counts, NotedStore, NotesCall}
use Rattle.learned_store.proofs.Noted.{stands_more, counts_more}
use Rattle.learned_store.proofs.noting.Noting.serve_over.Goals as goal

pub invariant_of-self : goal.invariant_of-self
invariant_of-self g c =
    let opening = g.N.OpeningName.opening in
    let old = c.self.inside.store in
    let new = c.serve_over-answer.new.self in
    let does = c.serve_over-answer.ensures in
    let number = c.args.number in
    let call = c.args.call.now in
    let given = c.serve_over-answer.result in
    let stands =
    stands_more g.D.Disk opening g.N.LearnedName.past c.self.inside.trace old new number call given c.self.invariant.0
    (g.met.D.Disk.earlier new.journal.disk) does in
    let counts =
    counts_more opening c.self.inside.trace number (g.D.Disk.time new.journal.disk)
    (g.D.Disk.faults new.journal.disk) call given c.self.inside.tally c.count.new.self
    c.counting_comes_to_the_tally.ensures.more c.self.invariant.1 c.count.ensures in
    subst (λ (n : List Noted).
    Stands g.D.Disk opening g.N.LearnedName.past n new
    × Counts opening n c.count.new.self)
    (sym c.note.ensures) (stands, counts)

pub returns : goal.returns
returns g c =
    let does = c.serve_over-answer.ensures in
    let number = c.args.number in
    let call = c.args.call.now in
    let given = c.serve_over-answer.result in
    let now : NotedStore g.row.D.Denot =
    record { store = c.serve_over-answer.new.self; notes = c.note.new.self } in
    let notes : NotesCall g.D.Disk
    (record { store = c.self.inside.store; notes = c.self.inside.trace }) now number call given = record {
      notes = c.note.ensures;
      may = does.may;
      fits = does.fits;
      room = does.room;
      advances = does.advances;
    } in
    subst (λ (s : NotedStore g.row.D.Denot). NotesCall g.D.Disk s now number call
    given) c.self.view_is notes
