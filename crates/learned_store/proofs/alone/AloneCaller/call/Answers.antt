use Rattle.std.proofs.Common.{◌∙◌, ap, List, [], ◌∷◌, ◌++◌}
use Rattle.skk_calls.specs.declared.chronicle.Noted.{Noted}
use Rattle.skk_calls.specs.Openings.{are_of_one, said_in}
use Rattle.learned_store.specs.Stands.{NotedStore}
use Rattle.learned_store.proofs.Chronicles.{said-more, one-more}
use Rattle.learned_store.proofs.alone.AloneCaller.call.Goals as goal

pub invariant_of-self : goal.invariant_of-self
invariant_of-self g c =
    let disk = c.serve.new.self.store.journal.disk in
    ap are_of_one c.serve.ensures.notes
    ∙ one-more c.self.inside.noting.notes c.args.call.now c.serve.result (g.D.Disk.time disk) (g.D.Disk.faults disk)
    c.self.invariant

pub returns-clause-said : goal.returns-clause-said
returns-clause-said g c =
    let disk = c.serve.new.self.store.journal.disk in
    ap (λ (notes : List Noted). said_in notes 0) c.serve.ensures.notes
    ∙ said-more c.self.inside.noting.notes c.args.call.now c.serve.result (g.D.Disk.time disk) (g.D.Disk.faults disk)
    ∙ ap (λ (n : NotedStore g.row.D.Denot). said_in n.notes 0 ++ (c.args.call.now, c.serve.result) ∷ []) c.self.view_is
