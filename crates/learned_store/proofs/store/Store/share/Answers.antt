use Rattle.std.proofs.Common.{subst, sym}
use Rattle.learned_store.specs.KeptLookUps.{AreAnswers, KeptReadings}
use Rattle.learned_store.specs.Served.{Serves}
use Rattle.learned_store.specs.Stores.{OpenStore}
use Rattle.learned_store.proofs.KeptAnswers.{none_kept}
use Rattle.learned_store.proofs.store.Store.share.Goals as goal

pub invariant_of-self : goal.invariant_of-self
invariant_of-self g c =
    let files = c.self.inside.system in
    let state = c.change.new.index.state in (
      c.change.ensures.tight,
      subst (λ (kept : KeptReadings). AreAnswers files state kept) (sym c.clear.ensures) (none_kept files state),
    )

pub returns : goal.returns
returns g c =
    let D = g.D in
    let now : OpenStore _ = record {
      journal = c.change.new.journal;
      state = c.change.new.index.state;
      files = c.self.inside.system;
      limit = c.self.inside.limit;
    } in
    subst (λ (s : OpenStore _). Serves D.Disk s now c.args.call.now
    c.change.result) c.self.view_is (c.change.ensures.serves c.self.inside.system)
