use Rattle.std.proofs.Common.{subst}
use Rattle.learned_store.specs.Served.{Serves}
use Rattle.learned_store.specs.Stores.{OpenStore}
use Rattle.learned_store.proofs.KeptAnswers.{kept_elsewhere}
use Rattle.learned_store.proofs.store.Store.change.Goals as goal

pub invariant_of-self : goal.invariant_of-self
invariant_of-self g c =
    let files = c.self.inside.system in
    let state = c.self.inside.index.state in
    let call = c.args.call.now in (
      c.change.ensures.tight,
      kept_elsewhere files state c.change.new.index.state c.self.inside.kept c.forget.new.self c.args.key.now call
          c.requires.key
          (λ who other okuri typed.
          c.changes_leave_what_is_found_of_other_keys.ensures files state call who other okuri typed c.requires.row)
          c.change.result (c.change.ensures.serves files).state c.change.ensures.typed c.self.invariant.1
          c.forget.ensures,
    )

pub returns : goal.returns
returns g c =
    let D = g.D in
    let now : OpenStore _ = record {
      journal = c.change.new.journal;
      state = c.change.new.index.state;
      files = c.self.inside.system;
      limit = c.self.inside.limit;
    } in
    subst (λ (s : OpenStore _). Serves D.Disk s now c.args.call.now
    c.change.result) c.self.view_is (c.change.ensures.serves c.self.inside.system)
