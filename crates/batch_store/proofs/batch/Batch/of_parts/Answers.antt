use Rattle.batch_store.specs.Entries.{store_of}
use Rattle.batch_store.proofs.EnteredLaws.{entered_begun}
use Rattle.batch_store.proofs.batch.Batch.of_parts.Goals as goal

-- the history was begun
pub invariant_of-result : goal.invariant_of-result
invariant_of-result g c = (
  c.requires.tight,
  entered_begun g.D.Disk (store_of c.args.parts) c.in-Ok.entries.trace c.in-Ok.entries.tally
      c.counting_comes_to_the_tally.ensures.none c.in-Ok.ensures.notes c.in-Ok.ensures.tally,
)
