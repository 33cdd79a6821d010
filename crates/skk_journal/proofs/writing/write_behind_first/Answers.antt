use Rattle.skk_disk.specs.RunLaws.{advances_on}
use Rattle.std.proofs.Common.{List, ℕ, length, ◌∷◌, ◌++◌, [], ◌∙◌, ap}
use Rattle.std.proofs.lemmas.Result.{on_ok_weaker}
use Rattle.skk_journal.proofs.Ends.{length-head}
use Rattle.skk_journal.proofs.BlankSteps.{both_blank}
use Rattle.skk_journal.proofs.Ends.{filled_is}
use Rattle.skk_journal.proofs.writing.write_behind_first.Goals as goal

pub returns-clause-images : goal.returns-clause-images
returns-clause-images g c =
    both_blank _ _ _ _ _ _ _ c.write_head.ensures.advances.past c.write_records.ensures.advances.past
    (g.met.D.Disk.earlier c.write_head.new.disk) c.write_head.ensures.images c.write_records.ensures.images

pub returns-clause-advances : goal.returns-clause-advances
returns-clause-advances g c =
    advances_on g.D.Disk _ _ _ c.write_head.ensures.advances c.write_records.ensures.advances
    (g.met.D.Disk.earlier c.write_records.new.disk)

pub returns-clause-ok : goal.returns-clause-ok
returns-clause-ok g c = on_ok_weaker c.write_records.result
    (λ written tells blank.
    let head = c.in_ok-write_head.ensures.ok tells blank in
    written tells (ap length head ∙ length-head c.args.version c.args.generation)
    ∙ ap (λ (l : List ℕ). (l ++ c.args.records.now) ++ 0 ∷ []) head
    ∙ filled_is c.args.version c.args.generation c.args.records.now)
    c.write_records.ensures.ok
