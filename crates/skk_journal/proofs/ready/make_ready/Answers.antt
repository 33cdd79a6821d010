use Rattle.std.proofs.Common.{ℕ, sym, subst}
use Rattle.std.proofs.lemmas.Result.{on_ok_weaker}
use Rattle.skk_disk.specs.Steps.{Makes}
use Rattle.skk_disk.specs.RunLaws.{advances_on}
use Rattle.skk_disk.specs.StepLaws.{within, then, at_end}
use Rattle.skk_journal.specs.declared.live.Idle.{Idle}
use Rattle.skk_journal.specs.Idle.{IsKnown, IsBlank}
use Rattle.skk_journal.specs.Filling.{IsReady}
use Rattle.skk_journal.specs.IdleLaws.{blank_idle}
use Rattle.skk_journal.proofs.ready.make_ready.Goals as goal

pub returns-in_err-blank-clause-images : goal.returns-in_err-blank-clause-images
returns-in_err-blank-clause-images g c = c.blank.ensures.images c.args.newest

pub returns-in_err-blank-clause-known : goal.returns-in_err-blank-clause-known
returns-in_err-blank-clause-known g c = c.blank.ensures.known c.args.newest

pub returns-clause-images : goal.returns-clause-images
returns-clause-images g c =
    within _ _ _ _ _ _ _ c.blank.ensures.advances.past c.write_ready.ensures.advances.past _ _ _ _
    (λ old new makes. makes)
    (λ old between new known keeps is. blank_idle c.args.newest c.args.beside new
    (keeps
    (subst (λ (idle : Idle). IsKnown c.args.newest c.args.beside idle between) c.in_ok-blank.ensures.ok (known is))))
    (c.blank.ensures.images c.args.newest) (c.blank.ensures.known c.args.newest) c.write_ready.ensures.images

pub returns-clause-advances : goal.returns-clause-advances
returns-clause-advances g c =
    advances_on g.D.Disk _ _ _ c.blank.ensures.advances c.write_ready.ensures.advances
    (g.met.D.Disk.earlier c.write_ready.new.disk)

pub returns-clause-known : goal.returns-clause-known
returns-clause-known g c =
    then _ _ (Makes IsBlank IsBlank) _ _ _ _
    (λ old between new known keeps is. subst (λ (idle : Idle). IsKnown c.args.newest c.args.beside idle new)
    (sym c.in_ok-blank.ensures.ok)
    (keeps
    (subst (λ (idle : Idle). IsKnown c.args.newest c.args.beside idle between) c.in_ok-blank.ensures.ok (known is))))
    (c.blank.ensures.known c.args.newest)
    (at_end _ _ _ _ _ c.write_ready.ensures.advances.past (g.met.D.Disk.earlier c.write_ready.new.disk) _
    c.write_ready.ensures.images)

pub returns-clause-ok : goal.returns-clause-ok
returns-clause-ok g c = on_ok_weaker c.write_ready.result
    (then _ _ _ _ _ _ _
    (λ old between new known makes is. subst (λ (n : ℕ). IsReady c.args.newest n c.args.records.now new)
    c.generation_beside-generation.ensures.next
    (makes
    (subst (λ (idle : Idle). IsKnown c.args.newest c.args.beside idle between) c.in_ok-blank.ensures.ok (known is))))
    (c.blank.ensures.known c.args.newest))
    c.write_ready.ensures.ok
