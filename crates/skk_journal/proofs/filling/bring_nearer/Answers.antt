use Rattle.std.proofs.Common.{ℕ, sym, subst}
use Rattle.skk_disk.specs.StepLaws.{weaker, at_end}
use Rattle.skk_journal.specs.declared.live.Idle.{Idle}
use Rattle.skk_journal.proofs.Aged.{aged_loose}
use Rattle.skk_journal.specs.Filling.{IsAged}
use Rattle.skk_journal.proofs.FirstBytes.{loose_other}
use Rattle.skk_journal.specs.IdleLaws.{loose_idle, stray_idle}
use Rattle.skk_journal.specs.Idle.{IsKnown}
use Rattle.skk_journal.proofs.filling.bring_nearer.Goals as goal

pub returns-in_err-write_first-in-Loose-clause-images : goal.returns-in_err-write_first-in-Loose-clause-images
returns-in_err-write_first-in-Loose-clause-images g c newest =
    weaker _ _ _ _ _ (λ old new other known. loose_idle newest c.args.beside new
    (loose_other newest c.args.beside old new other
    (subst (λ (idle : Idle). IsKnown newest c.args.beside idle old) c.in-Loose.is known))) c.write_first.ensures.images

pub returns-in_ok-write_first-in-Loose-clause-images : goal.returns-in_ok-write_first-in-Loose-clause-images
returns-in_ok-write_first-in-Loose-clause-images g c newest =
    weaker _ _ _ _ _ (λ old new other known. loose_idle newest c.args.beside new
    (loose_other newest c.args.beside old new other
    (subst (λ (idle : Idle). IsKnown newest c.args.beside idle old) c.in-Loose.is known))) c.write_first.ensures.images

pub returns-in_err-age-in-Stray-clause-images : goal.returns-in_err-age-in-Stray-clause-images
returns-in_err-age-in-Stray-clause-images g c newest =
    weaker _ _ _ _ _ (λ old new stray known. stray_idle newest c.args.beside new
    (stray (subst (λ (idle : Idle). IsKnown newest c.args.beside idle old) c.in-Stray.is known)))
    (c.age.ensures.images newest)

pub returns-in_ok-age-in-Stray-clause-images : goal.returns-in_ok-age-in-Stray-clause-images
returns-in_ok-age-in-Stray-clause-images g c newest =
    weaker _ _ _ _ _ (λ old new stray known. stray_idle newest c.args.beside new
    (stray (subst (λ (idle : Idle). IsKnown newest c.args.beside idle old) c.in-Stray.is known)))
    (c.age.ensures.images newest)

pub returns-in_err-age-in-Stray-clause-known : goal.returns-in_err-age-in-Stray-clause-known
returns-in_err-age-in-Stray-clause-known g c newest =
    weaker _ _ _ _ _ (λ old new stray known.
    subst (λ (idle : Idle). IsKnown newest c.args.beside idle new) (sym c.in-Stray.is)
    (stray (subst (λ (idle : Idle). IsKnown newest c.args.beside idle old) c.in-Stray.is known)))
    (at_end _ _ _ _ _ c.age.ensures.advances.past (g.met.D.Disk.earlier c.age.new.disk) _ (c.age.ensures.images newest))

pub returns-in_ok-age-in-Stray-clause-known : goal.returns-in_ok-age-in-Stray-clause-known
returns-in_ok-age-in-Stray-clause-known g c newest =
    weaker _ _ _ _ _ (λ old new aged known. aged_loose newest c.args.beside new c.aged_generation.ensures.small
    (subst (λ (n : ℕ). IsAged newest n new) c.aged_generation.ensures.before
    (aged (subst (λ (idle : Idle). IsKnown newest c.args.beside idle old) c.in-Stray.is known))))
    (c.in_ok-age-in-Stray.ensures.ok newest)
