use Rattle.std.proofs.Common.{◌≡◌, List, ℕ, []}
use Rattle.std.proofs.lemmas.Result.{on_ok_weaker}
use Rattle.std.specs.Prelude.{None, Some}
use Rattle.skk_disk.specs.RunLaws.{advances_on}
use Rattle.skk_disk.specs.StepLaws.{weaker, within, then}
use Rattle.skk_disk.specs.Image.{Image}
use Rattle.skk_disk.specs.Steps.{InFile, ComeFrom, Makes}
use Rattle.skk_disk.specs.declared.which.Which.TheVariants.{A}
use Rattle.skk_journal.specs.declared.live.Idle.{Idle}
use Rattle.skk_journal.specs.Images.{Each, Sides, Anyhow}
use Rattle.skk_journal.specs.Generations.{first_live}
use Rattle.skk_journal.specs.Filling.{filled_bytes, IsReady}
use Rattle.skk_journal.specs.Idle.{IsIdle, IsKnown, IsFreshAs, FirstIs}
use Rattle.skk_journal.specs.OpeningLaws.{none_open}
use Rattle.skk_journal.specs.ChoiceLaws.{fresh_known}
use Rattle.skk_journal.proofs.SideSteps.{sides_on, fresh_as, first_has, first_torn_idle, ready_first}
use Rattle.skk_journal.proofs.first.fill_first.Goals as goal

-- the first file is filled with no records, where it was fresh
filled_anew : (newest : ℕ) (first : Idle) (Q : List ℕ → Type 0) (before mid now : Image → Type 0)
    → ComeFrom (InFile A (Makes (IsKnown newest None first) (IsReady newest 1 []))) before mid
    → ComeFrom (InFile A (FirstIs 1)) mid now → Each before (Sides A (IsFreshAs newest first) Q)
    → Each now (Sides A (λ l. l ≡ filled_bytes 1 newest 1 []) Q)
filled_anew newest first Q before mid now ready written = sides_on A before now
    (λ old new. IsFreshAs newest first old → new ≡ filled_bytes 1 newest 1 []) (IsFreshAs newest first) Q
    (λ l. l ≡ filled_bytes 1 newest 1 []) (λ old new step is. step is)
    (then A (Makes (IsKnown newest None first) (IsReady newest 1 [])) (FirstIs 1) _ before mid now
    (λ old between new makes first_is is.
    ready_first 1 newest 1 [] between new first_is (makes (fresh_known newest None first old is)))
    ready written)

pub returns-in_err-make_ready-clause-images : goal.returns-in_err-make_ready-clause-images
returns-in_err-make_ready-clause-images g c each image left =
    let newest = c.args.newest in
    let sides = sides_on _ _ _ _ _ _ (IsIdle newest None)
    (λ old new makes is. makes (fresh_known newest None c.args.first old is)) c.make_ready.ensures.images each image
    left in
    none_open newest image sides.this (fresh_as newest c.args.second image.b sides.that)

pub returns-clause-images : goal.returns-clause-images
returns-clause-images g c each image left =
    let newest = c.args.newest in
    let one = c.in_ok-make_ready.ensures in
    let sides = sides_on _ _ _ _ _ _ (IsIdle newest None) (λ old new step is. step is)
    (within _ _ _ _ _ _ _ one.advances.past c.write_first.ensures.advances.past _ _ _
    (λ old new. IsFreshAs newest c.args.first old
    → IsIdle newest None new)
    (λ old new makes is. makes (fresh_known newest None c.args.first old is))
    (λ old between new makes other is. first_torn_idle newest c.requires between new other
    (makes (fresh_known newest None c.args.first old is)))
    one.images one.ok c.write_first.ensures.images) each image left in
    none_open newest image sides.this (fresh_as newest c.args.second image.b sides.that)

pub returns-clause-advances : goal.returns-clause-advances
returns-clause-advances g c =
    advances_on g.D.Disk _ _ _ c.make_ready.ensures.advances c.write_first.ensures.advances
    (g.met.D.Disk.earlier c.write_first.new.disk)

pub returns-clause-ok : goal.returns-clause-ok
returns-clause-ok g c = on_ok_weaker c.write_first.result (λ written each image left.
    let newest = c.args.newest in
    let ready = c.in_ok-make_ready.ensures.ok in
    let sides = filled_anew newest c.args.first (IsFreshAs newest c.args.second) _ _ _ ready written each image left in
    record {
      this = first_has newest c.requires image.a sides.this;
      that = fresh_known newest (Some (first_live newest)) c.args.second image.b sides.that;
    })
    c.write_first.ensures.ok

pub returns-clause-anew : goal.returns-clause-anew
returns-clause-anew g c = on_ok_weaker c.write_first.result (λ written each image left.
    let newest = c.args.newest in
    let ready = c.in_ok-make_ready.ensures.ok in
    (filled_anew newest c.args.first (IsFreshAs newest c.args.second) _ _ _ ready written each image left).this)
    c.write_first.ensures.ok

pub returns-in_err-make_ready-clause-first_alone : goal.returns-in_err-make_ready-clause-first_alone
returns-in_err-make_ready-clause-first_alone g c =
    weaker _ _ Anyhow _ _ (λ old new makes. tt) c.make_ready.ensures.images

pub returns-clause-first_alone : goal.returns-clause-first_alone
returns-clause-first_alone g c =
    let one = c.make_ready.ensures in
    within _ _ _ _ _ _ _ one.advances.past c.write_first.ensures.advances.past _ _ _ Anyhow (λ old new makes. tt)
    (λ old between new known other. tt) one.images one.known c.write_first.ensures.images
