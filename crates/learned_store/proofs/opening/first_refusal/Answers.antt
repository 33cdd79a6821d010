use Rattle.std.proofs.Common.{List, ℕ, inl, inr, sym, subst, refl, ◌∙◌}
use Rattle.skk_disk.specs.Image.{Image}
use Rattle.skk_journal.specs.declared.fault.OpenFault.TheVariants as opening
use Rattle.skk_journal.specs.declared.found.FoundRecord.{FoundRecord}
use Rattle.skk_journal.specs.Causes.{IsRefused as RefusesFrames}
use Rattle.skk_journal.specs.Found.{payloads}
use Rattle.learned_store.specs.declared.recovery.RecoverFault.{RecoverFault}
use Rattle.learned_store.specs.declared.recovery.RecoverFault.TheVariants.{Memory, Break}
use Rattle.learned_store.specs.Payloads.{newest_version}
use Rattle.learned_store.specs.Recovered.{IsRefused}
use Rattle.learned_store.specs.Recovering.{IsBreak, refusal_of}
use Rattle.learned_store.proofs.opening.first_refusal.Goals.{in-Ok, in-Err}
use Rattle.learned_store.proofs.opening.first_refusal.Goals as goal

-- a bad frame behind records the first of which that says nothing stands at a place
broken : (image : Image) (number at version : ℕ) (before : List FoundRecord) (fault : RecoverFault)
    → RefusesFrames newest_version image (opening.BadRecord number at version before)
    → IsBreak (record { version = version; records = payloads before }) fault
    → IsRefused image (refusal_of number version fault)
broken image number at version before (Break place) refused breaks = (
  refused.0,
  refused.1,
  inr (inl (record { version = version; records = payloads before }, at, refused.2, breaks)),
  refl,
)
broken image number at version before Memory refused breaks = tt

pub returns-after-recover-clause-refused : goal.returns-after-recover-clause-refused
returns-after-recover-clause-refused c image refused =
    let bad = subst (RefusesFrames newest_version image) c.in-BadRecord.is refused in
    elim c.match-recover.branch [
      | in-Ok w ↦ subst (IsRefused image) (sym (w.result-is ∙ w.bad_record.ensures)) (
        bad.0,
        bad.1,
        inr (inr (
          record { version = c.in-BadRecord.version; records = payloads c.in-BadRecord.before },
          w.in-Ok.field-0.state,
          bad.2,
          w.in-Ok.ensures.left,
        )),
        refl,
      )
      | in-Err w ↦ subst (IsRefused image) (sym (w.result-is ∙ w.refusal.ensures))
          (broken image c.in-BadRecord.file c.in-BadRecord.at c.in-BadRecord.version c.in-BadRecord.before
          w.in-Err.fault bad
          (w.in-Err.ensures.broken bad.3))
    ]
