use Rattle.std.proofs.Common.{◌≡◌, false, ◌∙◌, ap, refl, subst, sym}
use Rattle.skk_calls.specs.declared.answer.Answer.TheVariants.{Refused}
use Rattle.skk_calls.specs.declared.answer.Refusal.TheVariants.{Memory}
use Rattle.skk_calls.specs.Dictionary.{after, answer, moves}
use Rattle.skk_calls.specs.States.{State}
use Rattle.learn_index.specs.Plans.{IsPlanned}
use Rattle.learned_store.specs.Served.{Serves}
use Rattle.learned_store.specs.Stores.{OpenStore}
use Rattle.learned_store.specs.Written.{IsRecordOf}
use Rattle.learned_store.proofs.Serving.{quiet, unchanged, unrecorded}
use Rattle.learned_store.proofs.changing.change.Goals as goal

pub returns-in_default-clause-serves : goal.returns-in_default-clause-serves
returns-in_default-clause-serves g c files =
    let D = g.D in
    let store : OpenStore _ = record {
      journal = c.args.journal.now;
      state = c.args.index.now.state;
      files = files;
      limit = c.args.limit;
    } in
    subst (λ (s : State). Serves D.Disk store (record store { state = s })
    c.args.call.now (Refused Memory)) (sym c.plan.ensures.state)
    (quiet D.Disk store c.args.call.now (Refused Memory) tt refl tt)

pub returns-in_default-planned_record-clause-serves : goal.returns-in_default-planned_record-clause-serves
returns-in_default-planned_record-clause-serves g c files =
    let D = g.D in
    let store : OpenStore _ = record {
      journal = c.args.journal.now;
      state = c.args.index.now.state;
      files = files;
      limit = c.args.limit;
    } in
    subst (λ (s : State). Serves D.Disk store (record store { state = s })
    c.args.call.now (Refused Memory)) (sym c.plan.ensures.state)
    (quiet D.Disk store c.args.call.now (Refused Memory) tt refl tt)

pub returns-in-None-clause-serves : goal.returns-in-None-clause-serves
returns-in-None-clause-serves g c files =
    let D = g.D in
    let call = c.args.call.now in
    let state = c.args.index.now.state in
    let plan = c.in-Ok.plan in
    let planned : IsPlanned state call plan = c.in-Ok.ensures.planned in
    let made = subst (λ (s : State). IsPlanned s call plan) (sym c.plan.ensures.state) planned in
    let none = subst (IsRecordOf c.plan.new.self.state call plan) c.in-None.is c.in-Ok-planned_record.ensures in
    let still = subst (λ (s : State). moves s call ≡ false) c.plan.ensures.state
    (unrecorded c.plan.new.self.state call plan made none) in
    unchanged D.Disk c.args.journal.now state c.apply.new.self.state files c.args.limit call c.apply.result
    c.requires.change still (c.apply.ensures.reply files call c.requires.change made
    ∙ ap (λ (s : State). answer files s call) c.plan.ensures.state)
    (c.apply.ensures.state call c.in-Ok.ensures.valid made ∙ ap (λ (s : State). after s call) c.plan.ensures.state)

pub returns-in-Some-clause-serves : goal.returns-in-Some-clause-serves
returns-in-Some-clause-serves g c files =
    let D = g.D in
    let call = c.args.call.now in
    subst (λ (s : State). Serves D.Disk
    (record { journal = c.args.journal.now; state = s; files = files; limit = c.args.limit })
    (record {
      journal = c.write_and_apply.new.journal;
      state = c.write_and_apply.new.index.state;
      files = files;
      limit = c.args.limit;
    }) call c.write_and_apply.result) c.plan.ensures.state
    (c.write_and_apply.ensures.serves files)
