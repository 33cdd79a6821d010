use Rattle.std.proofs.Common.{ap, arith, subst, sym}
use Rattle.skk_calls.specs.declared.answer.Answer.TheVariants.{Done}
use Rattle.skk_calls.specs.Histories.{tight}
use Rattle.skk_calls.specs.States.{State}
use Rattle.learned_store.specs.Served.{Serves}
use Rattle.learned_store.proofs.TightEnds.{after_most}
use Rattle.learned_store.proofs.Told.{told}
use Rattle.learned_store.proofs.changing.write_and_apply.Goals as goal

pub write-requires-clause-sized : goal.write-requires-clause-sized
write-requires-clause-sized g c =
    let state = c.args.index.now.state in
    let call = c.args.call.now in
    let valid = c.count-valid.ensures.valid in
    let later = c.changes_keep_states_valid.ensures state call valid c.requires.typed c.requires.fit in
    (told state call valid c.requires.typed later c.args.planned.plan c.args.planned.written c.requires.planned
    c.requires.told).sized

-- the record was written, and the plan applied

pub returns-in-Ok-clause-serves : goal.returns-in-Ok-clause-serves
returns-in-Ok-clause-serves g c files =
    let D = g.D.Disk in
    let state = c.args.index.now.state in
    let call = c.args.call.now in
    let changes = c.requires.change in
    let valid = c.count-valid.ensures.valid in
    let later = c.changes_keep_states_valid.ensures state call valid c.requires.typed c.requires.fit in
    let tells = told state call valid c.requires.typed later c.args.planned.plan c.args.planned.written
    c.requires.planned c.requires.told in
    let serves = c.in-Ok.ensures.serves files call changes tells in
    subst (λ (s : State). Serves D
    (record { journal = c.args.journal.now; state = state; files = files; limit = c.args.limit })
    (record { journal = c.write.new.journal; state = s; files = files; limit = c.args.limit }) call
    (Done c.apply.result)) (sym (c.apply.ensures.state call c.requires.typed c.requires.planned))
    (rw (c.apply.ensures.reply files call changes c.requires.planned) serves)

pub returns-in-Ok-clause-tight : goal.returns-in-Ok-clause-tight
returns-in-Ok-clause-tight g c =
    let state = c.args.index.now.state in
    let call = c.args.call.now in
    let valid = c.count-valid.ensures.valid in
    let later = c.changes_keep_states_valid.ensures state call valid c.requires.typed c.requires.fit in
    let tells = told state call valid c.requires.typed later c.args.planned.plan c.args.planned.written
    c.requires.planned c.requires.told in
    omega (
      arith,
      ap tight (c.apply.ensures.state call c.requires.typed c.requires.planned),
      after_most state call,
      tells.needs,
      c.in-Ok.ensures.tight,
    )

-- it was not written
pub returns-clause-serves : goal.returns-clause-serves
returns-clause-serves g c files =
    let state = c.args.index.now.state in
    let call = c.args.call.now in
    let valid = c.count-valid.ensures.valid in
    let later = c.changes_keep_states_valid.ensures state call valid c.requires.typed c.requires.fit in
    let tells = told state call valid c.requires.typed later c.args.planned.plan c.args.planned.written
    c.requires.planned c.requires.told in
    c.in-Err.ensures.serves files call c.requires.change tells
