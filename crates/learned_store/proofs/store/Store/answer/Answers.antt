use Rattle.std.proofs.Common.{refl, subst, sym}
use Rattle.skk_calls.specs.declared.answer.Answer.TheVariants.{Done, Refused}
use Rattle.skk_calls.specs.declared.answer.Refusal.TheVariants.{Memory}
use Rattle.learned_store.specs.Served.{Serves}
use Rattle.learned_store.specs.Stores.{OpenStore}
use Rattle.learned_store.proofs.Serving.{question_still, quiet}
use Rattle.learned_store.proofs.store.Store.answer.Goals as goal

pub returns-in-Ok : goal.returns-in-Ok
returns-in-Ok g c =
    let D = g.D in
    let store = c.args.self.now in
    let call = c.args.call.now in
    subst (λ (s : OpenStore _). Serves D.Disk store s call (Done c.in-Ok.reply)) (sym c.reply.ensures.same)
    (quiet D.Disk store call (Done c.in-Ok.reply) c.in-Ok.ensures.value
    c.in-Ok.ensures.may (question_still store.state call c.requires.question))

pub returns-in-Err : goal.returns-in-Err
returns-in-Err g c =
    let D = g.D in
    let store = c.args.self.now in
    let call = c.args.call.now in
    subst (λ (s : OpenStore _). Serves D.Disk store s call (Refused Memory)) (sym c.reply.ensures.same)
    (quiet D.Disk store call (Refused Memory) tt refl tt)
