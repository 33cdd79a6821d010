use Rattle.std.proofs.Common.{List, ℕ, IfOk, OnErr, ap, sym, subst}
use Rattle.std.proofs.lemmas.Result.{on_err_weaker}
use Rattle.typist_line.specs.Typings.{heard}
use Rattle.skk_server.specs.declared.talk.Talk.TheVariants.{Typist}
use Rattle.skk_server.specs.Turns.{AnswersOf, BreaksOf}
use Rattle.skk_server.proofs.talk.answer_typist.Goals as goal
use Rattle.skk_server.proofs.Typists.{typist-answers, typist-broken}

pub returns-clause-ok : goal.returns-clause-ok
returns-clause-ok g c =
    let said = g.C.Caller.said in
    let lines = c.args.lines.now in
    let lines' = c.run_typist-going.new.lines in
    let before = heard said c.args.caller.now c.args.page.now.bytes.items in
    let after = heard said c.run_typist-going.new.caller c.run_typist-going.new.out.items in
    subst (λ (items : List ℕ). IfOk c.run_typist-going.result
    (AnswersOf c.args.rules.now c.args.bytes.now (Typist lines) (Typist lines') before
    (heard said c.run_typist-going.new.caller items)))
    (sym (ap (λ bytes. bytes.items) c.count_lines.ensures))
    (typist-answers c.args.rules.now c.args.bytes.now lines lines' before after c.run_typist-going.result
    c.over_stays_over.ensures c.run_typist-going.ensures.types c.run_typist-going.ensures.going)

pub returns-clause-err : goal.returns-clause-err
returns-clause-err g c =
    let said = g.C.Caller.said in
    let lines = c.args.lines.now in
    let before = heard said c.args.caller.now c.args.page.now.bytes.items in
    let after = heard said c.run_typist-going.new.caller c.run_typist-going.new.out.items in
    subst (λ (items : List ℕ). OnErr c.run_typist-going.result
    (BreaksOf c.args.rules.now c.args.bytes.now (Typist lines) before
    (heard said c.run_typist-going.new.caller items)))
    (sym (ap (λ bytes. bytes.items) c.count_lines.ensures))
    (on_err_weaker c.run_typist-going.result
    (typist-broken c.args.rules.now c.args.bytes.now lines before after c.exchange_of_a_front.ensures)
    c.run_typist-going.ensures.stops)
