use Rattle.std.proofs.lemmas.Result.{IfOk-weaker, on_err_weaker}
use Rattle.typist_line.specs.Typings.{heard}
use Rattle.skk_server.specs.Ends.{AnswersSome}
use Rattle.skk_server.specs.Turns.{StandsAt, BegunAt, Goes}
use Rattle.skk_server.proofs.Standing.{follows-from}
use Rattle.skk_server.proofs.talk.Talk.answer.Goals as goal

pub returns-clause-ok : goal.returns-clause-ok
returns-clause-ok g c =
    let said = g.C.Caller.said in
    let rules = c.args.rules.now in
    let piece = c.args.bytes.now in
    IfOk-weaker c.go_on.result _ _
    (λ going answers. follows-from (StandsAt rules c.args.self.now) (BegunAt rules piece c.begin.new.self)
    (Goes rules c.go_on.new.self going) piece (heard said c.args.caller.now c.args.page.now.bytes.items)
    (heard said c.go_on.new.caller c.go_on.new.page.bytes.items) (c.begin.ensures rules) answers)
    c.go_on.ensures.ok

pub returns-clause-err : goal.returns-clause-err
returns-clause-err g c =
    let said = g.C.Caller.said in
    let rules = c.args.rules.now in
    let piece = c.args.bytes.now in
    on_err_weaker c.go_on.result
    (follows-from (StandsAt rules c.args.self.now) (BegunAt rules piece c.begin.new.self) (AnswersSome rules) piece
    (heard said c.args.caller.now c.args.page.now.bytes.items)
    (heard said c.go_on.new.caller c.go_on.new.page.bytes.items) (c.begin.ensures rules))
    c.go_on.ensures.err
