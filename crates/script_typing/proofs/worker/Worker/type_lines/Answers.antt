use Rattle.std.proofs.Common.{◌+◌, ◌∙◌, List, arith, drop, refl, subst}
use Rattle.std.proofs.lemmas.List.{drop_all}
use Rattle.key_scripts.specs.declared.line.Line.{Line}
use Rattle.script_typing.proofs.Own.{ReachesOwn, own-start, own-next, own-line, own-broken, own-typed}
use Rattle.script_typing.proofs.worker.Worker.type_lines.Goals as goal

pub loop-line-init : goal.loop-line-init
loop-line-init g c = record {
  stays = (refl, refl);
  reached = own-start g.C.Caller c.args.rules.now c.args.lines.now c.args.self.now;
}

pub returns-in_err-type_line-clause-leaves : goal.returns-in_err-type_line-clause-leaves
returns-in_err-type_line-clause-leaves g c =
    let lines = c.args.lines.now in
    let place = c.loop-line.line-index in
    let line = c.line-item.result in
    own-broken g.C.Caller c.args.rules.now lines line (drop (place + 1) lines) c.args.self.now c.loop-line.self
    c.type_line.new.self
    (own-next g.C.Caller c.args.rules.now lines place line c.args.self.now c.loop-line.self c.loop-line-test.true
    c.line-item.is c.loop-line.invariant.reached)
    c.from_residual.result _ c.from_residual.ensures.1 _ c.in_err-type_line.ensures

pub loop-line-preserved : goal.loop-line-preserved
loop-line-preserved g c =
    let lines = c.args.lines.now in
    let place = c.loop-line.line-index in
    let line = c.line-item.result in
    let kept = c.loop-line.invariant in
    let types = c.in_ok-type_line.ensures in
    record {
      stays = (types.number ∙ kept.stays.0, types.says.number ∙ kept.stays.1);
      reached =
          own-line g.C.Caller c.args.rules.now lines line (drop (place + 1) lines) c.args.self.now c.loop-line.self
          c.type_line.new.self
          (own-next g.C.Caller c.args.rules.now lines place line c.args.self.now c.loop-line.self c.loop-line-test.true
          c.line-item.is kept.reached) kept.stays.0 types;
    }

pub returns-clause-leaves : goal.returns-clause-leaves
returns-clause-leaves g c =
    let lines = c.args.lines.now in
    own-typed g.C.Caller c.args.rules.now lines c.args.self.now c.loop-line.self
    (subst (λ (rest : List Line). ReachesOwn g.C.Caller c.args.rules.now lines rest c.args.self.now
    c.loop-line.self) (drop_all c.loop-line.line-index lines (omega (arith, c.loop-line-test.false)))
    c.loop-line.invariant.reached)
