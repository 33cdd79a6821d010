use Rattle.std.proofs.Common.{◌∙◌, ◌++◌, [], ap, sym, refl, arith, append_assoc}
use Rattle.skk_server.specs.Ends.{moved_link}
use Rattle.skk_server.specs.Turns.{EndsRead}
use Rattle.skk_server.proofs.responder.Responder.answer_parts.Goals as goal
use Rattle.skk_server.proofs.Results.{if_err}
use Rattle.skk_server.proofs.Turns.{read-none, read-on, read-ends}

pub loop-rest-init : goal.loop-rest-init
loop-rest-init g c = record {
  front = (
    [],
    refl,
    read-none c.args.service.now.rules.now (g.K.Outside.written c.args.link.now) (g.C.Caller.said c.args.caller.now)
        c.args.self.now.talk c.args.self.now.page.bytes.items c.requires.quiet,
  );
  left = refl;
  number = refl;
  counted = omega arith;
}

pub returns-in_err-answer_part-clause-err : goal.returns-in_err-answer_part-clause-err
returns-in_err-answer_part-clause-err g c =
    let rules = c.args.service.now.rules.now in
    let said = g.C.Caller.said in
    let left = g.K.Outside.left in
    let written = g.K.Outside.written in
    let faults = g.K.Outside.faults in
    let (front, whole, read) = c.loop-rest.invariant.front in
    let part = c.split_at.result.0.now in
    let later = c.split_at.result.1.now in
    if_err (EndsRead rules (moved_link g.K.Outside c.args.link.now c.answer_part.new.link) (said c.args.caller.now)
    (said c.answer_part.new.caller) c.args.self.now.talk c.args.bytes.now) c.from_residual.result
    c.in_err-answer_part.field-0.0 c.from_residual.ensures.1
    (read-ends rules g.K.Outside c.args.link.now c.loop-rest.link c.answer_part.new.link (said c.args.caller.now)
    (said c.loop-rest.caller) (said c.answer_part.new.caller) c.args.self.now.talk c.loop-rest.self.talk
    c.loop-rest.self.page.bytes.items front part later c.args.bytes.now c.in_err-answer_part.field-0.0 read
    c.loop-rest.invariant.counted c.in_err-answer_part.ensures.err
    (ap (λ rest. front ++ rest) (sym c.split_at.ensures.by_index.0) ∙ whole))

pub loop-rest-preserved : goal.loop-rest-preserved
loop-rest-preserved g c =
    let rules = c.args.service.now.rules.now in
    let said = g.C.Caller.said in
    let written = g.K.Outside.written in
    let (front, whole, read) = c.loop-rest.invariant.front in
    let part = c.split_at.result.0.now in
    let later = c.split_at.result.1.now in
    record {
      front = (
        front ++ part,
        append_assoc front part later ∙ (ap (λ rest. front ++ rest) (sym c.split_at.ensures.by_index.0) ∙ whole),
        read-on rules (written c.args.link.now) (written c.loop-rest.link) (written c.answer_part.new.link)
            (said c.args.caller.now) (said c.loop-rest.caller) (said c.answer_part.new.caller) c.args.self.now.talk
            c.loop-rest.self.talk c.answer_part.new.self.talk c.loop-rest.self.page.bytes.items
            c.answer_part.new.self.page.bytes.items front part read c.in_ok-answer_part.ensures.ok,
      );
      left = c.answer_part.ensures.left ∙ c.loop-rest.invariant.left;
      number = c.answer_part.ensures.number ∙ c.loop-rest.invariant.number;
      counted = omega (arith, c.loop-rest.invariant.counted, c.answer_part.ensures.counted);
    }
