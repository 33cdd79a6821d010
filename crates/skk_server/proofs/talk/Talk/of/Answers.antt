use Rattle.std.proofs.Common.{◌∙◌, length, sym, arith}
use Rattle.std.proofs.lemmas.Bool.{eqb-false}
use Rattle.skk_server.proofs.Standing.{begins-client, begins-typist}
use Rattle.skk_server.proofs.talk.Talk.of.Goals as goal

pub returns-then-is_typist : goal.returns-then-is_typist
returns-then-is_typist c =
    begins-typist c.args.bytes.now c.new.result (sym c.is_typist.ensures ∙ c.if-is_typist.true) c.new.ensures

pub returns-else-is_typist : goal.returns-else-is_typist
returns-else-is_typist c =
    let some = eqb-false (length c.args.bytes.now) 0 (sym c.is_empty.ensures ∙ c.if-is_empty.false) in
    begins-client c.args.bytes.now c.new-else-is_typist.result c.new-else-is_typist.ensures
    (sym c.is_typist.ensures ∙ c.if-is_typist.false) (omega (arith, some))
