use Rattle.std.proofs.Common.{arith, subst, sym}
use Rattle.script_typing.specs.MapLaws.{AreBelow, below-put}
use Rattle.script_typing.proofs.cutting.push_line.Goals as goal

-- the number of a session is a byte
pub returns-clause-below : goal.returns-clause-below
returns-clause-below c =
    let number = c.session-number.result in
    λ below.
    subst (AreBelow 256) (sym c.in_ok-insert-2.ensures.entries)
    (below-put 256 c.insert.new.self.entries number _ (omega (arith, c.session-number.type_inv))
    (subst (AreBelow 256) (sym c.in_ok-insert.ensures.entries)
    (below-put 256 c.args.tasks.now.entries number c.new.result (omega (arith, c.session-number.type_inv)) below)))
