use Rattle.std.proofs.Common.{refl}
use Rattle.session_machine.specs.Display.{line}
use Rattle.typist_line.proofs.Pressing.{pressed-unsent, pressed-whole, pressed-begun, unsent}
use Rattle.typist_line.proofs.Results.{on_err}
use Rattle.typist_line.proofs.key_line.press.Goals as goal

pub returns-clause-ok : goal.returns-clause-ok
returns-clause-ok g c =
    let says = rw c.as_slice.ensures at c.in_ok-next.ensures in (
      record { dialog = says.dialog; text = line c.in_ok-next.next },
      c.in_ok-next.next,
      (says.grows, c.in_ok-send_line.ensures.ok),
      refl,
      pressed-whole c.args.rules.now c.args.session c.in_ok-next.next c.args.pressed.now says.dialog says.ok,
    )

pub returns-in_err-next-clause-err : goal.returns-in_err-next-clause-err
returns-in_err-next-clause-err g c =
    let says = rw c.as_slice.ensures at c.in_err-next.ensures in
    let begun = pressed-begun c.args.rules.now c.args.session c.args.pressed.now says.dialog says.memory in
    on_err c.from_residual.result
    (says.dialog, begun.0, (says.grows, unsent c.args.out.now.items c.args.out.now.items refl), begun.1)

pub returns-in_err-send_line-clause-err : goal.returns-in_err-send_line-clause-err
returns-in_err-send_line-clause-err g c =
    let says = rw c.as_slice.ensures at c.in_ok-next.ensures in
    on_err c.from_residual-in_err-send_line.result (
      says.dialog,
      _,
      (says.grows, unsent c.args.out.now.items c.send_line.new.out.items c.in_err-send_line.ensures.err),
      pressed-unsent c.args.rules.now c.args.session c.in_ok-next.next c.args.pressed.now says.dialog says.ok,
    )
