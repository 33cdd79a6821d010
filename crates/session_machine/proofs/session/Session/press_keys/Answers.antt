use Rattle.std.proofs.Common.{◌≡◌, ◌∙◌, ◌+◌, ◌++◌, sym, ap, subst, drop, append_assoc, []}
use Rattle.std.proofs.Math.ListN.{drop_of_length-le}
use Rattle.std.proofs.lemmas.List.{at_drop_more}
use Rattle.session_machine.specs.Pressed.{all_pressed}
use Rattle.session_machine.specs.Said.{Says, after, spoken}
use Rattle.session_machine.proofs.Saying.{Goes, goes-on, goes-first, says-end, says-on, says-stopped}
use Rattle.session_machine.proofs.session.Session.press_keys.Goals as goal

pub returns-in_err-press_key : goal.returns-in_err-press_key
returns-in_err-press_key g c =
    let rules = c.args.rules.now in
    let session = c.loop-key.self in
    let reached = c.press_key.new.session in
    let behind = drop (c.loop-key.key-index + 1) c.args.keys.now in
    says-on _ _ c.loop-key.invariant.dialog _ _ _ _ c.loop-key.invariant.goes c.loop-key.invariant.number
    c.loop-key.invariant.grows
    (subst (λ meaning. Says meaning (after c.from_residual.result reached)
    (spoken g.C.Caller.number g.C.Caller.said c.loop-key.caller)
    (spoken g.C.Caller.number g.C.Caller.said c.press_key.new.caller))
    (sym (at_drop_more (all_pressed rules session) c.args.keys.now c.loop-key.key-index _ c.loop-key-test.true))
    (says-stopped _ (λ after. all_pressed rules after behind) (after c.press_key.result reached)
    c.in_err-press_key.field-0.0 c.from_residual.result reached _ _ _ c.press_key.ensures
    (ap (λ r. after r reached) c.in_err-press_key.was) c.from_residual.ensures.1))

pub loop-key-preserved : goal.loop-key-preserved
loop-key-preserved g c =
    let rules = c.args.rules.now in
    let session = c.loop-key.self in
    let reached = c.press_key.new.session in
    let says = c.in_ok-press_key.ensures in
    let behind = drop (c.loop-key.key-index + 1) c.args.keys.now in
    record {
      dialog = c.loop-key.invariant.dialog ++ says.dialog;
      grows =
          says.grows ∙ ap (λ d. d ++ says.dialog) c.loop-key.invariant.grows
          ∙ append_assoc (g.C.Caller.said c.args.caller.now) c.loop-key.invariant.dialog says.dialog;
      goes = goes-on _ _ _ c.loop-key.invariant.dialog says.dialog c.loop-key.invariant.goes
          (subst (λ meaning. Goes meaning says.dialog (all_pressed rules reached behind))
          (sym (at_drop_more (all_pressed rules session) c.args.keys.now c.loop-key.key-index _ c.loop-key-test.true))
          (goes-first rules session _ behind reached says.dialog says.ok));
      number = says.number ∙ c.loop-key.invariant.number;
    }

pub returns : goal.returns
returns g c =
    let none : drop c.loop-key.key-index c.args.keys.now ≡ [] =
    drop_of_length-le c.args.keys.now c.loop-key-test.false in
    says-on _ _ c.loop-key.invariant.dialog _ _ _ _ c.loop-key.invariant.goes c.loop-key.invariant.number
    c.loop-key.invariant.grows
    (says-end _ c.loop-key.self _ (ap (all_pressed c.args.rules.now c.loop-key.self) none))
