use Rattle.std.proofs.Common.{◌≡◌, Err, inl, inr}
use Rattle.std.proofs.lemmas.Result.{IfOk-weaker, on_err_weaker}
use Rattle.skk_text.specs.declared.key_text.KeyFault.TheVariants.{BadName, NotAscii}
use Rattle.typist_line.specs.TypedLines.{keys}
use Rattle.typist_line.specs.Typings.{heard, PressesTo, TypesKeys}
use Rattle.typist_line.proofs.Lines.{faulty-types}
use Rattle.typist_line.proofs.key_line.type_keys.Goals as goal

pub returns-in-Ok-clause-ok : goal.returns-in-Ok-clause-ok
returns-in-Ok-clause-ok g c =
    let rules = c.args.rules.now in
    let before = heard g.C.Caller.said c.args.caller.now c.args.out.now.items in
    let after = heard g.C.Caller.said c.press.new.caller c.press.new.out.items in
    IfOk-weaker c.press.result (PressesTo rules (keys c.in-Ok.keys) c.args.session before after)
    (TypesKeys rules c.args.line.now c.args.session before after)
    (λ typist presses. (keys c.in-Ok.keys, c.in-Ok.ensures.found, presses)) c.press.ensures.ok

pub returns-in-Ok-clause-err : goal.returns-in-Ok-clause-err
returns-in-Ok-clause-err g c =
    on_err_weaker c.press.result (λ breaks. inr (keys c.in-Ok.keys, c.in-Ok.ensures.found, breaks)) c.press.ensures.err

pub returns-in_ok-send_fault-in-Err-BadName-clause-ok : goal.returns-in_ok-send_fault-in-Err-BadName-clause-ok
returns-in_ok-send_fault-in-Err-BadName-clause-ok g c =
    let at = c.in-Err-BadName.at in
    let is : c.read_keys.result ≡ Err (BadName at) = cc in
    faulty-types c.args.rules.now c.args.line.now c.args.session at (g.C.Caller.said c.args.caller.now)
    c.args.out.now.items _ (inl (c.read_keys.ensures.bad_name at is)) c.in_ok-send_fault-in-Err-BadName.ensures.ok

pub returns-in_ok-send_fault-in-Err-NotAscii-clause-ok : goal.returns-in_ok-send_fault-in-Err-NotAscii-clause-ok
returns-in_ok-send_fault-in-Err-NotAscii-clause-ok g c =
    let at = c.in-Err-NotAscii.at in
    let is : c.read_keys.result ≡ Err (NotAscii at) = cc in
    faulty-types c.args.rules.now c.args.line.now c.args.session at (g.C.Caller.said c.args.caller.now)
    c.args.out.now.items _ (inr (c.read_keys.ensures.not_ascii at is)) c.in_ok-send_fault-in-Err-NotAscii.ensures.ok
