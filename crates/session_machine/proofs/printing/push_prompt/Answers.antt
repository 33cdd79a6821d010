use Rattle.std.proofs.Common.{◌≡◌, ◌++◌, codes, length, sym, Some}
use Rattle.std.specs.List.{repeat}
use Rattle.std.specs.Str.{chars}
use Rattle.std.proofs.lemmas.Result.{on_ok_weaker}
use Rattle.session_machine.specs.Display.{prompt_name, prompt_text}
use Rattle.session_machine.specs.Registrations.{innermost}
use Rattle.session_machine.proofs.Forms.{more}
use Rattle.session_machine.proofs.printing.push_prompt.Goals as goal

pub returns-clause-ok : goal.returns-clause-ok
unfolding chars
returns-clause-ok c =
    let page = c.args.page.now in
    let depth = length c.args.outer.now in
    let frame = c.in-Some.frame.now in
    let one = repeat depth (codes "[") in
    let two = one ++ prompt_name frame.waiting in
    let three = two ++ repeat depth (codes "]") in
    let four = three ++ codes " " in
    let five = four ++ prompt_text frame.mode frame.waiting in
    let found : innermost c.args.outer.now ≡ Some frame = sym c.in-Some.ensures.value in
    rw found (on_ok_weaker c.push_str-2.result
    (more page five (codes ": ")
    (more page four (prompt_text frame.mode frame.waiting)
    (more page three (codes " ")
    (more page two (repeat depth (codes "]"))
    (more page one (prompt_name frame.waiting) c.in_ok-push_brackets.ensures.ok
    (rw c.prompt_name.ensures at c.in_ok-push_str.ensures.ok))
    c.in_ok-push_brackets-2.ensures.ok) c.in_ok-push.ensures.ok)
    c.in_ok-push_prompt_text.ensures.ok))
    c.push_str-2.ensures.ok)
