use Rattle.script_typing.proofs.Callers.{callers-lead, lead-end}
use Rattle.script_typing.proofs.laws.callers_have_ended.Goals as goal

pub returns : goal.returns
returns c rules tasks said numbers dialogs pages sessions callers done =
    let leads = callers-lead rules said tasks numbers dialogs pages sessions callers done in
    (leads, lead-end rules said 0 tasks leads)
