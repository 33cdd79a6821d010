use Rattle.script_typing.proofs.Callers.{callers-asked}
use Rattle.script_typing.proofs.laws.callers_have_asked.Goals as goal

pub returns : goal.returns
returns c rules tasks said numbers dialogs callers asks =
    callers-asked rules said tasks numbers dialogs callers asks
