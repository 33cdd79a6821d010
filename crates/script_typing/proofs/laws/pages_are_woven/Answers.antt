use Rattle.script_typing.proofs.PagesWoven.{pages-woven}
use Rattle.script_typing.proofs.laws.pages_are_woven.Goals as goal

pub returns : goal.returns
returns c rules lines said numbers dialogs whole pages sessions callers done =
    pages-woven rules lines said numbers dialogs whole pages sessions callers done
