use Rattle.std.proofs.Common.{◌≡◌, ◌≤◌, drop}
use Rattle.script_typing.specs.Pages.{text_of_pages, woven_pages}
use Rattle.run_endings.specs.Page.{Printed}
use Rattle.skk_top.proofs.weaving.print_pages.Given as goal

-- what was written, the page, and the pages left are all pages
abbrev pub invariant-loop-number : goal.invariant-loop-number
invariant-loop-number g l = record {
  printed : Printed (g.O.Outside.written l.fn.out) (g.O.Outside.written l.out) l.page
      (text_of_pages (woven_pages (drop l.number-index l.order) l.typed.pages.entries))
      (text_of_pages (woven_pages l.order l.fn.typed.pages.entries));
  counted : g.O.Outside.faults l.fn.out ≤ g.O.Outside.faults l.out;
  sessions : l.typed.sessions.entries ≡ l.fn.typed.sessions.entries;
  whole : l.typed.whole ≡ l.fn.typed.whole;
}
