use Rattle.std.proofs.Common.{◌≡◌, ◌+◌, ◌++◌, drop}
use Rattle.std.specs.Io.{StartsWith}
use Rattle.session_machine.specs.Display.{lettered, page_letters, printed_form}
use Rattle.session_machine.proofs.printing.push_lettered.Given as goal

-- the page and the candidates left behind their letters, as they are printed, are the page at the start and all of
-- them, and the page begins with what it was
abbrev pub invariant-loop-count : goal.invariant-loop-count
invariant-loop-count l = record {
  printed : l.page ++ printed_form (lettered (drop l.count page_letters) (drop (l.first + l.count) l.shown))
      ≡ l.fn.page ++ printed_form (lettered page_letters (drop l.first l.shown));
  kept : StartsWith l.page l.fn.page;
}
