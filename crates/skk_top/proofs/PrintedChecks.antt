-- What the printing of a checked file leaves, by how it ends.
use Rattle.std.proofs.Common.{◌≡◌, ◌≤◌, ◌<◌, ◌+◌, ◌++◌, ◌∙◌, [], ap, sym, ℕ, Option, List, append_assoc, length, drop}
use Rattle.std.proofs.Common.{get_or, arith}
use Rattle.std.proofs.lemmas.List.{append-nil, at_drop_more}
use Rattle.dict_format.specs.declared.file.BadLine.{BadLine}
use Rattle.skk_top.specs.CheckedFiles.{bad_line, bad_lines}
use Rattle.run_endings.specs.Page.{Printed, StopsPrinting}
use Rattle.run_endings.specs.declared.fault.RunFault.{RunFault}
use Rattle.run_endings.specs.declared.fault.RunFault.TheVariants.{Outside, Memory}
use Rattle.run_endings.specs.PageLaws.{Printed-more, Printed-rest}

-- the line of the bad line at a place goes to the page
pub printed-bad_line : (lines : List BadLine) (place : ℕ) (none : BadLine) (old new : Option (List ℕ))
    (page page' whole : List ℕ)
    → place < length lines → page' ≡ page ++ bad_line (get_or lines place none)
    → Printed old new page (bad_lines (drop place lines)) whole
    → Printed old new page' (bad_lines (drop (place + 1) lines)) whole
printed-bad_line lines place none old new page page' whole within pushed printed =
    Printed-more old new page (bad_line (get_or lines place none)) (bad_lines (drop (place + 1) lines))
    whole page' pushed
    (Printed-rest old new page (bad_lines (drop place lines)) _ whole
    (at_drop_more bad_lines lines place none within) printed)

-- a text more behind what is added to a page
pub more : (page added text next : List ℕ) → next ≡ page ++ added → next ++ text ≡ page ++ (added ++ text)
more page added text next is = ap (λ p. p ++ text) is ∙ append_assoc page added text

-- a text more behind a page that is all of the rest
pub Printed-longer : (old new : Option (List ℕ)) (page whole text longer : List ℕ) → longer ≡ page ++ text
    → Printed old new page [] whole → Printed old new longer [] (whole ++ text)
Printed-longer old new page whole text longer pushed printed = (
  printed.0,
  printed.1,
  ap (λ p. printed.0 ++ p) (append-nil longer ∙ pushed)
      ∙ sym (append_assoc printed.0 page text)
      ∙ ap (λ w. w ++ text) (ap (λ p. printed.0 ++ p) (sym (append-nil page)) ∙ printed.2),
)

-- a call that failed behind others failed since these began
pub stops-behind : (fault : RunFault) (old mid new : Option (List ℕ)) (faults middle faults' : ℕ) → faults ≤ middle
    → StopsPrinting (record { written = mid; written' = new; faults = middle; faults' = faults' }) fault
    → StopsPrinting (record { written = old; written' = new; faults = faults; faults' = faults' }) fault
stops-behind Outside old mid new faults middle faults' counted rose = omega (arith, counted, rose)
stops-behind Memory old mid new faults middle faults' counted out = tt
stops-behind fault old mid new faults middle faults' counted none = absurd none
