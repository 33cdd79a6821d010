use Rattle.std.proofs.Common.{◌∙◌, subst}
use Rattle.dict_format.specs.LeftLines.{entries_left}
use Rattle.dict_files.specs.Scanning.{AreOfFile}
use Rattle.dict_files.proofs.scanning.places_in_text.Goals as goal

pub loop-line-preserved : goal.loop-line-preserved
loop-line-preserved c =
    let text = c.args.text.now in
    let stands = rw c.loop-line.invariant.text at c.in-Some.ensures.place in
    record {
      text = c.next_line.ensures.text ∙ c.loop-line.invariant.text;
      places =
          c.in_ok-places.ensures text (entries_left c.next_line.new.self) stands
          (subst (AreOfFile text c.loop-line.places) c.in-Some.ensures.line c.loop-line.invariant.places);
    }

pub returns : goal.returns
returns c = subst (AreOfFile c.args.text.now c.loop-line.places) c.in_default.ensures.line c.loop-line.invariant.places
