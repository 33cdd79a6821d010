use Rattle.std.proofs.Common.{◌∙◌, ap, sym}
use Rattle.std.proofs.lemmas.Bool.{not-true}
use Rattle.dict_files.specs.FilePlaces.{first_row}
use Rattle.dict_files.proofs.InOrder.{none_from}
use Rattle.dict_files.proofs.searching.first_row.Goals as goal

pub returns-then-ne : goal.returns-then-ne
returns-then-ne c =
    sym (c.loop-place.invariant
    ∙ ap (first_row c.args.part c.args.bytes.now)
    (none_from c.args.bytes.now c.args.reading.now c.args.places.now c.loop-place.place-index _ c.loop-place-test.true
    c.requires.rise c.requires.least (rw c.reading_at.ensures at (not-true _ (sym c.ne.ensures ∙ c.if-ne.true)))))
