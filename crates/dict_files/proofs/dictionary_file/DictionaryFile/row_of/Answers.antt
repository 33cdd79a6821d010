use Rattle.dict_files.proofs.InOrder.{entries_valid}
use Rattle.dict_files.proofs.dictionary_file.DictionaryFile.row_of.Goals as goal

pub row_of-requires-clause-valid : goal.row_of-requires-clause-valid
row_of-requires-clause-valid c =
    rw (c.as_slice.ensures, c.deref.ensures.value, c.of-marked.ensures)
    (entries_valid c.part-part.result c.self.inside.bytes _ (c.self.invariant.parts c.part-part.result).entries)

pub row_of-requires-clause-rise : goal.row_of-requires-clause-rise
row_of-requires-clause-rise c =
    rw (c.as_slice.ensures, c.deref.ensures.value, c.of-marked.ensures)
    (c.self.invariant.parts c.part-part.result).rise

pub row_of-requires-clause-marks : goal.row_of-requires-clause-marks
row_of-requires-clause-marks c =
    rw (c.as_slice.ensures, c.deref.ensures.value, c.as_slice-2.ensures, c.of-marked.ensures)
    (c.self.invariant.marks c.part-part.result)
