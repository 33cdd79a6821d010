use Rattle.dict_files.proofs.FileWalk.{first_least}
use Rattle.dict_files.proofs.dictionary_file.walked_at.Goals as goal

pub first_row-requires-clause-least : goal.first_row-requires-clause-least
first_row-requires-clause-least c =
    rw c.requires.first.1
    (first_least c.args.bytes.now _ c.args.place.now c.requires.first.0 c.reading_at.ensures
    (rw c.requires.first.1 at c.requires.rise))
