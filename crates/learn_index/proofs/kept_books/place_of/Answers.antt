use Rattle.learn_index.proofs.Changes.{numbers_ascend}
use Rattle.learn_index.proofs.kept_books.place_of.Goals as goal

pub place_of-requires : goal.place_of-requires
place_of-requires c = numbers_ascend c.args.books.now c.requires
