use Rattle.std.proofs.Common.{◌==◌, ◌∙◌, ap, sym}
use Rattle.std.specs.Option.{option_map}
use Rattle.skk_text.specs.FilterLaws.{find-map}
use Rattle.skk_calls.specs.declared.book.NumberedBook.{NumberedBook}
use Rattle.learn_index.specs.Kept.{numbered}
use Rattle.learn_index.proofs.Changes.{numbers_ascend}
use Rattle.learn_index.proofs.kept_books.book_of.Goals as goal

pub item_of-requires : goal.item_of-requires
item_of-requires c = numbers_ascend c.args.books.now c.requires

pub returns : goal.returns
returns c =
    ap (option_map numbered) c.item_of.ensures
    ∙ sym (find-map numbered (λ (book : NumberedBook). book.number == c.args.number) c.args.books.now)
