use Rattle.std.proofs.Common.{◌&&◌, refl}
use Rattle.std.proofs.Math.Facts.{Fits-lt-pow}
use Rattle.std.proofs.lemmas.Bool.{and_from}
use Rattle.std.specs.List.{list_all}
use Rattle.skk_calls.specs.BookLists.{is_book_list}
use Rattle.learned_store.specs.Payloads.{is_held}
use Rattle.learned_store.proofs.ReadForms.{number_held}
use Rattle.learned_store.proofs.writing.list_record.Goals as goal

pub returns : goal.returns
returns c = record {
  is = c.in_ok-payload.ensures.payload;
  version = refl;
  sound = λ stands.
      let books = c.args.books.now in
      and_from (is_held c.args.typist) (is_book_list books && list_all is_held books)
      (number_held c.args.typist (Fits-lt-pow c.ranges.typist))
      (and_from (is_book_list books) (list_all is_held books) stands c.in_ok-payload.ensures.held);
}
