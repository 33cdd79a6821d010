use Rattle.std.proofs.Common.{not, ◌==◌, ◌∙◌, ap}
use Rattle.std.proofs.lemmas.Bool.{and_parts, eqb-true, not-true}
use Rattle.skk_calls.specs.BookLists.{has_number}
use Rattle.skk_calls.specs.Dictionary.{is_share}
use Rattle.skk_calls.specs.States.{books_read}
use Rattle.dict_laws.specs.OwnBooks.{owner}
use Rattle.dict_laws.specs.OwnBookLaws.{others_leave_alike}
use Rattle.dict_laws.proofs.own_books.own_calls_leave_other_books.Goals as goal

pub returns : goal.returns
returns c writer typist state call own unread =
    let parts = and_parts (not (is_share call)) (owner call == writer) own in
    others_leave_alike state typist call (not-true (is_share call) parts.0)
    (ap (λ n. has_number (books_read state typist) n) (eqb-true (owner call) writer parts.1) ∙ unread)
