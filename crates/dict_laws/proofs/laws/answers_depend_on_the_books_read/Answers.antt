use Rattle.std.proofs.Common.{ap}
use Rattle.skk_calls.specs.declared.answer.Reply.TheVariants.{Found, Readings}
use Rattle.dict_laws.specs.ReadBooks.{found_alike, completions_alike}
use Rattle.dict_laws.proofs.laws.answers_depend_on_the_books_read.Goals as goal

pub returns-clause-lookup : goal.returns-clause-lookup
returns-clause-lookup c files state other who lists rows key okuri =
    ap Found (found_alike files state other who lists rows key okuri)

pub returns-clause-complete : goal.returns-clause-complete
returns-clause-complete c files state other who lists rows prefix =
    ap Readings (completions_alike files state other who lists rows prefix)
