use Rattle.std.proofs.Common.{[], refl}
use Rattle.dict_laws.specs.OwnBookLaws.{alike_itself}
use Rattle.dict_laws.proofs.AnsweredAlone.{each_alone, legal_replies}
use Rattle.dict_laws.proofs.own_books.each_typist_is_answered_alone.Goals as goal

pub returns-clause-answers : goal.returns-clause-answers
returns-clause-answers c opening history typist_of number legal own apart served =
    (each_alone opening.files opening.state typist_of number opening.state opening.state history refl
    (alike_itself opening.state (typist_of number)) own apart served).0 (legal_replies opening history legal)

pub returns-clause-book : goal.returns-clause-book
returns-clause-book c state history typist_of number own apart served =
    (each_alone [] state typist_of number state state history refl (alike_itself state (typist_of number)) own apart
    served).1
