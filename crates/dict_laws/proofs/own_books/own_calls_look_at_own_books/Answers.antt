use Rattle.dict_laws.specs.OwnBookLaws.{own_answered_alike, own_leaves_alike}
use Rattle.dict_laws.proofs.own_books.own_calls_look_at_own_books.Goals as goal

pub returns-clause-reply : goal.returns-clause-reply
returns-clause-reply c files typist state other call alike own =
    own_answered_alike state other typist call alike own files

pub returns-clause-state : goal.returns-clause-state
returns-clause-state c typist state other call alike own = own_leaves_alike state other typist call alike own
