use Rattle.dict_laws.proofs.AnsweredAlone.{legal_replies, replies_give_own}
use Rattle.dict_laws.proofs.own_books.own_calls_are_given_own_learnings.Goals as goal

pub returns : goal.returns
returns c opening history typist number legal =
    replies_give_own opening.files typist number opening.state history (legal_replies opening history legal)
