use Rattle.script_typing.proofs.Typists.{typists-play}
use Rattle.script_typing.proofs.laws.typists_apart_play_alone.Goals as goal

pub returns : goal.returns
returns c rules lines opening history well first legal served strangers leads apart =
    typists-play rules c.calls_are_own.ensures.new
    (λ typist session ks. c.calls_are_own.ensures.keys rules typist session ks) opening history lines
    (λ typist number. c.own_calls_are_given_own_learnings.ensures opening history typist number legal)
    (λ typist_of number own others replied.
    c.each_typist_is_answered_alone.ensures.answers opening history typist_of number legal own others replied)
    well first served strangers leads apart
    (λ typist_of other same own differ.
    c.callers_who_say_the_same_come_to_one_tally.ensures opening.state typist_of history other same own differ served)
