use Rattle.std.proofs.Common.{◌≡◌, ◌∙◌, ◌+◌, refl, ap, get_or, take, drop, arith}
use Rattle.std.specs.Str.{chars}
use Rattle.std.proofs.lemmas.Str.{IsCharBoundary-after_ascii}
use Rattle.session_machine.specs.Display.{escaped}
use Rattle.session_machine.proofs.Escapes.{text-plain, text-split, escape-small}
use Rattle.session_machine.proofs.escaping.next_escape.Goals as goal

pub returns-in_err-place-clause-none : goal.returns-in_err-place-clause-none
returns-in_err-place-clause-none c = λ none.
    text-plain c.args.text.now c.utf8.text (c.in_err-place.ensures.none refl)

pub range_from-requires : goal.range_from-requires
range_from-requires c = λ some.
    let place = c.in_ok-place in
    IsCharBoundary-after_ascii c.args.text.now place.place c.utf8.text place.ensures.within
    (escape-small (get_or c.args.text.now place.place 0) place.ensures.ends)

pub returns-clause-found : goal.returns-clause-found
returns-clause-found c =
    let text = c.args.text.now in
    let at = c.in_ok-place in
    let front : c.range.result.now ≡ take at.place text = grind arith in
    let byte : chars c.in_ok-escape.escape.now ≡ escaped (get_or text at.place 0) =
    c.in_ok-escape.ensures.some.1 ∙ ap (λ bs. escaped (get_or bs at.place 0)) c.as_bytes.ensures.value in
    let behind : c.range_from.result.now ≡ drop (at.place + 1) text = grind arith in
    rw (front, byte, behind) (text-split text at.place c.utf8.text at.ensures.within at.ensures.plain at.ensures.ends)
