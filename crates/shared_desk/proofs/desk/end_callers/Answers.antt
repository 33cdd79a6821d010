use Rattle.std.proofs.Common.{rules, ◌≡◌, ◌∙◌, ap, sym, subst, refl, arith, List, [], ◌∷◌, ◌++◌, length, All}
use Rattle.std.proofs.Common.{append_assoc, append-nil}
use Rattle.std.proofs.lemmas.List.Elements.{All-append, All-cons, All-nil}
use Rattle.shared_desk.specs.Told.{Stood}
use Rattle.shared_desk.proofs.desk.end_callers.Goals as goal

-- a list of no items
empty : {A : Type 0} (xs : List A) → length xs ≡ 0 → [] ≡ xs
empty [] is = refl
empty (x ∷ xs) is = absurd (omega (arith, is))

pub loop-slip-preserved : goal.loop-slip-preserved
loop-slip-preserved g c =
    let kept = c.loop-slip.invariant in
    let yielded = c.loop-slip.yielded in
    let seen = c.args.pen.now.seen in
    let slip = c.in-Some.slip in
    let stood =
    subst (λ h. Stood h slip) kept.1
    (subst (Stood c.loop-slip.pen.seen) c.slip.view_is (c.end.ensures.earlier, c.end.ensures.own)) in (
      search rules,
      search rules,
      search rules,
      All-append (Stood seen) yielded (slip ∷ []) kept.3
          (All-cons (Stood seen) slip [] stood (All-nil (Stood seen))),
      append_assoc yielded (slip ∷ []) c.next.new.self.rest.items
          ∙ ap (λ slips. yielded ++ slips) (sym c.in-Some.ensures.steps.0) ∙ kept.4,
    )

pub returns-clause-slips : goal.returns-clause-slips
returns-clause-slips g c =
    let kept = c.loop-slip.invariant in
    let yielded = c.loop-slip.yielded in
    let rest = c.loop-slip.slip-iterator.rest in
    let none = empty rest.items (search (rules, c.in-None.ensures.steps.0, rest.ok)) in
    subst (All (Stood c.args.pen.now.seen))
    (sym (append-nil yielded) ∙ ap (λ slips. yielded ++ slips) none ∙ kept.4) kept.3
