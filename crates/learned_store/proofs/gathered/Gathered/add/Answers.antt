use Rattle.std.proofs.Common.{◌≡◌, ◌∙◌, true, Option, ap, subst, sym}
use Rattle.std.proofs.lemmas.Bool.{both_ways}
use Rattle.std.proofs.lemmas.Result.{IfOk-weaker}
use Rattle.std.specs.Option.{IfSome}
use Rattle.skk_calls.specs.States.{State}
use Rattle.learned_store.specs.declared.form.PayloadForm.{PayloadForm}
use Rattle.learned_store.specs.Gathering.{Gathers}
use Rattle.learned_store.specs.Payloads.{CountsOn, Says, counted_by, is_sound, may_follow}
use Rattle.learned_store.proofs.gathered.Gathered.add.Goals as goal

pub returns-in-Some-clause-said : goal.returns-in-Some-clause-said
returns-in-Some-clause-said c =
    let form = c.in-Some.form in
    let now = c.put_again.new.self in
    let sound = subst (λ (read : Option PayloadForm). IfSome read (λ f. (is_sound f ≡ true)
    × ((state : State) → Gathers now state → CountsOn state (counted_by f)))) c.in-Some.is
    c.in_ok-form.ensures.sound in
    let says = subst (λ (read : Option PayloadForm). IfSome read (λ f. (state : State) → Gathers now state
    → may_follow state f ≡ true → Says c.args.version state c.args.payload.now f)) c.in-Some.is
    c.in_ok-form.ensures.some in
    IfOk-weaker c.tell.result _ _ (λ done told yes state gathers.
    let still = c.in_ok-put_again.ensures.same c.if-branch.false state gathers in
    let made = told yes state still sound.0 (sound.1 state still) in
    (form, says state still made.0, made.1)) c.tell.ensures.told

pub returns-in-Some-clause-none : goal.returns-in-Some-clause-none
returns-in-Some-clause-none c =
    let now = c.put_again.new.self in
    let only = subst (λ (read : Option PayloadForm). IfSome read (λ f. (state : State) (other : PayloadForm)
    → Says c.args.version state c.args.payload.now other → other ≡ f)) c.in-Some.is c.in_ok-form.ensures.only in
    IfOk-weaker c.tell.result _ _ (λ done refused no state gathers other says.
    let still = c.in_ok-put_again.ensures.same c.if-branch.false state gathers in
    both_ways (may_follow state c.in-Some.form) (refused no state still)
    (ap (may_follow state) (sym (only state other says)) ∙ says.follows)) c.tell.ensures.none
