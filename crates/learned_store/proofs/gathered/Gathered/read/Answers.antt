use Rattle.std.proofs.Common.{◌≡◌, ◌∙◌, ℕ, true, nat_le, List, Option, Some, sym, subst}
use Rattle.std.proofs.lemmas.Bool.{and_from, and_parts, both_ways}
use Rattle.std.proofs.lemmas.Option.{same_Some}
use Rattle.std.specs.Option.{IfSome}
use Rattle.skk_calls.specs.States.{State}
use Rattle.learned_store.specs.declared.form.PayloadForm.{PayloadForm}
use Rattle.learned_store.specs.Gathering.{counts_on}
use Rattle.learned_store.specs.Payloads.{CountsOn, Says, counted_by, first_version, is_sound, payload_of}
use Rattle.learned_store.proofs.Gathering.{counted_on, counts_still}
use Rattle.learned_store.proofs.gathered.Gathered.read.Goals as goal

-- what a payload says is the one form that is read of it
module _ (version : ℕ) (payload : List ℕ) (found : Option PayloadForm) (form : PayloadForm) (is : found ≡ Some form)
    (only : (f : PayloadForm) → is_sound f ≡ true → payload ≡ payload_of f → found ≡ Some f) where
  one_said : (state : State) (other : PayloadForm) → Says version state payload other → other ≡ form
  one_said state other says = same_Some other form (sym (only other says.sound says.is) ∙ is)

-- it is said where its version, its count and its row have it so
pub returns-clause-sound : goal.returns-clause-sound
returns-clause-sound c =
    let form = c.in-Some.form in
    let facts = subst (λ (found : Option PayloadForm). IfSome found (λ f. (is_sound f ≡ true)
    × (c.args.payload.now ≡ payload_of f))) c.in-Some.is c.in_ok-form.ensures.some in
    let next = and_parts (nat_le (first_version form) c.args.version)
    (counts_on c.args.self.now.counts (counted_by form))
    (sym c.comes_next.ensures ∙ c.if-not-comes_next.false) in
    (facts.0, λ state gathers. counted_on state c.args.self.now.counts (counted_by form) gathers.count next.1)

pub returns-clause-some : goal.returns-clause-some
returns-clause-some c state gathers follows =
    let form = c.in-Some.form in
    let facts = subst (λ (found : Option PayloadForm). IfSome found (λ f. (is_sound f ≡ true)
    × (c.args.payload.now ≡ payload_of f))) c.in-Some.is c.in_ok-form.ensures.some in
    let next = and_parts (nat_le (first_version form) c.args.version)
    (counts_on c.args.self.now.counts (counted_by form))
    (sym c.comes_next.ensures ∙ c.if-not-comes_next.false) in
    record {
      known = next.0;
      sound = facts.0;
      counted = counted_on state c.args.self.now.counts (counted_by form) gathers.count next.1;
      follows = follows;
      is = facts.1;
    }

pub returns-clause-only : goal.returns-clause-only
returns-clause-only c =
    one_said c.args.version c.args.payload.now c.in_ok-form.field-0 c.in-Some.form c.in-Some.is
    c.in_ok-form.ensures.only

-- and nothing where the version has no such record, or the count is below that of its book
pub returns-then-not-comes_next-clause-none : goal.returns-then-not-comes_next-clause-none
returns-then-not-comes_next-clause-none c none state gathers form says =
    let same = one_said c.args.version c.args.payload.now c.in_ok-form.field-0 c.in-Some.form c.in-Some.is
    c.in_ok-form.ensures.only state form says in
    let known : nat_le (first_version c.in-Some.form) c.args.version ≡ true =
    subst (λ (f : PayloadForm). nat_le (first_version f) c.args.version ≡ true) same says.known in
    let counted : CountsOn state (counted_by c.in-Some.form) =
    subst (λ (f : PayloadForm). CountsOn state (counted_by f)) same says.counted in
    let on = counts_still state c.args.self.now.counts (counted_by c.in-Some.form) gathers.count counted in
    both_ways c.comes_next.result c.if-not-comes_next.true
    (c.comes_next.ensures ∙ and_from (nat_le (first_version c.in-Some.form) c.args.version)
    (counts_on c.args.self.now.counts (counted_by c.in-Some.form)) known on)
