-- Laws of interactions that run on.
use Rattle.std.proofs.Common.{◌≡◌, ◌∙◌, ℕ, List, [], ◌∷◌, ◌++◌, refl, sym, ap, subst, append_assoc, append-nil}
use Rattle.skk_calls.specs.declared.answer.Answer.{Answer}
use Rattle.skk_calls.specs.declared.call.Call.{Call}
use Rattle.skk_calls.specs.InteractionLaws.{leads-on, leads-prints}
use Rattle.skk_calls.specs.Interactions.{Interaction, asks, prints, Dialog, Leads, here, asking}
use Rattle.skk_calls.specs.Runs.{Runs, at, anywhere}

module _ {S I : Type 0} {said said' : Dialog} {Put : List ℕ → Type 0} where
  -- nothing was said, and nothing put out
  pub runs-nothing : (from : I → Interaction S) → said' ≡ said → Put [] → Runs from (at from) said said' Put
  runs-nothing from quiet put = record {
    dialog = [];
    text = [];
    grows = quiet ∙ sym (append-nil said);
    put = put;
    led = λ i. (from i, refl, here (from i));
  }

  -- a call was asked
  pub runs-ask : (call : Call) (next : I → Answer → Interaction S) (answer : Answer)
      → said' ≡ said ++ (call, answer) ∷ [] → Put []
      → Runs (λ i. asks call (next i)) (at (λ i. next i answer)) said said' Put
  runs-ask call next answer says put = record {
    dialog = (call, answer) ∷ [];
    text = [];
    grows = says;
    put = put;
    led = λ i. (next i answer, refl, asking call (next i) answer [] [] (next i answer) (here (next i answer)));
  }

  -- a text was put out
  pub runs-print : (text : List ℕ) (rest : I → Interaction S) → said' ≡ said → Put text
      → Runs (λ i. prints text (rest i)) (at rest) said said' Put
  runs-print text rest quiet put = record {
    dialog = [];
    text = text;
    grows = quiet ∙ sym (append-nil said);
    put = put;
    led = λ i. (rest i, refl, leads-prints text (here (prints text (rest i))));
  }

  -- what begins there begins here
  pub runs-from : {from from' : I → Interaction S} {To : I → Interaction S → Type 0}
      → ((i : I) → from' i ≡ from i) → Runs from To said said' Put → Runs from' To said said' Put
  runs-from {To = To} e runs = record {
    dialog = runs.dialog;
    text = runs.text;
    grows = runs.grows;
    put = runs.put;
    led = λ i.
        let (to, is, way) = runs.led i in
        (to, is, subst (λ start. Leads start runs.dialog runs.text to) (sym (e i)) way);
  }

  -- where it may come to more places
  pub runs-widen : {from : I → Interaction S} {To To' : I → Interaction S → Type 0}
      → ((i : I) (to : Interaction S) → To i to → To' i to)
      → Runs from To said said' Put → Runs from To' said said' Put
  runs-widen wider runs = record {
    dialog = runs.dialog;
    text = runs.text;
    grows = runs.grows;
    put = runs.put;
    led = λ i. let (to, is, way) = runs.led i in (to, wider i to is, way);
  }

  -- so it begins
  pub runs-begun : {from : I → Interaction S} {To : I → Interaction S → Type 0}
      → Runs from To said said' Put → Runs from anywhere said said' Put
  runs-begun = runs-widen (λ i to is. tt)

  -- to a place that is the same
  pub runs-to : {from to to' : I → Interaction S} → ((i : I) → to i ≡ to' i)
      → Runs from (at to) said said' Put → Runs from (at to') said said' Put
  runs-to e = runs-widen (λ i to is. is ∙ e i)

  -- behind fewer things
  pub runs-along : {J : Type 0} {from : I → Interaction S} {To : I → Interaction S → Type 0} (f : J → I)
      → Runs from To said said' Put → Runs (λ j. from (f j)) (λ j. To (f j)) said said' Put
  runs-along f runs = record {
    dialog = runs.dialog;
    text = runs.text;
    grows = runs.grows;
    put = runs.put;
    led = λ j. runs.led (f j);
  }

-- it ran on, and then further: for each two texts that were put out, both were, one behind the other
pub runs-then : {S I : Type 0} {from middle : I → Interaction S} {To : I → Interaction S → Type 0}
    {said between said' : Dialog} {First Then Both : List ℕ → Type 0}
    → ((one two : List ℕ) → First one → Then two → Both (one ++ two))
    → Runs from (at middle) said between First → Runs middle To between said' Then → Runs from To said said' Both
runs-then {said = said} puts one two = record {
  dialog = one.dialog ++ two.dialog;
  text = one.text ++ two.text;
  grows = two.grows ∙ ap (λ d. d ++ two.dialog) one.grows ∙ append_assoc said one.dialog two.dialog;
  put = puts one.text two.text one.put two.put;
  led = λ i.
      let (here', is, way) = one.led i in
      let (to, goes, on) = two.led i in
      (to, goes, leads-on way (subst (λ start. Leads start two.dialog two.text to) (sym is) on));
}
