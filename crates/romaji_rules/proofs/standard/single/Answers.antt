use Rattle.std.proofs.Common.{◌≡◌, ◌∙◌, ap, subst, ℕ, List, [], ◌++◌, IfOk}
use Rattle.std.specs.Str.{chars}
use Rattle.std.proofs.lemmas.List.{append-nil}
use Rattle.std.proofs.lemmas.Str.{chars-nil}
use Rattle.romaji_rules.specs.Standard.{rule}
use Rattle.romaji_rules.proofs.standard.single.Goals as goal

-- nothing follows the input, and nothing the kana
pub returns : goal.returns
returns c =
    let kana = chars c.args.kana.now in
    let input : c.in_ok-input.input ≡ c.args.input.now =
    c.in_ok-input.ensures ∙ append-nil c.as_bytes.result.now ∙ c.as_bytes.ensures.value in
    let hira : kana ++ chars [] ≡ kana = ap (λ cs. kana ++ cs) chars-nil ∙ append-nil kana in
    let Gives : List ℕ → List ℕ → Type 0 = λ bytes cs. IfOk c.rule.result (λ r. r ≡ rule bytes cs) in
    subst (λ bytes. Gives bytes kana) input (subst (λ cs. Gives c.in_ok-input.input cs) hira c.rule.ensures)
