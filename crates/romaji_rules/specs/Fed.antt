-- What a rule set makes of the next character, as a relation that does not depend on the order of the rules.
use Rattle.std.specs.Prelude.{◌≡◌, ◌⊎◌, ℕ, List, [], ◌∷◌, ◌++◌, Contains}
use Rattle.romaji_rules.specs.declared.out.Out.{Out}
use Rattle.romaji_rules.specs.declared.rule.Rule.{Rule}
use Rattle.romaji_rules.specs.Output.{nothing, itself, appended}

-- the whole begins with the prefix and goes on
abbrev pub IsProperPrefix : List ℕ → List ℕ → Type 0
IsProperPrefix prefix whole = (next : ℕ) × (rest : List ℕ) × (whole ≡ prefix ++ next ∷ rest)

module _ (rules : List Rule) where
  -- some input of the rules begins with the text and goes on
  abbrev pub BeginsInput : List ℕ → Type 0
  BeginsInput text = (rule : Rule) × Contains rules rule × IsProperPrefix text rule.input

  -- the text is the input of a rule with this next text and this output
  abbrev pub IsRule : List ℕ → List ℕ → Out → Type 0
  IsRule text next out =
      (rule : Rule) × Contains rules rule × (rule.input ≡ text) × (rule.next ≡ next) × (rule.out ≡ out)

  -- the text is the input of some rule
  abbrev pub IsInput : List ℕ → Type 0
  IsInput text = (rule : Rule) × Contains rules rule × (rule.input ≡ text)

  -- the text is an input or begins one
  abbrev pub GoesOn : List ℕ → Type 0
  GoesOn text = BeginsInput text ⊎ IsInput text

  -- what is pending comes out as this output: a rule's where it is an input, and else nothing
  abbrev pub Flushed : List ℕ → Out → Type 0
  Flushed pending out = ((next : List ℕ) × IsRule pending next out) ⊎ (¬ IsInput pending × (out ≡ nothing))

  -- a character with nothing pending leaves this pending and this output: it begins an input, is one,
  -- or comes out as itself
  abbrev pub FedAlone : ℕ → List ℕ → Out → Type 0
  FedAlone c next out =
      (BeginsInput (c ∷ []) × (next ≡ c ∷ []) × (out ≡ nothing))
      ⊎ ((¬ BeginsInput (c ∷ []) × IsRule (c ∷ []) next out)
      ⊎ (¬ BeginsInput (c ∷ []) × ¬ IsInput (c ∷ []) × (next ≡ []) × (out ≡ itself c)))

  -- a character after what is pending leaves this pending and this output: together they begin an input, are one,
  -- or what is pending is flushed and the character is read alone
  abbrev pub FedAfter : List ℕ → ℕ → List ℕ → Out → Type 0
  FedAfter pending c next out =
      let text = pending ++ c ∷ [] in
      (BeginsInput text × (next ≡ text) × (out ≡ nothing))
      ⊎ ((¬ BeginsInput text × IsRule text next out)
      ⊎ (¬ BeginsInput text × ¬ IsInput text × ((first : Out) × (second : Out) × Flushed pending first
      × FedAlone c next second × (out ≡ appended first second))))

  -- a character leaves this pending and this output, whether something is pending before it or nothing
  abbrev pub Fed : List ℕ → ℕ → List ℕ → Out → Type 0
  Fed [] c next out = FedAlone c next out
  Fed (b ∷ pending) c next out = FedAfter (b ∷ pending) c next out
