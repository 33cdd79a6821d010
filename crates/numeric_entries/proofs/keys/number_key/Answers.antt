use Rattle.std.proofs.Common.{◌≡◌, ◌∙◌, ◌∷◌, ◌++◌, List, [], sym, ap, rules, append_assoc}
use Rattle.std.proofs.lemmas.Bool.{and_from}
use Rattle.std.proofs.lemmas.List.Folds.{list_all-append}
use Rattle.std.specs.Str.{chars}
use Rattle.numeric_entries.specs.Numbers.{key_of, numbers_of, is_number}
use Rattle.numeric_entries.specs.RunLaws.{key-number, numbers-number}
use Rattle.numeric_entries.proofs.keys.number_key.Goals as goal

-- an item that is taken from the front of what is left stands behind what was taken before
taken : {X : Type 0} (before after left rest all : List X) (x : X) → after ≡ before ++ x ∷ [] → left ≡ x ∷ rest
    → before ++ left ≡ all → after ++ rest ≡ all
taken before after left rest all x is_after is_left whole =
    ap (λ xs. xs ++ rest) is_after ∙ append_assoc before (x ∷ []) rest ∙ ap (λ xs. before ++ xs) (sym is_left) ∙ whole

pub loop-c-preserved-then-is_ascii_digit : goal.loop-c-preserved-then-is_ascii_digit
loop-c-preserved-then-is_ascii_digit c =
    let number = c.in_ok-number.number in
    let behind = chars c.in_ok-number.behind.now in
    let found = c.in_ok-number.ensures in
    record {
      text = search rules;
      key =
          taken c.loop-c.key c.push.new.self _ _ _ 0x23 c.in_ok-push.ensures.ok
          (ap key_of found.0 ∙ key-number number behind found.1 found.2) c.loop-c.invariant.key;
      numbers =
          taken c.loop-c.numbers c.push-then-is_ascii_digit.new.self _ _ _ number c.in_ok-push-2.ensures.ok
          (ap numbers_of found.0 ∙ numbers-number number behind found.1 found.2) c.loop-c.invariant.numbers;
      valid = rw (c.in_ok-push-2.ensures.ok, list_all-append is_number c.loop-c.numbers (number ∷ []), found.1)
          (and_from _ _ c.loop-c.invariant.valid (search rules));
    }
