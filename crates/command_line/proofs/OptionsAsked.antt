-- The options that are made of what `clap` finds are those that words ask for.
use Rattle.std.proofs.Common.{◌≡◌, ◌≤◌, ◌∙◌, sym, ap, refl, arith, ℕ, Option, Some, None, List, []}
use lib.Utf8.{encodes}
use Rattle.std.specs.Fmt.{decimal}
use Rattle.std.specs.Option.{IfSome, IsSome, option_and_then, option_map, unwrap_or}
use Rattle.std.specs.Str.{chars}
use Rattle.std.proofs.lemmas.Str.{encodes_same}
use Rattle.command_line.specs.Ranges.{LiesFrom}
use Rattle.command_line.specs.Words.{number_within}
use Rattle.command_line.specs.declared.setting.Setting.{Setting}
use Rattle.command_line.proofs.WordTexts.{number-read}

-- options are made of the settings that a command takes
pub record AreMade {X : Type 0} (make : List Setting → X) (given : Option (List Setting)) : Type 0 where
  pub settings : List Setting
  pub is : given ≡ Some settings
  pub made : option_map make given ≡ Some (make settings)

pub are_made : {X : Type 0} (make : List Setting → X) (given : Option (List Setting)) → IsSome given
    → AreMade make given
are_made make None some = absurd (cc)
are_made make (Some settings) some = record { settings = settings; is = refl; made = refl }

-- a text that is found is that of the setting, and so is a number
pub same_text : (given found : Option (List ℕ)) (text : List ℕ) → found ≡ option_map encodes given
    → encodes text ≡ unwrap_or found [] → text ≡ unwrap_or given []
same_text given found text is bytes = encodes_same text (unwrap_or given []) (grind (arith, bytes, is))

pub same_number : (least most : ℕ) (given : Option ℕ) (found : Option (List ℕ)) (number : ℕ)
    → most ≤ 18446744073709551615 → (found ≡ option_map decimal given) × IfSome given (LiesFrom least most)
    → number ≡ unwrap_or (option_and_then (λ text. number_within 0 18446744073709551615 (chars text)) found) 0
    → number ≡ unwrap_or given 0
same_number least most None found number small is read = rw is.0 at read
same_number least most (Some n) found number small is read =
    rw is.0 at read
    ∙ ap (λ o. unwrap_or o 0)
    (sym (number-read (decimal n) 0 18446744073709551615 n refl (omega (arith, is.1.1, small)) (omega arith)
    (omega (arith, is.1.1, small))))
