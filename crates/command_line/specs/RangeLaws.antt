-- The numbers of commands lie in their ranges.
use Rattle.std.proofs.Common.{◌≡◌, ◌≢◌, ◌≤◌, sym, subst, refl, ℕ, true, false, cond}
use Rattle.std.proofs.Common.{◌+◌, ◌==◌, ◌&&◌, Option, Some, None, List, [], ◌∷◌, arith, nat_le}
use Rattle.std.specs.List.{AllByRecursion}
use Rattle.std.specs.Option.{IfSome, option_and_then, unwrap_or}
use Rattle.std.proofs.lemmas.Bool.{cond_both, and_parts, leb-true, eqb-true}
use Rattle.std.proofs.lemmas.List.Sums.{sum_by-cons}
use Rattle.std.proofs.lemmas.Option.{IfSome_then}
use Rattle.command_line.specs.Arguments.{place, takes_at}
use Rattle.command_line.specs.Command.{takes, required, command, command_with, command_named, settings_command}
use Rattle.command_line.specs.Command.{are_enough, load_options}
use Rattle.command_line.specs.OptionLaws.{IfSome-all, IfSome-and_then, IfSome-if}
use Rattle.command_line.specs.Ranges.{LiesFrom, IsLoadInRange, HasNumbersInRange}
use Rattle.command_line.specs.Settings.{takes_value}
use Rattle.command_line.specs.SettingLaws.{AreWritten, Writes, empty, bare, alone, joined, apart, taken_by}
use Rattle.command_line.specs.SettingLaws.{written}
use Rattle.command_line.specs.Settings.{settings_of, is_of, times, number_in, value_given}
use Rattle.command_line.specs.Settings.{number_given, number_or, is_given, is_within, fits}
use Rattle.command_line.specs.declared.argument.Argument.{Argument}
use Rattle.command_line.specs.declared.argument.Argument.TheVariants.{Limit, Port, Connections, Book, Typist}
use Rattle.command_line.specs.declared.argument.Argument.TheVariants.{Seed, Sessions, Lines, Threads, Look, Complete}
use Rattle.command_line.specs.declared.argument.Takes.{Takes}
use Rattle.command_line.specs.declared.argument.Takes.TheVariants as takes
use Rattle.command_line.specs.declared.argument.Takes.TheVariants.{Nothing, Name, Number}
use Rattle.command_line.specs.declared.command.Command.{Command}
use Rattle.command_line.specs.declared.command_name.CommandName.{CommandName}
use Rattle.command_line.specs.declared.command_name.CommandName.TheVariants.{TypeScript, Serve, Check, Dump, Share}
use Rattle.command_line.specs.declared.command_name.CommandName.TheVariants.{Load, Ask, Import}
use Rattle.command_line.specs.declared.setting.Setting.{Setting}
use Rattle.command_line.specs.declared.setting.Value.{Value}
use Rattle.command_line.specs.declared.setting.Value.TheVariants as values

-- a value is what is taken, and where that is a number, it lies in the range
abbrev pub IsTaken : Takes → Value → Type 0
IsTaken Nothing value = value ≡ values.Nothing
IsTaken Name value = (text : List ℕ) × (value ≡ values.Text text)
IsTaken (Number least most) value = (number : ℕ) × (value ≡ values.Number number) × LiesFrom least most number
IsTaken takes.Books value = (books : List ℕ) × (value ≡ values.Books books)

value-taken : (taken : Takes) (word : List ℕ) (value : Value) → Writes taken word value → IsTaken taken value
value-taken Nothing word value writes = absurd writes
value-taken Name word value writes = (word, writes.1)
value-taken (Number least most) word value writes = (writes.0, writes.2, writes.3)
value-taken takes.Books word value writes = (writes.0, writes.2)

-- so it is in a setting that is written
abbrev pub IsGiven : Setting → Type 0
IsGiven given = IsTaken (takes_at (place given.argument)) given.value

none-taken : (taken : Takes) → takes_value taken ≡ false → IsTaken taken values.Nothing
none-taken Nothing none = refl
none-taken Name none = cc
none-taken (Number least most) none = cc
none-taken takes.Books none = cc

-- and so in all that words write
abbrev pub AreGiven : List Setting → Type 0
AreGiven settings = AllByRecursion IsGiven settings

pub are-given : {words : List (List ℕ)} {settings : List Setting} → AreWritten words settings → AreGiven settings
are-given empty = tt
are-given (bare word more) = ((word, refl), are-given more)
are-given (alone argument free more) = (none-taken (taken_by argument) free, are-given more)
are-given (joined argument text value writes more) =
    (value-taken (taken_by argument) text value writes, are-given more)
are-given (apart argument text value writes more) =
    (value-taken (taken_by argument) text value writes, are-given more)

-- the value of an argument
pub value-given : (argument : Argument) (settings : List Setting) → AreGiven settings
    → IfSome (value_given argument settings) (IsTaken (takes_at (place argument)))
value-given argument [] given = tt
value-given argument (first ∷ settings) given =
    cond_both (is_of argument first) (Some first.value) (value_given argument settings)
    (λ o. IfSome o (IsTaken (takes_at (place argument))))
    (λ e. subst (λ p. IsTaken (takes_at p) first.value) (eqb-true (place first.argument) (place argument) e) given.0)
    (λ e. value-given argument settings given.1)

-- its number, where it is given
number-given : (least most : ℕ) (value : Option Value) → IfSome value (IsTaken (Number least most))
    → IfSome (option_and_then number_in value) (LiesFrom least most)
number-given least most None taken = tt
number-given least most (Some value) taken =
    subst (λ v. IfSome (number_in v) (LiesFrom least most)) (sym taken.1) taken.2

pub given-lies : (argument : Argument) (least most : ℕ) (settings : List Setting) → AreGiven settings
    → takes_at (place argument) ≡ Number least most → IfSome (number_given argument settings) (LiesFrom least most)
given-lies argument least most settings given is =
    number-given least most (value_given argument settings)
    (subst (λ t. IfSome (value_given argument settings) (IsTaken t)) is (value-given argument settings given))

-- and where another stands for it if it is absent
number-lies : (least most absent : ℕ) (value : Option Value) → IfSome value (IsTaken (Number least most))
    → (value ≡ None → LiesFrom least most absent)
    → LiesFrom least most (unwrap_or (option_and_then number_in value) absent)
number-lies least most absent None taken lies = lies refl
number-lies least most absent (Some value) taken lies =
    subst (λ v. LiesFrom least most (unwrap_or (number_in v) absent)) (sym taken.1) taken.2

lies-in : (argument : Argument) (least most absent : ℕ) (settings : List Setting) → AreGiven settings
    → takes_at (place argument) ≡ Number least most
    → (value_given argument settings ≡ None → LiesFrom least most absent)
    → LiesFrom least most (number_or absent argument settings)
lies-in argument least most absent settings given is lies =
    number-lies least most absent (value_given argument settings)
    (subst (λ t. IfSome (value_given argument settings) (IsTaken t)) is (value-given argument settings given)) lies

-- one that is required is not absent
pub there : (argument : Argument) (settings : List Setting) → 1 ≤ times argument settings
    → value_given argument settings ≢ None
there argument [] once = absurd (omega (arith, once))
there argument (first ∷ settings) once =
    λ e. grind (
      arith,
      e,
      once,
      sum_by-cons (λ (s : Setting). cond (is_of argument s) 1 0) first settings,
      there argument settings,
    )

needed : (argument : Argument) (settings : List Setting) → is_within settings (required argument) ≡ true
    → value_given argument settings ≢ None
needed argument settings within =
    there argument settings (leb-true 1 (times argument settings)
    (and_parts (nat_le 1 (times argument settings)) (nat_le (times argument settings) 1) within).0)

-- the numbers of a load
load-in_range : (settings : List Setting) → AreGiven settings → fits (takes Load) settings ≡ true
    → IsLoadInRange (load_options settings)
load-in_range settings given fit =
    let seed : LiesFrom 0 18446744073709551615 (number_or 0 Seed settings) =
    lies-in Seed 0 18446744073709551615 0 settings given refl (λ e. (omega arith, omega arith)) in (
      omega (arith, seed.1),
      lies-in Sessions 1 64 0 settings given refl (λ e. absurd (needed Sessions settings (grind arith) e)),
      lies-in Lines 1 20000 0 settings given refl (λ e. absurd (needed Lines settings (grind arith) e)),
    )

-- a command with the settings that it takes
in_range : (name : CommandName) (settings : List Setting) → AreGiven settings → fits (takes name) settings ≡ true
    → are_enough name settings ≡ true → HasNumbersInRange (command name settings)
in_range TypeScript settings given fit enough =
    let limit = given-lies Limit 64 268435456 settings given refl in
    cond_both (is_given Threads settings) _ _ HasNumbersInRange (λ e. limit) (λ e. limit)
in_range Serve settings given fit enough = (
  given-lies Limit 64 268435456 settings given refl,
  lies-in Port 1 65535 1178 settings given refl (λ e. (omega arith, omega arith)),
  lies-in Connections 1 1000000 1000000 settings given refl (λ e. (omega arith, omega arith)),
)
in_range Check settings given fit enough = tt
in_range Dump settings given fit enough =
    (lies-in Book 0 65535 0 settings given refl (λ e. (omega arith, omega arith))).1
in_range Share settings given fit enough = (
  (lies-in Typist 0 65535 0 settings given refl (λ e. (omega arith, omega arith))).1,
  given-lies Limit 64 268435456 settings given refl,
)
in_range Load settings given fit enough =
    let numbers = load-in_range settings given fit in
    cond_both (is_given Threads settings) _ _ HasNumbersInRange (λ e. numbers) (λ e. numbers)
in_range Import settings given fit enough = (
  (lies-in Book 0 65535 0 settings given refl (λ e. (omega arith, omega arith))).1,
  given-lies Limit 64 268435456 settings given refl,
)
in_range Ask settings given fit enough = (
  lies-in Port 1 65535 0 settings given refl (λ e. absurd (needed Port settings (grind arith) e)),
  (and_parts (times Look settings + times Complete settings == 1) _ enough).1,
)

-- so it is with words that are a command of settings
words-in_range : (words : List (List ℕ)) → IfSome (settings_command words) HasNumbersInRange
words-in_range [] = tt
words-in_range (word ∷ words) =
    IfSome-and_then HasNumbersInRange (λ name. option_and_then (command_with name) (settings_of words))
    (command_named word) (IfSome-all (command_named word)
    (λ name. IfSome (option_and_then (command_with name) (settings_of words)) HasNumbersInRange) (λ name.
    IfSome-and_then HasNumbersInRange (command_with name) (settings_of words)
    (IfSome_then (settings_of words) (written words) (λ settings is.
    IfSome-if HasNumbersInRange (fits (takes name) settings && are_enough name settings) (command name settings)
    (λ e.
    let parts = and_parts (fits (takes name) settings) (are_enough name settings) e in
    in_range name settings (are-given is) parts.0 parts.1)))))

-- whatever is read as the command of settings that words are
pub numbers_in_range : (words : List (List ℕ)) (read : Option Command) → read ≡ settings_command words
    → IfSome read HasNumbersInRange
numbers_in_range words read is = subst (λ o. IfSome o HasNumbersInRange) (sym is) (words-in_range words)
