-- The files that the options of a run name: its rules and its dictionaries.
use Rattle.std.specs.Prelude.{⊤, ℕ, Option, List, map}
use Rattle.std.specs.Option.{option_map}
use Rattle.skk_outside.specs.Faults.{Rose}
use Rattle.skk_outside.specs.Moved.{Told, MovedShelf}
use Rattle.romaji_rules.specs.declared.rule.Rule.{Rule}
use Rattle.skk_top.specs.Dictionaries.{HasDictionaryFlaw, IsFirst}
use Rattle.skk_top.specs.RunRules.{AreRules, HasRulesFlaw, IsNamed}
use Rattle.run_endings.specs.declared.fault.RunFault.{RunFault}
use Rattle.run_endings.specs.declared.fault.RunFault.TheVariants.{Refused, Outside, Memory}
use Rattle.run_endings.specs.declared.run_file.RunFile.TheVariants.{Rules, Dictionary}

-- the file of the rules, where one is named
abbrev pub rules_named : Option (List ℕ) → MovedShelf → Option Told
rules_named name shelf = option_map shelf.file name

-- the files of the dictionaries that are named
abbrev pub dictionaries_named : List (List ℕ) → MovedShelf → List Told
dictionaries_named names shelf = map shelf.file names

-- why files are not had, those of the rules and of dictionaries: the rules are refused, which are read first, or else
-- the first file that is no dictionary, or a call on the shelf failed, or memory is out
abbrev pub RefusesFiles : Option Told → List Told → ℕ → ℕ → RunFault → Type 0
RefusesFiles source files faults faults' (Refused Rules flaw) = IsNamed source (HasRulesFlaw flaw)
RefusesFiles source files faults faults' (Refused (Dictionary number) flaw) =
    ((rules : List Rule) × AreRules source rules) × IsFirst (HasDictionaryFlaw flaw) number files
RefusesFiles source files faults faults' Outside = Rose faults faults'
RefusesFiles source files faults faults' Memory = ⊤
RefusesFiles source files faults faults' fault = ⊥

-- why the files of these rules and dictionaries are not had
abbrev pub RefusesNamed : Option (List ℕ) → List (List ℕ) → MovedShelf → RunFault → Type 0
RefusesNamed rules dictionaries shelf =
    RefusesFiles (rules_named rules shelf) (dictionaries_named dictionaries shelf) shelf.faults shelf.faults'
