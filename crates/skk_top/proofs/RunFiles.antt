-- What the reading of the files of a run leaves, by the steps of it.
use Rattle.std.proofs.Common.{◌≡◌, ◌≤◌, ◌<◌, sym, subst, refl, ℕ, true, Option, None, Some, Result, Ok, Err, List, IfOk}
use Rattle.std.proofs.Common.{IfErr, IfSome, IsErrAnd, length, rules, arith}
use Rattle.romaji_rules.specs.declared.rule.Rule.{Rule}
use Rattle.romaji_rules.specs.declared.rule_fault.RuleFault.{RuleFault}
use Rattle.romaji_rules.specs.declared.rule_fault.RuleFault.TheVariants as faults
use Rattle.romaji_rules.specs.RuleFiles as rule_files
use Rattle.skk_outside.specs.Moved.{Told}
use Rattle.skk_text.specs.TextFiles.{IsTextFault}
use Rattle.skk_text.specs.declared.text_file.TextFault.{TextFault}
use Rattle.skk_text.specs.declared.text_file.TextFault.TheVariants as texts
use Rattle.dict_format.specs.FileLines.{file_limit}
use Rattle.dict_format.specs.declared.file.FileFault.{FileFault}
use Rattle.dict_format.specs.declared.file.FileFault.TheVariants as files
use Rattle.skk_top.specs.Dictionaries.{HasDictionaryFlaw, RefusesDictionaries, fault_of_file}
use Rattle.skk_top.specs.RunFiles.{RefusesFile, RefusesBytes, IsLonger}
use Rattle.skk_top.specs.RunRules.{AreRules, HasRulesFlaw, RefusesRules, fault_of_rules}
use Rattle.skk_top.specs.NamedFiles.{RefusesFiles}
use Rattle.run_endings.specs.declared.fault.RunFault.{RunFault}
use Rattle.run_endings.specs.declared.fault.RunFault.TheVariants.{Refused, Outside, Memory}
use Rattle.run_endings.specs.declared.run_file.Flaw.{Flaw}
use Rattle.run_endings.specs.declared.run_file.Flaw.TheVariants.{TooLong, Byte, Line}
use Rattle.run_endings.specs.declared.run_file.RunFile.{RunFile}
use Rattle.run_endings.specs.declared.run_file.RunFile.TheVariants.{Script, Rules, Dictionary}
use Rattle.skk_top.proofs.Runs.{each_some}

-- what follows of a value, and of a fault
pub each_value : {T : Type 0} {P Q : T → Type 0} (result : Result T RunFault) → ((value : T) → P value → Q value)
    → IfOk result P → IfOk result Q
each_value (Ok value) q p = q value p
each_value (Err fault) q p = tt

pub each_fault : {T : Type 0} {P Q : RunFault → Type 0} (result : Result T RunFault)
    → ((fault : RunFault) → P fault → Q fault) → IfErr result P → IfErr result Q
each_fault (Ok value) q p = tt
each_fault (Err fault) q p = q fault p

-- a fault that is handed on
pub handed-on : {T : Type 0} (P : RunFault → Type 0) (result : Result T RunFault) (fault : RunFault)
    → IsErrAnd result (λ handed. handed ≡ fault) → P fault → IfErr result P
handed-on P (Ok value) fault is has = absurd (search (rules, is))
handed-on P (Err handed) fault is has = subst P (sym is) has

-- a file that is longer than its limit is refused for that
pub refuses-longer : (HasFlaw : Flaw → List ℕ → Type 0) (file : RunFile) (limit : ℕ) (told : Told) (faults faults' : ℕ)
    (fault : RunFault) → ((bytes : List ℕ) → limit < length bytes → HasFlaw TooLong bytes)
    → RefusesFile file (IsLonger limit) told faults faults' fault → RefusesFile file HasFlaw told faults faults' fault
refuses-longer HasFlaw file limit told faults faults' (Refused other TooLong) long refused =
    (refused.0, each_some told long refused.1)
refuses-longer HasFlaw file limit told faults faults' (Refused other (Byte at)) long refused =
    (refused.0, each_some told (λ bytes none. absurd none) refused.1)
refuses-longer HasFlaw file limit told faults faults' (Refused other (Line number)) long refused =
    (refused.0, each_some told (λ bytes none. absurd none) refused.1)
refuses-longer HasFlaw file limit told faults faults' Outside long rose = rose
refuses-longer HasFlaw file limit told faults faults' Memory long out = tt
refuses-longer HasFlaw file limit told faults faults' fault long none = absurd none

-- a file is refused for its bytes, as far as it is told
pub refuses-bytes : (HasFlaw : Flaw → List ℕ → Type 0) (file : RunFile) (bytes : List ℕ) (told : Told)
    (faults faults' : ℕ) (fault : RunFault) → IfSome told (λ known. bytes ≡ known)
    → RefusesBytes file HasFlaw bytes fault → RefusesFile file HasFlaw told faults faults' fault
refuses-bytes HasFlaw file bytes told faults faults' (Refused other flaw) is refused =
    (refused.0, each_some told (λ known e. subst (HasFlaw flaw) e refused.1) is)
refuses-bytes HasFlaw file bytes told faults faults' Memory is out = tt
refuses-bytes HasFlaw file bytes told faults faults' fault is none = absurd none

-- why the bytes of a dictionary are refused
pub refuses-listed : {T : Type 0} (number : ℕ) (bytes : List ℕ) (fault : FileFault) → ((text : TextFault)
    → ◌≡◌ {A = Result T FileFault} (Err fault) (Err (files.NoText text)) → IsTextFault file_limit bytes text)
    → RefusesBytes (Dictionary number) HasDictionaryFlaw bytes (fault_of_file number fault)
refuses-listed number bytes (files.NoText (texts.TooLong count)) no_text =
    (refl, (no_text (texts.TooLong count) refl).0)
refuses-listed number bytes (files.NoText (texts.NotUtf8 at)) no_text = (refl, no_text (texts.NotUtf8 at) refl)
refuses-listed number bytes files.Memory no_text = tt

-- why those of a rule file are
pub refuses-ruled : (bytes : List ℕ) (fault : RuleFault)
    → ((text : TextFault) → ◌≡◌ {A = Result (List Rule) RuleFault} (Err fault) (Err (faults.NoText text))
    → IsTextFault rule_files.file_limit bytes text)
    → (rule_files.is_of_line fault ≡ true → rule_files.MayBeRules bytes × (rule_files.rules_in bytes ≡ Err fault))
    → RefusesBytes Rules HasRulesFlaw bytes (fault_of_rules fault)
refuses-ruled bytes (faults.NoText (texts.TooLong count)) no_text lines = (refl, (no_text (texts.TooLong count) refl).0)
refuses-ruled bytes (faults.NoText (texts.NotUtf8 at)) no_text lines = (refl, no_text (texts.NotUtf8 at) refl)
refuses-ruled bytes (faults.BadLine line) no_text lines =
    let is = lines refl in (refl, (is.0, faults.BadLine line, is.1, refl))
refuses-ruled bytes (faults.Twice line) no_text lines =
    let is = lines refl in (refl, (is.0, faults.Twice line, is.1, refl))
refuses-ruled bytes (faults.BadNext line) no_text lines =
    let is = lines refl in (refl, (is.0, faults.BadNext line, is.1, refl))
refuses-ruled bytes faults.Memory no_text lines = tt

-- the files that a run names are refused with its rules
pub refuses-rules : (source : Option Told) (others : List Told) (faults faults' : ℕ) (fault : RunFault)
    → RefusesRules source faults faults' fault → RefusesFiles source others faults faults' fault
refuses-rules None others faults faults' fault is = subst (RefusesFiles None others faults faults') (sym is) tt
refuses-rules (Some file) others faults faults' (Refused Rules flaw) refused = refused.1
refuses-rules (Some file) others faults faults' (Refused Script flaw) refused = absurd (cc (refused.0))
refuses-rules (Some file) others faults faults' (Refused (Dictionary number) flaw) refused = absurd (cc (refused.0))
refuses-rules (Some file) others faults faults' Outside rose = rose
refuses-rules (Some file) others faults faults' Memory out = tt
refuses-rules (Some file) others faults faults' fault none = absurd none

-- or behind them with a dictionary
pub refuses-dictionaries : (source : Option Told) (others : List Told) (all : List Rule) (faults middle faults' : ℕ)
    (fault : RunFault) → AreRules source all → faults ≤ middle
    → RefusesDictionaries others middle faults' fault → RefusesFiles source others faults faults' fault
refuses-dictionaries source others all faults middle faults' (Refused (Dictionary number) flaw) are counted refused =
    ((all, are), refused)
refuses-dictionaries source others all faults middle faults' (Refused Script flaw) are counted none = absurd none
refuses-dictionaries source others all faults middle faults' (Refused Rules flaw) are counted none = absurd none
refuses-dictionaries source others all faults middle faults' Outside are counted rose = omega (arith, counted, rose)
refuses-dictionaries source others all faults middle faults' Memory are counted out = tt
refuses-dictionaries source others all faults middle faults' fault are counted none = absurd none
