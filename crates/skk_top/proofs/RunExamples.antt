-- Why runs end, at small examples, each worked out by hand.
use Rattle.std.proofs.Common.{◌≡◌, ◌⊎◌, ℕ, None, Some, List, [], ◌∷◌, inl, inr, ap, refl}
use Rattle.std.proofs.Common.{length, arith, lit≤}
use Rattle.skk_text.specs.Lines.{lines_of}
use Rattle.skk_disk.specs.Image.{Image}
use Rattle.skk_outside.specs.Moved.{MovedShelf, MovedSource, MovedSink}
use Rattle.romaji_rules.specs.Standard.{standard}
use Rattle.skk_top.specs.Dictionaries.{HasDictionaryFlaw, IsFirst, RefusesDictionaries, AreRowsOf}
use Rattle.skk_top.specs.Disks.{MovedDisk, IsAsItWas, RefusesLearned}
use Rattle.skk_top.specs.Failures.{HasFailed}
use Rattle.run_endings.specs.Page.{StopsPrinting}
use Rattle.skk_top.specs.RunFiles.{HasTextFlaw, IsLonger, RefusesBytes, RefusesFile}
use Rattle.skk_top.specs.RunRules.{AreRules, HasRulesFlaw, IsNamed, RefusesRules}
use Rattle.key_scripts.specs.Script.{IsFirstBad}
use Rattle.skk_top.specs.NamedFiles.{RefusesFiles}
use Rattle.skk_top.specs.TypeCommand.{HasScriptFlaw}
use Rattle.skk_top.proofs.Dictionaries.{are_dictionaries}
use Rattle.run_endings.specs.declared.fault.RunFault.TheVariants.{Words, Refused, Outside, Memory, JournalFull}
use Rattle.run_endings.specs.declared.fault.RunFault.TheVariants.{NotJournal, BadRecord}
use Rattle.run_endings.specs.declared.run_file.Flaw.TheVariants.{TooLong, Byte, Line}
use Rattle.run_endings.specs.declared.run_file.RunFile.TheVariants.{Script, Rules, Dictionary}

-- four bytes
abbrev bytes : List ℕ
bytes = 1 ∷ 2 ∷ 3 ∷ 4 ∷ []

-- a text is too long from one byte above its limit on, and no line of it is a flaw of the text
text_flaws : HasTextFlaw 3 TooLong bytes × (¬ HasTextFlaw 4 TooLong bytes) × (¬ HasTextFlaw 3 (Line 1) bytes)
text_flaws = (omega arith, λ long. omega (arith, long), λ none. none)

longer : IsLonger 3 TooLong bytes × (¬ IsLonger 4 TooLong bytes) × (¬ IsLonger 3 (Byte 0) bytes)
    × (¬ IsLonger 3 (Line 1) bytes)
longer = (omega arith, λ long. omega (arith, long), λ none. none, λ none. none)

-- where a file is told its bytes must have the flaw, and where it is not told nothing is said of them
refused_files : RefusesFile Rules (IsLonger 3) (Some bytes) 0 0 (Refused Rules TooLong)
    × (¬ RefusesFile Rules (IsLonger 4) (Some bytes) 0 0 (Refused Rules TooLong))
    × RefusesFile Rules (IsLonger 4) None 0 0 (Refused Rules TooLong)
refused_files = ((refl, omega arith), λ is. omega (arith, is.1), (refl, tt))

-- another file is not refused in its place
not_another : (¬ RefusesFile (Dictionary 2) (IsLonger 3) (Some bytes) 0 0 (Refused (Dictionary 1) TooLong))
    × (¬ RefusesFile Script (IsLonger 3) (Some bytes) 0 0 (Refused Rules TooLong))
    × (¬ RefusesBytes (Dictionary 2) (IsLonger 3) bytes (Refused Rules TooLong))
not_another = (λ is. cc (is.0), λ is. cc (is.0), λ is. cc (is.0))

-- a call failed where the count rose, or stands at its end; memory may always lack; no other fault is one of reading
faults_of_reading : RefusesFile Script (IsLonger 4) (Some bytes) 2 3 Outside
    × (¬ RefusesFile Script (IsLonger 4) (Some bytes) 3 3 Outside)
    × RefusesFile Script (IsLonger 4) (Some bytes) 18446744073709551615 18446744073709551615 Outside
    × RefusesFile Script (IsLonger 4) (Some bytes) 3 3 Memory
    × (¬ RefusesFile Script (IsLonger 4) (Some bytes) 2 3 Words)
    × (¬ RefusesFile Script (IsLonger 4) (Some bytes) 2 3 JournalFull)
faults_of_reading = (lit≤ tt, λ rose. omega (arith, rose), lit≤ tt, tt, λ none. none, λ none. none)

faults_of_bytes : RefusesBytes Script (IsLonger 3) bytes (Refused Script TooLong)
    × (¬ RefusesBytes Script (IsLonger 4) bytes (Refused Script TooLong))
    × RefusesBytes Script (IsLonger 4) bytes Memory × (¬ RefusesBytes Script (IsLonger 4) bytes Outside)
faults_of_bytes = ((refl, omega arith), λ is. omega (arith, is.1), tt, λ none. none)

-- without a named file the rules are the standard table, and only memory may lack for them
standard_rules : AreRules None standard × RefusesRules None 0 1 Memory × (¬ RefusesRules None 0 1 Outside)
    × (¬ IsNamed None (λ some. Unit {0})) × IsNamed (Some None) (λ some. ⊥)
standard_rules = (refl, refl, λ is. cc (is), λ none. none, tt)

-- the limits of a rule file and of a script
too_long : (text : List ℕ) → length text ≡ 1048577 → HasRulesFlaw TooLong text
too_long text e = omega (arith, e)

not_too_long : (text : List ℕ) → length text ≡ 1048576 → ¬ HasRulesFlaw TooLong text
not_too_long text e long = omega (arith, e, long)

dictionary_too_long : (text : List ℕ) → length text ≡ 67108865 → HasDictionaryFlaw TooLong text
dictionary_too_long text e = omega (arith, e)

dictionary_not_too_long : (text : List ℕ) → length text ≡ 67108864 → ¬ HasDictionaryFlaw TooLong text
dictionary_not_too_long text e long = omega (arith, e, long)

script_too_long : (text : List ℕ) → length text ≡ 4194305 → HasScriptFlaw TooLong text
script_too_long text e = omega (arith, e)

script_not_too_long : (text : List ℕ) → length text ≡ 4194304 → ¬ HasScriptFlaw TooLong text
script_not_too_long text e long = omega (arith, e, long)

-- no byte of a script is a flaw, and where it is too long no line is told
script_flaws : (¬ HasScriptFlaw (Byte 0) bytes)
    × ((text : List ℕ) → length text ≡ 4194305 → ¬ HasScriptFlaw (Line 1) text)
script_flaws = (λ none. none, λ text e bad. omega (arith, e, bad.0))

-- of a script of just as many bytes as one may have the first bad line is told
script_at_limit : (text : List ℕ) (number : ℕ) → length text ≡ 4194304 → IsFirstBad (lines_of text) number
    → HasScriptFlaw (Line number) text
script_at_limit text number e bad = (omega (arith, e), bad)

-- of several files the one behind those that are dictionaries is the first that has a property; a file that is not told
-- may be anything
first_files : IsFirst (λ text. text ≡ bytes) 1 (Some bytes ∷ None ∷ [])
    × IsFirst (λ text. text ≡ bytes) 2 (None ∷ Some bytes ∷ [])
first_files = (
  ([], None ∷ [], Some bytes, refl, refl, are_dictionaries [] [] tt, refl),
  (None ∷ [], [], Some bytes, refl, refl, are_dictionaries ([] ∷ []) (None ∷ []) (tt, tt), refl),
)

-- what a run that names files may not end with
not_of_files : (¬ RefusesFiles None [] 0 1 (Refused Script TooLong)) × (¬ RefusesFiles None [] 0 1 Words)
    × (¬ RefusesFiles None [] 0 1 JournalFull)
    × (¬ RefusesFiles None [] 0 0 Outside) × RefusesFiles None [] 0 1 Outside × RefusesFiles None [] 0 0 Memory
    × (¬ RefusesFiles None [] 0 0 (Refused Rules TooLong)) × RefusesFiles (Some None) [] 0 0 (Refused Rules TooLong)
not_of_files = (λ none. none, λ none. none, λ none. none, λ rose. omega (arith, rose), lit≤ tt, tt, λ none. none, tt)

not_of_dictionaries : (¬ RefusesDictionaries [] 0 1 (Refused Rules TooLong))
    × (¬ RefusesDictionaries [] 0 1 (Refused Script TooLong))
    × (¬ RefusesDictionaries [] 0 1 Words) × (¬ RefusesDictionaries [] 0 0 Outside) × RefusesDictionaries [] 0 1 Outside
    × RefusesDictionaries [] 0 0 Memory
not_of_dictionaries = (λ none. none, λ none. none, λ none. none, λ rose. omega (arith, rose), lit≤ tt, tt)

-- as many books as files
books_of_files : AreRowsOf [] [] × (¬ AreRowsOf [] (None ∷ [])) × (¬ AreRowsOf ([] ∷ []) [])
    × AreRowsOf ([] ∷ []) (None ∷ [])
books_of_files = (tt, λ none. none, λ none. none, (tt, tt))

-- a sink of which a call failed, and one of which none did
abbrev failed : MovedSink
failed = record { written = None; written' = None; faults = 2; faults' = 3 }

abbrev sound : MovedSink
sound = record { written = None; written' = None; faults = 3; faults' = 3 }

-- printing stops for a call that failed, or for want of memory, and for nothing else
printing_stops : StopsPrinting failed Outside × (¬ StopsPrinting sound Outside) × StopsPrinting sound Memory
    × (¬ StopsPrinting failed Words) × (¬ StopsPrinting failed (Refused Script TooLong))
    × (¬ StopsPrinting failed JournalFull)
printing_stops = (lit≤ tt, λ rose. omega (arith, rose), tt, λ none. none, λ none. none, λ none. none)

-- each of the four may have failed
abbrev shelf : ℕ → MovedShelf
shelf faults = record { file = λ name. None; faults = 3; faults' = faults }

abbrev source : ℕ → MovedSource
source faults = record { left = None; left' = None; faults = 3; faults' = faults }

abbrev disk : ℕ → MovedDisk
disk faults = record {
  tells = ⊥;
  seen = record { a = []; b = [] };
  seen' = record { a = []; b = [] };
  before = record { time = 0; faults = 3; left_since = λ time image. ⊥ };
  after = record { time = 0; faults = faults; left_since = λ time image. ⊥ };
  is_untouched = ⊥;
}

none_failed : HasFailed (shelf 3) (source 3) sound (disk 3) → ⊥
none_failed h = omega (arith, h)

each_failed : HasFailed (shelf 4) (source 3) sound (disk 3) × HasFailed (shelf 3) (source 4) sound (disk 3)
    × HasFailed (shelf 3) (source 3) failed (disk 3) × HasFailed (shelf 3) (source 3) sound (disk 4)
each_failed = (inl (lit≤ tt), inr (inl (lit≤ tt)), inr (inr (inl (lit≤ tt))), inr (inr (inr (lit≤ tt))))

-- a disk of two moments, which at the first one has empty files, with what a read gives at the second one and what a
-- stop since a moment might have left by then
abbrev empty : Image
empty = record { a = []; b = [] }

abbrev other : Image
other = record { a = 1 ∷ []; b = [] }

abbrev moved : Image → (ℕ → Image → Type 0) → MovedDisk
moved seen left = record {
  tells = Unit {0};
  seen = empty;
  seen' = seen;
  before = record { time = 2; faults = 0; left_since = λ time image. image ≡ empty };
  after = record { time = 4; faults = 0; left_since = left };
  is_untouched = ⊥;
}

not_empty : ¬ (other ≡ empty)
not_empty is = let files : other.a ≡ empty.a = ap (λ (image : Image). image.a) is in cc

-- it is as it was where a read gives the same, and nothing more might have been left since the first moment
as_it_was : IsAsItWas (moved empty (λ time image. image ≡ empty))
    × (¬ IsAsItWas (moved other (λ time image. image ≡ empty)))
    × (¬ IsAsItWas (moved empty (λ time image. (image ≡ empty) ⊎ ((time ≡ 2) × (image ≡ other)))))
as_it_was = (
  record { seen = refl; images = λ image left. left },
  λ is. not_empty is.seen,
  λ is. not_empty (is.images other (inr (refl, refl))),
)

-- a learned dictionary that is refused is as it was
refused_kept : (¬ RefusesLearned (moved other (λ time image. image ≡ empty)) (NotJournal 0 80))
    × (¬ RefusesLearned (moved other (λ time image. image ≡ empty)) (BadRecord 1 9))
refused_kept = (λ is. not_empty (is tt).1.seen, λ is. not_empty (is tt).1.seen)
