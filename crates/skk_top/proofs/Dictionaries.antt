-- What the reading of dictionaries leaves.
use Rattle.std.proofs.Common.{◌≡◌, ◌<◌, ◌≤◌, ◌+◌, ◌∙◌, sym, ap, ℕ, List, [], ◌∷◌, ◌++◌, IfSome, length, map, take, drop}
use Rattle.std.proofs.Common.{get_or, arith}
use Rattle.std.specs.List.{AllByRecursion}
use Rattle.std.proofs.lemmas.List.{drop_more, length-map, length-take-le, map-append, take-append-drop}
use Rattle.std.proofs.lemmas.List.Elements.{All-from_recursion}
use Rattle.skk_outside.specs.Moved.{Told}
use Rattle.skk_calls.specs.Rows.{Row}
use Rattle.dict_format.specs.FileLines.{ListsRows}
use Rattle.skk_top.specs.Dictionaries.{AreDictionaries, AreRowsOf, HasDictionaryFlaw, IsFirst, IsDictionary}
use Rattle.skk_top.specs.Dictionaries.{RefusesDictionaries}
use Rattle.skk_top.specs.RunFiles.{RefusesFile}
use Rattle.run_endings.specs.declared.fault.RunFault.{RunFault}
use Rattle.run_endings.specs.declared.fault.RunFault.TheVariants.{Refused, Outside, Memory}
use Rattle.run_endings.specs.declared.run_file.RunFile.TheVariants.{Script, Rules, Dictionary}
use Rattle.skk_top.proofs.Runs.{each_some}

-- books that are the rows of files are those of dictionaries
are-each : (books : List (List Row)) (files : List Told) → AreRowsOf books files
    → AllByRecursion (λ file. IfSome file IsDictionary) files
are-each [] [] rows = tt
are-each [] (file ∷ files) rows = absurd rows
are-each (book ∷ books) [] rows = absurd rows
are-each (book ∷ books) (file ∷ files) rows =
    (each_some file (λ bytes is. (is.0, is.1)) rows.0, are-each books files rows.1)

pub are_dictionaries : (books : List (List Row)) (files : List Told) → AreRowsOf books files → AreDictionaries files
are_dictionaries books files rows =
    All-from_recursion (λ file. IfSome file IsDictionary) files (are-each books files rows)

-- the rows of one more file
pub rows-more : (books : List (List Row)) (book : List Row) (files : List Told) (file : Told) → AreRowsOf books files
    → IfSome file (λ bytes. ListsRows bytes book) → AreRowsOf (books ++ book ∷ []) (files ++ file ∷ [])
rows-more [] book [] file rows more = (more, tt)
rows-more [] book (other ∷ files) file rows more = absurd rows
rows-more (first ∷ books) book [] file rows more = absurd rows
rows-more (first ∷ books) book (other ∷ files) file rows more = (rows.0, rows-more books book files file rows.1 more)

-- the file of a name is the first that has a property, where those before it are dictionaries
pub is_first : (P : List ℕ → Type 0) (tells : List ℕ → Told) (books : List (List Row)) (names : List (List ℕ))
    (name : List ℕ) (k number : ℕ) → k < length names → length books ≡ k → number ≡ length books + 1
    → AreRowsOf books (map tells (take k names)) → IfSome (tells (get_or names k name)) P
    → IsFirst P number (map tells names)
is_first P tells books names name k number within count is rows has = (
  map tells (take k names),
  map tells (drop (k + 1) names),
  tells (get_or names k name),
  ap (map tells) (sym (take-append-drop k names) ∙ ap (λ rest. take k names ++ rest) (drop_more names k name within))
      ∙ map-append tells (take k names) (get_or names k name ∷ drop (k + 1) names),
  omega (arith, is, count, within, length-map (take k names) tells, length-take-le k names (omega (arith, within))),
  are_dictionaries books (map tells (take k names)) rows,
  has,
)

-- the dictionary of a name is refused, where those before it were read
pub refuses-first : (tells : List ℕ → Told) (books : List (List Row)) (names : List (List ℕ)) (name : List ℕ)
    (k number : ℕ) (fault : RunFault) (faults middle faults' : ℕ)
    → k < length names → length books ≡ k → number ≡ length books + 1 → AreRowsOf books (map tells (take k names))
    → faults ≤ middle
    → RefusesFile (Dictionary number) HasDictionaryFlaw (tells (get_or names k name)) middle faults' fault
    → RefusesDictionaries (map tells names) faults faults' fault
refuses-first tells books names name k number (Refused (Dictionary other)
    flaw) faults middle faults' within count is rows counted refused =
    let same : other ≡ number = cc (refused.0) in
    is_first (HasDictionaryFlaw flaw) tells books names name k other within count (same ∙ is) rows refused.1
refuses-first tells books names name k number (Refused Script
    flaw) faults middle faults' within count is rows counted refused = absurd (cc (refused.0))
refuses-first tells books names name k number (Refused Rules
    flaw) faults middle faults' within count is rows counted refused = absurd (cc (refused.0))
refuses-first tells books names name k number Outside faults middle faults' within count is rows counted rose =
    omega (arith, counted, rose)
refuses-first tells books names name k number Memory faults middle faults' within count is rows counted out = tt
refuses-first tells books names name k number fault faults middle faults' within count is rows counted none =
    absurd none
