-- Dictionaries that are put together, one after another.
use Rattle.std.proofs.Common.{◌≡◌, ◌≤◌, ◌<◌, ◌+◌, ◌∙◌, sym, ap, refl, subst, arith, ℕ, List, [], ◌∷◌, ◌++◌, length, map}
use Rattle.std.proofs.Common.{take, drop, get_or, IfSome}
use Rattle.std.proofs.lemmas.List.{map-append, drop_more, length-map, length-take-le, take-append-drop}
use Rattle.skk_outside.specs.Moved.{Told}
use Rattle.skk_calls.specs.Rows.{Row}
use Rattle.dict_format.specs.FileLines.{ListsRows}
use Rattle.command_line.specs.declared.expr_words.Term.{Term}
use Rattle.run_endings.specs.declared.fault.RunFault.{RunFault}
use Rattle.run_endings.specs.declared.fault.RunFault.TheVariants.{Refused, Outside, Memory}
use Rattle.run_endings.specs.declared.run_file.RunFile.TheVariants.{Script, Rules, Dictionary}
use Rattle.skk_top.specs.Dictionaries.{AreRowsOf, HasDictionaryFlaw, RefusesDictionaries}
use Rattle.skk_top.specs.ExprCommand.{put_together, with_sign}
use Rattle.skk_top.specs.RunFiles.{RefusesFile}
use Rattle.skk_top.proofs.Dictionaries.{are_dictionaries}

-- the files of dictionaries behind the first
abbrev pub files_behind : (List ℕ → Told) → List Term → List Told
files_behind tells terms = map tells (map (λ (term : Term). term.name) terms)

-- rows are what some dictionaries come to, the first of which has this name
pub record ComesTo (tells : List ℕ → Told) (first : List ℕ) (terms : List Term) (rows : List Row) : Type 0 where
  pub own : List Row
  pub books : List (List Row)
  pub lists : AreRowsOf (own ∷ books) (tells first ∷ files_behind tells terms)
  pub are : rows ≡ put_together own (map (λ (term : Term). term.sign) terms) books

-- one dictionary more
lists-more : (tells : List ℕ → Told) (books : List (List Row)) (book : List Row) (terms : List Term) (term : Term)
    → AreRowsOf books (files_behind tells terms) → IfSome (tells term.name) (λ bytes. ListsRows bytes book)
    → AreRowsOf (books ++ book ∷ []) (files_behind tells (terms ++ term ∷ []))
lists-more tells [] book [] term lists more = (more, tt)
lists-more tells [] book (other ∷ terms) term lists more = absurd lists
lists-more tells (first ∷ books) book [] term lists more = absurd lists
lists-more tells (first ∷ books) book (other ∷ terms) term lists more =
    (lists.0, lists-more tells books book terms term lists.1 more)

together-more : (tells : List ℕ → Told) (rows : List Row) (books : List (List Row)) (book : List Row)
    (terms : List Term) (term : Term) → AreRowsOf books (files_behind tells terms)
    → put_together rows (map (λ (t : Term). t.sign) (terms ++ term ∷ [])) (books ++ book ∷ [])
    ≡ with_sign term.sign (put_together rows (map (λ (t : Term). t.sign) terms) books) book
together-more tells rows [] book [] term lists = refl
together-more tells rows [] book (other ∷ terms) term lists = absurd lists
together-more tells rows (first ∷ books) book [] term lists = absurd lists
together-more tells rows (first ∷ books) book (other ∷ terms) term lists =
    together-more tells (with_sign other.sign rows first) books book terms term lists.1

pub comes-more : (tells : List ℕ → Told) (first : List ℕ) (terms : List Term) (term : Term) (rows book : List Row)
    → ComesTo tells first terms rows → IfSome (tells term.name) (λ bytes. ListsRows bytes book)
    → ComesTo tells first (terms ++ term ∷ []) (with_sign term.sign rows book)
comes-more tells first terms term rows book come lists = record {
  own = come.own;
  books = come.books ++ book ∷ [];
  lists = (come.lists.0, lists-more tells come.books book terms term come.lists.1 lists);
  are = ap (λ (all : List Row). with_sign term.sign all book) come.are
      ∙ sym (together-more tells come.own come.books book terms term come.lists.1);
}

-- a dictionary behind the first is refused, where those before it were read
refuses-behind : (tells : List ℕ → Told) (first : List ℕ) (before : List Term) (term : Term) (after : List Term)
    (rows : List Row) (number : ℕ) (fault : RunFault) (faults middle faults' : ℕ) → number ≡ length before + 2
    → ComesTo tells first before rows → faults ≤ middle
    → RefusesFile (Dictionary number) HasDictionaryFlaw (tells term.name) middle faults' fault
    → RefusesDictionaries (tells first ∷ files_behind tells (before ++ term ∷ after)) faults faults' fault
refuses-behind tells first before term after rows number (Refused (Dictionary other)
    flaw) faults middle faults' is come counted refused =
    let name = λ (t : Term). t.name in
    let same : other ≡ number = cc (refused.0) in (
      tells first ∷ files_behind tells before,
      files_behind tells after,
      tells term.name,
      ap (λ files. tells first ∷ files) (ap (map tells) (map-append name before (term ∷ after))
          ∙ map-append tells (map name before) (term.name ∷ map name after)),
      omega (arith, same, is, length-map before name, length-map (map name before) tells),
      are_dictionaries (come.own ∷ come.books) (tells first ∷ files_behind tells before) come.lists,
      refused.1,
    )
refuses-behind tells first before term after rows number (Refused Script
    flaw) faults middle faults' is come counted refused = absurd (cc (refused.0))
refuses-behind tells first before term after rows number (Refused Rules
    flaw) faults middle faults' is come counted refused = absurd (cc (refused.0))
refuses-behind tells first before term after rows number Outside faults middle faults' is come counted rose =
    omega (arith, counted, rose)
refuses-behind tells first before term after rows number Memory faults middle faults' is come counted out = tt
refuses-behind tells first before term after rows number fault faults middle faults' is come counted none =
    absurd none

-- so it is with the term at a place
pub refuses-term : (tells : List ℕ → Told) (first : List ℕ) (terms : List Term) (item : Term) (k : ℕ)
    (rows : List Row) (number : ℕ) (fault : RunFault) (faults middle faults' : ℕ) → k < length terms
    → number ≡ k + 2 → ComesTo tells first (take k terms) rows → faults ≤ middle
    → RefusesFile (Dictionary number) HasDictionaryFlaw (tells (get_or terms k item).name) middle faults' fault
    → RefusesDictionaries (tells first ∷ files_behind tells terms) faults faults' fault
refuses-term tells first terms item k rows number fault faults middle faults' within is come counted refused =
    let parts : take k terms ++ get_or terms k item ∷ drop (k + 1) terms ≡ terms =
    sym (sym (take-append-drop k terms) ∙ ap (λ rest. take k terms ++ rest) (drop_more terms k item within)) in
    subst (λ (all : List Term). RefusesDictionaries (tells first ∷ files_behind tells all) faults faults' fault) parts
    (refuses-behind tells first (take k terms) (get_or terms k item) (drop (k + 1) terms) rows number fault faults
    middle faults' (omega (arith, is, within, length-take-le k terms (omega (arith, within)))) come counted refused)
