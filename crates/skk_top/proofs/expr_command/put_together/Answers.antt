use Rattle.std.proofs.Common.{◌≡◌, ◌+◌, ◌∙◌, [], ◌∷◌, ◌++◌, sym, ap, subst, refl, arith, List, ℕ, map, take, get_or}
use Rattle.std.proofs.Common.{IfSome}
use Rattle.std.proofs.lemmas.List.{take_more}
use Rattle.skk_outside.specs.Moved.{Told}
use Rattle.skk_calls.specs.Rows.{Row}
use Rattle.dict_format.specs.FileLines.{Lists}
use Rattle.command_line.specs.declared.expr_words.Term.{Term}
use Rattle.run_endings.specs.declared.run_file.RunFile.TheVariants.{Dictionary}
use Rattle.skk_top.specs.Dictionaries.{HasDictionaryFlaw, RefusesDictionaries}
use Rattle.skk_top.specs.ExprCommand.{names_of, with_sign}
use Rattle.skk_top.specs.RunFiles.{RefusesFile}
use Rattle.skk_top.proofs.Dictionaries.{refuses-first}
use Rattle.skk_top.proofs.Exprs.{ComesTo, comes-more, files_behind, refuses-term}
use Rattle.skk_top.proofs.RunFiles.{handed-on}
use Rattle.skk_top.proofs.Runs.{each_some}
use Rattle.skk_top.proofs.expr_command.put_together.Goals as goal

-- what holds of the file of a dictionary holds of that of the term at its place, on the shelf as it was
told-at : (P : Told → Type 0) (item term : Term) (tells before : List ℕ → Told) → item ≡ term → tells ≡ before
    → P (tells item.name) → P (before term.name)
told-at P item term tells before is same has =
    subst (λ (told : List ℕ → Told). P (told term.name)) same
    (subst (λ (t : Term). P (tells t.name)) is has)

-- the first dictionary
pub returns-in_err-first-clause-refused : goal.returns-in_err-first-clause-refused
returns-in_err-first-clause-refused g c =
    let tells = g.H.Shelf.file c.args.shelf.now in
    let names = names_of c.args.options.now in
    let before = g.H.Shelf.faults c.args.shelf.now in
    let after = g.H.Shelf.faults c.read_dictionary.new.shelf in
    let fault = c.in_err-first.field-0.0 in
    handed-on (RefusesDictionaries (map tells names) before after) c.from_residual.result fault
    c.from_residual.ensures.1
    (refuses-first tells [] names c.args.options.now.first 0 1 fault before before after (omega arith) refl refl tt
    (omega arith) c.in_err-first.ensures.refused)

pub loop-place-init : goal.loop-place-init
loop-place-init g c =
    let first = c.in_ok-first.first in
    let some = c.in_ok-first.ensures.listed in
    record {
      come = record {
        own = first.book;
        books = [];
        lists = (
          each_some (g.H.Shelf.file c.args.shelf.now c.args.options.now.first)
              (λ bytes is. (first, is, refl)) c.in_ok-first.ensures.lists,
          tt,
        );
        are = refl;
      };
      say = c.rows_of_files_say_something.ensures some.0 first some.1;
      kept = c.in_ok-first.ensures.kept;
      counted = c.in_ok-first.ensures.counted;
    }

-- a dictionary behind it
pub returns-in_err-other-clause-refused : goal.returns-in_err-other-clause-refused
returns-in_err-other-clause-refused g c =
    let tells = g.H.Shelf.file c.args.shelf.now in
    let first = c.args.options.now.first in
    let terms = c.as_slice-terms.result.now in
    let k = c.loop-place.place in
    let item = c.index-terms-place.result in
    let before = g.H.Shelf.faults c.args.shelf.now in
    let middle = g.H.Shelf.faults c.loop-place.shelf in
    let after = g.H.Shelf.faults c.read_dictionary-in-loop-place.new.shelf in
    let fault = c.in_err-other.field-0.0 in
    let refused = told-at (λ told. RefusesFile (Dictionary (k + 2)) HasDictionaryFlaw told middle after fault) item
    (get_or terms k item) (g.H.Shelf.file c.loop-place.shelf) tells c.index-terms-place.is c.loop-place.invariant.kept
    c.in_err-other.ensures.refused in
    handed-on (RefusesDictionaries (map tells (names_of c.args.options.now)) before after)
    c.from_residual-in_err-other.result fault c.from_residual-in_err-other.ensures.1
    (subst (λ (all : List Term). RefusesDictionaries (tells first ∷ files_behind tells all) before after fault)
    c.as_slice-terms.ensures.value
    (refuses-term tells first terms item k c.loop-place.book (k + 2) fault before middle after c.loop-place-test.true
    refl c.loop-place.invariant.come c.loop-place.invariant.counted refused))

pub loop-place-preserved : goal.loop-place-preserved
loop-place-preserved g c =
    let tells = g.H.Shelf.file c.args.shelf.now in
    let first = c.args.options.now.first in
    let terms = c.as_slice-terms.result.now in
    let k = c.loop-place.place in
    let item = c.index-terms-place.result in
    let term = get_or terms k item in
    let rows = c.loop-place.book in
    let other = c.in_ok-other.other in
    let some = c.in_ok-other.ensures.listed in
    let lists = told-at (λ told. IfSome told (λ bytes. Lists bytes other)) item term (g.H.Shelf.file c.loop-place.shelf)
    tells c.index-terms-place.is c.loop-place.invariant.kept c.in_ok-other.ensures.lists in
    let made : c.in_ok-book.book ≡ with_sign term.sign rows other.book =
    c.in_ok-book.ensures.rows ∙ ap (λ (t : Term). with_sign t.sign rows other.book) c.index-terms-place.is in
    let more : take (k + 1) terms ≡ take k terms ++ term ∷ [] = take_more terms k item c.loop-place-test.true in
    record {
      come = subst (λ (all : List Row). ComesTo tells first (take (k + 1) terms) all) (sym made)
          (subst (λ (some : List Term). ComesTo tells first some (with_sign term.sign rows other.book)) (sym more)
          (comes-more tells first (take k terms) term rows other.book c.loop-place.invariant.come
          (each_some (tells term.name) (λ bytes is. (other, is, refl)) lists)));
      say = c.in_ok-book.ensures.says_something c.loop-place.invariant.say
          (c.rows_of_files_say_something.ensures some.0 other some.1);
      kept = c.in_ok-other.ensures.kept ∙ c.loop-place.invariant.kept;
      counted = omega (arith, c.loop-place.invariant.counted, c.in_ok-other.ensures.counted);
    }
