use Rattle.std.proofs.Common.{◌≡◌, ◌+◌, ◌∙◌, [], ◌∷◌, ◌++◌, sym, ap, subst, map, take, get_or, arith, length}
use Rattle.std.proofs.Common.{length-append, IfSome, List, ℕ}
use Rattle.std.proofs.lemmas.List.{map-append, take_more}
use Rattle.skk_calls.specs.Rows.{Row}
use Rattle.dict_format.specs.FileLines.{ListsRows}
use Rattle.skk_outside.specs.Moved.{Told}
use Rattle.skk_top.specs.Dictionaries.{AreRowsOf, HasDictionaryFlaw, RefusesDictionaries}
use Rattle.skk_top.specs.RunFiles.{RefusesFile}
use Rattle.run_endings.specs.declared.run_file.RunFile.TheVariants.{Dictionary}
use Rattle.skk_top.proofs.Dictionaries.{refuses-first, rows-more}
use Rattle.skk_top.proofs.RunFiles.{handed-on}
use Rattle.skk_top.proofs.dictionary.open_dictionaries.Goals as goal

-- what holds of a file of a name holds of that of the same name before
told-before : (P : Told → Type 0) (name item : List ℕ) (tells before : List ℕ → Told) → item ≡ name → tells ≡ before
    → P (tells item) → P (before name)
told-before P name item tells before is same has =
    subst (λ (told : List ℕ → Told). P (told name)) same (subst (λ (n : List ℕ). P (tells n)) is has)

pub loop-name-preserved : goal.loop-name-preserved
loop-name-preserved g c =
    let tells = g.H.Shelf.file c.args.shelf.now in
    let names = c.args.names.now in
    let k = c.loop-name.name-index in
    let name = get_or names k c.name-item.result in
    let item : c.name-item.result ≡ name = c.name-item.is in
    let files : map tells (take (k + 1) names) ≡ map tells (take k names) ++ tells name ∷ [] =
    ap (map tells) (take_more names k c.name-item.result c.loop-name-test.true)
    ∙ map-append tells (take k names) (name ∷ []) in
    let file = c.in_ok-file.file in
    let lists = told-before (λ told. IfSome told (λ bytes. ListsRows bytes file)) name c.name-item.result
    (g.H.Shelf.file c.loop-name.shelf) tells item c.loop-name.invariant.kept c.in_ok-file.ensures.rows in
    record {
      rows =
          subst (λ (books : List (List Row)). AreRowsOf books (map tells (take (k + 1) names)))
          (sym c.in_ok-push.ensures.ok)
          (subst (AreRowsOf (c.loop-name.files ++ file ∷ [])) (sym files) (rows-more c.loop-name.files
          file (map tells (take k names)) (tells name) c.loop-name.invariant.rows lists));
      count =
          ap length c.in_ok-push.ensures.ok ∙ length-append c.loop-name.files (file ∷ [])
          ∙ ap (λ n. n + 1) c.loop-name.invariant.count;
      kept = c.in_ok-file.ensures.kept ∙ c.loop-name.invariant.kept;
      counted = omega (arith, c.loop-name.invariant.counted, c.in_ok-file.ensures.counted);
    }

pub returns-in_err-file-clause-refused : goal.returns-in_err-file-clause-refused
returns-in_err-file-clause-refused g c =
    let tells = g.H.Shelf.file c.args.shelf.now in
    let names = c.args.names.now in
    let k = c.loop-name.name-index in
    let name = get_or names k c.name-item.result in
    let item : c.name-item.result ≡ name = c.name-item.is in
    let fault = c.in_err-file.field-0.0 in
    let middle = g.H.Shelf.faults c.loop-name.shelf in
    let after = g.H.Shelf.faults c.open_dictionary.new.shelf in
    let refused =
    told-before (λ told. RefusesFile (Dictionary (c.len.result + 1)) HasDictionaryFlaw told middle after fault) name
    c.name-item.result (g.H.Shelf.file c.loop-name.shelf) tells item c.loop-name.invariant.kept
    c.in_err-file.ensures.refused in
    handed-on (RefusesDictionaries (map tells names) (g.H.Shelf.faults c.args.shelf.now) after) c.from_residual.result
    fault c.from_residual.ensures.1
    (refuses-first tells c.loop-name.files names c.name-item.result k (c.len.result + 1) fault _ middle after
    c.loop-name-test.true c.loop-name.invariant.count (ap (λ n. n + 1) c.len.ensures) c.loop-name.invariant.rows
    c.loop-name.invariant.counted refused)
