use Rattle.std.proofs.Common.{◌∷◌, [], ap, inl, inr, refl, arith}
use Rattle.run_endings.specs.declared.finish.Run.{Run}
use Rattle.skk_top.proofs.Dictionaries.{refuses-first}
use Rattle.skk_top.proofs.Imports.{rows-read}
use Rattle.skk_top.proofs.Runs.{Keeps-self}
use Rattle.skk_top.proofs.import_command.run_import.Goals as goal

-- the dictionary was read
pub returns-in-Ok-clause-leaves : goal.returns-in-Ok-clause-leaves
returns-in-Ok-clause-leaves g c = inr (record {
  rows = c.in-Ok.listed.book;
  read = rows-read (g.H.Shelf.file c.args.shelf.now c.args.options.now.file) c.in-Ok.listed c.in-Ok.ensures.lists;
  imported = c.import_rows.ensures.leaves;
})

pub returns-in-Ok-clause-stands : goal.returns-in-Ok-clause-stands
returns-in-Ok-clause-stands g c =
    let file = g.H.Shelf.file c.args.shelf.now c.args.options.now.file in
    c.import_rows.ensures.stands file (rows-read file c.in-Ok.listed c.in-Ok.ensures.lists)

-- it was refused
pub returns-in-Err-clause-leaves : goal.returns-in-Err-clause-leaves
returns-in-Err-clause-leaves g c =
    let tells = g.H.Shelf.file c.args.shelf.now in
    let name = c.args.options.now.file in
    let before = g.H.Shelf.faults c.args.shelf.now in
    let after = g.H.Shelf.faults c.read_dictionary.new.shelf in
    rw c.end_unopened.ensures.run (inl (record {
      cause = refuses-first tells [] (name ∷ []) name 0 1 c.in-Err.fault before before after (omega arith) refl refl
          tt (omega arith) c.in-Err.ensures.refused;
      uncalled = refl;
      unwritten = Keeps-self _;
    }))

pub returns-in-Err-clause-stands : goal.returns-in-Err-clause-stands
returns-in-Err-clause-stands g c =
    inl (ap (λ (run : Run g.row.D.Denot). run.chronicle) c.end_unopened.ensures.run, c.end_unopened.ensures.stands)
