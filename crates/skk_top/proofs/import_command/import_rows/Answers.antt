use Rattle.std.proofs.Common.{◌∙◌, inl, inr, subst, ℕ, List, ⊎_elim}
use Rattle.skk_calls.specs.Rows.{Row}
use Rattle.learned_store.specs.Stores.{opening_now}
use Rattle.command_line.specs.Command.{limit_of}
use Rattle.skk_top.specs.Disks.{moved_disk, IsOpening}
use Rattle.skk_top.proofs.import_command.import_rows.Goals as goal

-- the learned file was opened
pub returns-in-Ok-open_learned-clause-leaves : goal.returns-in-Ok-open_learned-clause-leaves
returns-in-Ok-open_learned-clause-leaves g c =
    let D = g.D.Disk in
    let opening = opening_now D c.in-Ok-open_learned.store in
    let disk = moved_disk D c.args.disk c.import_over.result.disk in
    let opened = subst (λ (most : ℕ). IsOpening disk c.in-Ok.system most opening) c.limit.ensures
    (c.in-Ok-open_learned.ensures.opened c.import_over.result) in
    inr (record {
      opening = opening;
      opened = subst (λ (files : List (List Row)). IsOpening disk files (limit_of c.args.options.now.limit) opening)
          (c.in-Ok.ensures ∙ c.new.ensures) opened;
      learnt = c.import_over.ensures.leaves;
    })

pub returns-in-Ok-open_learned-clause-stands : goal.returns-in-Ok-open_learned-clause-stands
returns-in-Ok-open_learned-clause-stands g c file read =
    let run = c.import_over.result in
    let opened = c.in-Ok-open_learned.ensures in ⊎_elim
    (λ none. inl (none.0, opened.stands run none.1))
    (λ learnt. inr (record {
      opening = opening_now g.D.Disk c.in-Ok-open_learned.store;
      rows = c.args.book.now;
      read = read;
      learnt = record {
        pieces = learnt.pieces;
        lists = learnt.lists;
        cut = learnt.cut;
        noted = learnt.noted;
        is = learnt.is;
        holds = opened.stands_in_pieces run learnt.lists learnt.holds;
      };
    }))
    c.import_over.ensures.stands
