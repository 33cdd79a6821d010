use Rattle.std.proofs.Common.{◌∙◌, ap}
use Rattle.learned_store.specs.Gathering.{count_behind, count_in, row_among}
use Rattle.learned_store.proofs.Gathering.{are_keyed, are_told, follows_taken}
use Rattle.learned_store.proofs.gathered.Gathered.tell.Goals as goal

pub returns-clause-told : goal.returns-clause-told
returns-clause-told c is state gathers sound counted =
    let counts = c.args.self.now.counts in
    let lists = c.args.self.now.lists in
    let before = row_among c.args.self.now.rows in
    let told = c.in_ok-tell_row.ensures.told c.if-not-branch.false (are_keyed state counts lists before gathers) in
    let follows = follows_taken state counts lists before gathers c.args.form ∙ told.0 in (
      follows,
      are_told before (row_among c.tell_row.new.rows) counts c.tell_count.new.counts lists c.tell_list.new.lists
          c.args.form told.1
          (λ number. c.in_ok-tell_count.ensures number
          ∙ ap (λ o. count_behind o number (count_in counts number)) c.counted-counted.ensures)
          c.in_ok-tell_list.ensures state gathers sound counted follows,
    )

pub returns-then-not-branch-clause-none : goal.returns-then-not-branch-clause-none
returns-then-not-branch-clause-none c is state gathers =
    follows_taken state c.args.self.now.counts c.args.self.now.lists (row_among c.args.self.now.rows) gathers
    c.args.form
    ∙ c.in_ok-tell_row.ensures.none c.if-not-branch.true
