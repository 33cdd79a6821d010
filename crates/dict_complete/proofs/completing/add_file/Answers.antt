use Rattle.std.proofs.Common.{◌≡◌, ◌∙◌, [], List, ℕ, Some, ap, arith, fold, get_or, sym}
use Rattle.std.specs.List.{filter}
use Rattle.std.proofs.lemmas.Bool.Decides.{nat_tests}
use Rattle.ordered_lists.specs.OrderLaws.{not_itself}
use Rattle.skk_calls.specs.Completions.{completion_limit, goes_on_from}
use Rattle.skk_calls.specs.OrderLaws.{text_order}
use Rattle.skk_calls.specs.Orders.{text_less}
use Rattle.skk_calls.specs.Walks.{next_above}
use Rattle.dict_complete.specs.FirstReadings.{full_stays, one_added}
use Rattle.dict_complete.specs.Joined.{with_more}
use Rattle.dict_complete.proofs.Walking.{all_behind, fewer_left, file_ascends, next_ends, next_goes_on, next_greater}
use Rattle.dict_complete.proofs.Walking.{none_above}
use Rattle.dict_complete.proofs.completing.add_file.Goals as goal
use Rattle.dict_complete.proofs.completing.add_file.Goals.{else-loop-alloc-test}
use Rattle.dict_complete.proofs.completing.add_file.Goals.{then-loop-alloc-test+in_ok-next+in_default}
use Rattle.dict_complete.proofs.completing.add_file.Goals.{then-loop-alloc-test+in_ok-next+in-Some+then-not-begins_with}

-- what is added to readings
abbrev added : List (List ℕ) → List (List ℕ) → List (List ℕ)
added readings more = fold (with_more completion_limit) readings more

pub loop-alloc-init : goal.loop-alloc-init
loop-alloc-init g c =
    let prefix = c.args.prefix.now in
    rw (c.in_ok-low.ensures) (record {
      reached = not_itself text_less text_order prefix;
      left = ap (added c.args.readings.now)
          (all_behind prefix (get_or (g.W.Walk.files c.args.system.now) c.args.file []));
    })

pub loop-alloc-smaller : goal.loop-alloc-smaller
loop-alloc-smaller g c =
    let files = g.W.Walk.files c.args.system.now in
    fewer_left (get_or files c.args.file []) c.loop-alloc.low c.in-Some.next
    (file_ascends files c.args.file (g.met.W.Walk.ascending c.args.system.now))
    (sym c.in_ok-next.ensures ∙ c.in-Some.is)

pub loop-alloc-preserved : goal.loop-alloc-preserved
loop-alloc-preserved g c =
    let files = g.W.Walk.files c.args.system.now in
    let texts = get_or files c.args.file [] in
    let prefix = c.args.prefix.now in
    let low = c.loop-alloc.low in
    let next = c.in-Some.next in
    let rest = filter (goes_on_from prefix) (filter (text_less next) texts) in
    let found : next_above texts low ≡ Some next = sym c.in_ok-next.ensures ∙ c.in-Some.is in
    record {
      reached = text_order.one_way prefix next
          (next_greater texts prefix low next c.loop-alloc.invariant.reached found);
      left =
          ap (λ readings. added readings rest)
          (c.in_ok-add_new.ensures
          ∙ sym (one_added completion_limit c.loop-alloc.readings next
          (grind (arith, nat_tests, c.len.ensures, c.loop-alloc-test.true))))
          ∙ ap (added c.loop-alloc.readings)
          (sym (next_goes_on texts prefix low next
          (file_ascends files c.args.file (g.met.W.Walk.ascending c.args.system.now))
          c.loop-alloc.invariant.reached found (sym c.begins_with.ensures ∙ c.if-not-begins_with.false)))
          ∙ c.loop-alloc.invariant.left;
    }

pub returns : goal.returns
returns g c =
    let files = g.W.Walk.files c.args.system.now in
    let texts = get_or files c.args.file [] in
    let prefix = c.args.prefix.now in
    let low = c.loop-alloc.low in
    let readings = c.loop-alloc.readings in
    let left = c.loop-alloc.invariant.left in
    elim c.loop-alloc-test.branch [
      | else-loop-alloc-test w ↦
          sym (full_stays completion_limit readings (filter (goes_on_from prefix) (filter (text_less low) texts))
          (grind (arith, nat_tests, c.len.ensures, w.loop-alloc-test.false)))
          ∙ left
      | then-loop-alloc-test+in_ok-next+in_default w ↦
          sym (ap (λ above. added readings (filter (goes_on_from prefix) above))
          (none_above texts low (sym w.in_ok-next.ensures ∙ w.in_default.is)))
          ∙ left
      | then-loop-alloc-test+in_ok-next+in-Some+then-not-begins_with w ↦
          sym (ap (added readings) (next_ends texts prefix low w.in-Some.next
          (file_ascends files c.args.file (g.met.W.Walk.ascending c.args.system.now))
          c.loop-alloc.invariant.reached (sym w.in_ok-next.ensures ∙ w.in-Some.is)
          (sym w.begins_with.ensures ∙ w.if-not-begins_with.true)))
          ∙ left
    ]
