use Rattle.std.proofs.Common.{◌+◌, ◌≤◌, length, drop, arith}
use Rattle.std.proofs.Transfers.{starts_with_trans}
use Rattle.std.proofs.lemmas.List.{append-nil}
use Rattle.session_machine.specs.Display.{page_letters}
use Rattle.session_machine.proofs.Forms.{lettered-none, lettered-next}
use Rattle.session_machine.proofs.printing.push_lettered.Goals as goal

pub returns-then-count-len-clause-ok : goal.returns-then-count-len-clause-ok
returns-then-count-len-clause-ok c =
    let past : length c.args.shown.now ≤ c.args.first + c.loop-count.count = omega arith in
    rw (
      lettered-none (drop c.loop-count.count page_letters) c.args.shown.now (c.args.first + c.loop-count.count) past,
      append-nil,
    ) at c.loop-count.invariant.printed

pub loop-count-preserved : goal.loop-count-preserved
loop-count-preserved c =
    let found = c.at.result in
    record {
      printed =
          lettered-next c.loop-count.page c.push_behind_letter.new.page _ c.args.shown.now
          c.loop-count.count c.args.first
          (record { key = found.key.now; cand = found.cand.now; text = found.text.now }) (omega arith)
          c.at.ensures c.in_ok-push_behind_letter.ensures.ok c.loop-count.invariant.printed;
      kept = starts_with_trans c.push_behind_letter.new.page c.loop-count.page c.args.page.now
          c.in_ok-push_behind_letter.ensures.kept c.loop-count.invariant.kept;
    }
