use Rattle.std.proofs.Common.{◌+◌, ◌∙◌, arith}
use Rattle.dict_files.proofs.Marks.{mark_added, marks_end}
use Rattle.dict_files.proofs.marked_places.marks_of.Goals as goal
use Rattle.dict_files.proofs.marked_places.marks_of.Goals.{else-loop-at-test}
use Rattle.dict_files.proofs.marked_places.marks_of.Goals.{then-loop-at-test+in_ok-mark+in_ok-push+else-at-end-at-gt16}

pub loop-at-preserved : goal.loop-at-preserved
loop-at-preserved c =
    rw c.in_ok-push.ensures.items
    (mark_added c.args.bytes.now c.args.places.now c.loop-at.marks.items c.in_ok-mark.field-0 c.loop-at.at _
    c.loop-at-test.true c.in_ok-mark.ensures ∙ c.loop-at.invariant)

pub returns : goal.returns
returns c =
    let bytes = c.args.bytes.now in
    let places = c.args.places.now in
    let marks = c.loop-at.marks.items in
    let at = c.loop-at.at in
    rw c.of.ensures (elim c.loop-at-test.branch [
      | else-loop-at-test w ↦
          rw w.marks-is (marks_end bytes places marks at (omega (arith, w.loop-at-test.false)) c.loop-at.invariant)
      | then-loop-at-test+in_ok-mark+in_ok-push+else-at-end-at-gt16 w ↦
          rw (w.marks-is, w.in_ok-push.ensures.items)
          (marks_end bytes places _ (at + 16) (omega arith)
          (mark_added bytes places marks w.in_ok-mark.field-0 at _ w.loop-at-test.true w.in_ok-mark.ensures
          ∙ c.loop-at.invariant))
    ])
