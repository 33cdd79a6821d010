use Rattle.std.proofs.Common.{◌+◌, ◌≤◌, drop, length, rules, arith}
use Rattle.std.specs.Str.{chars}
use Rattle.std.proofs.lemmas.List.{drop_all}
use Rattle.numeric_entries.specs.Forms.{parts_of}
use Rattle.numeric_entries.specs.Numbers.{is_number}
use Rattle.numeric_entries.proofs.Parts.{drop-got, got-passes, form_pushed, rest_pushed}
use Rattle.numeric_entries.proofs.filling.fill.Goals as goal

pub push_form-requires : goal.push_form-requires
push_form-requires c =
    got-passes is_number c.args.numbers.now c.loop-place.place c.at.result.now c.requires.digits c.at.ensures

pub loop-place-preserved : goal.loop-place-preserved
loop-place-preserved c =
    let place = c.loop-place.place in
    let found = rw c.in-Some.is at c.in_ok-form.ensures in
    record {
      rest = search rules;
      filled =
          form_pushed c.loop-place.text c.push_to_form.new.text c.push_form.new.text _ _ found.0 c.in-Some.form
          (parts_of (chars c.in-Some.behind.now)) c.at.result.now c.at-in-loop-place.result.now _ _
          (drop (place + 1) c.args.numbers.now) (drop (place + 1) c.args.firsts.now)
          (drop-got c.args.numbers.now place c.at.result.now c.at.ensures)
          (drop-got c.args.firsts.now place c.at-in-loop-place.result.now c.at-in-loop-place.ensures)
          (found.1 (drop place c.args.numbers.now) (drop place c.args.firsts.now)) c.in_ok-push_form.ensures
          c.loop-place.invariant.filled;
    }

pub returns : goal.returns
returns c =
    let place = c.loop-place.place in
    let numbers : length c.args.numbers.now ≤ place = omega arith in
    let firsts : length c.args.firsts.now ≤ place = omega arith in
    rest_pushed c.loop-place.text c.push_str.new.self (chars c.loop-place.rest.now) _ _ _
    (drop_all place c.args.numbers.now numbers) (drop_all place c.args.firsts.now firsts) c.in_ok-push_str.ensures.ok
    c.loop-place.invariant.filled
