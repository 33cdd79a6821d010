use Rattle.std.proofs.Common.{◌≡◌, ◌∙◌, Option, ap, sym}
use Rattle.ordered_lists.specs.PlaceLaws.{left_out, not_there}
use Rattle.skk_calls.specs.Rows.{Row}
use Rattle.learn_index.specs.Ages.{age, age_keys, left_of}
use Rattle.learn_index.proofs.by_stamp.without_aged.Goals as goal
use Rattle.learn_index.proofs.by_stamp.without_aged.Goals.{then-has_key_at, else-has_key_at}

pub returns-clause-items : goal.returns-clause-items
returns-clause-items c =
    let row = c.in-Some.row in
    let stamps = c.args.stamps.items in
    let place = c.place_of-place.result in
    let own : c.new-row.result ≡ row = c.new-row.ensures in
    let point = rw (c.deref.ensures.value, own) at c.place_of-place.ensures.place in
    let goes = ap (λ (gone : Option Row). left_of gone stamps) (sym c.in-Some.is) in
    elim c.if-has_key_at.branch [
      | then-has_key_at w ↦
          let there = rw (c.deref-2.ensures.value, own) at (sym c.has_key_at.ensures ∙ w.if-has_key_at.true) in
          ap (λ v. v.items) w.stamps-is ∙ w.remove-row.ensures.items
          ∙ sym (left_out age age_keys (age row) stamps place c.requires point there) ∙ goes
      | else-has_key_at w ↦
          let missing = rw (c.deref-2.ensures.value, own) at (sym c.has_key_at.ensures ∙ w.if-has_key_at.false) in
          ap (λ v. v.items) w.stamps-is
          ∙ sym (not_there age age_keys (age row) stamps place c.requires point missing) ∙ goes
    ]
