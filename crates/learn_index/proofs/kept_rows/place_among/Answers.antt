use Rattle.std.proofs.Common.{◌≡◌, ◌∙◌, true, sym}
use Rattle.learn_index.proofs.LastRows.{behind_all}
use Rattle.learn_index.proofs.kept_rows.place_among.Goals as goal

pub returns-in-Some-clause-place : goal.returns-in-Some-clause-place
returns-in-Some-clause-place g c =
    let keys = g.T.Keyed.keys in
    let less : keys.less (g.T.Keyed.key c.in-Some.last.now) (g.T.Keyed.sought_key c.args.sought.now) ≡ true =
    sym c.compare.ensures.less ∙ sym c.is_lt.ensures ∙ c.if-is_lt.true in
    behind_all g.T.Keyed.key keys c.args.items.now c.in-Some.last.now (g.T.Keyed.sought_key c.args.sought.now)
    c.requires (sym c.in-Some.ensures.value) less
