use Rattle.std.proofs.Common.{ap, arith, length}
use Rattle.skk_server.specs.Works.{passes_under_way}
use Rattle.skk_server.proofs.hall.Hall.make_place.Goals as goal
use Rattle.skk_server.proofs.Stages.{stage-joins, counts-join}

pub see_ended_off-requires-clause-stage : goal.see_ended_off-requires-clause-stage
see_ended_off-requires-clause-stage g c = stage-joins c.join_ended.ensures.joins c.requires.stage

pub returns-in_err-reserve-clause-counts : goal.returns-in_err-reserve-clause-counts
returns-in_err-reserve-clause-counts g c =
    let joined = counts-join c.join_ended.ensures.joins in
    let off = c.see_ended_off.ensures.counts in (
      omega (arith, joined.0, off.0, ap length c.reserve.ensures.items),
      omega (arith, joined.1, off.1, ap passes_under_way c.reserve.ensures.items),
    )

pub returns-in_err-reserve-2-clause-counts : goal.returns-in_err-reserve-2-clause-counts
returns-in_err-reserve-2-clause-counts g c =
    let joined = counts-join c.join_ended.ensures.joins in
    let off = c.see_ended_off.ensures.counts in (
      omega (arith, joined.0, off.0, ap length c.reserve.ensures.items),
      omega (arith, joined.1, off.1, ap passes_under_way c.reserve.ensures.items, ap length c.reserve-2.ensures.items),
    )

pub returns-in_err-reserve-3-clause-counts : goal.returns-in_err-reserve-3-clause-counts
returns-in_err-reserve-3-clause-counts g c =
    let joined = counts-join c.join_ended.ensures.joins in
    let off = c.see_ended_off.ensures.counts in (
      omega (arith, joined.0, off.0, ap length c.reserve.ensures.items, ap length c.reserve-3.ensures.items),
      omega (arith, joined.1, off.1, ap passes_under_way c.reserve.ensures.items, ap length c.reserve-2.ensures.items),
    )

pub returns-clause-counts : goal.returns-clause-counts
returns-clause-counts g c =
    let joined = counts-join c.join_ended.ensures.joins in
    let off = c.see_ended_off.ensures.counts in (
      omega (arith, joined.0, off.0, ap length c.reserve.ensures.items, ap length c.reserve-3.ensures.items),
      omega (arith, joined.1, off.1, ap passes_under_way c.reserve.ensures.items, ap length c.reserve-2.ensures.items),
    )
