use Rattle.std.proofs.Common.{arith}
use Rattle.learned_store.proofs.ReadForms.{put_is}
use Rattle.learned_store.proofs.payload.put_fields.Goals as goal

pub returns-clause-is : goal.returns-clause-is
returns-clause-is c =
    let fields = c.in_ok-fields.fields in
    put_is c.args.payload.now fields.kind fields.book fields.count fields.rest.now c.in_ok-stamp.stamp
    c.in_ok-stamp.row.now (omega (arith, c.if-fields-ne-PUT.false)) c.in_ok-fields.ensures c.in_ok-stamp.ensures
