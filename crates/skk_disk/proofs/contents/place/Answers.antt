use Rattle.std.proofs.Common.{◌≡◌, ◌+◌, length, ap, arith, rules}
use Rattle.skk_disk.proofs.Placing.{placed_in}
use Rattle.skk_disk.proofs.contents.place.Goals as goal

pub returns-clause-ok : goal.returns-clause-ok
returns-clause-ok c =
    let ends : c.in-Some.end ≡ c.args.at + length c.args.from.now = search rules in
    let long : c.grow.new.file.len ≡ length c.grow.new.file.items =
    omega (arith, ap length c.deref_mut.ensures.value, c.deref_mut.ensures.len) in
    placed_in c.args.at c.in-Some.end c.grow.new.file.len c.args.from.now c.copy_from_slice.new.self
    c.args.file.now.items c.grow.new.file.items c.deref_mut.result.now ends c.copy_from_slice.ensures.after
    c.deref_mut.ensures.value c.in_ok-grow.ensures.ok long
