use Rattle.std.proofs.Common.{arith}
use Rattle.std.specs.Int.{w32}
use Rattle.exact_readers.specs.NumberLaws.{number_read, number_short, told_32}
use Rattle.exact_readers.specs.Numbers.{number_of}
use Rattle.exact_readers.proofs.numbers.read_u32.Goals as goal

pub returns-in-Some : goal.returns-in-Some
unfolding number_of
returns-in-Some c =
    let parts = c.in-Some.ensures.cases in
    number_read w32 told_32 c.args.bytes.now c.in-Some.front.now c.in-Some.rest.now c.from_le_bytes.result
    c.type_inv.bytes parts.0 parts.1 (omega (arith, parts.2)) c.from_le_bytes.ensures

pub returns-in-None : goal.returns-in-None
returns-in-None c = number_short w32 c.args.bytes.now (omega (arith, c.in-None.ensures.cases))
