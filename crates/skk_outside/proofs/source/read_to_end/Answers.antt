use Rattle.std.proofs.Common.{◌≤◌, ◌+◌, sym, subst, ap, length, length-append, arith}
use Rattle.std.specs.Io.KnownBytes.{Consumes}
use Rattle.std.proofs.KnownBytes.{Consumes-trans}
use Rattle.skk_outside.specs.declared.source.TheConstants.{PIECE}
use Rattle.skk_outside.proofs.KnownBytes.{TakesAtMost-more}
use Rattle.skk_outside.proofs.source.read_to_end.Goals as goal

pub loop-preserved : goal.loop-preserved
loop-preserved g c =
    let more = c.in_ok-read_piece.ensures.ok in
    let left = g.S.Outside.left in
    let bytes = c.loop.bytes.items in
    record {
      progress = omega (
        arith,
        c.loop.invariant.progress,
        c.loop.bytes.ok.0,
        c.read_piece.new.bytes.ok.0,
        ap length more.3,
        length-append bytes more.0,
        more.1,
        c.if-branch-eq0.false,
      );
      fits = omega (arith, c.if-len-limit.false, c.len.ensures);
      taken =
          subst (Consumes (left c.args.source.now) (left c.read_piece.new.source)) (sym more.3)
          (Consumes-trans (left c.args.source.now) (left c.loop.source) (left c.read_piece.new.source) bytes more.0
          c.loop.invariant.taken more.4);
      counted = omega (arith, c.loop.invariant.counted, c.in_ok-read_piece.ensures.counted);
      room = c.loop.invariant.room;
    }

pub returns-in_err-read_piece-clause-taken : goal.returns-in_err-read_piece-clause-taken
returns-in_err-read_piece-clause-taken g c =
    let few : length c.loop.bytes.items ≤ c.args.limit = grind arith in
    let room : c.args.limit + length c.deref_mut.result.now ≤ c.args.limit + PIECE = grind arith in
    TakesAtMost-more _ _ _ c.loop.bytes.items c.args.limit _ _ c.loop.invariant.taken few
    c.in_err-read_piece.ensures.err room
