use Rattle.std.proofs.Common.{◌∙◌, sym, subst, ap, arith, length, length-append}
use Rattle.skk_outside.specs.Shelves.{StandsAt}
use Rattle.skk_outside.proofs.Shelves.{StandsAt-more}
use Rattle.skk_outside.proofs.shelf.read_named_file.Goals as goal

pub loop-preserved : goal.loop-preserved
loop-preserved g c =
    let added = c.in_ok-read_next_piece.ensures.ok in
    let told = g.H.Shelf.file c.args.shelf.now c.args.name.now in
    let bytes = c.loop.bytes.items in
    record {
      progress = omega (
        arith,
        c.loop.invariant.progress,
        c.loop.bytes.ok.0,
        c.read_next_piece.new.bytes.ok.0,
        ap length added.3,
        length-append bytes added.0,
        added.1,
        c.if-branch-eq0.false,
      );
      fits = omega (arith, c.if-len-limit.false, c.len.ensures);
      head =
          subst (StandsAt told 0) (sym added.3) (StandsAt-more told bytes added.0 c.loop.invariant.head
          (subst (λ files. StandsAt (files c.args.name.now) (length bytes) added.0) c.loop.invariant.kept added.4));
      kept = c.in_ok-read_next_piece.ensures.kept ∙ c.loop.invariant.kept;
      counted = omega (arith, c.loop.invariant.counted, c.in_ok-read_next_piece.ensures.counted);
      room = c.loop.invariant.room;
    }
