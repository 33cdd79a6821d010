use Rattle.std.proofs.Common.{◌≡◌, ap, length, arith}
use Rattle.std.proofs.lemmas.Str.{encodes-chars}
use Rattle.std.specs.Str.{chars}
use Rattle.skk_text.specs.Text.{byte_len}
use Rattle.session_machine.proofs.editing.fits_behind.Goals as goal

pub returns-then-piece-le-TEXT_LIMIT : goal.returns-then-piece-le-TEXT_LIMIT
returns-then-piece-le-TEXT_LIMIT c =
    let counted : byte_len (chars c.args.piece.now) ≡ length c.args.piece.now =
    ap length (encodes-chars c.args.piece.now c.utf8.piece) in
    grind (arith, counted, c.byte_len.ensures, c.if-piece-le-TEXT_LIMIT.true)

pub returns-else-piece-le-TEXT_LIMIT : goal.returns-else-piece-le-TEXT_LIMIT
returns-else-piece-le-TEXT_LIMIT c =
    let counted : byte_len (chars c.args.piece.now) ≡ length c.args.piece.now =
    ap length (encodes-chars c.args.piece.now c.utf8.piece) in
    grind (arith, counted, c.if-piece-le-TEXT_LIMIT.false)
