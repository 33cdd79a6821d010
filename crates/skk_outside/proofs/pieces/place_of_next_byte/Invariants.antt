use Rattle.std.proofs.Common.{◌≡◌, ◌≤◌, length, slice_index_or, []}
use Rattle.skk_outside.specs.Memory.{bytes_of_pieces, first_nonempty_piece}
use Rattle.skk_outside.specs.Pieces.{pieces_left}
use Rattle.skk_outside.proofs.pieces.place_of_next_byte.Given as goal

-- only spent pieces are left behind
abbrev pub invariant-loop-at : goal.invariant-loop-at
invariant-loop-at l = record {
  within : l.taken ≤ length (slice_index_or l.pieces l.at []);
  bytes : bytes_of_pieces (pieces_left l.at l.taken l.pieces)
      ≡ bytes_of_pieces (pieces_left l.fn.place l.fn.taken l.pieces);
  first : first_nonempty_piece (pieces_left l.at l.taken l.pieces)
      ≡ first_nonempty_piece (pieces_left l.fn.place l.fn.taken l.pieces);
}
