use Rattle.std.proofs.Common.{◌≡◌, ◌<◌, ◌∙◌, ap, sym, arith, length, min, ◌+◌, [], ◌++◌, take}
use Rattle.skk_outside.specs.Memory.{bytes_of_pieces, first_nonempty_piece}
use Rattle.skk_outside.specs.Pieces.{pieces_left}
use Rattle.skk_outside.proofs.PiecesLeft.{first_nonempty_piece-here, bytes_of_pieces-read}
use Rattle.skk_outside.proofs.pieces.Pieces.read.Goals as goal

-- what was given are the first of the bytes that were left, and none only where none is left
read : (c : goal.After-self-1)
    → let left = bytes_of_pieces (pieces_left c.place_of_next_byte.result.0
    (c.place_of_next_byte.result.1 + c.copy_what_fits-n.result) c.as_slice-pieces.result.now) in
    (bytes_of_pieces c.args.self.now ≡ take c.copy_what_fits-n.result c.copy_what_fits-n.new.into ++ left)
    × (c.copy_what_fits-n.result ≡ 0 → 0 < length c.copy_what_fits-n.new.into → left ≡ [])
read c =
    let same = c.as_slice-pieces.ensures.value in
    let slice = c.as_slice-pieces.result.now in
    let within : c.place_of_next_byte.result.0 < length slice = omega arith in
    let left : bytes_of_pieces (pieces_left c.place_of_next_byte.result.0 c.place_of_next_byte.result.1 slice)
    ≡ bytes_of_pieces c.args.self.now =
    c.place_of_next_byte.ensures.bytes
    ∙ ap (λ pieces. bytes_of_pieces (pieces_left c.self.inside.place c.self.inside.taken pieces)) same
    ∙ ap bytes_of_pieces c.self.view_is in
    bytes_of_pieces-read c.place_of_next_byte.result.0 c.place_of_next_byte.result.1 c.copy_what_fits-n.result slice
    (bytes_of_pieces c.args.self.now) c.rest_of_piece.result.now c.args.into.now c.copy_what_fits-n.new.into
    within (c.place_of_next_byte.ensures.byte_left within) left c.rest_of_piece.ensures.rest
    c.copy_what_fits-n.ensures.count c.copy_what_fits-n.ensures.room c.copy_what_fits-n.ensures.bytes

pub returns-clause-bytes : goal.returns-clause-bytes
returns-clause-bytes c = rw (← c.as_slice-pieces.ensures.value) (read c).0

pub returns-clause-end : goal.returns-clause-end
returns-clause-end c = rw (← c.as_slice-pieces.ensures.value) (read c).1

pub returns-clause-count : goal.returns-clause-count
returns-clause-count c =
    let same = c.as_slice-pieces.ensures.value in
    let slice = c.as_slice-pieces.result.now in
    let within : c.place_of_next_byte.result.0 < length slice = omega arith in
    let first : first_nonempty_piece (pieces_left c.place_of_next_byte.result.0 c.place_of_next_byte.result.1 slice)
    ≡ first_nonempty_piece c.args.self.now =
    c.place_of_next_byte.ensures.first
    ∙ ap (λ pieces. first_nonempty_piece (pieces_left c.self.inside.place c.self.inside.taken pieces)) same
    ∙ ap first_nonempty_piece c.self.view_is in
    c.copy_what_fits-n.ensures.count
    ∙ ap (λ bytes. min (length c.args.into.now) (length bytes))
    (c.rest_of_piece.ensures.rest ∙ sym (first_nonempty_piece-here c.place_of_next_byte.result.0
    c.place_of_next_byte.result.1 slice within (c.place_of_next_byte.ensures.byte_left within)) ∙ first)
