-- The pieces of a source in memory, as bytes are taken from them.
use Rattle.std.proofs.Common.{ℕ, ◌+◌, ◌≡◌, ◌<◌, ◌∙◌, sym, ap, refl, List, [], ◌∷◌, ◌++◌, length, take, drop, min}
use Rattle.std.proofs.Common.{slice_index_or, append_assoc, arith}
use Rattle.std.proofs.lemmas.List.{drop_more, take-append-drop, drop-drop, length-drop}
use Rattle.skk_outside.specs.Memory.{bytes_of_pieces, first_nonempty_piece, without_first_bytes}
use Rattle.skk_outside.specs.Pieces.{pieces_left}

-- within the pieces, what is left begins with the piece at the place
pub pieces_left-within : (place taken : ℕ) (pieces : List (List ℕ)) → place < length pieces
    → pieces_left place taken pieces ≡ drop taken (slice_index_or pieces place []) ∷ drop (place + 1) pieces
pieces_left-within place taken pieces within = ap (without_first_bytes taken) (drop_more pieces place [] within)

-- a piece with a byte left is the first with any
first_nonempty_piece-some : (bytes : List ℕ) (pieces : List (List ℕ)) → 0 < length bytes
    → first_nonempty_piece (bytes ∷ pieces) ≡ bytes
first_nonempty_piece-some [] pieces some = absurd (omega arith)
first_nonempty_piece-some (byte ∷ bytes) pieces some = refl

pub first_nonempty_piece-here : (place taken : ℕ) (pieces : List (List ℕ)) → place < length pieces
    → taken < length (slice_index_or pieces place [])
    → first_nonempty_piece (pieces_left place taken pieces) ≡ drop taken (slice_index_or pieces place [])
first_nonempty_piece-here place taken pieces within some =
    ap first_nonempty_piece (pieces_left-within place taken pieces within)
    ∙ first_nonempty_piece-some (drop taken (slice_index_or pieces place [])) (drop (place + 1) pieces)
    (omega (arith, length-drop taken (slice_index_or pieces place [])))

-- the first bytes are taken
bytes_of_pieces-taken : (place taken n : ℕ) (pieces : List (List ℕ)) → place < length pieces
    → bytes_of_pieces (pieces_left place taken pieces)
    ≡ take n (drop taken (slice_index_or pieces place [])) ++ bytes_of_pieces (pieces_left place (taken + n) pieces)
bytes_of_pieces-taken place taken n pieces within =
    let piece = slice_index_or pieces place [] in
    let others = bytes_of_pieces (drop (place + 1) pieces) in
    ap bytes_of_pieces (pieces_left-within place taken pieces within)
    ∙ ap (λ bytes. bytes ++ others) (sym (take-append-drop n (drop taken piece))
    ∙ ap (λ bytes. take n (drop taken piece) ++ bytes) (drop-drop n taken piece))
    ∙ append_assoc (take n (drop taken piece)) (drop (taken + n) piece) others
    ∙ sym (ap (λ left. take n (drop taken piece) ++ bytes_of_pieces left)
    (pieces_left-within place (taken + n) pieces within))

-- so a read of the rest of a piece gives the first bytes of all, and some of them where there is room
pub bytes_of_pieces-read : (place taken n : ℕ) (pieces : List (List ℕ)) (whole rest old new : List ℕ)
    → place < length pieces → taken < length (slice_index_or pieces place [])
    → bytes_of_pieces (pieces_left place taken pieces) ≡ whole → rest ≡ drop taken (slice_index_or pieces place [])
    → n ≡ min (length old) (length rest) → length new ≡ length old → take n new ≡ take n rest
    → (whole ≡ take n new ++ bytes_of_pieces (pieces_left place (taken + n) pieces))
    × (n ≡ 0 → 0 < length new → bytes_of_pieces (pieces_left place (taken + n) pieces) ≡ [])
bytes_of_pieces-read place taken n pieces whole rest old new within some left is count room copied = (
  sym left ∙ bytes_of_pieces-taken place taken n pieces within
      ∙ ap (λ bytes. bytes ++ bytes_of_pieces (pieces_left place (taken + n) pieces)) (sym (copied ∙ ap (take n) is)),
  λ none enough. absurd (omega (arith, ap length is, length-drop taken (slice_index_or pieces place []))),
)
