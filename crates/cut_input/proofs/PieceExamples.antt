-- Pieces at small examples, each worked out by hand.
use Rattle.std.proofs.Common.{◌≡◌, ℕ, ◌==◌, Bool, None, Some, [], ◌∷◌, codes, map, refl, lit≤, arith}
use Rattle.exact_readers.specs.Formats.{taken}
use Rattle.cut_input.specs.declared.piece.PieceEnd.TheVariants.{Open, TooLong}
use Rattle.cut_input.specs.Pieces.{if_within, ended_piece, begun_piece, IsBegun, IsPieceEnd}

-- a full stop ends a piece
abbrev stop : ℕ → Bool
stop byte = byte == 0x2E

-- at a limit of two: none, one and two bytes, and not three
limits : map (if_within 2) ([] ∷ codes "a" ∷ codes "ab" ∷ codes "abc" ∷ [])
    ≡ Some [] ∷ Some (codes "a") ∷ Some (codes "ab") ∷ None ∷ []
limits = refl

-- what bytes begin with
begun : map (begun_piece stop) ([] ∷ codes "ab" ∷ codes "ab.c" ∷ codes ".a" ∷ [])
    ≡ [] ∷ codes "ab" ∷ codes "ab" ∷ [] ∷ []
begun = refl

-- pieces one behind another, up to one that has not ended, or is too long
pieces : map (taken (ended_piece stop 2).step) (codes "a..bc.d" ∷ codes "a.bcd.e." ∷ [])
    ≡ (codes "a" ∷ [] ∷ codes "bc" ∷ [], codes "d") ∷ (codes "a" ∷ [], codes "bcd.e.") ∷ []
unfolding taken
pieces = refl

-- as many bytes as a piece may have, all at once, and of which some came before
fits : IsBegun stop 2 (codes "ab") × IsPieceEnd stop 2 1 (codes "a") Open
fits = ((refl, lit≤ tt), (refl, lit≤ tt))

-- one byte more is too long, whether the piece has ended or not, and not one less
too_long : IsPieceEnd stop 2 1 (codes "ab") TooLong × IsPieceEnd stop 2 2 (codes "a.b") TooLong
too_long = (lit≤ tt, lit≤ tt)

not_too_long : ¬ IsPieceEnd stop 2 1 (codes "a.b") TooLong
not_too_long less = omega (arith, less)
