-- Pieces of input: what stands before a byte that ends it, where that is not too long.
use Rattle.std.specs.Prelude.{◌≡◌, ◌≤◌, ◌<◌, ℕ, ◌+◌, Bool, true, not, nat_le, if◌then◌else◌, Option, None, Some, List}
use Rattle.std.specs.Prelude.{[], length}
use Rattle.std.specs.List.{list_all}
use Rattle.std.specs.Option.{unwrap_or}
use Rattle.exact_readers.specs.Cuts.{cut, up_to}
use Rattle.exact_readers.specs.Formats.{Format, checked}
use Rattle.cut_input.specs.declared.piece.PieceEnd.{PieceEnd}
use Rattle.cut_input.specs.declared.piece.PieceEnd.TheVariants.{Here, Open, TooLong}

-- bytes, where they are not too many
abbrev pub if_within : ℕ → List ℕ → Option (List ℕ)
if_within limit bytes = if nat_le (length bytes) limit then Some bytes else None

-- a piece that is not too long, and the byte that ends it
abbrev pub ended_piece : (ℕ → Bool) → ℕ → Format ℕ (List ℕ)
ended_piece ends limit = checked (if_within limit) (up_to ends)

-- the piece that bytes begin with: what stands before the byte that ends it, or all of the bytes
abbrev pub begun_piece : (ℕ → Bool) → List ℕ → List ℕ
begun_piece ends bytes = (unwrap_or (cut ends bytes) (bytes, [])).0

-- none of the bytes ends a piece
abbrev pub GoesOn : (ℕ → Bool) → List ℕ → Type 0
GoesOn ends bytes = list_all (λ byte. not (ends byte)) bytes ≡ true

-- bytes may be those of a piece that has not ended: none of them ends it, and they are not too many
abbrev pub IsBegun : (ℕ → Bool) → ℕ → List ℕ → Type 0
IsBegun ends limit bytes = GoesOn ends bytes × (length bytes ≤ limit)

-- how a piece of which so many bytes stand before others goes on in these
abbrev pub IsPieceEnd : (ℕ → Bool) → ℕ → ℕ → List ℕ → PieceEnd → Type 0
IsPieceEnd ends limit before bytes (Here piece behind) =
    (cut ends bytes ≡ Some (piece.now, behind.now)) × (before + length piece.now ≤ limit)
IsPieceEnd ends limit before bytes Open = (cut ends bytes ≡ None) × (before + length bytes ≤ limit)
IsPieceEnd ends limit before bytes TooLong = limit < before + length (begun_piece ends bytes)
