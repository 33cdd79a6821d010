-- What the first bytes of a file say.
use Rattle.std.specs.Prelude.{⊤, ℕ, Bool, true, false, not, ◌&&◌, ◌||◌, ◌==◌, nat_le, if◌then◌else◌, Option, None, Some}
use Rattle.std.specs.Prelude.{List, [], ◌∷◌, length, take, drop, get_or}
use Rattle.std.specs.Int.{w64}
use Rattle.std.specs.Str.{bytes_eq}
use Rattle.exact_readers.specs.Numbers.{number}
use Rattle.skk_journal.specs.declared.head.Head.{Head}
use Rattle.skk_journal.specs.declared.head.Head.TheVariants.{Fresh, Foreign, CutShort, Headed}
use Rattle.skk_journal.specs.Records.{mark_name, IsVersion, generation_place}

-- a byte is right as a version, where this is the newest one
abbrev pub is_version : ℕ → ℕ → Bool
is_version newest byte = nat_le 1 byte && nat_le byte newest

-- the byte behind the name of the mark, by the bytes behind the gate of a file: 0 where there is none, which is no
-- version
abbrev pub version_byte : List ℕ → ℕ
version_byte rest = get_or rest (length mark_name) 0

-- the bytes behind the gate of a file begin with a right mark: SKKDESK and a version up to the newest one
abbrev pub is_marked : ℕ → List ℕ → Bool
is_marked newest rest =
    bytes_eq (take (length mark_name) rest) mark_name && is_version newest (version_byte rest)

-- a file is fresh: it has one byte at most, or its first byte is 0, or its first byte is not 1 and the mark is right
abbrev pub is_fresh : ℕ → List ℕ → Bool
is_fresh newest [] = true
is_fresh newest (first ∷ []) = true
is_fresh newest (first ∷ second ∷ rest) = first == 0 || (not (first == 1) && is_marked newest (second ∷ rest))

-- a file is no learned one: it has two bytes or more, the first one is not 0, and the mark is not all there and right
abbrev pub is_foreign : ℕ → List ℕ → Bool
is_foreign newest (first ∷ second ∷ rest) = not (first == 0) && not (is_marked newest (second ∷ rest))
is_foreign newest file = false

-- the first byte of a file, which has one
abbrev pub first_byte : List ℕ → ℕ
first_byte [] = 0
first_byte (first ∷ rest) = first

-- the head of a file of this version whose gate is open and whose mark is right, by the generation that is read behind
-- that
abbrev pub headed_by : ℕ → Option (ℕ × List ℕ) → Head
headed_by version None = CutShort
headed_by version (Some read) = Headed version read.0

-- a file is fresh, is no learned one, has no whole generation, or has all of its head
abbrev pub head_of : ℕ → List ℕ → Head
head_of newest file =
    if is_fresh newest file then Fresh
    else if is_foreign newest file then Foreign (first_byte file)
    else headed_by (version_byte (drop 1 file)) ((number w64).step (drop generation_place file))

-- a head that is whole has a right version
abbrev pub HasVersion : ℕ → Head → Type 0
HasVersion newest (Headed version generation) = IsVersion newest version
HasVersion newest head = ⊤
