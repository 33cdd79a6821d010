-- The bytes of a learned file: its head, and records behind gates. A gate is open exactly where it is 1.
use Rattle.std.specs.Prelude.{◌≡◌, ◌≢◌, ℕ, ◌+◌, ◌<◌, ◌≤◌, ◌&&◌, nat_le, if◌then◌else◌, Option, None, Some, List, []}
use Rattle.std.specs.Prelude.{◌∷◌, ◌++◌, length, take, drop, All}
use Rattle.std.specs.Int.{w32, w64}
use Rattle.exact_readers.specs.Formats.{Format, then_at, behind}
use Rattle.exact_readers.specs.Numbers.{number, number_bytes}
use Rattle.skk_journal.specs.Contents.{Contents}

-- the most bytes of a payload
abbrev pub payload_limit : ℕ
payload_limit = 131072

-- a payload may be a record's
abbrev pub IsSized : List ℕ → Type 0
IsSized payload = (1 ≤ length payload) × (length payload ≤ payload_limit)

-- what stands behind the gate of a record: the size of its payload in four bytes, and the payload
abbrev pub body : List ℕ → List ℕ
body payload = number_bytes w32 (length payload) ++ payload

-- the payload that stands behind its size, where it is whole and a record may have it, and what stands behind that
abbrev pub payload_step : ℕ × List ℕ → Option (List ℕ × List ℕ)
payload_step read =
    if nat_le 1 read.0 && nat_le read.0 payload_limit && nat_le read.0 (length read.1)
    then Some (take read.0 read.1, drop read.0 read.1)
    else None

-- a payload behind its size
abbrev pub sized_payload : Format ℕ (List ℕ)
sized_payload = record {
  Spells = λ payload tokens. IsSized payload × (tokens ≡ body payload);
  step = λ tokens. then_at ((number w32).step tokens) payload_step;
}

-- a record whose gate is open
abbrev pub record_bytes : List ℕ → List ℕ
record_bytes payload = 1 ∷ body payload

-- a record behind an open gate, read as its payload
abbrev pub open_record : Format ℕ (List ℕ)
open_record = behind (1 ∷ []) sized_payload

-- the bytes that the record of a payload needs
unfoldable pub need : List ℕ → ℕ
need payload = length (record_bytes payload)

-- the records of these payloads, one behind another
abbrev pub framed : List (List ℕ) → List ℕ
framed [] = []
framed (payload ∷ payloads) = record_bytes payload ++ framed payloads

-- the records of these payloads but for the gate of the first one
abbrev pub behind_gate : List (List ℕ) → List ℕ
behind_gate [] = []
behind_gate (payload ∷ payloads) = body payload ++ framed payloads

-- there are some records with these payloads, which may be added together
pub record IsAddition (added : List (List ℕ)) : Type 0 where
  pub some : 0 < length added
  pub sized : All IsSized added

-- bytes are all of the added records but for the gate of the first one, and a closed gate behind them
pub record IsGroup (added : List (List ℕ)) (bytes : List ℕ) : Type 0 where
  pub addition : IsAddition added
  pub is : bytes ≡ behind_gate added ++ 0 ∷ []

-- SKKDESK
abbrev pub mark_name : List ℕ
mark_name = 83 ∷ 75 ∷ 75 ∷ 68 ∷ 69 ∷ 83 ∷ 75 ∷ []

-- the mark of a file of this version
abbrev pub mark : ℕ → List ℕ
mark version = mark_name ++ version ∷ []

-- a number may be the version of a file, where this is the newest one
abbrev pub IsVersion : ℕ → ℕ → Type 0
IsVersion newest version = (1 ≤ version) × (version ≤ newest)

-- the greatest generation
abbrev pub last_generation : ℕ
last_generation = 18446744073709551615

-- a number may be a generation
abbrev pub IsGeneration : ℕ → Type 0
IsGeneration generation = generation ≤ last_generation

-- the place of a file's generation
abbrev pub generation_place : ℕ
generation_place = 9

-- the place of the first record's gate
abbrev pub first_place : ℕ
first_place = 17

-- a file up to the gate behind its records: its own gate, which is open, its mark, its generation, and these contents'
-- records
abbrev pub front : ℕ → Contents → List ℕ
front generation contents =
    1 ∷ (mark contents.version ++ (number_bytes w64 generation ++ framed contents.records))

-- the place of the gate behind these records
abbrev pub place_behind : List (List ℕ) → ℕ
place_behind records = first_place + length (framed records)

-- one more than the place of the gate behind these records
abbrev pub end_of : List (List ℕ) → ℕ
end_of records = place_behind records + 1

-- a file of this generation has just these contents, where this version is the newest one: behind its records there is
-- a closed gate, whatever follows it
pub record HasContents (newest generation : ℕ) (contents : Contents) (file : List ℕ) : Type 0 where
  pub gate : ℕ
  pub rest : List ℕ
  pub is : file ≡ front generation contents ++ gate ∷ rest
  pub right : IsVersion newest contents.version
  pub told : IsGeneration generation
  pub sized : All IsSized contents.records
  pub closed : gate ≢ 1

-- a file of this generation has these contents, then this gate, and behind it all of the added records and a closed
-- gate, whatever follows it
pub record HasAddition (newest generation : ℕ) (contents : Contents) (added : List (List ℕ)) (gate : ℕ)
    (file : List ℕ) : Type 0 where
  pub rest : List ℕ
  pub is : file ≡ front generation contents ++ gate ∷ (behind_gate added ++ 0 ∷ rest)
  pub right : IsVersion newest contents.version
  pub told : IsGeneration generation
  pub sized : All IsSized contents.records
  pub addition : IsAddition added

-- a file has this first byte, the mark of this version, which is a right one, and this generation, whatever follows
-- them
pub record Marked (newest first version generation : ℕ) (file : List ℕ) : Type 0 where
  pub rest : List ℕ
  pub is : file ≡ first ∷ (mark version ++ (number_bytes w64 generation ++ rest))
  pub right : IsVersion newest version
  pub told : IsGeneration generation
