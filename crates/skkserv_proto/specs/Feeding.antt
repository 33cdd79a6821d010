-- What a feeder has read of the bytes that it was fed.
use Rattle.std.specs.Prelude.{◌≡◌, ℕ, ◌+◌, min, None, Some, List, ◌∷◌, ◌++◌, [], length}
use Rattle.skk_text.specs.Counts.{last_count}
use Rattle.skkserv_proto.specs.declared.command.CommandByte.TheVariants as commands
use Rattle.skkserv_proto.specs.declared.next.Next.{Next}
use Rattle.skkserv_proto.specs.declared.next.Next.TheVariants as nexts
use Rattle.skkserv_proto.specs.declared.place.RequestPlace.{RequestPlace}
use Rattle.skkserv_proto.specs.declared.place.RequestPlace.TheVariants as places
use Rattle.skkserv_proto.specs.declared.request.Request.{Request}
use Rattle.skkserv_proto.specs.Requests.{command_at, IsOpen, tokens_of, requests, first_bad}

-- a feeder: where the bytes end that it was fed, and how many these are, as far as 64 bits tell
pub record Feeding : Type 0 where
  pub place : RequestPlace
  pub fed : ℕ

-- what stands behind the last token, where that place is none of a bad byte
abbrev pub IsKept : RequestPlace → List ℕ → Type 0
IsKept places.Command rest = rest ≡ []
IsKept (places.Reading wants text) rest =
    (byte : ℕ) × (command_at byte ≡ commands.Reading wants) × (rest ≡ byte ∷ text) × IsOpen text
IsKept places.Ended rest = (byte : ℕ) × (behind : List ℕ) × (command_at byte ≡ commands.End) × (rest ≡ byte ∷ behind)
IsKept (places.Bad at) rest = ⊥

-- bytes end at a place, where so many of them are counted by another number
abbrev pub EndsAt : ℕ → ℕ → List ℕ → RequestPlace → Type 0
EndsAt skipped count bytes (places.Bad at) =
    (more : ℕ) × (first_bad bytes ≡ Some (skipped + more)) × (at ≡ min (count + more) last_count)
EndsAt skipped count bytes place = (first_bad bytes ≡ None) × IsKept place (tokens_of bytes).1

-- a feeder was fed these bytes, and no more
abbrev pub Fed : List ℕ → Feeding → Type 0
Fed bytes feeder = EndsAt 0 0 bytes feeder.place × (feeder.fed ≡ min (length bytes) last_count)

-- whatever bytes a feeder was fed, with these it is the other, and they spell these requests more
abbrev pub Reads : Feeding → List ℕ → Feeding → List Request → Type 0
Reads feeder bytes after more =
    (before : List ℕ) → Fed before feeder
    → Fed (before ++ bytes) after × (requests (before ++ bytes) ≡ requests before ++ more)

-- a feeder reads bytes, and adds the requests that they spell, behind whatever bytes it was fed
abbrev pub Feeds : Feeding → List ℕ → Feeding → List Request → List Request → Type 0
Feeds feeder bytes after into into' = (more : List Request) × (into' ≡ into ++ more) × Reads feeder bytes after more

-- a feeder with so many bytes more
abbrev pub with_place : Feeding → List ℕ → RequestPlace → Feeding
with_place feeder bytes place = record { place = place; fed = min (feeder.fed + length bytes) last_count }

-- a place that goes on with bytes as it is said
abbrev pub IsMoved : RequestPlace → List ℕ → Next → RequestPlace → Type 0
IsMoved place bytes nexts.Stays after = after ≡ place
IsMoved place bytes (nexts.To next) after = after ≡ next
IsMoved (places.Reading wants text) bytes nexts.GoesOn after = after ≡ places.Reading wants (text ++ bytes)
IsMoved place bytes nexts.GoesOn after = after ≡ place

-- whatever bytes a feeder was fed, with these it stands where that is said, and they spell these requests more
abbrev pub ReadsTo : Feeding → List ℕ → Next → List Request → Type 0
ReadsTo feeder bytes next more =
    (after : RequestPlace) → IsMoved feeder.place bytes next after
    → Reads feeder bytes (with_place feeder bytes after) more
