-- How bytes begin, where a command may stand.
use Rattle.std.specs.Prelude.{◌≡◌, ℕ, ◌+◌, ◌-◌, min, Some, List, [], ◌∷◌, length}
use Rattle.skk_text.specs.Counts.{last_count}
use Rattle.skkserv_proto.specs.declared.command.CommandByte.TheVariants as commands
use Rattle.skkserv_proto.specs.declared.front.Front.{Front}
use Rattle.skkserv_proto.specs.declared.front.Front.TheVariants.{Whole, Cut}
use Rattle.skkserv_proto.specs.declared.front.Rest.{Rest}
use Rattle.skkserv_proto.specs.declared.front.Rest.TheVariants as rests
use Rattle.skkserv_proto.specs.declared.front.Token.{Token}
use Rattle.skkserv_proto.specs.declared.front.Token.TheVariants as tokens
use Rattle.skkserv_proto.specs.declared.place.RequestPlace.{RequestPlace}
use Rattle.skkserv_proto.specs.declared.place.RequestPlace.TheVariants as places
use Rattle.skkserv_proto.specs.declared.request.Request.{Request}
use Rattle.skkserv_proto.specs.declared.request.Request.TheVariants.{End, Version, Host}
use Rattle.skkserv_proto.specs.Requests.{token, command_at, IsOpen, asking, bad_in}

-- what a token asks
abbrev pub asked_in : Token → List Request
asked_in tokens.LineEnd = []
asked_in tokens.Version = Version ∷ []
asked_in tokens.Host = Host ∷ []
asked_in (tokens.Reading wants text) = asking wants text.now ∷ []

-- bytes begin with no token, but so
abbrev pub IsRest : List ℕ → Rest → Type 0
IsRest bytes rests.Empty = bytes ≡ []
IsRest bytes (rests.Open wants text) =
    (byte : ℕ) × (command_at byte ≡ commands.Reading wants) × (bytes ≡ byte ∷ text.now) × IsOpen text.now
IsRest bytes rests.Ended = (byte : ℕ) × (behind : List ℕ) × (command_at byte ≡ commands.End) × (bytes ≡ byte ∷ behind)
IsRest bytes (rests.Bad left) = (at : ℕ) × (bad_in bytes ≡ Some at) × (at + left ≡ length bytes)

-- bytes begin so
abbrev pub IsFront : List ℕ → Front → Type 0
IsFront bytes (Whole token' behind) = token.step bytes ≡ Some (asked_in token', behind.now)
IsFront bytes (Cut rest) = IsRest bytes rest

-- what is asked behind the last token
abbrev pub asked_last : Rest → List Request
asked_last rests.Ended = End ∷ []
asked_last rest = []

-- the place where bytes end, so many with as many before them, whose last token stands before this rest
abbrev pub IsPlaceOf : Rest → ℕ → ℕ → RequestPlace → Type 0
IsPlaceOf rests.Empty before count place = place ≡ places.Command
IsPlaceOf (rests.Open wants text) before count place = place ≡ places.Reading wants text.now
IsPlaceOf rests.Ended before count place = place ≡ places.Ended
IsPlaceOf (rests.Bad left) before count place = place ≡ places.Bad (min (before + (count - left)) last_count)
