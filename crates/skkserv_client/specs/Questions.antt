-- What a client asks, and the bytes that it sends.
use Rattle.std.specs.Prelude.{ℕ, not, ◌&&◌, nat_le, Bool, List, ◌++◌, codes, length, encode_utf8_all}
use Rattle.std.specs.List.{list_all}
use Rattle.skkserv_proto.specs.Requests.{ends_reading, longest_reading}
use Rattle.skkserv_client.specs.declared.question.Ask.{Ask}
use Rattle.skkserv_client.specs.declared.question.Ask.TheVariants.{Look, Complete}

-- bytes can stand in a request: they are some, not too many, and none of them ends a reading
abbrev pub are_askable : List ℕ → Bool
are_askable bytes =
    nat_le 1 (length bytes)
    && (nat_le (length bytes) longest_reading && list_all (λ byte. not (ends_reading byte)) bytes)

-- the text that is asked of a server
abbrev pub text_asked : Ask → List ℕ
text_asked (Look reading) = reading
text_asked (Complete prefix) = prefix

-- the bytes of that text
abbrev pub bytes_asked : Ask → List ℕ
bytes_asked what = encode_utf8_all (text_asked what)

-- the command before it
abbrev pub command_of : Ask → List ℕ
command_of (Look reading) = codes "1"
command_of (Complete prefix) = codes "4"

-- the request: a command, the text, and the space that ends it
abbrev pub request_of : Ask → List ℕ
request_of what = command_of what ++ bytes_asked what ++ codes " "
