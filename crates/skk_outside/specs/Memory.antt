-- What contracts see of the memory forms.
use Rattle.std.specs.Prelude.{ℕ, Bool, not, Option, List, [], ◌∷◌, drop, find, option_map, Contains}
use Rattle.std.specs.List.{flat_map}
use Rattle.std.specs.Str.{bytes_eq}
use Rattle.skk_text.specs.Counts.{one_more}
use Rattle.skk_text.specs.Pairs.{all_pairs}

-- the calls of a memory form that can fail: which of them are to fail, how many there were, and how many failed
pub record CallCount : Type 0 where
  pub fails : List ℕ
  pub calls : ℕ
  pub faults : ℕ

-- what a source in memory has left, piece by piece, and its calls so far
pub record SourceState : Type 0 where
  pub pieces : List (List ℕ)
  pub count : CallCount

-- what a sink in memory was written, and its calls so far
pub record SinkState : Type 0 where
  pub written : List ℕ
  pub count : CallCount

-- what a link in memory has left, piece by piece, what it was written, whether it was closed, and its calls so far
pub record LinkState : Type 0 where
  pub pieces : List (List ℕ)
  pub written : List ℕ
  pub closed : Bool
  pub count : CallCount

-- the links that are still to come to a listener in memory, those that were taken back, how many are out, the port that
-- was opened, where one was, and its calls so far
pub record ListenerState : Type 0 where
  pub coming : List LinkState
  pub over : List LinkState
  pub out : ℕ
  pub opened : Option ℕ
  pub count : CallCount

-- what a shelf in memory has, each file with its name and its bytes, and its calls so far
pub record ShelfState : Type 0 where
  pub files : List (List ℕ × List ℕ)
  pub count : CallCount

-- the count of calls where there was none yet, of which these are to fail
abbrev pub no_call_yet : List ℕ → CallCount
no_call_yet fails = record { fails = fails; calls = 0; faults = 0 }

-- the count of calls after one more, which went well
abbrev pub after_success : CallCount → CallCount
after_success count = record { fails = count.fails; calls = one_more count.calls; faults = count.faults }

-- the count of calls with one more fault
abbrev pub with_fault : CallCount → CallCount
with_fault count = record { fails = count.fails; calls = count.calls; faults = one_more count.faults }

-- the count of calls after one more, which failed
abbrev pub after_failure : CallCount → CallCount
after_failure count = with_fault (after_success count)

-- the next call is one of those that are to fail
abbrev pub FailsNext : CallCount → Type 0
FailsNext count = Contains count.fails (one_more count.calls)

-- the bytes of the pieces, one piece after another
abbrev pub bytes_of_pieces : List (List ℕ) → List ℕ
bytes_of_pieces pieces = flat_map (λ piece. piece) pieces

-- the first piece that has any byte, or no bytes where none has
abbrev pub first_nonempty_piece : List (List ℕ) → List ℕ
first_nonempty_piece [] = []
first_nonempty_piece ([] ∷ pieces) = first_nonempty_piece pieces
first_nonempty_piece ((byte ∷ bytes) ∷ pieces) = byte ∷ bytes

-- the pieces without so many bytes at the head of the first one
abbrev pub without_first_bytes : ℕ → List (List ℕ) → List (List ℕ)
without_first_bytes taken [] = []
without_first_bytes taken (piece ∷ pieces) = drop taken piece ∷ pieces

-- no name stands twice among named files
abbrev pub names_differ : List (List ℕ × List ℕ) → Bool
names_differ files = all_pairs (λ file other. not (bytes_eq file.0 other.0)) files

-- the bytes of the file of a name among named files, where there is one
abbrev pub file_named : List (List ℕ × List ℕ) → List ℕ → Option (List ℕ)
file_named files name = option_map (λ file. file.1) (find (λ file. bytes_eq file.0 name) files)
