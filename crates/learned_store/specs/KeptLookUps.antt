-- What is kept of look-ups.
use Rattle.std.specs.Prelude.{◌≡◌, ℕ, Bool, true, false, ◌&&◌, ◌==◌, Option, None, Some, List, find}
use Rattle.std.specs.Prelude.{String, string_bytes, encode_utf8_all}
use Rattle.std.specs.declared.alloc.Global.{Global}
use Rattle.std.specs.Map.{lookup}
use Rattle.std.specs.Option.{option_map}
use Rattle.std.specs.Str.{bytes_eq}
use Rattle.skk_calls.specs.declared.answer.Reply.TheVariants.{Found}
use Rattle.skk_calls.specs.declared.call.Call.{Call}
use Rattle.skk_calls.specs.declared.call.Call.TheVariants.{Lookup}
use Rattle.skk_calls.specs.declared.part.Part.{Part}
use Rattle.skk_calls.specs.Dictionary.{answer}
use Rattle.skk_calls.specs.Rows.{Cand, Row, same_text, same_part}
use Rattle.skk_calls.specs.States.{State}
use Rattle.learned_store.specs.declared.kept_answer.KeptAnswer.{KeptAnswer}

-- readings with what is kept of each, the one that was used last first
abbrev pub KeptReadings : Type 0
KeptReadings = List (String Global × List KeptAnswer)

-- two okurigana are the same, where there are any
abbrev pub same_okuri : Option (List ℕ) → Option (List ℕ) → Bool
same_okuri None None = true
same_okuri (Some okuri) (Some other) = same_text okuri other
same_okuri okuri other = false

-- an answer is that of a look-up of its reading, in this part, of this typist and with this okurigana
abbrev pub is_of : Part → ℕ → Option (List ℕ) → KeptAnswer → Bool
is_of part who okuri answer = same_part answer.part part && ((answer.who == who) && same_okuri answer.okuri okuri)

-- the candidates of the first answer that is that of a look-up
abbrev pub cands_in : Part → ℕ → Option (List ℕ) → List KeptAnswer → Option (List Cand)
cands_in part who okuri answers = option_map (λ (a : KeptAnswer). a.cands) (find (is_of part who okuri) answers)

-- the same of answers that may not be there
abbrev pub cands_among : Part → ℕ → Option (List ℕ) → Option (List KeptAnswer) → Option (List Cand)
cands_among part who okuri None = None
cands_among part who okuri (Some answers) = cands_in part who okuri answers

-- a string is this reading
abbrev pub is_reading : List ℕ → String Global → Bool
is_reading reading string = bytes_eq (encode_utf8_all reading) (string_bytes string)

-- the candidates that are kept of a call, which are none unless it is a look-up
abbrev pub kept_cands : KeptReadings → Call → Option (List Cand)
kept_cands kept (Lookup who key okuri) = cands_among key.part who okuri (lookup (is_reading key.reading) kept)
kept_cands kept call = None

-- a call is a look-up
abbrev pub is_look_up : Call → Bool
is_look_up (Lookup who key okuri) = true
is_look_up call = false

-- what is kept is what the dictionary of one thread answers
abbrev pub AreAnswers : List (List Row) → State → KeptReadings → Type 0
AreAnswers files state kept =
    (call : Call) (cands : List Cand) → kept_cands kept call ≡ Some cands → answer files state call ≡ Found cands

-- an answer that is kept under the bytes of a reading is that of a call, with these candidates
abbrev pub IsAnswerOf : List ℕ → KeptAnswer → Call → List Cand → Type 0
IsAnswerOf bytes kept (Lookup who key okuri) cands =
    (encode_utf8_all key.reading ≡ bytes) × (is_of key.part who okuri kept ≡ true) × (kept.cands ≡ cands)
IsAnswerOf bytes kept call cands = ⊥
