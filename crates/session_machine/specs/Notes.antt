-- A user's own notes: one is typed in a line of its own, which stands over the candidate that it is for.
use Rattle.std.specs.Prelude.{ℕ, ◌+◌, Bool, false, ◌&&◌, ◌==◌, not, nat_le, if◌then◌else◌, List, ◌∷◌}
use Rattle.skk_text.specs.Characters.{code}
use Rattle.skk_text.specs.Text.{byte_len}
use Rattle.skk_text.specs.declared.key.Key.{Key}
use Rattle.skk_text.specs.declared.key.Key.TheVariants.{Char}
use Rattle.skk_calls.specs.declared.answer.Answer.{Answer}
use Rattle.skk_calls.specs.declared.call.Call.{Call}
use Rattle.skk_calls.specs.declared.call.Call.TheVariants.{Annotate}
use Rattle.skk_calls.specs.Rows.{Cand, RowKey, word_limit}
use Rattle.candidate_state.specs.Picking.{Picking, annotated, is_single}
use Rattle.session_machine.specs.Answered.{says_annotated}
use Rattle.session_machine.specs.declared.frame.Conversion.{Conversion}

-- a key opens a note line: `^`, where a single candidate is shown, and it is not asked if that is to be purged
abbrev pub opens_note : Picking → Key → Bool
opens_note picking (Char c) = c == code "^" && (is_single picking.place && not picking.question)
opens_note picking key = false

-- a candidate with its word as it was found, and a text for its note: behind a `*`, by which it is the user's own
abbrev pub noted : Cand → List ℕ → Cand
noted found text = record { word = found.word; note = code "*" ∷ text }

-- the word of a candidate, the `*` and a text are not too long together
abbrev pub note_fits : Cand → List ℕ → Bool
note_fits found text = nat_le (byte_len found.word + 1 + byte_len text) word_limit

-- the call that gives a candidate that was found under a key a text for its note
abbrev pub annotation : ℕ → RowKey → Cand → List ℕ → Call
annotation book key found text = Annotate book key (noted found text)

-- candidates behind the answer to an annotation of the one that is picked: it has its new note, unless that was refused
abbrev pub after_annotation : Conversion → Cand → Answer → Conversion
after_annotation conversion cand answer =
    if says_annotated answer then record conversion { picking = annotated conversion.picking cand } else conversion
