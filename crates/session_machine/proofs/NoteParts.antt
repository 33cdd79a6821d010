-- A candidate with a note of the user's own is one.
use Rattle.std.proofs.Common.{◌≡◌, ◌+◌, ◌∙◌, ap, ℕ, true, List, ◌∷◌, [], arith, refl}
use lib.Utf8.{encode}
use Rattle.skk_text.specs.Text.{byte_len}
use Rattle.skk_text.specs.TextLaws.{byte_len-append}
use Rattle.skk_calls.specs.Rows.{Cand, is_cand, is_note}
use Rattle.session_machine.specs.Notes.{note_fits, noted}

-- the `*` is one byte
one-byte : byte_len (42 ∷ []) ≡ 1
unfolding encode
one-byte = refl

star-bytes : (text : List ℕ) → byte_len (42 ∷ text) ≡ 1 + byte_len text
star-bytes text = byte_len-append (42 ∷ []) text ∙ ap (λ n. n + byte_len text) one-byte

-- a candidate that was found, with a text behind the `*` for its note
pub noted_valid : (found : Cand) (text : List ℕ) → is_cand found ≡ true → is_note text ≡ true
    → note_fits found text ≡ true → is_cand (noted found text) ≡ true
noted_valid found text valid good fits = grind (arith, valid, good, fits, star-bytes text)
