-- What a text in memory spells is of characters, and what a row is written as.
use Rattle.std.proofs.Common.{◌≡◌, ℕ, true, List, ◌∷◌, encode_utf8_all, ap, subst, ◌∙◌}
use Rattle.std.specs.Str.{all_scalars, IsUtf8}
use Rattle.std.proofs.lemmas.Str.{encodes_same}
use Rattle.skk_calls.specs.Canonical.{canonical}
use Rattle.skk_calls.specs.Rows.{Row}
use Rattle.learned_store.specs.Payloads.{part_byte}
use Rattle.learned_store.specs.Reading.{IsSpelled}

pub utf8_scalars : (text bytes : List ℕ) → IsUtf8 bytes → bytes ≡ encode_utf8_all text → all_scalars text ≡ true
utf8_scalars text bytes utf8 is =
    subst (λ (t : List ℕ). all_scalars t ≡ true) (encodes_same utf8.0 text (utf8.1.1 ∙ is)) utf8.1.0

-- a row is written so whatever its stamp is
pub spelled_stamped : (row stamped : Row) (stamp part : ℕ) (line bytes : List ℕ)
    → record row { stamp = stamp } ≡ stamped → bytes ≡ part ∷ line → part ≡ part_byte row.key.part
    → line ≡ encode_utf8_all (canonical row) → all_scalars (canonical row) ≡ true → IsSpelled stamped bytes
spelled_stamped row stamped stamp part line bytes is parts own spells characters =
    subst (λ (r : Row). IsSpelled r bytes) is (record {
      characters = characters;
      is = parts ∙ ap (λ (b : ℕ). b ∷ line) own ∙ ap (λ (l : List ℕ). part_byte row.key.part ∷ l) spells;
    })
