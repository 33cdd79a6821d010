-- Texts that do not begin as a form does.
use Rattle.std.proofs.Common.{◌≡◌, drop, if◌then◌else◌, ℕ, None, Some, List, [], ◌∷◌, refl, arith}
use Rattle.skk_calls.specs.declared.part.Part.TheVariants.{Ari}
use Rattle.exact_readers.specs.Formats.{past}
use Rattle.dict_format.specs.Items.{opens_block}

-- a text that does not begin with a character begins with no word that does
pub past_none : (c : ℕ) (word text : List ℕ) → past (c ∷ []) text ≡ None → past (c ∷ word) text ≡ None
past_none c word [] e = refl
past_none c word (d ∷ text) e = grind arith

-- what stands behind the bracket that opens a block
pub behind_bracket : (text : List ℕ)
    → past (0x5B ∷ []) text ≡ (if opens_block Ari text then Some (drop 1 text) else None)
behind_bracket [] = refl
behind_bracket (c ∷ text) = refl
