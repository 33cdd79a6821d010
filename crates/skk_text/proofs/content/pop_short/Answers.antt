use Rattle.std.proofs.Common.{◌≡◌, ◌<◌, ℕ, [], length, Option, Some, None, IfNone, IfSome, IsSome, arith, subst}
use Rattle.std.proofs.Common.{◌++◌, ◌∙◌, encode_utf8, sym, ap}
use Rattle.std.specs.Str.{IsUtf8, chars}
use Rattle.std.proofs.lemmas.List.{nil_from_length}
use Rattle.std.proofs.lemmas.Str.{chars-nil}
use Rattle.arrayvec.specs.ArrayString.{ArrayString}
use Rattle.skk_text.specs.Text.{without_last}
use Rattle.skk_text.proofs.Characters.{take-chars_last}
use Rattle.skk_text.proofs.content.pop_short.Goals as goal

-- a short text whose last character was taken off, where it had one
chars-popped : (old new : ArrayString) (popped : Option ℕ) → IsUtf8 old.bytes → IsUtf8 new.bytes
    → IfSome popped (λ c. old.bytes ≡ new.bytes ++ encode_utf8 c) → IfNone popped (new ≡ old)
    → (0 < length old.bytes → IsSome popped) → chars new.bytes ≡ without_last (chars old.bytes)
chars-popped old new (Some c) old_utf8 new_utf8 split same some =
    take-chars_last old.bytes new.bytes c old_utf8 new_utf8 split
chars-popped old new None old_utf8 new_utf8 split same some =
    let empty : old.bytes ≡ [] = nil_from_length old.bytes (grind (arith, some)) in
    ap (λ s. chars s.bytes) same
    ∙ ap chars empty ∙ chars-nil
    ∙ sym (ap (λ bytes. without_last (chars bytes)) empty ∙ ap without_last chars-nil)

pub returns-clause-last : goal.returns-clause-last
returns-clause-last c utf8 =
    chars-popped c.args.text.now c.pop.new.self c.pop.result utf8
    (subst IsUtf8 c.as_str-left.ensures.value c.as_str-left.utf8) c.pop.ensures.bytes c.pop.ensures.empty
    c.pop.ensures.variant.1
