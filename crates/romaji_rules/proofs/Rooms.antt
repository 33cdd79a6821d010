-- The room that is left behind two pieces of output.
use Rattle.std.proofs.Common.{◌≡◌, ℕ, ◌+◌, ◌++◌, None, Some, List, arith, refl}
use Rattle.skk_text.specs.Text.{byte_len}
use Rattle.skk_text.specs.TextLaws.{byte_len-append}
use Rattle.romaji_rules.specs.declared.kana.Kana.{Kana}
use Rattle.romaji_rules.specs.declared.kana.Kana.TheVariants.{Hiragana, Katakana}
use Rattle.romaji_rules.specs.declared.out.Out.{Out}
use Rattle.romaji_rules.specs.Output.{appended}
use Rattle.romaji_rules.specs.Pieces.{out_in, room_behind}

-- two outputs in one kana, one behind the other
out_in-appended : (kana : Kana) (first second : Out)
    → out_in kana (appended first second) ≡ out_in kana first ++ out_in kana second
out_in-appended Hiragana first second = refl
out_in-appended Katakana first second = refl

-- where the first does not fit in, both do not
pub room_behind-lacks : (kana : Kana) (first second : Out) (room : ℕ) → room_behind room (out_in kana first) ≡ None
    → None ≡ room_behind room (out_in kana (appended first second))
room_behind-lacks kana first second room e =
    rw (out_in-appended kana first second)
    (grind (arith, e, byte_len-append (out_in kana first) (out_in kana second)))

-- where the first fits in, what is left is what is left behind the second
pub room_behind-fits : (kana : Kana) (first second : Out) (room left : ℕ)
    → room_behind room (out_in kana first) ≡ Some left
    → room_behind left (out_in kana second) ≡ room_behind room (out_in kana (appended first second))
room_behind-fits kana first second room left e =
    rw (out_in-appended kana first second)
    (grind (arith, e, byte_len-append (out_in kana first) (out_in kana second)))
