-- What comes out of the rules in one kana, and the pieces of it.
use Rattle.std.specs.Prelude.{ℕ, ◌-◌, nat_le, if◌then◌else◌, None, Some, Option, List}
use Rattle.skk_text.specs.Text.{byte_len}
use Rattle.romaji_rules.specs.declared.kana.Kana.{Kana}
use Rattle.romaji_rules.specs.declared.kana.Kana.TheVariants.{Hiragana, Katakana}
use Rattle.romaji_rules.specs.declared.out.Out.{Out}
use Rattle.romaji_rules.specs.declared.piece.Piece.{Piece}
use Rattle.romaji_rules.specs.declared.piece.Piece.TheVariants.{Nothing, Itself, Rule}
use Rattle.romaji_rules.specs.Output.{nothing, itself}

-- an output in one kana
abbrev pub out_in : Kana → Out → List ℕ
out_in Hiragana out = out.hira
out_in Katakana out = out.kata

-- the output that a piece is: nothing, a character as itself, or that of a rule
abbrev pub piece_out : Piece → Out
piece_out Nothing = nothing
piece_out (Itself c) = itself c
piece_out (Rule out) = out.now

-- how much of a room in bytes is left behind a text, where the text fits in
abbrev pub room_behind : ℕ → List ℕ → Option ℕ
room_behind room text = if nat_le (byte_len text) room then Some (room - byte_len text) else None
