-- The plain state: what a key does where no reading is open.
use Rattle.std.specs.Prelude.{ℕ, ◌&&◌, ◌==◌, nat_le, if◌then◌else◌, None, Some, List, [], ◌∷◌, ◌++◌}
use Rattle.std.specs.Char.{to_ascii_lowercase}
use Rattle.skk_text.specs.Kana.{wide}
use Rattle.skk_text.specs.Characters.{code}
use Rattle.skk_text.specs.Modes.{is_kana, other_kana}
use Rattle.skk_text.specs.Text.{without_last}
use Rattle.skk_text.specs.declared.key.Key.{Key}
use Rattle.skk_text.specs.declared.key.Key.TheVariants.{Char, Cj, Cg, Bs, Ret, Tab, Undo}
use Rattle.skk_text.specs.declared.mode.Mode.{Mode}
use Rattle.skk_text.specs.declared.mode.Mode.TheVariants.{Hira, Kata, Ascii, Wide}
use Rattle.romaji_rules.specs.declared.kana.Kana.{Kana}
use Rattle.romaji_rules.specs.declared.kana.Kana.TheVariants.{Hiragana, Katakana}
use Rattle.romaji_rules.specs.declared.out.Out.{Out}
use Rattle.romaji_rules.specs.declared.rule.Rule.{Rule}
use Rattle.romaji_rules.specs.Pieces.{out_in}
use Rattle.romaji_rules.specs.Typed.{fed, flushed, extends_pending}
use Rattle.kana_input.specs.declared.plain.Plain.{Plain}
use Rattle.kana_input.specs.declared.plain.PlainDo.{PlainDo}
use Rattle.kana_input.specs.declared.plain.PlainThen.{PlainThen}
use Rattle.kana_input.specs.declared.plain.PlainThen.TheVariants.{Stay, DeleteLast, Newline, OpenReading, OpenAbbrev}
use Rattle.kana_input.specs.declared.plain.PlainThen.TheVariants.{Cancel, AskUndo}

-- a key's step: the plain state after it, and what it does to the frame
pub record PlainStep : Type 0 where
  pub plain : Plain
  pub done : PlainDo

-- the plain state of a mode with nothing pending
abbrev pub in_mode : Mode → Plain
in_mode mode = record { mode = mode; pending = [] }

-- the plain state of a new frame: hiragana mode, with nothing pending
abbrev pub new_plain : Plain
new_plain = in_mode Hira

-- a key's effect on the frame where nothing is inserted
abbrev pub no_insertion : PlainThen → PlainDo
no_insertion effect = record { insert = []; then = effect }

-- the kana of an output that a mode inserts: katakana in katakana mode, and hiragana in every other
abbrev pub kana_in : Mode → Kana
kana_in Hira = Hiragana
kana_in Kata = Katakana
kana_in Ascii = Hiragana
kana_in Wide = Hiragana

-- the form of an output that a mode inserts
abbrev pub in_kana : Mode → Out → List ℕ
in_kana mode out = out_in (kana_in mode) out

-- a key's effect on the frame where an output is inserted
abbrev pub insertion : Mode → Out → PlainDo
insertion mode out = record { insert = in_kana mode out; then = Stay }

-- the step of a character that the rules read: their output is inserted
abbrev pub feed_step : List Rule → Plain → ℕ → PlainStep
feed_step rules plain c =
    let step = fed rules plain.pending c in
    record { plain = record { mode = plain.mode; pending = step.pending }; done = insertion plain.mode step.out }

-- the step that gives out what is pending, with a text behind it, goes to a mode and does more to the frame
abbrev pub flush_step : List Rule → Plain → Mode → List ℕ → PlainThen → PlainStep
flush_step rules plain mode behind effect =
    record {
      plain = in_mode mode;
      done = record { insert = in_kana plain.mode (flushed rules plain.pending) ++ behind; then = effect };
    }

-- the step of a character in a kana mode, by the first case that fits: it goes on with what is pending; it is the
-- space, `q`, `l`, `L`, `Q`, `/` or another upper-case letter; or it is read by the rules
abbrev pub kana_char_step : List Rule → Plain → ℕ → PlainStep
kana_char_step rules plain c =
    if extends_pending rules plain.pending c then feed_step rules plain c
    else if c == code " " then flush_step rules plain plain.mode (code " " ∷ []) Stay
    else if c == code "q" then flush_step rules plain (other_kana plain.mode) [] Stay
    else if c == code "l" then flush_step rules plain Ascii [] Stay
    else if c == code "L" then flush_step rules plain Wide [] Stay
    else if c == code "Q" then flush_step rules plain plain.mode [] (OpenReading None)
    else if c == code "/" then flush_step rules plain plain.mode [] OpenAbbrev
    else if nat_le (code "A") c && nat_le c (code "Z")
    then flush_step rules plain plain.mode [] (OpenReading (Some (to_ascii_lowercase c)))
    else feed_step rules plain c

-- the step of `C-g` in a kana mode: pending letters are dropped, and where there are none a registration is cancelled
abbrev pub cancel_step : Mode → List ℕ → PlainStep
cancel_step mode [] = record { plain = in_mode mode; done = no_insertion Cancel }
cancel_step mode (b ∷ pending) = record { plain = in_mode mode; done = no_insertion Stay }

-- the step of backspace in a kana mode: it takes the last pending letter, and where there is none the text's last
-- character
abbrev pub delete_step : Mode → List ℕ → PlainStep
delete_step mode [] = record { plain = in_mode mode; done = no_insertion DeleteLast }
delete_step mode (b ∷ pending) =
    record { plain = record { mode = mode; pending = without_last (b ∷ pending) }; done = no_insertion Stay }

-- the step of a key in a kana mode
abbrev pub kana_step : List Rule → Plain → Key → PlainStep
kana_step rules plain (Char c) = kana_char_step rules plain c
kana_step rules plain Cj = flush_step rules plain plain.mode [] Stay
kana_step rules plain Cg = cancel_step plain.mode plain.pending
kana_step rules plain Bs = delete_step plain.mode plain.pending
kana_step rules plain Ret = flush_step rules plain plain.mode [] Newline
kana_step rules plain Tab = record { plain = plain; done = no_insertion Stay }
kana_step rules plain Undo = record { plain = plain; done = no_insertion AskUndo }

-- the form of a character that a mode inserts without the rules: its wide form in wide ASCII, and itself in every other
abbrev pub char_in_mode : Mode → ℕ → ℕ
char_in_mode Hira c = c
char_in_mode Kata c = c
char_in_mode Ascii c = c
char_in_mode Wide c = wide c

-- the step of a key in one of the two ASCII modes
abbrev pub ascii_step : List Rule → Plain → Key → PlainStep
ascii_step rules plain (Char c) =
    record { plain = plain; done = record { insert = char_in_mode plain.mode c ∷ []; then = Stay } }
ascii_step rules plain Cj = record { plain = record { mode = Hira; pending = plain.pending }; done = no_insertion Stay }
ascii_step rules plain Cg = record { plain = plain; done = no_insertion Stay }
ascii_step rules plain Bs = record { plain = plain; done = no_insertion DeleteLast }
ascii_step rules plain Ret = flush_step rules plain plain.mode [] Newline
ascii_step rules plain Tab = record { plain = plain; done = no_insertion Stay }
ascii_step rules plain Undo = record { plain = plain; done = no_insertion AskUndo }

-- the step of a key in each mode
abbrev pub plain_step : List Rule → Plain → Key → PlainStep
plain_step rules plain key = if is_kana plain.mode then kana_step rules plain key else ascii_step rules plain key
