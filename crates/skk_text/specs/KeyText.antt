-- Key text: the one spelling of each key, and what is no spelling.
use Rattle.std.specs.Prelude.{◌≡◌, ℕ, Bool, true, false, ◌&&◌, ◌==◌, nat_eq, nat_le, if◌then◌else◌, List, [], ◌∷◌, ◌++◌}
use Rattle.std.specs.Prelude.{codes, length}
use Rattle.std.specs.List.{flat_map, list_all, list_any, starts_with}
use Rattle.skk_text.specs.declared.key.Key.{Key}
use Rattle.skk_text.specs.declared.key.Key.TheVariants.{Char, Cj, Cg, Bs, Ret, Tab, Undo}

-- the spelling of a key: a character is spelled by itself but for `<` (60), and each other key by its name
abbrev pub spell : Key → List ℕ
spell (Char c) = if c == 60 then codes "<lt>" else c ∷ []
spell Cj = codes "<cj>"
spell Cg = codes "<cg>"
spell Bs = codes "<bs>"
spell Ret = codes "<ret>"
spell Tab = codes "<tab>"
spell Undo = codes "<undo>"

-- the spellings of the keys, one after another
abbrev pub spelled : List Key → List ℕ
spelled keys = flat_map spell keys

-- whether a byte may be a character key: it is from the space to `~`
abbrev pub is_printable : ℕ → Bool
is_printable c = nat_le 0x20 c && nat_le c 0x7E

-- whether a key is on the keyboard: its character, if it has one, is from the space to `~`
abbrev pub is_keyboard_key : Key → Bool
is_keyboard_key (Char c) = is_printable c
is_keyboard_key Cj = true
is_keyboard_key Cg = true
is_keyboard_key Bs = true
is_keyboard_key Ret = true
is_keyboard_key Tab = true
is_keyboard_key Undo = true

-- each key of the list is on the keyboard
abbrev pub AreKeys : List Key → Type 0
AreKeys keys = list_all is_keyboard_key keys ≡ true

-- the seven names that spell a key in key text, each between `<` and `>`
abbrev pub names : List (List ℕ)
names = codes "<lt>" ∷ codes "<cj>" ∷ codes "<cg>" ∷ codes "<bs>" ∷ codes "<ret>" ∷ codes "<tab>" ∷ codes "<undo>" ∷ []

-- the bytes begin with a `<` (60) that begins none of the seven names
abbrev pub BeginsBadName : List ℕ → Type 0
BeginsBadName bytes =
    (rest : List ℕ) × (bytes ≡ 60 ∷ rest) × (list_any (λ name. starts_with nat_eq bytes name) names ≡ false)

-- the bytes begin with a byte that is no character key
abbrev pub BeginsNotAscii : List ℕ → Type 0
BeginsNotAscii bytes = (byte : ℕ) × (rest : List ℕ) × (bytes ≡ byte ∷ rest) × (is_printable byte ≡ false)

-- the bytes up to a place are the spelling of keys, and those from there on begin with a fault
pub record HasFault (BeginsFault : List ℕ → Type 0) (bytes : List ℕ) (at : ℕ) : Type 0 where
  pub keys : List Key
  pub rest : List ℕ
  pub are_keys : AreKeys keys
  pub spelling : bytes ≡ spelled keys ++ rest
  pub place : at ≡ length (spelled keys)
  pub fault : BeginsFault rest

-- the bytes are the spelling of keys up to a place, at which a `<` begins none of the seven names
abbrev pub HasBadName : List ℕ → ℕ → Type 0
HasBadName bytes at = HasFault BeginsBadName bytes at

-- the bytes are the spelling of keys up to a place, at which a byte stands that is no character key
abbrev pub HasNotAscii : List ℕ → ℕ → Type 0
HasNotAscii bytes at = HasFault BeginsNotAscii bytes at
