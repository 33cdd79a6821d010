-- Why a line spells no row: the first reason that fits it.
use Rattle.std.specs.Prelude.{◌≡◌, ◌<◌, ℕ, Bool, true, false, ◌||◌, ◌==◌, ◌&&◌, not, nat_lt, nat_le, length, List, []}
use Rattle.std.specs.Prelude.{◌∷◌, ◌++◌}
use Rattle.std.specs.List.{list_all, list_any, AllByRecursion}
use Rattle.skk_text.specs.Text.{byte_len, last_chars}
use Rattle.skk_calls.specs.declared.part.Part.{Part}
use Rattle.skk_calls.specs.declared.part.Part.TheVariants.{Nasi, Ari}
use Rattle.skk_calls.specs.Canonical.{line_limit}
use Rattle.skk_calls.specs.Rows.{begins_well, is_letter, reading_limit}
use Rattle.dict_format.specs.declared.reason.LineReason.{LineReason}
use Rattle.dict_format.specs.declared.reason.LineReason.TheVariants.{LongLine, NoSpace, BadReading, LongReading}
use Rattle.dict_format.specs.declared.reason.LineReason.TheVariants.{OkuriKey, NoSlash, Block, LongCandidate, Empty}
use Rattle.dict_format.specs.declared.reason.LineReason.TheVariants.{Twice}
use Rattle.dict_format.specs.Items.{Item, SpellsItems}
use Rattle.exact_readers.specs.Lacking.{lacks}
use Rattle.dict_format.specs.Lines.{HasBody, HasTexts}
use Rattle.dict_format.specs.RowOfItems.{item_fits, row_of_items, says_something}

-- a character that no reading holds: one below the space, or DEL
abbrev pub is_control : ℕ → Bool
is_control c = nat_lt c 0x20 || c == 0x7F

-- a reading that is empty, begins with a semicolon, or holds a control character
abbrev pub is_bad_reading : List ℕ → Bool
is_bad_reading reading = not (begins_well reading) || list_any is_control reading

-- a reading behind whose first character no letter stands at its end, as the okuri-ari part asks
abbrev pub lacks_letter : Part → List ℕ → Bool
lacks_letter Nasi reading = false
lacks_letter Ari reading = not (nat_le 2 (length reading) && is_letter (last_chars 1 reading))

-- the last character is a slash
abbrev pub ends_in_slash : List ℕ → Bool
ends_in_slash [] = false
ends_in_slash (c ∷ []) = c == 0x2F
ends_in_slash (c ∷ d ∷ text) = ends_in_slash (d ∷ text)

-- two characters or more, the first and the last of which are slashes
abbrev pub is_slashed : List ℕ → Bool
is_slashed [] = false
is_slashed (c ∷ body) = c == 0x2F && ends_in_slash body

-- what the reading of a line is like
abbrev pub ReadingIs : (List ℕ → Bool) → List ℕ → Type 0
ReadingIs test line = (reading : List ℕ) × (body : List ℕ) × HasBody line reading body × (test reading ≡ true)

-- what a reason says of a line of a part by itself
abbrev pub Fits : Part → List ℕ → LineReason → Type 0
Fits part line LongLine = line_limit < byte_len line
Fits part line NoSpace = lacks 0x20 line ≡ true
Fits part line BadReading = ReadingIs is_bad_reading line
Fits part line LongReading = ReadingIs (λ reading. nat_lt (reading_limit part) (byte_len reading)) line
Fits part line OkuriKey = ReadingIs (lacks_letter part) line
Fits part line NoSlash = (reading : List ℕ) × (body : List ℕ) × HasBody line reading body × (is_slashed body ≡ false)
Fits part line Block =
    (reading : List ℕ) × (body : List ℕ) × (texts : List (List ℕ)) × (part ≡ Ari) × HasBody line reading body
    × HasTexts body texts × ((items : List Item) → SpellsItems part texts items → ⊥)
Fits part line LongCandidate =
    (reading : List ℕ) × (body : List ℕ) × (texts : List (List ℕ)) × (items : List Item) × HasBody line reading body
    × HasTexts body texts × SpellsItems part texts items × (list_all item_fits items ≡ false)
Fits part line Empty =
    (reading : List ℕ) × (body : List ℕ) × (texts : List (List ℕ)) × (items : List Item) × HasBody line reading body
    × HasTexts body texts
    × SpellsItems part texts items
    × (says_something (row_of_items (record { part = part; reading = reading }) items) ≡ false)
Fits part line Twice = ⊥

-- the reasons in the order in which they are tried
abbrev pub reasons : List LineReason
reasons = LongLine ∷ NoSpace ∷ BadReading ∷ LongReading ∷ OkuriKey ∷ NoSlash ∷ Block ∷ LongCandidate ∷ Empty ∷ []

-- the first reason that fits a line: it does, and none does that is tried before it
pub record IsReason (part : Part) (line : List ℕ) (reason : LineReason) : Type 0 where
  pub earlier : List LineReason
  pub later : List LineReason
  pub order : reasons ≡ earlier ++ reason ∷ later
  pub fits : Fits part line reason
  pub none_before : AllByRecursion (λ other. Fits part line other → ⊥) earlier
