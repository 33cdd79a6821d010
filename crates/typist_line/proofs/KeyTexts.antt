-- A text opens a connection in one way, and says one key line.
use Rattle.std.proofs.Common.{◌≡◌, ◌⊎◌, ℕ, List, ◌∷◌, ◌++◌, drop, sym, ap, ◌∙◌, arith}
use Rattle.std.specs.Fmt.{decimal}
use Rattle.std.specs.Int.{IsInRange}
use Rattle.skk_text.specs.Characters.{code}
use Rattle.skk_text.specs.KeyText.{spelled, AreKeys}
use Rattle.skk_text.specs.declared.key.Key.{Key}
use Rattle.key_scripts.specs.Script.{IsTypist}
use Rattle.typist_line.specs.TypedLines.{Opening, Opens, KeyLine, keys, bad, SaysKeys}

-- a text is the spelling of one list of keys at most
abbrev pub OneListOfKeys : Type 0
OneListOfKeys = (ks os : List Key) → AreKeys ks → AreKeys os → spelled ks ≡ spelled os → ks ≡ os

-- and of none where it has a fault
abbrev pub NoKeys : Type 0
NoKeys = (text : List ℕ) (ks : List Key) (at : ℕ) → AreKeys ks → spelled ks ≡ text → ¬ SaysKeys text (bad at)

-- which it has at one place
abbrev pub OnePlace : Type 0
OnePlace = (text : List ℕ) (at other : ℕ) → SaysKeys text (bad at) → SaysKeys text (bad other) → at ≡ other

-- so a text says one line
abbrev pub OneLine : Type 0
OneLine = (text : List ℕ) (line other : KeyLine) → SaysKeys text line → SaysKeys text other → line ≡ other

pub one-line : OneListOfKeys → NoKeys → OnePlace → OneLine
one-line once no_keys one_place text (keys ks) (keys os) says said =
    ap keys (once ks os says.0 said.0 (says.1 ∙ sym said.1))
one-line once no_keys one_place text (keys ks) (bad at) says said = absurd (no_keys text ks at says.0 says.1 said)
one-line once no_keys one_place text (bad at) (keys ks) says said = absurd (no_keys text ks at said.0 said.1 says)
one-line once no_keys one_place text (bad at) (bad other) says said = ap bad (one_place text at other says said)

-- a text writes one typist and one book at most
abbrev pub OneTypistAndBook : Type 0
OneTypistAndBook =
    (between typist book other other_book : ℕ) → ¬ IsInRange 48 57 between → IsTypist typist
    → (book ≡ 0) ⊎ (book ≡ typist) → IsTypist other → (other_book ≡ 0) ⊎ (other_book ≡ other)
    → decimal typist ++ between ∷ decimal book ≡ decimal other ++ between ∷ decimal other_book
    → (typist ≡ other) × (book ≡ other_book)

-- so it opens a connection in one way
abbrev pub OneOpening : Type 0
OneOpening = (text : List ℕ) (opening other : Opening) → Opens text opening → Opens text other → opening ≡ other

-- since a space is no digit
space_no_digit : ¬ IsInRange 48 57 (code " ")
space_no_digit digit = omega (arith, digit)

pub one-opening : OneTypistAndBook → OneOpening
one-opening one text opening other opens opened =
    let same = one (code " ") opening.typist opening.book other.typist other.book space_no_digit opens.0 opens.1
    opened.0 opened.1 (ap (drop 1) (sym opens.2 ∙ opened.2)) in
    λ i. record { typist = same.0 i; book = same.1 i }
