-- Texts as they are printed: runs without an escape, and escapes between them.
use Rattle.std.proofs.Common.{◌≡◌, ◌<◌, ◌+◌, ◌∙◌, sym, ap, ℕ, true, false, List, [], ◌∷◌, ◌++◌, length}
use Rattle.std.proofs.Common.{take, drop, get_or, refl, subst, arith, length-append, length-take, inl, inr}
use lib.Utf8.{encode, encodes}
use Rattle.std.specs.List.{flat_map}
use Rattle.std.specs.Str.{chars, IsUtf8}
use Rattle.std.proofs.lemmas.Bool.{cases_Bool}
use Rattle.std.proofs.lemmas.List.{get_or-append-add, get_or-take}
use Rattle.std.proofs.lemmas.List.Concat.{flat_map-append}
use Rattle.std.proofs.lemmas.Str.{encodes-chars, encode_ascii}
use Rattle.skk_text.specs.TextLaws.{chars-split}
use Rattle.session_machine.specs.Display.{escaped, has_escape}

-- a character without an escape is printed as it is
pub plain : (c : ℕ) → has_escape c ≡ false → escaped c ≡ c ∷ []
plain c none = grind arith

-- one with an escape is ASCII
pub escape-small : (c : ℕ) → has_escape c ≡ true → c < 128
escape-small c e = grind arith

-- characters of whose bytes none has an escape are printed as they are
pub run-plain : (cs : List ℕ) → ((k : ℕ) → k < length (encodes cs) → has_escape (get_or (encodes cs) k 0) ≡ false)
    → flat_map escaped cs ≡ cs
run-plain [] none = refl
run-plain (c ∷ cs) none =
    let first : has_escape c ≡ false = elim (cases_Bool (has_escape c)) [
      | inl some ↦
          let alone : encode c ≡ c ∷ [] = encode_ascii c (escape-small c some) in
          let byte : get_or (encode c ++ encodes cs) 0 0 ≡ c = ap (λ bs. get_or (bs ++ encodes cs) 0 0) alone in
          ap has_escape (sym byte) ∙ none 0 (omega (arith, length-append (encode c) (encodes cs), ap length alone))
      | inr differ ↦ differ
    ] in
    ap (λ bs. bs ++ flat_map escaped cs) (plain c first)
    ∙ ap (λ bs. c ∷ bs) (run-plain cs (λ k within. ap has_escape (sym (get_or-append-add (encode c) (encodes cs) k 0))
    ∙ none (length (encode c) + k) (omega (arith, length-append (encode c) (encodes cs)))))

-- so is a text of whose bytes none has an escape
pub text-plain : (text : List ℕ) → IsUtf8 text → ((k : ℕ) → k < length text → has_escape (get_or text k 0) ≡ false)
    → flat_map escaped (chars text) ≡ chars text
text-plain text utf8 none =
    run-plain (chars text) (subst (λ (bs : List ℕ). (k : ℕ) → k < length bs
    → has_escape (get_or bs k 0) ≡ false) (sym (encodes-chars text utf8)) none)

-- a text is printed as the run before its first escape, that escape, and what is behind it
pub text-split : (text : List ℕ) (place : ℕ) → IsUtf8 text → place < length text
    → ((k : ℕ) → k < place → has_escape (get_or text k 0) ≡ false) → has_escape (get_or text place 0) ≡ true
    → flat_map escaped (chars text)
    ≡ chars (take place text) ++ (escaped (get_or text place 0) ++ flat_map escaped (chars (drop (place + 1) text)))
text-split text place utf8 within none ends =
    let byte = get_or text place 0 in
    let front = take place text in
    let behind = drop (place + 1) text in
    let parts = chars-split text place utf8 within (escape-small byte ends) in
    let shown : flat_map escaped (chars front) ≡ chars front =
    text-plain front parts.0 (λ k less. let before : k < place = omega (arith, less, length-take place text) in
    ap has_escape (get_or-take place text k 0 before) ∙ none k before) in
    ap (flat_map escaped) parts.1 ∙ flat_map-append escaped (chars front) (byte ∷ chars behind)
    ∙ ap (λ cs. cs ++ (escaped byte ++ flat_map escaped (chars behind))) shown
