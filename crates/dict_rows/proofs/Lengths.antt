-- How many bytes texts have that stand one after another.
use Rattle.std.proofs.Common.{◌≡◌, ◌∙◌, ◌<◌, ◌+◌, ◌-◌, ◌^◌, ℕ, List, [], ◌∷◌, ◌++◌, codes, length, min, take, get_or}
use Rattle.std.proofs.Common.{refl, sym, ap, arith}
use Rattle.std.specs.List.{flat_map}
use Rattle.std.proofs.lemmas.Grind.{flat_map-append}
use Rattle.std.proofs.lemmas.List.{append-nil, take_more}
use Rattle.skk_text.specs.Text.{byte_len}
use Rattle.skk_text.specs.TextLaws.{byte_len-append}
use Rattle.skk_calls.specs.Canonical.{with_slash, quoted, char_in_string}
use Rattle.dict_rows.specs.Lengths.{told_len}

-- what stands around words, in bytes
pub space : byte_len (0x20 ∷ []) ≡ 1
unfolding lib.Utf8.encode
space = refl

pub slash : byte_len (0x2F ∷ []) ≡ 1
unfolding lib.Utf8.encode
slash = refl

quote : byte_len (0x22 ∷ []) ≡ 1
unfolding lib.Utf8.encode
quote = refl

pub opening : byte_len (0x5B ∷ []) ≡ 1
unfolding lib.Utf8.encode
opening = refl

pub closing : byte_len (0x5D ∷ []) ≡ 1
unfolding lib.Utf8.encode
closing = refl

pub start : byte_len (0x20 ∷ 0x2F ∷ []) ≡ 2
unfolding lib.Utf8.encode
start = refl

pub concat : byte_len (codes "(concat ") ≡ 8
unfolding lib.Utf8.encode
concat = refl

pub ignored : byte_len (codes "(skk-ignore-dic-word") ≡ 20
unfolding lib.Utf8.encode
ignored = refl

pub bracket : byte_len (codes ")") ≡ 1
unfolding lib.Utf8.encode
bracket = refl

-- a text with its slash
pub slashed : (text : List ℕ) → byte_len (with_slash text) ≡ byte_len text + 1
slashed text = omega (arith, byte_len-append text (0x2F ∷ []), slash)

-- a text behind a space
pub spaced : (text : List ℕ) → byte_len (0x20 ∷ text) ≡ byte_len text + 1
spaced text = omega (arith, byte_len-append (0x20 ∷ []) text, space)

-- a string has two quotes
pub quotes : (text : List ℕ) → byte_len (quoted text) ≡ byte_len (flat_map char_in_string text) + 2
quotes text =
    let inner = flat_map char_in_string text in
    omega (arith, byte_len-append (0x22 ∷ inner) (0x22 ∷ []), byte_len-append (0x22 ∷ []) inner, quote)

-- two quotes and what is counted behind them
pub quotes_first : (text : List ℕ) → byte_len (codes "\"\"" ++ text) ≡ byte_len text + 2
quotes_first text = omega (arith, byte_len-append (0x22 ∷ []) (0x22 ∷ text), byte_len-append (0x22 ∷ []) text, quote)

-- one more piece
pub piece_more : {X : Type 0} (f : X → List ℕ) (xs : List X) (x : X)
    → byte_len (flat_map f (xs ++ x ∷ [])) ≡ byte_len (flat_map f xs) + byte_len (f x)
piece_more f xs x =
    ap byte_len (flat_map-append f xs (x ∷ []) ∙ ap (λ text. flat_map f xs ++ text) (append-nil (f x)))
    ∙ byte_len-append (flat_map f xs) (f x)

-- one more item of which a byte more is written than is counted first
pub item_more : {X : Type 0} (f : X → List ℕ) (xs : List X) (i : ℕ) (x : X) (text : List ℕ) (bytes item one sum new : ℕ)
    → i < length xs → x ≡ get_or xs i x → byte_len (f x) ≡ byte_len text + 1 → bytes ≡ told_len (flat_map f (take i xs))
    → item ≡ told_len text → one ≡ 1 → sum ≡ min (bytes + item) (2 ^ 64 - 1) → new ≡ min (sum + one) (2 ^ 64 - 1)
    → new ≡ told_len (flat_map f (take (i + 1) xs))
item_more f xs i x text bytes item one sum new low at longer so_far counted is_one first last =
    let next : byte_len (flat_map f (take (i + 1) xs)) ≡ byte_len (flat_map f (take i xs)) + byte_len (f x) =
    ap (λ ys. byte_len (flat_map f ys)) (take_more xs i x low ∙ ap (λ y. take i xs ++ y ∷ []) (sym at))
    ∙ piece_more f (take i xs) x in
    omega arith
