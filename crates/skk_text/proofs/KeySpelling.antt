-- Each text is the spelling of one list of keys at most.
use Rattle.std.proofs.Common.{◌≡◌, ℕ, ◌+◌, Bool, true, false, ◌||◌, ◌==◌, if◌then◌else◌, nat_eq, List, [], ◌∷◌, ◌++◌}
use Rattle.std.proofs.Common.{◌∙◌, Option, Some, None, refl, sym, ap, codes, take, map, append_assoc}
use Rattle.std.specs.List.{list_any, starts_with, slice_get}
use Rattle.std.proofs.lemmas.Bool.{and_parts, eqb-true}
use Rattle.std.proofs.lemmas.Grind.{flat_map-append}
use Rattle.std.proofs.lemmas.List.{append-nil, append_cancel_left, take_more}
use Rattle.std.proofs.lemmas.Option.{slice_get_within, get_or_from_slice_get}
use Rattle.skk_text.specs.KeyText.{spell, spelled, is_keyboard_key, is_printable, AreKeys, BeginsBadName}
use Rattle.skk_text.specs.KeyText.{BeginsNotAscii}
use Rattle.skk_text.specs.declared.key.Key.{Key}
use Rattle.skk_text.specs.declared.key.Key.TheVariants.{Char, Cj, Cg, Bs, Ret, Tab, Undo}

-- one more key
pub spelled_more : (keys : List Key) (i : ℕ) (k : Key) → slice_get keys i ≡ Some k
    → spelled (take (i + 1) keys) ≡ spelled (take i keys) ++ spell k
spelled_more keys i k e =
    rw (
      take_more keys i k (slice_get_within keys i k e),
      get_or_from_slice_get keys i k k e,
      flat_map-append spell (take i keys) (k ∷ []),
    )
    (ap (λ bs. spelled (take i keys) ++ bs) (append-nil (spell k)))

-- the keys that have names, beside their names
abbrev pub named_keys : List (List ℕ × Key)
named_keys =
    (codes "<lt>", Char 60) ∷ (codes "<cj>", Cj) ∷ (codes "<cg>", Cg) ∷ (codes "<bs>", Bs) ∷ (codes "<ret>", Ret)
    ∷ (codes "<tab>", Tab) ∷ (codes "<undo>", Undo) ∷ []

-- the key of the first name that the bytes begin with
abbrev pub first_named : List ℕ → List (List ℕ × Key) → Option Key
first_named bytes [] = None
first_named bytes ((name, key) ∷ others) = if starts_with nat_eq bytes name then Some key else first_named bytes others

-- the key that the bytes begin with
abbrev pub first_key : List ℕ → Option Key
first_key [] = None
first_key (byte ∷ rest) =
    if byte == 60 then first_named (byte ∷ rest) named_keys else (if is_printable byte then Some (Char byte) else None)

-- a spelling begins with its key
first_key-char : (c : ℕ) (rest : List ℕ) (b : Bool) → (c == 60) ≡ b → is_printable c ≡ true
    → first_key ((if b then codes "<lt>" else c ∷ []) ++ rest) ≡ Some (Char c)
first_key-char c rest true e h = ap (λ x. Some (Char x)) (sym (eqb-true c 60 e))
first_key-char c rest false e h = rw (e, h)

first_key-spell : (k : Key) (rest : List ℕ) → is_keyboard_key k ≡ true → first_key (spell k ++ rest) ≡ Some k
first_key-spell (Char c) rest h = first_key-char c rest (c == 60) refl h
first_key-spell Cj rest h = refl
first_key-spell Cg rest h = refl
first_key-spell Bs rest h = refl
first_key-spell Ret rest h = refl
first_key-spell Tab rest h = refl
first_key-spell Undo rest h = refl

-- keys begin with the first of them
first_key-spelled : (k : Key) (keys : List Key) (tail : List ℕ) → is_keyboard_key k ≡ true
    → first_key (spelled (k ∷ keys) ++ tail) ≡ Some k
first_key-spelled k keys tail h =
    ap first_key (append_assoc (spell k) (spelled keys) tail) ∙ first_key-spell k (spelled keys ++ tail) h

-- a fault begins with no key
first_named-other : (b any : Bool) (k : Key) (found : Option Key) → (b || any) ≡ false → (any ≡ false → found ≡ None)
    → (if b then Some k else found) ≡ None
first_named-other true any k found h none = cc
first_named-other false any k found h none = none h

first_named-none : (bytes : List ℕ) (pairs : List (List ℕ × Key))
    → list_any (λ name. starts_with nat_eq bytes name) (map (λ pair. pair.0) pairs) ≡ false
    → first_named bytes pairs ≡ None
first_named-none bytes [] h = refl
first_named-none bytes ((name, key) ∷ others) h =
    first_named-other (starts_with nat_eq bytes name)
    (list_any (λ name. starts_with nat_eq bytes name) (map (λ pair. pair.0) others)) key (first_named bytes others) h
    (first_named-none bytes others)

pub first_key-bad_name : (bytes : List ℕ) → BeginsBadName bytes → first_key bytes ≡ None
first_key-bad_name bytes (rest, e, none) =
    ap first_key e ∙ (ap (λ bs. first_named bs named_keys) (sym e) ∙ first_named-none bytes named_keys none)

first_key-not_printable : (b : Bool) (byte : ℕ) (rest : List ℕ) → (byte == 60) ≡ b → is_printable byte ≡ false
    → (if b then first_named (byte ∷ rest) named_keys else (if is_printable byte then Some (Char byte) else None))
    ≡ None
first_key-not_printable true byte rest e other =
    let lt : byte ≡ 60 = eqb-true byte 60 e in let printable : is_printable byte ≡ true = ap is_printable lt in cc
first_key-not_printable false byte rest e other = rw other

pub first_key-not_ascii : (bytes : List ℕ) → BeginsNotAscii bytes → first_key bytes ≡ None
first_key-not_ascii bytes (byte, rest, e, other) =
    ap first_key e ∙ first_key-not_printable (byte == 60) byte rest refl other

-- so keys, and behind them what begins with no key, are told by the bytes
pub same_reading : (keys others : List Key) (rest tail : List ℕ) → AreKeys keys → AreKeys others → first_key rest ≡ None
    → first_key tail ≡ None → spelled keys ++ rest ≡ spelled others ++ tail → (keys ≡ others) × (rest ≡ tail)
same_reading [] [] rest tail ks os r t e = (refl, e)
same_reading [] (o ∷ others) rest tail ks os r t e =
    let some : first_key rest ≡ Some o =
    ap first_key e ∙ first_key-spelled o others tail (and_parts (is_keyboard_key o) _ os).0 in cc
same_reading (k ∷ keys) [] rest tail ks os r t e =
    let some : first_key tail ≡ Some k =
    ap first_key (sym e) ∙ first_key-spelled k keys rest (and_parts (is_keyboard_key k) _ ks).0 in cc
same_reading (k ∷ keys) (o ∷ others) rest tail ks os r t e =
    let first : Some k ≡ Some o = sym (first_key-spelled k keys rest (and_parts (is_keyboard_key k) _ ks).0)
    ∙ (ap first_key e ∙ first_key-spelled o others tail (and_parts (is_keyboard_key o) _ os).0) in
    let same : k ≡ o = cc in
    let behind : spelled keys ++ rest ≡ spelled others ++ tail =
    append_cancel_left (spell k) _ _ (sym (append_assoc (spell k) (spelled keys) rest) ∙ (e
    ∙ (append_assoc (spell o) (spelled others) tail ∙ ap (λ x. spell x ++ (spelled others ++ tail)) (sym same)))) in
    let more : (keys ≡ others) × (rest ≡ tail) = same_reading keys others rest tail
    (and_parts (is_keyboard_key k) _ ks).1 (and_parts (is_keyboard_key o) _ os).1 r t behind in
    (cc, more.1)

-- where nothing stands behind them, by their spelling
pub same_keys : (keys others : List Key) → AreKeys keys → AreKeys others → spelled keys ≡ spelled others → keys ≡ others
same_keys keys others ks os e =
    (same_reading keys others [] [] ks os refl refl
    (append-nil (spelled keys) ∙ (e ∙ sym (append-nil (spelled others))))).0
