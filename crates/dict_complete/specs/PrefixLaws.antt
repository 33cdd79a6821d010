-- Texts that begin with a prefix, in the order of their bytes.
use Rattle.std.proofs.Common.{◌≡◌, ℕ, true, false, not, nat_eq, List, [], ◌∷◌, ◌++◌, drop, length, refl, sym}
use Rattle.std.proofs.Common.{ap, ◌∙◌, append_assoc, arith, encode_utf8, encode_utf8_all, length-append}
use Rattle.std.specs.Cmp.{both_ways as same_tests}
use Rattle.std.specs.List.{starts_with}
use Rattle.std.proofs.lemmas.Bool.{and_parts, both_ways, not-true}
use Rattle.std.proofs.lemmas.Bool.Decides.{Decides-eqb}
use Rattle.std.proofs.lemmas.List.{append-nil}
use Rattle.std.proofs.lemmas.Slice.Eq.{starts_is}
use Rattle.std.proofs.lemmas.Str.{cons_from_encodes, encodes-append, len_utf8_bounds, length-encode}
use Rattle.ordered_lists.specs.KeyOrders.{bytes_less}
use Rattle.ordered_lists.specs.OrderLaws.{not_itself}
use Rattle.ordered_lists.specs.PrefixLaws.{between, longer_less}
use Rattle.skk_calls.specs.Completions.{goes_on_from}
use Rattle.skk_calls.specs.KeyLaws.{same_equal, same_itself, same_other}
use Rattle.skk_calls.specs.OrderLaws.{text_order}
use Rattle.skk_calls.specs.Orders.{text_less}
use Rattle.skk_calls.specs.Rows.{same_text}

-- Beginnings

-- a text that begins with a prefix is the prefix and a rest
pub begins_parts : (text prefix : List ℕ) → starts_with nat_eq text prefix ≡ true
    → text ≡ prefix ++ drop (length prefix) text
begins_parts text prefix e = (starts_is Decides-eqb text prefix (starts_with nat_eq text prefix) refl).0 e

-- and that begins with the prefix
pub begins_from : (text prefix rest : List ℕ) → text ≡ prefix ++ rest → starts_with nat_eq text prefix ≡ true
begins_from text prefix rest e =
    (starts_is Decides-eqb text prefix (starts_with nat_eq text prefix) refl).1 rest e

-- a text whose bytes begin with those of a prefix is the prefix and a rest
pub encoded_parts : (text prefix rest : List ℕ) → encode_utf8_all text ≡ encode_utf8_all prefix ++ rest
    → (more : List ℕ) × (text ≡ prefix ++ more)
encoded_parts text [] rest e = (text, refl)
encoded_parts text (c ∷ prefix) rest e =
    let first =
    cons_from_encodes text (encode_utf8_all prefix ++ rest) c
    (e ∙ append_assoc (encode_utf8 c) (encode_utf8_all prefix) rest) in
    let more = encoded_parts first.0 prefix rest first.2 in
    (more.0, first.1 ∙ ap (λ cs. c ∷ cs) more.1)

-- so a text begins with a prefix where its bytes do
pub begins_encoded : (text prefix : List ℕ)
    → starts_with nat_eq (encode_utf8_all text) (encode_utf8_all prefix) ≡ starts_with nat_eq text prefix
begins_encoded text prefix =
    same_tests (starts_with nat_eq (encode_utf8_all text) (encode_utf8_all prefix)) (starts_with nat_eq text prefix)
    (λ e.
    let parts =
    encoded_parts text prefix (drop (length (encode_utf8_all prefix)) (encode_utf8_all text))
    (begins_parts (encode_utf8_all text) (encode_utf8_all prefix) e) in
    begins_from text prefix parts.0 parts.1)
    (λ e.
    let rest = drop (length prefix) text in
    begins_from (encode_utf8_all text) (encode_utf8_all prefix) (encode_utf8_all rest)
    (ap encode_utf8_all (begins_parts text prefix e) ∙ encodes-append prefix rest))

-- Order

-- a text and a character more is greater
longer : (prefix : List ℕ) (c : ℕ) (rest : List ℕ) → text_less prefix (prefix ++ c ∷ rest) ≡ true
longer prefix c rest = by (encode_utf8_all (c ∷ rest)) refl
  where
    by : (bytes : List ℕ) → encode_utf8_all (c ∷ rest) ≡ bytes → text_less prefix (prefix ++ c ∷ rest) ≡ true
    by [] e = absurd (omega (
      arith,
      ap length e,
      length-append (encode_utf8 c) (encode_utf8_all rest),
      length-encode c,
      (len_utf8_bounds c).0,
    ))
    by (b ∷ bytes) e = rw (encodes-append prefix (c ∷ rest), e) (longer_less (encode_utf8_all prefix) b bytes)

-- what goes on from a prefix is greater
pub goes_on_greater : (prefix text : List ℕ) → goes_on_from prefix text ≡ true → text_less prefix text ≡ true
goes_on_greater prefix text e =
    let parts = and_parts (starts_with nat_eq text prefix) (not (same_text text prefix)) e in
    by (drop (length prefix) text) (begins_parts text prefix parts.0) (not-true (same_text text prefix) parts.1)
  where
    by : (rest : List ℕ) → text ≡ prefix ++ rest → same_text text prefix ≡ false → text_less prefix text ≡ true
    by [] is other =
        absurd (both_ways (same_text text prefix) other
        (ap (λ t. same_text t prefix) (is ∙ append-nil prefix) ∙ same_itself prefix))
    by (c ∷ rest) is other = ap (text_less prefix) is ∙ longer prefix c rest

-- a text that is less than another is not that
pub less_other : (text other : List ℕ) → text_less text other ≡ true → same_text text other ≡ false
less_other text other less = grind (arith, same_equal text other, not_itself text_less text_order other)

-- what is greater and begins with a prefix goes on from it
pub greater_goes_on : (prefix text : List ℕ) → text_less prefix text ≡ true → starts_with nat_eq text prefix ≡ true
    → goes_on_from prefix text ≡ true
greater_goes_on prefix text less begins = grind (arith, same_other prefix text, less_other prefix text)

-- between a prefix and what goes on from it stands only what goes on from it
pub goes_on_between : (prefix text other : List ℕ) → text_less prefix text ≡ true → text_less text other ≡ true
    → goes_on_from prefix other ≡ true → goes_on_from prefix text ≡ true
goes_on_between prefix text other low high e =
    let begins =
    begins_parts other prefix (and_parts (starts_with nat_eq other prefix) (not (same_text other prefix)) e).0 in
    let rest = drop (length prefix) other in
    let mid =
    between (encode_utf8_all prefix) (encode_utf8_all text) (encode_utf8_all rest) low
    (ap (bytes_less (encode_utf8_all text)) (sym (ap encode_utf8_all begins ∙ encodes-append prefix rest)) ∙ high) in
    greater_goes_on prefix text low (by mid.0 mid.1)
  where
    by : (rest : List ℕ) → encode_utf8_all text ≡ encode_utf8_all prefix ++ rest → starts_with nat_eq text prefix ≡ true
    by rest is = let parts = encoded_parts text prefix rest is in begins_from text prefix parts.0 parts.1
