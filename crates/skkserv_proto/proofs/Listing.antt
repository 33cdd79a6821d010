-- What is listed of candidates and of readings.
use Rattle.std.proofs.Common.{◌≡◌, ◌∙◌, ◌++◌, ℕ, List, [], ◌∷◌, ap, refl, append_assoc, arith}
use Rattle.std.proofs.Common.{codes, encode_utf8_all, false, map}
use Rattle.std.specs.List.{flat_map, filter}
use Rattle.std.specs.Str.{chars}
use Rattle.std.proofs.lemmas.Grind.{common_steps}
use Rattle.std.proofs.lemmas.Str.{encodes-append}
use Rattle.skk_text.specs.Characters.{code}
use Rattle.skk_text.specs.Lists.{is_empty}
use Rattle.skk_calls.specs.Canonical.{item, with_slash}
use Rattle.skk_calls.specs.Rows.{Cand}
use Rattle.exact_readers.specs.Lacking.{lacks}
use Rattle.skkserv_proto.specs.Replies.{found_or_not, item_bytes, reading_bytes}

-- readings with a slash are left out
pub listed-readings : (readings : List (List ℕ))
    → flat_map reading_bytes readings ≡ flat_map item_bytes (filter (lacks (code "/")) readings)
listed-readings [] = refl
listed-readings (reading ∷ readings) = grind (arith, listed-readings readings)

-- what begins a list is written as it is
pub listed-begin : encode_utf8_all (chars (codes "1/")) ≡ codes "1/"
unfolding lib.Utf8.encode chars
listed-begin = refl

-- the bytes of a list with one item more and the slash that ends it
pub listed-more : (text shown : List ℕ)
    → encode_utf8_all ((text ++ shown) ++ 0x2F ∷ []) ≡ encode_utf8_all text ++ item_bytes shown
unfolding lib.Utf8.encode
listed-more text shown =
    encodes-append (text ++ shown) (0x2F ∷ [])
    ∙ ap (λ ys. ys ++ encode_utf8_all (0x2F ∷ [])) (encodes-append text shown)
    ∙ append_assoc (encode_utf8_all text) (encode_utf8_all shown) (0x2F ∷ [])

-- the bytes of items, each with the slash that ends it, are those of each item
listed-items : (items : List (List ℕ)) → encode_utf8_all (flat_map with_slash items) ≡ flat_map item_bytes items
unfolding lib.Utf8.encode
listed-items [] = refl
listed-items (first ∷ items) =
    encodes-append (with_slash first) (flat_map with_slash items)
    ∙ ap (λ ys. ys ++ encode_utf8_all (flat_map with_slash items)) (encodes-append first (0x2F ∷ []))
    ∙ ap (λ ys. item_bytes first ++ ys) (listed-items items)

-- a list of candidates as it is written is what is sent for them, where there is one
pub listed-plain : (cands : List Cand) (bytes : List ℕ) → is_empty cands ≡ false
    → codes "1/" ++ encode_utf8_all (flat_map with_slash (map item cands)) ++ 10 ∷ []
    ≡ found_or_not bytes (map item cands)
listed-plain [] bytes some = cc
listed-plain (cand ∷ cands) bytes some =
    ap (λ ys. codes "1/" ++ ys ++ 10 ∷ []) (listed-items (map item (cand ∷ cands)))

-- and those with the end of the line behind it
pub listed-end : (text : List ℕ) → encode_utf8_all (text ++ 10 ∷ []) ≡ encode_utf8_all text ++ 10 ∷ []
unfolding lib.Utf8.encode
listed-end text = encodes-append text (10 ∷ [])

pub ruleset listing = (common_steps, listed-more, listed-end)
