-- The characters of a text as its bytes change.
use Rattle.std.proofs.Common.{◌≡◌, ◌≤◌, ℕ, ◌+◌, ◌-◌, Option, Some, None, IfSome, IfNone, rules, String, string_bytes}
use Rattle.std.proofs.Common.{List, [], ◌∷◌, ◌++◌, ◌∙◌, sym, ap, encode_utf8, encode_utf8_all, length, take, drop}
use Rattle.std.proofs.Common.{length-append, subst, arith}
use Rattle.std.specs.String.{string_len}
use Rattle.std.specs.Str.{chars, IsUtf8, IsCharBoundary}
use Rattle.std.proofs.Math.Seq.{drop-append_seam, take-append_seam}
use Rattle.std.proofs.lemmas.List.{nil_from_length, append-nil, take-append-drop, length_push}
use Rattle.skk_text.specs.Text.{without_last}
pub use Rattle.skk_text.specs.TextLaws.{chars-encode, chars-push}
use Rattle.std.proofs.lemmas.Str.{chars-nil, encodes-append, encodes-chars, encodes_same}
use Rattle.std.proofs.lemmas.Str.{IsCharBoundary-from_take, IsUtf8-string_bytes}

-- the last character of a text
pub chars-last : (bytes rest : List ℕ) (c : ℕ) → IsUtf8 bytes → IsUtf8 rest → bytes ≡ rest ++ encode_utf8 c
    → chars bytes ≡ chars rest ++ c ∷ []
chars-last bytes rest c utf8 rest_utf8 e =
    encodes_same (chars bytes) (chars rest ++ c ∷ [])
    (encodes-chars bytes utf8 ∙ (e
    ∙ sym (encodes-append (chars rest) (c ∷ []) ∙ ap (λ bs. bs ++ (encode_utf8 c ++ [])) (encodes-chars rest rest_utf8)
    ∙ ap (λ bs. rest ++ bs) (append-nil (encode_utf8 c)))))

-- all but the last character
pub take-chars_last : (bytes rest : List ℕ) (c : ℕ) → IsUtf8 bytes → IsUtf8 rest → bytes ≡ rest ++ encode_utf8 c
    → chars rest ≡ take (length (chars bytes) - 1) (chars bytes)
take-chars_last bytes rest c utf8 rest_utf8 e =
    rw (chars-last bytes rest c utf8 rest_utf8 e, length_push (chars rest) c)
    (let one_less : (length (chars rest) + 1) - 1 ≡ length (chars rest) = omega arith in
    rw one_less (sym (take-append_seam (chars rest) (c ∷ []))))

-- a string whose last character was taken off, where it had one
pub chars-popped : {Z : Type 0} (old new : String Z) (popped : Option ℕ)
    → IfSome popped (λ c. string_bytes old ≡ string_bytes new ++ encode_utf8 c) → IfNone popped (string_len old ≡ 0)
    → string_len new ≤ string_len old → chars (string_bytes new) ≡ without_last (chars (string_bytes old))
chars-popped old new (Some c) split none bound =
    take-chars_last (string_bytes old) (string_bytes new) c (IsUtf8-string_bytes old) (IsUtf8-string_bytes new) split
chars-popped old new None split none bound =
    let old_empty : string_bytes old ≡ [] = nil_from_length (string_bytes old) (search (rules, none)) in
    let new_empty : string_bytes new ≡ [] = nil_from_length (string_bytes new) (grind (arith, none, bound)) in
    ap chars new_empty ∙ chars-nil
    ∙ sym (ap (λ bytes. without_last (chars bytes)) old_empty ∙ ap without_last chars-nil)

-- a text is its first characters and the others
pub text-split : (text prefix : List ℕ) (k : ℕ) → IsUtf8 text → IsUtf8 prefix → chars prefix ≡ take k (chars text)
    → text ≡ prefix ++ encode_utf8_all (drop k (chars text))
text-split text prefix k utf8 front_utf8 e =
    sym (encodes-chars text utf8) ∙ ap encode_utf8_all (sym (take-append-drop k (chars text)))
    ∙ encodes-append (take k (chars text)) (drop k (chars text))
    ∙ ap (λ bs. bs ++ encode_utf8_all (drop k (chars text)))
    (ap encode_utf8_all (sym e) ∙ encodes-chars prefix front_utf8)

-- so it may be cut behind its first characters
pub IsCharBoundary-split : (text prefix : List ℕ) (k : ℕ) → IsUtf8 text → IsUtf8 prefix
    → chars prefix ≡ take k (chars text) → IsCharBoundary text (length prefix)
IsCharBoundary-split text prefix k utf8 front_utf8 e =
    let rest = encode_utf8_all (drop k (chars text)) in
    let split : text ≡ prefix ++ rest = text-split text prefix k utf8 front_utf8 e in
    IsCharBoundary-from_take text (length prefix) utf8 (omega (arith, ap length split ∙ length-append prefix rest))
    (subst IsUtf8 (sym (ap (take (length prefix)) split ∙ take-append_seam prefix rest)) front_utf8)

-- and these are the others
pub drop-split : (text prefix : List ℕ) (k : ℕ) → IsUtf8 text → IsUtf8 prefix → chars prefix ≡ take k (chars text)
    → drop (length prefix) text ≡ encode_utf8_all (drop k (chars text))
drop-split text prefix k utf8 front_utf8 e =
    ap (drop (length prefix)) (text-split text prefix k utf8 front_utf8 e)
    ∙ drop-append_seam prefix (encode_utf8_all (drop k (chars text)))
