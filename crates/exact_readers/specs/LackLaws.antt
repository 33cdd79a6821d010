-- What lacks a character, and the bytes and lines of texts that do.
use Rattle.std.proofs.Common.{◌≡◌, ◌⊎◌, inl, inr, ℕ, ◌+◌, ◌/◌, ◌%◌, ◌≤◌, ◌<◌, ◌==◌, Bool, true, false, cond, not, List}
use Rattle.std.proofs.Common.{[], ◌∷◌, ◌++◌, Option, None, Some, map, encode_utf8_all, refl, sym, ap, ◌∙◌, arith}
use Rattle.std.proofs.Common.{append_assoc, leb, ◌&&◌}
use lib.Utf8.{encode}
use Rattle.std.specs.List.{flat_map, list_all, AllByRecursion}
use Rattle.std.specs.Option.{option_map}
use Rattle.std.proofs.lemmas.Bool.{and_parts, and_from, both_ways, eqb-true, not_from_false, ne_eqb}
use Rattle.std.proofs.lemmas.Bool.Decides.{eqb_tells, leb_tells}
use Rattle.std.proofs.lemmas.List.Folds.{list_all-append, list_all-map}
use Rattle.std.proofs.Math.Bool.{and-true}
use Rattle.std.proofs.lemmas.Str.{encode_ascii, encodes-append}
use Rattle.skk_text.specs.Lines.{lines_of}
use Rattle.skk_text.specs.PairsLaws.{list_all-weaker}
use Rattle.exact_readers.specs.Cuts.{cut}
use Rattle.exact_readers.specs.CutLaws.{cut-at, cut-none, cut-nowhere, up_to-exact}
use Rattle.exact_readers.specs.Lacking.{lacks}
use Rattle.exact_readers.specs.LineLaws.{line-ended}
use Rattle.exact_readers.specs.Lines.{with_line_end}

-- Texts

-- two texts that lack a character lack it together
pub both_lack : (code : ℕ) (xs ys : List ℕ) → lacks code xs ≡ true → lacks code ys ≡ true → lacks code (xs ++ ys) ≡ true
both_lack code xs ys first second =
    list_all-append (λ c. not (c == code)) xs ys ∙ and_from (lacks code xs) (lacks code ys) first second

-- what is printed of each value that passes a test passes another, and so does what is printed of all
pub each_passes : {X Y : Type 0} (test : X → Bool) (passes : Y → Bool) (print : X → List Y)
    → ((x : X) → test x ≡ true → list_all passes (print x) ≡ true) → (xs : List X) → list_all test xs ≡ true
    → list_all passes (flat_map print xs) ≡ true
each_passes test passes print each [] all = refl
each_passes test passes print each (x ∷ xs) all =
    let parts = and_parts (test x) (list_all test xs) all in
    list_all-append passes (print x) (flat_map print xs)
    ∙ and_from (list_all passes (print x)) _ (each x parts.0) (each_passes test passes print each xs parts.1)

-- a text whose characters pass a test lacks one that fails it
pub lacks-failing : (test : ℕ → Bool) (code : ℕ) → test code ≡ false → (text : List ℕ) → list_all test text ≡ true
    → lacks code text ≡ true
lacks-failing test code fails [] all = refl
lacks-failing test code fails (c ∷ text) all =
    let parts = and_parts (test c) (list_all test text) all in
    and_from (not (c == code)) _ (not_from_false (c == code) (ne_eqb c code
    (λ same. both_ways (test c) (ap test same ∙ fails) parts.0)))
    (lacks-failing test code fails text parts.1)

-- Characters

-- a byte from 128 on is no ASCII character
pub above_ascii : (code : ℕ) → code < 128 → (byte : ℕ) → 128 ≤ byte → not (byte == code) ≡ true
above_ascii code low byte high =
    elim (eqb_tells byte code) [ inl same ↦ absurd (omega (arith, same.1)) | inr other ↦ ap not other.0 ]

-- bytes are those of a character: itself, or bytes from 128 on
abbrev pub AreOf : ℕ → List ℕ → Type 0
AreOf c bytes =
    (bytes ≡ c ∷ [])
    ⊎ ((first : ℕ) × (rest : List ℕ) × (bytes ≡ first ∷ rest) × AllByRecursion (λ byte. 128 ≤ byte) (first ∷ rest))

-- those of each character are so
pub bytes_are : (c : ℕ) → AreOf c (encode c)
unfolding encode
bytes_are c = by _ _ _
  where
    by : (one two three : Bool) → AreOf c (cond one (c ∷ []) (cond two ((192 + c / 64) ∷ (128 + c % 64) ∷ [])
        (cond three ((224 + c / 4096) ∷ (128 + c / 64 % 64) ∷ (128 + c % 64) ∷ [])
        ((240 + c / 262144) ∷ (128 + c / 4096 % 64) ∷ (128 + c / 64 % 64) ∷ (128 + c % 64) ∷ []))))
    by true two three = inl refl
    by false true three = inr (192 + c / 64, (128 + c % 64) ∷ [], refl, (omega arith, (omega arith, tt)))
    by false false true = inr (
      224 + c / 4096,
      (128 + c / 64 % 64) ∷ (128 + c % 64) ∷ [],
      refl,
      (omega arith, (omega arith, (omega arith, tt))),
    )
    by false false false =
        inr (
          240 + c / 262144,
          (128 + c / 4096 % 64) ∷ (128 + c / 64 % 64) ∷ (128 + c % 64) ∷ [],
          refl,
          (omega arith, (omega arith, (omega arith, (omega arith, tt)))),
        )

-- Their texts

-- the bytes of a text pass a test that all bytes from 128 on pass where its characters do
pub bytes_pass : (passes : ℕ → Bool) → ((byte : ℕ) → 128 ≤ byte → passes byte ≡ true) → (text : List ℕ)
    → list_all passes (encode_utf8_all text) ≡ list_all passes text
bytes_pass passes above [] = refl
bytes_pass passes above (c ∷ text) =
    list_all-append passes (encode c) (encode_utf8_all text)
    ∙ ap (λ b. b && list_all passes (encode_utf8_all text)) (of_char (leb_tells 128 c))
    ∙ ap (λ b. passes c && b) (bytes_pass passes above text)
  where
    all_above : (bytes : List ℕ) → AllByRecursion (λ byte. 128 ≤ byte) bytes → list_all passes bytes ≡ true
    all_above [] all = refl
    all_above (byte ∷ bytes) all =
        and_from (passes byte) (list_all passes bytes) (above byte all.0) (all_above bytes all.1)

    itself : encode c ≡ c ∷ [] → list_all passes (encode c) ≡ passes c
    itself e = ap (list_all passes) e ∙ and-true (passes c)

    of_high : 128 ≤ c → AreOf c (encode c) → list_all passes (encode c) ≡ passes c
    of_high high (inl same) = itself same
    of_high high (inr (first, rest, are, all)) =
        ap (list_all passes) are ∙ all_above (first ∷ rest) all ∙ sym (above c high)

    of_char : ((leb 128 c ≡ true) × (128 ≤ c)) ⊎ ((leb 128 c ≡ false) × (c < 128))
        → list_all passes (encode c) ≡ passes c
    of_char (inl high) = of_high high.1 (bytes_are c)
    of_char (inr low) = itself (encode_ascii c low.1)

-- the bytes of a text that lacks an ASCII character lack it
pub bytes_lack : (code : ℕ) → code < 128 → (text : List ℕ) → lacks code text ≡ true
    → lacks code (encode_utf8_all text) ≡ true
bytes_lack code low text none = bytes_pass (λ byte. not (byte == code)) (above_ascii code low) text ∙ none

-- Lines

-- the end of a line is one byte
bytes_line_end : (text : List ℕ) → encode_utf8_all (text ++ 10 ∷ []) ≡ encode_utf8_all text ++ 10 ∷ []
unfolding encode
bytes_line_end text = encodes-append text (10 ∷ [])

-- lines with their ends are cut into these lines
lines_back : (lines : List (List ℕ)) → list_all (lacks 10) lines ≡ true
    → lines_of (flat_map with_line_end lines) ≡ lines
lines_back [] none = refl
lines_back (line ∷ lines) none =
    let parts = and_parts (lacks 10 line) (list_all (lacks 10) lines) none in
    let rest = flat_map with_line_end lines in
    ap lines_of (append_assoc line (10 ∷ []) rest) ∙ line-ended line rest parts.0
    ∙ ap (λ more. line ∷ more) (lines_back lines parts.1)

-- the bytes of lines with their ends
lines_bytes : (texts : List (List ℕ))
    → encode_utf8_all (flat_map with_line_end texts) ≡ flat_map with_line_end (map encode_utf8_all texts)
lines_bytes [] = refl
lines_bytes (text ∷ texts) =
    encodes-append (with_line_end text) (flat_map with_line_end texts)
    ∙ ap (λ bytes. bytes ++ encode_utf8_all (flat_map with_line_end texts)) (bytes_line_end text)
    ∙ ap (λ bytes. with_line_end (encode_utf8_all text) ++ bytes) (lines_bytes texts)

-- texts without LF are the lines of what is printed of them, each with its end
pub lines_again : (texts : List (List ℕ)) → list_all (lacks 10) texts ≡ true
    → lines_of (encode_utf8_all (flat_map with_line_end texts)) ≡ map encode_utf8_all texts
lines_again texts none =
    ap lines_of (lines_bytes texts)
    ∙ lines_back (map encode_utf8_all texts)
    (list_all-map (lacks 10) encode_utf8_all texts
    ∙ list_all-weaker (lacks 10) (λ text. lacks 10 (encode_utf8_all text)) (bytes_lack 10 (omega arith)) texts none)

-- Cuts

-- the bytes of an ASCII character and of what stands around it
bytes_around : (code : ℕ) → code < 128 → (front rest : List ℕ)
    → encode_utf8_all (front ++ code ∷ rest) ≡ encode_utf8_all front ++ code ∷ encode_utf8_all rest
bytes_around code low front rest =
    encodes-append front (code ∷ rest)
    ∙ ap (λ bytes. encode_utf8_all front ++ (bytes ++ encode_utf8_all rest)) (encode_ascii code low)

-- a text and its bytes are cut at the same one
pub cut-bytes : (code : ℕ) → code < 128 → (text : List ℕ) → cut (λ c. c == code) (encode_utf8_all text)
    ≡ option_map (λ parts. (encode_utf8_all parts.0, encode_utf8_all parts.1)) (cut (λ c. c == code) text)
cut-bytes code low text = by (cut (λ c. c == code) text) refl
  where
    by : (found : Option (List ℕ × List ℕ)) → cut (λ c. c == code) text ≡ found
        → cut (λ c. c == code) (encode_utf8_all text)
        ≡ option_map (λ parts. (encode_utf8_all parts.0, encode_utf8_all parts.1)) found
    by None e =
        cut-nowhere (λ c. c == code) (encode_utf8_all text)
        (bytes_lack code low text (cut-none (λ c. c == code) text e))
    by (Some (front, rest)) e =
        let is = (up_to-exact (λ c. c == code)).sound text front rest e in
        let (end, passes, none, piece) = is.spelled in
        let split : text ≡ front ++ end ∷ rest =
        is.tokens_are ∙ ap (λ ys. ys ++ rest) piece ∙ append_assoc front (end ∷ []) rest in
        let same = eqb-true end code passes in
        ap (λ cs. cut (λ c. c == code) (encode_utf8_all cs)) (split ∙ ap (λ c. front ++ c ∷ rest) same)
        ∙ ap (cut (λ c. c == code)) (bytes_around code low front rest)
        ∙ cut-at (λ c. c == code) (encode_utf8_all front) code (encode_utf8_all rest) (bytes_lack code low front none)
        (ap (λ c. c == code) (sym same) ∙ passes)
