-- A text is cut at a character where its bytes are.
use Rattle.std.proofs.Common.{◌≡◌, ◌∙◌, ◌==◌, ◌+◌, not, ℕ, Bool, true, Option, None, Some, MatchOption, Bor, List, []}
use Rattle.std.proofs.Common.{◌∷◌, ◌++◌, refl, sym, ap, append_assoc, length, drop, encode_utf8_all, inl, inr}
use lib.Utf8.{encode, scalar, scalars}
use Rattle.std.specs.List.{list_all}
use Rattle.std.specs.Option.{option_map}
use Rattle.std.specs.Str.{IsUtf8, NonePass, chars}
use Rattle.std.specs.Str.Pattern.{FindsCharPrefix}
use Rattle.std.proofs.lemmas.Bool.{and_from, and_parts, cases_Bool, eqb-true, not_from_false}
use Rattle.std.proofs.lemmas.Bool.Decides.{eqb_tells}
use Rattle.std.proofs.lemmas.List.{take-append-drop}
use Rattle.std.proofs.lemmas.Str.{chars-encodes, chars_from_encodes, chars_past_char, cons_from_encodes, encodes-chars}
use Rattle.std.proofs.lemmas.Str.{scalars-chars}
use Rattle.std.proofs.lemmas.Str.Pattern.{IsSplitOnceResult}
use Rattle.exact_readers.specs.Cuts.{cut}
use Rattle.exact_readers.specs.CutLaws.{cut-at, cut-nowhere}
use Rattle.exact_readers.specs.Formats.{past}

-- a character is itself
same : (c : ℕ) → (c == c) ≡ true
same c = elim (eqb_tells c c) [ inl e ↦ e.0 | inr other ↦ absurd (other.1 refl) ]

-- both parts of a text are of characters where it is
scalars-both : (xs ys : List ℕ) → scalars (xs ++ ys) ≡ true → (scalars xs ≡ true) × (scalars ys ≡ true)
scalars-both [] ys all = (refl, all)
scalars-both (x ∷ xs) ys all =
    let parts = and_parts (scalar x) (scalars (xs ++ ys)) all in
    let more = scalars-both xs ys parts.1 in
    (and_from (scalar x) (scalars xs) parts.0 more.0, more.1)

-- characters of which none passes a test fail it
all_fail : (test : ℕ → Bool) (cs : List ℕ) → NonePass test cs → list_all (λ c. not (test c)) cs ≡ true
all_fail test [] none = refl
all_fail test (c ∷ cs) none =
    and_from (not (test c)) (list_all (λ d. not (test d)) cs) (not_from_false (test c) none.0)
    (all_fail test cs none.1)

-- characters whose bytes begin with those of others begin with these
begin_encoded : (cs ds rest : List ℕ) → encode_utf8_all ds ≡ encode_utf8_all cs ++ rest
    → (es : List ℕ) × (ds ≡ cs ++ es) × (encode_utf8_all es ≡ rest)
begin_encoded [] ds rest e = (ds, refl, e)
begin_encoded (c ∷ cs) ds rest e =
    let (fs, is, more) = cons_from_encodes ds (encode_utf8_all cs ++ rest) c
    (e ∙ append_assoc (encode c) (encode_utf8_all cs) rest) in
    let (es, begins, left) = begin_encoded cs fs rest more in
    (es, is ∙ ap (λ ys. c ∷ ys) begins, left)

module _ (end : ℕ) (text : List ℕ) (valid : IsUtf8 text) where
  -- the characters of what a text is split into are what its characters are cut into
  pub cut-chars : (found : Option (Bor (List ℕ) × Bor (List ℕ))) → IsSplitOnceResult end text found
      → option_map (λ parts. (chars parts.0.now, chars parts.1.now)) found ≡ cut (λ c. c == end) (chars text)
  cut-chars None (cs, bytes, none) =
      sym (ap (cut (λ c. c == end)) (sym (chars_from_encodes cs text valid bytes))
      ∙ cut-nowhere (λ c. c == end) cs (all_fail (λ c. c == end) cs none))
  cut-chars (Some lent) (i, j, ((cs, bytes, none), at), before, behind, _, _, _) =
      let (es, are, more) = begin_encoded cs (chars text) (drop i text)
      (encodes-chars text valid ∙ sym (take-append-drop i text) ∙ ap (λ front. front ++ drop i text) (sym bytes)) in
      let (fs, ends, left) = cons_from_encodes es (drop j text) end (more ∙ at.split) in
      let is : chars text ≡ cs ++ end ∷ fs = are ∙ ap (λ ys. cs ++ ys) ends in
      let all = scalars-both cs (end ∷ fs) (ap scalars (sym is) ∙ scalars-chars text valid) in
      let front : chars lent.0.now ≡ cs = ap chars (before ∙ sym bytes) ∙ chars-encodes cs all.0 in
      let back : chars lent.1.now ≡ fs =
      ap chars (behind ∙ sym left) ∙ chars-encodes fs (and_parts (scalar end) (scalars fs) all.1).1 in
      let parts = cut-at (λ c. c == end) cs end fs (all_fail (λ c. c == end) cs none) (same end) in
      rw (front, back) (sym (ap (cut (λ c. c == end)) is ∙ parts))

  -- the characters behind a first character are those of what is left of the text
  pub past-chars : (found : Option (Bor (List ℕ)))
      → MatchOption found (FindsCharPrefix end text None) (λ rest. (n : ℕ) × FindsCharPrefix end text (Some n)
      × (rest.now ≡ drop n text) × (length rest.now + n ≡ length text))
      → option_map (λ rest. chars rest.now) found ≡ past (end ∷ []) (chars text)
  past-chars None none = by (chars text) refl
    where
      by : (cs : List ℕ) → chars text ≡ cs → None ≡ past (end ∷ []) cs
      by [] e = refl
      by (c ∷ cs) e =
          elim (cases_Bool (c == end)) [
            | inl found ↦ absurd (none (encode_utf8_all cs) (sym (encodes-chars text valid) ∙ ap encode_utf8_all e
                ∙ ap (λ d. encode d ++ encode_utf8_all cs) (eqb-true c end found)))
            | inr other ↦ rw other refl
          ]
  past-chars (Some rest) (n, at, is, _) =
      let begins : chars text ≡ end ∷ chars rest.now =
      chars_past_char text rest.now end valid (at.split ∙ ap (λ ys. encode end ++ ys) (sym is)) in
      rw (begins, same end) refl
