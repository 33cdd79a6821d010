-- The key of a reading may stand where the reading may, and so may each of its numbers.
use Rattle.std.specs.Prelude.{◌≡◌, ◌≤◌, ◌+◌, nat_le, ℕ, Bool, true, false, List, [], ◌∷◌, ◌++◌}
use Rattle.std.specs.Char.{is_ascii_digit}
use Rattle.std.specs.List.{filter, flat_map, list_all}
use Rattle.std.proofs.Common.{◌∙◌, refl, ap, arith}
use Rattle.std.proofs.lemmas.Bool.{and_parts, leb-true}
use Rattle.std.proofs.lemmas.Str.{length-le-encodes}
use Rattle.skk_text.specs.Characters.{code}
use Rattle.skk_text.specs.FilterLaws.{list_all_kept}
use Rattle.skk_text.specs.PairsLaws.{list_all-weaker}
use Rattle.skk_text.specs.Text.{byte_len}
use Rattle.skk_text.specs.TextLaws.{byte_len-append}
use Rattle.numeric_entries.specs.Numbers.{is_number, are_numbers, begins, with_character, runs_of, key_piece}
use Rattle.numeric_entries.specs.Numbers.{key_of, numbers_of}
use Rattle.numeric_entries.specs.RunLaws.{first_run, key-first, key-more, key-other, piece}
use Rattle.std.proofs.lemmas.Bool.Decides.{nat_tests}

-- a text that begins with a digit has a key that begins with a `#`
key-begins_mark : (c : ℕ) (text : List ℕ) → is_ascii_digit c ≡ true
    → (rest : List ℕ) × (key_of (c ∷ text) ≡ code "#" ∷ rest)
key-begins_mark c text digit =
    let f = first_run c text in (
      flat_map key_piece f.others,
      ap (flat_map key_piece) f.are
          ∙ ap (λ p. p ++ flat_map key_piece f.others) (piece f.first true (f.number ∙ digit)),
    )

-- what a text begins with passes a test that a `#` passes too: so does what its key begins with
pub key_begins : (test : ℕ → Bool) (text : List ℕ) → test (code "#") ≡ true → begins test text ≡ true
    → begins test (key_of text) ≡ true
key_begins test [] mark is = cc
key_begins test (c ∷ text) mark is = grind (arith, key-begins_mark c text, key-other c text)

-- where each character of a text passes a test that a `#` passes too, so does each of its key
pub key_passes : (test : ℕ → Bool) (text : List ℕ) → test (code "#") ≡ true → list_all test text ≡ true
    → list_all test (key_of text) ≡ true
key_passes test [] mark all = refl
key_passes test (c ∷ text) mark all =
    grind (arith, key-more c text, key-first c text, key-other c text, key_passes test text)

-- a `#` is one byte
mark_bytes : byte_len (code "#" ∷ []) ≡ 1
unfolding lib.Utf8.encode
mark_bytes = refl

-- a key has no more bytes than its reading
pub key_bytes : (text : List ℕ) → byte_len (key_of text) ≤ byte_len text
key_bytes [] = omega arith
key_bytes (c ∷ text) =
    grind (
      arith,
      key-more c text,
      key-first c text,
      key-other c text,
      key_bytes text,
      mark_bytes,
      byte_len-append (c ∷ []) text,
      byte_len-append (code "#" ∷ []) (key_of text),
      byte_len-append (c ∷ []) (key_of text),
      length-le-encodes (c ∷ []),
    )

begins_behind : (text : List ℕ) (last : ℕ) → is_ascii_digit last ≡ false
    → begins is_ascii_digit (text ++ last ∷ []) ≡ begins is_ascii_digit text
begins_behind [] last other = other
begins_behind (c ∷ text) last other = refl

-- what stands at the end of a reading and is no digit stands at the end of its key
pub key_behind : (text : List ℕ) (last : ℕ) → is_ascii_digit last ≡ false
    → key_of (text ++ last ∷ []) ≡ key_of text ++ last ∷ []
key_behind [] last other = key-other last [] other
key_behind (c ∷ text) last other =
    grind (
      arith,
      begins_behind text last other,
      key-more c text,
      key-first c text,
      key-other c text,
      key-more c (text ++ last ∷ []),
      key-first c (text ++ last ∷ []),
      key-other c (text ++ last ∷ []),
      key_behind text last,
    )

-- each of the numbers of a reading is one
pub numbers_valid : (text : List ℕ) → are_numbers (numbers_of text) ≡ true
numbers_valid text = list_all_kept is_number (runs_of text)

-- a text has at most so many bytes
abbrev within : ℕ → List ℕ → Bool
within most text = nat_le (byte_len text) most

-- runs of at most so many bytes with a character in front have at most as many and its own
runs-longer : (c most : ℕ) (runs : List (List ℕ)) → list_all (within most) runs ≡ true
    → list_all (within (byte_len (c ∷ []) + most)) (with_character c runs) ≡ true
runs-longer c most [] fit = grind (arith, nat_tests)
runs-longer c most (run ∷ runs) fit =
    grind (
      arith,
      nat_tests,
      byte_len-append (c ∷ []) run,
      list_all-weaker (within most) (within (byte_len (c ∷ []) + most)),
    )

-- each run of a text has no more bytes than the text
runs_fit : (text : List ℕ) → list_all (within (byte_len text)) (runs_of text) ≡ true
runs_fit [] = refl
runs_fit (c ∷ text) =
    ap (λ most. list_all (within most) (runs_of (c ∷ text))) (byte_len-append (c ∷ []) text)
    ∙ runs-longer c (byte_len text) (runs_of text) (runs_fit text)

-- a test that each number passes which has no more bytes than a reading, the numbers of the reading pass
pub numbers_pass : (test : List ℕ → Bool) (text : List ℕ)
    → ((number : List ℕ) → is_number number ≡ true → byte_len number ≤ byte_len text → test number ≡ true)
    → list_all test (numbers_of text) ≡ true
numbers_pass test text so = kept (runs_of text) (runs_fit text)
  where
    kept : (runs : List (List ℕ)) → list_all (within (byte_len text)) runs ≡ true
        → list_all test (filter is_number runs) ≡ true
    kept [] fit = refl
    kept (run ∷ runs) fit = grind (arith, so run, leb-true (byte_len run) (byte_len text), kept runs)

-- where digits pass a test, a number begins with what passes it, and each of its characters does
pub number_passes : (test : ℕ → Bool) (number : List ℕ) → ((c : ℕ) → is_ascii_digit c ≡ true → test c ≡ true)
    → is_number number ≡ true → (begins test number ≡ true) × (list_all test number ≡ true)
number_passes test [] so is = cc
number_passes test (c ∷ number) so is = (
  so c (and_parts (is_ascii_digit c) _ is).0,
  list_all-weaker is_ascii_digit test so (c ∷ number) is,
)
