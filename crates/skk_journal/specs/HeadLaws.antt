-- Laws of the mark at the head of a file.
use Rattle.std.specs.Prelude.{◌≡◌, ℕ, ◌<◌, ◌≤◌, Bool, true, false, ◌&&◌, List, ◌++◌, length, take, drop}
use Rattle.std.specs.Prelude.{get_or}
use Rattle.std.proofs.Common.{inl, inr, refl, sym, ◌∙◌, ap, arith, take-append-drop}
use Rattle.std.specs.Cmp.Lexicographic.{same_text}
use Rattle.std.specs.Str.{bytes_eq}
use Rattle.std.proofs.lemmas.Bool.{cases_lt}
use Rattle.std.proofs.lemmas.Bool.Decides.{nat_tests}
use Rattle.std.proofs.lemmas.List.{drop_more, get_or_past}
use Rattle.skk_journal.specs.Records.{mark_name, mark, IsVersion}
use Rattle.skk_journal.specs.Heads.{is_version, version_byte, is_marked}

-- a right version is one by the test of its byte
pub version_tested : (newest version : ℕ) → IsVersion newest version → is_version newest version ≡ true
version_tested newest version right = grind (arith, nat_tests, right.0, right.1)

-- a byte that the test takes is a right version
tested_version : (newest byte : ℕ) → is_version newest byte ≡ true → IsVersion newest byte
tested_version newest byte is = (grind (arith, nat_tests), grind (arith, nat_tests))

both_true : (a b : Bool) → (a && b) ≡ true → (a ≡ true) × (b ≡ true)
both_true true b is = (refl, is)
both_true false b is = cc

-- what stands behind the gate of a file whose mark is right: SKKDESK and its version, whatever follows them
pub record HasMark (newest : ℕ) (rest : List ℕ) : Type 0 where
  pub is : rest ≡ mark (version_byte rest) ++ drop 8 rest
  pub right : IsVersion newest (version_byte rest)

pub mark_read : (newest : ℕ) (rest : List ℕ) → is_marked newest rest ≡ true → HasMark newest rest
mark_read newest rest is =
    let tests = both_true (bytes_eq (take 7 rest) mark_name) (is_version newest (version_byte rest)) is in
    let name : take 7 rest ≡ mark_name = same_text (take 7 rest) mark_name (sym tests.0) in
    let right = tested_version newest (version_byte rest) tests.1 in
    record {
      is =
          sym (take-append-drop 7 rest)
          ∙ ap (λ (l : List ℕ). l ++ drop 7 rest) name
          ∙ ap (λ (l : List ℕ). mark_name ++ l) (drop_more rest 7 0 (long right.0));
      right = right;
    }
  where
    -- there is a byte where a version is read
    long : 1 ≤ get_or rest 7 0 → 7 < length rest
    long some = elim (cases_lt 7 (length rest)) [
      | inl more ↦ more
      | inr less ↦ absurd (omega (arith, some, get_or_past rest 7 0 less))
    ]
