-- A file that was aged gives way whatever its first byte is.
use Rattle.std.proofs.Common.{◌≡◌, inr, ℕ, ◌≤◌, true, false, ◌==◌}
use Rattle.std.proofs.Common.{List, [], ◌∷◌, ◌++◌, refl, sym, ap, arith, append_assoc}
use Rattle.std.proofs.lemmas.Bool.Decides.{nat_tests}
use Rattle.std.proofs.lemmas.List.Elements.{All-nil}
use Rattle.std.specs.Int.{w64}
use Rattle.exact_readers.specs.Numbers.{number_bytes}
use Rattle.std.specs.Prelude.{Option, None, Some}
use Rattle.skk_journal.specs.declared.live.Live.{Live}
use Rattle.skk_journal.specs.Records.{mark, last_generation, IsSized}
use Rattle.skk_journal.specs.Generations.{one_more, one_less, generation_before, HasGeneration}
use Rattle.skk_journal.specs.Filling.{IsAged}
use Rattle.skk_journal.specs.Idle.{IsLoose}
use Rattle.skk_journal.specs.GenerationLaws.{next_counts}

-- one generation less is followed by this one, which does not come before it
next_of_less : (own : ℕ) → own ≤ last_generation → (own == one_more (one_less own)) ≡ true
next_of_less own small = grind (arith, nat_tests)

not_before : (own : ℕ) → (one_less own == one_more own) ≡ false
not_before own = grind (arith, nat_tests)

less_small : (own : ℕ) → own ≤ last_generation → one_less own ≤ last_generation
less_small own small = grind (arith, nat_tests)

pub aged_loose : (newest : ℕ) (beside : Option Live) (file : List ℕ) → HasGeneration beside
    → IsAged newest (generation_before beside) file → IsLoose newest beside file
aged_loose newest None file small (first, version, rest, is, right) =
    let bytes = number_bytes w64 0 in
    inr (
      first,
      version,
      bytes ++ 0 ∷ rest,
      is,
      right,
      (
        version,
        0,
        record {
          gate = 0;
          rest = rest;
          is = ap (λ (l : List ℕ). 1 ∷ (mark version ++ l)) (sym (append_assoc bytes [] (0 ∷ rest)));
          right = right;
          told = omega arith;
          sized = All-nil IsSized;
          closed = λ same. omega (arith, same);
        },
      ),
    )
aged_loose newest (Some live) file small (first, version, rest, is, right) =
    let older = one_less live.generation in
    inr (
      first,
      version,
      number_bytes w64 older ++ 0 ∷ rest,
      is,
      right,
      (
        version,
        older,
        record {
          rest = 0 ∷ rest;
          is = refl;
          right = right;
          told = less_small live.generation small;
        },
        next_counts live.file live.generation older (next_of_less live.generation small) (not_before live.generation),
      ),
    )
