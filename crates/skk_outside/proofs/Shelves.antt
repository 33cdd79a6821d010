-- Files that are read from a place on.
use Rattle.std.proofs.Common.{ℕ, ◌≡◌, ◌<◌, ◌≤◌, ◌∙◌, sym, subst, ap, Option, None, Some, List, ◌++◌, length, take, drop}
use Rattle.std.proofs.Common.{min, length-append, option_map, arith}
use Rattle.std.proofs.lemmas.List.{length-take-le, length-drop}
use Rattle.std.proofs.Math.Seq.{take-add}
use Rattle.std.specs.List.{find}
use Rattle.std.specs.Str.{bytes_eq}
use Rattle.skk_outside.specs.Memory.{file_named}
use Rattle.skk_outside.specs.Shelves.{StandsAt, EndsBy}

-- bytes from the head on, and those behind them
pub StandsAt-more : (told : Option (List ℕ)) (bytes added : List ℕ) → StandsAt told 0 bytes
    → StandsAt told (length bytes) added → StandsAt told 0 (bytes ++ added)
StandsAt-more None bytes added p q = tt
StandsAt-more (Some file) bytes added p q =
    ap (λ n. take n file) (length-append bytes added)
    ∙ take-add (length bytes) (length added) file
    ∙ ap (λ head. head ++ take (length added) (drop (length bytes) file)) p
    ∙ ap (λ rest. bytes ++ rest) q

-- what fits of the bytes from a place on stands there,
-- and where there is room it is none only where the file ends by then
pub StandsAt-copied : (told : Option (List ℕ)) (file rest old new : List ℕ) (place n : ℕ) → told ≡ Some file
    → rest ≡ drop place file → n ≡ min (length old) (length rest) → length new ≡ length old → take n new ≡ take n rest
    → StandsAt told place (take n new) × (n ≡ 0 → 0 < length new → EndsBy told place)
StandsAt-copied told file rest old new place n told_is is count room copied =
    let few : n ≤ length new = omega (arith, count, room) in
    subst (λ t. StandsAt t place (take n new) × (n ≡ 0 → 0 < length new → EndsBy t place)) (sym told_is) (
      ap (λ k. take k (drop place file)) (length-take-le n new few) ∙ sym (copied ∙ ap (take n) is),
      λ none enough. omega (arith, count, room, none, enough, ap length is, length-drop place file),
    )

-- the file that was found is the one of the name
pub file_named-found : (inside files : List (List ℕ × List ℕ)) (name : List ℕ) (found wanted : Option (List ℕ × List ℕ))
    → inside ≡ files
    → found ≡ find (λ file. bytes_eq file.0 name) inside → found ≡ wanted
    → file_named files name ≡ option_map (λ file. file.1) wanted
file_named-found inside files name found wanted same looked is =
    ap (λ named. file_named named name) (sym same) ∙ ap (option_map (λ file. file.1)) (sym looked ∙ is)
