-- Places of a list that are gone over.
use Rattle.std.proofs.Common.{◌≡◌, ℕ, ◌+◌, ◌<◌, Bool, Some, List, [], ◌∷◌, ◌++◌, if◌then◌else◌, length, map, get_or}
use Rattle.std.proofs.Common.{append-nil, arith, slice_get, sym, take}
use Rattle.std.specs.List.{filter}
use Rattle.std.proofs.lemmas.List.{map-append}
use Rattle.std.proofs.lemmas.List.Elements.{filter_more}
use Rattle.std.proofs.lemmas.Option.{slice_get-get_or}

-- with the place of the next item, where it passes
pub kept_more : {X : Type 0} (p : X → Bool) (xs : List X) (places after : List ℕ) (i : ℕ) (x : X) → i < length xs
    → x ≡ get_or xs i x → map (slice_get xs) places ≡ map Some (filter p (take i xs))
    → after ≡ (if p x then places ++ i ∷ [] else places)
    → map (slice_get xs) after ≡ map Some (filter p (take (i + 1) xs))
kept_more p xs places after i x low is so_far added =
    let kept = filter p (take i xs) in
    let here = slice_get-get_or xs i x low in
    rw (added, filter_more p xs i x low, sym is)
    (grind (arith, append-nil kept, map-append Some kept (x ∷ []), map-append (slice_get xs) places (i ∷ [])))
