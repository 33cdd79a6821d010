-- Texts that hold no such character.
use Rattle.std.specs.Prelude.{ℕ, ◌==◌, not, Bool, List}
use Rattle.std.specs.List.{list_all}

-- the text holds no such character
abbrev pub lacks : ℕ → List ℕ → Bool
lacks c text = list_all (λ d. not (d == c)) text
