-- What is drawn from small seeds, and the rows of some words.
use Rattle.std.proofs.Common.{◌≡◌, refl, codes, slice_get, Some, [], ◌∷◌, ◌++◌, length}
use Rattle.std.specs.List.{flat_map}
use Rattle.skk_text.specs.declared.key.Key.TheVariants.{Cj, Cg, Undo}
use Rattle.skk_calls.specs.declared.part.Part.TheVariants.{Nasi}
use Rattle.key_scripts.specs.declared.line.Line.TheVariants.{Keys}
use Rattle.load_input.specs.Dictionary.{dictionary_rows}
use Rattle.load_input.specs.Draws.{drawn, next_state}
use Rattle.load_input.specs.Lines.{lines_drawn, syllable, syllables, typed}

-- the sixteen syllables in their order
all_syllables : flat_map (λ number. syllable number ++ codes " ")
    (0 ∷ 1 ∷ 2 ∷ 3 ∷ 4 ∷ 5 ∷ 6 ∷ 7 ∷ 8 ∷ 9 ∷ 10 ∷ 11 ∷ 12 ∷ 13 ∷ 14 ∷ 15 ∷ [])
    ≡ codes "ka ki ku ke ko sa shi su se so ta chi tsu te to na "
all_syllables = refl

many_syllables : length syllables ≡ 16
many_syllables = refl

-- the first numbers below 16 that are drawn from 7
first_drawn : drawn (next_state 7) 16 ∷ drawn (next_state (next_state 7)) 16 ∷ [] ≡ 14 ∷ 15 ∷ []
first_drawn = refl

-- two sessions with three lines each: a line of each kind
first_lines : lines_drawn 0 2 3
    ≡ Keys 1 (typed (codes "Nase ") ++ Cj ∷ [])
    ∷ Keys 2 (typed (codes "Kote ") ++ Cj ∷ Undo ∷ Cg ∷ Cg ∷ [])
    ∷ Keys 1 (typed (codes "sesu"))
    ∷ Keys 2 (typed (codes "China  ") ++ Cj ∷ [])
    ∷ Keys 1 (typed (codes "shite"))
    ∷ Keys 2 (typed (codes "Toso  ") ++ Cj ∷ []) ∷ []
first_lines = refl

-- the greatest seed, and no line
greatest_seed : lines_drawn 18446744073709551615 1 1 ≡ Keys 1 (typed (codes "Sesu ") ++ Cj ∷ []) ∷ []
greatest_seed = refl

no_lines : lines_drawn 7 8 0 ≡ []
no_lines = refl

many_rows : length dictionary_rows ≡ 256
many_rows = refl

-- the rows of `kaka`, of `kika`, which is the seventeenth, and of `nana`, which is the last
some_rows : slice_get dictionary_rows 0 ∷ slice_get dictionary_rows 16 ∷ slice_get dictionary_rows 255 ∷ []
    ≡ Some (record {
      key = record { part = Nasi; reading = codes "かか" };
      cands = record { word = codes "カカ1"; note = [] } ∷ record { word = codes "カカ2"; note = [] }
          ∷ record { word = codes "カカ3"; note = [] } ∷ [];
      blocks = [];
      hides = [];
      stamp = 0;
    })
    ∷ Some (record {
      key = record { part = Nasi; reading = codes "きか" };
      cands = record { word = codes "キカ1"; note = [] } ∷ record { word = codes "キカ2"; note = [] }
          ∷ record { word = codes "キカ3"; note = [] } ∷ [];
      blocks = [];
      hides = [];
      stamp = 0;
    })
    ∷ Some (record {
      key = record { part = Nasi; reading = codes "なな" };
      cands = record { word = codes "ナナ1"; note = [] } ∷ record { word = codes "ナナ2"; note = [] }
          ∷ record { word = codes "ナナ3"; note = [] } ∷ [];
      blocks = [];
      hides = [];
      stamp = 0;
    }) ∷ []
some_rows = refl
