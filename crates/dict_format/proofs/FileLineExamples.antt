-- The lines and entries of small files, each worked out by hand.
use Rattle.std.proofs.Common.{◌≡◌, ◌*◌, ℕ, true, false, List, [], ◌∷◌, ◌++◌, codes, map, refl}
use Rattle.std.specs.Str.{chars}
use Rattle.skk_calls.specs.declared.part.Part.TheVariants.{Nasi, Ari}
use Rattle.skk_calls.specs.Rows.{Row}
use Rattle.dict_format.specs.declared.file_lines.LineKind.TheVariants.{Opening, Entry, Skipped}
use Rattle.dict_format.specs.declared.reason.LineReason.TheVariants.{Twice, NoSlash}
use Rattle.dict_format.specs.FileBuilding.{refused_with, listed_with}
use Rattle.exact_readers.specs.Trimming.{without_mark, trimmed_line}
use Rattle.dict_format.specs.FileLines.{file_limit, kind_of, entries_of, has_key, none_listed}

limit_of_a_file : file_limit ≡ 64 * 1024 * 1024
limit_of_a_file = refl

-- one mark goes, a part of one stays
marks : map without_mark ([] ∷ (0xEF ∷ 0xBB ∷ 0xBF ∷ []) ∷ (0xEF ∷ 0xBB ∷ 0xBF ∷ 0xEF ∷ 0xBB ∷ 0xBF ∷ 97 ∷ [])
    ∷ (0xEF ∷ 0xBB ∷ 97 ∷ []) ∷ (97 ∷ 0xEF ∷ 0xBB ∷ 0xBF ∷ []) ∷ [])
    ≡ [] ∷ [] ∷ (0xEF ∷ 0xBB ∷ 0xBF ∷ 97 ∷ []) ∷ (0xEF ∷ 0xBB ∷ 97 ∷ []) ∷ (97 ∷ 0xEF ∷ 0xBB ∷ 0xBF ∷ []) ∷ []
marks = refl

-- one CR at the end, and then spaces and TABs
ends_of_lines : map trimmed_line ([] ∷ (13 ∷ []) ∷ (97 ∷ 13 ∷ []) ∷ (97 ∷ 13 ∷ 13 ∷ []) ∷ (97 ∷ 32 ∷ 9 ∷ 13 ∷ [])
    ∷ (97 ∷ 13 ∷ 32 ∷ []) ∷ (32 ∷ 97 ∷ 32 ∷ 98 ∷ 9 ∷ []) ∷ (32 ∷ 9 ∷ []) ∷ (97 ∷ 11 ∷ []) ∷ [])
    ≡ [] ∷ [] ∷ (97 ∷ []) ∷ (97 ∷ 13 ∷ []) ∷ (97 ∷ []) ∷ (97 ∷ 13 ∷ []) ∷ (32 ∷ 97 ∷ 32 ∷ 98 ∷ []) ∷ []
    ∷ (97 ∷ 11 ∷ []) ∷ []
ends_of_lines = refl

kinds_of_lines : map kind_of
    ([] ∷ codes ";" ∷ codes ";; okuri-ari entries." ∷ codes ";; okuri-nasi entries." ∷ codes ";; okuri-ari entries"
    ∷ codes ";;okuri-ari entries." ∷ codes " ;; okuri-ari entries." ∷ codes "a /b/" ∷ codes " " ∷ codes "a;" ∷ [])
    ≡ Skipped ∷ Skipped ∷ Opening Ari ∷ Opening Nasi ∷ Skipped ∷ Skipped ∷ Entry ∷ Entry ∷ Entry ∷ Entry ∷ []
kinds_of_lines = refl

-- a file with each kind of line, whose parts come again
entries_of_a_file : entries_of
    (codes "a /b/" ++ 13 ∷ 10 ∷ codes ";; okuri-ari entries." ++ 10 ∷ 10 ∷ codes "ak /x/ " ++ 10 ∷ codes "; c" ++ 10
    ∷ codes ";; okuri-nasi entries." ++ 10 ∷ codes "d /e/" ++ 10 ∷ codes ";; okuri-ari entries." ++ 10 ∷ codes "f")
    ≡ record { number = 1; part = Nasi; text = codes "a /b/" } ∷ record {
      number = 4;
      part = Ari;
      text = codes "ak /x/";
    } ∷ record { number = 7; part = Nasi; text = codes "d /e/" }
    ∷ record { number = 9; part = Ari; text = codes "f" } ∷ []
unfolding chars
entries_of_a_file = refl

-- an entry is the characters of its line
entry_of_characters : entries_of (0xEF ∷ 0xBB ∷ 0xBF ∷ 0xE3 ∷ 0x81 ∷ 0x82 ∷ [])
    ≡ record { number = 1; part = Nasi; text = 0x3042 ∷ [] } ∷ []
unfolding chars
entry_of_characters = refl

-- a row without candidates
abbrev bare_row : List ℕ → Row
bare_row reading =
    record { key = record { part = Nasi; reading = reading }; cands = []; blocks = []; hides = []; stamp = 0 }

keys_of_rows : map (has_key (bare_row (codes "a") ∷ bare_row (codes "b") ∷ [])) (record {
  part = Nasi;
  reading = codes "b";
} ∷ record { part = Ari; reading = codes "b" } ∷ record { part = Nasi; reading = codes "c" } ∷ [])
    ≡ true ∷ false ∷ false ∷ []
keys_of_rows = refl

-- a row more, the same again, and a line that is refused
rows_listed : listed_with
    (refused_with (listed_with (listed_with none_listed 2 (bare_row (codes "a"))) 3 (bare_row (codes "a"))) 5 NoSlash) 6
    (bare_row (codes "b"))
    ≡ record {
      book = bare_row (codes "a") ∷ bare_row (codes "b") ∷ [];
      bad = record { line = 3; reason = Twice } ∷ record { line = 5; reason = NoSlash } ∷ [];
    }
rows_listed = refl
