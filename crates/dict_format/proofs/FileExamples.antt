-- Files that are printed, worked out by hand.
use Rattle.std.proofs.Common.{ℕ, List, [], ◌∷◌, codes, map, refl}
use Rattle.skk_calls.specs.declared.part.Part.{Part}
use Rattle.skk_calls.specs.declared.part.Part.TheVariants.{Nasi, Ari}
use Rattle.skk_calls.specs.Rows.{Row}
use Rattle.dict_format.specs.PrintedFiles.{in_printing_order, printed_file}
use Rattle.dict_format.proofs.Examples.{Gives}

-- a row of a reading, with one candidate
abbrev row : Part → List ℕ → Row
row part reading = record {
  key = record { part = part; reading = reading };
  cands = record { word = codes "漢"; note = [] } ∷ [];
  blocks = [];
  hides = [];
  stamp = 3;
}

abbrev nasi : List ℕ → Row
nasi reading = row Nasi reading

abbrev ari : List ℕ → Row
ari reading = row Ari reading

-- a row with all that a row has
abbrev okur : Row
okur = record (ari (codes "おくr")) {
  cands = record { word = codes "送"; note = codes "荷物を" } ∷ [];
  blocks = record { okuri = codes "り"; words = codes "送" ∷ codes "贈" ∷ [] } ∷ [];
  hides = codes "遅" ∷ [];
}

-- a file has both part lines, also where there are no rows of a part
printed_files : Gives printed_file (
    ([], codes ";; okuri-ari entries.\n;; okuri-nasi entries.\n")
    ∷ (nasi (codes "かん") ∷ [], codes ";; okuri-ari entries.\n;; okuri-nasi entries.\nかん /漢/\n")
    ∷ (
      okur ∷ [],
      codes ";; okuri-ari entries.\nおくr /送;荷物を/[り/送/贈/]/(skk-ignore-dic-word \"遅\")/\n;; okuri-nasi entries.\n",
    )
    ∷ (
      nasi (codes "かん") ∷ okur ∷ [],
      codes ";; okuri-ari entries.\nおくr /送;荷物を/[り/送/贈/]/(skk-ignore-dic-word \"遅\")/\n;; okuri-nasi entries.\nかん /漢/\n",
    )
    ∷ (
      nasi (codes "い") ∷ ari (codes "いt") ∷ nasi (codes "あ") ∷ ari (codes "うt") ∷ [],
      codes ";; okuri-ari entries.\nうt /漢/\nいt /漢/\n;; okuri-nasi entries.\nあ /漢/\nい /漢/\n",
    )
    ∷ [])
unfolding lib.Utf8.encode
printed_files = refl

-- the readings of rows of a part, in printing order
abbrev in_order : Part → List (List ℕ) → List (List ℕ)
in_order part readings = map (λ r. r.key.reading) (in_printing_order (map (row part) readings))

-- with okurigana a reading stands behind those that go on from it, and without it in front of them, in whatever order
-- the rows came; the first byte that differs decides, and not the length: a shorter reading with a greater byte is
-- greater. A character of four bytes is greater than each of three, and these than those of one
ari_in_order : Gives (in_order Ari) (
    (codes "かk" ∷ codes "かkk" ∷ codes "かkkk" ∷ [], codes "かkkk" ∷ codes "かkk" ∷ codes "かk" ∷ [])
    ∷ (codes "かkkk" ∷ codes "かkk" ∷ codes "かk" ∷ [], codes "かkkk" ∷ codes "かkk" ∷ codes "かk" ∷ [])
    ∷ (codes "かkk" ∷ codes "かk" ∷ codes "かkkk" ∷ [], codes "かkkk" ∷ codes "かkk" ∷ codes "かk" ∷ [])
    ∷ (codes "ああk" ∷ codes "いk" ∷ [], codes "いk" ∷ codes "ああk" ∷ [])
    ∷ (
      codes "zk" ∷ codes "𠮷k" ∷ codes "あk" ∷ codes "ｱk" ∷ [],
      codes "𠮷k" ∷ codes "ｱk" ∷ codes "あk" ∷ codes "zk" ∷ [],
    )
    ∷ [])
unfolding lib.Utf8.encode
ari_in_order = refl

nasi_in_order : Gives (in_order Nasi) (
    (codes "かん" ∷ codes "かんじ" ∷ codes "か" ∷ [], codes "か" ∷ codes "かん" ∷ codes "かんじ" ∷ [])
    ∷ (codes "かんじ" ∷ codes "かん" ∷ codes "か" ∷ [], codes "か" ∷ codes "かん" ∷ codes "かんじ" ∷ [])
    ∷ (codes "い" ∷ codes "ああ" ∷ [], codes "ああ" ∷ codes "い" ∷ [])
    ∷ (
      codes "𠮷" ∷ codes "ｱ" ∷ codes "あ" ∷ codes "é" ∷ codes "z" ∷ codes "Z" ∷ [],
      codes "Z" ∷ codes "z" ∷ codes "é" ∷ codes "あ" ∷ codes "ｱ" ∷ codes "𠮷" ∷ [],
    )
    ∷ [])
unfolding lib.Utf8.encode
nasi_in_order = refl

-- all rows with okurigana stand before all without it, also where both have one reading
parts_apart : Gives in_printing_order (
    (nasi (codes "ak") ∷ ari (codes "ak") ∷ [], ari (codes "ak") ∷ nasi (codes "ak") ∷ [])
    ∷ (
      nasi (codes "bk") ∷ ari (codes "ak") ∷ nasi (codes "ak") ∷ ari (codes "bk") ∷ [],
      ari (codes "bk") ∷ ari (codes "ak") ∷ nasi (codes "ak") ∷ nasi (codes "bk") ∷ [],
    )
    ∷ ([], [])
    ∷ [])
unfolding lib.Utf8.encode
parts_apart = refl
