-- The definitions at small examples, each worked out by hand.
use Rattle.std.proofs.Common.{◌≡◌, true, false, nat_lt, [], ◌∷◌, refl, map, codes}
use lib.Utf8.{encode}
use Rattle.skk_text.specs.Kana.{is_hiragana, is_katakana, in_katakana, in_hiragana, wide}
use Rattle.skk_text.specs.KeyText.{spell, spelled, is_keyboard_key, names}
use Rattle.skk_text.specs.Pairs.{all_pairs}
use Rattle.skk_text.specs.Text.{byte_len, last_chars, without_last}
use Rattle.skk_text.specs.declared.key.Key.TheVariants.{Char, Cj, Cg, Bs, Ret, Tab, Undo}

-- the first and the last of each run of kana, and their neighbours
hiragana_edges : map is_hiragana (0x3040 ∷ 0x3041 ∷ 0x3096 ∷ 0x3097 ∷ 0x309C ∷ 0x309D ∷ 0x309E ∷ 0x309F ∷ 0x61 ∷ [])
    ≡ false ∷ true ∷ true ∷ false ∷ false ∷ true ∷ true ∷ false ∷ false ∷ []
hiragana_edges = refl

katakana_edges : map is_katakana (0x30A0 ∷ 0x30A1 ∷ 0x30F6 ∷ 0x30F7 ∷ 0x30FC ∷ 0x30FD ∷ 0x30FE ∷ 0x30FF ∷ 0x61 ∷ [])
    ≡ false ∷ true ∷ true ∷ false ∷ false ∷ true ∷ true ∷ false ∷ false ∷ []
katakana_edges = refl

-- texts in the other kana
into_katakana : in_katakana (codes "ぁあゔゖゝゞーa漢ア") ≡ codes "ァアヴヶヽヾーa漢ア"
into_katakana = refl

into_hiragana : in_hiragana (codes "ァアヴヶヽヾーヷa漢あ") ≡ codes "ぁあゔゖゝゞーヷa漢あ"
into_hiragana = refl

-- the wide forms, and the neighbours of those that have one
wide_forms : map wide (0x1F ∷ 0x20 ∷ 0x21 ∷ 0x61 ∷ 0x7E ∷ 0x7F ∷ [])
    ≡ 0x1F ∷ 0x3000 ∷ 0xFF01 ∷ 0xFF41 ∷ 0xFF5E ∷ 0x7F ∷ []
wide_forms = refl

-- the spelling of each kind of key
spellings : spelled (Char 0x61 ∷ Char 0x3C ∷ Char 0x3D ∷ Char 0x3E ∷ Cj ∷ Cg ∷ Bs ∷ Ret ∷ Tab ∷ Undo ∷ [])
    ≡ codes "a<lt>=><cj><cg><bs><ret><tab><undo>"
spellings = refl

spelled_names : names ≡ map spell (Char 0x3C ∷ Cj ∷ Cg ∷ Bs ∷ Ret ∷ Tab ∷ Undo ∷ [])
spelled_names = refl

-- the keys of the keyboard, and the characters beside them
keyboard_keys : map is_keyboard_key
    (Char 0x1F ∷ Char 0x20 ∷ Char 0x7E ∷ Char 0x7F ∷ Cj ∷ Cg ∷ Bs ∷ Ret ∷ Tab ∷ Undo ∷ [])
    ≡ false ∷ true ∷ true ∷ false ∷ true ∷ true ∷ true ∷ true ∷ true ∷ true ∷ []
keyboard_keys = refl

-- a test of all pairs: of none, of one, and of three, where the first and the last or the last two do not pass
pairs : map (all_pairs nat_lt)
    ([] ∷ (5 ∷ []) ∷ (1 ∷ 2 ∷ 3 ∷ []) ∷ (2 ∷ 3 ∷ 2 ∷ []) ∷ (1 ∷ 3 ∷ 2 ∷ []) ∷ (2 ∷ 1 ∷ []) ∷ [])
    ≡ true ∷ true ∷ true ∷ false ∷ false ∷ false ∷ []
pairs = refl

-- texts of no character and of characters of one to four bytes
bytes_of_texts : map byte_len ([] ∷ codes "a" ∷ codes "é" ∷ codes "か" ∷ codes "𠮷" ∷ codes "かa𠮷" ∷ [])
    ≡ 0 ∷ 1 ∷ 2 ∷ 3 ∷ 4 ∷ 8 ∷ []
unfolding encode
bytes_of_texts = refl

-- the end of a text
ends_of_texts : map (λ count. last_chars count (codes "abc")) (0 ∷ 1 ∷ 2 ∷ 3 ∷ 4 ∷ [])
    ≡ [] ∷ codes "c" ∷ codes "bc" ∷ codes "abc" ∷ codes "abc" ∷ []
ends_of_texts = refl

shorter_texts : map without_last ([] ∷ codes "a" ∷ codes "ab" ∷ codes "かな" ∷ []) ≡ [] ∷ [] ∷ codes "a" ∷ codes "か" ∷ []
shorter_texts = refl
