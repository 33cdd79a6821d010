-- Sums and differences of rows that can be worked out by hand.
use Rattle.std.proofs.Common.{◌≡◌, ℕ, None, Some, List, [], ◌∷◌, codes, refl}
use Rattle.skk_calls.specs.declared.part.Part.TheVariants.{Nasi, Ari}
use Rattle.skk_calls.specs.Rows.{Block, Cand, Row, RowKey}
use Rattle.dict_expr.specs.Rows.{minus_row, plus_row}

abbrev plain : List ℕ → Cand
plain word = record { word = word; note = [] }

abbrev noted : List ℕ → List ℕ → Cand
noted word note = record { word = word; note = note }

abbrev block : List ℕ → List (List ℕ) → Block
block okuri words = record { okuri = okuri; words = words }

abbrev nasi : List Cand → List (List ℕ) → ℕ → Row
nasi cands hides stamp =
    let key : RowKey = record { part = Nasi; reading = codes "かんじ" } in
    record { key = key; cands = cands; blocks = []; hides = hides; stamp = stamp }

abbrev ari : List Cand → List Block → Row
ari cands blocks =
    let key : RowKey = record { part = Ari; reading = codes "おおk" } in
    record { key = key; cands = cands; blocks = blocks; hides = []; stamp = 0 }

-- two rows without okurigana, one of whose words stands in both, with a note in the second alone
abbrev first : Row
first = nasi (plain (codes "漢字") ∷ noted (codes "幹事") (codes "宴会の") ∷ []) [] 3

abbrev second : Row
second = nasi (plain (codes "感じ") ∷ noted (codes "漢字") (codes "字") ∷ []) [] 4

-- a word that stands in both comes once, at its first place, with its first note
both_candidates : plus_row (Some first) (Some second)
    ≡ Some (nasi (plain (codes "漢字") ∷ noted (codes "幹事") (codes "宴会の") ∷ plain (codes "感じ") ∷ []) [] 0)
both_candidates = refl

-- the other way round the second's stand first
other_order : plus_row (Some second) (Some first)
    ≡ Some (nasi (plain (codes "感じ") ∷ noted (codes "漢字") (codes "字") ∷ noted (codes "幹事") (codes "宴会の") ∷ []) [] 0)
other_order = refl

-- a word goes whatever its notes are
left_candidates : minus_row (Some second) (Some first) ≡ Some (nasi (plain (codes "感じ") ∷ []) [] 0)
left_candidates = refl

-- of a row without itself nothing is left
left_of_itself : minus_row (Some first) (Some first) ≡ None
left_of_itself = refl

-- a row that one has alone stays, with stamp 0
alone_first : plus_row (Some first) None ≡ Some (record first { stamp = 0 })
alone_first = refl

alone_second : plus_row None (Some second) ≡ Some (record second { stamp = 0 })
alone_second = refl

alone_left : minus_row (Some first) None ≡ Some (record first { stamp = 0 })
alone_left = refl

alone_gone : minus_row None (Some second) ≡ None
alone_gone = refl

none_at_all : plus_row None None ≡ None
none_at_all = refl

-- rows with okurigana: both have a block of one okurigana, and each has one of its own
abbrev long : Row
long = ari (plain (codes "大") ∷ [])
    (block (codes "く") (codes "多" ∷ codes "大" ∷ []) ∷ block (codes "き") (codes "大" ∷ []) ∷ [])

abbrev many : Row
many = ari (plain (codes "多") ∷ [])
    (block (codes "け") (codes "毛" ∷ []) ∷ block (codes "く") (codes "多" ∷ codes "巨" ∷ []) ∷ [])

-- a block gets the words of the other's of its okurigana, and the other's own blocks come last
both_blocks : plus_row (Some long) (Some many) ≡ Some (ari (plain (codes "大") ∷ plain (codes "多") ∷ [])
    (block (codes "く") (codes "多" ∷ codes "大" ∷ codes "巨" ∷ []) ∷ block (codes "き") (codes "大" ∷ [])
    ∷ block (codes "け") (codes "毛" ∷ []) ∷ []))
both_blocks = refl

-- words go from the block of their okurigana alone
left_blocks : minus_row (Some many) (Some long) ≡ Some (ari (plain (codes "多") ∷ [])
    (block (codes "け") (codes "毛" ∷ []) ∷ block (codes "く") (codes "巨" ∷ []) ∷ []))
left_blocks = refl

-- a block without words goes
emptied_block : minus_row (Some (ari (plain (codes "大") ∷ []) (block (codes "く") (codes "巨" ∷ []) ∷ []))) (Some many)
    ≡ Some (ari (plain (codes "大") ∷ []) [])
emptied_block = refl

-- a row of which a block alone is left stays, and one of which a hidden word alone is left
left_block_alone : minus_row (Some many) (Some (ari (plain (codes "多") ∷ []) []))
    ≡ Some (ari [] (block (codes "け") (codes "毛" ∷ []) ∷ block (codes "く") (codes "多" ∷ codes "巨" ∷ []) ∷ []))
left_block_alone = refl

left_mark_alone : minus_row (Some (nasi (plain (codes "漢字") ∷ []) (codes "感じ" ∷ []) 2)) (Some first)
    ≡ Some (nasi [] (codes "感じ" ∷ []) 0)
left_mark_alone = refl

-- hidden words are added behind those that are hidden, and go where the other hides them: one that the other has as a
-- candidate stays hidden, and a candidate that the other hides stays
both_marks : plus_row (Some (nasi [] (codes "甲" ∷ codes "乙" ∷ []) 0)) (Some (nasi [] (codes "乙" ∷ codes "丙" ∷ []) 0))
    ≡ Some (nasi [] (codes "甲" ∷ codes "乙" ∷ codes "丙" ∷ []) 0)
both_marks = refl

left_marks : minus_row (Some (nasi (plain (codes "丙") ∷ []) (codes "甲" ∷ codes "乙" ∷ []) 0))
    (Some (nasi (plain (codes "甲") ∷ []) (codes "乙" ∷ codes "丙" ∷ []) 0))
    ≡ Some (nasi (plain (codes "丙") ∷ []) (codes "甲" ∷ []) 0)
left_marks = refl

mark_gone : minus_row (Some (nasi [] (codes "甲" ∷ []) 0)) (Some (nasi [] (codes "甲" ∷ []) 0)) ≡ None
mark_gone = refl
