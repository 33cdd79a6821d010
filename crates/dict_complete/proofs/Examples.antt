-- Examples of the readings that a completion joins.
use Rattle.std.proofs.Common.{◌≡◌, [], ◌∷◌, map, codes, refl}
use Rattle.dict_complete.specs.Joined.{completions_among, with_more}

-- two books and two files that share readings: each reading comes once, where it comes first. What a file has that
-- does not go on from the prefix, and the prefix itself, do not come
joined : completions_among ((codes "ad" ∷ codes "ab" ∷ []) ∷ (codes "ac" ∷ codes "ad" ∷ []) ∷ [])
    ((codes "a" ∷ codes "ab" ∷ codes "ae" ∷ codes "b" ∷ []) ∷ (codes "aa" ∷ codes "ac" ∷ codes "ae" ∷ []) ∷ [])
    (codes "a")
    ≡ codes "ad" ∷ codes "ab" ∷ codes "ac" ∷ codes "ae" ∷ codes "aa" ∷ []
joined = refl

-- one reading more, up to the limit, and none that is there
added : map (λ limit. with_more limit (codes "ab" ∷ codes "ac" ∷ []) (codes "aa")) (1 ∷ 2 ∷ 3 ∷ [])
    ≡ (codes "ab" ∷ codes "ac" ∷ []) ∷ (codes "ab" ∷ codes "ac" ∷ [])
    ∷ (codes "ab" ∷ codes "ac" ∷ codes "aa" ∷ []) ∷ []
added = refl

there_already : with_more 9 (codes "ab" ∷ codes "ac" ∷ []) (codes "ab") ≡ codes "ab" ∷ codes "ac" ∷ []
there_already = refl
