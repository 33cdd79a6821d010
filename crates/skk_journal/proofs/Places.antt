-- What a torn write, and a whole one, leave of a file around a byte.
use Rattle.std.proofs.Common.{◌≡◌, ℕ, ◌+◌, ◌-◌, ◌<◌, ◌≤◌, inl, inr, List, [], ◌∷◌, ◌++◌, length, get_or, take, drop}
use Rattle.std.proofs.Common.{replicate, sym, ◌∙◌, ap, arith, append_assoc, length-append, length-drop}
use Rattle.std.proofs.Common.{take-append-drop}
use Rattle.std.proofs.lemmas.List.{take_at, drop_at, drop-drop, ext_get_or, get_or-take, get_or-drop}
use Rattle.std.proofs.lemmas.List.{length-take-le, length_push, drop_more}
use Rattle.skk_disk.specs.Steps.{Range, PartlyWritten, placed}

-- the bytes before the place of a torn write stay
torn_front : (range : Range) (k : ℕ) (old new : List ℕ) → PartlyWritten range old new → k ≤ range.at → k ≤ length old
    → take k new ≡ take k old
torn_front range k old new torn below within =
    let long : k ≤ length new = omega (arith, torn.at_least) in
    ext_get_or 0 (take k new) (take k old) (length-take-le k new long ∙ sym (length-take-le k old within)) (λ p small.
    let under : p < k = omega (arith, length-take-le k new long) in
    get_or-take k new p 0 under ∙ torn.kept p (omega arith) (inl (omega arith)) ∙ sym (get_or-take k old p 0 under))

-- so do those behind it, where the file reached past its end
torn_back : (range : Range) (old new : List ℕ) → PartlyWritten range old new → range.at + range.count ≤ length old
    → drop (range.at + range.count) new ≡ drop (range.at + range.count) old
torn_back range old new torn within =
    let end = range.at + range.count in
    let same : length new ≡ length old = omega (arith, torn.at_least, torn.at_most) in
    let long : length (drop end new) ≡ length (drop end old) =
    omega (arith, same, length-drop end new, length-drop end old) in
    ext_get_or 0 (drop end new) (drop end old) long (λ p small.
    let under : end + p < length old = omega (arith, same, length-drop end new) in
    get_or-drop end new p 0 ∙ torn.kept (end + p) under (inr (omega arith)) ∙ sym (get_or-drop end old p 0))

one_behind : (pre : List ℕ) (gate : ℕ) (rest : List ℕ) → pre ++ gate ∷ rest ≡ (pre ++ gate ∷ []) ++ rest
one_behind pre gate rest = sym (append_assoc pre (gate ∷ []) rest)

-- a write behind a byte leaves what stands up to it
pub torn_behind : (at n : ℕ) (pre : List ℕ) (gate : ℕ) (rest new : List ℕ) → at ≡ length pre + 1
    → PartlyWritten (record { at = at; count = n }) (pre ++ gate ∷ rest) new → new ≡ pre ++ gate ∷ drop at new
torn_behind at n pre gate rest new is torn =
    let old = pre ++ gate ∷ rest in
    let long : at ≤ length old = omega (arith, length-append pre (gate ∷ rest)) in
    let head : take at new ≡ pre ++ gate ∷ [] =
    torn_front (record { at = at; count = n }) at old new torn (omega arith) long
    ∙ ap (λ (l : List ℕ). take at l) (one_behind pre gate rest)
    ∙ take_at (pre ++ gate ∷ []) rest at (length_push pre gate ∙ sym is) in
    sym (take-append-drop at new) ∙ ap (λ (l : List ℕ). l ++ drop at new) head
    ∙ append_assoc pre (gate ∷ []) (drop at new)

-- a write of one byte leaves all others
pub torn_at : (at : ℕ) (pre : List ℕ) (gate : ℕ) (rest new : List ℕ) → at ≡ length pre
    → PartlyWritten (record { at = at; count = 1 }) (pre ++ gate ∷ rest) new → new ≡ pre ++ get_or new at 0 ∷ rest
torn_at at pre gate rest new is torn =
    let old = pre ++ gate ∷ rest in
    let whole = length-append pre (gate ∷ rest) in
    let head : take at new ≡ pre =
    torn_front (record { at = at; count = 1 }) at old new torn (omega arith) (omega (arith, whole))
    ∙ take_at pre (gate ∷ rest) at (sym is) in
    let tail : drop (at + 1) new ≡ rest =
    torn_back (record { at = at; count = 1 }) old new torn (omega (arith, whole))
    ∙ ap (λ (l : List ℕ). drop (at + 1) l) (one_behind pre gate rest)
    ∙ drop_at (pre ++ gate ∷ []) rest (at + 1) (omega (arith, length_push pre gate)) in
    sym (take-append-drop at new) ∙ ap (λ (l : List ℕ). l ++ drop at new) head
    ∙ ap (λ (l : List ℕ). pre ++ l) (drop_more new at 0 (omega (arith, torn.at_least, whole))
    ∙ ap (λ (l : List ℕ). get_or new at 0 ∷ l) tail)

pub no_gap : (at : ℕ) (file : List ℕ) → at ≤ length file → replicate {A = ℕ} (at - length file) 0 ≡ []
no_gap at file within =
    let none : at - length file ≡ 0 = omega arith in ap (λ (n : ℕ). replicate {A = ℕ} n 0) none

-- bytes that are placed behind a byte
pub placed_behind : (at : ℕ) (bytes pre : List ℕ) (gate : ℕ) (rest : List ℕ) → at ≡ length pre + 1
    → placed at bytes (pre ++ gate ∷ rest) ≡ pre ++ gate ∷ (bytes ++ drop (length bytes) rest)
placed_behind at bytes pre gate rest is =
    let whole = length-append pre (gate ∷ rest) in
    let pushed = length_push pre gate in
    let file = pre ++ gate ∷ rest in
    let tail = drop (at + length bytes) file in
    let head : take at file ≡ pre ++ gate ∷ [] =
    ap (λ (l : List ℕ). take at l) (one_behind pre gate rest) ∙ take_at (pre ++ gate ∷ []) rest at (pushed ∙ sym is) in
    let from : drop at file ≡ rest =
    ap (λ (l : List ℕ). drop at l) (one_behind pre gate rest) ∙ drop_at (pre ++ gate ∷ []) rest at (pushed ∙ sym is) in
    let back : tail ≡ drop (length bytes) rest =
    sym (drop-drop (length bytes) at file) ∙ ap (λ (l : List ℕ). drop (length bytes) l) from in
    ap (λ (l : List ℕ). l ++ (replicate (at - length file) 0 ++ (bytes ++ tail))) head
    ∙ ap (λ (l : List ℕ). (pre ++ gate ∷ []) ++ (l ++ (bytes ++ tail))) (no_gap at file (omega (arith, whole)))
    ∙ ap (λ (l : List ℕ). (pre ++ gate ∷ []) ++ (bytes ++ l)) back
    ∙ append_assoc pre (gate ∷ []) (bytes ++ drop (length bytes) rest)

-- a byte that is placed in place of another one
pub placed_at : (at byte : ℕ) (pre : List ℕ) (gate : ℕ) (rest : List ℕ) → at ≡ length pre
    → placed at (byte ∷ []) (pre ++ gate ∷ rest) ≡ pre ++ byte ∷ rest
placed_at at byte pre gate rest is =
    let whole = length-append pre (gate ∷ rest) in
    let file = pre ++ gate ∷ rest in
    let tail = drop (at + 1) file in
    let back : tail ≡ rest =
    ap (λ (l : List ℕ). drop (at + 1) l) (one_behind pre gate rest)
    ∙ drop_at (pre ++ gate ∷ []) rest (at + 1) (omega (arith, length_push pre gate)) in
    ap (λ (l : List ℕ). l ++ (replicate (at - length file) 0 ++ (byte ∷ tail))) (take_at pre (gate ∷ rest) at (sym is))
    ∙ ap (λ (l : List ℕ). pre ++ (l ++ (byte ∷ tail))) (no_gap at file (omega (arith, whole)))
    ∙ ap (λ (l : List ℕ). pre ++ byte ∷ l) back
