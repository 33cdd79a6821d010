-- Where bytes stand that go on from others.
use Rattle.std.proofs.Common.{◌≡◌, ℕ, ◌<◌, true, false, List, [], ◌∷◌, ◌++◌, refl, sym, ap, subst, ◌∙◌}
use Rattle.std.proofs.Common.{Ordering, Less, Equal, Greater}
use Rattle.std.specs.Ordering.{nat_cmp, ordering_reverse, MatchOrdering}
use Rattle.std.proofs.lemmas.Bool.{both_ways}
use Rattle.std.proofs.lemmas.Cmp.{nat_cmp_total, ranked, tied_itself}
use Rattle.ordered_lists.specs.KeyOrders.{bytes_less}

-- bytes stand before what goes on from them
pub longer_less : (bytes : List ℕ) (c : ℕ) (rest : List ℕ) → bytes_less bytes (bytes ++ c ∷ rest) ≡ true
longer_less [] c rest = refl
longer_less (b ∷ bytes) c rest = rw (tied_itself nat_cmp_total b) (longer_less bytes c rest)

-- between them stands only what goes on from them
pub between : (bytes x ys : List ℕ) → bytes_less bytes x ≡ true → bytes_less x (bytes ++ ys) ≡ true
    → (xs : List ℕ) × (x ≡ bytes ++ xs)
between [] x ys low high = (x, refl)
between (b ∷ bytes) [] ys low high = absurd (both_ways false refl low)
between (b ∷ bytes) (c ∷ x) ys low high = by (nat_cmp b c) refl (between bytes x ys)
  where
    by : (o : Ordering) → nat_cmp b c ≡ o
        → (bytes_less bytes x ≡ true → bytes_less x (bytes ++ ys) ≡ true → (xs : List ℕ) × (x ≡ bytes ++ xs))
        → (xs : List ℕ) × ((c ∷ x) ≡ (b ∷ bytes) ++ xs)
    by Less e later =
        let other : nat_cmp c b ≡ Greater = nat_cmp_total.antisymm c b ∙ ap ordering_reverse e in
        absurd (both_ways (bytes_less (c ∷ x) ((b ∷ bytes) ++ ys)) (rw other refl) high)
    by Equal e later =
        let same : b ≡ c = subst (λ o. MatchOrdering o (b < c) (b ≡ c) (c < b)) e (ranked b c (nat_cmp b c) refl) in
        let other : nat_cmp c b ≡ Equal = nat_cmp_total.antisymm c b ∙ ap ordering_reverse e in
        let rest = later (rw e at low) (rw other at high) in
        (rest.0, ap (λ n. n ∷ x) (sym same) ∙ ap (λ bs. b ∷ bs) rest.1)
    by Greater e later = absurd (both_ways (bytes_less (b ∷ bytes) (c ∷ x)) (rw e refl) low)
