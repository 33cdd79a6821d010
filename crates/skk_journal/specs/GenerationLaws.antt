-- Which of two files counts by their generations.
use Rattle.std.proofs.Common.{◌≡◌, ℕ, Bool, true, false, not, ◌==◌, nat_lt}
use Rattle.std.proofs.Common.{if◌then◌else◌, refl}
use Rattle.skk_disk.specs.declared.which.Which.{Which}
use Rattle.skk_disk.specs.declared.which.Which.TheVariants.{A, B}
use Rattle.skk_journal.specs.Generations.{one_more}
use Rattle.skk_journal.specs.Generations.{file_counts}

picks_first : (x y z : Bool) → x ≡ false → y ≡ true → (if x then false else if y then true else z) ≡ true
picks_first true y z off on = cc
picks_first false true z off on = refl
picks_first false false z off on = cc

picks_second : (x y : Bool) → x ≡ true → not (if x then false else y) ≡ true
picks_second true y on = refl
picks_second false y on = cc

-- the file whose generation comes next after the other's counts
pub next_counts : (file : Which) (own older : ℕ) → (own == one_more older) ≡ true → (older == one_more own) ≡ false
    → file_counts file own older ≡ true
next_counts A own older next back =
    picks_first (older == one_more own) (own == one_more older) (not (nat_lt own older)) back next
next_counts B own older next back =
    picks_second (own == one_more older) (if older == one_more own then true else not (nat_lt older own)) next
