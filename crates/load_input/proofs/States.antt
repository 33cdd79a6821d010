-- States of the generator.
use Rattle.std.proofs.Common.{◌≡◌, ◌∙◌, ap, ℕ, ◌+◌, ◌*◌, ◌%◌, ◌^◌, arith}
use Rattle.std.proofs.Math.Nat.{mod-add-mod}
use Rattle.load_input.specs.Draws.{next_state}

-- a remainder may be taken before a number is added, or after it
pub wrapped : (state : ℕ) → ((state * 6364136223846793005) % 2 ^ 64 + 1442695040888963407) % 2 ^ 64 ≡ next_state state
wrapped state =
    let turned : state * 6364136223846793005 ≡ 6364136223846793005 * state = omega arith in
    mod-add-mod (state * 6364136223846793005) (2 ^ 64) 1442695040888963407
    ∙ ap (λ n. (n + 1442695040888963407) % 2 ^ 64) turned
