-- Keys of the plain state, case by case.
use Rattle.std.proofs.Common.{◌≡◌, ◌≢◌, ◌≤◌, ◌==◌, inl, inr, ℕ, true, false, ◌&&◌, nat_le, [], List, Some, arith, refl}
use Rattle.std.proofs.lemmas.Bool.Decides.{eqb_tells}
use Rattle.std.specs.Char.{to_ascii_lowercase}
use Rattle.romaji_rules.specs.Typed.{extends_pending}
use Rattle.romaji_rules.specs.declared.rule.Rule.{Rule}
use Rattle.kana_input.specs.Plain.{kana_char_step, flush_step}
use Rattle.kana_input.specs.declared.plain.Plain.{Plain}
use Rattle.kana_input.specs.declared.plain.PlainThen.TheVariants.{OpenReading}

-- numbers that differ fail the test
unequal : (a b : ℕ) → a ≢ b → (a == b) ≡ false
unequal a b differ = elim (eqb_tells a b) [ inl e ↦ absurd (differ e.1) | inr e ↦ e.0 ]

-- an upper-case letter but for `L` and `Q` opens a reading with its lower-case letter
pub kana_char-upper : (rules : List Rule) (plain : Plain) (c : ℕ) → extends_pending rules plain.pending c ≡ false
    → 65 ≤ c → c ≤ 90 → c ≢ 76 → c ≢ 81
    → kana_char_step rules plain c ≡ flush_step rules plain plain.mode [] (OpenReading (Some (to_ascii_lowercase c)))
kana_char-upper rules plain c waits from to no_l no_q =
    let upper : (nat_le 0x41 c && nat_le c 0x5A) ≡ true = grind (arith, from, to) in
    rw (
      waits,
      unequal c 0x20 (omega arith),
      unequal c 0x71 (omega arith),
      unequal c 0x6C (omega arith),
      unequal c 0x4C no_l,
      unequal c 0x51 no_q,
      unequal c 0x2F (omega arith),
      upper,
    ) refl
