-- What is written of the plans of a group.
use Rattle.std.specs.Prelude.{◌≡◌, ⊤, ℕ, true, Option, None, Some, List}
use Rattle.std.specs.List.{filter_map}
use Rattle.std.specs.Str.{all_scalars}
use Rattle.skk_calls.specs.Canonical.{canonical, is_good}
use Rattle.learn_index.specs.declared.plan.Plan.{Plan}
use Rattle.learn_index.specs.declared.plan.Plan.TheVariants.{Still, Move, Lists}
use Rattle.learned_store.specs.Payloads.{are_held, put_bytes}

-- the payload of the record that puts the row of a plan, where it puts one
abbrev pub put_payload : Plan → Option (List ℕ)
put_payload (Move book count key (Some row) reply) = Some (put_bytes book count row)
put_payload plan = None

-- those of plans, in order
abbrev pub put_payloads : List Plan → List (List ℕ)
put_payloads plans = filter_map put_payload plans

-- a plan changes nothing, or puts a row that may be written as far as no character has a say in it
abbrev pub PutsGood : Plan → Type 0
PutsGood (Still reply) = ⊤
PutsGood (Move book count key None reply) = ⊥
PutsGood (Move book count key (Some row) reply) = is_good row ≡ true
PutsGood (Lists who list reply) = ⊥

-- the row of a plan, where it puts one, is spelled of characters
abbrev pub PutsCharacters : Plan → Type 0
PutsCharacters (Move book count key (Some row) reply) = all_scalars (canonical row) ≡ true
PutsCharacters plan = ⊤

-- the number of the book and the count of a plan that puts a row can be held by their bytes
abbrev pub PutsHeld : Plan → Type 0
PutsHeld (Move book count key (Some row) reply) = are_held book count ≡ true
PutsHeld plan = ⊤
