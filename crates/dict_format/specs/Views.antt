-- What the values of the code are to the definitions.
use Rattle.std.specs.Borrow.{Bor}
use Rattle.std.specs.Prelude.{◌≡◌, ℕ, Result, Ok, Err, List, map}
use Rattle.std.specs.Str.{chars}
use Rattle.dict_format.specs.declared.items.Item.{Item as MadeItem}
use Rattle.dict_format.specs.declared.items.Item.TheVariants.{Candidate, Block, Mark}
use Rattle.dict_format.specs.declared.reason.LineFault.{LineFault}
use Rattle.dict_format.specs.declared.reason.LineFault.TheVariants.{Reason, Memory}
use Rattle.dict_format.specs.declared.reason.LineReason.{LineReason}
use Rattle.dict_format.specs.Items.{Item}
use Rattle.dict_format.specs.Items.Item.{candidate, block, mark}

-- the characters of texts
abbrev pub texts_seen : List (Bor (List ℕ)) → List (List ℕ)
texts_seen texts = map (λ text. chars text.now) texts

-- what an item of the code says
abbrev pub item_said : MadeItem → Item
item_said (Candidate word note) = candidate word note
item_said (Block okuri words) = block okuri words.items
item_said (Mark words) = mark words.items

-- a fault tells this reason, or out of memory
abbrev pub TellsReason : {X : Type 0} → LineFault → Result X LineReason → Type 0
TellsReason (Reason reason) read = read ≡ Err reason
TellsReason Memory read = Unit {0}

-- what the code returned is what reading gives, unless memory is out
abbrev pub Gives : {X Y : Type 0} → (X → Y) → Result X LineFault → Result Y LineReason → Type 0
Gives view (Ok x) read = read ≡ Ok (view x)
Gives view (Err fault) read = TellsReason fault read
