use Rattle.std.specs.Str.{chars}
use Rattle.arrayvec.specs.ArrayVec.{ArrayVec}
use Rattle.std.proofs.Common.{◌<◌, ℕ, length, rules}
use Rattle.command_line.proofs.BookNumbers.{behind-shorter, more-behind, none-behind, one-behind}
use Rattle.command_line.proofs.book_numbers.+numbers_behind.Goals as goal

-- a first part of which no number was added
pub returns-in_err-with_number-in-Some : goal.returns-in_err-with_number-in-Some
returns-in_err-with_number-in-Some t c =
    rw c.from_residual.ensures (none-behind c.args.numbers.items (chars c.args.text.now) (chars c.in-Some.first.now)
    (chars c.in-Some.rest.now) c.in-Some.ensures c.in_err-with_number-in-Some.ensures)

-- what is behind it is shorter
pub numbers_behind-requires : goal.numbers_behind-requires
numbers_behind-requires t c =
    let below : length (chars c.in-Some.rest.now) < length (chars c.args.text.now) =
    behind-shorter (chars c.args.text.now) (chars c.in-Some.first.now) (chars c.in-Some.rest.now) c.in-Some.ensures in
    (search rules, tt)

-- a text without a comma
pub returns-in-None : goal.returns-in-None
returns-in-None t c =
    one-behind (λ (all : ArrayVec ℕ). all.items) c.with_number.result c.args.numbers.items (chars c.args.text.now)
    c.in-None.ensures c.with_number.ensures

-- a first part of which the number was added
pub returns-in_ok-with_number-in-Some : goal.returns-in_ok-with_number-in-Some
returns-in_ok-with_number-in-Some t c =
    let added = c.in_ok-with_number-in-Some.ensures in
    more-behind (λ (all : ArrayVec ℕ). all.items) c.numbers_behind.result c.args.numbers.items
    c.in_ok-with_number-in-Some.field-0.items (chars c.args.text.now) (chars c.in-Some.first.now)
    (chars c.in-Some.rest.now) added.0 c.in-Some.ensures added.1 added.2 c.numbers_behind.ensures
