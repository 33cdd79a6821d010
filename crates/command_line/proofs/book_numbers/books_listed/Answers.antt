use Rattle.std.proofs.Common.{◌≡◌, ◌∙◌, sym, ap, Some, []}
use Rattle.std.specs.Str.{chars}
use Rattle.command_line.specs.Words.{numbers_in, with_front}
use Rattle.command_line.proofs.BookNumbers.{made-listed}
use Rattle.command_line.proofs.book_numbers.books_listed.Goals as goal

-- numbers that were read, as a list
pub returns : goal.returns
returns c =
    let numbers = numbers_in (chars c.args.text.now) in
    let read : with_front [] numbers ≡ Some c.as_slice.result.now =
    ap (λ before. with_front before numbers) (sym c.new.ensures) ∙ c.in_ok-numbers.ensures
    ∙ ap Some (sym c.as_slice.ensures.value) in
    c.ok.ensures.value
    ∙ made-listed numbers c.as_slice.result.now c.new-2.result read c.new-2.ensures.ok c.new-2.ensures.count
    c.new-2.ensures.twice
