use Rattle.std.proofs.Common.{◌≡◌, ◌≤◌, ◌++◌, take}
use Rattle.command_line.specs.Words.{with_commas}
use Rattle.skk_top.proofs.share_command.push_books.Given as goal

-- what was added are the numbers so far, with a comma between, from the first on
abbrev pub invariant-loop-place : goal.invariant-loop-place
invariant-loop-place l = record {
  from : 1 ≤ l.place;
  added : l.page ≡ l.fn.page ++ with_commas (take l.place l.books);
}
