use Rattle.std.proofs.Common.{◌≡◌, ◌≤◌, true, take}
use Rattle.std.specs.List.{list_all}
use Rattle.dict_expr.specs.Books.{says_something}
use Rattle.skk_top.proofs.Exprs.{ComesTo}
use Rattle.skk_top.proofs.expr_command.put_together.Given as goal

-- the rows are what the dictionaries so far come to, and each says something
abbrev pub invariant-loop-place : goal.invariant-loop-place
invariant-loop-place g l = record {
  come : ComesTo (g.H.Shelf.file l.fn.shelf) l.options.first (take l.place l.terms) l.book;
  say : list_all says_something l.book ≡ true;
  kept : g.H.Shelf.file l.shelf ≡ g.H.Shelf.file l.fn.shelf;
  counted : g.H.Shelf.faults l.fn.shelf ≤ g.H.Shelf.faults l.shelf;
}
