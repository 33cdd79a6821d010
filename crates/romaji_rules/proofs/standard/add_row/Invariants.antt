use Rattle.std.proofs.Common.{◌≡◌, ◌++◌, take, codes}
use Rattle.std.specs.Str.{chars}
use Rattle.romaji_rules.specs.Standard.{row_rules}
use Rattle.romaji_rules.specs.Table.{texts}
use Rattle.romaji_rules.proofs.standard.add_row.Given as goal

abbrev pub invariant-loop-place : goal.invariant-loop-place
invariant-loop-place l =
    l.rules.items ≡ l.fn.rules.items
    ++ row_rules l.before (chars l.stem) (take l.place (codes "aiueo")) (texts (take l.place l.endings))
