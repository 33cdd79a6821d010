use Rattle.std.proofs.Common.{◌≡◌, ◌++◌, map, true}
use Rattle.std.specs.List.{list_all}
use Rattle.skk_calls.specs.Rows.{is_block}
use Rattle.word_sets.specs.Strings.{worded}
use Rattle.dict_format.specs.Building.{valid_blocks}
use Rattle.dict_format.proofs.row.blocks_of.Given as goal

-- the blocks so far and those that are left, each of which is one, are all
abbrev pub invariant-loop-okuri : goal.invariant-loop-okuri
invariant-loop-okuri l = record {
  all : l.blocks ++ valid_blocks (map worded l.okuri-iterator) ≡ valid_blocks l.fn.joined;
  valid : list_all is_block (valid_blocks (map worded l.okuri-iterator)) ≡ true;
}
