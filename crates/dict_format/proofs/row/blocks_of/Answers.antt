use Rattle.std.proofs.Common.{◌≡◌, ◌++◌, ◌∷◌, [], ◌∙◌, map, sym, ap, append_assoc}
use Rattle.std.specs.List.{list_all}
use Rattle.std.proofs.lemmas.Bool.{and_parts}
use Rattle.std.proofs.lemmas.List.Elements.{filter-append}
use Rattle.std.proofs.lemmas.List.Folds.{list_all-append}
use Rattle.skk_calls.specs.Rows.{is_block, is_okuri}
use Rattle.word_sets.specs.Strings.{characters, worded}
use Rattle.dict_format.specs.Building.{as_block, valid_blocks}
use Rattle.dict_format.proofs.row.blocks_of.Goals as goal

pub loop-okuri-preserved : goal.loop-okuri-preserved
loop-okuri-preserved c =
    let left = map worded c.next.new.self in
    let first = valid_blocks ((characters c.in-Some.okuri, c.in-Some.words) ∷ []) in
    let rest = valid_blocks left in
    let split : valid_blocks (map worded c.loop-okuri.okuri-iterator) ≡ first ++ rest =
    ap (λ pairs. valid_blocks (map worded pairs)) c.in-Some.ensures.steps
    ∙ filter-append (λ b. is_okuri b.okuri) (as_block (characters c.in-Some.okuri, c.in-Some.words) ∷ [])
    (map as_block left) in
    record {
      all =
          ap (λ blocks. blocks ++ rest) c.in_ok-push_block.ensures ∙ append_assoc c.loop-okuri.blocks first rest
          ∙ ap (λ blocks. c.loop-okuri.blocks ++ blocks) (sym split) ∙ c.loop-okuri.invariant.all;
      valid =
          (and_parts (list_all is_block first) (list_all is_block rest) (sym (list_all-append is_block first rest)
          ∙ ap (list_all is_block) (sym split) ∙ c.loop-okuri.invariant.valid)).1;
    }
