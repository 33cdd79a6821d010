use Rattle.std.proofs.Common.{◌≡◌, ◌∙◌, ◌∷◌, ◌++◌, [], Bor, map, ap, subst}
use Rattle.std.specs.Option.{option_copied}
use Rattle.std.proofs.lemmas.List.{map-append}
use Rattle.skk_calls.specs.declared.row.Row.{Row as DeclaredRow}
use Rattle.skk_calls.specs.Found.{without_hidden}
use Rattle.dict_layers.specs.Merging.{Merging}
use Rattle.dict_layers.proofs.BlockFirst.{by_block}
use Rattle.dict_layers.proofs.LayersAdded.{merging_none, merging_last}
use Rattle.dict_layers.proofs.merging.merged_cands.Goals as goal

pub returns : goal.returns
returns c =
    let layers = map (λ (row : Bor DeclaredRow). row.now) c.args.layers.now in
    let okuri = option_copied c.args.okuri in
    let cands = c.add_upper.new.cands in
    let passed = c.add_upper.new.passed in
    let last = c.in-Some.last.now.now in
    let all : layers ≡ map (λ (row : Bor DeclaredRow). row.now) c.in-Some.upper.now ++ last ∷ [] =
    ap (map (λ (row : Bor DeclaredRow). row.now)) c.in-Some.ensures.cases.0
    ∙ map-append (λ (row : Bor DeclaredRow). row.now) c.in-Some.upper.now (c.in-Some.last.now ∷ []) in
    merging_last layers okuri cands c.add_layer.new.cands passed last
    (c.in_ok-add_upper.ensures layers (last ∷ [])
    (rw (c.new-cands.ensures, c.new-passed.ensures)
    (subst (Merging layers okuri [] []) all (merging_none layers okuri))))
    c.in_ok-add_layer.ensures.valid
    (c.in_ok-add_layer.ensures.shown
    ∙ ap (λ kept. cands ++ without_hidden passed kept)
    (by_block last okuri (option_copied c.block_for.result) c.block_for.ensures))
