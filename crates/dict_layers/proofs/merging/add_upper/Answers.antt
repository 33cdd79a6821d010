use Rattle.std.proofs.Common.{◌≡◌, ◌∙◌, ◌∷◌, ◌++◌, ◌+◌, ◌<◌, ◌||◌, ℕ, List, Bor, length, get_or, map, drop, ap, sym}
use Rattle.std.proofs.Common.{subst}
use Rattle.std.specs.Option.{option_copied}
use Rattle.std.proofs.lemmas.List.{drop_more, drop_all}
use Rattle.skk_calls.specs.declared.row.Row.{Row as DeclaredRow}
use Rattle.skk_calls.specs.Found.{without_hidden}
use Rattle.skk_calls.specs.Rows.{Row, has_text, words_of}
use Rattle.dict_layers.specs.Merging.{Merging}
use Rattle.dict_layers.proofs.BlockFirst.{by_block}
use Rattle.dict_layers.proofs.LayersAdded.{merging_more}
use Rattle.dict_layers.proofs.merging.add_upper.Goals as goal

-- the row of this turn and those behind it
rows_left : (rows : List (Bor DeclaredRow)) (i : ℕ) (row : Bor DeclaredRow) (below : List Row) → i < length rows
    → row ≡ get_or rows i row
    → map (λ (r : Bor DeclaredRow). r.now) (drop i rows) ++ below
    ≡ row.now ∷ (map (λ (r : Bor DeclaredRow). r.now) (drop (i + 1) rows) ++ below)
rows_left rows i row below low here =
    ap (λ left. map (λ (r : Bor DeclaredRow). r.now) left ++ below) (drop_more rows i row low)
    ∙ ap (λ (r : Bor DeclaredRow). r.now ∷ (map (λ (s : Bor DeclaredRow). s.now) (drop (i + 1) rows) ++ below))
    (sym here)

pub loop-row-preserved : goal.loop-row-preserved
loop-row-preserved c = λ all below start.
    let okuri = option_copied c.args.okuri in
    let cands = c.loop-row.cands in
    let passed = c.loop-row.passed in
    let rows = c.args.layers.now in
    let i = c.loop-row.row-index in
    let row = c.row-item.result.now in
    let same = by_block row okuri (option_copied c.block_for-block.result) c.block_for-block.ensures in
    merging_more all okuri cands c.add_layer.new.cands passed c.pass_layer.new.passed row
    (map (λ (r : Bor DeclaredRow). r.now) (drop (i + 1) rows) ++ below)
    (subst (Merging all okuri cands passed)
    (rows_left rows i c.row-item.result below c.loop-row-test.true c.row-item.is)
    (c.loop-row.invariant all below start))
    c.in_ok-add_layer.ensures.valid
    (c.in_ok-add_layer.ensures.shown ∙ ap (λ kept. cands ++ without_hidden passed kept) same)
    (λ text.
    c.in_ok-pass_layer.ensures text
    ∙ ap (λ kept. has_text passed text || (has_text (words_of kept) text || has_text row.hides text)) same)

pub returns : goal.returns
returns c = λ all below start.
    subst (Merging all (option_copied c.args.okuri) c.loop-row.cands c.loop-row.passed)
    (ap (λ left. map (λ (r : Bor DeclaredRow). r.now) left ++ below)
    (drop_all c.loop-row.row-index c.args.layers.now c.loop-row-test.false)) (c.loop-row.invariant all below start)
