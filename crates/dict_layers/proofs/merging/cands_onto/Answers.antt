use Rattle.std.proofs.Common.{◌≡◌, ◌∙◌, ◌∷◌, ◌++◌, [], not, Option, None, Some, Bor, List, length, map, refl, sym, ap}
use Rattle.std.specs.Option.{is_some, option_copied}
use Rattle.std.proofs.lemmas.Bool.{eqb-true}
use Rattle.std.proofs.lemmas.List.{nil_from_length}
use Rattle.skk_calls.specs.Found.{merged}
use Rattle.skk_calls.specs.declared.row.Row.{Row as DeclaredRow}
use Rattle.dict_layers.proofs.LayersAdded.{merged_alone, merging_none, merging_last}
use Rattle.dict_layers.proofs.merging.cands_onto.Goals as goal

-- whether a block was found does not tell of its place
as_found : {B : Type 0} (block : Option (Bor B)) → is_some (option_copied block) ≡ is_some block
as_found None = refl
as_found (Some block) = refl

pub returns-then-is_none : goal.returns-then-is_none
returns-then-is_none c =
    let okuri = option_copied c.args.okuri in
    let upper = c.args.upper.now in
    let none : upper ≡ [] =
    nil_from_length upper (eqb-true (length upper) 0 (sym c.is_empty.ensures ∙ c.if-is_empty.true)) in
    c.into_cands.ensures.value
    ∙ merged_alone c.args.last okuri c.into_cands.ensures.valid
    (ap is_some (sym c.block_for.ensures) ∙ as_found c.block_for.result ∙ c.is_none.ensures ∙ ap not c.if-is_none.true)
    ∙ ap (λ (rows : List (Bor DeclaredRow)).
    merged (map (λ (row : Bor DeclaredRow). row.now) rows ++ c.args.last ∷ []) okuri) (sym none)

pub returns : goal.returns
returns c =
    let layers = map (λ (row : Bor DeclaredRow). row.now) c.args.upper.now ++ c.args.last ∷ [] in
    let okuri = option_copied c.args.okuri in
    merging_last layers okuri c.add_upper.new.cands c.move_layer.new.cands c.add_upper.new.passed c.args.last
    (c.in_ok-add_upper.ensures layers (c.args.last ∷ [])
    (rw (c.new-cands.ensures, c.new-passed.ensures) (merging_none layers okuri)))
    c.in_ok-move_layer.ensures.valid c.in_ok-move_layer.ensures.shown
