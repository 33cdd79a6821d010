use Rattle.std.proofs.Common.{◌≡◌, ◌∙◌, ◌∷◌, ◌++◌, [], true, false, not, Bor, List, Option, None, Some, map, refl}
use Rattle.std.proofs.Common.{sym, ap}
use Rattle.std.specs.Option.{is_some, option_copied}
use Rattle.skk_text.specs.Lists.{is_empty}
use Rattle.skk_calls.specs.Found.{merged}
use Rattle.skk_calls.specs.Rows.{texts_differ, words_of}
use Rattle.skk_calls.specs.declared.row.Row.{Row as DeclaredRow}
use Rattle.dict_layers.specs.Blocks.{block_for}
use Rattle.dict_layers.proofs.LayersAdded.{merged_alone, merged_differ}
use Rattle.dict_layers.proofs.merging.merge_onto.Goals as goal

-- where there is none, there is none behind the reference
none_there : {B : Type 0} (okuri : Option (Bor B)) → is_some okuri ≡ false → option_copied okuri ≡ None
none_there None none = refl
none_there (Some okuri) none = cc

-- a list without an item
no_items : {X : Type 0} (xs : List X) → is_empty xs ≡ true → xs ≡ []
no_items [] none = refl
no_items (x ∷ xs) none = cc

pub returns-then-is_none : goal.returns-then-is_none
returns-then-is_none c =
    let okuri = option_copied c.args.okuri in
    c.into_cands.ensures.value
    ∙ merged_alone c.args.last okuri c.into_cands.ensures.valid
    (ap (λ none. is_some (block_for none c.args.last.blocks))
    (none_there c.args.okuri (c.is_none.ensures ∙ ap not c.if-is_none.true)))
    ∙ ap (λ (rows : List (Bor DeclaredRow)).
    merged (map (λ (row : Bor DeclaredRow). row.now) rows ++ c.args.last ∷ []) okuri)
    (sym (no_items c.args.upper.now (sym c.is_empty.ensures ∙ c.if-is_empty.true)))

pub new-cands-requires : goal.new-cands-requires
new-cands-requires c =
    ap (λ cands. texts_differ (words_of cands)) c.in_ok-cands.ensures
    ∙ merged_differ (map (λ row. row.now) c.as_slice.result.now ++ c.in_ok-into_row.field-0 ∷ [])
    (option_copied c.args.okuri)
