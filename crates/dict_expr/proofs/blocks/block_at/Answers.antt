use Rattle.std.proofs.Common.{◌≡◌, ◌∙◌, None, Some, position, slice_get, sym, ap, arith}
use Rattle.std.specs.Option.{option_copied}
use Rattle.std.proofs.lemmas.Grind.{common_steps}
use Rattle.std.proofs.lemmas.Option.{gets}
use Rattle.skk_calls.specs.Rows.{okuri_of, same_text}
use Rattle.dict_expr.proofs.KnownTexts.{block_at_place, no_block}
use Rattle.dict_expr.proofs.blocks.block_at.Goals as goal

pub returns-in-Some : goal.returns-in-Some
returns-in-Some c =
    let blocks = c.args.blocks.now in
    let okuri = c.args.okuri.now in
    let place : position (same_text okuri) (okuri_of blocks) ≡ Some c.in-Some.place =
    ap (position (same_text okuri)) (sym c.requires)
    ∙ ap (λ text. position (same_text text) c.args.known.now) (sym c.text.ensures.value)
    ∙ sym c.place.ensures ∙ c.in-Some.is in
    let got : option_copied c.get.result ≡ slice_get blocks c.in-Some.place =
    grind (arith, common_steps, gets, c.get.ensures.lookup) in
    got ∙ block_at_place blocks okuri c.in-Some.place place

pub returns-in-None : goal.returns-in-None
returns-in-None c =
    let blocks = c.args.blocks.now in
    let okuri = c.args.okuri.now in
    let none : position (same_text okuri) (okuri_of blocks) ≡ None =
    ap (position (same_text okuri)) (sym c.requires)
    ∙ ap (λ text. position (same_text text) c.args.known.now) (sym c.text.ensures.value)
    ∙ sym c.place.ensures ∙ c.in-None.is in
    sym (no_block blocks okuri none)
