use Rattle.std.proofs.Common.{◌∙◌, ap, not}
use Rattle.std.specs.List.{filter}
use Rattle.std.proofs.lemmas.List.Elements.{All-filter}
use Rattle.std.proofs.lemmas.Result.{IfOk-weaker}
use Rattle.skk_text.specs.FilterLaws.{filter_within, list_all_kept}
use Rattle.skk_text.specs.PairsLaws.{all_pairs-filter}
use Rattle.dict_files.specs.declared.place.Place.{Place}
use Rattle.dict_files.specs.FilePlaces.{IsValid, first_row, has_reading, is_below, rises}
use Rattle.dict_files.proofs.InOrder.{not_below}
use Rattle.dict_files.proofs.searching.row_of.Goals as goal

pub first_row-requires : goal.first_row-requires
first_row-requires c =
    let bytes = c.args.bytes.now in
    let kept = λ (place : Place). not (is_below bytes c.args.reading.now place) in
    rw c.behind.ensures (record {
      valid = All-filter kept (IsValid bytes) c.args.places.now c.requires.valid;
      rise = all_pairs-filter (rises bytes) kept c.args.places.now c.requires.rise;
      least = list_all_kept kept c.args.places.now;
    })

pub returns : goal.returns
returns c =
    let bytes = c.args.bytes.now in
    let reading = c.args.reading.now in
    let all = filter_within (λ place. not (is_below bytes reading place)) (has_reading bytes reading)
    (not_below bytes reading) c.args.places.now in
    IfOk-weaker c.first_row.result _ _
    (λ row is. is ∙ ap (first_row c.args.part bytes)
    (ap (filter (has_reading bytes reading)) c.behind.ensures ∙ all)) c.first_row.ensures
