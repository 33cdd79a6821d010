use Rattle.std.proofs.Common.{◌≡◌, ◌<◌, ◌+◌, ◌∷◌, ◌++◌, ◌∙◌, ℕ, Option, List, [], length, get_or, map, take, ap, sym}
use Rattle.std.specs.List.{cons_option, filter_map}
use Rattle.std.proofs.lemmas.List.{append-nil, map-append, take_more}
use Rattle.std.proofs.lemmas.List.Elements.{filter_map-append}
use Rattle.skk_calls.specs.States.{row_in}
use Rattle.dict_layers.specs.SystemFiles.{rows_in}
use Rattle.dict_layers.proofs.system.System.find.Goals as goal
use Rattle.dict_layers.proofs.system.System.find.Goals.{in-Some+in_ok-push, in_default}

-- what is found in one file more
found_more : {X Y Z : Type 0} (h : Y → Option Z) (f : X → Y) (xs : List X) (i : ℕ) (d : X) → i < length xs
    → filter_map h (map f (take (i + 1) xs))
    ≡ filter_map h (map f (take i xs)) ++ cons_option (h (f (get_or xs i d))) []
found_more h f xs i d low =
    ap (λ ys. filter_map h (map f ys)) (take_more xs i d low)
    ∙ ap (filter_map h) (map-append f (take i xs) (get_or xs i d ∷ []))
    ∙ filter_map-append h (map f (take i xs)) (f (get_or xs i d) ∷ [])

pub loop-file-preserved : goal.loop-file-preserved
loop-file-preserved c =
    let files = c.as_slice-file-items.result.now in
    let i = c.loop-file.file-index in
    let row_of = row_in c.args.key.now in
    let so_far = filter_map row_of (map rows_in (take i files)) in
    let more = found_more row_of rows_in files i c.file-item.result c.loop-file-test.true in
    let here = c.in_ok-row.ensures ∙ ap (λ file. row_of (rows_in file)) c.file-item.is in
    elim c.match-branch-2.branch [
      | in-Some+in_ok-push w ↦
          w.found-is ∙ w.in_ok-push.ensures.ok ∙ ap (λ rows. rows ++ w.in-Some.row ∷ []) c.loop-file.invariant
          ∙ ap (λ r. so_far ++ cons_option r []) (sym w.in-Some.is ∙ here) ∙ sym more
      | in_default w ↦
          w.found-is ∙ c.loop-file.invariant
          ∙ sym (more ∙ ap (λ r. so_far ++ cons_option r []) (sym here ∙ w.in_default.is) ∙ append-nil so_far)
    ]
