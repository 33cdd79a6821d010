use Rattle.std.proofs.Common.{◌≡◌, ◌∙◌, ◌+◌, ◌<◌, Bor, List, [], ◌∷◌, ◌++◌, Option, drop, length, map, take, subst, sym}
use Rattle.std.proofs.Common.{ap, arith}
use Rattle.std.specs.List.{list_all}
use Rattle.std.specs.Option.{option_copied}
use Rattle.std.proofs.lemmas.List.{map-append, take_more}
use Rattle.skk_calls.specs.Rows.{Row}
use Rattle.dict_expr.proofs.Paired.{one_part}
use Rattle.dict_expr.proofs.Steps.{front}
use Rattle.dict_expr.proofs.Walks.{Stands, walk_on}
use Rattle.dict_expr.specs.Pairs.{are_of_one_part, paired, seen}
use Rattle.dict_expr.specs.Walking.{first_of, rows_from}
use Rattle.dict_expr.proofs.pairs.pairs.Goals as goal

abbrev value_of : Bor Row → Row
value_of row = row.now

pub loop-row-preserved : goal.loop-row-preserved
loop-row-preserved c =
    let rows = c.args.rows.now in
    let others = map value_of c.args.others.now in
    let row = c.row-item.result in
    let place = c.loop-row.row-index in
    let pairs = c.loop-row.pairs.items in
    let rest = map value_of c.loop-row.rest.now in
    let left = map value_of c.rows_from-rest.result.now in
    let behind = map value_of (drop (place + 1) rows) in
    let low : place < length rows = omega arith in
    let ahead : map value_of (drop place rows) ≡ row.now ∷ behind =
    ap (map value_of) (front rows place row low c.row-item.is) in
    let stands : Stands others rest (row.now ∷ behind) =
    subst (λ (rs : List Row). Stands others rest rs) ahead c.loop-row.invariant.1 in
    let left_is : left ≡ rows_from row.now.key rest =
    c.rows_from-rest.ensures ∙ ap (λ key. rows_from key rest) c.key.ensures.value in
    let found : option_copied c.first_of.result ≡ first_of row.now.key left =
    c.first_of.ensures ∙ ap (λ key. first_of key left) c.key-in-loop-row.ensures.value in
    let next =
    walk_on others rest left row.now (map value_of (take place rows)) behind (seen pairs)
    (option_copied c.first_of.result) c.loop-row.invariant.0 stands left_is found in
    let pushed : seen c.push.new.self.items ≡ seen pairs ++ (row.now, option_copied c.first_of.result) ∷ [] =
    ap seen c.in_ok-push.ensures.items
    ∙ map-append (λ (pair : Bor Row × Option (Bor Row)). (pair.0.now, option_copied pair.1)) pairs
    ((row, c.first_of.result) ∷ []) in
    let done : map value_of (take (place + 1) rows) ≡ map value_of (take place rows) ++ row.now ∷ [] =
    ap (map value_of)
    (take_more rows place row low ∙ ap (λ (r : Bor Row). take place rows ++ r ∷ []) (sym c.row-item.is))
    ∙ map-append value_of (take place rows) (row ∷ []) in
    (pushed ∙ next.0 ∙ ap (map (paired others)) (sym done), next.1)

pub returns-clause-one_part : goal.returns-clause-one_part
returns-clause-one_part c =
    ap (list_all are_of_one_part) c.loop-row.invariant.0
    ∙ one_part (map value_of c.args.others.now) (map value_of (take c.loop-row.row-index c.args.rows.now))
