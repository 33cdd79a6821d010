-- What was found, as it lies.
use Rattle.std.specs.Prelude.{List, []}
use Rattle.skk_calls.specs.declared.found_cands.FoundItems.{FoundItems}
use Rattle.skk_calls.specs.declared.found_cands.FoundItems.TheVariants.{Distinct, Plain}
use Rattle.skk_calls.specs.declared.found_row.RowItems.{RowItems}
use Rattle.skk_calls.specs.declared.found_row.RowItems.TheVariants as rows
use Rattle.skk_calls.specs.Rows.{Cand, Row, RowKey}

-- the candidates
abbrev pub cands_of : FoundItems → List Cand
cands_of (Distinct cands) = cands
cands_of (Plain cands) = cands

-- the row of a key with candidates and nothing else, of stamp 0
abbrev pub row_with : RowKey → List Cand → Row
row_with key cands = record { key = key; cands = cands; blocks = []; hides = []; stamp = 0 }

-- the row
abbrev pub row_of : RowItems → Row
row_of (rows.Whole row) = row
row_of (rows.Plain key cands) = row_with key cands
