-- The row after a change is a row by the parts of the row before. No part but the hidden words asks for these, so the
-- others are those of the row before without its hidden words, which need not be words here.
use Rattle.std.proofs.Common.{◌≡◌, ℕ, true, not, None, Some, Option, List, [], refl}
use Rattle.std.specs.Option.{IfSome}
use Rattle.skk_calls.specs.Dictionary.{is_okuri_or_none, is_row_or_none}
use Rattle.skk_calls.specs.Learning.{learnt, purged, annotated}
use Rattle.skk_calls.specs.Rows.{RowKey, Cand, Row, same_text, is_row_key, is_cand, is_row}
use Rattle.skk_calls.specs.RowLaws.{row_from_parts, row_parts}
use Rattle.dict_laws.proofs.AnnotatedRows.{annotated_parts, annotated_is_row}
use Rattle.dict_laws.proofs.LearntRows.{learnt_parts, learnt_is_row}
use Rattle.dict_laws.proofs.PurgedRows.{purged_parts, purged_is_row, hidden_too_differ}
use Rattle.dict_laws.proofs.RowParts.{BeforeParts, before_parts}
use Rattle.dict_laws.proofs.Texts.{differ_filter}
use Rattle.dict_laws.proofs.laws.changed_rows_are_rows.Goals as goal

-- a row without its hidden words
abbrev bare : Row → Row
bare row = record { key = row.key; cands = row.cands; blocks = row.blocks; hides = []; stamp = row.stamp }

-- what is known of it
bare_parts : (key : RowKey) (row : Row) → row.key ≡ key → is_row row ≡ true → BeforeParts key (bare row)
bare_parts key row same is =
    let parts = row_parts row is in
    record {
      same_text = same;
      parts = record {
        key = parts.key;
        cands = parts.cands;
        words = parts.words;
        part = parts.part;
        blocks = parts.blocks;
        okuri = parts.okuri;
        hides = refl;
      };
      hidden = refl;
    }

pub returns-clause-learnt : goal.returns-clause-learnt
returns-clause-learnt c = learnt_row
  where
    learnt_row : (before : Option Row) (key : RowKey) (okuri : Option (List ℕ)) (cand : Cand) (stamp : ℕ)
        → is_row_key key ≡ true → IfSome before (λ row. row.key ≡ key) → is_row_or_none before ≡ true
        → is_okuri_or_none okuri ≡ true → is_cand cand ≡ true → is_row (learnt before key okuri cand stamp) ≡ true
    learnt_row None key okuri cand stamp is same was okuri_is cand_is =
        learnt_is_row None key okuri cand stamp is okuri_is cand_is (before_parts 0 key None is refl refl)
    learnt_row (Some row) key okuri cand stamp is same was okuri_is cand_is =
        let parts =
        learnt_parts (Some (bare row)) key okuri cand stamp is okuri_is cand_is (bare_parts key row same was) in
        row_from_parts (learnt (Some row) key okuri cand stamp)
        (record {
          key = parts.key;
          cands = parts.cands;
          words = parts.words;
          part = parts.part;
          blocks = parts.blocks;
          okuri = parts.okuri;
          hides = differ_filter (λ other. not (same_text other cand.word)) row.hides (row_parts row was).hides;
        })

pub returns-clause-purged : goal.returns-clause-purged
returns-clause-purged c = purged_row
  where
    purged_row : (before : Option Row) (key : RowKey) (word : List ℕ) (stamp : ℕ)
        → is_row_key key ≡ true → IfSome before (λ row. row.key ≡ key) → is_row_or_none before ≡ true
        → is_row (purged before key word stamp) ≡ true
    purged_row None key word stamp is same was =
        purged_is_row None key word stamp is (before_parts 0 key None is refl refl)
    purged_row (Some row) key word stamp is same was =
        let parts = purged_parts (Some (bare row)) key word stamp is (bare_parts key row same was) in
        row_from_parts (purged (Some row) key word stamp)
        (record {
          key = parts.key;
          cands = parts.cands;
          words = parts.words;
          part = parts.part;
          blocks = parts.blocks;
          okuri = parts.okuri;
          hides = hidden_too_differ word row.hides (row_parts row was).hides;
        })

pub returns-clause-annotated : goal.returns-clause-annotated
returns-clause-annotated c = annotated_row
  where
    annotated_row : (before : Option Row) (key : RowKey) (cand : Cand) (stamp : ℕ)
        → is_row_key key ≡ true → IfSome before (λ row. row.key ≡ key) → is_row_or_none before ≡ true
        → is_cand cand ≡ true → is_row (annotated before key cand stamp) ≡ true
    annotated_row None key cand stamp is same was cand_is =
        annotated_is_row None key cand stamp is cand_is (before_parts 0 key None is refl refl)
    annotated_row (Some row) key cand stamp is same was cand_is =
        let parts = annotated_parts (Some (bare row)) key cand stamp is cand_is (bare_parts key row same was) in
        row_from_parts (annotated (Some row) key cand stamp)
        (record {
          key = parts.key;
          cands = parts.cands;
          words = parts.words;
          part = parts.part;
          blocks = parts.blocks;
          okuri = parts.okuri;
          hides = differ_filter (λ other. not (same_text other cand.word)) row.hides (row_parts row was).hides;
        })
