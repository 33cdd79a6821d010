-- What the two steps of adding records leave of a file.
use Rattle.std.proofs.Common.{◌≡◌, ℕ, ◌+◌, List, [], ◌∷◌, ◌++◌, length, get_or, drop, sym, ◌∙◌, ap, subst, arith}
use Rattle.std.proofs.Common.{append_assoc, length-append}
use Rattle.std.specs.Int.{w64}
use Rattle.exact_readers.specs.Numbers.{number_bytes}
use Rattle.exact_readers.specs.NumberLaws.{told_64}
use Rattle.skk_disk.specs.Steps.{PartlyWritten, placed, IsPlaced}
use Rattle.skk_journal.specs.Contents.{Contents}
use Rattle.skk_journal.specs.Records.{framed, front, behind_gate, IsAddition, end_of, HasContents, HasAddition}
use Rattle.skk_journal.proofs.Places.{torn_behind, torn_at, placed_behind, placed_at}

length_front : (generation : ℕ) (contents : Contents)
    → length (front generation contents) + 1 ≡ end_of contents.records
length_front generation contents =
    omega (arith, length-append (number_bytes w64 generation) (framed contents.records), told_64.long generation)

module _ (newest generation : ℕ) (contents : Contents) where
  -- a torn write behind the closed gate
  pub stage_torn : (n end : ℕ) (old new : List ℕ) → end ≡ end_of contents.records
      → HasContents newest generation contents old
      → PartlyWritten (record { at = end; count = n }) old new → HasContents newest generation contents new
  stage_torn n end old new is from torn =
      let pre = front generation contents in
      record {
        gate = from.gate;
        rest = drop end new;
        is =
            torn_behind end n pre from.gate from.rest new (is ∙ sym (length_front generation contents))
            (subst (λ (l : List ℕ). PartlyWritten (record { at = end; count = n }) l new) from.is torn);
        right = from.right;
        told = from.told;
        sized = from.sized;
        closed = from.closed;
      }

  -- a whole one
  pub stage_placed : (end : ℕ) (added : List (List ℕ)) (old new : List ℕ) → end ≡ end_of contents.records
      → IsAddition added
      → HasContents newest generation contents old → IsPlaced end (behind_gate added ++ 0 ∷ []) old new
      → (gate : ℕ) × HasAddition newest generation contents added gate new
  stage_placed end added old new is addition from whole =
      let pre = front generation contents in
      let bytes = behind_gate added ++ 0 ∷ [] in
      let tail = drop (length bytes) from.rest in (
        from.gate,
        record {
          rest = tail;
          is =
              whole ∙ ap (placed end bytes) from.is
              ∙ placed_behind end bytes pre from.gate from.rest
              (is ∙ sym (length_front generation contents))
              ∙ ap (λ (l : List ℕ). pre ++ from.gate ∷ l) (append_assoc (behind_gate added) (0 ∷ []) tail);
          right = from.right;
          told = from.told;
          sized = from.sized;
          addition = addition;
        },
      )

  -- a torn write of the gate
  pub gate_torn : (at : ℕ) (added : List (List ℕ)) (old new : List ℕ) → at + 1 ≡ end_of contents.records
      → (gate : ℕ) × HasAddition newest generation contents added gate old → PartlyWritten
      (record { at = at; count = 1 }) old new
      → (gate : ℕ) × HasAddition newest generation contents added gate new
  gate_torn at added old new is from torn =
      let pre = front generation contents in (
        get_or new at 0,
        record {
          rest = from.1.rest;
          is =
              torn_at at pre from.0 (behind_gate added ++ 0 ∷ from.1.rest) new
              (omega (arith, is, length_front generation contents))
              (subst (λ (l : List ℕ). PartlyWritten (record { at = at; count = 1 }) l new) from.1.is torn);
          right = from.1.right;
          told = from.1.told;
          sized = from.1.sized;
          addition = from.1.addition;
        },
      )

  -- a whole one
  pub gate_placed : (at gate : ℕ) (added : List (List ℕ)) (old new : List ℕ) → at + 1 ≡ end_of contents.records
      → (before : ℕ) × HasAddition newest generation contents added before old → IsPlaced at (gate ∷ []) old new
      → HasAddition newest generation contents added gate new
  gate_placed at gate added old new is from whole =
      let pre = front generation contents in
      record {
        rest = from.1.rest;
        is =
            whole ∙ ap (placed at (gate ∷ [])) from.1.is
            ∙ placed_at at gate pre from.0 (behind_gate added ++ 0 ∷ from.1.rest)
            (omega (arith, is, length_front generation contents));
        right = from.1.right;
        told = from.1.told;
        sized = from.1.sized;
        addition = from.1.addition;
      }
