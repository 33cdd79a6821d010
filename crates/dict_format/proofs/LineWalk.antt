-- The lines of a file, one after another, and where they stand in it.
use Rattle.std.proofs.Common.{◌≡◌, ◌∙◌, ◌+◌, ◌-◌, ℕ, List, [], ◌∷◌, ◌++◌, length, sym, ap, arith, inl, inr}
use Rattle.std.proofs.Common.{length-append, append_assoc, append-nil}
use Rattle.exact_readers.specs.Lines.{IsCutOff, IsFirstLine, StandsAt}
use Rattle.exact_readers.specs.Trimming.{trimmed_line, without_mark}
use Rattle.exact_readers.specs.TrimmingLaws.{mark-front, trimmed-front}
use Rattle.dict_format.specs.LeftLines.{IsReadTo}

-- behind the mark no line is read
pub none-read : (bytes rest : List ℕ) → rest ≡ without_mark bytes → IsReadTo bytes rest 0
none-read bytes rest is = record {
  front = (mark-front bytes).0;
  parts = (mark-front bytes).1 ∙ ap (λ r. (mark-front bytes).0 ++ r) (sym is);
  few = omega arith;
}

module _ (bytes rest line behind : List ℕ) (number : ℕ) (so_far : IsReadTo bytes rest number)
    (first : IsFirstLine rest line behind) where
  -- what stands behind a line, and before what is left
  behind_line : (end : List ℕ) × (rest ≡ (line ++ end) ++ behind)
  behind_line = by first.2
    where
      by : IsCutOff rest line behind → (end : List ℕ) × (rest ≡ (line ++ end) ++ behind)
      by (inl split) = (10 ∷ [], split ∙ sym (append_assoc line (10 ∷ []) behind))
      by (inr (same, none)) = ([], rw (none, append-nil, append-nil) same)

  -- a line more is read
  pub line-read : IsReadTo bytes behind (number + 1)
  line-read =
      let (end, split) = behind_line in
      let long = length-append so_far.front (line ++ end) in
      record {
        front = so_far.front ++ (line ++ end);
        parts =
            so_far.parts ∙ ap (λ r. so_far.front ++ r) split ∙ sym (append_assoc so_far.front (line ++ end) behind);
        few = omega (arith, so_far.few, long, first.1, ap length split, length-append (line ++ end) behind);
      }

  -- what is read of it stands where the rest began
  pub line-stands : StandsAt bytes (length bytes - length rest) (trimmed_line line)
  line-stands =
      let (more, trimmed) = trimmed-front line in
      let (end, split) = behind_line in (
        so_far.front,
        more ++ (end ++ behind),
        so_far.parts
            ∙ ap (λ r. so_far.front ++ r)
            (split ∙ append_assoc line end behind ∙ ap (λ l. l ++ (end ++ behind)) trimmed
            ∙ append_assoc (trimmed_line line) more (end ++ behind)),
        omega (arith, ap length so_far.parts, length-append so_far.front rest),
      )
