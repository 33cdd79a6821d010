-- A piece that is cut is read as one that came whole.
use Rattle.std.proofs.Common.{◌≡◌, ◌<◌, ◌≤◌, ℕ, ◌+◌, Bool, true, false, not, nat_le, Option, None, Some, List, [], ◌∷◌}
use Rattle.std.proofs.Common.{◌++◌, length, refl, sym, ap, ◌∙◌, arith, length-append, append_assoc}
use Rattle.std.specs.List.{list_all}
use Rattle.std.specs.Option.{unwrap_or}
use Rattle.std.proofs.lemmas.Bool.{and_from, le-leb, lt-leb}
use Rattle.std.proofs.lemmas.List.Folds.{list_all-append}
use Rattle.exact_readers.specs.Cuts.{cut, up_to}
use Rattle.exact_readers.specs.CutLaws.{up_to-exact, cut-at, cut-nowhere, cut-none}
use Rattle.exact_readers.specs.Exact.{IsExact}
use Rattle.exact_readers.specs.ExactLaws.{checked-exact}
use Rattle.cut_input.specs.Pieces.{if_within, ended_piece, begun_piece, GoesOn}

module _ (ends : ℕ → Bool) where
  -- the piece that bytes begin with is found by cutting them
  pub begun-cut : (bytes : List ℕ) (found : Option (List ℕ × List ℕ)) → cut ends bytes ≡ found
      → begun_piece ends bytes ≡ (unwrap_or found (bytes, [])).0
  begun-cut bytes found e = ap (λ (o : Option (List ℕ × List ℕ)). (unwrap_or o (bytes, [])).0) e

  -- what is not cut goes on
  pub uncut-goes-on : (bytes : List ℕ) → cut ends bytes ≡ None → GoesOn ends bytes
  uncut-goes-on bytes e = cut-none ends bytes e

  -- and what goes on is not cut, and all of it is begun
  pub goes-on-uncut : (bytes : List ℕ) → GoesOn ends bytes → cut ends bytes ≡ None
  goes-on-uncut bytes goes = cut-nowhere ends bytes goes

  pub goes-on-begun : (bytes : List ℕ) → GoesOn ends bytes → begun_piece ends bytes ≡ bytes
  goes-on-begun bytes goes = begun-cut bytes None (cut-nowhere ends bytes goes)

  -- a piece is cut off with its end, and what stands behind
  pub cut-parts : (bytes piece behind : List ℕ) → cut ends bytes ≡ Some (piece, behind)
      → (end : ℕ) × (ends end ≡ true) × GoesOn ends piece × (bytes ≡ piece ++ end ∷ behind)
  cut-parts bytes piece behind e =
      let is = (up_to-exact ends).sound bytes piece behind e in
      let (end, last, none, front) = is.spelled in (
        end,
        last,
        none,
        is.tokens_are ∙ ap (λ ys. ys ++ behind) front ∙ append_assoc piece (end ∷ []) behind,
      )

  -- a piece that ends, with more behind it
  pub cut-more : (bytes piece behind more : List ℕ) → cut ends bytes ≡ Some (piece, behind)
      → cut ends (bytes ++ more) ≡ Some (piece, behind ++ more)
  cut-more bytes piece behind more e =
      let (end, last, none, is) = cut-parts bytes piece behind e in
      ap (λ ys. cut ends (ys ++ more)) is ∙ ap (cut ends) (append_assoc piece (end ∷ behind) more)
      ∙ cut-at ends piece end (behind ++ more) none last

  -- and with what it began with in front of it
  pub cut-behind : (begun bytes piece behind : List ℕ) → GoesOn ends begun → cut ends bytes ≡ Some (piece, behind)
      → cut ends (begun ++ bytes) ≡ Some (begun ++ piece, behind)
  cut-behind begun bytes piece behind goes e =
      let (end, last, none, is) = cut-parts bytes piece behind e in
      let whole : GoesOn ends (begun ++ piece) =
      list_all-append (λ byte. not (ends byte)) begun piece
      ∙ and_from (list_all (λ byte. not (ends byte)) begun) _ goes none in
      ap (λ ys. cut ends (begun ++ ys)) is ∙ ap (cut ends) (sym (append_assoc begun piece (end ∷ behind)))
      ∙ cut-at ends (begun ++ piece) end behind whole last

  -- a piece that goes on, behind what it began with
  pub goes-on-behind : (begun bytes : List ℕ) → GoesOn ends begun → cut ends bytes ≡ None
      → GoesOn ends (begun ++ bytes)
  goes-on-behind begun bytes goes e =
      list_all-append (λ byte. not (ends byte)) begun bytes
      ∙ and_from (list_all (λ byte. not (ends byte)) begun) _ goes (cut-none ends bytes e)

  -- what bytes begin with lies within them
  pub begun-within : (bytes : List ℕ) → length (begun_piece ends bytes) ≤ length bytes
  begun-within bytes = by (cut ends bytes) refl
    where
      by : (found : Option (List ℕ × List ℕ)) → cut ends bytes ≡ found
          → length (begun_piece ends bytes) ≤ length bytes
      by None e = omega (arith, ap length (begun-cut bytes None e))
      by (Some (piece, behind)) e =
          let (end, last, none, is) = cut-parts bytes piece behind e in
          omega (
            arith,
            ap length (begun-cut bytes (Some (piece, behind)) e),
            ap length is,
            length-append piece (end ∷ behind),
          )

  module _ (limit : ℕ) where
    -- a piece with its end is a format that is exact
    pub piece-exact : IsExact (ended_piece ends limit)
    piece-exact = checked-exact (up_to ends) (up_to-exact ends) (if_within limit)

    -- a piece that ends within its limit is read
    pub piece-here : (bytes piece behind : List ℕ) → cut ends bytes ≡ Some (piece, behind) → length piece ≤ limit
        → (ended_piece ends limit).step bytes ≡ Some (piece, behind)
    piece-here bytes piece behind e fits =
        let short : nat_le (length piece) limit ≡ true = le-leb (length piece) limit fits in rw (e, short) refl

    -- one that goes on is not
    pub piece-open : (bytes : List ℕ) → cut ends bytes ≡ None → (ended_piece ends limit).step bytes ≡ None
    piece-open bytes e = rw e refl

    -- nor is one that is too long
    pub piece-long : (bytes : List ℕ) → limit < length (begun_piece ends bytes)
        → (ended_piece ends limit).step bytes ≡ None
    piece-long bytes long = by (cut ends bytes) refl
      where
        by : (found : Option (List ℕ × List ℕ)) → cut ends bytes ≡ found
            → (ended_piece ends limit).step bytes ≡ None
        by None e = piece-open bytes e
        by (Some (piece, behind)) e =
            let more : nat_le (length piece) limit ≡ false =
            lt-leb (length piece) limit
            (omega (arith, long, ap length (begun-cut bytes (Some (piece, behind)) e))) in
            rw (e, more) refl

    -- a piece becomes too long behind what it began with
    pub long-behind : (begun bytes : List ℕ) → GoesOn ends begun
        → limit < length begun + length (begun_piece ends bytes) → limit < length (begun_piece ends (begun ++ bytes))
    long-behind begun bytes goes long = by (cut ends bytes) refl
      where
        by : (found : Option (List ℕ × List ℕ)) → cut ends bytes ≡ found
            → limit < length (begun_piece ends (begun ++ bytes))
        by None e =
            omega (
              arith,
              long,
              ap length (begun-cut bytes None e),
              ap length (goes-on-begun (begun ++ bytes) (goes-on-behind begun bytes goes e)),
              length-append begun bytes,
            )
        by (Some (piece, behind)) e =
            omega (
              arith,
              long,
              ap length (begun-cut bytes (Some (piece, behind)) e),
              ap length (begun-cut (begun ++ bytes) (Some (begun ++ piece, behind))
                  (cut-behind begun bytes piece behind goes e)),
              length-append begun piece,
            )

    -- and stays so, whatever comes behind
    pub long-more : (bytes more : List ℕ) → limit < length (begun_piece ends bytes)
        → limit < length (begun_piece ends (bytes ++ more))
    long-more bytes more long = by (cut ends bytes) refl
      where
        by : (found : Option (List ℕ × List ℕ)) → cut ends bytes ≡ found
            → limit < length (begun_piece ends (bytes ++ more))
        by None e =
            long-behind bytes more (cut-none ends bytes e) (omega (arith, long, ap length (begun-cut bytes None e)))
        by (Some (piece, behind)) e =
            omega (
              arith,
              long,
              ap length (begun-cut bytes (Some (piece, behind)) e),
              ap length (begun-cut (bytes ++ more) (Some (piece, behind ++ more)) (cut-more bytes piece behind more e)),
            )
