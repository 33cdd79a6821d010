-- A line that comes in pieces is the line of all that comes.
use Rattle.std.proofs.Common.{◌≡◌, ◌∙◌, ◌<◌, ◌≤◌, ◌+◌, ℕ, true, if◌then◌else◌, Option, None, Some, Ok}
use Rattle.std.proofs.Common.{Err, List, [], ◌++◌, length, ap, arith, subst, sym, append_assoc, append-nil}
use Rattle.std.proofs.Common.{length-append}
use Rattle.std.proofs.lemmas.Bool.{le-ltb, lt-ltb}
use Rattle.std.specs.Io.KnownBytes.{Consumes, IsAtEnd}
use Rattle.exact_readers.specs.Cuts.{cut}
use Rattle.exact_readers.specs.Lines.{is_line_feed, without_return}
use Rattle.cut_input.specs.PieceLaws.{begun-within, cut-behind, cut-more, goes-on-behind, goes-on-uncut, long-behind}
use Rattle.cut_input.specs.PieceLaws.{long-more, piece-here, piece-long, piece-open}
use Rattle.cut_input.specs.Pieces.{begun_piece}
use Rattle.skkserv_client.specs.declared.told.AskFault.TheVariants as faults
use Rattle.skkserv_client.specs.Hearing.{GoesOnWith, HearsLine, IsBegunLine, IsLineOf}
use Rattle.skkserv_client.specs.Replies.{line_of, line_or_fault, longest_line}

-- bytes that have a line
pub line_here : (bytes line behind : List ℕ) → cut is_line_feed bytes ≡ Some (line, behind) → length line ≤ longest_line
    → line_of bytes ≡ Ok (without_return line)
unfolding line_of
line_here bytes line behind e fits =
    ap (λ found. line_or_fault found (length bytes)) (piece-here is_line_feed longest_line bytes line behind e fits)

-- bytes that have none, and so many
line_open : (bytes : List ℕ) → IsBegunLine bytes → line_of bytes ≡ Err (faults.Ended (length bytes))
unfolding line_of
line_open bytes (goes, fits) =
    ap (λ found. line_or_fault found (length bytes))
    (piece-open is_line_feed longest_line bytes (goes-on-uncut is_line_feed bytes goes))
    ∙ ap (λ b. Err (if b then faults.TooLong else faults.Ended (length bytes)))
    (le-ltb longest_line (length bytes) fits)

-- and too many
line_long : (bytes : List ℕ) → longest_line < length (begun_piece is_line_feed bytes)
    → line_of bytes ≡ Err faults.TooLong
unfolding line_of
line_long bytes long =
    ap (λ found. line_or_fault found (length bytes)) (piece-long is_line_feed longest_line bytes long)
    ∙ ap (λ b. Err (if b then faults.TooLong else faults.Ended (length bytes)))
    (lt-ltb longest_line (length bytes) (omega (arith, long, begun-within is_line_feed bytes)))

module _ (begun bytes : List ℕ) (unended : IsBegunLine begun) where
  -- a line that ends in bytes
  pub ends_here : (end behind line : List ℕ) → cut is_line_feed bytes ≡ Some (end, behind)
      → length begun + length end ≤ longest_line → line ≡ begun ++ end → (more : List ℕ)
      → IsLineOf (begun ++ (bytes ++ more)) (Ok line)
  ends_here end behind line e fits is more =
      line_here (begun ++ (bytes ++ more)) (begun ++ end) (behind ++ more)
      (cut-behind is_line_feed begun (bytes ++ more) end (behind ++ more) unended.0
      (cut-more is_line_feed bytes end behind more e)) (omega (arith, fits, length-append begun end))
      ∙ ap (λ l. Ok (without_return l)) (sym is)

  -- one that does not
  pub stays_open : cut is_line_feed bytes ≡ None → length begun + length bytes ≤ longest_line
      → IsBegunLine (begun ++ bytes)
  stays_open e fits =
      (goes-on-behind is_line_feed begun bytes unended.0 e, omega (arith, fits, length-append begun bytes))

  -- and one that becomes too long
  pub gets_long : longest_line < length begun + length (begun_piece is_line_feed bytes) → (more : List ℕ)
      → IsLineOf (begun ++ (bytes ++ more)) (Err faults.TooLong)
  gets_long long more =
      sym (line_long (begun ++ (bytes ++ more))
      (subst (λ all. longest_line < length (begun_piece is_line_feed all)) (append_assoc begun bytes more)
      (long-more is_line_feed longest_line (begun ++ bytes) more
      (long-behind is_line_feed longest_line begun bytes unended.0 long))))

-- a line goes on with all that a link has left: none
pub ends_open : (begun : List ℕ) (left left' : Option (List ℕ)) → IsBegunLine begun → Consumes left left' []
    → IsAtEnd left' → HearsLine left begun (Err (faults.Ended (length begun)))
ends_open begun None left' unended none ends = tt
ends_open begun (Some xs) None unended none ends = absurd none
ends_open begun (Some xs) (Some ys) unended none ends =
    sym (ap (λ all. line_of (begun ++ all)) (none ∙ ends) ∙ ap line_of (append-nil begun) ∙ line_open begun unended)

-- bytes that were read of a link
module _ (begun bytes : List ℕ) (left left' : Option (List ℕ)) (taken : Consumes left left' bytes) where
  pub heard_end : (line : List ℕ) → GoesOnWith begun bytes line (Ok true) → HearsLine left begun (Ok line)
  heard_end line is = by left left' taken
    where
      by : (l l' : Option (List ℕ)) → Consumes l l' bytes → HearsLine l begun (Ok line)
      by None l' t = tt
      by (Some xs) None t = absurd t
      by (Some xs) (Some ys) t = subst (λ all. IsLineOf (begun ++ all) (Ok line)) (sym t) (is ys)

  pub heard_fault : (line : List ℕ) (fault : _) → GoesOnWith begun bytes line (Err fault)
      → HearsLine left begun (Err fault)
  heard_fault line fault is = by left left' taken
    where
      by : (l l' : Option (List ℕ)) → Consumes l l' bytes → HearsLine l begun (Err fault)
      by None l' t = tt
      by (Some xs) None t = absurd t
      by (Some xs) (Some ys) t = subst (λ all. IsLineOf (begun ++ all) (Err fault)) (sym t) (is ys)

-- bytes that were read of a link before a line went on
module _ (begun : List ℕ) (left left' : Option (List ℕ)) (taken : Consumes left left' begun) where
  -- the line is that of all that the link had left
  pub heard_behind : (result : _) → HearsLine left' begun result → HearsLine left [] result
  heard_behind result is = by left left' taken is
    where
      by : (l l' : Option (List ℕ)) → Consumes l l' begun → HearsLine l' begun result → HearsLine l [] result
      by None l' t h = tt
      by (Some xs) None t h = absurd t
      by (Some xs) (Some ys) t h = subst (λ all. IsLineOf all result) (sym t) h
