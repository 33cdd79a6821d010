use Rattle.std.proofs.Common.{◌≡◌, refl, sym, ◌∙◌, inl, inr, arith}
use Rattle.std.proofs.lemmas.Fmt.{decimal_injective}
use Rattle.key_scripts.proofs.LineReading.{owner-follows, book-small}
use Rattle.key_scripts.proofs.line.typist_and_book.Goals as goal
use Rattle.key_scripts.proofs.line.typist_and_book.Goals.{then-typist-gt65535-via-then-typist-gt65535}
use Rattle.key_scripts.proofs.line.typist_and_book.Goals.{then-typist-gt65535-via-else-typist-gt65535+then-mark-between}

pub returns-then-typist-gt65535-clause-none : goal.returns-then-typist-gt65535-clause-none
returns-then-typist-gt65535-clause-none c = λ none typist book small own e.
    let found = c.in_ok-typist.ensures.some in
    let same = owner-follows c.args.text.now c.in_ok-typist.rest.now c.in_ok-typist.typist c.in_ok-typist.mark
    c.args.between typist book found.0 found.1 found.2 c.requires small e in
    elim c.then-typist-gt65535.branch [
      | then-typist-gt65535-via-then-typist-gt65535 w ↦ omega arith
      | then-typist-gt65535-via-else-typist-gt65535+then-mark-between w ↦ grind arith
    ]

pub returns-in_err-book-clause-none : goal.returns-in_err-book-clause-none
returns-in_err-book-clause-none c = λ none typist book small own e.
    let found = c.in_ok-typist.ensures.some in
    let same = owner-follows c.args.text.now c.in_ok-typist.rest.now c.in_ok-typist.typist c.in_ok-typist.mark
    c.args.between typist book found.0 found.1 found.2 c.requires small e in
    c.in_err-book.ensures.none refl book (book-small typist book small own) same.2

pub returns-then-book-typist-clause-none : goal.returns-then-book-typist-clause-none
returns-then-book-typist-clause-none c = λ none typist book small own e.
    let found = c.in_ok-typist.ensures.some in
    let same = owner-follows c.args.text.now c.in_ok-typist.rest.now c.in_ok-typist.typist c.in_ok-typist.mark
    c.args.between typist book found.0 found.1 found.2 c.requires small e in
    let written = c.in_ok-book.ensures.some in
    let bound = book-small typist book small own in
    let value : c.in_ok-book.book ≡ book =
    decimal_injective c.in_ok-book.book book (omega arith) (omega arith) (sym written.1 ∙ same.2) in
    elim own [ inl zero ↦ omega arith | inr other ↦ omega arith ]
