-- What the lines of a typist's connection say and come to, at small examples, each worked out by hand.
use Rattle.std.proofs.Common.{◌≡◌, ℕ, true, false, List, [], ◌∷◌, ◌++◌, codes, map, get_or, refl, ap, inl, inr, lit≤}
use Rattle.std.proofs.Common.{arith}
use Rattle.std.specs.Fmt.{digits}
use Rattle.exact_readers.specs.Formats.{taken}
use Rattle.skk_calls.specs.Interactions.{ends, prints}
use Rattle.skk_text.specs.declared.key.Key.TheVariants.{Char, Ret}
use Rattle.session_machine.specs.Display.{line}
use Rattle.session_machine.specs.Session.{new_session}
use Rattle.typist_line.specs.declared.typing.Going.TheVariants as goings
use Rattle.typist_line.specs.declared.typing.Typist.TheVariants.{New, Typing, Over}
use Rattle.typist_line.specs.Conversations.{Means, Closes, OpensNone, closing, fault_reply, refusal, refused, opened}
use Rattle.typist_line.specs.Conversations.{typed}
use Rattle.typist_line.specs.TypedLines.{longest_line, lines_in, Opening, Opens, SaysKeys, keys, bad}
use Rattle.typist_line.specs.Typings.{is_over, going_of}

-- lines, and what stands behind the last of them; a CR is part of its line
lines : map lines_in ([] ∷ codes "T1 1" ∷ (codes "T1 1" ++ 10 ∷ [])
    ∷ (codes "T1 1" ++ 13 ∷ 10 ∷ codes "ab" ++ 10 ∷ 10 ∷ codes "c") ∷ [])
    ≡ ([], []) ∷ ([], codes "T1 1") ∷ (codes "T1 1" ∷ [], [])
    ∷ ((codes "T1 1" ++ 13 ∷ []) ∷ codes "ab" ∷ [] ∷ [], codes "c") ∷ []
unfolding taken
lines = refl

-- the most bytes of a line
longest : longest_line ≡ 4096
longest = refl

-- first lines that open a connection: for the typist's own book, and for the shared one
openings : Opens (codes "T1 1") (record { typist = 1; book = 1 })
    × Opens (codes "T65535 0") (record { typist = 65535; book = 0 })
    × Opens (codes "T0 0") (record { typist = 0; book = 0 })
unfolding digits
openings = ((lit≤ tt, inr refl, refl), (lit≤ tt, inl refl, refl), (lit≤ tt, inl refl, refl))

-- each first line that opens a connection begins with a T
begins_with_t : (byte : ℕ) (text : List ℕ) (opening : Opening) → Opens (byte ∷ text) opening → byte ≡ 0x54
begins_with_t byte text opening opens = ap (λ (ys : List ℕ). get_or ys 0 0) opens.2

-- another's book, a typist that is too great, a leading zero, two spaces and a CR open none
other_book : ¬ Opens (codes "T5 1") (record { typist = 5; book = 1 })
other_book (typist, inl shared, is) = omega (arith, shared)
other_book (typist, inr own, is) = omega (arith, own)

great_typist : ¬ Opens (codes "T65536 0") (record { typist = 65536; book = 0 })
great_typist (typist, own, is) = omega (arith, typist)

other_spellings : (¬ Opens (codes "T01 1") (record { typist = 1; book = 1 }))
    × (¬ Opens (codes "T1  1") (record { typist = 1; book = 1 }))
    × (¬ Opens (codes "t1 1") (record { typist = 1; book = 1 }))
    × (¬ Opens (codes "T1 1" ++ 13 ∷ []) (record { typist = 1; book = 1 }))
unfolding digits
other_spellings = (
  λ opens. cc (opens.2),
  λ opens. cc (opens.2),
  λ opens. omega (arith, begins_with_t 0x74 (codes "1 1") (record { typist = 1; book = 1 }) opens),
  λ opens. cc (opens.2),
)

-- no opening has another first byte
no_opening : OpensNone (codes "x")
no_opening opening opens = omega (arith, begins_with_t 0x78 [] opening opens)

-- lines of keys, and one without any
key_lines : SaysKeys (codes "a<ret>") (keys (Char 0x61 ∷ Ret ∷ [])) × SaysKeys [] (keys [])
key_lines = ((refl, refl), (refl, refl))

-- what is sent: the line of a new session, that a line is no key text, and that a connection is refused
sent : (line (new_session 1 1) ≡ codes "かな" ++ 9 ∷ 9 ∷ 10 ∷ []) × (fault_reply 0 ≡ codes "?0" ++ 10 ∷ [])
    × (fault_reply 12 ≡ codes "?12" ++ 10 ∷ []) × (refusal ≡ codes "0" ++ 10 ∷ [])
unfolding digits
sent = (refl, refl, refl, refl)

-- behind the last line
closings : (closing true New ≡ prints (codes "0" ++ 10 ∷ []) (ends Over)) × (closing false New ≡ ends New)
closings = (refl, refl)

-- a line that is no key text changes nothing, and a line behind it is read
faulty : typed [] (new_session 1 1) (bad 3 ∷ bad 0 ∷ []) false
    ≡ prints (codes "?3" ++ 10 ∷ []) (prints (codes "?0" ++ 10 ∷ []) (ends (Typing (new_session 1 1))))
unfolding digits
faulty = refl

-- what no line, a bad first line and a good one come to, and whether a connection is over
nothing_yet : Means [] [] false (ends New) × Means [] [] true refused
nothing_yet = (refl, refl)

refused_at_once : Means [] (codes "x" ∷ codes "T1 1" ∷ []) false refused × Closes (codes "x" ∷ []) false
refused_at_once = (inl (no_opening, refl), inl no_opening)

opened_once : Means [] (codes "T1 1" ∷ []) false (opened [] (record { typist = 1; book = 1 }) [] false)
    × Means [] (codes "T1 1" ∷ []) true (opened [] (record { typist = 1; book = 1 }) [] true)
opened_once = (
  inr (record { typist = 1; book = 1 }, [], openings.0, tt, refl),
  inr (record { typist = 1; book = 1 }, [], openings.0, tt, refl),
)

-- how it stands is told
over : (is_over New ≡ false) × (is_over (Typing (new_session 1 1)) ≡ false) × (is_over Over ≡ true)
    × (going_of New ≡ goings.More) × (going_of Over ≡ goings.Over)
over = (refl, refl, refl, refl, refl)
