-- The line of a list of books, and what follows the one call, each worked out by hand.
use Rattle.std.proofs.Common.{◌≡◌, None, Some, [], ◌∷◌, ◌++◌, codes, map, refl}
use Rattle.std.specs.Fmt.{digits}
use Rattle.skk_calls.specs.declared.answer.Answer.TheVariants.{Done, Refused}
use Rattle.skk_calls.specs.declared.answer.Refusal.TheVariants.{Memory, Disk, JournalFull}
use Rattle.skk_calls.specs.declared.answer.Reply.TheVariants.{Shared, Unchanged}
use Rattle.skk_calls.specs.declared.call.Call.TheVariants.{Share}
use Rattle.skk_calls.specs.Interactions.{asked, end_of, printed}
use Rattle.skk_top.specs.ShareCommand.{list_line, sharing}

-- a typist, and the books in the order of the list
lines : list_line 1 (7 ∷ 0 ∷ []) ∷ list_line 0 (0 ∷ []) ∷ list_line 65535 (10 ∷ 65535 ∷ 9 ∷ []) ∷ []
    ≡ (codes "typist 1 books 7,0" ++ 10 ∷ []) ∷ (codes "typist 0 books 0" ++ 10 ∷ [])
    ∷ (codes "typist 65535 books 10,65535,9" ++ 10 ∷ []) ∷ []
unfolding digits
lines = refl

-- the line is printed whether the list was another before or not, and behind a refusal nothing is
told_lines : map (printed (sharing 1 (7 ∷ 0 ∷ []))) ([] ∷ (Done Shared ∷ []) ∷ (Done Unchanged ∷ [])
    ∷ (Refused Memory ∷ []) ∷ (Refused Disk ∷ []) ∷ (Refused (JournalFull 18 13 64) ∷ []) ∷ [])
    ≡ [] ∷ (codes "typist 1 books 7,0" ++ 10 ∷ []) ∷ (codes "typist 1 books 7,0" ++ 10 ∷ []) ∷ [] ∷ [] ∷ [] ∷ []
unfolding digits
told_lines = refl

-- there is one call at most, once, whatever is answered
asked_calls : map (asked (sharing 1 (7 ∷ 0 ∷ []))) ([] ∷ (Done Shared ∷ []) ∷ (Refused Disk ∷ [])
    ∷ (Done Shared ∷ Done Unchanged ∷ []) ∷ [])
    ≡ [] ∷ (Share 1 (7 ∷ 0 ∷ []) ∷ []) ∷ (Share 1 (7 ∷ 0 ∷ []) ∷ []) ∷ (Share 1 (7 ∷ 0 ∷ []) ∷ []) ∷ []
asked_calls = refl

-- and the work is done behind that one answer alone
ended_by_one : map (end_of (sharing 1 (7 ∷ []))) ([] ∷ (Done Shared ∷ []) ∷ (Refused Disk ∷ [])
    ∷ (Done Shared ∷ Done Unchanged ∷ []) ∷ [])
    ≡ None ∷ Some tt ∷ Some tt ∷ None ∷ []
ended_by_one = refl
