-- What a chronicle says with one entry more.
use Rattle.std.proofs.Common.{◌≡◌, ◌∙◌, ap, refl, arith, ℕ, true, List, [], ◌∷◌, ◌++◌, ◌==◌}
use Rattle.std.proofs.lemmas.Bool.{and_from}
use Rattle.std.proofs.lemmas.List.Elements.{filter_map-append}
use Rattle.std.proofs.lemmas.List.Folds.{list_all-append}
use Rattle.std.specs.List.{list_all}
use Rattle.skk_calls.specs.declared.answer.Answer.{Answer}
use Rattle.skk_calls.specs.declared.call.Call.{Call}
use Rattle.skk_calls.specs.declared.chronicle.Noted.{Noted}
use Rattle.skk_calls.specs.declared.chronicle.Noted.TheVariants.{Opened, Entered}
use Rattle.skk_calls.specs.Chronicles.{is_entry, is_chronicle, opening_of, history_of}
use Rattle.skk_calls.specs.Histories.{said_by, dialog}
use Rattle.skk_calls.specs.HistoryLaws.{history-more}
use Rattle.skk_calls.specs.Openings.{are_of_one, said_in}

-- a chronicle with one entry more is one, with the same opening
pub begun-more : (notes : List Noted) (note : Noted) → is_entry note ≡ true → is_chronicle notes ≡ true
    → is_chronicle (notes ++ note ∷ []) ≡ true
begun-more [] note entry begun = absurd (cc)
begun-more (Opened files state end limit time faults ∷ rest) note entry begun =
    grind (arith, list_all-append is_entry rest (note ∷ []))
begun-more (Entered number call answer time faults ∷ rest) note entry begun = absurd (cc)

pub opened-more : (notes : List Noted) (note : Noted) → is_chronicle notes ≡ true
    → opening_of (notes ++ note ∷ []) ≡ opening_of notes
opened-more [] note begun = absurd (cc)
opened-more (first ∷ rest) note begun = refl

-- what the caller with the number 0 said, with one call more
pub said-more : (notes : List Noted) (call : Call) (answer : Answer) (time faults : ℕ)
    → said_in (notes ++ Entered 0 call answer time faults ∷ []) 0 ≡ said_in notes 0 ++ (call, answer) ∷ []
said-more notes call answer time faults =
    ap (λ history. dialog history 0) (history-more notes (Entered 0 call answer time faults))
    ∙ filter_map-append (said_by 0) (history_of notes) (history_of (Entered 0 call answer time faults ∷ []))

-- and all is still said by that caller
pub one-more : (notes : List Noted) (call : Call) (answer : Answer) (time faults : ℕ) → are_of_one notes ≡ true
    → are_of_one (notes ++ Entered 0 call answer time faults ∷ []) ≡ true
one-more notes call answer time faults one =
    ap (list_all (λ entry. entry.number == 0)) (history-more notes (Entered 0 call answer time faults))
    ∙ list_all-append (λ entry. entry.number == 0) (history_of notes)
    (history_of (Entered 0 call answer time faults ∷ []))
    ∙ and_from (list_all (λ entry. entry.number == 0) (history_of notes)) true one refl
