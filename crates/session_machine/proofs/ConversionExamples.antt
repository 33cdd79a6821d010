-- Conversions of readings with numbers, and completions, as the definitions compute them.
use Rattle.std.proofs.Common.{◌≡◌, refl, ℕ, true, false, map, Some, None, List, [], ◌∷◌, codes}
use lib.Utf8.{encode}
use Rattle.skk_text.specs.declared.key.Key.TheVariants.{Char, Cj, Tab}
use Rattle.skk_text.specs.declared.mode.Mode.TheVariants.{Hira, Kata}
use Rattle.skk_text.specs.declared.notice.Notice.TheVariants as notices
use Rattle.skk_calls.specs.declared.answer.Answer.{Answer}
use Rattle.skk_calls.specs.declared.answer.Answer.TheVariants.{Done, Refused}
use Rattle.skk_calls.specs.declared.answer.Refusal.TheVariants as refusals
use Rattle.skk_calls.specs.declared.answer.Reply.TheVariants as replies
use Rattle.skk_calls.specs.declared.call.Call.{Call}
use Rattle.skk_calls.specs.declared.call.Call.TheVariants.{Lookup, Complete, Learn}
use Rattle.skk_calls.specs.declared.part.Part.TheVariants.{Nasi, Ari}
use Rattle.skk_calls.specs.Interactions.{asked}
use Rattle.skk_calls.specs.Rows.{Cand, RowKey}
use Rattle.reading_state.specs.Puts.{Reading}
use Rattle.candidate_state.specs.Shown.{Shown}
use Rattle.session_machine.specs.declared.frame.FrameState.{FrameState}
use Rattle.session_machine.specs.declared.frame.FrameState.TheVariants as states
use Rattle.session_machine.specs.declared.frame.Waiting.TheVariants as waits
use Rattle.session_machine.specs.declared.session_notice.SessionNotice.TheVariants as told
use Rattle.session_machine.specs.Pressed.{pressed}
use Rattle.session_machine.proofs.Examples.{abbreviation, at, cand, none, plain, reading, registering_in, rules}
use Rattle.session_machine.proofs.Examples.{unfinished, with_begun}
use Rattle.session_machine.proofs.Examples.{after}

-- a key without okurigana
abbrev plain_key : List ℕ → RowKey
plain_key text = record { part = Nasi; reading = text }

abbrev found : List Cand → Answer
found cands = Done (replies.Found cands)

abbrev nothing : Answer
nothing = found []

abbrev word : List ℕ → Cand
word text = cand text []

abbrev lacking : Answer
lacking = Refused refusals.Memory

-- candidates of a reading, of which the first is shown
abbrev shown_for : Reading → List Shown → FrameState
shown_for reading shown =
    states.Picking (record { reading = reading; picking = record { shown = shown; place = 0; question = false } })

-- what the space asks of a session in which a reading is open, by these answers
abbrev space_asks : FrameState → List Answer → List Call
space_asks state answers = asked (pressed rules (at [] Hira state none) (Char 32)) answers

-- a reading with a number is looked up as it is, and then by its number key
asks_both : space_asks (unfinished (codes "9年")) (nothing ∷ found (word (codes "#1年") ∷ []) ∷ [])
    ≡ Lookup 3 (plain_key (codes "9年")) None ∷ Lookup 3 (plain_key (codes "#年")) None ∷ []
unfolding encode
asks_both = refl

-- both carry the okurigana
asks_both_with_okuri :
    space_asks (states.Reading (with_begun (codes "2倍") 115 (codes "し")))
    (nothing ∷ found (word (codes "#3倍") ∷ []) ∷ [])
    ≡ Lookup 3 (record { part = Ari; reading = codes "2倍s" }) (Some (codes "し"))
    ∷ Lookup 3 (record { part = Ari; reading = codes "#倍s" }) (Some (codes "し")) ∷ []
unfolding encode
asks_both_with_okuri = refl

-- a number is looked up where a word of the second answer asks for it, in the first it does not; equal numbers are
-- looked up each
asks_numbers :
    space_asks (abbreviation (codes "9x9"))
    (found (word (codes "#4") ∷ []) ∷ found (word (codes "a") ∷ word (codes "#4") ∷ []) ∷ nothing ∷ nothing ∷ [])
    ≡ Lookup 3 (plain_key (codes "9x9")) None ∷ Lookup 3 (plain_key (codes "#x#")) None
    ∷ Lookup 3 (plain_key (codes "9")) None ∷ Lookup 3 (plain_key (codes "9")) None ∷ []
unfolding encode
asks_numbers = refl

-- a number is looked up without the okurigana of its reading
asks_number_without_okuri :
    space_asks (states.Reading (with_begun (codes "2倍") 115 (codes "し")))
    (nothing ∷ found (word (codes "#4倍") ∷ []) ∷ nothing ∷ [])
    ≡ Lookup 3 (record { part = Ari; reading = codes "2倍s" }) (Some (codes "し"))
    ∷ Lookup 3 (record { part = Ari; reading = codes "#倍s" }) (Some (codes "し"))
    ∷ Lookup 3 (plain_key (codes "2")) None ∷ []
unfolding encode
asks_number_without_okuri = refl

asks_no_number :
    space_asks (abbreviation (codes "9")) (found (word (codes "#4") ∷ []) ∷ found (word (codes "#1") ∷ []) ∷ [])
    ≡ Lookup 3 (plain_key (codes "9")) None ∷ Lookup 3 (plain_key (codes "#")) None ∷ []
unfolding encode
asks_no_number = refl

-- the candidates of the reading come first, with their words; then those of its number key, filled; of equal texts one
shows_both :
    after (at [] Hira (unfinished (codes "9")) none) (Char 32)
    (found (word (codes "九") ∷ word (codes "#1") ∷ [])
    ∷ found (word (codes "#0") ∷ cand (codes "#2") (codes "n") ∷ word (codes "##2") ∷ word (codes "9") ∷ []) ∷ [])
    ≡ Some (at [] Hira (shown_for (reading (codes "9") [])
    (record { key = plain_key (codes "9"); cand = word (codes "九"); text = codes "九" }
    ∷ record { key = plain_key (codes "9"); cand = word (codes "#1"); text = codes "#1" }
    ∷ record { key = plain_key (codes "#"); cand = word (codes "#0"); text = codes "9" }
    ∷ record { key = plain_key (codes "#"); cand = word (codes "##2"); text = codes "#九" } ∷ [])) none)
unfolding encode
shows_both = refl

-- a number that is looked up is the first word that is found, or else its digits
shows_firsts :
    after (at [] Hira (abbreviation (codes "1x2")) none) (Char 32)
    (nothing ∷ found (word (codes "#4と#4") ∷ []) ∷ nothing ∷ found (word (codes "二") ∷ word (codes "弐") ∷ []) ∷ [])
    ≡ Some (at [] Hira (shown_for (record (reading (codes "1x2") []) { is_abbrev = true })
    (record { key = plain_key (codes "#x#"); cand = word (codes "#4と#4"); text = codes "1と二" } ∷ [])) none)
unfolding encode
shows_firsts = refl

-- where a look-up is refused the reading stays, and nothing more is asked
stays : map (λ answers. after (at [] Hira (abbreviation (codes "1x2")) none) (Char 32) answers)
    ((lacking ∷ []) ∷ (nothing ∷ lacking ∷ []) ∷ (nothing ∷ found (word (codes "#4") ∷ []) ∷ lacking ∷ [])
    ∷ (nothing ∷ found (word (codes "#4") ∷ []) ∷ nothing ∷ lacking ∷ []) ∷ [])
    ≡ map (λ (n : ℕ). Some (at [] Hira (abbreviation (codes "1x2")) (told.Refused refusals.Memory)))
    (1 ∷ 2 ∷ 3 ∷ 4 ∷ [])
unfolding encode
stays = refl

-- an answer of another kind leaves the reading too, with no notice
answered_otherwise : map (λ answers. after (at [] Hira (abbreviation (codes "1x2")) none) (Char 32) answers)
    ((Done replies.Purged ∷ []) ∷ (nothing ∷ Done replies.Purged ∷ [])
    ∷ (nothing ∷ found (word (codes "#4") ∷ []) ∷ Done replies.Purged ∷ [])
    ∷ (nothing ∷ found (word (codes "#4") ∷ []) ∷ nothing ∷ Done replies.Purged ∷ []) ∷ [])
    ≡ map (λ (n : ℕ). Some (at [] Hira (abbreviation (codes "1x2")) none)) (1 ∷ 2 ∷ 3 ∷ 4 ∷ [])
unfolding encode
answered_otherwise = refl

-- nothing is found by either
none_found : after (at [] Hira (unfinished (codes "9")) none) (Char 32) (nothing ∷ nothing ∷ [])
    ≡ Some (registering_in (at [] Hira plain none) (waits.Reading (reading (codes "9") [])))
unfolding encode
none_found = refl

-- what is learnt is the candidate as it was found under the number key, and what is inserted the filled text
abbrev year : FrameState
year = shown_for (reading (codes "9年") [])
    (record { key = plain_key (codes "#年"); cand = word (codes "#1年"); text = codes "９年" } ∷ [])

learns_forms : asked (pressed rules (at [] Hira year none) Cj) (lacking ∷ [])
    ≡ Learn 0 (plain_key (codes "#年")) None (word (codes "#1年")) ∷ []
unfolding encode
learns_forms = refl

-- Completions

abbrev readings : List (List ℕ) → Answer
readings texts = Done (replies.Readings texts)

-- a reading that completes another is shown, with all of them kept and the place of it
abbrev completed : List (List ℕ) → ℕ → List ℕ → FrameState
completed texts place text =
    states.Reading (record (reading text []) { completions = Some (record { readings = texts; place = place }) })

-- Tab asks by what is flushed
asks_completions : asked (pressed rules (at [] Kata (states.Reading (reading (codes "あ") (codes "n"))) none) Tab)
    (readings [] ∷ []) ≡ Complete 3 (codes "あん") ∷ []
unfolding encode
asks_completions = refl

-- the first is shown and all are kept; where there are none, where it is refused, and where it is answered otherwise,
-- the reading stays
completions : map (λ answer. after (at (codes "x") Hira (unfinished (codes "あ")) none) Tab (answer ∷ []))
    (readings (codes "あん" ∷ codes "ああ" ∷ []) ∷ readings [] ∷ lacking ∷ Done replies.Purged ∷ [])
    ≡ Some (at (codes "x") Hira (completed (codes "あん" ∷ codes "ああ" ∷ []) 0 (codes "あん")) none)
    ∷ Some (at (codes "x") Hira (unfinished (codes "あ")) (told.Step notices.NoCompletion))
    ∷ Some (at (codes "x") Hira (unfinished (codes "あ")) (told.Refused refusals.Memory))
    ∷ Some (at (codes "x") Hira (unfinished (codes "あ")) none) ∷ []
unfolding encode
completions = refl

-- the next one asks nothing
next_completion : after (at [] Hira (completed (codes "あん" ∷ codes "ああ" ∷ []) 0 (codes "あん")) none) Tab []
    ≡ Some (at [] Hira (completed (codes "あん" ∷ codes "ああ" ∷ []) 1 (codes "ああ")) none)
unfolding encode
next_completion = refl
