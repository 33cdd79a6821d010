-- Registrations, as the definitions compute them.
use Rattle.std.proofs.Common.{◌≡◌, refl, ℕ, zero, suc, false, map, Some, None, List, [], ◌∷◌, ◌++◌, codes}
use lib.Utf8.{encode}
use Rattle.skk_text.specs.declared.key.Key.{Key}
use Rattle.skk_text.specs.declared.key.Key.TheVariants.{Char, Cg, Ret}
use Rattle.skk_text.specs.declared.mode.Mode.{Mode}
use Rattle.skk_text.specs.declared.mode.Mode.TheVariants.{Hira, Kata, Ascii, Wide}
use Rattle.skk_text.specs.Lists.{is_empty}
use Rattle.skk_text.specs.declared.notice.Notice.TheVariants as notices
use Rattle.skk_calls.specs.Rows.{is_word}
use Rattle.skk_calls.specs.declared.answer.Answer.{Answer}
use Rattle.skk_calls.specs.declared.answer.Answer.TheVariants.{Done, Refused}
use Rattle.skk_calls.specs.declared.answer.Refusal.TheVariants as refusals
use Rattle.skk_calls.specs.declared.answer.Reply.TheVariants as replies
use Rattle.skk_calls.specs.declared.call.Call.TheVariants.{Learn}
use Rattle.skk_calls.specs.declared.part.Part.TheVariants.{Nasi, Ari}
use Rattle.skk_calls.specs.Interactions.{asked}
use Rattle.session_machine.specs.declared.frame.OuterFrame.{OuterFrame}
use Rattle.session_machine.specs.declared.frame.FrameState.{FrameState}
use Rattle.session_machine.specs.declared.frame.FrameState.TheVariants as states
use Rattle.session_machine.specs.declared.frame.Waiting.{Waiting}
use Rattle.session_machine.specs.declared.frame.Waiting.TheVariants as waits
use Rattle.session_machine.specs.declared.session_notice.SessionNotice.{SessionNotice}
use Rattle.session_machine.specs.declared.session_notice.SessionNotice.TheVariants as told
use Rattle.session_machine.specs.Pressed.{pressed}
use Rattle.session_machine.specs.Registrations.{ended_in, registered_piece}
use Rattle.session_machine.specs.Meanings.{becomes}
use Rattle.session_machine.specs.Session.{Session, fits_behind}
use Rattle.session_machine.proofs.Examples.{rules, after, at, none, plain, reading, with_begun, cand, conversion}
use Rattle.session_machine.proofs.Examples.{choice, chosen, unfinished}

-- a frame outside, with a text and a mode, which waits
abbrev pub outer : List ℕ → Mode → Waiting → OuterFrame
outer text mode waiting = record { text = text; mode = mode; waiting = waiting; last_choice = None }

-- a session in a registration, with its text, its mode and its state, inside these frames
abbrev pub inside : List OuterFrame → List ℕ → Mode → FrameState → SessionNotice → Session
inside frames text mode state notice = record (at text mode state notice) { outer = frames }

-- a frame that waits for a word of あ, found nowhere
abbrev pub waits_a : OuterFrame
waits_a = outer (codes "x") Kata (waits.Reading (reading (codes "あ") []))

abbrev learned : Answer
learned = Done (replies.Learned (record {
  book = 0;
  key = record { part = Nasi; reading = codes "あ" };
  stamp = 1;
  before = None;
}))

abbrev pub lacking : Answer
lacking = Refused refusals.Memory

-- Opening

-- so many frames outside
abbrev pub nested : ℕ → List OuterFrame
nested zero = []
nested (suc n) = waits_a ∷ nested n

-- eight registrations are open at most: in the eighth none opens, and the reading stays
ninth : after (inside (nested 8) [] Hira (states.Reading (reading (codes "ん") [])) none) (Char 32)
    (Done (replies.Found []) ∷ [])
    ≡ Some (inside (nested 8) [] Hira (states.Reading (reading (codes "ん") [])) told.Depth)
unfolding encode
ninth = refl

-- so do candidates, where the last of them is shown; in the seventh the eighth opens behind all others
ninth_of_candidates : map (λ count. after (inside (nested count) (codes "o") Hira (states.Picking (conversion 1 false))
    none) (Char 32) []) (8 ∷ 7 ∷ [])
    ≡ Some (inside (nested 8) (codes "o") Hira (states.Picking (conversion 1 false)) told.Depth)
    ∷ Some (inside (nested 7 ++ outer (codes "o") Hira (waits.Picking (conversion 1 false)) ∷ []) [] Hira plain none)
    ∷ []
unfolding encode
ninth_of_candidates = refl

-- Cancelling

-- the control-g of the plain state with nothing pending goes back to what waited, its last choice included, in the kana
-- modes; in the two ASCII modes it does nothing
cancels : map (λ mode. after (inside (waits_a ∷ []) (codes "word") mode plain none) Cg [])
    (Hira ∷ Kata ∷ Ascii ∷ Wide ∷ [])
    ≡ Some (at (codes "x") Kata (states.Reading (reading (codes "あ") [])) none)
    ∷ Some (at (codes "x") Kata (states.Reading (reading (codes "あ") [])) none)
    ∷ Some (inside (waits_a ∷ []) (codes "word") Ascii plain none)
    ∷ Some (inside (waits_a ∷ []) (codes "word") Wide plain none) ∷ []
unfolding encode
cancels = refl

-- pending letters are dropped first
drops_pending : after (inside (waits_a ∷ []) [] Hira (states.Plain (codes "n")) none) Cg []
    ≡ Some (inside (waits_a ∷ []) [] Hira plain none)
unfolding encode
drops_pending = refl

-- candidates stand again at their last place
back_at_place : after (inside (outer [] Hira (waits.Picking (conversion 1 false)) ∷ []) [] Hira plain none) Cg []
    ≡ Some (at [] Hira (states.Picking (conversion 1 false)) none)
unfolding encode
back_at_place = refl

-- without a word a return cancels
empty_word : after (inside (waits_a ∷ []) [] Hira plain none) Ret []
    ≡ Some (at (codes "x") Kata (states.Reading (reading (codes "あ") [])) none)
unfolding encode
empty_word = refl

-- a frame that waits for a word of ん, and was given 亜 before
abbrev waits_chosen : OuterFrame
waits_chosen = record (outer (codes "x亜") Kata (waits.Reading (reading (codes "ん") []))) {
  last_choice = Some (choice 1 4 Kata 0 None);
}

-- what was chosen last outside stays there where a registration is cancelled, by a control-g or without a word,
-- whatever was chosen inside; and it is given up where a word is inserted
last_choices : (map (λ (l : List ℕ × Key). after (inside (waits_chosen ∷ []) l.0 Hira plain none) l.1 [])
    ((codes "word", Cg) ∷ ([], Ret) ∷ [])
    ≡ Some (chosen (codes "x亜") Kata (unfinished (codes "ん")) none (choice 1 4 Kata 0 None))
    ∷ Some (chosen (codes "x亜") Kata (unfinished (codes "ん")) none (choice 1 4 Kata 0 None)) ∷ [])
    × (after (record (chosen (codes "阿") Hira plain none (choice 1 3 Hira 1 None)) { outer = waits_chosen ∷ [] }) Cg []
    ≡ Some (chosen (codes "x亜") Kata (unfinished (codes "ん")) none (choice 1 4 Kata 0 None)))
    × (after (inside (waits_chosen ∷ []) (codes "阿") Hira plain none) Ret (learned ∷ [])
    ≡ Some (at (codes "x亜阿") Kata plain none))
unfolding encode
last_choices = (refl, refl, refl)

-- of two registrations the inner one is cancelled, and what stands outside both stays there
cancels_one : map (λ (l : List ℕ × Key). after (inside (waits_a ∷ waits_chosen ∷ []) l.0 Hira plain none) l.1 [])
    ((codes "word", Cg) ∷ ([], Ret) ∷ [])
    ≡ Some (record (chosen (codes "x亜") Kata (unfinished (codes "ん")) none (choice 1 4 Kata 0 None)) {
      outer = waits_a ∷ [];
    })
    ∷ Some (record (chosen (codes "x亜") Kata (unfinished (codes "ん")) none (choice 1 4 Kata 0 None)) {
      outer = waits_a ∷ [];
    }) ∷ []
unfolding encode
cancels_one = refl

-- Ending

-- the text is learnt for the reading, without a note, and inserted outside, also where it could not be learnt
learns_word : asked (pressed rules (inside (waits_a ∷ []) (codes "亜") Ascii plain none) Ret) (learned ∷ [])
    ≡ Learn 0 (record { part = Nasi; reading = codes "あ" }) None (cand (codes "亜") []) ∷ []
unfolding encode
learns_word = refl

inserts_word : map (λ answer. after (inside (waits_a ∷ []) (codes "亜") Hira plain none) Ret (answer ∷ []))
    (learned ∷ lacking ∷ [])
    ≡ Some (at (codes "x亜") Kata plain none) ∷ Some (at (codes "x亜") Kata plain (told.Refused refusals.Memory)) ∷ []
unfolding encode
inserts_word = refl

-- what is pending belongs to the word
flushes_word : asked (pressed rules (inside (waits_a ∷ []) (codes "亜") Hira (states.Plain (codes "n")) none) Ret)
    (learned ∷ [])
    ≡ Learn 0 (record { part = Nasi; reading = codes "あ" }) None (cand (codes "亜ん") []) ∷ []
unfolding encode
flushes_word = refl

-- a word that is too long is not learnt, and the registration stays
too_long : (word : List ℕ) → is_empty word ≡ false → is_word word ≡ false
    → ended_in (inside (waits_a ∷ []) word Ascii plain none) waits_a
    ≡ becomes (inside (waits_a ∷ []) word Ascii plain (told.Step notices.Limit))
too_long word some long = rw (some, long) refl

-- a word that does not fit outside with its okurigana is not learnt, and the registration stays
no_room_outside : (text : List ℕ) → fits_behind text (codes "亜シ") ≡ false
    → pressed rules (inside (outer text Kata (waits.Reading (with_begun (codes "あ") 115 (codes "し"))) ∷ [])
    (codes "亜") Hira plain none) Ret
    ≡ becomes (inside (outer text Kata (waits.Reading (with_begun (codes "あ") 115 (codes "し"))) ∷ [])
    (codes "亜") Hira plain (told.Step notices.Limit))
unfolding encode
no_room_outside text full = rw full refl

-- a registration opens inside another, behind the frames that stand outside already
opens_inside : after (inside (waits_a ∷ []) (codes "o") Hira (states.Reading (reading (codes "ん") [])) none) (Char 32)
    (Done (replies.Found []) ∷ [])
    ≡ Some (inside (waits_a ∷ outer (codes "o") Hira (waits.Reading (reading (codes "ん") [])) ∷ []) [] Hira plain none)
unfolding encode
opens_inside = refl

-- in a registration inside another the word goes into the outer word
into_outer_word : after (inside (waits_a ∷ outer (codes "o") Hira (waits.Reading (reading (codes "ん") [])) ∷ [])
    (codes "亜") Hira plain none) Ret (learned ∷ [])
    ≡ Some (inside (waits_a ∷ []) (codes "o亜") Hira plain none)
unfolding encode
into_outer_word = refl

-- a word of a reading with numbers is learnt under the number key as it was typed, and inserted filled; what would be
-- looked up stays in digits
numbers : (asked (pressed rules
    (inside (outer [] Hira (waits.Reading (reading (codes "9年") [])) ∷ []) (codes "#1年#4") Hira plain none) Ret)
    (learned ∷ []) ≡ Learn 0 (record { part = Nasi; reading = codes "#年" }) None (cand (codes "#1年#4") []) ∷ [])
    × (registered_piece Hira (reading (codes "9年") []) (codes "#1年") ≡ codes "９年")
    × (registered_piece Hira (reading (codes "9年") []) (codes "#4年") ≡ codes "9年")
    × (registered_piece Hira (reading (codes "あ") []) (codes "#1年") ≡ codes "#1年")
unfolding encode
numbers = (refl, refl, refl, refl)

-- the okurigana is learnt with the word, and inserted behind it in the kana of the mode outside
okurigana : (asked (pressed rules (inside (outer [] Kata (waits.Reading (with_begun (codes "あ") 115 (codes "し"))) ∷ [])
    (codes "亜") Hira plain none) Ret) (learned ∷ [])
    ≡ Learn 0 (record { part = Ari; reading = codes "あs" }) (Some (codes "し")) (cand (codes "亜") []) ∷ [])
    × (registered_piece Kata (with_begun (codes "あ") 115 (codes "し")) (codes "亜") ≡ codes "亜シ")
unfolding encode
okurigana = (refl, refl)

-- a candidate in a registration is chosen by a return, and the registration ends with it: two are learnt
chosen_and_ended : asked (pressed rules
    (inside (waits_a ∷ []) (codes "o") Hira (states.Picking (conversion 0 false)) none) Ret) (lacking ∷ learned ∷ [])
    ≡ Learn 0 (record { part = Nasi; reading = codes "あ" }) None (cand (codes "亜") [])
    ∷ Learn 0 (record { part = Nasi; reading = codes "あ" }) None (cand (codes "o亜") []) ∷ []
unfolding encode
chosen_and_ended = refl

-- what the first told stands where the second tells nothing
first_told : after (inside (waits_a ∷ []) (codes "o") Hira (states.Picking (conversion 0 false)) none) Ret
    (lacking ∷ learned ∷ [])
    ≡ Some (at (codes "xo亜") Kata plain (told.Refused refusals.Memory))
unfolding encode
first_told = refl

-- of two that tell something the second is told
later_told : map
    (λ answers. after (inside (waits_a ∷ []) (codes "o") Hira (states.Picking (conversion 0 false)) none) Ret answers)
    ((lacking ∷ Refused refusals.Disk ∷ []) ∷ (Refused refusals.Disk ∷ lacking ∷ [])
    ∷ (lacking ∷ Done replies.StampsEnd ∷ []) ∷ (Done (replies.TooBig 9) ∷ Refused refusals.Disk ∷ []) ∷ [])
    ≡ Some (at (codes "xo亜") Kata plain (told.Refused refusals.Disk))
    ∷ Some (at (codes "xo亜") Kata plain (told.Refused refusals.Memory))
    ∷ Some (at (codes "xo亜") Kata plain told.StampsEnd)
    ∷ Some (at (codes "xo亜") Kata plain (told.Refused refusals.Disk)) ∷ []
unfolding encode
later_told = refl
