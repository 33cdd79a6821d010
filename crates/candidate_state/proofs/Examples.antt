-- The definitions at small lists of candidates, each worked out by hand.
use Rattle.std.proofs.Common.{◌≡◌, ◌+◌, ℕ, zero, suc, Bool, true, false, Some, None, List, [], ◌∷◌, codes, map, refl}
use Rattle.skk_calls.specs.declared.part.Part.TheVariants.{Nasi}
use Rattle.skk_calls.specs.Rows.{RowKey, Cand}
use Rattle.skk_text.specs.Characters.{code}
use Rattle.skk_text.specs.declared.key.Key.{Key}
use Rattle.skk_text.specs.declared.key.Key.TheVariants.{Char, Cj, Cg, Bs, Ret, Tab, Undo}
use Rattle.skk_text.specs.declared.notice.Notice.TheVariants.{Empty, NoCandidate}
use Rattle.candidate_state.specs.declared.cands_do.AfterChoose.TheVariants.{Nothing, Delete, Newline, OpenSuffix, Read}
use Rattle.candidate_state.specs.declared.cands_do.CandsDo.{CandsDo}
use Rattle.candidate_state.specs.declared.cands_do.CandsDo.TheVariants.{Stay, Back, Register, Purge, Choose}
use Rattle.candidate_state.specs.Picking.{Picking, PickingStep, is_single, begins_view, is_picking, new_picking}
use Rattle.candidate_state.specs.Picking.{annotated, place_named, says_yes, picking_step}
use Rattle.candidate_state.specs.declared.shown.Found.{Found}
use Rattle.candidate_state.specs.declared.shown.ShownCands.TheVariants.{Numbered}
use Rattle.candidate_state.specs.Shown.{Shown, shown_word, first_shown, shown_plain, shown_numbers, shown_cands}
use Rattle.candidate_state.specs.Shown.{changed_at, renewed, with_cand}

-- Candidates that are shown

-- a key, a candidate of a word and a note, and the candidate as it is shown with a text
abbrev kanji : RowKey
kanji = record { part = Nasi; reading = codes "かんじ" }

abbrev cand : List ℕ → List ℕ → Cand
cand word note = record { word = word; note = note }

abbrev shown_as : List ℕ → List ℕ → List ℕ → Shown
shown_as word note text = record { key = kanji; cand = cand word note; text = text }

-- a candidate is shown with its word, and without its note
word_shown : shown_word kanji (cand (codes "幹事") (codes "宴会の")) ≡ shown_as (codes "幹事") (codes "宴会の") (codes "幹事")
word_shown = refl

-- the first of equal texts is kept, whatever the words are
first_kept : first_shown (shown_as (codes "#0") [] (codes "1") ∷ shown_as (codes "#1") [] (codes "１")
    ∷ shown_as (codes "1") [] (codes "1") ∷ [])
    ≡ shown_as (codes "#0") [] (codes "1") ∷ shown_as (codes "#1") [] (codes "１") ∷ []
first_kept = refl

-- what was found of a key
abbrev found : List ℕ → List Cand → Found
found reading cands = record { key = record { part = Nasi; reading = reading }; cands = cands }

-- of two candidates with one word the first is shown, with its note
plain_shown : shown_plain (found (codes "かんじ")
    (cand (codes "漢字") [] ∷ cand (codes "幹事") (codes "宴会の") ∷ cand (codes "漢字") (codes "x") ∷ []))
    ≡ shown_as (codes "漢字") [] (codes "漢字") ∷ shown_as (codes "幹事") (codes "宴会の") (codes "幹事") ∷ []
plain_shown = refl

none_shown : shown_plain (found (codes "かんじ") []) ≡ []
none_shown = refl

-- candidates of the reading are shown with their words, and those of its number key filled; of equal texts the first is
-- shown, as it was found
numbers_shown :
    map {B = List ℕ × List ℕ × List ℕ} (λ (s : Shown). (s.key.reading, s.cand.word, s.text)) (shown_numbers
    (record {
      plain = found (codes "2回") (cand (codes "#0") [] ∷ cand (codes "二") (codes "n") ∷ []);
      numbered = found (codes "#回") (cand (codes "#0") [] ∷ cand (codes "#2") [] ∷ cand (codes "#4") []
          ∷ cand (codes "#1") (codes "m") ∷ cand (codes "2") [] ∷ []);
    })
    (codes "2" ∷ []) (codes "ふたつ" ∷ []))
    ≡ (codes "2回", codes "#0", codes "#0") ∷ (codes "2回", codes "二", codes "二")
    ∷ (codes "#回", codes "#0", codes "2") ∷ (codes "#回", codes "#4", codes "ふたつ")
    ∷ (codes "#回", codes "#1", codes "２") ∷ []
numbers_shown = refl

-- each candidate of a list has the key that it was found under
list_shown : map {B = List ℕ × List ℕ} (λ (s : Shown). (s.key.reading, s.text)) (shown_cands (Numbered (record {
  key = record { part = Nasi; reading = codes "a" };
  number_key = record { part = Nasi; reading = codes "b" };
  cands = record { cand = cand (codes "x") []; text = codes "x"; is_numbered = false }
      ∷ record { cand = cand (codes "#0") []; text = codes "1"; is_numbered = true } ∷ [];
}))) ≡ (codes "a", codes "x") ∷ (codes "b", codes "1") ∷ []
list_shown = refl

-- New notes

-- a list with its second item changed, with its first, and with none behind its end
changes : map (λ place. changed_at (λ n. n + 10) (1 ∷ 2 ∷ 3 ∷ []) place) (1 ∷ 0 ∷ 3 ∷ [])
    ≡ (1 ∷ 12 ∷ 3 ∷ []) ∷ (11 ∷ 2 ∷ 3 ∷ []) ∷ (1 ∷ 2 ∷ 3 ∷ []) ∷ []
changes = refl

-- a candidate of the same word takes the place, with its note, and one of another word does not
renewals : map (λ put. renewed put (cand (codes "漢字") (codes "x")))
    (cand (codes "漢字") (codes "*よい") ∷ cand (codes "漢字") [] ∷ cand (codes "幹事") (codes "*よい") ∷ [])
    ≡ cand (codes "漢字") (codes "*よい") ∷ cand (codes "漢字") [] ∷ cand (codes "漢字") (codes "x") ∷ []
renewals = refl

-- the candidate of a number key keeps the text that it is shown as, and all others are as they were
notes_put : map (λ place. with_cand (shown_as (codes "#0") [] (codes "1") ∷ shown_as (codes "#1") [] (codes "１") ∷ [])
    place (cand (codes "#1") (codes "*全角"))) (1 ∷ 0 ∷ [])
    ≡ (shown_as (codes "#0") [] (codes "1") ∷ shown_as (codes "#1") (codes "*全角") (codes "１") ∷ [])
    ∷ (shown_as (codes "#0") [] (codes "1") ∷ shown_as (codes "#1") [] (codes "１") ∷ []) ∷ []
notes_put = refl

-- Pickings

-- so many candidates, whose words are the characters from one on
abbrev some_from : ℕ → ℕ → List Shown
some_from c zero = []
some_from c (suc count) = shown_as (c ∷ []) [] (c ∷ []) ∷ some_from (c + 1) count

-- so many candidates with a place, and with a question
abbrev at : ℕ → ℕ → Picking
at count place = record { shown = some_from (code "A") count; place = place; question = false }

abbrev asking_at : ℕ → ℕ → Picking
asking_at count place = record { shown = some_from (code "A") count; place = place; question = true }

single_places : map is_single (0 ∷ 3 ∷ 4 ∷ 11 ∷ []) ≡ true ∷ true ∷ false ∷ false ∷ []
single_places = refl

-- each single place, the first three pages, and the places beside
view_places : map begins_view (0 ∷ 1 ∷ 2 ∷ 3 ∷ 4 ∷ 5 ∷ 6 ∷ 9 ∷ 10 ∷ 11 ∷ 12 ∷ 17 ∷ 18 ∷ 19 ∷ [])
    ≡ true ∷ true ∷ true ∷ true ∷ true ∷ false ∷ false ∷ false ∷ false ∷ true ∷ false ∷ false ∷ true ∷ false ∷ []
view_places = refl

-- places among the candidates and behind them, inside a page, and questions at a single candidate and on a page
pickings : map is_picking
    (at 0 0 ∷ at 1 0 ∷ at 1 1 ∷ at 4 3 ∷ at 4 4 ∷ at 5 4 ∷ at 12 5 ∷ at 11 11 ∷ at 12 11
    ∷ asking_at 1 0 ∷ asking_at 4 3 ∷ asking_at 5 4 ∷ asking_at 12 11 ∷ [])
    ≡ false ∷ true ∷ false ∷ true ∷ false ∷ true ∷ false ∷ false ∷ true ∷ true ∷ true ∷ false ∷ false ∷ []
pickings = refl

first_picked : new_picking (some_from (code "A") 5) ≡ at 5 0
first_picked = refl

-- the candidate that is picked gets a note, and the place and the question stay
abbrev noted : List Shown
noted =
    shown_as (codes "A") [] (codes "A") ∷ shown_as (codes "B") (codes "*n") (codes "B")
    ∷ shown_as (codes "C") [] (codes "C") ∷ []

picked_noted : map (λ picking. annotated picking (cand (codes "B") (codes "*n"))) (at 3 1 ∷ asking_at 3 1 ∷ at 3 2 ∷ [])
    ≡ record (at 3 1) { shown = noted } ∷ record (asking_at 3 1) { shown = noted } ∷ at 3 2 ∷ []
picked_noted = refl

-- Keys

-- what a step comes to: the place, whether there is a question, and what is done
abbrev outcome : PickingStep → ℕ × Bool × CandsDo
outcome step = (step.picking.place, step.picking.question, step.done)

-- keys of pickings do what a table says
abbrev Presses : List (Picking × Key × (ℕ × Bool × CandsDo)) → Type 0
Presses table = map (λ line. outcome (picking_step line.0 line.1)) table ≡ map (λ line. line.2) table

-- a step leaves the candidates as they are
whole_step : picking_step (at 5 3) (Char (code " ")) ≡ record { picking = at 5 4; done = Stay Empty }
whole_step = refl

-- the keys where a single candidate is shown
single_keys : Presses (
    (at 1 0, Char (code " "), (0, false, Register)) ∷ (at 4 0, Char (code " "), (1, false, Stay Empty))
    ∷ (at 4 2, Char (code " "), (3, false, Stay Empty))
    ∷ (at 4 3, Char (code " "), (3, false, Register)) ∷ (at 5 3, Char (code " "), (4, false, Stay Empty))
    ∷ (at 11 3, Char (code " "), (4, false, Stay Empty))
    ∷ (at 1 0, Char (code "x"), (0, false, Back)) ∷ (at 4 1, Char (code "x"), (0, false, Stay Empty))
    ∷ (at 5 3, Char (code "x"), (2, false, Stay Empty))
    ∷ (at 1 0, Char (code "X"), (0, true, Stay Empty)) ∷ (at 12 3, Char (code "X"), (3, true, Stay Empty))
    ∷ (at 4 2, Char (code ">"), (2, false, Choose 2 OpenSuffix))
    ∷ (at 4 1, Cj, (1, false, Choose 1 Nothing)) ∷ (at 4 1, Cg, (1, false, Back))
    ∷ (at 4 1, Bs, (1, false, Choose 1 Delete))
    ∷ (at 4 1, Ret, (1, false, Choose 1 Newline)) ∷ (at 4 1, Tab, (1, false, Stay Empty))
    ∷ (at 4 1, Undo, (1, false, Stay Empty)) ∷ [])
single_keys = refl

-- every other character is read behind the candidate that it chooses
read_keys : map (λ c. outcome (picking_step (at 12 2) (Char c))) (codes "!asl=?WYwyz~")
    ≡ map (λ c. (2, false, Choose 2 (Read (Char c)))) (codes "!asl=?WYwyz~")
read_keys = refl

-- the seven letters of a page, and characters beside them
letters : map place_named (codes "asdfjkl") ≡ Some 0 ∷ Some 1 ∷ Some 2 ∷ Some 3 ∷ Some 4 ∷ Some 5 ∷ Some 6 ∷ []
letters = refl

no_letters : map place_named (codes " ;ASLXbceghimrtxy") ≡ map (λ c. None) (codes " ;ASLXbceghimrtxy")
no_letters = refl

-- the keys on a page: the first and the last candidate of it, and letters of none
page_letters : Presses (
    (at 5 4, Char (code "a"), (4, false, Choose 4 Nothing)) ∷ (at 5 4, Char (code "s"), (4, false, Stay NoCandidate))
    ∷ (at 5 4, Char (code "l"), (4, false, Stay NoCandidate))
    ∷ (at 11 4, Char (code "l"), (4, false, Choose 10 Nothing)) ∷ (
      at 10 4,
      Char (code "l"),
      (4, false, Stay NoCandidate),
    ) ∷ (at 10 4, Char (code "k"), (4, false, Choose 9 Nothing))
    ∷ (at 12 4, Char (code "l"), (4, false, Choose 10 Nothing)) ∷ (
      at 12 11,
      Char (code "a"),
      (11, false, Choose 11 Nothing),
    ) ∷ (at 12 11, Char (code "s"), (11, false, Stay NoCandidate))
    ∷ [])
page_letters = refl

-- on from a page and back: to the next one where it has a candidate, and to the one before or the last single candidate
page_turns : Presses (
    (at 5 4, Char (code " "), (4, false, Register)) ∷ (at 11 4, Char (code " "), (4, false, Register))
    ∷ (at 12 4, Char (code " "), (11, false, Stay Empty))
    ∷ (at 12 11, Char (code " "), (11, false, Register)) ∷ (at 18 11, Char (code " "), (11, false, Register))
    ∷ (at 19 11, Char (code " "), (18, false, Stay Empty))
    ∷ (at 5 4, Char (code "x"), (3, false, Stay Empty)) ∷ (at 12 11, Char (code "x"), (4, false, Stay Empty))
    ∷ (at 19 18, Char (code "x"), (11, false, Stay Empty))
    ∷ (at 5 4, Bs, (3, false, Stay Empty)) ∷ (at 12 11, Bs, (4, false, Stay Empty))
    ∷ (at 19 18, Bs, (11, false, Stay Empty)) ∷ (at 12 11, Cg, (11, false, Back))
    ∷ [])
page_turns = refl

-- every other key does nothing on a page
page_others :
    map (λ key. outcome (picking_step (at 12 4) key)) (Cj ∷ Ret ∷ Tab ∷ Undo ∷ map Char (codes "!;>ASLXYbghmwyz"))
    ≡ map (λ key. (4, false, Stay Empty)) (Cj ∷ Ret ∷ Tab ∷ Undo ∷ map Char (codes "!;>ASLXYbghmwyz"))
page_others = refl

-- `y` and `Y` say yes, and every other key only ends the question
yes : map says_yes (Char (code "y") ∷ Char (code "Y") ∷ Char (code "x") ∷ Char (code "z") ∷ Char (code "X")
    ∷ Char (code "Z") ∷ Ret ∷ []) ≡ true ∷ true ∷ false ∷ false ∷ false ∷ false ∷ false ∷ []
yes = refl

question_yes : map (λ key. outcome (picking_step (asking_at 4 2) key)) (map Char (codes "yY"))
    ≡ (2, false, Purge) ∷ (2, false, Purge) ∷ []
question_yes = refl

question_no :
    map (λ key. outcome (picking_step (asking_at 4 2) key))
    (Cj ∷ Cg ∷ Bs ∷ Ret ∷ Tab ∷ Undo ∷ map Char (codes " >XZanxz"))
    ≡ map (λ key. (2, false, Stay Empty)) (Cj ∷ Cg ∷ Bs ∷ Ret ∷ Tab ∷ Undo ∷ map Char (codes " >XZanxz"))
question_no = refl
